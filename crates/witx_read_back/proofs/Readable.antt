-- Texts that can be read where they are printed: names, names in quotes, documentation.
use Rattle.std.specs.Prelude.{◌≢◌, ℕ, IsTrue, List, [], ◌∷◌}
use Rattle.std.specs.List.{list_all}
use Rattle.std.specs.Str.{IsUtf8}
use Rattle.witx_lex.specs.Characters.{is_name_character, is_raw, dollar}
use Rattle.witx_read_back.specs.DocumentTexts.{Claims}
use Rattle.witx_read_back.specs.Plain.{no_marks}

-- a text that is one run of name characters
abbrev pub IsRun : List ℕ → Type 0
IsRun s = (s ≢ []) × IsTrue (list_all is_name_character s) × (s ≢ dollar ∷ [])

abbrev pub IsIdentifier : List ℕ → Type 0
IsIdentifier n = IsRun (dollar ∷ n)

abbrev pub IsQuotable : List ℕ → Type 0
IsQuotable s = IsTrue (list_all is_raw s) × IsUtf8 s

abbrev pub IsComment : List ℕ → Type 0
IsComment d = IsTrue (no_marks d)

abbrev pub readable : Claims
readable = record { name = IsIdentifier; quoted = IsQuotable; docs = IsComment }
