-- Pieces of a polyfill's text, as the private functions write them.
use Rattle.std.specs.Prelude.{ℕ, ◌==◌, ◌&&◌, List, [], ◌∷◌, ◌++◌, Bool, length, if◌then◌else◌, codes}
use Rattle.std.specs.List.{list_all}
use Rattle.witx_compat.specs.declared.answer.RepEquality.{RepEquality}
use Rattle.witx_compat.specs.Answers.{is_same}
use Rattle.witx_compat.specs.Conversions.{Conversion, conversion_answer, Mapped, is_compatible}
use Rattle.witx_compat.specs.Polyfills.{MappedFunction}
use Rattle.witx_docs.specs.PolyfillTexts.{conversion_text, compatible_part, mapped_line}

-- the first line of all stands where the text is; each further one begins below
abbrev pub line_start : Bool → List ℕ
line_start first = if first then [] else codes "\n"

-- the line of a conversion, unless its types are alike
abbrev pub unless_alike : Bool → Conversion → List ℕ
unless_alike first c = if is_same (conversion_answer c) then [] else line_start first ++ conversion_text c

-- a part that is mapped and was compared
abbrev pub compared_part : List ℕ → (compatible : Bool) → RepEquality → Mapped → List ℕ
compared_part word compatible answer m =
    if compatible then compatible_part word m.new.called else word ++ codes " " ++ mapped_line answer m

-- all that is mapped is compatible, and nothing is unknown
abbrev pub has_compatible_parts : MappedFunction → Bool
has_compatible_parts f =
    list_all is_compatible f.params && (length f.unknown_params == 0) && list_all is_compatible f.results && (length f.unknown_results == 0)

-- a colon before what isn't empty
abbrev pub behind_colon : List ℕ → List ℕ
behind_colon [] = []
behind_colon (byte ∷ bytes) = codes ":" ++ (byte ∷ bytes)
