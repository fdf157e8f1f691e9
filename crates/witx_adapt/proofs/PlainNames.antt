-- A name whose bytes are ASCII and stand in quotes as themselves is written as it is.
use Rattle.std.proofs.Common.{◌≡◌, ℕ, ◌<◌, List, [], ◌∷◌, ◌++◌, Bool, true, false, length, ap, refl, ◌∙◌, All, rules}
use Rattle.std.proofs.lemmas.List.Elements.{All-from_all_within, All-head, All-tail, All-weaker}
use Rattle.std.proofs.lemmas.Str.{chars-IsAscii}
use Rattle.std.proofs.lemmas.Str.Ascii.{IsAscii-from_all}
use Rattle.std.specs.Bool.{OnTrue, MatchBool}
use Rattle.std.specs.List.{flat_map, AllWithin}
use Rattle.std.specs.Str.{chars}
use Rattle.witx_adapt.specs.Names.{escaped}

abbrev pub IsPlain : ℕ → Type 0
IsPlain byte = (byte < 128) × (escaped byte ≡ byte ∷ [])

each-itself : (bytes : List ℕ) → All IsPlain bytes → flat_map escaped bytes ≡ bytes
each-itself [] all = refl
each-itself (byte ∷ bytes) all =
    ap (λ front. front ++ flat_map escaped bytes) (All-head IsPlain byte bytes all).1 ∙ ap (λ rest. byte ∷ rest) (each-itself bytes (All-tail IsPlain byte bytes all))

whole : (bytes : List ℕ) → All IsPlain bytes → flat_map escaped (chars bytes) ≡ bytes
whole bytes all =
    ap (flat_map escaped) (chars-IsAscii bytes (IsAscii-from_all bytes (All-weaker IsPlain (λ byte. byte < 128) (λ byte plain. plain.0) bytes all)))
    ∙ each-itself bytes all

pub plain-name : (result : Bool) (Other : Type 0) (bytes : List ℕ) → MatchBool result (AllWithin IsPlain bytes 0 (length bytes)) Other
    → OnTrue result (flat_map escaped (chars bytes) ≡ bytes)
plain-name true Other bytes each = whole bytes (All-from_all_within IsPlain bytes each)
plain-name false Other bytes each = search rules
