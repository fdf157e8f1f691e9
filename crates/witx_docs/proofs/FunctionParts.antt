-- The parts of a function: one more, all four sorts one behind the other, and the colon before them.
use Rattle.std.specs.Prelude.{◌≡◌, ℕ, ◌+◌, ◌≤◌, ◌<◌, ◌==◌, List, [], ◌∷◌, ◌++◌, Bool, true, false, ◌&&◌, length, drop, map, codes}
use Rattle.std.specs.List.{flat_map, list_all}
use Rattle.std.proofs.Common.{arith, get_or, refl, ap, sym, ◌∙◌, append_assoc, append-nil}
use Rattle.std.proofs.lemmas.List.{drop_more, drop_all, map-append}
use Rattle.std.proofs.lemmas.List.Concat.{flat_map-append}
use Rattle.witx_base.proofs.Cuts.{suc-full}
use Rattle.witx_base.specs.SameBytes.{same_bytes, false-true}
use Rattle.witx_compat.specs.declared.conversion.ParamPolyfill.{ParamPolyfill}
use Rattle.witx_compat.specs.declared.conversion.ParamUnknown.{ParamUnknown}
use Rattle.witx_compat.specs.Conversions.{is_compatible}
use Rattle.witx_compat.specs.Polyfills.{MappedFunction, is_fully_compatible}
use Rattle.witx_compat.specs.Views.{mapped_view, unknown_view, unknown_param}
use Rattle.witx_docs.proofs.Lines.{behind}
use Rattle.witx_docs.specs.PolyfillTexts.{full_line, mapped_function_parts, function_text, renamed, mapped_part, unknown_part, unknown_name, part_line, parts_text}
use Rattle.witx_docs.specs.Pieces.{behind_colon, has_compatible_parts}

-- the lines of parts that are left
abbrev pub mapped_lines : List ℕ → List ParamPolyfill → List ℕ
mapped_lines word xs = flat_map part_line (map (mapped_part word) (map mapped_view xs))

abbrev pub unknown_lines : List ℕ → List ParamUnknown → List ℕ
unknown_lines word xs = flat_map part_line (map (unknown_part word) (map unknown_view xs))

-- one more of some values, and no more
abbrev NextPart : (A : Type 0) {B : Type 0} → (B → List ℕ) → (A → B) → Type 0
NextPart A part view = (xs : List A) (i : ℕ) (x : A) (before whole : List ℕ) → i < length xs → x ≡ get_or xs i x
    → before ++ flat_map part_line (map part (map view (drop i xs))) ≡ whole
    → (before ++ part_line (part (view x))) ++ flat_map part_line (map part (map view (drop (i + 1) xs))) ≡ whole

next-part : {A B : Type 0} (part : B → List ℕ) (view : A → B) → NextPart A part view
next-part part view xs i x before whole l p e =
    let left = flat_map part_line (map part (map view (drop (i + 1) xs))) in
    let here : flat_map part_line (map part (map view (drop i xs))) ≡ part_line (part (view x)) ++ left =
    ap (λ ys. flat_map part_line (map part (map view ys))) (drop_more xs i x l ∙ ap (λ y. y ∷ drop (i + 1) xs) (sym p)) in
    append_assoc before (part_line (part (view x))) left ∙ ap (λ r. before ++ r) (sym here) ∙ e

abbrev NoPart : (A : Type 0) {B : Type 0} → (B → List ℕ) → (A → B) → Type 0
NoPart A part view = (xs : List A) (i : ℕ) (before whole : List ℕ) → length xs ≤ i
    → before ++ flat_map part_line (map part (map view (drop i xs))) ≡ whole → before ≡ whole

no-part : {A B : Type 0} (part : B → List ℕ) (view : A → B) → NoPart A part view
no-part part view xs i before whole l e = sym (append-nil before) ∙ (rw (drop_all i xs l) at e)

pub next-mapped : (word : List ℕ) → NextPart ParamPolyfill (mapped_part word) mapped_view
next-mapped word = next-part (mapped_part word) mapped_view

pub no-mapped : (word : List ℕ) → NoPart ParamPolyfill (mapped_part word) mapped_view
no-mapped word = no-part (mapped_part word) mapped_view

and-assoc : (a b c : Bool) → ((a && b) && c) ≡ (a && (b && c))
and-assoc true b c = refl
and-assoc false b c = refl

and-true : (a : Bool) → (a && true) ≡ a
and-true true = refl
and-true false = refl

pub next-compatible : (xs : List ParamPolyfill) (i : ℕ) (x : ParamPolyfill) (so_far this whole : Bool) → i < length xs → x ≡ get_or xs i x
    → this ≡ is_compatible (mapped_view x)
    → (so_far && list_all is_compatible (map mapped_view (drop i xs))) ≡ whole
    → ((so_far && this) && list_all is_compatible (map mapped_view (drop (i + 1) xs))) ≡ whole
next-compatible xs i x so_far this whole l p t e =
    let here : list_all is_compatible (map mapped_view (drop i xs)) ≡ (this && list_all is_compatible (map mapped_view (drop (i + 1) xs))) =
    ap (λ ys. list_all is_compatible (map mapped_view ys)) (drop_more xs i x l ∙ ap (λ y. y ∷ drop (i + 1) xs) (sym p))
    ∙ ap (λ b. b && list_all is_compatible (map mapped_view (drop (i + 1) xs))) (sym t) in
    and-assoc so_far this (list_all is_compatible (map mapped_view (drop (i + 1) xs))) ∙ ap (λ b. so_far && b) (sym here) ∙ e

pub all-compatible : (xs : List ParamPolyfill) (i : ℕ) (so_far whole : Bool) → length xs ≤ i
    → (so_far && list_all is_compatible (map mapped_view (drop i xs))) ≡ whole → so_far ≡ whole
all-compatible xs i so_far whole l e = sym (and-true so_far) ∙ (rw (drop_all i xs l) at e)

pub ruleset mapped_rules = (next-mapped, no-mapped, next-compatible, all-compatible)

pub next-unknown : (word : List ℕ) → NextPart ParamUnknown (unknown_part word) unknown_view
next-unknown word = next-part (unknown_part word) unknown_view

pub no-unknown : (word : List ℕ) → NoPart ParamUnknown (unknown_part word) unknown_view
no-unknown word = no-part (unknown_part word) unknown_view

-- the name of one that is not mapped
pub name-of-unknown : (u : ParamUnknown) → (unknown_param u).name ≡ unknown_name (unknown_view u)
name-of-unknown (ParamUnknown.Old p) = refl
name-of-unknown (ParamUnknown.New p) = refl

pub ruleset unknown_rules = (next-unknown, no-unknown, name-of-unknown)

-- the four sorts of parts, one behind the other
pub all-parts : (f : MappedFunction) → flat_map part_line (mapped_function_parts f)
    ≡ flat_map part_line (map (mapped_part (codes "param")) f.params) ++ flat_map part_line (map (unknown_part (codes "param")) f.unknown_params)
    ++ flat_map part_line (map (mapped_part (codes "result")) f.results) ++ flat_map part_line (map (unknown_part (codes "result")) f.unknown_results)
all-parts f =
    let params = map (mapped_part (codes "param")) f.params in
    let unknown_params = map (unknown_part (codes "param")) f.unknown_params in
    let results = map (mapped_part (codes "result")) f.results in
    let unknown_results = map (unknown_part (codes "result")) f.unknown_results in
    rw (
      flat_map-append part_line (params ++ unknown_params ++ results) unknown_results,
      flat_map-append part_line (params ++ unknown_params) results,
      flat_map-append part_line params unknown_params,
    ) refl

pub ruleset part_rules = (all-parts)

-- a colon stands before what isn't empty
pub colon-needed : (text : List ℕ) → (length text == 0) ≡ false → behind_colon text ≡ codes ":" ++ text
colon-needed [] e = absurd (false-true (sym e))
colon-needed (byte ∷ bytes) e = refl

pub no-colon : (text : List ℕ) → (length text == 0) ≡ true → behind_colon text ≡ []
no-colon [] e = refl
no-colon (byte ∷ bytes) e = absurd (false-true (sym (suc-full byte bytes) ∙ e))

pub ruleset colon_rules = (colon-needed, no-colon, append-nil)

pub parts-behind-colon : (parts : List (List ℕ)) → behind_colon (flat_map part_line parts) ≡ parts_text parts
parts-behind-colon [] = refl
parts-behind-colon (part ∷ parts) = refl

same-first : (s p u r v : Bool) → (s && (p && u && r && v)) ≡ (s && p && u && r && v)
same-first true p u r v = refl
same-first false p u r v = refl

is-full : (f : MappedFunction) → (same_bytes f.new.name f.old.name && has_compatible_parts f) ≡ is_fully_compatible f
is-full f =
    same-first (same_bytes f.new.name f.old.name) (list_all is_compatible f.params) (length f.unknown_params == 0) (list_all is_compatible f.results)
    (length f.unknown_results == 0)

-- the whole text of a function
pub told-in-full : (f : MappedFunction) (before : List ℕ) → (same_bytes f.new.name f.old.name && has_compatible_parts f) ≡ true
    → before ++ full_line f.new.name ≡ before ++ function_text f
told-in-full f before h =
    let told : function_text f ≡ full_line f.new.name = rw (sym (is-full f) ∙ h) refl in
    ap (λ text. before ++ text) (sym told)

pub told-in-parts : (f : MappedFunction) (full compatible : Bool) (before empty parts shown one two after : List ℕ)
    → full ≡ (same_bytes f.new.name f.old.name && compatible) → full ≡ false → compatible ≡ has_compatible_parts f
    → empty ≡ [] → parts ≡ empty ++ flat_map part_line (mapped_function_parts f) → shown ≡ parts
    → one ≡ before ++ codes "* " → two ≡ one ++ renamed f.old.name f.new.name → after ≡ two ++ behind_colon shown
    → after ≡ before ++ function_text f
told-in-parts f full compatible before empty parts shown one two after is_full not_full same_parts none all same p q r =
    let differs : is_fully_compatible f ≡ false =
    sym (is-full f) ∙ ap (λ t. same_bytes f.new.name f.old.name && t) (sym same_parts) ∙ sym is_full ∙ not_full in
    let name = renamed f.old.name f.new.name in
    let told : function_text f ≡ codes "* " ++ renamed f.old.name f.new.name ++ parts_text (mapped_function_parts f) = rw differs refl in
    let lines : shown ≡ flat_map part_line (mapped_function_parts f) = same ∙ all ∙ ap (λ t. t ++ flat_map part_line (mapped_function_parts f)) none in
    let colon : behind_colon shown ≡ parts_text (mapped_function_parts f) = ap behind_colon lines ∙ parts-behind-colon (mapped_function_parts f) in
    behind before (codes "* " ++ name) (parts_text (mapped_function_parts f)) two after
    (behind before (codes "* ") name one two p q) (r ∙ ap (λ t. two ++ t) colon)
    ∙ ap (λ text. before ++ text) (sym told)

pub ruleset function_rules = (parts-behind-colon, told-in-full)
