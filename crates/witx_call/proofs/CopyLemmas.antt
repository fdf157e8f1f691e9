-- Values once more.
use Rattle.std.proofs.Common.{◌≡◌, ℕ, ◌+◌, ◌<◌, ◌≤◌, sym, ap, ◌∙◌, List, [], ◌∷◌, ◌++◌, map, length, drop, get_or, append-nil, append_assoc, Option, Some, None, option_map}
use Rattle.std.proofs.lemmas.List.{drop_more, drop_all, map-append}
use Rattle.std.specs.declared.alloc.Global.{Global}
use Rattle.std.specs.declared.boxed.Box.{Box}
use Rattle.witx_ast.specs.Values as plain
use Rattle.witx_bytes.specs.Seen.{seen, seen_in}
use Rattle.witx_bytes.specs.declared.value.Value.{Value}
use Rattle.witx_bytes.specs.declared.value.Value.TheVariants as value
use Rattle.witx_bytes.proofs.Seen.{seen-Num, seen-Handle, seen-Pointer, seen-ConstPointer, seen-List, seen-Flags, seen-Tuple, seen-Rec, seen-Enum, seen-Bare, seen-With}

abbrev case_seen : ℕ → Option plain.Value → plain.Value
case_seen i None = plain.bare_case i
case_seen i (Some v) = plain.case_with i v

pub seen-case : (i : ℕ) (p : Option (Box Value Global)) → seen (value.Case i p) ≡ case_seen i (option_map seen_in p)
seen-case i None = seen-Bare i
seen-case i (Some v) = seen-With i v

-- one more of a list that is copied, and the last of it
pub one-more : {A B : Type 0} (f : A → B) (made new xs : List A) (i : ℕ) (x y : A) → i < length xs → x ≡ get_or xs i x → f y ≡ f x → new ≡ made ++ y ∷ [] → map f made ++ map f (drop i xs) ≡ map f xs → map f new ++ map f (drop (i + 1) xs) ≡ map f xs
one-more f made new xs i x y l p q e h =
    ap (λ l. map f l ++ map f (drop (i + 1) xs)) e
    ∙ ap (λ l. l ++ map f (drop (i + 1) xs)) (map-append f made (y ∷ []))
    ∙ append_assoc (map f made) (f y ∷ []) (map f (drop (i + 1) xs))
    ∙ ap (λ z. map f made ++ z ∷ map f (drop (i + 1) xs)) q
    ∙ sym (ap (λ l. map f made ++ map f l) (drop_more xs i x l ∙ ap (λ z. z ∷ drop (i + 1) xs) (sym p))) ∙ h

pub all-made : {A B : Type 0} (f : A → B) (made xs : List A) (i : ℕ) → length xs ≤ i → map f made ++ map f (drop i xs) ≡ map f xs → map f made ≡ map f xs
all-made f made xs i l h = sym (append-nil (map f made)) ∙ sym (ap (λ l. map f made ++ map f l) (drop_all i xs l)) ∙ h

pub ruleset copy_rules = (seen-Num, seen-Handle, seen-Pointer, seen-ConstPointer, seen-List, seen-Flags, seen-Tuple, seen-Rec, seen-Enum, seen-case, one-more, all-made)
