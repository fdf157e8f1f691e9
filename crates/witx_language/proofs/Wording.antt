-- The message of a fault depends on which kinds can stand, and not on their order.
use Rattle.std.proofs.Common.{◌≡◌, Bool, true, false, cond, ◌&&◌, ◌||◌, List, [], ◌∷◌, Option, Some, None, codes, refl, inl, inr, sym, ap, ◌∙◌, subst}
use Rattle.std.specs.List.{list_all, list_any}
use Rattle.std.proofs.lemmas.Bool.{and_from, and_parts, or_left, or_right}
use Rattle.witx_grammar.specs.Grammar.{In}
use Rattle.witx_values.proofs.Truths.{not_both}
use Rattle.witx_language.specs.declared.token_kind.TokenKind.{TokenKind}
use Rattle.witx_language.specs.declared.token_kind.TokenKind.TheVariants.{Integer, BigInteger, End}
use Rattle.witx_language.specs.Messages.{first_kind, alone, only_kind, message_of_only, message_of}
use Rattle.witx_language.specs.TokenKinds.{is_kind}
use Rattle.witx_language.proofs.Apart.{is_exact, same_tests}

or_first : (a b : Bool) → b ≡ false → (a || b) ≡ true → a ≡ true
or_first true b f e = refl
or_first false b f e = absurd (not_both (sym e ∙ f))

some_is : (k t : TokenKind) → Some k ≡ Some t → k ≡ t
some_is k t e = cc

none_is : (k : TokenKind) → None ≡ Some k → ⊥
none_is k e = cc

-- ---- tests over lists

pass_of_all : (p : TokenKind → Bool) (ks : List TokenKind) → list_all p ks ≡ true → (u : TokenKind) → In u ks → p u ≡ true
pass_of_all p [] all u i = absurd i
pass_of_all p (k ∷ ks) all u (inl e) = subst (λ (x : TokenKind). p x ≡ true) (sym e) (and_parts (p k) (list_all p ks) all).0
pass_of_all p (k ∷ ks) all u (inr i) = pass_of_all p ks (and_parts (p k) (list_all p ks) all).1 u i

all_of_passes : (p : TokenKind → Bool) (ks : List TokenKind) → ((u : TokenKind) → In u ks → p u ≡ true) → list_all p ks ≡ true
all_of_passes p [] h = refl
all_of_passes p (k ∷ ks) h = and_from (p k) (list_all p ks) (h k (inl refl)) (all_of_passes p ks (λ u i. h u (inr i)))

any_of_one : (p : TokenKind → Bool) (ks : List TokenKind) (u : TokenKind) → In u ks → p u ≡ true → list_any p ks ≡ true
any_of_one p [] u i e = absurd i
any_of_one p (k ∷ ks) u (inl same) e = or_left (p k) (list_any p ks) (subst (λ (x : TokenKind). p x ≡ true) same e)
any_of_one p (k ∷ ks) u (inr i) e = or_right (p k) (list_any p ks) (any_of_one p ks u i e)

any_step : (p : TokenKind → Bool) (k : TokenKind) (ks ls : List TokenKind) (b : Bool) → p k ≡ b → ((u : TokenKind) → In u (k ∷ ks) → In u ls) → (list_any p ks ≡ true → list_any p ls ≡ true)
    → (b || list_any p ks) ≡ true → list_any p ls ≡ true
any_step p k ks ls true e among more h = any_of_one p ls k (among k (inl refl)) e
any_step p k ks ls false e among more h = more h

any_moves : (p : TokenKind → Bool) (ks ls : List TokenKind) → ((u : TokenKind) → In u ks → In u ls) → list_any p ks ≡ true → list_any p ls ≡ true
any_moves p [] ls among e = absurd (not_both (sym e))
any_moves p (k ∷ ks) ls among e = any_step p k ks ls (p k) refl among (λ h. any_moves p ks ls (λ u i. among u (inr i)) h) e

-- ---- the only kind

-- the kind alone, or the end, can stand
abbrev alone_with : TokenKind → TokenKind → Bool
alone_with k u = is_kind u k || is_kind u End

first_step : (t : TokenKind) (ks : List TokenKind) (k : TokenKind) (b : Bool) → is_kind t End ≡ b → (first_kind ks ≡ Some k → In k ks × (is_kind k End ≡ false))
    → cond b (first_kind ks) (Some t) ≡ Some k → In k (t ∷ ks) × (is_kind k End ≡ false)
first_step t ks k true d more e = let h = more e in (inr h.0, h.1)
first_step t ks k false d more e = (inl (sym (some_is t k e)), subst (λ (x : TokenKind). is_kind x End ≡ false) (some_is t k e) d)

first_there : (ks : List TokenKind) (k : TokenKind) → first_kind ks ≡ Some k → In k ks × (is_kind k End ≡ false)
first_there [] k e = absurd (none_is k e)
first_there (t ∷ ks) k e = first_step t ks k (is_kind t End) refl (λ h. first_there ks k h) e

there_step : (t : TokenKind) (ks : List TokenKind) (k : TokenKind) (b : Bool) → is_kind t End ≡ b → is_kind k End ≡ false → alone_with k t ≡ true → In k (t ∷ ks)
    → (In k ks → first_kind ks ≡ Some k) → cond b (first_kind ks) (Some t) ≡ Some k
there_step t ks k true d other here (inl e) more = absurd (not_both (sym d ∙ ap (λ (x : TokenKind). is_kind x End) (sym e) ∙ other))
there_step t ks k true d other here (inr i) more = more i
there_step t ks k false d other here i more = ap (λ (x : TokenKind). Some x) ((is_exact t k).0 (or_first (is_kind t k) (is_kind t End) d here))

-- where the kind stands, and only the end besides, it is the first
there_first : (ks : List TokenKind) (k : TokenKind) → In k ks → is_kind k End ≡ false → list_all (alone_with k) ks ≡ true → first_kind ks ≡ Some k
there_first [] k i other all = absurd i
there_first (t ∷ ks) k i other all =
    let h = and_parts (alone_with k t) (list_all (alone_with k) ks) all in
    there_step t ks k (is_kind t End) refl other h.0 i (λ j. there_first ks k j other h.1)

alone_some : (b : Bool) (t k : TokenKind) → cond b (Some t) None ≡ Some k → (b ≡ true) × (t ≡ k)
alone_some true t k e = (refl, some_is t k e)
alone_some false t k e = absurd (none_is k e)

only_parts : (ks : List TokenKind) (o : Option TokenKind) (k : TokenKind) → alone ks o ≡ Some k → (o ≡ Some k) × (list_all (alone_with k) ks ≡ true)
only_parts ks None k e = absurd (none_is k e)
only_parts ks (Some t) k e =
    let h = alone_some (list_all (alone_with t) ks) t k e in
    (ap (λ (x : TokenKind). Some x) h.1, subst (λ (x : TokenKind). list_all (alone_with x) ks ≡ true) h.1 h.0)

pub only_is : (ks : List TokenKind) (k : TokenKind) (b : Bool) → Some k ≡ first_kind ks → b ≡ list_all (alone_with k) ks → cond b (Some k) None ≡ only_kind ks
only_is ks k b e all = ap (λ (t : Bool). cond t (Some k) None) all ∙ ap (alone ks) e

only_moves : (ks ls : List TokenKind) (k : TokenKind) → ((u : TokenKind) → In u ks → In u ls) → ((u : TokenKind) → In u ls → In u ks) → only_kind ks ≡ Some k → only_kind ls ≡ Some k
only_moves ks ls k there back e =
    let h = only_parts ks (first_kind ks) k e in
    let first = first_there ks k h.0 in
    let all : list_all (alone_with k) ls ≡ true = all_of_passes (alone_with k) ls (λ u i. pass_of_all (alone_with k) ks h.1 u (back u i)) in
    sym (only_is ls k true (sym (there_first ls k (there k first.0) first.1 all)) (sym all))

same_options : (a b : Option TokenKind) → ((k : TokenKind) → a ≡ Some k → b ≡ Some k) → ((k : TokenKind) → b ≡ Some k → a ≡ Some k) → a ≡ b
same_options None None f g = refl
same_options None (Some k) f g = g k refl
same_options (Some k) b f g = sym (f k refl)

pub same_message : (ks ls : List TokenKind) (here : TokenKind) → ((u : TokenKind) → In u ks → In u ls) → ((u : TokenKind) → In u ls → In u ks) → message_of ks here ≡ message_of ls here
same_message ks ls here there back =
    let is_integer : TokenKind → Bool = λ u. is_kind u Integer in
    ap (λ (b : Bool). cond (is_kind here BigInteger && b) (codes "integer out of range") (message_of_only (only_kind ks)))
    (same_tests (list_any is_integer ks) (list_any is_integer ls) (any_moves is_integer ks ls there) (any_moves is_integer ls ks back))
    ∙ ap (λ (o : Option TokenKind). cond (is_kind here BigInteger && list_any is_integer ls) (codes "integer out of range") (message_of_only o))
    (same_options (only_kind ks) (only_kind ls) (λ k e. only_moves ks ls k there back e) (λ k e. only_moves ls ks k back there e))
