-- Types of parameters, and values for them, one after the other.
use Rattle.std.specs.Prelude.{◌≡◌, ℕ, suc, ◌+◌, ◌<◌, ◌≤◌, List, [], ◌∷◌, Bool, true, false, cond, Option, Some, None, map, option_map, length, drop, nat_eq}
use Rattle.std.proofs.Common.{refl, ap, sym, ◌∙◌, get_or, subst, arith}
use Rattle.std.specs.Borrow.{Bor}
use Rattle.std.proofs.lemmas.List.{drop_more, drop_all, length-map}
use Rattle.witx_ast.proofs.Decided.{decides-eq}
use Rattle.witx_ast.proofs.EntryLaws.{not-true}
use Rattle.witx_ast.specs.Functions.{param_field}
use Rattle.witx_ast.specs.Plain.{plain}
use Rattle.witx_ast.specs.Tags.{fits, types_fit}
use Rattle.witx_ast.specs.Tree.{Tree}
use Rattle.witx_ast.specs.Values as plain
use Rattle.witx_ast.specs.ValueTests.{is_value}
use Rattle.witx_ast.specs.Views.{tree_of}
use Rattle.witx_ast.specs.declared.function.InterfaceFuncParam.{InterfaceFuncParam}
use Rattle.witx_bytes.specs.Seen.{seen}
use Rattle.witx_bytes.specs.declared.value.Value.{Value}
use Rattle.witx_instructions.specs.Views.{param_types}
use Rattle.witx_machine.specs.Faithful.{are_arguments, is_reply}
use Rattle.witx_conditions.proofs.Lists.{refused, passed, ended}

-- ---- types

abbrev all_fit : List InterfaceFuncParam → Bool
all_fit ps = types_fit (map param_field ps)

abbrev one_fits : InterfaceFuncParam → Bool
one_fits p = fits (plain (tree_of p.tref))

abbrev pub FitFrom : List InterfaceFuncParam → ℕ → Type 0
FitFrom ps i = all_fit (drop i ps) ≡ all_fit ps

pub fit-refused : (ps : List InterfaceFuncParam) (i : ℕ) (p : InterfaceFuncParam) → i < length ps → p ≡ get_or ps i p → FitFrom ps i
    → fits (plain (tree_of p.tref)) ≡ false → types_fit (map param_field ps) ≡ false
fit-refused ps i p l e h k = refused one_fits all_fit (λ x xs. refl) refl ps i p l e h k

pub fit-passed : (ps : List InterfaceFuncParam) (i : ℕ) (p : InterfaceFuncParam) → i < length ps → p ≡ get_or ps i p → FitFrom ps i
    → fits (plain (tree_of p.tref)) ≡ true → FitFrom ps (i + 1)
fit-passed ps i p l e h k = passed one_fits all_fit (λ x xs. refl) refl ps i p l e h k

pub fit-ended : (ps : List InterfaceFuncParam) (i : ℕ) → length ps ≤ i → FitFrom ps i → types_fit (map param_field ps) ≡ true
fit-ended ps i l h = ended one_fits all_fit (λ x xs. refl) refl ps i l h

pub ruleset fit_rules = (fit-refused, fit-passed, fit-ended)

-- ---- values for parameters

abbrev pub ArgumentsFrom : List InterfaceFuncParam → List Value → ℕ → Type 0
ArgumentsFrom ps vs i = are_arguments (param_types (drop i ps)) (map seen (drop i vs)) ≡ are_arguments (param_types ps) (map seen vs)

left : (ps : List InterfaceFuncParam) (vs : List Value) (i : ℕ) (p : InterfaceFuncParam) (v : Value)
    → i < length ps → p ≡ get_or ps i p → i < length vs → v ≡ get_or vs i v
    → are_arguments (param_types (drop i ps)) (map seen (drop i vs))
    ≡ cond (is_value (plain (tree_of p.tref)) (seen v)) (are_arguments (param_types (drop (i + 1) ps)) (map seen (drop (i + 1) vs))) false
left ps vs i p v l e m q =
    (λ j. are_arguments (param_types (from-params j)) (map seen (from-values j)))
  where
    from-params : drop i ps ≡ p ∷ drop (i + 1) ps
    from-params = drop_more ps i p l ∙ ap (λ x. x ∷ drop (i + 1) ps) (sym e)

    from-values : drop i vs ≡ v ∷ drop (i + 1) vs
    from-values = drop_more vs i v m ∙ ap (λ x. x ∷ drop (i + 1) vs) (sym q)

pub argument-refused : (ps : List InterfaceFuncParam) (vs : List Value) (i : ℕ) (p : InterfaceFuncParam) (v : Value)
    → i < length ps → p ≡ get_or ps i p → i < length vs → v ≡ get_or vs i v → ArgumentsFrom ps vs i
    → is_value (plain (tree_of p.tref)) (seen v) ≡ false → are_arguments (param_types ps) (map seen vs) ≡ false
argument-refused ps vs i p v l e m q h k =
    sym h ∙ left ps vs i p v l e m q ∙ ap (λ b. cond b (are_arguments (param_types (drop (i + 1) ps)) (map seen (drop (i + 1) vs))) false) k

pub argument-passed : (ps : List InterfaceFuncParam) (vs : List Value) (i : ℕ) (p : InterfaceFuncParam) (v : Value)
    → i < length ps → p ≡ get_or ps i p → i < length vs → v ≡ get_or vs i v → ArgumentsFrom ps vs i
    → is_value (plain (tree_of p.tref)) (seen v) ≡ true → ArgumentsFrom ps vs (i + 1)
argument-passed ps vs i p v l e m q h k =
    ap (λ b. cond b (are_arguments (param_types (drop (i + 1) ps)) (map seen (drop (i + 1) vs))) false) (sym k) ∙ sym (left ps vs i p v l e m q) ∙ h

pub arguments-ended : (ps : List InterfaceFuncParam) (vs : List Value) (i : ℕ) → length ps ≤ i → length ps ≡ length vs → ArgumentsFrom ps vs i
    → are_arguments (param_types ps) (map seen vs) ≡ true
arguments-ended ps vs i l e h = sym h ∙ (λ j. are_arguments (param_types (drop_all i ps l j)) (map seen (drop_all i vs (subst (λ n. n ≤ i) e l) j)))

other-number : (ts : List Tree) (vs : List plain.Value) → (length ts ≡ length vs → ⊥) → are_arguments ts vs ≡ false
other-number [] [] h = absurd (h refl)
other-number [] (v ∷ vs) h = refl
other-number (t ∷ ts) [] h = refl
other-number (t ∷ ts) (v ∷ vs) h =
    ap (λ r. cond (is_value (plain t) v) r false) (other-number ts vs (λ e. h (ap suc e))) ∙ either (is_value (plain t) v)
  where
    either : (b : Bool) → cond b false false ≡ false
    either true = refl
    either false = refl

pub other-numbers : (ps : List InterfaceFuncParam) (vs : List Value) → (length ps ≡ length vs → ⊥) → are_arguments (param_types ps) (map seen vs) ≡ false
other-numbers ps vs h =
    other-number (param_types ps) (map seen vs) (λ e. h (sym (length-map ps (λ p. tree_of p.tref)) ∙ e ∙ length-map vs seen))

pub ruleset argument_rules = (argument-refused, argument-passed, arguments-ended, other-numbers)

-- ---- a reply

pub reply-of-one : (rs : List InterfaceFuncParam) (r : InterfaceFuncParam) (v : plain.Value) (b : Bool) → length rs ≡ 1 → r ≡ get_or rs 0 r
    → b ≡ is_value (plain (tree_of r.tref)) v → b ≡ is_reply (param_types rs) (Some v)
reply-of-one [] r v b l e k = absurd (omega (arith, l))
reply-of-one (x ∷ []) r v b l e k = k ∙ ap (λ (y : InterfaceFuncParam). is_value (plain (tree_of y.tref)) v) e
reply-of-one (x ∷ y ∷ xs) r v b l e k = absurd (omega (arith, l))

pub reply-of-others : (rs : List InterfaceFuncParam) (v : plain.Value) → (length rs ≡ 1 → ⊥) → is_reply (param_types rs) (Some v) ≡ false
reply-of-others [] v h = refl
reply-of-others (x ∷ []) v h = absurd (h refl)
reply-of-others (x ∷ y ∷ xs) v h = refl

pub reply-of-none : (rs : List InterfaceFuncParam) (b : Bool) (o : Option (Bor Value)) → o ≡ None → b ≡ nat_eq (length rs) 0 → b ≡ is_reply (param_types rs) (option_map (λ x. seen x.now) o)
reply-of-none rs b o e k = k ∙ none rs ∙ ap (λ p. is_reply (param_types rs) (option_map (λ x. seen x.now) p)) (sym e)
  where
    none : (xs : List InterfaceFuncParam) → nat_eq (length xs) 0 ≡ is_reply (param_types xs) None
    none [] = refl
    none (x ∷ []) = refl
    none (x ∷ y ∷ xs) = not-true (nat_eq (length (x ∷ y ∷ xs)) 0) (λ h. absurd (omega (arith, (decides-eq (length (x ∷ y ∷ xs)) 0).0 h)))

pub reply-of-some : (rs : List InterfaceFuncParam) (b : Bool) (o : Option (Bor Value)) (v : Bor Value) → o ≡ Some v
    → b ≡ is_reply (param_types rs) (Some (seen v.now)) → b ≡ is_reply (param_types rs) (option_map (λ x. seen x.now) o)
reply-of-some rs b o v e k = k ∙ ap (λ p. is_reply (param_types rs) (option_map (λ x. seen x.now) p)) (sym e)

pub ruleset reply_rules = (reply-of-one, reply-of-others, reply-of-none, reply-of-some)
