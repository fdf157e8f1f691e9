-- The plans of the two sides, as their loops and chains make them.
use Rattle.std.proofs.Common.{◌≡◌, ◌<◌, ◌≤◌, ◌+◌, ℕ, zero, suc, List, [], ◌∷◌, ◌++◌, append_assoc, append-nil, Bool, true, false, not, ◌&&◌, ◌||◌, cond, Option, Some, None, is_some, is_none, option_map, length, take, drop, get_or, slice_get, length-append, refl, sym, ap, ◌∙◌, subst, T, arith}
use Rattle.std.specs.List.{position, position_from}
use Rattle.std.specs.Borrow.{Bor}
use Rattle.std.specs.declared.alloc.Global.{Global}
use Rattle.std.specs.declared.rc.Rc.{Rc}
use Rattle.std.proofs.lemmas.List.{drop_more, drop_all}
use Rattle.std.proofs.lemmas.Iterator.Adapters.{position_from-zero}
use Rattle.witx_ast.specs.Tree.{Tree, Arms, arm_list}
use Rattle.witx_ast.specs.Plain.{Plain, plain, plain_arms}
use Rattle.witx_ast.specs.Views.{tree_of, named_tree}
use Rattle.witx_ast.specs.Words.{is_named, is_expected}
use Rattle.witx_ast.specs.declared.function.Abi.{Abi}
use Rattle.witx_ast.specs.declared.types.RecordKind.{RecordKind}
use Rattle.witx_ast.specs.declared.types.NamedType.{NamedType}
use Rattle.witx_ast.specs.declared.types.TypeRef.{TypeRef}
use Rattle.witx_ast.specs.declared.function.InterfaceFuncParam.{InterfaceFuncParam}
use Rattle.witx_ast.specs.declared.function.InterfaceFunc.{InterfaceFunc}
use Rattle.witx_machine.specs.declared.surface.Place.{Place}
use Rattle.witx_machine.specs.Events.{Step, Event, emit, space, push, finish}
use Rattle.witx_machine.specs.Functions.{has_payload, ok_of, err_of, result_cases}
use Rattle.witx_machine.specs.Signature.{param_words, words_of_params, words_of_results, ok_pointers, pointers_by, pointers_of}
use Rattle.witx_machine.specs.Lowerable.{can_be_param, can_be_result, can_return, can_be_ok, can_be_err, is_narrow, unlowerable_result, earlier_place, unlowerable}
use Rattle.witx_machine.specs.Traces.{lower_step, lift_step, lower_params, get_args, lift_params, make_spaces, load_all, store_all, lift_cases, lift_by, lift_of, lower_cases, lower_by, lower_of, block_events}
use Rattle.witx_machine.proofs.HeightLaws.{words-count}
use Rattle.witx_machine.proofs.Orders.{some_same}
use Rattle.witx_instructions.specs.Views.{called, param_types, pointer_types, is_list_type}
use Rattle.witx_instructions.proofs.Signatures.{types-drop, types-end}

-- chains
pub block-chain : (es l : List Event) (v : Bool) → ((es ++ push ∷ []) ++ l) ++ finish v ∷ [] ≡ es ++ block_events l v
block-chain es l v = append_assoc (es ++ push ∷ []) l (finish v ∷ []) ∙ append_assoc es (push ∷ []) (l ++ finish v ∷ [])

pub cases-chain : (es a b : List Event) (x : Event) → ((es ++ a) ++ b) ++ x ∷ [] ≡ es ++ (a ++ (b ++ x ∷ []))
cases-chain es a b x = append_assoc (es ++ a) b (x ∷ []) ∙ append_assoc es a (b ++ x ∷ [])

pub two-chain : (es : List Event) (x y : Event) → (es ++ x ∷ []) ++ y ∷ [] ≡ es ++ x ∷ y ∷ []
two-chain es x y = append_assoc es (x ∷ []) (y ∷ [])

pub pair-chain : (es a b : List Event) → (es ++ a) ++ b ≡ es ++ (a ++ b)
pair-chain es a b = append_assoc es a b

pub payload-chain : (es a b : List Event) (x : Event) → ((es ++ x ∷ []) ++ a) ++ b ≡ es ++ x ∷ (a ++ b)
payload-chain es a b x = append_assoc (es ++ x ∷ []) a b ∙ append_assoc es (x ∷ []) (a ++ b)

pub some-map : (o : Option (Bor TypeRef)) → is_some (option_map (λ t. tree_of t.now) o) ≡ is_some o
some-map None = refl
some-map (Some t) = refl

-- parameters
pub lower-params-step : (es : List Event) (ps : List InterfaceFuncParam) (i : ℕ) (p : InterfaceFuncParam) → i < length ps → p ≡ get_or ps i p
    → es ++ lower_params i (param_types (drop i ps)) ≡ ((es ++ emit (Step.GetArg i) ∷ []) ++ emit (lower_step (tree_of p.tref)) ∷ []) ++ lower_params (i + 1) (param_types (drop (i + 1) ps))
lower-params-step es ps i p l e = ap (λ ts. es ++ lower_params i ts) (types-drop ps i p l e) ∙ sym (append_assoc (es ++ emit (Step.GetArg i) ∷ []) (emit (lower_step (tree_of p.tref)) ∷ []) (lower_params (i + 1) (param_types (drop (i + 1) ps))) ∙ append_assoc es (emit (Step.GetArg i) ∷ []) (emit (lower_step (tree_of p.tref)) ∷ lower_params (i + 1) (param_types (drop (i + 1) ps))))

pub lower-params-last : (es : List Event) (ps : List InterfaceFuncParam) (i : ℕ) → length ps ≤ i → es ++ lower_params i (param_types (drop i ps)) ≡ es
lower-params-last es ps i l = ap (λ ts. es ++ lower_params i ts) (types-end ps i l) ∙ append-nil es

pub lift-params-step : (es : List Event) (w : ℕ) (ps : List InterfaceFuncParam) (i : ℕ) (p : InterfaceFuncParam) → i < length ps → p ≡ get_or ps i p
    → es ++ lift_params w (param_types (drop i ps)) ≡ ((es ++ get_args w (param_words (plain (tree_of p.tref)))) ++ emit (lift_step (tree_of p.tref)) ∷ []) ++ lift_params (w + length (param_words (plain (tree_of p.tref)))) (param_types (drop (i + 1) ps))
lift-params-step es w ps i p l e =
    let t = tree_of p.tref in
    let ws = get_args w (param_words (plain t)) in
    let rest = lift_params (w + length (param_words (plain t))) (param_types (drop (i + 1) ps)) in
    ap (λ ts. es ++ lift_params w ts) (types-drop ps i p l e) ∙ sym (append_assoc (es ++ ws) (emit (lift_step t) ∷ []) rest ∙ append_assoc es ws (emit (lift_step t) ∷ rest))

pub lift-params-last : (es : List Event) (w : ℕ) (ps : List InterfaceFuncParam) (i : ℕ) → length ps ≤ i → es ++ lift_params w (param_types (drop i ps)) ≡ es
lift-params-last es w ps i l = ap (λ ts. es ++ lift_params w ts) (types-end ps i l) ∙ append-nil es

pub words-step : (w : ℕ) (ps : List InterfaceFuncParam) (i : ℕ) (p : InterfaceFuncParam) → i < length ps → p ≡ get_or ps i p
    → w + length (words_of_params (param_types (drop i ps))) ≡ w + length (param_words (plain (tree_of p.tref))) + length (words_of_params (param_types (drop (i + 1) ps)))
words-step w ps i p l e =
    let a = length-append (param_words (plain (tree_of p.tref))) (words_of_params (param_types (drop (i + 1) ps))) in
    let n : w + length (words_of_params (tree_of p.tref ∷ param_types (drop (i + 1) ps))) ≡ w + length (param_words (plain (tree_of p.tref))) + length (words_of_params (param_types (drop (i + 1) ps))) = omega arith in
    ap (λ ts. w + length (words_of_params ts)) (types-drop ps i p l e) ∙ n

pub words-last : (w : ℕ) (ps : List InterfaceFuncParam) (i : ℕ) → length ps ≤ i → w + length (words_of_params (param_types (drop i ps))) ≡ w
words-last w ps i l = let z : w + 0 ≡ w = omega arith in ap (λ ts. w + length (words_of_params ts)) (types-end ps i l) ∙ z

pub one-get : (w : ℕ) (p : Plain) → is_list_type p ≡ false → get_args w (param_words p) ≡ emit (Step.GetArg w) ∷ []
one-get w (Plain.builtin b) e = refl
one-get w Plain.handle e = refl
one-get w (Plain.pointer_to t) e = refl
one-get w (Plain.const_pointer_to t) e = refl
one-get w (Plain.list_of t) e = absurd (clash e)
  where
    clash : true ≡ false → ⊥
    clash e = cc
one-get w (Plain.record_of (RecordKind.Bitflags r) ms) e = refl
one-get w (Plain.record_of RecordKind.Tuple ms) e = refl
one-get w (Plain.record_of RecordKind.Other ms) e = refl
one-get w (Plain.variant_of r cs) e = refl

pub one-word : (p : Plain) → is_list_type p ≡ false → length (param_words p) ≡ 1
one-word (Plain.builtin b) e = refl
one-word Plain.handle e = refl
one-word (Plain.pointer_to t) e = refl
one-word (Plain.const_pointer_to t) e = refl
one-word (Plain.list_of t) e = absurd (clash e)
  where
    clash : true ≡ false → ⊥
    clash e = cc
one-word (Plain.record_of (RecordKind.Bitflags r) ms) e = refl
one-word (Plain.record_of RecordKind.Tuple ms) e = refl
one-word (Plain.record_of RecordKind.Other ms) e = refl
one-word (Plain.variant_of r cs) e = refl

pub two-gets : (w : ℕ) (p : Plain) → is_list_type p ≡ true → get_args w (param_words p) ≡ emit (Step.GetArg w) ∷ emit (Step.GetArg (w + 1)) ∷ []
two-gets w (Plain.list_of t) e = refl
two-gets w (Plain.builtin b) e = absurd (clash e)
  where
    clash : false ≡ true → ⊥
    clash e = cc
two-gets w Plain.handle e = absurd (clash e)
  where
    clash : false ≡ true → ⊥
    clash e = cc
two-gets w (Plain.pointer_to t) e = absurd (clash e)
  where
    clash : false ≡ true → ⊥
    clash e = cc
two-gets w (Plain.const_pointer_to t) e = absurd (clash e)
  where
    clash : false ≡ true → ⊥
    clash e = cc
two-gets w (Plain.record_of k ms) e = absurd (clash e)
  where
    clash : false ≡ true → ⊥
    clash e = cc
two-gets w (Plain.variant_of r cs) e = absurd (clash e)
  where
    clash : false ≡ true → ⊥
    clash e = cc

pub two-words : (p : Plain) → is_list_type p ≡ true → length (param_words p) ≡ 2
two-words (Plain.list_of t) e = refl
two-words (Plain.builtin b) e = absurd (clash e)
  where
    clash : false ≡ true → ⊥
    clash e = cc
two-words Plain.handle e = absurd (clash e)
  where
    clash : false ≡ true → ⊥
    clash e = cc
two-words (Plain.pointer_to t) e = absurd (clash e)
  where
    clash : false ≡ true → ⊥
    clash e = cc
two-words (Plain.const_pointer_to t) e = absurd (clash e)
  where
    clash : false ≡ true → ⊥
    clash e = cc
two-words (Plain.record_of k ms) e = absurd (clash e)
  where
    clash : false ≡ true → ⊥
    clash e = cc
two-words (Plain.variant_of r cs) e = absurd (clash e)
  where
    clash : false ≡ true → ⊥
    clash e = cc

-- return pointers
pointers-drop : (qs : List (Bor (Rc NamedType Global))) (i : ℕ) (q : Bor (Rc NamedType Global)) → i < length qs → q ≡ get_or qs i q → pointer_types (drop i qs) ≡ named_tree q.now.value ∷ pointer_types (drop (i + 1) qs)
pointers-drop qs i q l e = rw (drop_more qs i q l, ← e) refl

pointers-end : (qs : List (Bor (Rc NamedType Global))) (i : ℕ) → length qs ≤ i → pointer_types (drop i qs) ≡ []
pointers-end qs i l = rw (drop_all i qs l) refl

pub spaces-step : (es : List Event) (qs : List (Bor (Rc NamedType Global))) (i : ℕ) (q : Bor (Rc NamedType Global)) → i < length qs → q ≡ get_or qs i q
    → es ++ make_spaces i (pointer_types (drop i qs)) ≡ ((es ++ space i (named_tree q.now.value) ∷ []) ++ emit (Step.ReturnPointerGet i) ∷ []) ++ make_spaces (i + 1) (pointer_types (drop (i + 1) qs))
spaces-step es qs i q l e =
    let rest = make_spaces (i + 1) (pointer_types (drop (i + 1) qs)) in
    let t = named_tree q.now.value in
    ap (λ ts. es ++ make_spaces i ts) (pointers-drop qs i q l e) ∙ sym (append_assoc (es ++ space i t ∷ []) (emit (Step.ReturnPointerGet i) ∷ []) rest ∙ append_assoc es (space i t ∷ []) (emit (Step.ReturnPointerGet i) ∷ rest))

pub spaces-last : (es : List Event) (qs : List (Bor (Rc NamedType Global))) (i : ℕ) → length qs ≤ i → es ++ make_spaces i (pointer_types (drop i qs)) ≡ es
spaces-last es qs i l = ap (λ ts. es ++ make_spaces i ts) (pointers-end qs i l) ∙ append-nil es

pub loads-step : (es : List Event) (qs : List (Bor (Rc NamedType Global))) (i : ℕ) (q : Bor (Rc NamedType Global)) → i < length qs → q ≡ get_or qs i q
    → es ++ load_all i (pointer_types (drop i qs)) ≡ ((es ++ emit (Step.ReturnPointerGet i) ∷ []) ++ emit (Step.Load (named_tree q.now.value)) ∷ []) ++ load_all (i + 1) (pointer_types (drop (i + 1) qs))
loads-step es qs i q l e =
    let rest = load_all (i + 1) (pointer_types (drop (i + 1) qs)) in
    let t = named_tree q.now.value in
    ap (λ ts. es ++ load_all i ts) (pointers-drop qs i q l e) ∙ sym (append_assoc (es ++ emit (Step.ReturnPointerGet i) ∷ []) (emit (Step.Load t) ∷ []) rest ∙ append_assoc es (emit (Step.ReturnPointerGet i) ∷ []) (emit (Step.Load t) ∷ rest))

pub loads-last : (es : List Event) (qs : List (Bor (Rc NamedType Global))) (i : ℕ) → length qs ≤ i → es ++ load_all i (pointer_types (drop i qs)) ≡ es
loads-last es qs i l = ap (λ ts. es ++ load_all i ts) (pointers-end qs i l) ∙ append-nil es

store-split : (w : ℕ) (ts : List Tree) (t : Tree) → store_all w (ts ++ t ∷ []) ≡ emit (Step.GetArg (w + length ts)) ∷ emit (Step.Store t) ∷ store_all w ts
store-split w [] t = let z : w ≡ w + 0 = omega arith in ap (λ n. emit (Step.GetArg n) ∷ emit (Step.Store t) ∷ []) z
store-split w (u ∷ ts) t =
    let z : w + 1 + length ts ≡ w + length (u ∷ ts) = omega arith in
    ap (λ es. es ++ (emit (Step.GetArg w) ∷ emit (Step.Store u) ∷ [])) (store-split (w + 1) ts t) ∙ ap (λ n. emit (Step.GetArg n) ∷ emit (Step.Store t) ∷ store_all w (u ∷ ts)) z

take-next : (qs : List (Bor (Rc NamedType Global))) (k : ℕ) (q : Bor (Rc NamedType Global)) → k < length qs → q ≡ get_or qs k q → (take (suc k) (pointer_types qs) ≡ take k (pointer_types qs) ++ named_tree q.now.value ∷ []) × (length (take k (pointer_types qs)) ≡ k)
take-next [] k q l e = absurd (omega arith)
take-next (p ∷ qs) zero q l e = (ap (λ q. named_tree q.now.value ∷ []) (sym e), refl)
take-next (p ∷ qs) (suc k) q l e = let r = take-next qs k q (omega arith) e in (ap (λ ts. named_tree p.now.value ∷ ts) r.0, ap suc r.1)

-- storing through the last pointer that is left
pub stores-step : (es : List Event) (w : ℕ) (qs : List (Bor (Rc NamedType Global))) (k n : ℕ) (q : Bor (Rc NamedType Global)) → n ≡ k + 1 → k < length qs → q ≡ get_or qs k q
    → es ++ store_all w (take n (pointer_types qs)) ≡ ((es ++ emit (Step.GetArg (w + k)) ∷ []) ++ emit (Step.Store (named_tree q.now.value)) ∷ []) ++ store_all w (take k (pointer_types qs))
stores-step es w qs k n q m l e =
    let r = take-next qs k q l e in
    let t = named_tree q.now.value in
    let rest = store_all w (take k (pointer_types qs)) in
    let s : n ≡ suc k = omega arith in
    ap (λ n. es ++ store_all w (take n (pointer_types qs))) s ∙ ap (λ ts. es ++ store_all w ts) r.0 ∙ ap (λ l. es ++ l) (store-split w (take k (pointer_types qs)) t)
    ∙ ap (λ n. es ++ (emit (Step.GetArg (w + n)) ∷ emit (Step.Store t) ∷ rest)) r.1
    ∙ sym (append_assoc (es ++ emit (Step.GetArg (w + k)) ∷ []) (emit (Step.Store t) ∷ []) rest ∙ append_assoc es (emit (Step.GetArg (w + k)) ∷ []) (emit (Step.Store t) ∷ rest))

pub stores-last : (es : List Event) (w : ℕ) (ts : List Tree) → es ++ store_all w (take 0 ts) ≡ es
stores-last es w [] = append-nil es
stores-last es w (t ∷ ts) = append-nil es

pub stores-first : (qs : List (Bor (Rc NamedType Global))) → take (length qs) (pointer_types qs) ≡ pointer_types qs
stores-first [] = refl
stores-first (q ∷ qs) = ap (λ ts. named_tree q.now.value ∷ ts) (stores-first qs)

pub count-pointers : (qs : List (Bor (Rc NamedType Global))) → length (pointer_types qs) ≡ length qs
count-pointers [] = refl
count-pointers (q ∷ qs) = ap suc (count-pointers qs)

-- a result
clash : false ≡ true → ⊥
clash e = cc

pub result-one : (abi : Abi) (xs : List InterfaceFuncParam) (x : InterfaceFuncParam) → slice_get xs 0 ≡ Some x → unlowerable_result abi (param_types xs) ≡ None → param_types xs ≡ tree_of x.tref ∷ []
result-one abi [] x e h = absurd (none e)
  where
    none : None ≡ Some x → ⊥
    none e = cc
result-one abi (y ∷ []) x e h = let same : y ≡ x = cc in ap (λ y. tree_of y.tref ∷ []) same
result-one abi (y ∷ z ∷ xs) x e h = absurd (some h)
  where
    some : Some (Place.Result 1) ≡ None → ⊥
    some e = cc

pub result-zero : (xs : List InterfaceFuncParam) → slice_get xs 0 ≡ None → param_types xs ≡ []
result-zero [] e = refl
result-zero (y ∷ xs) e = absurd (some e)
  where
    some : Some y ≡ None → ⊥
    some e = cc

pub result-can : (abi : Abi) (t : Tree) (ts : List Tree) → ts ≡ t ∷ [] → unlowerable_result abi ts ≡ None → can_be_result abi t ≡ true
result-can abi t ts e h = go (can_be_result abi t) (sym (ap (unlowerable_result abi) e) ∙ h)
  where
    some : Some (Place.Result 0) ≡ None → ⊥
    some e = cc

    go : (b : Bool) → cond b None (Some (Place.Result 0)) ≡ None → b ≡ true
    go true h = refl
    go false h = absurd (some h)

pub pointers-of-one : (t : Tree) (ts : List Tree) → ts ≡ t ∷ [] → pointers_of ts ≡ pointers_by (result_cases t)
pointers-of-one t ts e = ap pointers_of e ∙ append-nil (pointers_by (result_cases t))

pub lift-of-one : (t : Tree) (ts : List Tree) → ts ≡ t ∷ [] → lift_of ts ≡ lift_by (result_cases t) t
lift-of-one t ts e = ap lift_of e

pub lift-of-none : (es : List Event) (ts : List Tree) → ts ≡ [] → es ++ lift_of ts ≡ es
lift-of-none es ts e = ap (λ ts. es ++ lift_of ts) e ∙ append-nil es

pub lower-of-one : (w : ℕ) (t : Tree) (ts : List Tree) → ts ≡ t ∷ [] → lower_of w ts ≡ lower_by (result_cases t) w t
lower-of-one w t ts e = ap (lower_of w) e

pub lower-of-none : (es : List Event) (w : ℕ) (ts : List Tree) → ts ≡ [] → es ++ lower_of w ts ≡ es
lower-of-none es w ts e = ap (λ ts. es ++ lower_of w ts) e ∙ append-nil es

pub lift-by-cases : (t : Tree) (cs : Arms) → result_cases t ≡ Some cs → lift_by (result_cases t) t ≡ lift_cases (ok_of cs) (err_of cs)
lift-by-cases t cs e = ap (λ c. lift_by c t) e

pub lift-by-word : (t : Tree) → result_cases t ≡ None → lift_by (result_cases t) t ≡ emit (lift_step t) ∷ []
lift-by-word t e = ap (λ c. lift_by c t) e

pub lower-by-cases : (w : ℕ) (t : Tree) (cs : Arms) → result_cases t ≡ Some cs → lower_by (result_cases t) w t ≡ lower_cases (ok_of cs) (err_of cs) w
lower-by-cases w t cs e = ap (λ c. lower_by c w t) e

pub lower-by-word : (w : ℕ) (t : Tree) → result_cases t ≡ None → lower_by (result_cases t) w t ≡ emit (lower_step t) ∷ []
lower-by-word w t e = ap (λ c. lower_by c w t) e

pub pointers-by-cases : (t : Tree) (cs : Arms) → result_cases t ≡ Some cs → pointers_by (result_cases t) ≡ ok_pointers (ok_of cs)
pointers-by-cases t cs e = ap pointers_by e

and-right : (a b : Bool) → a && b ≡ true → b ≡ true
and-right true b h = h
and-right false b h = absurd (clash h)

and-left : (a b : Bool) → a && b ≡ true → a ≡ true
and-left true b h = refl
and-left false b h = h

-- a result without cases is lowered as a parameter
pub word-param : (t : Tree) → can_be_result Abi.Preview1 t ≡ true → result_cases t ≡ None → can_be_param t ≡ true
word-param (Tree.named n t d) h e = refl
word-param (Tree.builtin b) h e = refl
word-param (Tree.pointer_to t) h e = refl
word-param (Tree.const_pointer_to t) h e = refl
word-param (Tree.list_of t) h e = refl
word-param Tree.handle h e = h
word-param (Tree.record_of (RecordKind.Bitflags r) ms) h e = h
word-param (Tree.record_of RecordKind.Tuple ms) h e = h
word-param (Tree.record_of RecordKind.Other ms) h e = h
word-param (Tree.variant_of r cs) h e = go (has_payload (plain_arms cs)) (and-left (has_payload (plain_arms cs) || false) _ (and-right (is_expected (arm_list cs)) _ (and-right (is_narrow r) _ h))) e
  where
    some : Some cs ≡ None → ⊥
    some e = cc

    go : (b : Bool) → b || false ≡ true → cond b (Some cs) None ≡ None → false ≡ true
    go true h e = absurd (some e)
    go false h e = h

no-cases : (cs : Arms) → None ≡ Some cs → ⊥
no-cases cs e = cc

-- the cases of a type that can be given back
return-cases : (named : Bool) (t : Tree) (cs : Arms) → can_return named t ≡ true → result_cases t ≡ Some cs → can_be_ok (ok_of cs) && can_be_err (err_of cs) ≡ true
return-cases named (Tree.named n t d) cs h e = return-cases true t cs h e
return-cases named (Tree.variant_of r ds) cs h e =
    go (has_payload (plain_arms ds)) e (and-right (has_payload (plain_arms ds) || named) _ (and-right (is_expected (arm_list ds)) _ (and-right (is_narrow r) _ h)))
  where
    go : (b : Bool) → cond b (Some ds) None ≡ Some cs → can_be_ok (ok_of ds) && can_be_err (err_of ds) ≡ true → can_be_ok (ok_of cs) && can_be_err (err_of cs) ≡ true
    go true e h = ap (λ ds. can_be_ok (ok_of ds) && can_be_err (err_of ds)) (sym (some_same {x = ds} {y = cs} e)) ∙ h
    go false e h = absurd (no-cases cs e)
return-cases named (Tree.builtin b) cs h e = absurd (no-cases cs e)
return-cases named Tree.handle cs h e = absurd (no-cases cs e)
return-cases named (Tree.pointer_to t) cs h e = absurd (no-cases cs e)
return-cases named (Tree.const_pointer_to t) cs h e = absurd (no-cases cs e)
return-cases named (Tree.list_of t) cs h e = absurd (no-cases cs e)
return-cases named (Tree.record_of k ms) cs h e = absurd (no-cases cs e)

pub result-err : (t : Tree) (cs : Arms) → can_be_result Abi.Preview1 t ≡ true → result_cases t ≡ Some cs → can_be_err (err_of cs) ≡ true
result-err t cs h e = and-right (can_be_ok (ok_of cs)) _ (return-cases false t cs h e)

pub result-ok : (t : Tree) (cs : Arms) → can_be_result Abi.Preview1 t ≡ true → result_cases t ≡ Some cs → can_be_ok (ok_of cs) ≡ true
result-ok t cs h e = and-left (can_be_ok (ok_of cs)) _ (return-cases false t cs h e)

pub no-pointers : (t : Tree) → result_cases t ≡ None → pointers_by (result_cases t) ≡ []
no-pointers t e = ap pointers_by e

pub no-results : (ts : List Tree) → ts ≡ [] → pointers_of ts ≡ []
no-results ts e = ap pointers_of e

pub count-words : (ts : List Tree) → unlowerable_result Abi.Preview1 ts ≡ None → length (words_of_results ts) ≡ length ts
count-words ts h = words-count ts (subst (λ o. T (is_none o)) (sym h) tt)

pub count-types : (ps : List InterfaceFuncParam) → length (param_types ps) ≡ length ps
count-types [] = refl
count-types (p ∷ ps) = ap suc (count-types ps)

pub err-param : (t : Tree) → can_be_err (Some t) ≡ true → can_be_param t ≡ true
err-param (Tree.named n t d) h = refl
err-param (Tree.builtin b) h = refl
err-param (Tree.pointer_to t) h = refl
err-param (Tree.const_pointer_to t) h = refl
err-param (Tree.list_of t) h = refl
err-param Tree.handle h = h
err-param (Tree.record_of k ms) h = h
err-param (Tree.variant_of r cs) h = h

-- a function that can be lowered
found-at : (ps : List InterfaceFuncParam) (j i : ℕ) (p : InterfaceFuncParam) → i < length ps → p ≡ get_or ps i p → position_from (λ t. not (can_be_param t)) j (param_types ps) ≡ None → can_be_param (tree_of p.tref) ≡ true
found-at [] j i p l e h = absurd (omega arith)
found-at (q ∷ ps) j zero p l e h = go (can_be_param (tree_of q.tref)) refl h
  where
    some : Some j ≡ None → ⊥
    some e = cc

    go : (b : Bool) → can_be_param (tree_of q.tref) ≡ b → cond (not b) (Some j) (position_from (λ t. not (can_be_param t)) (j + 1) (param_types ps)) ≡ None → can_be_param (tree_of p.tref) ≡ true
    go true is h = ap (λ p. can_be_param (tree_of p.tref)) e ∙ is
    go false is h = absurd (some h)
found-at (q ∷ ps) j (suc i) p l e h = go (can_be_param (tree_of q.tref)) h (found-at ps (j + 1) i p (omega arith) e)
  where
    some : Some j ≡ None → ⊥
    some e = cc

    go : (b : Bool) → cond (not b) (Some j) (position_from (λ t. not (can_be_param t)) (j + 1) (param_types ps)) ≡ None → (position_from (λ t. not (can_be_param t)) (j + 1) (param_types ps) ≡ None → can_be_param (tree_of p.tref) ≡ true) → can_be_param (tree_of p.tref) ≡ true
    go true h f = f h
    go false h f = absurd (some h)

pub param-can : (ps : List InterfaceFuncParam) (i : ℕ) (p : InterfaceFuncParam) → i < length ps → p ≡ get_or ps i p → position (λ t. not (can_be_param t)) (param_types ps) ≡ None → can_be_param (tree_of p.tref) ≡ true
param-can ps i p l e h = found-at ps 0 i p l e (sym (position_from-zero (λ t. not (can_be_param t)) (param_types ps)) ∙ h)

none-first : (o : Option ℕ) (r : Option Place) → earlier_place o r ≡ None → (o ≡ None) × (r ≡ None)
none-first None r h = (refl, h)
none-first (Some i) r h = absurd (some h)
  where
    some : Some (Place.Param i) ≡ None → ⊥
    some e = cc

pub params-can : (f : InterfaceFunc) → unlowerable (called f) ≡ None → position (λ t. not (can_be_param t)) (param_types f.params) ≡ None
params-can f h = (none-first (position (λ t. not (can_be_param t)) (param_types f.params)) (unlowerable_result f.abi (param_types f.results)) h).0

pub results-can : (f : InterfaceFunc) → unlowerable (called f) ≡ None → unlowerable_result f.abi (param_types f.results) ≡ None
results-can f h = (none-first (position (λ t. not (can_be_param t)) (param_types f.params)) (unlowerable_result f.abi (param_types f.results)) h).1

-- stored whole, the one result is a name
pub stored-one : (t : Tree) (ts : List Tree) → ts ≡ t ∷ [] → take 1 ts ≡ t ∷ []
stored-one t ts e = ap (take 1) e

pub stored-none : (ts : List Tree) → ts ≡ [] → take 1 ts ≡ []
stored-none ts e = ap (take 1) e

pub stored-named : (t : Tree) → can_be_result Abi.Stored t ≡ true → is_named t ≡ true
stored-named t h = h

pub ruleset side_rules = (stored-one, stored-none, stored-named, result-ok, no-pointers, no-results, count-words, count-types, block-chain, cases-chain, two-chain, pair-chain, payload-chain, some-map, lower-params-step, lower-params-last, lift-params-step, lift-params-last, words-step, words-last, one-get, one-word, two-gets, two-words, spaces-step, spaces-last, loads-step, loads-last, stores-step, stores-last, stores-first, count-pointers, result-one, result-zero, result-can, pointers-of-one, lift-of-one, lift-of-none, lower-of-one, lower-of-none, lift-by-cases, lift-by-word, lower-by-cases, lower-by-word, pointers-by-cases, word-param, result-err, err-param, param-can, params-can, results-can, append-nil)
