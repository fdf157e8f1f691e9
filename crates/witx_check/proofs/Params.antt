-- One parameter, and one result, more.
use Rattle.std.specs.Prelude.{◌≡◌, ℕ, List, [], ◌∷◌, ◌++◌, ◌+◌, ◌<◌, ◌≤◌, length, drop, Option, None, map, false}
use Rattle.std.proofs.Common.{refl, sym, get_or, ◌∙◌}
use Rattle.std.proofs.lemmas.List.{map-append, append-nil}
use Rattle.witx_base.specs.Found.{found}
use Rattle.witx_syntax_tree.specs.Trees.{Fields, no_fields, one_field}
use Rattle.witx_syntax_tree.specs.Views.{type_view, fields_view}
use Rattle.witx_comments.specs.declared.comment.Documented.{Documented}
use Rattle.witx_syntax_tree.specs.declared.tree.FieldSyntax.{FieldSyntax}
use Rattle.witx_ast.specs.Tree.{Field}
use Rattle.witx_ast.specs.Views.{tree_of}
use Rattle.witx_ast.specs.Functions.{param_field}
use Rattle.witx_ast.specs.declared.types.TypeRef.{TypeRef}
use Rattle.witx_ast.specs.declared.function.InterfaceFuncParam.{InterfaceFuncParam}
use Rattle.witx_scope.specs.declared.error.CheckError.{CheckError}
use Rattle.witx_scope.specs.Blame.{Blames}
use Rattle.witx_scope.specs.Faults.{Fault, Check, first_fault}
use Rattle.witx_scope.specs.Names.{Here, NameMarks, new_mark}
use Rattle.witx_scope.specs.Checks.{type_checks}
use Rattle.witx_scope.specs.Trees.{fields_meant}
use Rattle.witx_scope.specs.Functions.{fields_scope, result_checks}
use Rattle.witx_check.proofs.Onward.{row-next, row-known, row-wrong, row-none, fields-next, rows-drop, rows-end}
use Rattle.witx_scope.proofs.FirstFaults.{fault-past, fault-append, blames-to, blames-append, blames-head}

pub param-pushed : (ps : List InterfaceFuncParam) (n : List ℕ) (r : TypeRef) (d e : List ℕ) → d ≡ e
    → map param_field (ps ++ record { name = n; tref = r; docs = d } ∷ []) ≡ map param_field ps ++ record { called = n; tree = tree_of r; comment = e } ∷ []
param-pushed ps n r d e same = rw (map-append param_field ps (record { name = n; tref = r; docs = d } ∷ []), same) refl

pub ruleset push_rules = (param-pushed)

pub params-end : (h : Here) (fs : List (Documented FieldSyntax)) (i : ℕ) (ms : List InterfaceFuncParam) (x : List Field)
    → length fs ≤ i → map param_field ms ++ fields_meant h (fields_view (drop i fs)) ≡ x → map param_field ms ≡ x
params-end h fs i ms x l e = let e1 = rw (rows-end fs i l, append-nil) at e in e1

pub scope-alike : (h : Here) (a b : NameMarks) (rs : Fields) → ((q : List ℕ) → found a q ≡ found b q) → (q : List ℕ) → found (fields_scope a rs) q ≡ found (fields_scope b rs) q
scope-alike h a b no_fields s q = s q
scope-alike h a b (one_field docs m t fs) s q = scope-alike h ((m.name, m.start) ∷ a) ((m.name, m.start) ∷ b) fs (λ r. rw (s r) refl) q

pub scope-next : (h : Here) (fs : List (Documented FieldSyntax)) (i : ℕ) (f : Documented FieldSyntax) (old new : NameMarks) (q : List ℕ) (x : Option ℕ)
    → i < length fs → f ≡ get_or fs i f
    → found (fields_scope old (fields_view (drop i fs))) q ≡ x
    → ((r : List ℕ) → found new r ≡ found ((f.item.name.name.now, f.item.name.span.start) ∷ old) r)
    → found (fields_scope new (fields_view (drop (i + 1) fs))) q ≡ x
scope-next h fs i f old new q x l p e k =
    let e1 = rw (rows-drop fs i f l p) at e in
    scope-alike h new ((f.item.name.name.now, f.item.name.span.start) ∷ old) (fields_view (drop (i + 1) fs)) k q ∙ e1

pub scope-end : (h : Here) (fs : List (Documented FieldSyntax)) (i : ℕ) (old : NameMarks) (q : List ℕ) (x : Option ℕ)
    → length fs ≤ i → found (fields_scope old (fields_view (drop i fs))) q ≡ x → found old q ≡ x
scope-end h fs i old q x l e = let e1 = rw (rows-end fs i l) at e in e1

pub ruleset param_rules = (row-next, row-known, row-wrong, row-none, fields-next, params-end, scope-next, scope-end)

pub results-alike : (h : Here) (a b : NameMarks) (rs : Fields) → ((q : List ℕ) → found a q ≡ found b q) → result_checks h a rs ≡ result_checks h b rs
results-alike h a b no_fields s = refl
results-alike h a b (one_field docs m t fs) s =
    let e = results-alike h ((m.name, m.start) ∷ a) ((m.name, m.start) ∷ b) fs (λ q. rw (s q) refl) in
    rw (s m.name, e) refl

turn-past : (xs ys : List Check) (c : Check) (x : Option Fault) → first_fault (xs ++ c ∷ ys) ≡ x → first_fault xs ≡ None → c ≡ None → first_fault ys ≡ x
turn-past xs ys c x e n k = sym (fault-past c ys k) ∙ (sym (fault-append xs (c ∷ ys) n) ∙ e)

pub result-next : (h : Here) (fs : List (Documented FieldSyntax)) (i : ℕ) (f : Documented FieldSyntax) (old new : NameMarks) (x : Option Fault)
    → i < length fs → f ≡ get_or fs i f
    → first_fault (result_checks h old (fields_view (drop i fs))) ≡ x
    → new_mark h old f.item.name.name.now f.item.name.span.start ≡ None
    → ((q : List ℕ) → found new q ≡ found ((f.item.name.name.now, f.item.name.span.start) ∷ old) q)
    → first_fault (type_checks h false (h.place f.item.name.span.start) (type_view f.item.type_)) ≡ None
    → first_fault (result_checks h new (fields_view (drop (i + 1) fs))) ≡ x
result-next h fs i f old new x l p e n k t =
    let e1 = rw (rows-drop fs i f l p) at e in
    let e2 = turn-past (type_checks h false (h.place f.item.name.span.start) (type_view f.item.type_)) (result_checks h ((f.item.name.name.now, f.item.name.span.start) ∷ old) (fields_view (drop (i + 1) fs))) (new_mark h old f.item.name.name.now f.item.name.span.start) x e1 t n in
    rw (results-alike h new ((f.item.name.name.now, f.item.name.span.start) ∷ old) (fields_view (drop (i + 1) fs)) k) e2

pub result-wrong : (h : Here) (fs : List (Documented FieldSyntax)) (i : ℕ) (f : Documented FieldSyntax) (old : NameMarks) (e : CheckError) (x : Option Fault)
    → i < length fs → f ≡ get_or fs i f
    → first_fault (result_checks h old (fields_view (drop i fs))) ≡ x
    → Blames e (first_fault (type_checks h false (h.place f.item.name.span.start) (type_view f.item.type_)))
    → Blames e x
result-wrong h fs i f old e x l p q b =
    let q1 = rw (rows-drop fs i f l p) at q in
    blames-to e (first_fault ((type_checks h false (h.place f.item.name.span.start) (type_view f.item.type_)) ++ ((new_mark h old f.item.name.name.now f.item.name.span.start) ∷ (result_checks h ((f.item.name.name.now, f.item.name.span.start) ∷ old) (fields_view (drop (i + 1) fs)))))) x q1 (blames-append e (type_checks h false (h.place f.item.name.span.start) (type_view f.item.type_)) ((new_mark h old f.item.name.name.now f.item.name.span.start) ∷ (result_checks h ((f.item.name.name.now, f.item.name.span.start) ∷ old) (fields_view (drop (i + 1) fs)))) b)

pub result-known : (h : Here) (fs : List (Documented FieldSyntax)) (i : ℕ) (f : Documented FieldSyntax) (old : NameMarks) (e : CheckError) (x : Option Fault)
    → i < length fs → f ≡ get_or fs i f
    → first_fault (result_checks h old (fields_view (drop i fs))) ≡ x
    → first_fault (type_checks h false (h.place f.item.name.span.start) (type_view f.item.type_)) ≡ None
    → Blames e (new_mark h old f.item.name.name.now f.item.name.span.start)
    → Blames e x
result-known h fs i f old e x l p q n b =
    let q1 = rw (rows-drop fs i f l p) at q in
    blames-to e (first_fault ((new_mark h old f.item.name.name.now f.item.name.span.start) ∷ (result_checks h ((f.item.name.name.now, f.item.name.span.start) ∷ old) (fields_view (drop (i + 1) fs))))) x (sym (fault-append (type_checks h false (h.place f.item.name.span.start) (type_view f.item.type_)) ((new_mark h old f.item.name.name.now f.item.name.span.start) ∷ (result_checks h ((f.item.name.name.now, f.item.name.span.start) ∷ old) (fields_view (drop (i + 1) fs)))) n) ∙ q1) (blames-head e (new_mark h old f.item.name.name.now f.item.name.span.start) (result_checks h ((f.item.name.name.now, f.item.name.span.start) ∷ old) (fields_view (drop (i + 1) fs))) b)

pub result-none : (h : Here) (fs : List (Documented FieldSyntax)) (i : ℕ) (old : NameMarks) (x : Option Fault)
    → length fs ≤ i → first_fault (result_checks h old (fields_view (drop i fs))) ≡ x → x ≡ None
result-none h fs i old x l q = sym (rw (rows-end fs i l) at q)

pub ruleset result_rules = (result-next, result-wrong, result-known, result-none, fields-next, params-end)
