-- One check, and one part, more.
use Rattle.std.specs.Prelude.{Bool, not, ◌≡◌, ◌&&◌, ◌||◌, option_map, ℕ, List, [], ◌∷◌, ◌++◌, ◌+◌, ◌<◌, ◌≤◌, length, drop, Option, Some, None, map, true, false}
use Rattle.std.proofs.Common.{refl, add-one, sym, ap, get_or, append_assoc, ◌∙◌}
use Rattle.std.proofs.lemmas.List.{drop_more, drop_all, map-append, append-nil}
use Rattle.witx_base.specs.Found.{found}
use Rattle.witx_files.specs.declared.location.Location.{Location}
use Rattle.witx_comments.specs.Documentation.{documentation_of}
use Rattle.witx_syntax_tree.specs.Trees.{Member, Fields, no_fields, one_field, no_types, one_type, no_union_fields, one_union_field, Cases, no_cases, one_case, union_of, variant_of, TypeTree, ident, builtin, string, boolean, handle, list_of, pointer_to, const_pointer_to, tuple_of, enum_of, flags_of, record_of, expected}
use Rattle.witx_comments.specs.Comments.{comments_view}
use Rattle.witx_syntax_tree.specs.Views.{type_view, name_view, member_view, fields_view, types_view, union_fields_view, cases_view, boxed_view, maybe_of}
use Rattle.witx_scope.specs.SyntaxChecks.{lacks_name, union_checks, variant_checks, member_views, name_check, Sees}
use Rattle.witx_scope.proofs.FirstFaults.{fault-past, fault-append, blames-head, blames-append, blames-to, step-past, step-head, step-wrong}
use Rattle.witx_scope.proofs.NamePlaces.{has-push, seen-more}
use Rattle.std.specs.Map.{keys_of}
use Rattle.witx_syntax_tree.proofs.TypeViews.{view-Field}
use Rattle.witx_check.proofs.SyntaxTrees.{form_rules, case-CaseSyntax}
use Rattle.witx_comments.specs.declared.comment.Documented.{Documented}
use Rattle.witx_syntax_tree.specs.declared.tree.FieldSyntax.{FieldSyntax}
use Rattle.witx_syntax_tree.specs.declared.tree.CaseSyntax.{CaseSyntax}
use Rattle.witx_syntax_tree.specs.declared.tree.IdSyntax.{IdSyntax}
use Rattle.witx_syntax_tree.specs.declared.tree.UnionSyntax.{UnionSyntax, out-UnionSyntax}
use Rattle.witx_syntax_tree.specs.declared.tree.VariantSyntax.{VariantSyntax, out-VariantSyntax}
use Rattle.witx_ast.specs.declared.types.Case.{Case}
use Rattle.witx_ast.specs.declared.types.TypeRef.{TypeRef}
use Rattle.witx_ast.specs.declared.types.Variant.{Variant, out-Variant}
use Rattle.witx_ast.specs.Words.{all_arms_bare, is_bare}
use Rattle.witx_ast.proofs.TreeKinds.{kind_rules}
use Rattle.witx_syntax_tree.specs.declared.tree.TypedefSyntax.{TypedefSyntax}
use Rattle.witx_ast.specs.declared.types.RecordMember.{RecordMember}
use Rattle.witx_ast.specs.Tree.{Tree, Field, Arm, arm, arms_of}
use Rattle.witx_ast.specs.Views.{tree_of, member_field, case_arm}
use Rattle.witx_ast.proofs.Trees.{tree_rules, tree-RecordMember, tree-Case}
use Rattle.witx_scope.specs.declared.error.CheckError.{CheckError}
use Rattle.witx_scope.specs.Blame.{Blames}
use Rattle.witx_scope.specs.Faults.{Fault, Check, first_fault, anonymous_record}
use Rattle.witx_scope.specs.Names.{Here, NameMarks, new_mark}
use Rattle.witx_scope.specs.Checks.{type_checks, field_checks, each_type_checks, union_field_checks, member_checks, case_checks, maybe_checks, union_fields_count, cases_count}
use Rattle.witx_scope.specs.Trees.{tree_meant, fields_meant, types_meant, number_name, member_arm, flag_field, bool_tree, union_arms, union_name, case_arms, maybe_tree}
use Rattle.witx_scope.specs.Tags.{has_name, are_bare, case_check, tag_checks, tag_names, size_check}

-- ---- scopes that answer alike give the same checks

Alike : NameMarks → NameMarks → Type 0
Alike a b = (q : List ℕ) → found a q ≡ found b q

pub names-alike : (h : Here) (a b : NameMarks) (rs : Fields) → ((q : List ℕ) → found a q ≡ found b q) → field_checks h a rs ≡ field_checks h b rs
names-alike h a b no_fields s = refl
names-alike h a b (one_field docs m t fs) s =
    let e = names-alike h ((m.name, m.start) ∷ a) ((m.name, m.start) ∷ b) fs (λ q. rw (s q) refl) in
    rw (s m.name, e) refl

-- ---- one member, and one case, more

pub member-pushed : (ms : List RecordMember) (n : List ℕ) (r : TypeRef) (d e : List ℕ) → d ≡ e
    → map member_field (ms ++ record { name = n; tref = r; docs = d } ∷ []) ≡ map member_field ms ++ record { called = n; tree = tree_of r; comment = e } ∷ []
member-pushed ms n r d e same = rw (map-append member_field ms (record { name = n; tref = r; docs = d } ∷ []), tree-RecordMember (record { name = n; tref = r; docs = d }), same) refl

pub case-pushed : (cs : List Case) (n : List ℕ) (r : Option TypeRef) (d e : List ℕ) → d ≡ e
    → map case_arm (cs ++ record { name = n; tref = r; docs = d } ∷ []) ≡ map case_arm cs ++ record { called = n; payload = option_map tree_of r; comment = e } ∷ []
case-pushed cs n r d e same = rw (map-append case_arm cs (record { name = n; tref = r; docs = d } ∷ []), tree-Case (record { name = n; tref = r; docs = d }), same) refl

pub ruleset push_rules = (member-pushed, case-pushed)

-- ---- the fields of a record

pub rows-drop : (fs : List (Documented FieldSyntax)) (i : ℕ) (f : Documented FieldSyntax) → i < length fs → f ≡ get_or fs i f
    → fields_view (drop i fs) ≡ one_field (comments_view f.comments) (name_view f.item.name) (type_view f.item.type_) (fields_view (drop (i + 1) fs))
rows-drop fs i f l p = rw (drop_more fs i f l, ← p, view-Field f.item) refl

pub rows-end : (fs : List (Documented FieldSyntax)) (i : ℕ) → length fs ≤ i → fields_view (drop i fs) ≡ no_fields
rows-end fs i l = rw (drop_all i fs l) refl

pub row-next : (h : Here) (fs : List (Documented FieldSyntax)) (i : ℕ) (f : Documented FieldSyntax) (old new : NameMarks) (x : Option Fault)
    → i < length fs → f ≡ get_or fs i f
    → first_fault (field_checks h old (fields_view (drop i fs))) ≡ x
    → new_mark h old f.item.name.name.now f.item.name.span.start ≡ None
    → ((q : List ℕ) → found new q ≡ found ((f.item.name.name.now, f.item.name.span.start) ∷ old) q)
    → first_fault (type_checks h false (h.place f.item.name.span.start) (type_view f.item.type_)) ≡ None
    → first_fault (field_checks h new (fields_view (drop (i + 1) fs))) ≡ x
row-next h fs i f old new x l p e n k t =
    let e1 = rw (rows-drop fs i f l p) at e in
    let e2 = step-past (new_mark h old f.item.name.name.now f.item.name.span.start) (type_checks h false (h.place f.item.name.span.start) (type_view f.item.type_)) (field_checks h ((f.item.name.name.now, f.item.name.span.start) ∷ old) (fields_view (drop (i + 1) fs))) x e1 n t in
    rw (names-alike h new ((f.item.name.name.now, f.item.name.span.start) ∷ old) (fields_view (drop (i + 1) fs)) k) e2

pub row-known : (h : Here) (fs : List (Documented FieldSyntax)) (i : ℕ) (f : Documented FieldSyntax) (old : NameMarks) (e : CheckError) (x : Option Fault)
    → i < length fs → f ≡ get_or fs i f
    → first_fault (field_checks h old (fields_view (drop i fs))) ≡ x
    → Blames e (new_mark h old f.item.name.name.now f.item.name.span.start)
    → Blames e x
row-known h fs i f old e x l p q b =
    let q1 = rw (rows-drop fs i f l p) at q in
    step-head e (new_mark h old f.item.name.name.now f.item.name.span.start) (type_checks h false (h.place f.item.name.span.start) (type_view f.item.type_) ++ field_checks h ((f.item.name.name.now, f.item.name.span.start) ∷ old) (fields_view (drop (i + 1) fs))) x q1 b

pub row-wrong : (h : Here) (fs : List (Documented FieldSyntax)) (i : ℕ) (f : Documented FieldSyntax) (old : NameMarks) (e : CheckError) (x : Option Fault)
    → i < length fs → f ≡ get_or fs i f
    → first_fault (field_checks h old (fields_view (drop i fs))) ≡ x
    → new_mark h old f.item.name.name.now f.item.name.span.start ≡ None
    → Blames e (first_fault (type_checks h false (h.place f.item.name.span.start) (type_view f.item.type_)))
    → Blames e x
row-wrong h fs i f old e x l p q n b =
    let q1 = rw (rows-drop fs i f l p) at q in
    step-wrong e (new_mark h old f.item.name.name.now f.item.name.span.start) (type_checks h false (h.place f.item.name.span.start) (type_view f.item.type_)) (field_checks h ((f.item.name.name.now, f.item.name.span.start) ∷ old) (fields_view (drop (i + 1) fs))) x q1 n b

pub row-none : (h : Here) (fs : List (Documented FieldSyntax)) (i : ℕ) (old : NameMarks) (x : Option Fault)
    → length fs ≤ i → first_fault (field_checks h old (fields_view (drop i fs))) ≡ x → x ≡ None
row-none h fs i old x l q = sym (rw (rows-end fs i l) at q)

pub fields-next : (h : Here) (fs : List (Documented FieldSyntax)) (i : ℕ) (f : Documented FieldSyntax) (old new : List Field) (n : List ℕ) (t : Tree) (x : List Field)
    → i < length fs → f ≡ get_or fs i f
    → old ++ fields_meant h (fields_view (drop i fs)) ≡ x
    → new ≡ old ++ record { called = n; tree = t; comment = documentation_of (comments_view f.comments) } ∷ []
    → n ≡ f.item.name.name.now → t ≡ tree_meant h (type_view f.item.type_)
    → new ++ fields_meant h (fields_view (drop (i + 1) fs)) ≡ x
fields-next h fs i f old new n t x l p e more a b =
    let e1 = rw (rows-drop fs i f l p) at e in
    rw (more, append_assoc, a, b) e1

pub fields-end : (h : Here) (fs : List (Documented FieldSyntax)) (i : ℕ) (ms : List RecordMember) (x : List Field)
    → length fs ≤ i → map member_field ms ++ fields_meant h (fields_view (drop i fs)) ≡ x → map member_field ms ≡ x
fields-end h fs i ms x l e = rw (rows-end fs i l, append-nil) at e

pub ruleset row_rules = (row-next, row-known, row-wrong, row-none, fields-next, fields-end)

-- ---- the types of a tuple

pub parts-drop : (ts : List TypedefSyntax) (i : ℕ) (t : TypedefSyntax) → i < length ts → t ≡ get_or ts i t
    → types_view (drop i ts) ≡ one_type (type_view t) (types_view (drop (i + 1) ts))
parts-drop ts i t l p = rw (drop_more ts i t l, ← p) refl

pub parts-end : (ts : List TypedefSyntax) (i : ℕ) → length ts ≤ i → types_view (drop i ts) ≡ no_types
parts-end ts i l = rw (drop_all i ts l) refl

pub part-next : (h : Here) (near : Location) (ts : List TypedefSyntax) (i : ℕ) (t : TypedefSyntax) (x : Option Fault)
    → i < length ts → t ≡ get_or ts i t
    → first_fault (each_type_checks h near (types_view (drop i ts))) ≡ x
    → first_fault (type_checks h false near (type_view t)) ≡ None
    → first_fault (each_type_checks h near (types_view (drop (i + 1) ts))) ≡ x
part-next h near ts i t x l p e n =
    let e1 = rw (parts-drop ts i t l p) at e in step-past None (type_checks h false near (type_view t)) (each_type_checks h near (types_view (drop (i + 1) ts))) x e1 refl n

pub part-wrong : (h : Here) (near : Location) (ts : List TypedefSyntax) (i : ℕ) (t : TypedefSyntax) (e : CheckError) (x : Option Fault)
    → i < length ts → t ≡ get_or ts i t
    → first_fault (each_type_checks h near (types_view (drop i ts))) ≡ x
    → Blames e (first_fault (type_checks h false near (type_view t)))
    → Blames e x
part-wrong h near ts i t e x l p q b =
    let q1 = rw (parts-drop ts i t l p) at q in step-wrong e None (type_checks h false near (type_view t)) (each_type_checks h near (types_view (drop (i + 1) ts))) x q1 refl b

pub part-none : (h : Here) (near : Location) (ts : List TypedefSyntax) (i : ℕ) (x : Option Fault)
    → length ts ≤ i → first_fault (each_type_checks h near (types_view (drop i ts))) ≡ x → x ≡ None
part-none h near ts i x l q = sym (rw (parts-end ts i l) at q)

pub numbered-next : (h : Here) (ts : List TypedefSyntax) (i : ℕ) (t : TypedefSyntax) (ms : List RecordMember) (m : RecordMember) (x : List Field)
    → i < length ts → t ≡ get_or ts i t
    → map member_field ms ++ types_meant h i (types_view (drop i ts)) ≡ x
    → m.name ≡ number_name i → tree_of m.tref ≡ tree_meant h (type_view t) → m.docs ≡ []
    → map member_field (ms ++ m ∷ []) ++ types_meant h (i + 1) (types_view (drop (i + 1) ts)) ≡ x
numbered-next h ts i t ms m x l p e a b c =
    let e1 = rw (parts-drop ts i t l p) at e in
    rw (map-append member_field ms (m ∷ []), append_assoc, tree-RecordMember m, a, b, c) e1

pub numbered-end : (h : Here) (ts : List TypedefSyntax) (i : ℕ) (ms : List RecordMember) (x : List Field)
    → length ts ≤ i → map member_field ms ++ types_meant h i (types_view (drop i ts)) ≡ x → map member_field ms ≡ x
numbered-end h ts i ms x l e = rw (parts-end ts i l, append-nil) at e

pub ruleset part_rules = (part-next, part-wrong, part-none, numbered-next, numbered-end)

pub ruleset type_rules = (form_rules, tree_rules, fault-past, fault-append, blames-head, blames-append)

-- ---- names with comments

pub noted-drop : (ns : List (Documented IdSyntax)) (i : ℕ) (n : Documented IdSyntax) → i < length ns → n ≡ get_or ns i n
    → member_views (drop i ns) ≡ member_view n ∷ member_views (drop (i + 1) ns)
noted-drop ns i n l p = rw (drop_more ns i n l, ← p) refl

pub noted-end : (ns : List (Documented IdSyntax)) (i : ℕ) → length ns ≤ i → member_views (drop i ns) ≡ []
noted-end ns i l = rw (drop_all i ns l) refl

pub noted-alike : (h : Here) (a b : NameMarks) (ns : List Member) → ((q : List ℕ) → found a q ≡ found b q) → member_checks h a ns ≡ member_checks h b ns
noted-alike h a b [] s = refl
noted-alike h a b (n ∷ ns) s =
    let e = noted-alike h ((n.name.name, n.name.start) ∷ a) ((n.name.name, n.name.start) ∷ b) ns (λ q. rw (s q) refl) in
    rw (s n.name.name, e) refl

pub noted-next : (h : Here) (ns : List (Documented IdSyntax)) (i : ℕ) (n : Documented IdSyntax) (old new : NameMarks) (x : Option Fault)
    → i < length ns → n ≡ get_or ns i n
    → first_fault (member_checks h old (member_views (drop i ns))) ≡ x
    → new_mark h old n.item.name.now n.item.span.start ≡ None
    → ((q : List ℕ) → found new q ≡ found ((n.item.name.now, n.item.span.start) ∷ old) q)
    → first_fault (member_checks h new (member_views (drop (i + 1) ns))) ≡ x
noted-next h ns i n old new x l p e c k =
    let e1 = rw (noted-drop ns i n l p) at e in
    let e2 = step-past (new_mark h old n.item.name.now n.item.span.start) [] (member_checks h ((n.item.name.now, n.item.span.start) ∷ old) (member_views (drop (i + 1) ns))) x e1 c refl in
    rw (noted-alike h new ((n.item.name.now, n.item.span.start) ∷ old) (member_views (drop (i + 1) ns)) k) e2

pub noted-known : (h : Here) (ns : List (Documented IdSyntax)) (i : ℕ) (n : Documented IdSyntax) (old : NameMarks) (e : CheckError) (x : Option Fault)
    → i < length ns → n ≡ get_or ns i n
    → first_fault (member_checks h old (member_views (drop i ns))) ≡ x
    → Blames e (new_mark h old n.item.name.now n.item.span.start)
    → Blames e x
noted-known h ns i n old e x l p q b =
    let q1 = rw (noted-drop ns i n l p) at q in
    step-head e (new_mark h old n.item.name.now n.item.span.start) (member_checks h ((n.item.name.now, n.item.span.start) ∷ old) (member_views (drop (i + 1) ns))) x q1 b

pub noted-none : (h : Here) (ns : List (Documented IdSyntax)) (i : ℕ) (old : NameMarks) (x : Option Fault)
    → length ns ≤ i → first_fault (member_checks h old (member_views (drop i ns))) ≡ x → x ≡ None
noted-none h ns i old x l q = sym (rw (noted-end ns i l) at q)

pub noted_arms-next : (ns : List (Documented IdSyntax)) (i : ℕ) (n : Documented IdSyntax) (old new : List Arm) (m : List ℕ) (x : List Arm)
    → i < length ns → n ≡ get_or ns i n
    → old ++ map member_arm (member_views (drop i ns)) ≡ x
    → new ≡ old ++ record { called = m; payload = None; comment = documentation_of (comments_view n.comments) } ∷ []
    → m ≡ n.item.name.now
    → new ++ map member_arm (member_views (drop (i + 1) ns)) ≡ x
noted_arms-next ns i n old new m x l p e more a =
    let e1 = rw (noted-drop ns i n l p) at e in
    rw (more, append_assoc, a) e1

pub noted_arms-end : (ns : List (Documented IdSyntax)) (i : ℕ) (cs : List Case) (x : List Arm)
    → length ns ≤ i → map case_arm cs ++ map member_arm (member_views (drop i ns)) ≡ x → map case_arm cs ≡ x
noted_arms-end ns i cs x l e = let e1 = rw (noted-end ns i l, append-nil) at e in e1

pub noted_flags-next : (ns : List (Documented IdSyntax)) (i : ℕ) (n : Documented IdSyntax) (old new : List Field) (m : List ℕ) (t : Tree) (x : List Field)
    → i < length ns → n ≡ get_or ns i n
    → old ++ map flag_field (member_views (drop i ns)) ≡ x
    → new ≡ old ++ record { called = m; tree = t; comment = documentation_of (comments_view n.comments) } ∷ []
    → m ≡ n.item.name.now → t ≡ bool_tree
    → new ++ map flag_field (member_views (drop (i + 1) ns)) ≡ x
noted_flags-next ns i n old new m t x l p e more a b =
    let e1 = rw (noted-drop ns i n l p) at e in
    rw (more, append_assoc, a, b) e1

pub noted_flags-end : (ns : List (Documented IdSyntax)) (i : ℕ) (ms : List RecordMember) (x : List Field)
    → length ns ≤ i → map member_field ms ++ map flag_field (member_views (drop i ns)) ≡ x → map member_field ms ≡ x
noted_flags-end ns i ms x l e = let e1 = rw (noted-end ns i l, append-nil) at e in e1

pub ruleset noted_rules = (noted-next, noted-known, noted-none, noted_arms-next, noted_arms-end, noted_flags-next, noted_flags-end)

pub ruleset enum_rules = (tree_rules, fault-past, blames-head)

-- ---- tags

are_bare-payload : (n : List ℕ) (t : Option Tree) (d : List ℕ) (rest : List Arm) → are_bare (arms_of rest) ≡ all_arms_bare rest → are_bare (arm n t d (arms_of rest)) ≡ is_bare t && all_arms_bare rest
are_bare-payload n None d rest e = e
are_bare-payload n (Some t) d rest e = refl

are_bare-arms : (rest : List Arm) → are_bare (arms_of rest) ≡ all_arms_bare rest
are_bare-arms [] = refl
are_bare-arms (a ∷ rest) = are_bare-payload a.called a.payload a.comment rest (are_bare-arms rest)

pub bare-test : (v : Variant) → all_arms_bare (map case_arm (out-Variant v).cases) ≡ are_bare (arms_of (map case_arm (out-Variant v).cases))
bare-test v = sym (are_bare-arms (map case_arm (out-Variant v).cases))

pub ruleset case_rules = (kind_rules, bare-test)

-- ---- the types of a union

pub uparts-drop : (ts : List (Documented TypedefSyntax)) (i : ℕ) (t : Documented TypedefSyntax) → i < length ts → t ≡ get_or ts i t
    → union_fields_view (drop i ts) ≡ one_union_field (comments_view t.comments) (type_view t.item) (union_fields_view (drop (i + 1) ts))
uparts-drop ts i t l p = rw (drop_more ts i t l, ← p) refl

pub uparts-end : (ts : List (Documented TypedefSyntax)) (i : ℕ) → length ts ≤ i → union_fields_view (drop i ts) ≡ no_union_fields
uparts-end ts i l = rw (drop_all i ts l) refl

pub upart-next : (h : Here) (near : Location) (ts : List (Documented TypedefSyntax)) (i : ℕ) (t : Documented TypedefSyntax) (x : Option Fault)
    → i < length ts → t ≡ get_or ts i t
    → first_fault (union_field_checks h near (union_fields_view (drop i ts))) ≡ x
    → first_fault (type_checks h false near (type_view t.item)) ≡ None
    → first_fault (union_field_checks h near (union_fields_view (drop (i + 1) ts))) ≡ x
upart-next h near ts i t x l p e n =
    let e1 = rw (uparts-drop ts i t l p) at e in step-past None (type_checks h false near (type_view t.item)) (union_field_checks h near (union_fields_view (drop (i + 1) ts))) x e1 refl n

pub upart-wrong : (h : Here) (near : Location) (ts : List (Documented TypedefSyntax)) (i : ℕ) (t : Documented TypedefSyntax) (e : CheckError) (x : Option Fault)
    → i < length ts → t ≡ get_or ts i t
    → first_fault (union_field_checks h near (union_fields_view (drop i ts))) ≡ x
    → Blames e (first_fault (type_checks h false near (type_view t.item)))
    → Blames e x
upart-wrong h near ts i t e x l p q b =
    let q1 = rw (uparts-drop ts i t l p) at q in step-wrong e None (type_checks h false near (type_view t.item)) (union_field_checks h near (union_fields_view (drop (i + 1) ts))) x q1 refl b

pub upart-none : (h : Here) (near : Location) (ts : List (Documented TypedefSyntax)) (i : ℕ) (x : Option Fault)
    → length ts ≤ i → first_fault (union_field_checks h near (union_fields_view (drop i ts))) ≡ x → x ≡ None
upart-none h near ts i x l q = sym (rw (uparts-end ts i l) at q)

pub uarm-next : (h : Here) (names : Option (List (List ℕ))) (ts : List (Documented TypedefSyntax)) (i : ℕ) (t : Documented TypedefSyntax) (old new : List Arm) (n : List ℕ) (r : Tree) (x : List Arm)
    → i < length ts → t ≡ get_or ts i t
    → old ++ union_arms h names i (union_fields_view (drop i ts)) ≡ x
    → new ≡ old ++ record { called = n; payload = Some r; comment = documentation_of (comments_view t.comments) } ∷ []
    → n ≡ union_name names i → r ≡ tree_meant h (type_view t.item)
    → new ++ union_arms h names (i + 1) (union_fields_view (drop (i + 1) ts)) ≡ x
uarm-next h names ts i t old new n r x l p e more a b =
    let e1 = rw (uparts-drop ts i t l p) at e in
    rw (more, append_assoc, a, b) e1

pub uarm-end : (h : Here) (names : Option (List (List ℕ))) (ts : List (Documented TypedefSyntax)) (i : ℕ) (cs : List Case) (x : List Arm)
    → length ts ≤ i → map case_arm cs ++ union_arms h names i (union_fields_view (drop i ts)) ≡ x → map case_arm cs ≡ x
uarm-end h names ts i cs x l e = let e1 = rw (uparts-end ts i l, append-nil) at e in e1

pub ruleset union_rules = (upart-next, upart-wrong, upart-none, uarm-next, uarm-end)

-- ---- the cases of a variant

pub choices-drop : (cs : List (Documented CaseSyntax)) (i : ℕ) (c : Documented CaseSyntax) → i < length cs → c ≡ get_or cs i c
    → cases_view (drop i cs) ≡ one_case (comments_view c.comments) (name_view c.item.name) (maybe_of (option_map type_view c.item.ty)) (cases_view (drop (i + 1) cs))
choices-drop cs i c l p = rw (drop_more cs i c l, ← p, case-CaseSyntax c.item) refl

pub choices-end : (cs : List (Documented CaseSyntax)) (i : ℕ) → length cs ≤ i → cases_view (drop i cs) ≡ no_cases
choices-end cs i l = rw (drop_all i cs l) refl

-- names of cases that answer alike give the same checks
case-alike : (names : Option (List (List ℕ))) (a b : List (List ℕ)) (n : List ℕ) (at : Location) → has_name a n ≡ has_name b n → case_check names a n at ≡ case_check names b n at
case-alike None a b n at e = refl
case-alike (Some ns) a b n at e = rw e refl

seen-alike : (h : Here) (names : Option (List (List ℕ))) (a b : List (List ℕ)) (cs : Cases) → ((q : List ℕ) → has_name a q ≡ has_name b q) → case_checks h names a cs ≡ case_checks h names b cs
seen-alike h names a b no_cases s = refl
seen-alike h names a b (one_case docs m t cs) s =
    let e = seen-alike h names (a ++ m.name ∷ []) (b ++ m.name ∷ []) cs (λ q. has-push a m.name q ∙ ap (λ t. t || has_name (m.name ∷ []) q) (s q) ∙ sym (has-push b m.name q)) in
    rw (case-alike names a b m.name (h.place m.start) (s m.name), e) refl

-- without names no case is asked for those before it
untagged-alike : (h : Here) (a b : List (List ℕ)) (cs : Cases) → case_checks h None a cs ≡ case_checks h None b cs
untagged-alike h a b no_cases = refl
untagged-alike h a b (one_case docs m t cs) = rw (untagged-alike h (a ++ m.name ∷ []) (b ++ m.name ∷ []) cs) refl

sees-more : (h : Here) (names : Option (List (List ℕ))) (old new : NameMarks) (n : IdSyntax) (cs : Cases) → Sees names old new n
    → case_checks h names (keys_of new) cs ≡ case_checks h names (keys_of old ++ n.name.now ∷ []) cs
sees-more h None old new n cs s = untagged-alike h (keys_of new) (keys_of old ++ n.name.now ∷ []) cs
sees-more h (Some names) old new n cs s = seen-alike h (Some names) (keys_of new) (keys_of old ++ n.name.now ∷ []) cs (λ q. seen-more old new n.name.now q n.span.start (s q))

pub choice-next : (h : Here) (names : Option (List (List ℕ))) (cs : List (Documented CaseSyntax)) (i : ℕ) (c : Documented CaseSyntax) (old new : NameMarks) (x : Option Fault)
    → i < length cs → c ≡ get_or cs i c
    → first_fault (case_checks h names (keys_of old) (cases_view (drop i cs))) ≡ x
    → name_check h names old c.item.name ≡ None
    → first_fault (maybe_checks h (h.place c.item.name.span.start) (maybe_of (option_map type_view c.item.ty))) ≡ None
    → Sees names old new c.item.name
    → first_fault (case_checks h names (keys_of new) (cases_view (drop (i + 1) cs))) ≡ x
choice-next h names cs i c old new x l p e k t s =
    let e1 = rw (choices-drop cs i c l p) at e in
    let e2 = step-past (name_check h names old c.item.name) (maybe_checks h (h.place c.item.name.span.start) (maybe_of (option_map type_view c.item.ty))) (case_checks h names (keys_of old ++ c.item.name.name.now ∷ []) (cases_view (drop (i + 1) cs))) x e1 k t in
    rw (sees-more h names old new c.item.name (cases_view (drop (i + 1) cs)) s) e2

pub choice-bad : (h : Here) (names : Option (List (List ℕ))) (cs : List (Documented CaseSyntax)) (i : ℕ) (c : Documented CaseSyntax) (seen : NameMarks) (e : CheckError) (x : Option Fault)
    → i < length cs → c ≡ get_or cs i c
    → first_fault (case_checks h names (keys_of seen) (cases_view (drop i cs))) ≡ x
    → Blames e (name_check h names seen c.item.name)
    → Blames e x
choice-bad h names cs i c seen e x l p q b =
    let q1 = rw (choices-drop cs i c l p) at q in
    step-head e (name_check h names seen c.item.name) (maybe_checks h (h.place c.item.name.span.start) (maybe_of (option_map type_view c.item.ty)) ++ case_checks h names (keys_of seen ++ c.item.name.name.now ∷ []) (cases_view (drop (i + 1) cs))) x q1 b

pub choice-wrong : (h : Here) (names : Option (List (List ℕ))) (cs : List (Documented CaseSyntax)) (i : ℕ) (c : Documented CaseSyntax) (seen : NameMarks) (e : CheckError) (x : Option Fault)
    → i < length cs → c ≡ get_or cs i c
    → first_fault (case_checks h names (keys_of seen) (cases_view (drop i cs))) ≡ x
    → name_check h names seen c.item.name ≡ None
    → Blames e (first_fault (maybe_checks h (h.place c.item.name.span.start) (maybe_of (option_map type_view c.item.ty))))
    → Blames e x
choice-wrong h names cs i c seen e x l p q k b =
    let q1 = rw (choices-drop cs i c l p) at q in
    step-wrong e (name_check h names seen c.item.name) (maybe_checks h (h.place c.item.name.span.start) (maybe_of (option_map type_view c.item.ty))) (case_checks h names (keys_of seen ++ c.item.name.name.now ∷ []) (cases_view (drop (i + 1) cs))) x q1 k b

pub choice-none : (h : Here) (names : Option (List (List ℕ))) (cs : List (Documented CaseSyntax)) (i : ℕ) (seen : List (List ℕ)) (x : Option Fault)
    → length cs ≤ i → first_fault (case_checks h names seen (cases_view (drop i cs))) ≡ x → x ≡ None
choice-none h names cs i seen x l q = sym (rw (choices-end cs i l) at q)

pub carm-next : (h : Here) (cs : List (Documented CaseSyntax)) (i : ℕ) (s : Documented CaseSyntax) (old new : List Arm) (n : List ℕ) (t : Option Tree) (x : List Arm)
    → i < length cs → s ≡ get_or cs i s
    → old ++ case_arms h (cases_view (drop i cs)) ≡ x
    → new ≡ old ++ record { called = n; payload = t; comment = documentation_of (comments_view s.comments) } ∷ []
    → n ≡ s.item.name.name.now → t ≡ maybe_tree h (maybe_of (option_map type_view s.item.ty))
    → new ++ case_arms h (cases_view (drop (i + 1) cs)) ≡ x
carm-next h cs i s old new n t x l p e more a b =
    let e1 = rw (choices-drop cs i s l p) at e in
    rw (more, append_assoc, a, b) e1

pub carm-end : (h : Here) (cs : List (Documented CaseSyntax)) (i : ℕ) (ms : List Case) (x : List Arm)
    → length cs ≤ i → map case_arm ms ++ case_arms h (cases_view (drop i cs)) ≡ x → map case_arm ms ≡ x
carm-end h cs i ms x l e = let e1 = rw (choices-end cs i l, append-nil) at e in e1

pub ruleset choice_rules = (choice-next, choice-bad, choice-wrong, choice-none, carm-next, carm-end)

-- ---- a list, a check and a list

pub then-ok : (xs ys : List Check) (c : Check) → first_fault xs ≡ None → c ≡ None → first_fault (xs ++ c ∷ ys) ≡ first_fault ys
then-ok xs ys c n k = rw (fault-append xs (c ∷ ys) n) (fault-past c ys k)

pub then-bad : (e : CheckError) (xs ys : List Check) (c : Check) → first_fault xs ≡ None → Blames e c → Blames e (first_fault (xs ++ c ∷ ys))
then-bad e xs ys c n b = blames-to e (first_fault (c ∷ ys)) (first_fault (xs ++ c ∷ ys)) (sym (fault-append xs (c ∷ ys) n)) (blames-head e c ys b)

pub then-wrong : (e : CheckError) (xs ys : List Check) (c : Check) → first_fault xs ≡ None → c ≡ None → Blames e (first_fault ys) → Blames e (first_fault (xs ++ c ∷ ys))
then-wrong e xs ys c n k b = blames-to e (first_fault ys) (first_fault (xs ++ c ∷ ys)) (sym (then-ok xs ys c n k)) b

pub ruleset tag_rules = (type_rules, then-ok, then-bad)

pub ruleset tagged_rules = (form_rules, tree_rules, then-ok, then-bad, then-wrong, blames-append)

union_fields_count-in : (ts : List (Documented TypedefSyntax)) → union_fields_count (union_fields_view ts) ≡ length ts
union_fields_count-in [] = refl
union_fields_count-in (t ∷ ts) = rw (union_fields_count-in ts) (add-one (length ts))

cases_count-in : (cs : List (Documented CaseSyntax)) → cases_count (cases_view cs) ≡ length cs
cases_count-in [] = refl
cases_count-in (c ∷ cs) = rw (cases_count-in cs) (add-one (length cs))

pub union-checks : (h : Here) (near : Location) (u : UnionSyntax) → first_fault (type_checks h true near (union_of (boxed_view (out-UnionSyntax u).tag) (union_fields_view (out-UnionSyntax u).fields))) ≡ first_fault (union_checks h near u)
union-checks h near u =
    let e : (maybe_checks h near (boxed_view (out-UnionSyntax u).tag) ++ tag_checks (maybe_tree h (boxed_view (out-UnionSyntax u).tag)) near) ++ (size_check (tag_names (maybe_tree h (boxed_view (out-UnionSyntax u).tag))) (length (out-UnionSyntax u).fields) near ∷ union_field_checks h near (union_fields_view (out-UnionSyntax u).fields)) ≡ maybe_checks h near (boxed_view (out-UnionSyntax u).tag) ++ (tag_checks (maybe_tree h (boxed_view (out-UnionSyntax u).tag)) near ++ (size_check (tag_names (maybe_tree h (boxed_view (out-UnionSyntax u).tag))) (length (out-UnionSyntax u).fields) near ∷ union_field_checks h near (union_fields_view (out-UnionSyntax u).fields)))
    = append_assoc (maybe_checks h near (boxed_view (out-UnionSyntax u).tag)) (tag_checks (maybe_tree h (boxed_view (out-UnionSyntax u).tag)) near) (size_check (tag_names (maybe_tree h (boxed_view (out-UnionSyntax u).tag))) (length (out-UnionSyntax u).fields) near ∷ union_field_checks h near (union_fields_view (out-UnionSyntax u).fields)) in
    rw (union_fields_count-in (out-UnionSyntax u).fields) (ap first_fault (sym e))

pub variant-checks : (h : Here) (near : Location) (u : VariantSyntax) → first_fault (type_checks h true near (variant_of (boxed_view (out-VariantSyntax u).tag) (cases_view (out-VariantSyntax u).cases))) ≡ first_fault (variant_checks h near u)
variant-checks h near u =
    let e : (maybe_checks h near (boxed_view (out-VariantSyntax u).tag) ++ tag_checks (maybe_tree h (boxed_view (out-VariantSyntax u).tag)) near) ++ (size_check (tag_names (maybe_tree h (boxed_view (out-VariantSyntax u).tag))) (length (out-VariantSyntax u).cases) near ∷ case_checks h (tag_names (maybe_tree h (boxed_view (out-VariantSyntax u).tag))) [] (cases_view (out-VariantSyntax u).cases)) ≡ maybe_checks h near (boxed_view (out-VariantSyntax u).tag) ++ (tag_checks (maybe_tree h (boxed_view (out-VariantSyntax u).tag)) near ++ (size_check (tag_names (maybe_tree h (boxed_view (out-VariantSyntax u).tag))) (length (out-VariantSyntax u).cases) near ∷ case_checks h (tag_names (maybe_tree h (boxed_view (out-VariantSyntax u).tag))) [] (cases_view (out-VariantSyntax u).cases)))
    = append_assoc (maybe_checks h near (boxed_view (out-VariantSyntax u).tag)) (tag_checks (maybe_tree h (boxed_view (out-VariantSyntax u).tag)) near) (size_check (tag_names (maybe_tree h (boxed_view (out-VariantSyntax u).tag))) (length (out-VariantSyntax u).cases) near ∷ case_checks h (tag_names (maybe_tree h (boxed_view (out-VariantSyntax u).tag))) [] (cases_view (out-VariantSyntax u).cases)) in
    rw (cases_count-in (out-VariantSyntax u).cases) (ap first_fault (sym e))

pub ruleset checked_rules = (type_rules, union-checks, variant-checks)

-- ---- the guard on a type without a name

lacks-none : (b : Bool) → not b ≡ false → b ≡ true
lacks-none true e = refl
lacks-none false e = absurd (cc)

pub guard-passed : (h : Here) (named : Bool) (near : Location) (t : TypeTree) → lacks_name named t ≡ false → first_fault (type_checks h named near t) ≡ first_fault (type_checks h true near t)
guard-passed h named near (ident m) e = refl
guard-passed h named near (builtin b) e = refl
guard-passed h named near string e = refl
guard-passed h named near boolean e = refl
guard-passed h named near handle e = rw (lacks-none named e) refl
guard-passed h named near (list_of t) e = refl
guard-passed h named near (pointer_to t) e = refl
guard-passed h named near (const_pointer_to t) e = refl
guard-passed h named near (tuple_of ts) e = refl
guard-passed h named near (enum_of r ns) e = rw (lacks-none named e) refl
guard-passed h named near (flags_of r ns) e = rw (lacks-none named e) refl
guard-passed h named near (record_of rs) e = rw (lacks-none named e) refl
guard-passed h named near (union_of tag ps) e = rw (lacks-none named e) refl
guard-passed h named near (variant_of tag cs) e = refl
guard-passed h named near (expected ok err) e = refl

lacks-one : (b : Bool) → not b ≡ true → b ≡ false
lacks-one true e = absurd (cc)
lacks-one false e = refl

pub guard-stopped : (h : Here) (named : Bool) (near : Location) (t : TypeTree) → lacks_name named t ≡ true → first_fault (type_checks h named near t) ≡ Some (anonymous_record near)
guard-stopped h named near (ident m) e = absurd (cc)
guard-stopped h named near (builtin b) e = absurd (cc)
guard-stopped h named near string e = absurd (cc)
guard-stopped h named near boolean e = absurd (cc)
guard-stopped h named near handle e = rw (lacks-one named e) refl
guard-stopped h named near (list_of t) e = absurd (cc)
guard-stopped h named near (pointer_to t) e = absurd (cc)
guard-stopped h named near (const_pointer_to t) e = absurd (cc)
guard-stopped h named near (tuple_of ts) e = absurd (cc)
guard-stopped h named near (enum_of r ns) e = rw (lacks-one named e) refl
guard-stopped h named near (flags_of r ns) e = rw (lacks-one named e) refl
guard-stopped h named near (record_of rs) e = rw (lacks-one named e) refl
guard-stopped h named near (union_of tag ps) e = rw (lacks-one named e) refl
guard-stopped h named near (variant_of tag cs) e = absurd (cc)
guard-stopped h named near (expected ok err) e = absurd (cc)

pub ruleset guarded_rules = (checked_rules, guard-passed, guard-stopped)
