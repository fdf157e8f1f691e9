-- Functions and modules that forms mean, where the checks pass and the types are plain, can stand where they are printed, and can be written.
use Rattle.std.proofs.Common.{◌≡◌, ℕ, Bool, true, false, List, [], ◌∷◌, ◌++◌, map, Option, Some, None, refl, sym, ap, ◌∙◌, subst}
use Rattle.std.specs.Prelude.{option_map}
use Rattle.std.specs.Map.{keys_of}
use Rattle.witx_files.specs.declared.location.Location.{Location}
use Rattle.witx_ast.specs.Tree.{Tree, Field}
use Rattle.witx_ast.specs.Functions.{FunctionTree}
use Rattle.witx_ast.specs.Results.{results_reason}
use Rattle.witx_ast.specs.Items.{ItemTree, import_of, func_of}
use Rattle.witx_comments.specs.Comments.{Comments}
use Rattle.witx_syntax_tree.specs.Trees.{Name, QuotedText, TypeTree, Fields, no_fields, one_field, DeclTree, memory, function, NotedDecl}
use Rattle.witx_scope.specs.Faults.{Fault, Check, first_fault, abi}
use Rattle.witx_scope.specs.Names.{Here, NameMarks, new_mark}
use Rattle.witx_scope.specs.Trees.{tree_meant, fields_meant}
use Rattle.witx_scope.specs.Checks.{type_checks, field_checks}
use Rattle.witx_scope.specs.Functions.{fields_scope, result_checks, abi_of, abi_check, func_checks}
use Rattle.witx_scope.specs.Modules.{item_checks, items_checks, with_name, decl_meant, item_meant, item_called}
use Rattle.witx_read_back.proofs.Stands.{Denotes, param_names, scope_after, ParamsStand, FuncStands, ItemStands, ItemsStand}
use Rattle.witx_read_back.specs.Distinct.{any_same, AllNew}
use Rattle.witx_read_back.specs.Plain.{PlainType, PlainParams, PlainItem, PlainItems}
use Rattle.witx_read_back.proofs.Writable.{ParamsWritable, ItemWritable, ItemsWritable}
use Rattle.witx_read_back.proofs.Fine.{Pass}
use Rattle.witx_read_back.proofs.Given.{Knows, Filled, FilledFields, head_passes, parts_pass, mark_is_new, mapped_none, type_given}

params_given : (D : Denotes) (h : Here) → Knows D h → (marks : NameMarks) (fs : Fields) → Pass (field_checks h marks fs) → FilledFields fs → PlainParams (fields_meant h fs)
    → AllNew (keys_of marks) (param_names (fields_meant h fs)) × ParamsStand D (fields_meant h fs) × ParamsWritable (fields_meant h fs)
params_given D h g marks no_fields e f w = (tt, tt, tt)
params_given D h g marks (one_field k m t fs) e f w =
    let p = head_passes (new_mark h marks m.name m.start) (type_checks h false (h.place m.start) t ++ field_checks h ((m.name, m.start) ∷ marks) fs) e in
    let q = parts_pass (type_checks h false (h.place m.start) t) (field_checks h ((m.name, m.start) ∷ marks) fs) p.1 in
    let a = type_given D h g false (h.place m.start) t q.0 f.0 w.0 in
    let b = params_given D h g ((m.name, m.start) ∷ marks) fs q.1 f.1 w.1 in
    ((mark_is_new h marks m.name m.start p.0, b.0), (a.0, b.1), (a.1, b.2))

results_given : (D : Denotes) (h : Here) → Knows D h → (marks : NameMarks) (fs : Fields) → Pass (result_checks h marks fs) → FilledFields fs → PlainParams (fields_meant h fs)
    → AllNew (keys_of marks) (param_names (fields_meant h fs)) × ParamsStand D (fields_meant h fs) × ParamsWritable (fields_meant h fs)
results_given D h g marks no_fields e f w = (tt, tt, tt)
results_given D h g marks (one_field k m t fs) e f w =
    let p = parts_pass (type_checks h false (h.place m.start) t) (new_mark h marks m.name m.start ∷ result_checks h ((m.name, m.start) ∷ marks) fs) e in
    let q = head_passes (new_mark h marks m.name m.start) (result_checks h ((m.name, m.start) ∷ marks) fs) p.1 in
    let a = type_given D h g false (h.place m.start) t p.0 f.0 w.0 in
    let b = results_given D h g ((m.name, m.start) ∷ marks) fs q.1 f.1 w.1 in
    ((mark_is_new h marks m.name m.start q.0, b.0), (a.0, b.1), (a.1, b.2))

scope_meant : (h : Here) (marks : NameMarks) (fs : Fields) → keys_of (fields_scope marks fs) ≡ scope_after (keys_of marks) (param_names (fields_meant h fs))
scope_meant h marks no_fields = refl
scope_meant h marks (one_field k m t fs) = scope_meant h ((m.name, m.start) ∷ marks) fs

abbrev pub FilledDecl : DeclTree → Type 0
FilledDecl (memory q) = Unit {0}
FilledDecl (function q ps rs n s) = FilledFields ps × FilledFields rs

abbrev pub FilledDecls : List NotedDecl → Type 0
FilledDecls [] = Unit {0}
FilledDecls (d ∷ ds) = FilledDecl d.decl × FilledDecls ds

item_given : (D : Denotes) (h : Here) → Knows D h → (marks : NameMarks) (cs : Comments) (d : DeclTree) → Pass (item_checks h marks d) → FilledDecl d → PlainItem (decl_meant h cs d)
    → (any_same (item_called (decl_meant h cs d)) (keys_of marks) ≡ false) × ItemStands D (decl_meant h cs d) × ItemWritable (decl_meant h cs d)
item_given D h g marks cs (memory q) e f w = (mark_is_new h marks q.text q.start (head_passes (new_mark h marks q.text q.start) [] e).0, tt, tt)
item_given D h g marks cs (function q ps rs n s) e f w =
    let p = head_passes (new_mark h marks q.text q.start) (field_checks h [] ps ++ (result_checks h (fields_scope [] ps) rs ++ (abi_check (abi_of s) (fields_meant h rs) (h.place q.start) ∷ []))) e in
    let r = parts_pass (field_checks h [] ps) (result_checks h (fields_scope [] ps) rs ++ (abi_check (abi_of s) (fields_meant h rs) (h.place q.start) ∷ [])) p.1 in
    let k = parts_pass (result_checks h (fields_scope [] ps) rs) (abi_check (abi_of s) (fields_meant h rs) (h.place q.start) ∷ []) r.1 in
    let t = head_passes (abi_check (abi_of s) (fields_meant h rs) (h.place q.start)) [] k.1 in
    let a = params_given D h g [] ps r.0 f.0 w.0 in
    let c = results_given D h g (fields_scope [] ps) rs k.0 f.1 w.1 in (
      mark_is_new h marks q.text q.start p.0,
      record {
        params = a.1;
        results = c.1;
        param_names_new = a.0;
        result_names_new = subst (λ (l : List (List ℕ)). AllNew l (param_names (fields_meant h rs))) (scope_meant h [] ps) c.0;
        permitted = mapped_none (λ reason. abi reason (h.place q.start)) (results_reason (abi_of s) (fields_meant h rs)) t.0;
      },
      (a.2, c.2),
    )

called_as : (h : Here) (cs : Comments) (d : DeclTree) (marks : NameMarks) → keys_of (with_name d marks) ≡ item_called (decl_meant h cs d) ∷ keys_of marks
called_as h cs (memory q) marks = refl
called_as h cs (function q ps rs n s) marks = refl

pub items_given : (D : Denotes) (h : Here) → Knows D h → (marks : NameMarks) (ds : List NotedDecl) → Pass (items_checks h marks ds) → FilledDecls ds → PlainItems (map (item_meant h) ds)
    → AllNew (keys_of marks) (map item_called (map (item_meant h) ds)) × ItemsStand D (map (item_meant h) ds) × ItemsWritable (map (item_meant h) ds)
items_given D h g marks [] e f w = (tt, tt, tt)
items_given D h g marks (d ∷ ds) e f w =
    let p = parts_pass (item_checks h marks d.decl) (items_checks h (with_name d.decl marks) ds) e in
    let a = item_given D h g marks d.comments d.decl p.0 f.0 w.0 in
    let b = items_given D h g (with_name d.decl marks) ds p.1 f.1 w.1 in
    ((a.0, subst (λ (l : List (List ℕ)). AllNew l (map item_called (map (item_meant h) ds))) (called_as h d.comments d.decl marks) b.0), (a.1, b.1), (a.2, b.2))
