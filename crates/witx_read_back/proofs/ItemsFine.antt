-- The checks over the syntax of printed functions and modules pass, and it means them but for documentation.
use Rattle.std.proofs.Common.{◌≡◌, ℕ, ◌+◌, Bool, true, false, List, [], ◌∷◌, ◌++◌, map, Option, Some, None, refl, sym, ap, ◌∙◌, subst}
use Rattle.std.specs.Prelude.{option_map}
use Rattle.std.specs.Map.{keys_of}
use Rattle.witx_files.specs.declared.location.Location.{Location}
use Rattle.witx_ast.specs.declared.function.Abi.{Abi}
use Rattle.witx_ast.specs.declared.module.ModuleImport.{ModuleImport}
use Rattle.witx_ast.specs.declared.module.ModuleImportVariant.{ModuleImportVariant}
use Rattle.witx_ast.specs.declared.module.ModuleImportVariant.TheVariants.{Memory}
use Rattle.witx_ast.specs.Tree.{Tree, Field}
use Rattle.witx_ast.specs.Functions.{FunctionTree}
use Rattle.witx_ast.specs.Results.{results_reason}
use Rattle.witx_ast.specs.Items.{ItemTree, import_of, func_of}
use Rattle.witx_comments.specs.Comments.{Comments}
use Rattle.witx_syntax_tree.specs.Trees.{Name, QuotedText, TypeTree, Fields, no_fields, one_field, DeclTree, memory, function, NotedDecl}
use Rattle.witx_scope.specs.Faults.{Fault, Check, first_fault, abi}
use Rattle.witx_scope.specs.Names.{Here, NameMarks, new_mark}
use Rattle.witx_scope.specs.Trees.{tree_meant, fields_meant}
use Rattle.witx_scope.specs.Checks.{type_checks, field_checks}
use Rattle.witx_scope.specs.Functions.{fields_scope, result_checks, abi_of, abi_check, func_checks, func_meant}
use Rattle.witx_scope.specs.Modules.{item_checks, items_checks, with_name, quoted_name, decl_meant, item_meant, item_called}
use Rattle.witx_read_back.specs.Emptied.{emptied, emptied_param, emptied_item}
use Rattle.witx_read_back.proofs.Stands.{Denotes, Stands, param_names, scope_after, ParamsStand, FuncStands, ItemStands, ItemsStand}
use Rattle.witx_read_back.specs.Distinct.{any_same, AllNew}
use Rattle.witx_read_back.specs.Says.{Says, SaysParams, SaysItem, SaysItems, is_stored}
use Rattle.witx_read_back.proofs.Fine.{Pass, passes, both_pass, new_mark_passes, Agrees, Fine, type_fine}
use Rattle.witx_read_back.proofs.Permitted.{same_reason}

same_param : (n k : List ℕ) (t u : Tree) (ps qs : List Field) → n ≡ k → t ≡ u → ps ≡ qs
    → record { called = n; tree = t; comment = [] } ∷ ps ≡ record { called = k; tree = u; comment = [] } ∷ qs
same_param n k t u ps qs e f g = cc

seen_as : (k n : List ℕ) (seen ns : List (List ℕ)) → k ≡ n → AllNew (n ∷ seen) ns → AllNew (k ∷ seen) ns
seen_as k n seen ns e w = subst (λ (m : List ℕ). AllNew (m ∷ seen) ns) (sym e) w

params_meant : (D : Denotes) (h : Here) → Agrees D h → (ps : List Field) (fs : Fields) → ParamsStand D ps → SaysParams ps fs → map emptied_param (fields_meant h fs) ≡ map emptied_param ps
params_meant D h g [] fs w q = ap (λ (x : Fields). map emptied_param (fields_meant h x)) q
params_meant D h g (p ∷ ps) fs w q =
    ap (λ (x : Fields). map emptied_param (fields_meant h x)) q.4
    ∙ same_param q.1.name p.called (emptied (tree_meant h q.2)) (emptied p.tree) (map emptied_param (fields_meant h q.3)) (map emptied_param ps) q.5
    (type_fine D h g false p.tree q.2 w.0 q.6).0 (params_meant D h g ps q.3 w.1 q.7)

params_pass : (D : Denotes) (h : Here) → Agrees D h → (ps : List Field) (fs : Fields) (marks : NameMarks) → ParamsStand D ps → SaysParams ps fs → AllNew (keys_of marks) (param_names ps) → Pass (field_checks h marks fs)
params_pass D h g [] fs marks w q n = subst (λ (x : Fields). Pass (field_checks h marks x)) (sym q) refl
params_pass D h g (p ∷ ps) fs marks w q n =
    let m = q.1 in
    subst (λ (x : Fields). Pass (field_checks h marks x)) (sym q.4)
    (passes (new_mark h marks m.name m.start) (type_checks h false (h.place m.start) q.2 ++ field_checks h ((m.name, m.start) ∷ marks) q.3)
    (new_mark_passes h marks m.name m.start (ap (λ (l : List ℕ). any_same l (keys_of marks)) q.5 ∙ n.0))
    (both_pass (type_checks h false (h.place m.start) q.2) (field_checks h ((m.name, m.start) ∷ marks) q.3) ((type_fine D h g false p.tree q.2 w.0 q.6).1 (h.place m.start))
    (params_pass D h g ps q.3 ((m.name, m.start) ∷ marks) w.1 q.7 (seen_as m.name p.called (keys_of marks) (param_names ps) q.5 n.1))))

results_pass : (D : Denotes) (h : Here) → Agrees D h → (ps : List Field) (fs : Fields) (marks : NameMarks) → ParamsStand D ps → SaysParams ps fs → AllNew (keys_of marks) (param_names ps) → Pass (result_checks h marks fs)
results_pass D h g [] fs marks w q n = subst (λ (x : Fields). Pass (result_checks h marks x)) (sym q) refl
results_pass D h g (p ∷ ps) fs marks w q n =
    let m = q.1 in
    subst (λ (x : Fields). Pass (result_checks h marks x)) (sym q.4)
    (both_pass (type_checks h false (h.place m.start) q.2) (new_mark h marks m.name m.start ∷ result_checks h ((m.name, m.start) ∷ marks) q.3) ((type_fine D h g false p.tree q.2 w.0 q.6).1 (h.place m.start))
    (passes (new_mark h marks m.name m.start) (result_checks h ((m.name, m.start) ∷ marks) q.3)
    (new_mark_passes h marks m.name m.start (ap (λ (l : List ℕ). any_same l (keys_of marks)) q.5 ∙ n.0))
    (results_pass D h g ps q.3 ((m.name, m.start) ∷ marks) w.1 q.7 (seen_as m.name p.called (keys_of marks) (param_names ps) q.5 n.1))))

scope_is : (ps : List Field) (fs : Fields) (marks : NameMarks) → SaysParams ps fs → keys_of (fields_scope marks fs) ≡ scope_after (keys_of marks) (param_names ps)
scope_is [] fs marks q = ap (λ (x : Fields). keys_of (fields_scope marks x)) q
scope_is (p ∷ ps) fs marks q =
    ap (λ (x : Fields). keys_of (fields_scope marks x)) q.4 ∙ scope_is ps q.3 ((q.1.name, q.1.start) ∷ marks) q.7
    ∙ ap (λ (l : List ℕ). scope_after (l ∷ keys_of marks) (param_names ps)) q.5

-- ---- functions

func_pass : (D : Denotes) (h : Here) → Agrees D h → (f : FunctionTree) (marks : NameMarks) (q : QuotedText) (ps rs : Fields) → FuncStands D f → q.text ≡ f.name → SaysParams f.params ps → SaysParams f.results rs
    → any_same f.name (keys_of marks) ≡ false → Pass (func_checks h marks f.abi q ps rs)
func_pass D h g f marks q ps rs w e a b n =
    passes (new_mark h marks q.text q.start) (field_checks h [] ps ++ (result_checks h (fields_scope [] ps) rs ++ (abi_check f.abi (fields_meant h rs) (h.place q.start) ∷ [])))
    (new_mark_passes h marks q.text q.start (ap (λ (l : List ℕ). any_same l (keys_of marks)) e ∙ n))
    (both_pass (field_checks h [] ps) (result_checks h (fields_scope [] ps) rs ++ (abi_check f.abi (fields_meant h rs) (h.place q.start) ∷ [])) (params_pass D h g f.params ps [] w.params a w.param_names_new)
    (both_pass (result_checks h (fields_scope [] ps) rs) (abi_check f.abi (fields_meant h rs) (h.place q.start) ∷ [])
    (results_pass D h g f.results rs (fields_scope [] ps) w.results b (subst (λ (l : List (List ℕ)). AllNew l (param_names f.results)) (sym (scope_is f.params ps [] a)) w.result_names_new))
    (passes (abi_check f.abi (fields_meant h rs) (h.place q.start)) []
    (ap (λ (o : Option (List ℕ)). option_map (λ reason. abi reason (h.place q.start)) o) (same_reason f.abi (fields_meant h rs) f.results (params_meant D h g f.results rs w.results b) ∙ w.permitted)) refl)))

-- ---- items

-- the form means the item but for documentation
abbrev pub ItemMeant : Here → ItemTree → NotedDecl → Type 0
ItemMeant h i d = emptied_item (item_meant h d) ≡ emptied_item i

the_memory : (v : ModuleImportVariant) → Memory ≡ v
the_memory Memory = refl

the_abi : (a : Abi) → abi_of (is_stored a) ≡ a
the_abi Abi.Preview1 = refl
the_abi Abi.Stored = refl

same_import : (n k : List ℕ) (v u : ModuleImportVariant) → n ≡ k → v ≡ u → import_of (record { name = n; variant = v; docs = [] }) ≡ import_of (record { name = k; variant = u; docs = [] })
same_import n k v u e f = cc

same_func : (a c : Abi) (n k : List ℕ) (ps qs rs ss : List Field) (b : Bool) → a ≡ c → n ≡ k → ps ≡ qs → rs ≡ ss
    → func_of (record { abi = a; name = n; params = ps; results = rs; noreturn = b; comment = [] }) ≡ func_of (record { abi = c; name = k; params = qs; results = ss; noreturn = b; comment = [] })
same_func a c n k ps qs rs ss b e f g j = cc

import_means : (h : Here) (i : ModuleImport) (cs : Comments) (q : QuotedText) → q.text ≡ i.name → emptied_item (decl_meant h cs (memory q)) ≡ emptied_item (import_of i)
import_means h i cs q e = same_import q.text i.name Memory i.variant e (the_memory i.variant)

item_means : (D : Denotes) (h : Here) → Agrees D h → (i : ItemTree) (d : NotedDecl) → ItemStands D i → SaysItem i d.decl → ItemMeant h i d
item_means D h g (import_of i) d w q = ap (λ (x : DeclTree). emptied_item (decl_meant h d.comments x)) q.1 ∙ import_means h i d.comments q.0 q.2
item_means D h g (func_of f) d w q =
    ap (λ (x : DeclTree). emptied_item (decl_meant h d.comments x)) q.3
    ∙ same_func (abi_of (is_stored f.abi)) f.abi q.0.text f.name (map emptied_param (fields_meant h q.1)) (map emptied_param f.params) (map emptied_param (fields_meant h q.2)) (map emptied_param f.results) f.noreturn
    (the_abi f.abi) q.4 (params_meant D h g f.params q.1 w.params q.5) (params_meant D h g f.results q.2 w.results q.6)

item_passes : (D : Denotes) (h : Here) → Agrees D h → (i : ItemTree) (d : DeclTree) (marks : NameMarks) → ItemStands D i → SaysItem i d → any_same (item_called i) (keys_of marks) ≡ false
    → Pass (item_checks h marks d) × ((quoted_name d).text ≡ item_called i)
item_passes D h g (import_of i) d marks w q n =
    subst (λ (x : DeclTree). Pass (item_checks h marks x) × ((quoted_name x).text ≡ i.name)) (sym q.1)
    (passes (new_mark h marks q.0.text q.0.start) [] (new_mark_passes h marks q.0.text q.0.start (ap (λ (l : List ℕ). any_same l (keys_of marks)) q.2 ∙ n)) refl, q.2)
item_passes D h g (func_of f) d marks w q n =
    subst (λ (x : DeclTree). Pass (item_checks h marks x) × ((quoted_name x).text ≡ f.name)) (sym q.3)
    (subst (λ (a : Abi). Pass (func_checks h marks a q.0 q.1 q.2)) (sym (the_abi f.abi)) (func_pass D h g f marks q.0 q.1 q.2 w q.4 q.5 q.6 n), q.4)

pub items_pass : (D : Denotes) (h : Here) → Agrees D h → (is : List ItemTree) (ds : List NotedDecl) (marks : NameMarks) → ItemsStand D is → SaysItems is ds → AllNew (keys_of marks) (map item_called is)
    → Pass (items_checks h marks ds)
items_pass D h g [] ds marks w q n = subst (λ (x : List NotedDecl). Pass (items_checks h marks x)) (sym q) refl
items_pass D h g (i ∷ is) ds marks w q n =
    let p = item_passes D h g i q.0.decl marks w.0 q.3 n.0 in
    subst (λ (x : List NotedDecl). Pass (items_checks h marks x)) (sym q.2)
    (both_pass (item_checks h marks q.0.decl) (items_checks h (with_name q.0.decl marks) q.1) p.0
    (items_pass D h g is q.1 (with_name q.0.decl marks) w.1 q.4 (seen_as (quoted_name q.0.decl).text (item_called i) (keys_of marks) (map item_called is) p.1 n.1)))

pub items_mean : (D : Denotes) (h : Here) → Agrees D h → (is : List ItemTree) (ds : List NotedDecl) → ItemsStand D is → SaysItems is ds → map emptied_item (map (item_meant h) ds) ≡ map emptied_item is
items_mean D h g [] ds w q = ap (λ (x : List NotedDecl). map emptied_item (map (item_meant h) x)) q
items_mean D h g (i ∷ is) ds w q =
    ap (λ (x : List NotedDecl). map emptied_item (map (item_meant h) x)) q.2
    ∙ ap (λ (x : ItemTree). x ∷ map emptied_item (map (item_meant h) q.1)) (item_means D h g i q.0 w.0 q.3)
    ∙ ap (λ (l : List ItemTree). emptied_item i ∷ l) (items_mean D h g is q.1 w.1 q.4)
