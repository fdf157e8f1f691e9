-- The declarations of a printed document have no fault, and define the printed definitions but for documentation.
use Rattle.std.proofs.Common.{◌≡◌, ℕ, ◌+◌, Bool, true, false, cond, List, [], ◌∷◌, ◌++◌, map, Option, Some, None, refl, sym, ap, ◌∙◌, subst}
use Rattle.std.specs.Prelude.{option_map}
use Rattle.std.specs.Ordering.{is_eq, nat_cmp}
use Rattle.std.specs.Cmp.Lexicographic.{slice_cmp}
use Rattle.std.proofs.lemmas.List.{append_assoc}
use Rattle.witx_base.specs.Paths.{Path}
use Rattle.witx_base.specs.Found.{found}
use Rattle.witx_files.specs.declared.location.Location.{Location}
use Rattle.witx_ast.specs.Tree.{Tree}
use Rattle.witx_ast.specs.Items.{ItemTree}
use Rattle.witx_ast.specs.Definitions.{DefinitionTree, ModuleTree, typename_of, module_of, constant_of}
use Rattle.witx_syntax_tree.specs.Trees as forms
use Rattle.witx_comments.specs.Comments.{Comments}
use Rattle.witx_syntax_tree.specs.Trees.{Name, TypeTree, NotedDecl, NotedItem}
use Rattle.witx_scope.specs.Faults.{Fault, Check, first_fault, name_already_exists}
use Rattle.witx_scope.specs.Names.{Here, Sense, a_type}
use Rattle.witx_scope.specs.Trees.{tree_meant}
use Rattle.witx_scope.specs.Checks.{type_checks}
use Rattle.witx_scope.specs.Modules.{items_checks, item_meant, item_called}
use Rattle.witx_scope.specs.Positions.{DeclarationOutcome, made_type, made_module, TakenName, is_same_name, introducer, sense_from, sense_after, after, first_place, declared_name}
use Rattle.witx_scope.specs.DeclarationForms.{DeclForm, typename_form, module_form}
use Rattle.witx_scope.specs.Declarations.{Past, decl_checks, decl_tree, accepted}
use Rattle.witx_order.specs.Items.{Declared}
use Rattle.witx_order.specs.Walks.{World, declared_in}
use Rattle.witx_order.specs.Fronts.{AreSound}
use Rattle.witx_walk.specs.Meaning.{form_of, places_of, form_fault, past_with, definitions_with, past_from, definitions_from, past_of, definitions_of, fault_behind}
use Rattle.witx_read_back.proofs.Printed.{as_printed, emptied_definition}
use Rattle.witx_render.specs.ModuleExpressions.{items_in_order}
use Rattle.witx_read_back.specs.Emptied.{emptied, emptied_item}
use Rattle.witx_read_back.proofs.Stands.{Denotes, Stands, Known, denoted, learned, DefinitionStands, DefinitionsStand}
use Rattle.witx_read_back.proofs.Orders.{or_else}
use Rattle.witx_read_back.specs.Says.{Says, SaysItems, SaysDefinition, SaysDocument}
use Rattle.witx_read_back.proofs.Fine.{Pass, passes, Agrees, type_fine}
use Rattle.witx_read_back.proofs.ItemsFine.{items_pass, items_mean}

-- ---- what stands before a declaration, and what is known

abbrev TracksAt : Option TakenName → Option (Option Tree) → Type 0
TracksAt None None = Unit {0}
TracksAt None (Some x) = ⊥
TracksAt (Some t) None = ⊥
TracksAt (Some t) (Some None) = Unit {0}
TracksAt (Some t) (Some (Some u)) = (v : Tree) × (t.outcome ≡ made_type v) × (emptied v ≡ u)

abbrev pub Tracks : Past → Known → Type 0
Tracks past known = (n : List ℕ) → TracksAt (introducer past.taken n) (found known n)

introducer_cond : (b : Bool) (t : TakenName) (o p q : Option TakenName) → o ≡ or_else p q → cond b (Some t) o ≡ or_else (cond b (Some t) p) q
introducer_cond true t o p q e = refl
introducer_cond false t o p q e = e

found_cond : (b : Bool) (t : Option Tree) (o p q : Option (Option Tree)) → o ≡ or_else p q → cond b (Some t) o ≡ or_else (cond b (Some t) p) q
found_cond true t o p q e = refl
found_cond false t o p q e = e

pub introducer_append : (ts : List TakenName) (x : TakenName) (n : List ℕ) → introducer (ts ++ x ∷ []) n ≡ or_else (introducer ts n) (cond (is_same_name n x.name) (Some x) None)
introducer_append [] x n = refl
introducer_append (t ∷ ts) x n = introducer_cond (is_same_name n t.name) t (introducer (ts ++ x ∷ []) n) (introducer ts n) (cond (is_same_name n x.name) (Some x) None) (introducer_append ts x n)

pub found_append : (es : Known) (m : List ℕ) (x : Option Tree) (n : List ℕ) → found (es ++ (m, x) ∷ []) n ≡ or_else (found es n) (cond (is_same_name n m) (Some x) None)
found_append [] m x n = refl
found_append (e ∷ es) m x n = found_cond (is_same_name n e.0) e.1 (found (es ++ (m, x) ∷ []) n) (found es n) (cond (is_same_name n m) (Some x) None) (found_append es m x n)

tracks_else : (a c : Option TakenName) (b d : Option (Option Tree)) → TracksAt a b → TracksAt c d → TracksAt (or_else a c) (or_else b d)
tracks_else None c None d h k = k
tracks_else None c (Some x) d h k = absurd h
tracks_else (Some t) c None d h k = absurd h
tracks_else (Some t) c (Some None) d h k = tt
tracks_else (Some t) c (Some (Some u)) d h k = h

tracks_cond : (b : Bool) (t : TakenName) (x : Option Tree) → TracksAt (Some t) (Some x) → TracksAt (cond b (Some t) None) (cond b (Some x) None)
tracks_cond true t x h = h
tracks_cond false t x h = tt

tracks_more : (ts : List TakenName) (known : Known) (t : TakenName) (m : List ℕ) (x : Option Tree) → ((n : List ℕ) → TracksAt (introducer ts n) (found known n)) → t.name ≡ m → TracksAt (Some t) (Some x)
    → (n : List ℕ) → TracksAt (introducer (ts ++ t ∷ []) n) (found (known ++ (m, x) ∷ []) n)
tracks_more ts known t m x h e k n =
    let both : TracksAt (or_else (introducer ts n) (cond (is_same_name n t.name) (Some t) None)) (or_else (found known n) (cond (is_same_name n m) (Some x) None))
    = tracks_else (introducer ts n) (cond (is_same_name n t.name) (Some t) None) (found known n) (cond (is_same_name n m) (Some x) None) (h n)
    (subst (λ (l : List ℕ). TracksAt (cond (is_same_name n t.name) (Some t) None) (cond (is_same_name n l) (Some x) None)) e (tracks_cond (is_same_name n t.name) t x k)) in
    subst (λ (o : Option TakenName). TracksAt o (found (known ++ (m, x) ∷ []) n)) (sym (introducer_append ts t n))
    (subst (λ (o : Option (Option Tree)). TracksAt (or_else (introducer ts n) (cond (is_same_name n t.name) (Some t) None)) o) (sym (found_append known m x n)) both)

agree_at : (o : Option TakenName) (own : Bool) (t : Tree) → TracksAt o (Some (Some t)) → (u : Tree) × (sense_after o own ≡ a_type u) × (emptied u ≡ t)
agree_at None own t h = absurd h
agree_at (Some x) own t h = (h.0, ap (λ (k : DeclarationOutcome). sense_from k) h.1, h.2)

pub agrees : (past : Past) (known : Known) (place : ℕ → Location) (own : Name) → Tracks past known → Agrees (denoted known) (after past.taken place own)
agrees past known place own h n t d = agree_at (introducer past.taken n) (is_same_name n own.name) t (subst (λ (o : Option (Option Tree)). TracksAt (introducer past.taken n) o) d (h n))

none_at : (o : Option TakenName) → TracksAt o None → o ≡ None
none_at None h = refl
none_at (Some t) h = absurd h

pub name_is_new : (past : Past) (known : Known) (place : ℕ → Location) (own : Name) → Tracks past known → found known own.name ≡ None → declared_name past.taken place own ≡ None
name_is_new past known place own h e =
    ap (λ (o : Option TakenName). option_map (λ earlier. name_already_exists own.name (place own.start) earlier) (option_map (λ t. t.place) o))
    (none_at (introducer past.taken own.name) (subst (λ (o : Option (Option Tree)). TracksAt (introducer past.taken own.name) o) e (h own.name)))

-- ---- one declaration

-- it has no fault, defines the definition, and leaves it known
pub record DefinitionFine (past : Past) (known : Known) (δ : Declared) (d : DefinitionTree) : Type 0 where
  pub no_fault : form_fault past (places_of δ) (form_of δ.item.item) ≡ None
  pub defines : map emptied_definition (definitions_with past δ) ≡ emptied_definition (as_printed d) ∷ []
  pub leaves : Tracks (past_with past δ) (learned known d)

typename_fine : (past : Past) (known : Known) (path : Path) (text : List ℕ) (cs : Comments) (m : Name) (s : TypeTree) (n : List ℕ) (t : Tree) (d : List ℕ)
    → Tracks past known → found known n ≡ None → Stands (denoted known) true t → m.name ≡ n → Says t s
    → DefinitionFine past known (declared_in path text (record { comments = cs; item = forms.typename m s })) (typename_of n t d)
typename_fine past known path text cs m s n t d h e st f q =
    let place : ℕ → Location = places_of (declared_in path text (record { comments = cs; item = forms.typename m s })) in
    let p = type_fine (denoted known) (after past.taken place m) (agrees past known place m h) true t s st q in
    record {
      no_fault = passes (declared_name past.taken place m) (type_checks (after past.taken place m) true (place m.start) s)
          (name_is_new past known place m h (ap (λ (k : List ℕ). found known k) f ∙ e)) (p.1 (place m.start));
      defines = ap (λ (u : Tree). typename_of m.name u [] ∷ []) p.0 ∙ ap (λ (k : List ℕ). typename_of k (emptied t) [] ∷ []) f;
      leaves = tracks_more past.taken known (record { name = m.name; place = place m.start; outcome = _ }) n (Some (Tree.named n (emptied t) [])) h f
          (_, refl, ap (λ (u : Tree). Tree.named m.name u []) p.0 ∙ ap (λ (k : List ℕ). Tree.named k (emptied t) []) f);
    }

module_fine : (past : Past) (known : Known) (path : Path) (text : List ℕ) (cs : Comments) (m : Name) (ds : List NotedDecl) (o : ModuleTree)
    → Tracks past known → DefinitionStands known (module_of o) → m.name ≡ o.name → SaysItems (items_in_order o.items) ds
    → DefinitionFine past known (declared_in path text (record { comments = cs; item = forms.module_of m ds })) (module_of o)
module_fine past known path text cs m ds o h st f q =
    let place : ℕ → Location = places_of (declared_in path text (record { comments = cs; item = forms.module_of m ds })) in
    let g = agrees past known place m h in
    record {
      no_fault = passes (declared_name past.taken place m) (items_checks (after past.taken place m) [] ds)
          (name_is_new past known place m h (ap (λ (k : List ℕ). found known k) f ∙ st.0)) (items_pass (denoted known) (after past.taken place m) g (items_in_order o.items) ds [] st.2 q st.1);
      defines = ap (λ (l : List ItemTree). module_of (record { name = m.name; comment = []; items = l }) ∷ []) (items_mean (denoted known) (after past.taken place m) g (items_in_order o.items) ds st.2 q)
          ∙ ap (λ (k : List ℕ). module_of (record { name = k; comment = []; items = map emptied_item (items_in_order o.items) }) ∷ []) f;
      leaves = tracks_more past.taken known (record { name = m.name; place = place m.start; outcome = made_module }) o.name None h f tt;
    }

pub definition_fine : (past : Past) (known : Known) (path : Path) (text : List ℕ) (i : NotedItem) (d : DefinitionTree) → Tracks past known → DefinitionStands known d → SaysDefinition d i.item
    → DefinitionFine past known (declared_in path text i) d
definition_fine past known path text i (typename_of n t d) h st q =
    subst (λ (x : forms.FormTree). DefinitionFine past known (declared_in path text (record { comments = i.comments; item = x })) (typename_of n t d)) (sym q.2)
    (typename_fine past known path text i.comments q.0 q.1 n t d h st.0 st.1 q.3 q.4)
definition_fine past known path text i (module_of o) h st q =
    subst (λ (x : forms.FormTree). DefinitionFine past known (declared_in path text (record { comments = i.comments; item = x })) (module_of o)) (sym q.2)
    (module_fine past known path text i.comments q.0 q.1 o h st q.3 q.4)
definition_fine past known path text i (constant_of c) h st q = absurd q

-- ---- all declarations

pub past_append : (past : Past) (before : List Declared) (δ : Declared) → past_from past (before ++ δ ∷ []) ≡ past_with (past_from past before) δ
past_append past [] δ = refl
past_append past (β ∷ before) δ = past_append (past_with past β) before δ

emptied_append : (xs ys : List DefinitionTree) → map emptied_definition (xs ++ ys) ≡ map emptied_definition xs ++ map emptied_definition ys
emptied_append [] ys = refl
emptied_append (x ∷ xs) ys = ap (λ (l : List DefinitionTree). emptied_definition x ∷ l) (emptied_append xs ys)

abbrev pub emptied_printed : DefinitionTree → DefinitionTree
emptied_printed d = emptied_definition (as_printed d)

pub definitions_fine : (w : World Fault) → w.fault_of ≡ fault_behind → (path : Path) (text : List ℕ) (ds : List DefinitionTree) (is : List NotedItem) (before : List Declared) (known : Known)
    → Tracks (past_of before) known → DefinitionsStand known ds → SaysDocument ds is
    → AreSound w before (map (declared_in path text) is) × (map emptied_definition (definitions_from (past_of before) (map (declared_in path text) is)) ≡ map emptied_printed ds)
definitions_fine w v path text [] is before known h st q =
    subst (λ (x : List NotedItem). AreSound w before (map (declared_in path text) x) × (map emptied_definition (definitions_from (past_of before) (map (declared_in path text) x)) ≡ []))
    (sym q) (tt, refl)
definitions_fine w v path text (d ∷ ds) is before known h st q =
    let i = q.0 in
    let δ = declared_in path text i in
    let one = definition_fine (past_of before) known path text i d h st.0 q.3 in
    let same : past_of (before ++ δ ∷ []) ≡ past_with (past_of before) δ = past_append _ before δ in
    let more = definitions_fine w v path text ds q.1 (before ++ δ ∷ []) (learned known d)
    (subst (λ (p : Past). Tracks p (learned known d)) (sym same) one.leaves) st.1 q.4 in
    subst (λ (x : List NotedItem). AreSound w before (map (declared_in path text) x) × (map emptied_definition (definitions_from (past_of before) (map (declared_in path text) x)) ≡ map emptied_printed (d ∷ ds)))
    (sym q.2) (
      (ap (λ (f : List Declared → Declared → Option Fault). f before δ) v ∙ one.no_fault, more.0),
      emptied_append (definitions_with (past_of before) δ) (definitions_from (past_with (past_of before) δ) (map (declared_in path text) q.1))
          ∙ ap (λ (l : List DefinitionTree). l ++ map emptied_definition (definitions_from (past_with (past_of before) δ) (map (declared_in path text) q.1))) one.defines
          ∙ ap (λ (l : List DefinitionTree). emptied_printed d ∷ l)
          (ap (λ (p : Past). map emptied_definition (definitions_from p (map (declared_in path text) q.1))) (sym same) ∙ more.1),
    )
