-- The names of functions, modules and documents that forms mean are identifiers and their quoted names UTF-8, where those of the forms are and no declaration has a fault.
use Rattle.std.proofs.Common.{◌≡◌, ℕ, Bool, true, false, cond, List, [], ◌∷◌, ◌++◌, map, Option, Some, None, refl, sym, ap, ◌∙◌, subst}
use Rattle.std.specs.Str.{IsUtf8}
use Rattle.witx_files.specs.declared.location.Location.{Location}
use Rattle.witx_ast.specs.Tree.{Tree, Field}
use Rattle.witx_ast.specs.Definitions.{DefinitionTree}
use Rattle.witx_comments.specs.Documentation.{documentation_of}
use Rattle.witx_syntax_tree.specs.Trees as forms
use Rattle.witx_comments.specs.Comments.{Comments}
use Rattle.witx_syntax_tree.specs.Trees.{Name, QuotedText, Fields, no_fields, one_field, DeclTree, memory, function, NotedDecl}
use Rattle.witx_syntax.specs.Names.{NamesOfFields, NamesOfDecl, NamesOfDecls, NamesOfItem}
use Rattle.witx_scope.specs.Faults.{Fault}
use Rattle.witx_scope.specs.Names.{Here, NameMarks, Sense, unknown, unfinished, a_module, a_type, new_mark}
use Rattle.witx_scope.specs.Trees.{tree_meant, fields_meant}
use Rattle.witx_scope.specs.Checks.{type_checks, field_checks}
use Rattle.witx_scope.specs.Functions.{fields_scope, result_checks, abi_of, abi_check}
use Rattle.witx_scope.specs.Modules.{item_checks, items_checks, with_name, decl_meant, item_meant}
use Rattle.witx_scope.specs.Positions.{DeclarationOutcome, refused, made_type, made_module, TakenName, is_same_name, introducer, sense_from, sense_after, after, declared_name}
use Rattle.witx_scope.specs.Declarations.{Past, nothing_before}
use Rattle.witx_order.specs.Items.{Declared}
use Rattle.witx_order.specs.Walks.{World}
use Rattle.witx_order.specs.Fronts.{AreSound}
use Rattle.witx_walk.specs.Meaning.{form_of, places_of, form_fault, form_definitions, form_accepted, past_with, definitions_from, past_of, definitions_of, fault_behind}
use Rattle.witx_read_back.specs.DocumentTexts.{TypeTexts, ParamTexts, ItemTexts, ItemsTexts, DefinitionTexts, DocumentTexts}
use Rattle.witx_read_back.proofs.Fine.{Pass}
use Rattle.witx_read_back.proofs.Given.{head_passes, parts_pass}
use Rattle.witx_read_back.proofs.Orders.{or_else, same_is}
use Rattle.witx_read_back.proofs.DocumentFine.{introducer_append, past_append}
use Rattle.witx_read_back.proofs.Identifiers.{named_well}
use Rattle.witx_read_back.proofs.Named.{well, TagWell, KnowsWell, type_well}

-- ---- functions and modules

module _ (h : Here) (k : KnowsWell h) where
  params_well : (marks : NameMarks) (fs : Fields) → Pass (field_checks h marks fs) → NamesOfFields named_well IsUtf8 fs → ParamTexts well (fields_meant h fs)
  params_well marks no_fields e w = tt
  params_well marks (one_field c m t fs) e w =
      let p = head_passes (new_mark h marks m.name m.start) (type_checks h false (h.place m.start) t ++ field_checks h ((m.name, m.start) ∷ marks) fs) e in
      let q = parts_pass (type_checks h false (h.place m.start) t) (field_checks h ((m.name, m.start) ∷ marks) fs) p.1 in
      (w.0.0, tt, (type_well h k false (h.place m.start) t q.0 w.0.1).0, params_well ((m.name, m.start) ∷ marks) fs q.1 w.1)

  results_well : (marks : NameMarks) (fs : Fields) → Pass (result_checks h marks fs) → NamesOfFields named_well IsUtf8 fs → ParamTexts well (fields_meant h fs)
  results_well marks no_fields e w = tt
  results_well marks (one_field c m t fs) e w =
      let p = parts_pass (type_checks h false (h.place m.start) t) (new_mark h marks m.name m.start ∷ result_checks h ((m.name, m.start) ∷ marks) fs) e in
      let q = head_passes (new_mark h marks m.name m.start) (result_checks h ((m.name, m.start) ∷ marks) fs) p.1 in
      (w.0.0, tt, (type_well h k false (h.place m.start) t p.0 w.0.1).0, results_well ((m.name, m.start) ∷ marks) fs q.1 w.1)

  decl_well : (marks : NameMarks) (cs : Comments) (d : DeclTree) → Pass (item_checks h marks d) → NamesOfDecl named_well IsUtf8 d → ItemTexts well (decl_meant h cs d)
  decl_well marks cs (memory q) e w = (w, tt)
  decl_well marks cs (function q ps rs n s) e w =
      let results = fields_meant h rs in
      let a = head_passes (new_mark h marks q.text q.start) (field_checks h [] ps ++ (result_checks h (fields_scope [] ps) rs ++ (abi_check (abi_of s) results (h.place q.start) ∷ []))) e in
      let b = parts_pass (field_checks h [] ps) (result_checks h (fields_scope [] ps) rs ++ (abi_check (abi_of s) results (h.place q.start) ∷ [])) a.1 in
      let c = parts_pass (result_checks h (fields_scope [] ps) rs) (abi_check (abi_of s) results (h.place q.start) ∷ []) b.1 in
      (w.0, tt, params_well [] ps b.0 w.1.0, results_well (fields_scope [] ps) rs c.0 w.1.1)

  items_well : (marks : NameMarks) (ds : List NotedDecl) → Pass (items_checks h marks ds) → NamesOfDecls named_well IsUtf8 ds → ItemsTexts well (map (item_meant h) ds)
  items_well marks [] e w = tt
  items_well marks (d ∷ ds) e w =
      let p = parts_pass (item_checks h marks d.decl) (items_checks h (with_name d.decl marks) ds) e in
      (decl_well marks d.comments d.decl p.0 w.0, items_well (with_name d.decl marks) ds p.1 w.1)

-- ---- what stands before a declaration

abbrev TypeKept : List ℕ → Tree → Type 0
TypeKept n u = ((t : Tree) × (d : List ℕ) × (u ≡ Tree.named n t d)) × TagWell u

-- a type that came of a declaration of the name
abbrev WellKept : List ℕ → Option TakenName → Type 0
WellKept n None = Unit {0}
WellKept n (Some t) = (u : Tree) → t.outcome ≡ made_type u → TypeKept n u

abbrev pub KeepsWell : List TakenName → Type 0
KeepsWell ts = (n : List ℕ) → WellKept n (introducer ts n)

refused_type : (u : Tree) → unfinished ≡ a_type u → ⊥
refused_type u e = cc

unknown_type : (u : Tree) → unknown ≡ a_type u → ⊥
unknown_type u e = cc

module_type : (u : Tree) → a_module ≡ a_type u → ⊥
module_type u e = cc

one_type_is : (t u : Tree) → a_type t ≡ a_type u → t ≡ u
one_type_is t u e = cc

kept_outcome : (n : List ℕ) (u : Tree) (x : DeclarationOutcome) → ((v : Tree) → x ≡ made_type v → TypeKept n v) → sense_from x ≡ a_type u → TypeKept n u
kept_outcome n u refused k e = absurd (refused_type u e)
kept_outcome n u (made_type v) k e = k u (ap (λ (t : Tree). made_type t) (one_type_is v u e))
kept_outcome n u made_module k e = absurd (module_type u e)

knows_at : (n : List ℕ) (o : Option TakenName) (own : Bool) (u : Tree) → WellKept n o → sense_after o own ≡ a_type u → TypeKept n u
knows_at n None true u k e = absurd (refused_type u e)
knows_at n None false u k e = absurd (unknown_type u e)
knows_at n (Some t) own u k e = kept_outcome n u t.outcome k e

knows_well : (ts : List TakenName) (place : ℕ → Location) (own : Name) → KeepsWell ts → KnowsWell (after ts place own)
knows_well ts place own k n u e = knows_at n (introducer ts n) (is_same_name n own.name) u (k n) e

kept_else : (n : List ℕ) (a b : Option TakenName) → WellKept n a → WellKept n b → WellKept n (or_else a b)
kept_else n None b h k = k
kept_else n (Some t) b h k = h

kept_cond : (n : List ℕ) (b : Bool) (t : TakenName) → (b ≡ true → WellKept n (Some t)) → WellKept n (cond b (Some t) None)
kept_cond n true t h = h refl
kept_cond n false t h = tt

keeps_more : (ts : List TakenName) (t : TakenName) → KeepsWell ts → WellKept t.name (Some t) → KeepsWell (ts ++ t ∷ [])
keeps_more ts t k h n =
    subst (λ (o : Option TakenName). WellKept n o) (sym (introducer_append ts t n))
    (kept_else n (introducer ts n) (cond (is_same_name n t.name) (Some t) None) (k n)
    (kept_cond n (is_same_name n t.name) t (λ e. subst (λ (m : List ℕ). WellKept m (Some t)) (sym (same_is n t.name e)) h)))

made_is : (t u : Tree) → made_type t ≡ made_type u → t ≡ u
made_is t u e = cc

made_module_type : (u : Tree) → made_module ≡ made_type u → ⊥
made_module_type u e = cc

-- ---- declarations

abbrev pub AllNamedWell : List Declared → Type 0
AllNamedWell [] = Unit {0}
AllNamedWell (δ ∷ δs) = NamesOfItem named_well IsUtf8 δ.item.item × AllNamedWell δs

well_at : (past : Past) (place : ℕ → Location) (cs : Comments) (x : forms.FormTree) (rest : List DefinitionTree) → KeepsWell past.taken
    → form_fault past place (form_of x) ≡ None → NamesOfItem named_well IsUtf8 x
    → (KeepsWell (form_accepted past place cs (form_of x)).taken → DocumentTexts well rest) → DocumentTexts well (form_definitions past place cs (form_of x) ++ rest)
well_at past place cs (forms.uses x) rest k e w more = more k
well_at past place cs (forms.constant ks t m v) rest k e w more = (tt, more k)
well_at past place cs (forms.typename m s) rest k e w more =
    let inside = after past.taken place m in
    let p = head_passes (declared_name past.taken place m) (type_checks inside true (place m.start) s) e in
    let a = type_well inside (knows_well past.taken place m k) true (place m.start) s p.1 w.1 in
    let made = Tree.named m.name (tree_meant inside s) (documentation_of cs) in (
      (w.0, tt, a.0),
      more (keeps_more past.taken (record { name = m.name; place = place m.start; outcome = made_type made }) k
          (λ u f. subst (λ (x : Tree). TypeKept m.name x) (made_is made u f) ((tree_meant inside s, documentation_of cs, refl), a.1))),
    )
well_at past place cs (forms.module_of m ds) rest k e w more =
    let inside = after past.taken place m in
    let p = head_passes (declared_name past.taken place m) (items_checks inside [] ds) e in (
      (w.0, tt, items_well inside (knows_well past.taken place m k) [] ds p.1 w.1),
      more (keeps_more past.taken (record { name = m.name; place = place m.start; outcome = made_module }) k (λ u f. absurd (made_module_type u f))),
    )

pub declared_well : (w : World Fault) → w.fault_of ≡ fault_behind → (δs before : List Declared) → KeepsWell (past_of before).taken → AreSound w before δs → AllNamedWell δs
    → DocumentTexts well (definitions_from (past_of before) δs)
declared_well w v [] before k s n = tt
declared_well w v (δ ∷ δs) before k s n =
    let same_past : past_of (before ++ δ ∷ []) ≡ past_with (past_of before) δ = past_append nothing_before before δ in
    well_at (past_of before) (places_of δ) δ.item.comments δ.item.item (definitions_from (past_with (past_of before) δ) δs) k
    (sym (ap (λ (g : List Declared → Declared → Option Fault). g before δ) v) ∙ s.0) n.0
    (λ more. subst (λ (x : Past). DocumentTexts well (definitions_from x δs)) same_past
    (declared_well w v δs (before ++ δ ∷ []) (subst (λ (x : Past). KeepsWell x.taken) (sym same_past) more) s.1 n.1))
