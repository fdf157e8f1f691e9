-- Declarations without a fault, of forms whose records have fields, give their definitions, where these are plain.
use Rattle.std.proofs.Common.{◌≡◌, ℕ, Bool, true, false, cond, List, [], ◌∷◌, ◌++◌, map, Option, Some, None, refl, sym, ap, ◌∙◌, subst}
use Rattle.std.specs.Prelude.{option_map}
use Rattle.witx_base.specs.Paths.{Path}
use Rattle.witx_base.specs.Found.{found}
use Rattle.witx_files.specs.declared.location.Location.{Location}
use Rattle.witx_ast.specs.Tree.{Tree}
use Rattle.witx_ast.specs.Items.{ItemTree}
use Rattle.witx_ast.specs.Definitions.{DefinitionTree, ModuleTree, typename_of, module_of, constant_of}
use Rattle.witx_comments.specs.Documentation.{documentation_of}
use Rattle.witx_syntax_tree.specs.Trees as forms
use Rattle.witx_comments.specs.Comments.{Comments}
use Rattle.witx_syntax_tree.specs.Trees.{Name, TypeTree, NotedDecl, NotedItem}
use Rattle.witx_scope.specs.Faults.{Fault, Check, first_fault, name_already_exists}
use Rattle.witx_scope.specs.Names.{Here, Sense, unknown, unfinished, a_module, a_type}
use Rattle.witx_scope.specs.Trees.{tree_meant}
use Rattle.witx_scope.specs.Checks.{type_checks}
use Rattle.witx_scope.specs.Modules.{items_checks, item_meant, item_called}
use Rattle.witx_scope.specs.Positions.{DeclarationOutcome, made_type, made_module, TakenName, is_same_name, introducer, sense_from, own_sense, sense_after, after, first_place, declared_name}
use Rattle.witx_scope.specs.DeclarationForms.{DeclForm, typename_form, module_form}
use Rattle.witx_scope.specs.Declarations.{Past, decl_checks, decl_tree, accepted, nothing_before}
use Rattle.witx_order.specs.Items.{Declared}
use Rattle.witx_order.specs.Walks.{World, declared_in}
use Rattle.witx_order.specs.Fronts.{AreSound}
use Rattle.witx_walk.specs.Meaning.{form_of, places_of, form_fault, form_definitions, form_accepted, past_with, definitions_with, past_from, definitions_from, past_of, definitions_of, fault_behind}
use Rattle.witx_read_back.specs.Emptied.{emptied}
use Rattle.witx_read_back.proofs.Stands.{Denotes, Stands, Known, denoted, learned}
use Rattle.witx_read_back.specs.Plain.{PlainType, PlainDefinition, PlainDefinitions}
use Rattle.witx_read_back.proofs.Fine.{Pass}
use Rattle.witx_read_back.proofs.Given.{Knows, Filled, head_passes, mapped_none, type_given}
use Rattle.witx_read_back.proofs.ItemsGiven.{FilledDecls, items_given}
use Rattle.witx_read_back.proofs.Orders.{or_else, same, same_is}
use Rattle.witx_read_back.proofs.DocumentFine.{introducer_append, past_append}
use Rattle.witx_read_back.proofs.DocumentGiven.{one, type_entry, found_both, GivenDefinition, AllGiven}

-- ---- what stands before a declaration, and what is known

abbrev Kept : List ℕ → Option TakenName → Option (Option Tree) → Type 0
Kept n None None = Unit {0}
Kept n None (Some x) = ⊥
Kept n (Some t) None = ⊥
Kept n (Some t) (Some None) = t.outcome ≡ made_module
Kept n (Some t) (Some (Some w)) = (u : Tree) × (d : List ℕ) × (t.outcome ≡ made_type (Tree.named n u d)) × (w ≡ emptied (Tree.named n u d))

abbrev pub Keeps : List TakenName → Known → Type 0
Keeps ts known = (n : List ℕ) → Kept n (introducer ts n) (found known n)

kept_else : (n : List ℕ) (a c : Option TakenName) (b d : Option (Option Tree)) → Kept n a b → Kept n c d → Kept n (or_else a c) (or_else b d)
kept_else n None c None d h k = k
kept_else n None c (Some x) d h k = absurd h
kept_else n (Some t) c None d h k = absurd h
kept_else n (Some t) c (Some None) d h k = h
kept_else n (Some t) c (Some (Some w)) d h k = h

kept_cond : (n : List ℕ) (b : Bool) (t : TakenName) (x : Option Tree) → (b ≡ true → Kept n (Some t) (Some x)) → Kept n (cond b (Some t) None) (cond b (Some x) None)
kept_cond n true t x h = h refl
kept_cond n false t x h = tt

keeps_more : (ts : List TakenName) (known : Known) (t : TakenName) (x : Option Tree) → Keeps ts known → Kept t.name (Some t) (Some x) → Keeps (ts ++ t ∷ []) (known ++ one t.name x)
keeps_more ts known t x h k n =
    let both : Kept n (or_else (introducer ts n) (cond (is_same_name n t.name) (Some t) None)) (or_else (found known n) (cond (is_same_name n t.name) (Some x) None))
    = kept_else n (introducer ts n) (cond (is_same_name n t.name) (Some t) None) (found known n) (cond (is_same_name n t.name) (Some x) None) (h n)
    (kept_cond n (is_same_name n t.name) t x (λ e. subst (λ (m : List ℕ). Kept m (Some t) (Some x)) (sym (same_is n t.name e)) k)) in
    subst (λ (o : Option TakenName). Kept n o (found (known ++ one t.name x) n)) (sym (introducer_append ts t n))
    (subst (λ (o : Option (Option Tree)). Kept n (or_else (introducer ts n) (cond (is_same_name n t.name) (Some t) None)) o) (sym (found_both known (one t.name x) n)) both)

unfinished_type : (u : Tree) → unfinished ≡ a_type u → ⊥
unfinished_type u e = cc

unknown_type : (u : Tree) → unknown ≡ a_type u → ⊥
unknown_type u e = cc

module_type : (u : Tree) → a_module ≡ a_type u → ⊥
module_type u e = cc

one_type_is : (t u : Tree) → a_type t ≡ a_type u → t ≡ u
one_type_is t u e = cc

knows_at : (known : Known) (n : List ℕ) (o : Option TakenName) (own : Bool) (k : Option (Option Tree)) (u : Tree) → found known n ≡ k → Kept n o k → sense_after o own ≡ a_type u
    → (t : Tree) × (d : List ℕ) × (u ≡ Tree.named n t d) × (found known n ≡ Some (Some (emptied (Tree.named n t d))))
knows_at known n None true k u f h e = absurd (unfinished_type u e)
knows_at known n None false k u f h e = absurd (unknown_type u e)
knows_at known n (Some t) own None u f h e = absurd h
knows_at known n (Some t) own (Some None) u f h e = absurd (module_type u (sym (ap (λ (o : DeclarationOutcome). sense_from o) h) ∙ e))
knows_at known n (Some t) own (Some (Some w)) u f h e =
    (h.0, h.1, sym (one_type_is (Tree.named n h.0 h.1) u (sym (ap (λ (o : DeclarationOutcome). sense_from o) h.2) ∙ e)), f ∙ ap (λ (v : Tree). Some (Some v)) h.3)

knows : (ts : List TakenName) (known : Known) (place : ℕ → Location) (own : Name) → Keeps ts known → Knows (denoted known) (after ts place own)
knows ts known place own h n u e = knows_at known n (introducer ts n) (is_same_name n own.name) (found known n) u refl (h n) e

none_kept : (n : List ℕ) (k : Option (Option Tree)) → Kept n None k → k ≡ None
none_kept n None h = refl
none_kept n (Some x) h = absurd h

is_new : (ts : List TakenName) (known : Known) (place : ℕ → Location) (own : Name) → Keeps ts known → declared_name ts place own ≡ None → found known own.name ≡ None
is_new ts known place own h e =
    let p = mapped_none (λ t. t.place) (introducer ts own.name) (mapped_none (λ earlier. name_already_exists own.name (place own.start) earlier) (first_place ts own.name) e) in
    none_kept own.name (found known own.name) (subst (λ (o : Option TakenName). Kept own.name o (found known own.name)) p (h own.name))

-- ---- declarations

abbrev pub FilledItem : forms.FormTree → Type 0
FilledItem (forms.uses x) = Unit {0}
FilledItem (forms.typename m t) = Filled t
FilledItem (forms.module_of m ds) = FilledDecls ds
FilledItem (forms.constant cs t m v) = Unit {0}

abbrev pub AllFilled : List Declared → Type 0
AllFilled [] = Unit {0}
AllFilled (δ ∷ δs) = FilledItem δ.item.item × AllFilled δs

given_at : (past : Past) (known : Known) (place : ℕ → Location) (cs : Comments) (x : forms.FormTree) (rest : List DefinitionTree) → Keeps past.taken known
    → form_fault past place (form_of x) ≡ None → FilledItem x → PlainDefinitions (form_definitions past place cs (form_of x) ++ rest)
    → ((out : Known) → Keeps (form_accepted past place cs (form_of x)).taken out → PlainDefinitions rest → AllGiven out rest) → AllGiven known (form_definitions past place cs (form_of x) ++ rest)
given_at past known place cs (forms.uses x) rest h e f w more = more known h w
given_at past known place cs (forms.constant ks t m v) rest h e f w more = (tt, more known h w.1)
given_at past known place cs (forms.typename m s) rest h e f w more =
    let inside = after past.taken place m in
    let p = head_passes (declared_name past.taken place m) (type_checks inside true (place m.start) s) e in
    let a = type_given (denoted known) inside (knows past.taken known place m h) true (place m.start) s p.1 f w.0 in (
      (is_new past.taken known place m h p.0, a.0, a.1),
      more (known ++ one m.name (type_entry m.name (tree_meant inside s)))
          (keeps_more past.taken known (record { name = m.name; place = place m.start; outcome = _ }) (type_entry m.name (tree_meant inside s)) h
          (tree_meant inside s, documentation_of cs, refl, refl)) w.1,
    )
given_at past known place cs (forms.module_of m ds) rest h e f w more =
    let inside = after past.taken place m in
    let p = head_passes (declared_name past.taken place m) (items_checks inside [] ds) e in
    let a = items_given (denoted known) inside (knows past.taken known place m h) [] ds p.1 f w.0 in (
      (is_new past.taken known place m h p.0, a.0, a.1, a.2),
      more (known ++ one m.name None) (keeps_more past.taken known (record { name = m.name; place = place m.start; outcome = made_module }) None h refl) w.1,
    )

pub declared_given : (w : World Fault) → w.fault_of ≡ fault_behind → (δs before : List Declared) (known : Known) → Keeps (past_of before).taken known → AreSound w before δs → AllFilled δs
    → PlainDefinitions (definitions_from (past_of before) δs) → AllGiven known (definitions_from (past_of before) δs)
declared_given w v [] before known h s f p = tt
declared_given w v (δ ∷ δs) before known h s f p =
    let same_past : past_of (before ++ δ ∷ []) ≡ past_with (past_of before) δ = past_append nothing_before before δ in
    given_at (past_of before) known (places_of δ) δ.item.comments δ.item.item (definitions_from (past_with (past_of before) δ) δs) h
    (sym (ap (λ (g : List Declared → Declared → Option Fault). g before δ) v) ∙ s.0) f.0 p
    (λ out k q. subst (λ (x : Past). AllGiven out (definitions_from x δs)) same_past
    (declared_given w v δs (before ++ δ ∷ []) out (subst (λ (x : Past). Keeps x.taken out) (sym same_past) k) s.1 f.1
    (subst (λ (x : Past). PlainDefinitions (definitions_from x δs)) (sym same_past) q)))
