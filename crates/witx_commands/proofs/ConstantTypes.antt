-- A constant without a fault has the name of a typename.
use Rattle.std.proofs.Common.{◌≡◌, ℕ, List, [], ◌∷◌, ◌++◌, Bool, true, false, cond, not, refl, sym, ap, ◌∙◌, subst, map, append-nil, find, append_assoc, Option, None, Some, option_map, option_and_then, is_some}
use Rattle.std.specs.Option.{option_or}
use Rattle.std.proofs.lemmas.List.Elements.{filter_map-append}
use Rattle.std.proofs.lemmas.List.Folds.{find-append}
use Rattle.std.proofs.lemmas.List.{map-append}
use Rattle.witx_base.specs.Found.{found}
use Rattle.witx_base.proofs.Names.{found-append}
use Rattle.witx_files.specs.declared.location.Location.{Location}
use Rattle.witx_comments.specs.Comments.{Comments}
use Rattle.witx_ast.specs.Entries.{by_name}
use Rattle.witx_ast.specs.Definitions.{DefinitionTree, typename_of, module_of, constant_of, introduced, as_typename}
use Rattle.witx_ast.specs.declared.definition.Constant.{Constant}
use Rattle.witx_ast.specs.Tree.{Tree}
use Rattle.witx_scope.specs.Faults.{Check, Fault, first_fault}
use Rattle.witx_scope.specs.Names.{use_check}
use Rattle.witx_scope.specs.DeclarationForms.{DeclForm, typename_form, module_form, constant_form}
use Rattle.witx_scope.specs.Positions.{TakenName, DeclarationOutcome, refused, made_type, made_module, introducer, sense_after}
use Rattle.witx_scope.specs.Declarations.{Past, nothing_before, decl_checks, decl_tree, accepted}
use Rattle.witx_order.specs.Items.{Declared}
use Rattle.witx_order.specs.Walks.{World}
use Rattle.witx_order.specs.Fronts.{AreSound}
use Rattle.witx_walk.specs.Meaning.{form_of, places_of, form_fault, form_definitions, form_accepted, past_with, definitions_with, past_of, definitions_of, fault_behind, world}
use Rattle.witx_walk.proofs.Declarations.{past-more, definitions-more}
use Rattle.witx_markdown.specs.Constants.{constants_in, as_constant, names_typename, unknown_type}
use Rattle.witx_commands.specs.ConstantTypes.{ConstantsHaveTypenames}
use Rattle.witx_commands.proofs.Introduced.{Alike, alike-more, alike-same, defined_as, taken_as, type_made}

-- ---- typenames stay

typename-of : (o : Option DefinitionTree) (t : Tree) → defined_as o ≡ Some (Some t) → is_some (option_and_then as_typename o) ≡ true
typename-of None t e = cc
typename-of (Some (typename_of name u docs)) t e = refl
typename-of (Some (module_of m)) t e = cc
typename-of (Some (constant_of c)) t e = cc

still-typename : (o p : Option DefinitionTree) → is_some (option_and_then as_typename o) ≡ true → is_some (option_and_then as_typename (option_or o p)) ≡ true
still-typename None p e = cc
still-typename (Some d) p e = e

names-append : (ds es : List DefinitionTree) → by_name introduced (ds ++ es) ≡ by_name introduced ds ++ by_name introduced es
names-append ds es = filter_map-append {Y = List ℕ × DefinitionTree} (λ (d : DefinitionTree). option_map (λ (m : List ℕ). (m, d)) (introduced d)) ds es

typename-stays : (ds es : List DefinitionTree) (n : List ℕ) → names_typename ds n ≡ true → names_typename (ds ++ es) n ≡ true
typename-stays ds es n e =
    ap (λ xs. is_some (option_and_then as_typename (found xs n))) (names-append ds es)
    ∙ (ap (λ o. is_some (option_and_then as_typename o)) (found-append (by_name introduced ds) (by_name introduced es) n)
    ∙ still-typename (found (by_name introduced ds) n) (found (by_name introduced es) n) e)

-- ---- the types of constants

none-of : (b c : Bool) (x : List ℕ) (o p : Option (List ℕ)) → (b ≡ true → c ≡ true) → (o ≡ None → p ≡ None)
    → cond (not b) (Some x) o ≡ None → cond (not c) (Some x) p ≡ None
none-of true c x o p stays rest e = ap (λ k. cond (not k) (Some x) p) (stays refl) ∙ rest e
none-of false c x o p stays rest e = cc

find-stays : (f g : List ℕ → Bool) (xs : List (List ℕ)) → ((n : List ℕ) → f n ≡ true → g n ≡ true)
    → find (λ n. not (f n)) xs ≡ None → find (λ n. not (g n)) xs ≡ None
find-stays f g [] stays e = refl
find-stays f g (x ∷ xs) stays e = none-of (f x) (g x) x (find (λ n. not (f n)) xs) (find (λ n. not (g n)) xs) (stays x) (find-stays f g xs stays) e

abbrev types_in : List DefinitionTree → List (List ℕ)
types_in ds = map (λ c. c.ty) (constants_in ds)

types-append : (ds es : List DefinitionTree) → types_in (ds ++ es) ≡ types_in ds ++ types_in es
types-append ds es = ap (λ cs. map (λ c. c.ty) cs) (filter_map-append as_constant ds es) ∙ map-append (λ (c : Constant). c.ty) (constants_in ds) (constants_in es)

both-none : (o p : Option (List ℕ)) → o ≡ None → p ≡ None → option_or o p ≡ None
both-none o p h k = ap (λ x. option_or x p) h ∙ k

-- one more definition, whose constant type, if it is a constant, is a typename
unknown-more : (ds : List DefinitionTree) (d : DefinitionTree) → unknown_type ds ≡ None
    → find (λ n. not (names_typename (ds ++ d ∷ []) n)) (types_in (d ∷ [])) ≡ None → unknown_type (ds ++ d ∷ []) ≡ None
unknown-more ds d h last =
    let f : List ℕ → Bool = λ n. not (names_typename (ds ++ d ∷ []) n) in
    ap (find f) (types-append ds (d ∷ []))
    ∙ (find-append f (types_in ds) (types_in (d ∷ []))
    ∙ both-none (find f (types_in ds)) (find f (types_in (d ∷ []))) (find-stays (names_typename ds) (names_typename (ds ++ d ∷ [])) (types_in ds) (typename-stays ds (d ∷ [])) h) last)

-- ---- declarations

no-first : (c : Check) (cs : List Check) → first_fault (c ∷ cs) ≡ None → c ≡ None
no-first None cs e = refl
no-first (Some f) cs e = cc

used-as-type : (o : Option TakenName) (n : List ℕ) (at : Location) → use_check n at (sense_after o false) ≡ None
    → (t : Tree) × (taken_as o ≡ Some (Some t))
used-as-type None n at e = absurd (cc)
used-as-type (Some t) n at e = by t.outcome e
  where
    by : (outcome : DeclarationOutcome) → use_check n at (sense_after (Some (record { name = t.name; place = t.place; outcome = outcome })) false) ≡ None
        → (u : Tree) × (Some (type_made outcome) ≡ Some (Some u))
    by refused e = absurd (cc)
    by (made_type tree) e = (tree, refl)
    by made_module e = absurd (cc)

record Known (past : Past) (ds : List DefinitionTree) : Type 0 where
  alike : Alike past.taken ds
  types : unknown_type ds ≡ None

one-none : (b : Bool) (x : List ℕ) → b ≡ true → cond (not b) (Some x) None ≡ None
one-none b x e = ap (λ k. cond (not k) (Some x) None) e

known-form : (past : Past) (ds : List DefinitionTree) (place : ℕ → Location) (comments : Comments) (form : DeclForm) → Known past ds
    → first_fault (decl_checks past place form) ≡ None → Known (accepted past place comments form) (ds ++ decl_tree past place comments form ∷ [])
known-form past ds place comments (typename_form n t) k e = record {
  alike = alike-more past.taken ds _ (decl_tree past place comments (typename_form n t)) k.alike refl refl;
  types = unknown-more ds (decl_tree past place comments (typename_form n t)) k.types refl;
}
known-form past ds place comments (module_form n items) k e = record {
  alike = alike-more past.taken ds _ (decl_tree past place comments (module_form n items)) k.alike refl refl;
  types = unknown-more ds (decl_tree past place comments (module_form n items)) k.types refl;
}
known-form past ds place comments (constant_form ty n value own) k e =
    let d : DefinitionTree = decl_tree past place comments (constant_form ty n value own) in
    let used = used-as-type (introducer past.taken ty.name) ty.name (place ty.start) (no-first _ _ e) in
    let before : names_typename ds ty.name ≡ true = typename-of (found (by_name introduced ds) ty.name) used.0 (sym (k.alike ty.name) ∙ used.1) in
    record {
      alike = alike-same past.taken ds d k.alike refl;
      types = unknown-more ds d k.types (one-none (names_typename (ds ++ d ∷ []) ty.name) ty.name (typename-stays ds (d ∷ []) ty.name before));
    }

known-one : (past : Past) (ds : List DefinitionTree) (place : ℕ → Location) (comments : Comments) (form : Option DeclForm) → Known past ds
    → form_fault past place form ≡ None → Known (form_accepted past place comments form) (ds ++ form_definitions past place comments form)
known-one past ds place comments None k e = subst (Known past) (sym (append-nil ds)) k
known-one past ds place comments (Some form) k e = known-form past ds place comments form k e

known-declared : (before : List Declared) (δ : Declared) → Known (past_of before) (definitions_of before) → fault_behind before δ ≡ None
    → Known (past_of (before ++ δ ∷ [])) (definitions_of (before ++ δ ∷ []))
known-declared before δ k e =
    let now : Known (past_with (past_of before) δ) (definitions_of before ++ definitions_with (past_of before) δ) =
    known-one (past_of before) (definitions_of before) (places_of δ) δ.item.comments (form_of δ.item.item) k e in
    let P : Past → Type 0 = λ past. Known past (definitions_of (before ++ δ ∷ [])) in
    subst P (sym (past-more nothing_before before δ)) (subst (Known (past_with (past_of before) δ)) (sym (definitions-more nothing_before before δ)) now)

module _ (w : World Fault) (behind : (before : List Declared) (δ : Declared) → w.fault_of before δ ≡ fault_behind before δ) where
  all-known : (before rest : List Declared) → Known (past_of before) (definitions_of before) → AreSound w before rest
      → Known (past_of (before ++ rest)) (definitions_of (before ++ rest))
  all-known before [] k s = let P : List Declared → Type 0 = λ xs. Known (past_of xs) (definitions_of xs) in subst P (sym (append-nil before)) k
  all-known before (δ ∷ rest) k s =
      let P : List Declared → Type 0 = λ xs. Known (past_of xs) (definitions_of xs) in
      subst P (append_assoc before (δ ∷ []) rest) (all-known (before ++ δ ∷ []) rest (known-declared before δ k (sym (behind before δ) ∙ s.0)) s.1)

nothing-known : Known nothing_before []
nothing-known = record { alike = λ n. refl; types = refl }

pub constants-have-typenames : ConstantsHaveTypenames
constants-have-typenames files aliases reading handed ds means =
    let all : Known (past_of means.0) (definitions_of means.0) = all-known (world files aliases reading) (λ before δ. refl) [] means.0 nothing-known means.1.0.1.1 in
    ap unknown_type means.1.1 ∙ all.types
