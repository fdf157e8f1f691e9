-- Each clause of `validate_decl`, from the clause of the kind of declaration.
use Rattle.std.specs.Prelude.{◌≡◌, ◌⊎◌, ℕ, List, [], ◌∷◌, ◌++◌, ◌&&◌, Some, None, map, cond, Result, Ok, Err, OnOk, OnErr, IfErr}
use Rattle.std.proofs.Common.{refl, sym, ap, subst, inl, inr, ◌∙◌}
use Rattle.witx_files.specs.declared.location.Location.{Location}
use Rattle.witx_comments.specs.Documentation.{documentation_of}
use Rattle.witx_syntax_tree.specs.Trees.{TypeTree, Name, NotedDecl}
use Rattle.witx_ast.specs.Tree.{named}
use Rattle.witx_ast.specs.Closed.{IsClosed}
use Rattle.witx_ast.specs.Ordered.{IsOrdered}
use Rattle.witx_ast.specs.Definitions.{DefinitionTree, ModuleTree, typename_of, module_of, constant_of, definition_tree, DefinitionsFit}
use Rattle.witx_ast.specs.declared.definition.Definition.{Definition}
use Rattle.witx_ast.specs.declared.definition.Constant.{Constant}
use Rattle.witx_ast.specs.declared.definition.Entry.{Entry}
use Rattle.witx_scope.specs.declared.error.CheckError.{CheckError}
use Rattle.witx_scope.specs.declared.constants.ConstantName.{ConstantName}
use Rattle.witx_scope.specs.Answers.{IsCheckFault}
use Rattle.witx_scope.specs.Blame.{Blames}
use Rattle.witx_scope.specs.Faults.{first_fault}
use Rattle.witx_scope.specs.Names.{Names, Here}
use Rattle.witx_scope.specs.Trees.{tree_meant}
use Rattle.witx_scope.specs.DeclarationForms.{typename_form, module_form, constant_form}
use Rattle.witx_scope.specs.Constants.{constant_place}
use Rattle.witx_scope.specs.Inside.{within, typename_checks, module_checks, module_meant}
use Rattle.witx_scope.specs.Positions.{made_type, made_module, refused, is_same_name}
use Rattle.witx_scope.specs.Declarations.{Past, decl_checks, decl_tree, accepted}
use Rattle.witx_scope.specs.Kept.{Kept, Keeps, KeepsNames, KeepsConstants}
use Rattle.witx_check.proofs.ByPosition.{within-by-position}
use Rattle.witx_check.proofs.Finished.{taken_as}
use Rattle.witx_check.proofs.Orders.{typename-ordered, ordered-last, typename-closed, module-closed, closed-last}
use Rattle.witx_scope.specs.Senses.{kept_sense}
use Rattle.witx_check.proofs.Validated.{typename-checks-by, module-checks-by, constant_checks_in, constant-checks-by, new-constant, typename-tree-by, module-tree-by, keeps-constant, fits-constant, ok-by, err-by, on-err-by, blames-by, none-by}

abbrev pub kept_as : Names → List (List ℕ × Entry) → List (ConstantName × Location) → Kept
kept_as names es constants = record { names = names; entries = es; constants = constants }

sense-within : (names : Names) (es : List (List ℕ × Entry)) (place : ℕ → Location) (n : Name) → (within names es place n).sense ≡ kept_sense ((n.name, place n.start) ∷ names) es
unfolding within
sense-within names es place n = refl

module _ {A : Type 0} (r : Result A CheckError) (names names2 : Names) (es es2 : List (List ℕ × Entry)) (constants constants2 : List (ConstantName × Location)) (past : Past) (place : ℕ → Location) where
  -- ---- a typename
  pub typename-ok-by : (n : Name) (form : TypeTree)
      → OnOk r (first_fault (typename_checks names (within names es place n) n form) ≡ None)
      → OnOk r (Keeps (kept_as names es constants) past → first_fault (decl_checks past place (typename_form n form)) ≡ None)
  typename-ok-by n form h = ok-by r _ _ (λ e k. none-by _ _ (typename-checks-by names es past place n form k.introduced) e) h

  pub typename-fault-by : (n : Name) (form : TypeTree)
      → IfErr r (λ e. Blames e (first_fault (typename_checks names (within names es place n) n form)))
      → IfErr r (λ e. Keeps (kept_as names es constants) past → Blames e (first_fault (decl_checks past place (typename_form n form))))
  typename-fault-by n form h = err-by r _ _ (λ e b k. blames-by e _ _ (typename-checks-by names es past place n form k.introduced) b) h

  pub typename-appended-by : (old new : List Definition) (n : Name) (form : TypeTree) (comments : List (List ℕ))
      → OnOk r (map definition_tree new ≡ map definition_tree old ++ typename_of n.name (tree_meant (within names es place n) form) (documentation_of comments) ∷ [])
      → OnOk r (Keeps (kept_as names es constants) past → map definition_tree new ≡ map definition_tree old ++ decl_tree past place comments (typename_form n form) ∷ [])
  typename-appended-by old new n form comments h =
      ok-by r _ _ (λ e k. e ∙ ap (λ (t : DefinitionTree). map definition_tree old ++ t ∷ []) (typename-tree-by names es past place n form comments k.introduced)) h

  pub typename-accepted-by : (n : Name) (form : TypeTree) (comments : List (List ℕ))
      → OnOk r (KeepsNames names es past.taken → KeepsNames names2 es2 (past.taken ++ taken_as n.name (place n.start) (made_type (named n.name (tree_meant (within names es place n) form) (documentation_of comments))) ∷ []))
      → OnOk r (Keeps (kept_as names es constants) past → Keeps (kept_as names2 es2 constants) (accepted past place comments (typename_form n form)))
  typename-accepted-by n form comments h = ok-by r _ _ (λ f k. record {
    introduced = subst (λ (w : Here). KeepsNames names2 es2 (past.taken ++ taken_as n.name (place n.start) (made_type (named n.name (tree_meant w form) (documentation_of comments))) ∷ [])) (within-by-position names es past.taken place n k.introduced) (f k.introduced);
    constants = k.constants;
  }) h

  -- ---- a module
  pub module-ok-by : (n : Name) (items : List NotedDecl)
      → OnOk r (first_fault (module_checks names (within names es place n) n items) ≡ None)
      → OnOk r (Keeps (kept_as names es constants) past → first_fault (decl_checks past place (module_form n items)) ≡ None)
  module-ok-by n items h = ok-by r _ _ (λ e k. none-by _ _ (module-checks-by names es past place n items k.introduced) e) h

  pub module-fault-by : (n : Name) (items : List NotedDecl)
      → IfErr r (λ e. Blames e (first_fault (module_checks names (within names es place n) n items)))
      → IfErr r (λ e. Keeps (kept_as names es constants) past → Blames e (first_fault (decl_checks past place (module_form n items))))
  module-fault-by n items h = err-by r _ _ (λ e b k. blames-by e _ _ (module-checks-by names es past place n items k.introduced) b) h

  pub module-appended-by : (old new : List Definition) (n : Name) (items : List NotedDecl) (comments : List (List ℕ))
      → OnOk r (map definition_tree new ≡ map definition_tree old ++ module_of (module_meant (within names es place n) n.name items comments) ∷ [])
      → OnOk r (Keeps (kept_as names es constants) past → map definition_tree new ≡ map definition_tree old ++ decl_tree past place comments (module_form n items) ∷ [])
  module-appended-by old new n items comments h =
      ok-by r _ _ (λ e k. e ∙ ap (λ (t : DefinitionTree). map definition_tree old ++ t ∷ []) (module-tree-by names es past place n items comments k.introduced)) h

  pub module-accepted-by : (n : Name) (items : List NotedDecl) (comments : List (List ℕ))
      → OnOk r (KeepsNames names es past.taken → KeepsNames names2 es2 (past.taken ++ taken_as n.name (place n.start) made_module ∷ []))
      → OnOk r (Keeps (kept_as names es constants) past → Keeps (kept_as names2 es2 constants) (accepted past place comments (module_form n items)))
  module-accepted-by n items comments h = ok-by r _ _ (λ f k. record { introduced = f k.introduced; constants = k.constants }) h

  -- ---- a refused typename or module
  pub name-rejected-by : (n : Name)
      → IfErr r (λ e. IsCheckFault e → KeepsNames names es past.taken → KeepsNames names2 es2 (past.taken ++ taken_as n.name (place n.start) refused ∷ []))
      → IfErr r (λ e. IsCheckFault e → Keeps (kept_as names es constants) past → Keeps (kept_as names2 es2 constants) (record past { taken = past.taken ++ taken_as n.name (place n.start) refused ∷ [] }))
  name-rejected-by n h = err-by r _ _ (λ e f fault k. record { introduced = f fault k.introduced; constants = k.constants }) h

  either-kept : (n : Name) → KeepsConstants constants past.constants → KeepsNames names2 es2 past.taken ⊎ KeepsNames names2 es2 (past.taken ++ taken_as n.name (place n.start) refused ∷ [])
      → Keeps (kept_as names2 es2 constants) past ⊎ Keeps (kept_as names2 es2 constants) (record past { taken = past.taken ++ taken_as n.name (place n.start) refused ∷ [] })
  either-kept n c (inl k) = inl (record { introduced = k; constants = c })
  either-kept n c (inr k) = inr (record { introduced = k; constants = c })

  pub name-left-by : (n : Name)
      → OnErr r (KeepsNames names es past.taken → KeepsNames names2 es2 past.taken ⊎ KeepsNames names2 es2 (past.taken ++ taken_as n.name (place n.start) refused ∷ []))
      → OnErr r (Keeps (kept_as names es constants) past → Keeps (kept_as names2 es2 constants) past ⊎ Keeps (kept_as names2 es2 constants) (record past { taken = past.taken ++ taken_as n.name (place n.start) refused ∷ [] }))
  name-left-by n h = on-err-by r _ _ (λ f k. either-kept n k.constants (f k.introduced)) h

  -- ---- a constant
  pub constant-ok-by : (ty n : Name) (value : ℕ) (own : List (List ℕ))
      → OnOk r (first_fault (constant_checks_in (kept_as names es constants) place ty n value) ≡ None)
      → OnOk r (Keeps (kept_as names es constants) past → first_fault (decl_checks past place (constant_form ty n value own)) ≡ None)
  constant-ok-by ty n value own h = ok-by r _ _ (λ e k. none-by _ _ (constant-checks-by (kept_as names es constants) past place ty n value own k) e) h

  pub constant-fault-by : (ty n : Name) (value : ℕ) (own : List (List ℕ))
      → IfErr r (λ e. Blames e (first_fault (constant_checks_in (kept_as names es constants) place ty n value)))
      → IfErr r (λ e. Keeps (kept_as names es constants) past → Blames e (first_fault (decl_checks past place (constant_form ty n value own))))
  constant-fault-by ty n value own h = err-by r _ _ (λ e b k. blames-by e _ _ (constant-checks-by (kept_as names es constants) past place ty n value own k) b) h

  pub constant-accepted-by : (ty n : Name) (value : ℕ) (own comments : List (List ℕ))
      → OnOk r (first_fault (constant_checks_in (kept_as names es constants) place ty n value) ≡ None)
      → ((t q : List ℕ) → OnOk r (constant_place constants2 t q ≡ cond (is_same_name t ty.name && is_same_name q n.name) (Some (place n.start)) (constant_place constants t q)))
      → OnOk r (Keeps (kept_as names es constants) past → Keeps (kept_as names es constants2) (accepted past place comments (constant_form ty n value own)))
  constant-accepted-by ty n value own comments h more = both r h more
    where
      both : (r : Result A CheckError) → OnOk r (first_fault (constant_checks_in (kept_as names es constants) place ty n value) ≡ None)
          → ((t q : List ℕ) → OnOk r (constant_place constants2 t q ≡ cond (is_same_name t ty.name && is_same_name q n.name) (Some (place n.start)) (constant_place constants t q)))
          → OnOk r (Keeps (kept_as names es constants) past → Keeps (kept_as names es constants2) (accepted past place comments (constant_form ty n value own)))
      both (Ok a) e m = λ k. record {
        introduced = k.introduced;
        constants = keeps-constant constants constants2 past.constants ty.name n.name (place n.start) (new-constant (kept_sense names es ty.name) (constant_place constants ty.name n.name) place ty n value e) m k.constants;
      }
      both (Err e) h m = tt

  same-constants : constants2 ≡ constants → Keeps (kept_as names es constants) past → Keeps (kept_as names es constants2) past
  same-constants e k = record { introduced = k.introduced; constants = subst (λ c. KeepsConstants c past.constants) (sym e) k.constants }

  pub constant-left-by : OnErr r (constants2 ≡ constants) → OnErr r (Keeps (kept_as names es constants) past → Keeps (kept_as names es constants2) past ⊎ Keeps (kept_as names es constants2) past)
  constant-left-by h = on-err-by r _ _ (λ e k. inl (same-constants e k)) h

  pub constant-rejected-by : OnErr r (constants2 ≡ constants) → IfErr r (λ e. IsCheckFault e → Keeps (kept_as names es constants) past → Keeps (kept_as names es constants2) past)
  constant-rejected-by h = both r h
    where
      both : (r : Result A CheckError) → OnErr r (constants2 ≡ constants) → IfErr r (λ e. IsCheckFault e → Keeps (kept_as names es constants) past → Keeps (kept_as names es constants2) past)
      both (Ok a) e = tt
      both (Err x) e = λ f k. same-constants e k

  -- ---- the definitions still fit, and are still in order

  pub name-fits-by : (old new : List Definition)
      → OnOk r (KeepsNames names es past.taken → DefinitionsFit old es → DefinitionsFit new es2)
      → OnErr r (new ≡ old) → OnErr r (es2 ≡ es)
      → Keeps (kept_as names es constants) past → DefinitionsFit old es → DefinitionsFit new es2
  name-fits-by old new h d e k fits = both r h d e
    where
      both : (r : Result A CheckError) → OnOk r (KeepsNames names es past.taken → DefinitionsFit old es → DefinitionsFit new es2)
          → OnErr r (new ≡ old) → OnErr r (es2 ≡ es) → DefinitionsFit new es2
      both (Ok a) f d e = f k.introduced fits
      both (Err x) f d e = subst (λ (l : List Definition). DefinitionsFit l es2) (sym d) (subst (λ (l : List (List ℕ × Entry)). DefinitionsFit old l) (sym e) fits)

  pub constant-fits-by : (old new : List Definition) (c : Constant)
      → OnOk r (map definition_tree new ≡ map definition_tree old ++ constant_of c ∷ []) → OnErr r (new ≡ old)
      → DefinitionsFit old es → DefinitionsFit new es
  constant-fits-by old new c h d fits = both r h d
    where
      both : (r : Result A CheckError) → OnOk r (map definition_tree new ≡ map definition_tree old ++ constant_of c ∷ []) → OnErr r (new ≡ old) → DefinitionsFit new es
      both (Ok a) e d = fits-constant old new (constant_of c) es e refl fits
      both (Err x) e d = subst (λ (l : List Definition). DefinitionsFit l es) (sym d) fits

  ordered-by : (old new : List Definition) (t : DefinitionTree)
      → OnOk r (map definition_tree new ≡ map definition_tree old ++ t ∷ []) → OnErr r (new ≡ old)
      → IsOrdered (map definition_tree old ++ t ∷ []) → IsOrdered (map definition_tree old) → IsOrdered (map definition_tree new)
  ordered-by old new t h d more before = both r h d
    where
      both : (r : Result A CheckError) → OnOk r (map definition_tree new ≡ map definition_tree old ++ t ∷ []) → OnErr r (new ≡ old) → IsOrdered (map definition_tree new)
      both (Ok a) e d = subst (λ (l : List DefinitionTree). IsOrdered l) (sym e) more
      both (Err x) e d = subst (λ (l : List Definition). IsOrdered (map definition_tree l)) (sym d) before

  pub typename-ordered-by : (old new : List Definition) (n : Name) (form : TypeTree) (comments : List (List ℕ))
      → OnOk r (map definition_tree new ≡ map definition_tree old ++ typename_of n.name (tree_meant (within names es place n) form) (documentation_of comments) ∷ [])
      → OnErr r (new ≡ old)
      → DefinitionsFit old es → IsOrdered (map definition_tree old) → IsOrdered (map definition_tree new)
  typename-ordered-by old new n form comments h d fits before =
      ordered-by old new _ h d (typename-ordered (map definition_tree old) ((n.name, place n.start) ∷ names) es (within names es place n) n.name (documentation_of comments) form (sense-within names es place n) fits before) before

  pub module-ordered-by : (old new : List Definition) (m : ModuleTree)
      → OnOk r (map definition_tree new ≡ map definition_tree old ++ module_of m ∷ []) → OnErr r (new ≡ old)
      → IsOrdered (map definition_tree old) → IsOrdered (map definition_tree new)
  module-ordered-by old new m h d before = ordered-by old new (module_of m) h d (ordered-last [] (map definition_tree old) (module_of m) before tt) before

  pub constant-ordered-by : (old new : List Definition) (c : Constant)
      → OnOk r (map definition_tree new ≡ map definition_tree old ++ constant_of c ∷ []) → OnErr r (new ≡ old)
      → IsOrdered (map definition_tree old) → IsOrdered (map definition_tree new)
  constant-ordered-by old new c h d before = ordered-by old new (constant_of c) h d (ordered-last [] (map definition_tree old) (constant_of c) before tt) before

  -- ---- and are still closed

  closed-by : (old new : List Definition) (t : DefinitionTree)
      → OnOk r (map definition_tree new ≡ map definition_tree old ++ t ∷ []) → OnErr r (new ≡ old)
      → IsClosed (map definition_tree old ++ t ∷ []) → IsClosed (map definition_tree old) → IsClosed (map definition_tree new)
  closed-by old new t h d more before = both r h d
    where
      both : (r : Result A CheckError) → OnOk r (map definition_tree new ≡ map definition_tree old ++ t ∷ []) → OnErr r (new ≡ old) → IsClosed (map definition_tree new)
      both (Ok a) e d = subst (λ (l : List DefinitionTree). IsClosed l) (sym e) more
      both (Err x) e d = subst (λ (l : List Definition). IsClosed (map definition_tree l)) (sym d) before

  pub typename-closed-by : (old new : List Definition) (n : Name) (form : TypeTree) (comments : List (List ℕ))
      → OnOk r (map definition_tree new ≡ map definition_tree old ++ typename_of n.name (tree_meant (within names es place n) form) (documentation_of comments) ∷ [])
      → OnErr r (new ≡ old)
      → DefinitionsFit old es → IsClosed (map definition_tree old) → IsClosed (map definition_tree new)
  typename-closed-by old new n form comments h d fits before =
      closed-by old new _ h d (typename-closed (map definition_tree old) ((n.name, place n.start) ∷ names) es (within names es place n) n.name (documentation_of comments) form (sense-within names es place n) fits before) before

  pub module-closed-by : (old new : List Definition) (n : Name) (items : List NotedDecl) (comments : List (List ℕ))
      → OnOk r (map definition_tree new ≡ map definition_tree old ++ module_of (module_meant (within names es place n) n.name items comments) ∷ [])
      → OnErr r (new ≡ old)
      → DefinitionsFit old es → IsClosed (map definition_tree old) → IsClosed (map definition_tree new)
  module-closed-by old new n items comments h d fits before =
      closed-by old new _ h d (module-closed (map definition_tree old) ((n.name, place n.start) ∷ names) es (within names es place n) n.name items comments (sense-within names es place n) fits before) before

  pub constant-closed-by : (old new : List Definition) (c : Constant)
      → OnOk r (map definition_tree new ≡ map definition_tree old ++ constant_of c ∷ []) → OnErr r (new ≡ old)
      → IsClosed (map definition_tree old) → IsClosed (map definition_tree new)
  constant-closed-by old new c h d before = closed-by old new (constant_of c) h d (closed-last [] (map definition_tree old) (constant_of c) before tt) before
