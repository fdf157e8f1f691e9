-- All that `validate_decl` promises, from the answers of the function that takes the kind of declaration in.
use Rattle.std.specs.Prelude.{◌≡◌, ◌⊎◌, ◌&&◌, ℕ, List, [], ◌∷◌, ◌++◌, Some, None, map, cond, Result, Ok, Err, OnOk, OnErr, IfErr}
use Rattle.std.proofs.Common.{refl, sym, ap, subst, inl, ◌∙◌}
use Rattle.std.specs.Prelude.{option_map}
use Rattle.witx_base.specs.Found.{found}
use Rattle.witx_files.specs.declared.location.Location.{Location}
use Rattle.witx_comments.specs.Documentation.{documentation_of}
use Rattle.witx_syntax_tree.specs.Trees.{TypeTree, Name, NotedDecl}
use Rattle.witx_ast.specs.Tree.{Tree, named}
use Rattle.witx_ast.specs.Views.{tree_of, named_tree}
use Rattle.witx_ast.specs.Entries.{Fits}
use Rattle.witx_ast.specs.declared.types.NamedType.{NamedType}
use Rattle.witx_ast.specs.declared.module.Module.{Module}
use Rattle.witx_ast.proofs.Trees.{tree-NamedType}
use Rattle.witx_ast.specs.Definitions.{DefinitionTree, typename_of, module_of, module_tree, constant_of, definition_tree, entry_tree, introduced, DefinitionsFit}
use Rattle.witx_ast.specs.declared.definition.Definition.{Definition}
use Rattle.witx_ast.specs.declared.definition.Entry.{Entry}
use Rattle.witx_scope.specs.declared.error.CheckError.{CheckError}
use Rattle.witx_scope.specs.declared.error.CheckError.TheVariants as check_error
use Rattle.witx_scope.specs.declared.constants.ConstantName.{ConstantName}
use Rattle.witx_scope.specs.Answers.{IsCheckFault}
use Rattle.witx_scope.specs.Blame.{Blames}
use Rattle.witx_scope.specs.Faults.{first_fault}
use Rattle.witx_scope.specs.Names.{Names, a_type, a_module}
use Rattle.witx_scope.specs.Trees.{tree_meant}
use Rattle.witx_scope.specs.DeclarationForms.{DeclForm, typename_form, module_form, constant_form}
use Rattle.witx_scope.specs.Constants.{constant_place}
use Rattle.witx_scope.specs.Declarations.{nothing_before}
use Rattle.witx_scope.specs.Inside.{within, typename_checks, module_checks, module_meant, TakesAtMost, RefusesDeclaration}
use Rattle.witx_scope.specs.Positions.{TakenName, made_type, made_module, refused, is_same_name}
use Rattle.witx_scope.specs.Kept.{Kept, KeepsNames, entry_sense_of}
use Rattle.witx_scope.specs.Validates.{Site, Validates}
use Rattle.witx_check.proofs.Finished.{taken_as, keeps-refused, keeps-left}
use Rattle.witx_check.proofs.Finishing.{absent-typename, absent-module, keeps-typename, keeps-module, keeps-unchanged, no-entry}
use Rattle.witx_check.proofs.Fits.{fits-more}
use Rattle.witx_check.proofs.Answered.{kept_as, typename-ok-by, typename-fault-by, typename-appended-by, typename-accepted-by, module-ok-by, module-fault-by, module-appended-by, module-accepted-by, name-rejected-by, name-left-by, constant-ok-by, constant-fault-by, constant-accepted-by, constant-left-by, constant-rejected-by, name-fits-by, constant-fits-by, typename-ordered-by, module-ordered-by, constant-ordered-by, typename-closed-by, module-closed-by, constant-closed-by}
use Rattle.witx_check.proofs.Validated.{ok-by, constant_checks_in}

-- out of memory before anything was done
pub nothing-validates : (kept : Kept) (definitions : List Definition) (at : Site) → Validates kept kept definitions definitions at (Err check_error.OutOfMemory)
nothing-validates kept definitions at = record {
  ok = λ past. tt;
  appended = λ past. tt;
  accepted = λ past. tt;
  fault = λ past k. tt;
  rejected = λ past f. absurd f;
  unchanged = refl;
  out_of_memory = λ past k. inl k;
  fits = λ past k f. f;
  ordered = λ f o. o;
  closed = λ f o. o;
}

pub ruleset nothing_rules = (nothing-validates)

module _ (r : Result (Unit {0}) CheckError) (names names2 : Names) (es es2 : List (List ℕ × Entry)) (constants : List (ConstantName × Location)) (place : ℕ → Location) (old new : List Definition) where
  pub typename-validates : (n : Name) (form : TypeTree) (comments : List (List ℕ))
      → OnOk r (first_fault (typename_checks names (within names es place n) n form) ≡ None)
      → OnOk r (map definition_tree new ≡ map definition_tree old ++ typename_of n.name (tree_meant (within names es place n) form) (documentation_of comments) ∷ [])
      → ((past : List TakenName) → OnOk r (KeepsNames names es past → KeepsNames names2 es2 (past ++ taken_as n.name (place n.start) (made_type (named n.name (tree_meant (within names es place n) form) (documentation_of comments))) ∷ [])))
      → ((past : List TakenName) → OnOk r (KeepsNames names es past → DefinitionsFit old es → DefinitionsFit new es2))
      → IfErr r (λ e. Blames e (first_fault (typename_checks names (within names es place n) n form)))
      → OnErr r (new ≡ old)
      → OnErr r (es2 ≡ es)
      → ((past : List TakenName) → IfErr r (λ e. IsCheckFault e → KeepsNames names es past → KeepsNames names2 es2 (past ++ taken_as n.name (place n.start) refused ∷ [])))
      → ((past : List TakenName) → OnErr r (KeepsNames names es past → KeepsNames names2 es2 past ⊎ KeepsNames names2 es2 (past ++ taken_as n.name (place n.start) refused ∷ [])))
      → Validates (kept_as names es constants) (kept_as names2 es2 constants) old new (record { place = place; comments = comments; form = typename_form n form }) r
  typename-validates n form comments ok appended keeps fits fault unchanged same refuses left = record {
    ok = λ past. typename-ok-by r names names2 es es2 constants constants past place n form ok;
    appended = λ past. typename-appended-by r names names2 es es2 constants constants past place old new n form comments appended;
    accepted = λ past. typename-accepted-by r names names2 es es2 constants constants past place n form comments (keeps past.taken);
    fault = λ past. typename-fault-by r names names2 es es2 constants constants past place n form fault;
    rejected = λ past. name-rejected-by r names names2 es es2 constants constants past place n (refuses past.taken);
    unchanged = unchanged;
    out_of_memory = λ past. name-left-by r names names2 es es2 constants constants past place n (left past.taken);
    fits = λ past. name-fits-by r names names2 es es2 constants constants past place old new (fits past.taken) unchanged same;
    ordered = typename-ordered-by r names names2 es es2 constants constants nothing_before place old new n form comments appended unchanged;
    closed = typename-closed-by r names names2 es es2 constants constants nothing_before place old new n form comments appended unchanged;
  }

  pub module-validates : (n : Name) (items : List NotedDecl) (comments : List (List ℕ))
      → OnOk r (first_fault (module_checks names (within names es place n) n items) ≡ None)
      → OnOk r (map definition_tree new ≡ map definition_tree old ++ module_of (module_meant (within names es place n) n.name items comments) ∷ [])
      → ((past : List TakenName) → OnOk r (KeepsNames names es past → KeepsNames names2 es2 (past ++ taken_as n.name (place n.start) made_module ∷ [])))
      → ((past : List TakenName) → OnOk r (KeepsNames names es past → DefinitionsFit old es → DefinitionsFit new es2))
      → IfErr r (λ e. Blames e (first_fault (module_checks names (within names es place n) n items)))
      → OnErr r (new ≡ old)
      → OnErr r (es2 ≡ es)
      → ((past : List TakenName) → IfErr r (λ e. IsCheckFault e → KeepsNames names es past → KeepsNames names2 es2 (past ++ taken_as n.name (place n.start) refused ∷ [])))
      → ((past : List TakenName) → OnErr r (KeepsNames names es past → KeepsNames names2 es2 past ⊎ KeepsNames names2 es2 (past ++ taken_as n.name (place n.start) refused ∷ [])))
      → Validates (kept_as names es constants) (kept_as names2 es2 constants) old new (record { place = place; comments = comments; form = module_form n items }) r
  module-validates n items comments ok appended keeps fits fault unchanged same refuses left = record {
    ok = λ past. module-ok-by r names names2 es es2 constants constants past place n items ok;
    appended = λ past. module-appended-by r names names2 es es2 constants constants past place old new n items comments appended;
    accepted = λ past. module-accepted-by r names names2 es es2 constants constants past place n items comments (keeps past.taken);
    fault = λ past. module-fault-by r names names2 es es2 constants constants past place n items fault;
    rejected = λ past. name-rejected-by r names names2 es es2 constants constants past place n (refuses past.taken);
    unchanged = unchanged;
    out_of_memory = λ past. name-left-by r names names2 es es2 constants constants past place n (left past.taken);
    fits = λ past. name-fits-by r names names2 es es2 constants constants past place old new (fits past.taken) unchanged same;
    ordered = λ f. module-ordered-by r names names2 es es2 constants constants nothing_before place old new _ appended unchanged;
    closed = module-closed-by r names names2 es es2 constants constants nothing_before place old new n items comments appended unchanged;
  }

  pub constant-validates : (constants2 : List (ConstantName × Location)) (ty n : Name) (value : ℕ) (own comments : List (List ℕ))
      → OnOk r (first_fault (constant_checks_in (kept_as names es constants) place ty n value) ≡ None)
      → OnOk r (map definition_tree new ≡ map definition_tree old ++ constant_of (record { ty = ty.name; name = n.name; value = value; docs = documentation_of own }) ∷ [])
      → ((t q : List ℕ) → OnOk r (constant_place constants2 t q ≡ cond (is_same_name t ty.name && is_same_name q n.name) (Some (place n.start)) (constant_place constants t q)))
      → IfErr r (λ e. Blames e (first_fault (constant_checks_in (kept_as names es constants) place ty n value)))
      → OnErr r (new ≡ old)
      → OnErr r (constants2 ≡ constants)
      → Validates (kept_as names es constants) (kept_as names es constants2) old new (record { place = place; comments = comments; form = constant_form ty n value own }) r
  constant-validates constants2 ty n value own comments ok appended places fault unchanged same = record {
    ok = λ past. constant-ok-by r names names es es constants constants2 past place ty n value own ok;
    appended = λ past. ok-by r _ _ (λ e k. e) appended;
    accepted = λ past. constant-accepted-by r names names es es constants constants2 past place ty n value own comments ok places;
    fault = λ past. constant-fault-by r names names es es constants constants2 past place ty n value own fault;
    rejected = λ past. constant-rejected-by r names names es es constants constants2 past place same;
    unchanged = unchanged;
    out_of_memory = λ past. constant-left-by r names names es es constants constants2 past place same;
    fits = λ past k. constant-fits-by r names names es es constants constants2 past place old new _ appended unchanged;
    ordered = λ f. constant-ordered-by r names names es es constants constants2 nothing_before place old new _ appended unchanged;
    closed = λ f. constant-closed-by r names names es es constants constants2 nothing_before place old new _ appended unchanged;
  }

-- the declaration is of this form
pub of-form : {before after : Kept} {old new : List Definition} {place : ℕ → Location} {comments : List (List ℕ)} {r : Result (Unit {0}) CheckError} {d e : DeclForm} → d ≡ e
    → Validates before after old new (record { place = place; comments = comments; form = e }) r → Validates before after old new (record { place = place; comments = comments; form = d }) r
of-form {before} {after} {old} {new} {place} {comments} {r} same v = subst (λ (f : DeclForm). Validates before after old new (record { place = place; comments = comments; form = f }) r) (sym same) v

-- ---- a typename or a module, exit by exit

typename-is : (m : NamedType) (n : List ℕ) (t : Tree) (d : List ℕ) → named_tree m ≡ named n t d → typename_of m.name (tree_of m.tref) m.docs ≡ typename_of n t d
typename-is m n t d e = ap as_definition (sym (tree-NamedType m) ∙ e)
  where
    as_definition : Tree → DefinitionTree
    as_definition (named n t d) = typename_of n t d
    as_definition t = typename_of [] t []

module _ (names names2 : Names) (es es2 : List (List ℕ × Entry)) (constants : List (ConstantName × Location)) (place : ℕ → Location) (old new : List Definition) (n : Name) (comments : List (List ℕ)) where
  fits-last : (t : DefinitionTree) → introduced t ≡ Some n.name → found names n.name ≡ None
      → map definition_tree new ≡ map definition_tree old ++ t ∷ []
      → ((q : List ℕ) → option_map entry_tree (found es2 q) ≡ cond (is_same_name q n.name) (Some t) (option_map entry_tree (found es q)))
      → (past : List TakenName) → KeepsNames names es past → DefinitionsFit old es → DefinitionsFit new es2
  fits-last t names_it absent appended trees past k fits =
      subst (λ (l : List DefinitionTree). Fits introduced entry_tree l es2) (sym appended)
      (fits-more introduced entry_tree (map definition_tree old) t n.name es es2 names_it fits (no-entry names es past n.name k absent) trees)

  pub typename-refused : (form : TypeTree) (e : CheckError)
      → Blames e (first_fault (typename_checks names (within names es place n) n form))
      → (IsCheckFault e → RefusesDeclaration names names2 n.name (place n.start))
      → TakesAtMost names names2 n.name (place n.start)
      → Validates (kept_as names es constants) (kept_as names2 es constants) old old (record { place = place; comments = comments; form = typename_form n form }) (Err e)
  typename-refused form e fault refuses left =
      typename-validates (Err e) names names2 es es constants place old old n form comments tt tt (λ past. tt) (λ past. tt) fault refl refl
      (λ past f k. keeps-refused names names2 es past n.name (place n.start) (refuses f) k)
      (λ past k. keeps-left names names2 es past n.name (place n.start) left k)

  pub typename-late : (form : TypeTree)
      → first_fault (typename_checks names (within names es place n) n form) ≡ None
      → ((q : List ℕ) → found names2 q ≡ found ((n.name, place n.start) ∷ names) q)
      → new ≡ old → es2 ≡ es
      → Validates (kept_as names es constants) (kept_as names2 es2 constants) old new (record { place = place; comments = comments; form = typename_form n form }) (Err check_error.OutOfMemory)
  typename-late form ok kept unchanged same =
      typename-validates (Err check_error.OutOfMemory) names names2 es es2 constants place old new n form comments tt tt (λ past. tt) (λ past. tt) tt unchanged same
      (λ past f. absurd f)
      (λ past k. keeps-unchanged names names2 es es2 past n.name (place n.start) (absent-typename names (within names es place n) n form ok) kept same k)

  pub typename-made : (form : TypeTree) (m : NamedType)
      → first_fault (typename_checks names (within names es place n) n form) ≡ None
      → named_tree m ≡ named n.name (tree_meant (within names es place n) form) (documentation_of comments)
      → m.name ≡ n.name
      → ((q : List ℕ) → found names2 q ≡ found ((n.name, place n.start) ∷ names) q)
      → map definition_tree new ≡ map definition_tree old ++ typename_of m.name (tree_of m.tref) m.docs ∷ []
      → ((q : List ℕ) → entry_sense_of (found es2 q) ≡ cond (is_same_name q m.name) (Some (a_type (named_tree m))) (entry_sense_of (found es q)))
      → ((q : List ℕ) → option_map entry_tree (found es2 q) ≡ cond (is_same_name q m.name) (Some (typename_of m.name (tree_of m.tref) m.docs)) (option_map entry_tree (found es q)))
      → Validates (kept_as names es constants) (kept_as names2 es2 constants) old new (record { place = place; comments = comments; form = typename_form n form }) (Ok tt)
  typename-made form m ok tree called kept appended senses trees =
      let meant : Tree = tree_meant (within names es place n) form in
      let made : DefinitionTree = typename_of n.name meant (documentation_of comments) in
      let is : typename_of m.name (tree_of m.tref) m.docs ≡ made = typename-is m n.name meant (documentation_of comments) tree in
      let absent : found names n.name ≡ None = absent-typename names (within names es place n) n form ok in
      let last : map definition_tree new ≡ map definition_tree old ++ made ∷ [] = appended ∙ ap (λ (t : DefinitionTree). map definition_tree old ++ t ∷ []) is in
      let senses2 : (q : List ℕ) → entry_sense_of (found es2 q) ≡ cond (is_same_name q n.name) (Some (a_type (named n.name meant (documentation_of comments)))) (entry_sense_of (found es q)) =
      λ q. senses q
      ∙ (ap (λ (x : List ℕ). cond (is_same_name q x) (Some (a_type (named_tree m))) (entry_sense_of (found es q))) called
      ∙ ap (λ (t : Tree). cond (is_same_name q n.name) (Some (a_type t)) (entry_sense_of (found es q))) tree) in
      let trees2 : (q : List ℕ) → option_map entry_tree (found es2 q) ≡ cond (is_same_name q n.name) (Some made) (option_map entry_tree (found es q)) =
      λ q. trees q
      ∙ (ap (λ (x : List ℕ). cond (is_same_name q x) (Some (typename_of m.name (tree_of m.tref) m.docs)) (option_map entry_tree (found es q))) called
      ∙ ap (λ (t : DefinitionTree). cond (is_same_name q n.name) (Some t) (option_map entry_tree (found es q))) is) in
      typename-validates (Ok tt) names names2 es es2 constants place old new n form comments ok last
      (λ past k. keeps-typename names names2 es es2 past n.name (place n.start) _ absent kept senses2 k)
      (fits-last made refl absent last trees2)
      tt tt tt (λ past. tt) (λ past. tt)

  pub module-refused : (items : List NotedDecl) (e : CheckError)
      → Blames e (first_fault (module_checks names (within names es place n) n items))
      → (IsCheckFault e → RefusesDeclaration names names2 n.name (place n.start))
      → TakesAtMost names names2 n.name (place n.start)
      → Validates (kept_as names es constants) (kept_as names2 es constants) old old (record { place = place; comments = comments; form = module_form n items }) (Err e)
  module-refused items e fault refuses left =
      module-validates (Err e) names names2 es es constants place old old n items comments tt tt (λ past. tt) (λ past. tt) fault refl refl
      (λ past f k. keeps-refused names names2 es past n.name (place n.start) (refuses f) k)
      (λ past k. keeps-left names names2 es past n.name (place n.start) left k)

  pub module-late : (items : List NotedDecl)
      → first_fault (module_checks names (within names es place n) n items) ≡ None
      → ((q : List ℕ) → found names2 q ≡ found ((n.name, place n.start) ∷ names) q)
      → new ≡ old → es2 ≡ es
      → Validates (kept_as names es constants) (kept_as names2 es2 constants) old new (record { place = place; comments = comments; form = module_form n items }) (Err check_error.OutOfMemory)
  module-late items ok kept unchanged same =
      module-validates (Err check_error.OutOfMemory) names names2 es es2 constants place old new n items comments tt tt (λ past. tt) (λ past. tt) tt unchanged same
      (λ past f. absurd f)
      (λ past k. keeps-unchanged names names2 es es2 past n.name (place n.start) (absent-module names (within names es place n) n items ok) kept same k)

  pub module-made : (items : List NotedDecl) (m : Module)
      → first_fault (module_checks names (within names es place n) n items) ≡ None
      → module_tree m ≡ module_meant (within names es place n) n.name items comments
      → m.name ≡ n.name
      → ((q : List ℕ) → found names2 q ≡ found ((n.name, place n.start) ∷ names) q)
      → map definition_tree new ≡ map definition_tree old ++ module_of (module_tree m) ∷ []
      → ((q : List ℕ) → entry_sense_of (found es2 q) ≡ cond (is_same_name q m.name) (Some a_module) (entry_sense_of (found es q)))
      → ((q : List ℕ) → option_map entry_tree (found es2 q) ≡ cond (is_same_name q m.name) (Some (module_of (module_tree m))) (option_map entry_tree (found es q)))
      → Validates (kept_as names es constants) (kept_as names2 es2 constants) old new (record { place = place; comments = comments; form = module_form n items }) (Ok tt)
  module-made items m ok tree called kept appended senses trees =
      let made : DefinitionTree = module_of (module_meant (within names es place n) n.name items comments) in
      let is : module_of (module_tree m) ≡ made = ap module_of tree in
      let absent : found names n.name ≡ None = absent-module names (within names es place n) n items ok in
      let last : map definition_tree new ≡ map definition_tree old ++ made ∷ [] = appended ∙ ap (λ (t : DefinitionTree). map definition_tree old ++ t ∷ []) is in
      let senses2 : (q : List ℕ) → entry_sense_of (found es2 q) ≡ cond (is_same_name q n.name) (Some a_module) (entry_sense_of (found es q)) =
      λ q. senses q ∙ ap (λ (x : List ℕ). cond (is_same_name q x) (Some a_module) (entry_sense_of (found es q))) called in
      let trees2 : (q : List ℕ) → option_map entry_tree (found es2 q) ≡ cond (is_same_name q n.name) (Some made) (option_map entry_tree (found es q)) =
      λ q. trees q
      ∙ (ap (λ (x : List ℕ). cond (is_same_name q x) (Some (module_of (module_tree m))) (option_map entry_tree (found es q))) called
      ∙ ap (λ (t : DefinitionTree). cond (is_same_name q n.name) (Some t) (option_map entry_tree (found es q))) is) in
      module-validates (Ok tt) names names2 es es2 constants place old new n items comments ok last
      (λ past k. keeps-module names names2 es es2 past n.name (place n.start) absent kept senses2 k)
      (fits-last made refl absent last trees2)
      tt tt tt (λ past. tt) (λ past. tt)
