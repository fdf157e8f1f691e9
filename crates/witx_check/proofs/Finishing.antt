-- What finishing a declaration adds to the entries and the definitions, and that they still fit.
use Rattle.std.specs.Prelude.{◌≡◌, ◌⊎◌, ℕ, List, [], ◌∷◌, ◌++◌, Option, Some, None, option_map, map, cond, Bool, true, false}
use Rattle.std.proofs.Common.{refl, sym, ap, subst, inr, ◌∙◌}
use Rattle.std.specs.Ordering.{is_eq, nat_cmp}
use Rattle.std.specs.Cmp.Lexicographic.{slice_cmp}
use Rattle.witx_base.specs.Found.{found}
use Rattle.witx_files.specs.declared.location.Location.{Location}
use Rattle.witx_syntax_tree.specs.Trees.{TypeTree, Name}
use Rattle.witx_ast.specs.Tree.{Tree}
use Rattle.witx_ast.specs.Definitions.{DefinitionTree, definition_tree, entry_tree, introduced, DefinitionsFit}
use Rattle.witx_ast.specs.Entries.{Fits}
use Rattle.witx_ast.specs.declared.definition.Definition.{Definition}
use Rattle.witx_ast.specs.declared.definition.Entry.{Entry}
use Rattle.witx_ast.specs.declared.definition.Entry.TheVariants as entry
use Rattle.witx_ast.proofs.Trees.{tree_rules}
use Rattle.witx_scope.specs.Faults.{Check, Fault, first_fault, name_already_exists}
use Rattle.witx_scope.specs.Names.{Names, Here, a_type, a_module}
use Rattle.witx_syntax_tree.specs.Trees.{NotedDecl}
use Rattle.witx_scope.specs.Inside.{typename_checks, module_checks}
use Rattle.witx_scope.specs.Positions.{TakenName, made_type, made_module, refused, is_same_name, introducer}
use Rattle.witx_scope.specs.Kept.{KeepsNames, entry_sense_of, finished_sense}
use Rattle.witx_scope.proofs.Steps.{is_eq-swap}
use Rattle.witx_check.proofs.Finished.{entries-more, keeps-made, keeps-refused, keeps-left, none-taken}
use Rattle.witx_scope.proofs.Pushed.{cut-back, definitions-last, definitions-more}
use Rattle.witx_check.proofs.Fits.{fits-more}

-- ---- one entry, one definition

tree-cond : (c : Bool) (a b : Option Entry) → option_map entry_tree (cond c a b) ≡ cond c (option_map entry_tree a) (option_map entry_tree b)
tree-cond true a b = refl
tree-cond false a b = refl

pub trees-more : (old new : List (List ℕ × Entry)) (e : Entry) (k q : List ℕ)
    → found new q ≡ cond (is_eq (slice_cmp nat_cmp k q)) (Some e) (found old q)
    → option_map entry_tree (found new q) ≡ cond (is_same_name q k) (Some (entry_tree e)) (option_map entry_tree (found old q))
trees-more old new e k q h =
    let h1 = rw (is_eq-swap k q) at h in
    ap (option_map entry_tree) h1 ∙ tree-cond (is_same_name q k) (Some e) (found old q)

pub ruleset finish_rules = (entries-more, trees-more, cut-back)

-- ---- a name whose declaration has no fault is new

no-fault : (o : Option Location) (f : Location → Fault) (cs : List Check) → first_fault (option_map f o ∷ cs) ≡ None → o ≡ None
no-fault None f cs e = refl
no-fault (Some l) f cs e = absurd (cc)

pub absent-typename : (names : Names) (h : Here) (n : Name) (form : TypeTree) → first_fault (typename_checks names h n form) ≡ None → found names n.name ≡ None
absent-typename names h n form e = no-fault (found names n.name) (λ (l : Location). name_already_exists n.name (h.place n.start) l) _ e

pub absent-module : (names : Names) (h : Here) (n : Name) (items : List NotedDecl) → first_fault (module_checks names h n items) ≡ None → found names n.name ≡ None
absent-module names h n items e = no-fault (found names n.name) (λ (l : Location). name_already_exists n.name (h.place n.start) l) _ e

-- a name that was not introduced has no entry
entry-none : (e : Option Entry) → entry_sense_of e ≡ None → option_map entry_tree e ≡ None
entry-none None h = refl
entry-none (Some (entry.Typename n)) h = absurd (cc)
entry-none (Some (entry.Module m)) h = absurd (cc)

pub no-entry : (names : Names) (es : List (List ℕ × Entry)) (past : List TakenName) (n : List ℕ) → KeepsNames names es past → found names n ≡ None → option_map entry_tree (found es n) ≡ None
no-entry names es past n k a = entry-none (found es n) (k.senses n ∙ ap finished_sense (none-taken (introducer past n) (sym (k.places n) ∙ a)))

-- ---- what is kept

pub keeps-typename : (names new : Names) (es es2 : List (List ℕ × Entry)) (past : List TakenName) (n : List ℕ) (p : Location) (tree : Tree)
    → found names n ≡ None
    → ((q : List ℕ) → found new q ≡ found ((n, p) ∷ names) q)
    → ((q : List ℕ) → entry_sense_of (found es2 q) ≡ cond (is_same_name q n) (Some (a_type tree)) (entry_sense_of (found es q)))
    → KeepsNames names es past
    → KeepsNames new es2 (past ++ record { name = n; place = p; outcome = made_type tree } ∷ [])
keeps-typename names new es es2 past n p tree a k m h = keeps-made names new es es2 past n p (made_type tree) (a, k) m h

pub keeps-module : (names new : Names) (es es2 : List (List ℕ × Entry)) (past : List TakenName) (n : List ℕ) (p : Location)
    → found names n ≡ None
    → ((q : List ℕ) → found new q ≡ found ((n, p) ∷ names) q)
    → ((q : List ℕ) → entry_sense_of (found es2 q) ≡ cond (is_same_name q n) (Some a_module) (entry_sense_of (found es q)))
    → KeepsNames names es past
    → KeepsNames new es2 (past ++ record { name = n; place = p; outcome = made_module } ∷ [])
keeps-module names new es es2 past n p a k m h = keeps-made names new es es2 past n p made_module (a, k) m h

-- want of memory after the name was taken in
pub keeps-late : (names new : Names) (es : List (List ℕ × Entry)) (past : List TakenName) (n : List ℕ) (p : Location)
    → found names n ≡ None
    → ((q : List ℕ) → found new q ≡ found ((n, p) ∷ names) q)
    → KeepsNames names es past → KeepsNames new es past ⊎ KeepsNames new es (past ++ record { name = n; place = p; outcome = refused } ∷ [])
keeps-late names new es past n p a k h = keeps-left names new es past n p (inr (a, k)) h

-- ---- the definitions still fit

pub fits-definition : (names : Names) (ds new : List Definition) (d : Definition) (e : Entry) (es es2 : List (List ℕ × Entry)) (past : List TakenName) (n : List ℕ)
    → new ≡ ds ++ d ∷ []
    → introduced (definition_tree d) ≡ Some n
    → definition_tree d ≡ entry_tree e
    → found names n ≡ None
    → ((q : List ℕ) → option_map entry_tree (found es2 q) ≡ cond (is_same_name q n) (Some (entry_tree e)) (option_map entry_tree (found es q)))
    → KeepsNames names es past
    → DefinitionsFit ds es
    → DefinitionsFit new es2
fits-definition names ds new d e es es2 past n pushed named same a m k fits =
    subst (λ (l : List DefinitionTree). Fits introduced entry_tree l es2) (sym (definitions-last ds new d pushed))
    (fits-more introduced entry_tree (map definition_tree ds) (definition_tree d) n es es2 named fits (no-entry names es past n k a)
    (λ (q : List ℕ). m q ∙ ap (λ (x : DefinitionTree). cond (is_same_name q n) (Some x) (option_map entry_tree (found es q))) (sym same)))

-- the same where the entry's key is given by an equation
pub fits-named : (names : Names) (ds new : List Definition) (d : Definition) (e : Entry) (es es2 : List (List ℕ × Entry)) (past : List TakenName) (n key : List ℕ)
    → new ≡ ds ++ d ∷ []
    → introduced (definition_tree d) ≡ Some n
    → definition_tree d ≡ entry_tree e
    → found names n ≡ None
    → key ≡ n
    → ((q : List ℕ) → option_map entry_tree (found es2 q) ≡ cond (is_same_name q key) (Some (entry_tree e)) (option_map entry_tree (found es q)))
    → KeepsNames names es past
    → DefinitionsFit ds es
    → DefinitionsFit new es2
fits-named names ds new d e es es2 past n key pushed named same a same_key m k fits =
    fits-definition names ds new d e es es2 past n pushed named same a
    (λ (q : List ℕ). m q ∙ ap (λ (x : List ℕ). cond (is_same_name q x) (Some (entry_tree e)) (option_map entry_tree (found es q))) same_key) k fits

-- want of memory after the name was taken in, where the entries are unchanged
pub keeps-unchanged : (names new : Names) (es es2 : List (List ℕ × Entry)) (past : List TakenName) (n : List ℕ) (p : Location)
    → found names n ≡ None
    → ((q : List ℕ) → found new q ≡ found ((n, p) ∷ names) q)
    → es2 ≡ es
    → KeepsNames names es past → KeepsNames new es2 past ⊎ KeepsNames new es2 (past ++ record { name = n; place = p; outcome = refused } ∷ [])
keeps-unchanged names new es es2 past n p a k same h =
    subst (λ (x : List (List ℕ × Entry)). KeepsNames new x past ⊎ KeepsNames new x (past ++ record { name = n; place = p; outcome = refused } ∷ [])) (sym same) (keeps-late names new es past n p a k h)

pub ruleset keeping_rules = (tree_rules, absent-typename, absent-module, keeps-typename, keeps-module, keeps-refused, keeps-left, keeps-late, definitions-more, fits-definition)
