-- `typename-checks-by`, `module-checks-by`, `constant-checks-by`: the checks of a declaration by what a validator keeps are
-- those by positions, and so are the trees and what is kept afterwards.
use Rattle.std.specs.Prelude.{◌≡◌, ℕ, List, [], ◌∷◌, ◌++◌, ◌&&◌, Option, Some, None, option_map, map, filter, cond, Bool, true, false, Result, Ok, Err, OnOk, OnErr, IfErr}
use Rattle.std.proofs.Common.{refl, sym, ap, subst, ◌∙◌}
use Rattle.std.proofs.lemmas.List.{map-append, append-nil}
use Rattle.std.proofs.lemmas.List.Elements.{filter-append}
use Rattle.std.proofs.lemmas.Map.Lookups.{exact_bytes}
use Rattle.std.proofs.lemmas.Map.Views.{tells_apart}
use Rattle.witx_base.specs.Found.{found}
use Rattle.witx_files.specs.declared.location.Location.{Location}
use Rattle.witx_comments.specs.Documentation.{documentation_of}
use Rattle.witx_syntax_tree.specs.Trees.{TypeTree, Name, NotedDecl}
use Rattle.witx_ast.specs.Definitions.{DefinitionTree, typename_of, module_of, definition_tree, entry_tree, introduced, DefinitionsFit}
use Rattle.witx_ast.specs.Tree.{behind}
use Rattle.witx_ast.specs.Entries.{Fits}
use Rattle.witx_ast.specs.declared.definition.Definition.{Definition}
use Rattle.witx_ast.specs.declared.definition.Entry.{Entry}
use Rattle.witx_scope.specs.declared.error.CheckError.{CheckError}
use Rattle.witx_scope.specs.declared.constants.ConstantName.{ConstantName}
use Rattle.witx_scope.specs.Blame.{Blames}
use Rattle.witx_scope.specs.Faults.{Check, first_fault, name_already_exists}
use Rattle.witx_scope.specs.Integers.{constant_checks, integer_check, value_check, greatest_in}
use Rattle.witx_scope.specs.Names.{Names, Here, Sense, use_check, sense_tree}
use Rattle.witx_scope.specs.Trees.{tree_meant}
use Rattle.witx_scope.specs.Checks.{type_checks}
use Rattle.witx_scope.specs.Modules.{items_checks}
use Rattle.witx_scope.specs.DeclarationForms.{typename_form, module_form, constant_form}
use Rattle.witx_scope.specs.Constants.{constant_place}
use Rattle.witx_scope.specs.Inside.{within, typename_checks, module_checks, module_meant}
use Rattle.witx_scope.specs.Positions.{is_same_name, after, denotes_before}
use Rattle.witx_scope.specs.Declarations.{Past, TakenConstant, constants_of_type, decl_checks, decl_tree}
use Rattle.witx_scope.specs.Kept.{Kept, Keeps, KeepsNames, KeepsConstants}
use Rattle.witx_scope.specs.Senses.{kept_sense}
use Rattle.witx_check.proofs.ByPosition.{within-by-position, sense-by-position}
use Rattle.witx_check.proofs.Finished.{name-by-position}
use Rattle.witx_check.proofs.Fits.{found-last, first_or, last-step, fits-unnamed}
use Rattle.witx_scope.proofs.Steps.{is_eq-swap}

-- ---- the checks and the definition

pub typename-checks-by : (names : Names) (es : List (List ℕ × Entry)) (past : Past) (place : ℕ → Location) (n : Name) (form : TypeTree) → KeepsNames names es past.taken
    → typename_checks names (within names es place n) n form ≡ decl_checks past place (typename_form n form)
typename-checks-by names es past place n form k =
    ap (λ (h : Here). typename_checks names h n form) (within-by-position names es past.taken place n k)
    ∙ ap (λ (c : Check). c ∷ type_checks (after past.taken place n) true (place n.start) form) (name-by-position names es past.taken n.name (place n.start) k)

pub module-checks-by : (names : Names) (es : List (List ℕ × Entry)) (past : Past) (place : ℕ → Location) (n : Name) (items : List NotedDecl) → KeepsNames names es past.taken
    → module_checks names (within names es place n) n items ≡ decl_checks past place (module_form n items)
module-checks-by names es past place n items k =
    ap (λ (h : Here). module_checks names h n items) (within-by-position names es past.taken place n k)
    ∙ ap (λ (c : Check). c ∷ items_checks (after past.taken place n) [] items) (name-by-position names es past.taken n.name (place n.start) k)

-- the checks of a constant, by the tables
abbrev pub constant_checks_in : Kept → (ℕ → Location) → Name → Name → ℕ → List Check
constant_checks_in kept place ty n value = constant_checks (kept_sense kept.names kept.entries ty.name) (constant_place kept.constants ty.name n.name) place ty n value

pub constant-checks-by : (kept : Kept) (past : Past) (place : ℕ → Location) (ty n : Name) (value : ℕ) (own : List (List ℕ)) → Keeps kept past
    → constant_checks_in kept place ty n value ≡ decl_checks past place (constant_form ty n value own)
constant-checks-by kept past place ty n value own k =
    ap (λ (s : Sense). constant_checks s (constant_place kept.constants ty.name n.name) place ty n value) (sense-by-position kept.names kept.entries past.taken ty.name k.introduced)
    ∙ ap (λ (o : Option Location). constant_checks (denotes_before past.taken ty.name) o place ty n value) (k.constants ty.name n.name)

pub typename-tree-by : (names : Names) (es : List (List ℕ × Entry)) (past : Past) (place : ℕ → Location) (n : Name) (form : TypeTree) (comments : List (List ℕ)) → KeepsNames names es past.taken
    → typename_of n.name (tree_meant (within names es place n) form) (documentation_of comments) ≡ decl_tree past place comments (typename_form n form)
typename-tree-by names es past place n form comments k =
    ap (λ (h : Here). typename_of n.name (tree_meant h form) (documentation_of comments)) (within-by-position names es past.taken place n k)

pub module-tree-by : (names : Names) (es : List (List ℕ × Entry)) (past : Past) (place : ℕ → Location) (n : Name) (items : List NotedDecl) (comments : List (List ℕ)) → KeepsNames names es past.taken
    → module_of (module_meant (within names es place n) n.name items comments) ≡ decl_tree past place comments (module_form n items)
module-tree-by names es past place n items comments k =
    ap (λ (h : Here). module_of (module_meant h n.name items comments)) (within-by-position names es past.taken place n k)

-- ---- a constant more

abbrev one_constant : Bool → List ℕ → Location → Names
one_constant c n p = cond c ((n, p) ∷ []) []

one-found : (c : Bool) (n : List ℕ) (p : Location) (before : Names) (q : List ℕ) → found (before ++ one_constant c n p) q ≡ first_or (found before q) (cond (c && is_same_name q n) (Some p) None)
one-found true n p before q = found-last before n p q
one-found false n p before q = ap (λ (l : Names). found l q) (append-nil before) ∙ none-after (found before q)
  where
    none-after : (o : Option Location) → o ≡ first_or o None
    none-after None = refl
    none-after (Some l) = refl

filter-one : (c : TakenConstant) (ty : List ℕ) (b : Bool) → is_same_name c.type_name ty ≡ b → map (λ (x : TakenConstant). (x.name, x.place)) (filter (λ (x : TakenConstant). is_same_name x.type_name ty) (c ∷ [])) ≡ one_constant b c.name c.place
filter-one c ty true e = rw e refl
filter-one c ty false e = rw e refl

constants-last : (cs : List TakenConstant) (c : TakenConstant) (ty : List ℕ) → constants_of_type (cs ++ c ∷ []) ty ≡ constants_of_type cs ty ++ one_constant (is_same_name c.type_name ty) c.name c.place
constants-last cs c ty =
    ap (map (λ (x : TakenConstant). (x.name, x.place))) (filter-append (λ (x : TakenConstant). is_same_name x.type_name ty) cs (c ∷ []))
    ∙ (map-append (λ (x : TakenConstant). (x.name, x.place)) (filter (λ (x : TakenConstant). is_same_name x.type_name ty) cs) (filter (λ (x : TakenConstant). is_same_name x.type_name ty) (c ∷ []))
    ∙ ap (λ l. constants_of_type cs ty ++ l) (filter-one c ty (is_same_name c.type_name ty) refl))

both-names : (a b : Bool) → (a && b ≡ true) → (a ≡ true) × (b ≡ true)
both-names true true e = (refl, refl)
both-names true false e = absurd (cc)
both-names false b e = absurd (cc)

no-place : (o : Option Location) (n : List ℕ) (at : Location) → option_map (λ (l : Location). name_already_exists n at l) o ≡ None → o ≡ None
no-place None n at e = refl
no-place (Some l) n at e = absurd (cc)

first-none : (c : Check) (cs : List Check) → first_fault (c ∷ cs) ≡ None → (c ≡ None) × (first_fault cs ≡ None)
first-none None cs e = (refl, e)
first-none (Some f) cs e = absurd (cc)

third-none : (a b c d : Check) → first_fault (a ∷ b ∷ c ∷ d ∷ []) ≡ None → c ≡ None
third-none a b c d e =
    let behind_a = (first-none a (b ∷ c ∷ d ∷ []) e).1 in
    let behind_b = (first-none b (c ∷ d ∷ []) behind_a).1 in
    (first-none c (d ∷ []) behind_b).0

-- no constant of the type's name has the name of one without a fault
pub new-constant : (s : Sense) (earlier : Option Location) (place : ℕ → Location) (ty n : Name) (value : ℕ)
    → first_fault (constant_checks s earlier place ty n value) ≡ None → earlier ≡ None
new-constant s earlier place ty n value e =
    no-place earlier n.name (place n.start)
    (third-none (use_check ty.name (place ty.start) s) (integer_check ty.name (place ty.start) (behind (sense_tree s)))
    (option_map (λ (l : Location). name_already_exists n.name (place n.start) l) earlier)
    (value_check n.name value (place n.start) (greatest_in (behind (sense_tree s)))) e)

-- an accepted constant, whose two names no earlier one has
pub keeps-constant : (old new : List (ConstantName × Location)) (taken : List TakenConstant) (ty n : List ℕ) (p : Location)
    → constant_place old ty n ≡ None
    → ((t q : List ℕ) → constant_place new t q ≡ cond (is_same_name t ty && is_same_name q n) (Some p) (constant_place old t q))
    → KeepsConstants old taken
    → KeepsConstants new (taken ++ record { type_name = ty; name = n; place = p } ∷ [])
keeps-constant old new taken ty n p free more k t q =
    let c : TakenConstant = record { type_name = ty; name = n; place = p } in
    let none : found (constants_of_type taken ty) n ≡ None = sym (k ty n) ∙ free in
    more t q
    ∙ (ap (cond (is_same_name t ty && is_same_name q n) (Some p)) (k t q)
    ∙ (ap (λ (b : Bool). cond (b && is_same_name q n) (Some p) (found (constants_of_type taken t) q)) (is_eq-swap t ty)
    ∙ (last-step (is_same_name ty t && is_same_name q n) p (found (constants_of_type taken t) q)
    (λ both. let names = both-names (is_same_name ty t) (is_same_name q n) both in
    subst (λ x. found (constants_of_type taken x) q ≡ None) (tells_apart exact_bytes ty t names.0) (subst (λ x. found (constants_of_type taken ty) x ≡ None) (sym (tells_apart exact_bytes q n names.1)) none))
    ∙ (sym (one-found (is_same_name ty t) n p (constants_of_type taken t) q) ∙ ap (λ l. found l q) (sym (constants-last taken c t))))))

-- a constant needs no entry
pub fits-constant : (ds new : List Definition) (t : DefinitionTree) (es : List (List ℕ × Entry)) → map definition_tree new ≡ map definition_tree ds ++ t ∷ []
    → introduced t ≡ None → DefinitionsFit ds es → DefinitionsFit new es
fits-constant ds new t es appended unnamed fits =
    subst (λ (l : List DefinitionTree). Fits introduced entry_tree l es) (sym appended) (fits-unnamed introduced entry_tree (map definition_tree ds) t es unnamed fits)

-- ---- answers, one by one

pub ok-by : {A E : Type 0} (r : Result A E) (P Q : Type 0) → (P → Q) → OnOk r P → OnOk r Q
ok-by (Ok a) P Q f p = f p
ok-by (Err e) P Q f p = tt

pub err-by : {A E : Type 0} (r : Result A E) (P Q : E → Type 0) → ((e : E) → P e → Q e) → IfErr r P → IfErr r Q
err-by (Ok a) P Q f p = tt
err-by (Err e) P Q f p = f e p

pub on-err-by : {A E : Type 0} (r : Result A E) (P Q : Type 0) → (P → Q) → OnErr r P → OnErr r Q
on-err-by (Ok a) P Q f p = tt
on-err-by (Err e) P Q f p = f p

pub blames-by : (e : CheckError) (xs ys : List Check) → xs ≡ ys → Blames e (first_fault xs) → Blames e (first_fault ys)
blames-by e xs ys same b = subst (λ l. Blames e (first_fault l)) same b

pub none-by : (xs ys : List Check) → xs ≡ ys → first_fault xs ≡ None → first_fault ys ≡ None
none-by xs ys same b = subst (λ l. first_fault l ≡ None) same b

pub ruleset decl_rules = (typename-checks-by, module-checks-by, constant-checks-by, typename-tree-by, module-tree-by, keeps-constant, fits-constant)
