-- `named-ok`, `named-wrong`: the checks of a typename or a module, from those of its inside.
use Rattle.std.specs.Prelude.{◌≡◌, ◌||◌, ℕ, List, [], ◌∷◌, Option, Some, None, Bool, true, false, option_map}
use Rattle.std.specs.Option.{is_some}
use Rattle.std.proofs.Common.{refl, sym, ap, subst, ◌∙◌, inl, inr}
use Rattle.witx_base.specs.Found.{found}
use Rattle.witx_base.specs.Paths.{Path}
use Rattle.witx_files.specs.declared.location.Location.{Location}
use Rattle.witx_syntax_tree.specs.Trees.{TypeTree, Name}
use Rattle.witx_ast.specs.declared.definition.Entry.{Entry}
use Rattle.witx_ast.specs.Definitions.{DefinitionTree, entry_tree}
use Rattle.witx_ast.proofs.Trees.{tree_rules}
use Rattle.witx_scope.specs.declared.scope.Scope.{Scope}
use Rattle.witx_scope.specs.Places.{location_in}
use Rattle.witx_scope.specs.Faults.{Check, first_fault, name_already_exists}
use Rattle.witx_scope.specs.Names.{Here, Names, Sense, new_name}
use Rattle.witx_scope.specs.Checks.{type_checks}
use Rattle.witx_scope.specs.Modules.{items_checks}
use Rattle.witx_syntax_tree.specs.Trees.{NotedDecl}
use Rattle.witx_scope.specs.Senses.{here_of, kept_sense, sense_at}
use Rattle.witx_scope.specs.Inside.{within, typename_checks, module_checks, Takes, TakesAtMost, RefusesDeclaration}
use Rattle.witx_scope.specs.declared.error.CheckError.{CheckError}
use Rattle.witx_scope.specs.declared.error.CheckError.TheVariants as check_error
use Rattle.witx_scope.specs.Blame.{Blames}
use Rattle.witx_scope.specs.Answers.{IsCheckFault}
use Rattle.witx_scope.specs.declared.unfinished.Unfinished.{Unfinished}
use Rattle.witx_scope.specs.Introduced.{is_named, is_unfinished, AreIntroduced}
use Rattle.witx_scope.specs.Kept.{tree_with}
use Rattle.witx_scope.specs.Positions.{is_same_name}
use Rattle.witx_scope.proofs.FirstFaults.{fault-past, blames-head, blames-to}
use Rattle.witx_scope.proofs.Settling.{is_some-pick}
use Rattle.witx_scope.proofs.Steps.{funext}

pub place-within : (old : Names) (es : List (List ℕ × Entry)) (place : ℕ → Location) (n : Name) (at : ℕ) → (within old es place n).place at ≡ place at
unfolding within
place-within old es place n at = refl

-- the scope, with what it was made of
pub here-is : (s : Scope) (old : Names) (es : List (List ℕ × Entry)) (text : List ℕ) (path : Path) (n : Name)
    → s.entries.now ≡ es → s.text.now ≡ text → s.path.now ≡ path
    → ((q : List ℕ) → found s.names.now q ≡ found ((n.name, location_in text path n.start) ∷ old) q)
    → here_of s ≡ within old es (location_in text path) n
unfolding here_of within
here-is s old es text path n a b c k =
    let e1 : kept_sense s.names.now s.entries.now ≡ kept_sense ((n.name, location_in text path n.start) ∷ old) es
    = funext (λ q. ap (λ (l : Option Location). sense_at l (found s.entries.now q)) (k q) ∙ ap (λ (x : List (List ℕ × Entry)). sense_at (found ((n.name, location_in text path n.start) ∷ old) q) (found x q)) a) in
    let e2 : location_in s.text.now s.path.now ≡ location_in text path
    = ap (λ (t : List ℕ). location_in t s.path.now) b ∙ ap (location_in text) c in
    ap (λ (f : List ℕ → Sense). record { sense = f; place = location_in s.text.now s.path.now }) e1
    ∙ ap (λ (p : ℕ → Location). record { sense = kept_sense ((n.name, location_in text path n.start) ∷ old) es; place = p }) e2

-- a fact about one inside is a fact about the same inside
swap-none : (inner : Here → List Check) (h w : Here) → h ≡ w → first_fault (inner h) ≡ None → first_fault (inner w) ≡ None
swap-none inner h w e t = subst (λ (x : Here). first_fault (inner x) ≡ None) e t

swap-blame : (inner : Here → List Check) (c : CheckError) (h w : Here) → h ≡ w → Blames c (first_fault (inner h)) → Blames c (first_fault (inner w))
swap-blame inner c h w e t = subst (λ (x : Here). Blames c (first_fault (inner x))) e t

named-ok : (inner : Here → List Check) (s : Scope) (old : Names) (es : List (List ℕ × Entry)) (text : List ℕ) (path : Path) (n : Name)
    → s.entries.now ≡ es → s.text.now ≡ text → s.path.now ≡ path
    → ((q : List ℕ) → found s.names.now q ≡ found ((n.name, location_in text path n.start) ∷ old) q)
    → new_name old n.name (location_in text path n.start) ≡ None
    → first_fault (inner (here_of s)) ≡ None
    → first_fault (new_name old n.name ((within old es (location_in text path) n).place n.start) ∷ inner (within old es (location_in text path) n)) ≡ None
named-ok inner s old es text path n a b c k f e =
    let w = within old es (location_in text path) n in
    let e1 = swap-none inner (here_of s) w (here-is s old es text path n a b c k) e in
    fault-past (new_name old n.name (w.place n.start)) (inner w) (rw (place-within old es (location_in text path) n n.start) f) ∙ e1

named-bad : (inner : Here → List Check) (e : CheckError) (old : Names) (es : List (List ℕ × Entry)) (text : List ℕ) (path : Path) (n : Name) (p : Location)
    → p ≡ location_in text path n.start
    → Blames e (new_name old n.name p)
    → Blames e (first_fault (new_name old n.name ((within old es (location_in text path) n).place n.start) ∷ inner (within old es (location_in text path) n)))
unfolding within
named-bad inner e old es text path n p q b =
    let b1 = subst (λ (x : Location). Blames e (new_name old n.name x)) q b in
    blames-head e (new_name old n.name (location_in text path n.start)) (inner (within old es (location_in text path) n)) b1

named-wrong : (inner : Here → List Check) (x : CheckError) (s : Scope) (old : Names) (es : List (List ℕ × Entry)) (text : List ℕ) (path : Path) (n : Name)
    → s.entries.now ≡ es → s.text.now ≡ text → s.path.now ≡ path
    → ((q : List ℕ) → found s.names.now q ≡ found ((n.name, location_in text path n.start) ∷ old) q)
    → new_name old n.name (location_in text path n.start) ≡ None
    → Blames x (first_fault (inner (here_of s)))
    → Blames x (first_fault (new_name old n.name ((within old es (location_in text path) n).place n.start) ∷ inner (within old es (location_in text path) n)))
named-wrong inner x s old es text path n a b c k f e =
    let w = within old es (location_in text path) n in
    let e1 = swap-blame inner x (here_of s) w (here-is s old es text path n a b c k) e in
    let e2 = fault-past (new_name old n.name (w.place n.start)) (inner w) (rw (place-within old es (location_in text path) n n.start) f) in
    blames-to x (first_fault (inner w)) (first_fault (new_name old n.name (w.place n.start) ∷ inner w)) (sym e2) e1

-- ---- a typename

pub typename-ok : (s : Scope) (old : Names) (es : List (List ℕ × Entry)) (text : List ℕ) (path : Path) (n : Name) (form : TypeTree)
    → s.entries.now ≡ es → s.text.now ≡ text → s.path.now ≡ path
    → ((q : List ℕ) → found s.names.now q ≡ found ((n.name, location_in text path n.start) ∷ old) q)
    → new_name old n.name (location_in text path n.start) ≡ None
    → first_fault (type_checks (here_of s) true ((here_of s).place n.start) form) ≡ None
    → first_fault (typename_checks old (within old es (location_in text path) n) n form) ≡ None
typename-ok s old es text path n form a b c k f e = named-ok (λ x. type_checks x true (x.place n.start) form) s old es text path n a b c k f e

pub typename-bad : (e : CheckError) (old : Names) (es : List (List ℕ × Entry)) (text : List ℕ) (path : Path) (n : Name) (form : TypeTree) (p : Location)
    → p ≡ location_in text path n.start
    → Blames e (new_name old n.name p)
    → Blames e (first_fault (typename_checks old (within old es (location_in text path) n) n form))
typename-bad e old es text path n form p q b = named-bad (λ x. type_checks x true (x.place n.start) form) e old es text path n p q b

pub typename-wrong : (x : CheckError) (s : Scope) (old : Names) (es : List (List ℕ × Entry)) (text : List ℕ) (path : Path) (n : Name) (form : TypeTree)
    → s.entries.now ≡ es → s.text.now ≡ text → s.path.now ≡ path
    → ((q : List ℕ) → found s.names.now q ≡ found ((n.name, location_in text path n.start) ∷ old) q)
    → new_name old n.name (location_in text path n.start) ≡ None
    → Blames x (first_fault (type_checks (here_of s) true ((here_of s).place n.start) form))
    → Blames x (first_fault (typename_checks old (within old es (location_in text path) n) n form))
typename-wrong x s old es text path n form a b c k f e = named-wrong (λ h. type_checks h true (h.place n.start) form) x s old es text path n a b c k f e

-- ---- a module

pub module-ok : (s : Scope) (old : Names) (es : List (List ℕ × Entry)) (text : List ℕ) (path : Path) (n : Name) (items : List NotedDecl)
    → s.entries.now ≡ es → s.text.now ≡ text → s.path.now ≡ path
    → ((q : List ℕ) → found s.names.now q ≡ found ((n.name, location_in text path n.start) ∷ old) q)
    → new_name old n.name (location_in text path n.start) ≡ None
    → first_fault (items_checks (here_of s) [] items) ≡ None
    → first_fault (module_checks old (within old es (location_in text path) n) n items) ≡ None
module-ok s old es text path n items a b c k f e = named-ok (λ x. items_checks x [] items) s old es text path n a b c k f e

pub module-bad : (e : CheckError) (old : Names) (es : List (List ℕ × Entry)) (text : List ℕ) (path : Path) (n : Name) (items : List NotedDecl) (p : Location)
    → p ≡ location_in text path n.start
    → Blames e (new_name old n.name p)
    → Blames e (first_fault (module_checks old (within old es (location_in text path) n) n items))
module-bad e old es text path n items p q b = named-bad (λ x. items_checks x [] items) e old es text path n p q b

pub module-wrong : (x : CheckError) (s : Scope) (old : Names) (es : List (List ℕ × Entry)) (text : List ℕ) (path : Path) (n : Name) (items : List NotedDecl)
    → s.entries.now ≡ es → s.text.now ≡ text → s.path.now ≡ path
    → ((q : List ℕ) → found s.names.now q ≡ found ((n.name, location_in text path n.start) ∷ old) q)
    → new_name old n.name (location_in text path n.start) ≡ None
    → Blames x (first_fault (items_checks (here_of s) [] items))
    → Blames x (first_fault (module_checks old (within old es (location_in text path) n) n items))
module-wrong x s old es text path n items a b c k f e = named-wrong (λ h. items_checks h [] items) x s old es text path n a b c k f e

pub ruleset within_rules = (tree_rules, here-is, typename-ok, typename-bad, typename-wrong, module-ok, module-bad, module-wrong)

-- ---- what a refusal leaves

no-name : (o : Option Location) (n : List ℕ) (at : Location) → option_map (λ l. name_already_exists n at l) o ≡ None → o ≡ None
no-name None n at e = refl
no-name (Some l) n at e = absurd (cc)

pub takes-none : (old new : Names) (n : List ℕ) (at : Location) → new ≡ old → TakesAtMost old new n at
takes-none old new n at e = inl e

pub takes-new : (old new : Names) (n : List ℕ) (at : Location) → new_name old n at ≡ None → ((q : List ℕ) → found new q ≡ found ((n, at) ∷ old) q) → Takes old new n at
takes-new old new n at a k = (no-name (found old n) n at a, k)

pub takes-one : (old new : Names) (n : List ℕ) (at : Location) → new_name old n at ≡ None → ((q : List ℕ) → found new q ≡ found ((n, at) ∷ old) q) → TakesAtMost old new n at
takes-one old new n at a k = inr (takes-new old new n at a k)

pub refuses-known : (e : CheckError) (old new : Names) (n : List ℕ) (p at : Location) → p ≡ at → Blames e (new_name old n p) → new ≡ old → IsCheckFault e → RefusesDeclaration old new n at
refuses-known (check_error.Validation v) old new n p at k b s f = inr ((λ (a : found old n ≡ None). let c : new_name old n p ≡ None = ap (option_map (λ (l : Location). name_already_exists n p l)) a in absurd (cc)), s)
refuses-known check_error.OutOfMemory old new n p at k b s f = absurd f

pub refuses-new : (old new : Names) (n : List ℕ) (at : Location) → new_name old n at ≡ None → ((q : List ℕ) → found new q ≡ found ((n, at) ∷ old) q) → RefusesDeclaration old new n at
refuses-new old new n at a k = inl (takes-new old new n at a k)

pub ruleset takes_rules = (within_rules, takes-none, takes-one, refuses-new)

-- ---- a finished name has an entry in place of being unfinished

some-tree : (o : Option Entry) → is_some (option_map entry_tree o) ≡ is_some o
some-tree (Some e) = refl
some-tree None = refl

moved : (entry declared refused : Bool) → (entry || (declared || refused)) ≡ ((declared || entry) || refused)
moved true true refused = refl
moved true false refused = refl
moved false true refused = refl
moved false false refused = refl

entry-more : (es now : List (List ℕ × Entry)) (n q : List ℕ) (tree : DefinitionTree) → option_map entry_tree (found now q) ≡ tree_with es n tree q
    → is_some (found now q) ≡ (is_same_name q n || is_some (found es q))
entry-more es now n q tree f =
    sym (some-tree (found now q))
    ∙ (ap is_some f
    ∙ (is_some-pick (is_same_name q n) tree (option_map entry_tree (found es q))
    ∙ ap (λ (t : Bool). is_same_name q n || t) (some-tree (found es q))))

pub introduced-finished : (names : Names) (u v : Unfinished) (es now : List (List ℕ × Entry)) (n m : List ℕ) (tree : DefinitionTree) → m ≡ n
    → AreIntroduced names u es → u.current ≡ Some n → v.current ≡ None → v.refused ≡ u.refused
    → ((q : List ℕ) → option_map entry_tree (found now q) ≡ tree_with es m tree q) → AreIntroduced names v now
introduced-finished names u v es now n m tree same h declared none refused f q =
    let f1 : option_map entry_tree (found now q) ≡ tree_with es n tree q = f q ∙ ap (λ (x : List ℕ). tree_with es x tree q) same in
    let left : is_unfinished v q ≡ is_some (found u.refused q)
    = ap (λ (o : Option (List ℕ)). is_named o q || is_some (found v.refused q)) none ∙ ap (λ (x : List (List ℕ × Unit {0})). is_some (found x q)) refused in
    h q
    ∙ (ap (λ (o : Option (List ℕ)). is_some (found es q) || (is_named o q || is_some (found u.refused q))) declared
    ∙ (moved (is_some (found es q)) (is_same_name q n) (is_some (found u.refused q))
    ∙ (ap (λ (t : Bool). t || is_some (found u.refused q)) (sym (entry-more es now n q tree f1))
    ∙ ap (λ (t : Bool). is_some (found now q) || t) (sym left))))
