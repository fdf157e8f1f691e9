-- Which type a text stands for: the typename of that name, and the first of the types that a function holds.
use Rattle.std.proofs.Common.{◌≡◌, ℕ, ◌+◌, ◌<◌, ◌≤◌, List, [], ◌∷◌, ◌++◌, length, get_or, map, drop, Bool, true, false, refl, sym, ap, ◌∙◌, Option, Some, None, append_assoc, append-nil, if◌then◌else◌, cond}
use Rattle.std.specs.List.{flat_map}
use Rattle.std.specs.Option.{option_and_then, option_or}
use Rattle.std.specs.Ordering.{is_eq, nat_cmp}
use Rattle.std.specs.Cmp.Lexicographic.{slice_cmp}
use Rattle.std.proofs.lemmas.List.{drop_more, drop_all}
use Rattle.witx_base.specs.Found.{found}
use Rattle.witx_base.specs.Texts.{same_text}
use Rattle.witx_base.proofs.Names.{same-equal, same-is}
use Rattle.witx_ast.specs.Tree.{Tree, behind}
use Rattle.witx_ast.specs.TypeNames.{type_text}
use Rattle.witx_ast.specs.Entries.{by_name}
use Rattle.witx_ast.specs.Definitions.{DefinitionTree, definition_tree, typename_of, module_of, constant_of, introduced, as_typename, typename_called}
use Rattle.witx_ast.specs.Views.{tree_of}
use Rattle.witx_ast.proofs.TreeKinds.{kind_rules}
use Rattle.witx_ast.specs.declared.function.InterfaceFuncParam.{InterfaceFuncParam}
use Rattle.witx_ast.specs.declared.function.InterfaceFunc.{InterfaceFunc}
use Rattle.witx_instructions.specs.Views.{called, param_types}
use Rattle.witx_traces.specs.declared.candidates.KnownTypes.{KnownTypes}
use Rattle.witx_traces.specs.ReadTypes.{candidate_type, known_in}
use Rattle.witx_traces.specs.Traces.{Types, err_types, first_shown, held_types, ok_types, payload_types, target, known_of, shown, shown_payload}

-- ---- a text that stands for a type is the type's own

-- what a table answers at a name has that name
abbrev pub Named : (List ℕ → Option Tree) → Type 0
Named look = (n : List ℕ) (t : Tree) → look n ≡ Some t → type_text t ≡ n

by-key : (key n : List ℕ) (d : DefinitionTree) (o : Option DefinitionTree) (t : Tree) (test : Bool) → is_eq (slice_cmp nat_cmp n key) ≡ test
    → (option_and_then as_typename o ≡ Some t → type_text t ≡ n) → ((u : Tree) → as_typename d ≡ Some u → type_text u ≡ key)
    → option_and_then as_typename (cond test (Some d) o) ≡ Some t → type_text t ≡ n
by-key key n d o t true e more own h = own t h ∙ sym (same-is n key e)
by-key key n d o t false e more own h = more h

pub typename-named : (ds : List DefinitionTree) (n : List ℕ) (t : Tree) → typename_called ds n ≡ Some t → type_text t ≡ n
typename-named [] n t e = absurd (cc)
typename-named (typename_of name u docs ∷ ds) n t e =
    by-key name n (typename_of name u docs) (found (by_name introduced ds) n) t (is_eq (slice_cmp nat_cmp n name)) refl (typename-named ds n t) (λ v h. let same : Tree.named name u docs ≡ v = cc in sym (ap type_text same)) e
typename-named (module_of m ∷ ds) n t e =
    by-key m.name n (module_of m) (found (by_name introduced ds) n) t (is_eq (slice_cmp nat_cmp n m.name)) refl (typename-named ds n t) (λ v h. absurd (cc)) e
typename-named (constant_of c ∷ ds) n t e = typename-named ds n t e

first-by : (u : Tree) (ts : List Tree) (n : List ℕ) (t : Tree) (test : Bool) → same_text (type_text u) n ≡ test → (first_shown ts n ≡ Some t → type_text t ≡ n)
    → (if test then Some u else first_shown ts n) ≡ Some t → type_text t ≡ n
first-by u ts n t true e more h = let same : u ≡ t = cc in sym (ap type_text same) ∙ (same-equal (type_text u) n).0 e
first-by u ts n t false e more h = more h

pub first-named : (ts : List Tree) (n : List ℕ) (t : Tree) → first_shown ts n ≡ Some t → type_text t ≡ n
first-named [] n t e = absurd (cc)
first-named (u ∷ ts) n t e = first-by u ts n t (same_text (type_text u) n) refl (first-named ts n t) e

or-named : (f g : List ℕ → Option Tree) (n : List ℕ) (t : Tree) (o : Option Tree) → f n ≡ o → Named f → Named g → option_or o (g n) ≡ Some t → type_text t ≡ n
or-named f g n t None e p q h = q n t h
or-named f g n t (Some u) e p q h = p n t (e ∙ h)

-- the types of a function: each text stands for a type with that text
pub record AreNamed (types : Types) : Type 0 where
  pub typename : Named types.typename
  pub held : Named types.held
  pub payload : Named types.payload

pub shown-named : (types : Types) → AreNamed types → Named (shown types)
shown-named types h n t e = or-named types.typename types.held n t (types.typename n) refl h.typename h.held e

pub payload-named : (types : Types) → AreNamed types → Named (shown_payload types)
payload-named types h n t e = or-named types.payload (shown types) n t (types.payload n) refl h.payload (shown-named types h) e

pub known-named : (k : KnownTypes) → AreNamed (known_in k)
unfolding known_in
known-named k = record {
  typename = typename-named (map definition_tree k.document.now.definitions);
  held = first-named (map candidate_type k.held.items);
  payload = first-named (map candidate_type k.payloads.items);
}

-- the types that are gathered are those of the function
pub types-gathered : (k : KnownTypes) (f : InterfaceFunc) → map candidate_type k.held.items ≡ held_types (called f) → map candidate_type k.payloads.items ≡ payload_types (called f) → k.func.now ≡ f
    → known_in k ≡ known_of (map definition_tree k.document.now.definitions) (called f)
unfolding known_in
types-gathered k f h p e =
    ap (λ z. record { typename = typename_called (map definition_tree k.document.now.definitions); held = first_shown z; payload = first_shown (map candidate_type k.payloads.items); params = param_types k.func.now.params; results = param_types k.func.now.results }) h
    ∙ (ap (λ z. record { typename = typename_called (map definition_tree k.document.now.definitions); held = first_shown (held_types (called f)); payload = first_shown z; params = param_types k.func.now.params; results = param_types k.func.now.results }) p
    ∙ ap (λ g. record { typename = typename_called (map definition_tree k.document.now.definitions); held = first_shown (held_types (called f)); payload = first_shown (payload_types (called f)); params = param_types g.params; results = param_types g.results }) e)

pub ruleset known_rules = (types-gathered)

-- ---- the loop over candidates

candidate-by : (test : Bool) (u : Tree) (o : Option Tree) → test ≡ true → (if test then Some u else o) ≡ Some u
candidate-by true u o e = refl
candidate-by false u o e = absurd (cc)

pub candidate-here : (u : Tree) (ts : List Tree) (n : List ℕ) → same_text (type_text u) n ≡ true → first_shown (u ∷ ts) n ≡ Some u
candidate-here u ts n e = candidate-by (same_text (type_text u) n) u (first_shown ts n) e

candidate-else : (test : Bool) (u : Tree) (o : Option Tree) → test ≡ false → (if test then Some u else o) ≡ o
candidate-else true u o e = absurd (cc)
candidate-else false u o e = refl

pub candidate-past : (u : Tree) (ts : List Tree) (n : List ℕ) → same_text (type_text u) n ≡ false → first_shown (u ∷ ts) n ≡ first_shown ts n
candidate-past u ts n e = candidate-else (same_text (type_text u) n) u (first_shown ts n) e

pub ruleset candidate_rules = (candidate-here, candidate-past)

-- ---- what lists and pointers are of

pub target-behind : (t : Tree) → target (behind t) ≡ target t
target-behind (Tree.named name t docs) = target-behind t
target-behind (Tree.builtin b) = refl
target-behind Tree.handle = refl
target-behind (Tree.list_of t) = refl
target-behind (Tree.pointer_to t) = refl
target-behind (Tree.const_pointer_to t) = refl
target-behind (Tree.record_of kind ms) = refl
target-behind (Tree.variant_of repr cs) = refl

pub ruleset target_rules = (kind_rules, target-behind)

-- ---- loops that gather types

map-snoc : {A B : Type 0} (f : A → B) (xs : List A) (x : A) → map f (xs ++ x ∷ []) ≡ map f xs ++ f x ∷ []
map-snoc f [] x = refl
map-snoc f (y ∷ xs) x = ap (λ z. f y ∷ z) (map-snoc f xs x)

pub pushed : {A B : Type 0} (f : A → B) (xs ys : List A) (x : A) (b : B) → ys ≡ xs ++ x ∷ [] → f x ≡ b → map f ys ≡ map f xs ++ b ∷ []
pushed f xs ys x b e h = ap (map f) e ∙ (map-snoc f xs x ∙ ap (λ z. map f xs ++ z ∷ []) h)

pub ruleset push_rules = (pushed, append-nil)

types-drop : (xs : List InterfaceFuncParam) (i : ℕ) (x : InterfaceFuncParam) → i < length xs → x ≡ get_or xs i x → param_types (drop i xs) ≡ tree_of x.tref ∷ param_types (drop (i + 1) xs)
types-drop xs i x l p = ap param_types (drop_more xs i x l ∙ ap (λ y. y ∷ drop (i + 1) xs) (sym p))

pub gather-more : (f : Tree → List Tree) (xs : List InterfaceFuncParam) (i : ℕ) (x : InterfaceFuncParam) (done now total : List Tree) → (i < length xs) × (x ≡ get_or xs i x) → now ≡ done ++ f (tree_of x.tref)
    → done ++ flat_map f (param_types (drop i xs)) ≡ total → now ++ flat_map f (param_types (drop (i + 1) xs)) ≡ total
gather-more f xs i x done now total h p e =
    ap (λ s. s ++ flat_map f (param_types (drop (i + 1) xs))) p ∙ (append_assoc done (f (tree_of x.tref)) (flat_map f (param_types (drop (i + 1) xs)))
    ∙ (ap (λ ts. done ++ flat_map f ts) (sym (types-drop xs i x h.0 h.1)) ∙ e))

pub gather-end : (f : Tree → List Tree) (xs : List InterfaceFuncParam) (i : ℕ) (done total : List Tree) → length xs ≤ i → done ++ flat_map f (param_types (drop i xs)) ≡ total → done ≡ total
gather-end f xs i done total l e = sym (append-nil done) ∙ (ap (λ ys. done ++ flat_map f (param_types ys)) (sym (drop_all i xs l)) ∙ e)

flat-append : (f : Tree → List Tree) (xs ys : List Tree) → flat_map f (xs ++ ys) ≡ flat_map f xs ++ flat_map f ys
flat-append f [] ys = refl
flat-append f (x ∷ xs) ys = ap (λ z. f x ++ z) (flat-append f xs ys) ∙ sym (append_assoc (f x) (flat_map f xs) (flat_map f ys))

-- what the types that each type gives give
pub flat-twice : (f g : Tree → List Tree) (xs : List Tree) → flat_map (λ t. flat_map f (g t)) xs ≡ flat_map f (flat_map g xs)
flat-twice f g [] = refl
flat-twice f g (x ∷ xs) = ap (λ z. flat_map f (g x) ++ z) (flat-twice f g xs) ∙ sym (flat-append f (g x) (flat_map g xs))

pub ruleset gather_rules = (gather-more, gather-end, append_assoc, append-nil)

-- all that a function holds
pub held-whole : (ps rs a b c d : List Tree) → a ≡ flat_map target ps → b ≡ a ++ flat_map target rs → c ≡ b ++ flat_map (λ t. flat_map target (err_types t)) rs → d ≡ c ++ flat_map (λ t. ok_types t ++ err_types t) rs
    → d ≡ flat_map target ps ++ flat_map target rs ++ flat_map target (flat_map err_types rs) ++ flat_map (λ t. ok_types t ++ err_types t) rs
held-whole ps rs a b c d e f g h =
    h ∙ ap (λ z. z ++ flat_map (λ t. ok_types t ++ err_types t) rs) (g ∙ (ap (λ z. z ++ flat_map (λ t. flat_map target (err_types t)) rs) (f ∙ ap (λ z. z ++ flat_map target rs) e)
    ∙ ap (λ z. (flat_map target ps ++ flat_map target rs) ++ z) (flat-twice target err_types rs)))
