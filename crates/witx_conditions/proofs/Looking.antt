-- The typename of a name among definitions, one definition after the other.
use Rattle.std.specs.Prelude.{◌≡◌, ℕ, ◌+◌, ◌<◌, ◌≤◌, List, ◌∷◌, Bool, true, false, cond, Option, Some, None, map, option_map, length, drop}
use Rattle.std.proofs.Common.{refl, ap, sym, ◌∙◌, get_or}
use Rattle.std.specs.Borrow.{Bor}
use Rattle.std.specs.Option.{option_and_then}
use Rattle.std.specs.declared.alloc.Global.{Global}
use Rattle.std.specs.declared.rc.Rc.{Rc}
use Rattle.std.proofs.lemmas.List.{drop_more, drop_all}
use Rattle.witx_base.specs.Found.{found}
use Rattle.witx_base.specs.Texts.{same_text}
use Rattle.witx_base.proofs.Names.{same-test}
use Rattle.witx_ast.specs.Entries.{by_name}
use Rattle.witx_ast.specs.Tree.{Tree, behind}
use Rattle.witx_ast.specs.Same.{same_tree}
use Rattle.witx_ast.specs.Views.{tree_of, named_tree, datatype_tree}
use Rattle.witx_ast.specs.Definitions.{DefinitionTree, typename_of, module_of, constant_of, as_typename, definition_tree, introduced, typename_called}
use Rattle.witx_ast.specs.declared.definition.Definition.{Definition}
use Rattle.witx_ast.specs.declared.types.Datatype.{Datatype}
use Rattle.witx_ast.specs.declared.types.NamedType.{NamedType}
use Rattle.witx_ast.specs.contracts.types.DatatypePartialEq.TheImpl as datatypes
use Rattle.witx_ast.proofs.Equal.{datatype-same}
use Rattle.witx_ast.proofs.Trees.{tree-NamedType}
use Rattle.witx_conditions.specs.NameTests.{is_text_of, is_type_behind}

pick : (b : Bool) (d : DefinitionTree) (r : Option DefinitionTree)
    → option_and_then as_typename (cond b (Some d) r) ≡ cond b (as_typename d) (option_and_then as_typename r)
pick true d r = refl
pick false d r = refl

named-first : (name : List ℕ) (d : DefinitionTree) (n : List ℕ) (ds : List DefinitionTree) → introduced d ≡ Some name
    → typename_called (d ∷ ds) n ≡ cond (same_text n name) (as_typename d) (typename_called ds n)
named-first name (typename_of m t docs) n ds e =
    ap (λ b. option_and_then as_typename (cond b (Some (typename_of m t docs)) (found (by_name introduced ds) n))) (same-test n m)
    ∙ pick (same_text n m) (typename_of m t docs) (found (by_name introduced ds) n)
    ∙ ap (λ k. cond (same_text n k) (as_typename (typename_of m t docs)) (typename_called ds n)) (some-same m name e)
  where
    some-same : (x y : List ℕ) → Some x ≡ Some y → x ≡ y
    some-same x y h = cc
named-first name (module_of m) n ds e =
    ap (λ b. option_and_then as_typename (cond b (Some (module_of m)) (found (by_name introduced ds) n))) (same-test n m.name)
    ∙ pick (same_text n m.name) (module_of m) (found (by_name introduced ds) n)
    ∙ ap (λ k. cond (same_text n k) (as_typename (module_of m)) (typename_called ds n)) (some-same m.name name e)
  where
    some-same : (x y : List ℕ) → Some x ≡ Some y → x ≡ y
    some-same x y h = cc
named-first name (constant_of c) n ds e = absurd (none e)
  where
    none : None ≡ Some name → ⊥
    none h = cc

-- the first definition decides where it has the name
pub first-called : (d : DefinitionTree) (n : List ℕ) (ds : List DefinitionTree)
    → typename_called (d ∷ ds) n ≡ cond (is_text_of (introduced d) n) (as_typename d) (typename_called ds n)
first-called (typename_of m t docs) n ds = named-first m (typename_of m t docs) n ds refl
first-called (module_of m) n ds = named-first m.name (module_of m) n ds refl
first-called (constant_of c) n ds = refl

-- what is left from an index on decides
abbrev pub CalledFrom : List Definition → List ℕ → ℕ → Type 0
CalledFrom ds n i = typename_called (map definition_tree (drop i ds)) n ≡ typename_called (map definition_tree ds) n

left : (ds : List Definition) (i : ℕ) (d : Definition) → i < length ds → d ≡ get_or ds i d
    → map definition_tree (drop i ds) ≡ definition_tree d ∷ map definition_tree (drop (i + 1) ds)
left ds i d l p = rw (drop_more ds i d l, ← p) refl

step : (ds : List Definition) (n : List ℕ) (i : ℕ) (d : Definition) → i < length ds → d ≡ get_or ds i d
    → typename_called (map definition_tree (drop i ds)) n
    ≡ cond (is_text_of (introduced (definition_tree d)) n) (as_typename (definition_tree d)) (typename_called (map definition_tree (drop (i + 1) ds)) n)
step ds n i d l p = ap (λ k. typename_called k n) (left ds i d l p) ∙ first-called (definition_tree d) n (map definition_tree (drop (i + 1) ds))

pub called-here : (ds : List Definition) (n : List ℕ) (i : ℕ) (d : Definition) (o : Option Tree) → i < length ds → d ≡ get_or ds i d
    → CalledFrom ds n i → is_text_of (introduced (definition_tree d)) n ≡ true → o ≡ as_typename (definition_tree d)
    → o ≡ typename_called (map definition_tree ds) n
called-here ds n i d o l p h e k =
    k ∙ ap (λ b. cond b (as_typename (definition_tree d)) (typename_called (map definition_tree (drop (i + 1) ds)) n)) (sym e) ∙ sym (step ds n i d l p) ∙ h

pub called-later : (ds : List Definition) (n : List ℕ) (i : ℕ) (d : Definition) → i < length ds → d ≡ get_or ds i d
    → CalledFrom ds n i → is_text_of (introduced (definition_tree d)) n ≡ false → CalledFrom ds n (i + 1)
called-later ds n i d l p h e =
    ap (λ b. cond b (as_typename (definition_tree d)) (typename_called (map definition_tree (drop (i + 1) ds)) n)) (sym e) ∙ sym (step ds n i d l p) ∙ h

pub called-nowhere : (ds : List Definition) (n : List ℕ) (i : ℕ) → length ds ≤ i → CalledFrom ds n i → None ≡ typename_called (map definition_tree ds) n
called-nowhere ds n i l h = ap (λ k. typename_called (map definition_tree k) n) (sym (drop_all i ds l)) ∙ h

pub ruleset look_rules = (called-here, called-later, called-nowhere)

-- ---- the type behind a name that was found

named-behind : (n : NamedType) → behind (named_tree n) ≡ behind (tree_of n.tref)
named-behind n = ap behind (tree-NamedType n)

pub alike-behind : (d e : Datatype) (s t : Tree) (b : Bool) → datatype_tree d ≡ s → datatype_tree e ≡ t → b ≡ datatypes.ghosts.eq d e → b ≡ same_tree s t
alike-behind d e s t b p q k = k ∙ datatype-same d e ∙ (λ i. same_tree (p i) (q i))

pub found-stands : (r : Option (Bor (Rc NamedType Global))) (f : Bor (Rc NamedType Global)) (o : Option Tree) (n : NamedType) (b : Bool)
    → option_map (λ x. named_tree x.now.value) r ≡ o → r ≡ Some f → b ≡ same_tree (behind (named_tree f.now.value)) (behind (named_tree n))
    → b ≡ is_type_behind o (tree_of n.tref)
found-stands r f o n b h e k =
    k ∙ ap (same_tree (behind (named_tree f.now.value))) (named-behind n)
    ∙ ap (λ u. is_type_behind u (tree_of n.tref)) (ap (option_map (λ x. named_tree x.now.value)) (sym e) ∙ h)

pub none-stands : (r : Option (Bor (Rc NamedType Global))) (o : Option Tree) (t : Tree)
    → option_map (λ x. named_tree x.now.value) r ≡ o → r ≡ None → false ≡ is_type_behind o t
none-stands r o t h e = ap (λ u. is_type_behind u t) (ap (option_map (λ x. named_tree x.now.value)) (sym e) ∙ h)

pub ruleset stand_rules = (found-stands, none-stands)
