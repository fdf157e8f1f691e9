-- A table that has the layouts of a closed document's typenames knows the types of all its definitions.
use Rattle.std.specs.Prelude.{◌≡◌, ℕ, zero, suc, ◌≤◌, ◌<◌, ◌^◌, List, [], ◌∷◌, ◌++◌, Bool, true, false, cond, ◌||◌, length, map, Option, Some}
use Rattle.std.specs.Option.{option_and_then}
use Rattle.std.proofs.Common.{arith, get_or, refl, sym, ap, ◌∙◌, subst, append_assoc}
use Rattle.std.proofs.lemmas.List.{take_all}
use Rattle.witx_base.specs.Found.{found}
use Rattle.witx_ast.specs.Tree.{Tree, Field}
use Rattle.witx_ast.specs.Plain.{plain}
use Rattle.witx_ast.specs.Entries.{by_name}
use Rattle.witx_ast.specs.Definitions.{DefinitionTree, typename_of, module_of, constant_of, definition_tree, introduced, as_typename, typename_called}
use Rattle.witx_ast.specs.Ordered.{DefinitionStands, OrderedAfter, IsOrdered}
use Rattle.witx_ast.specs.Closed.{ParamNamesStand, ItemNamesStand, AllNamesStand, ClosedAfter, IsClosed}
use Rattle.witx_ast.specs.Items.{ItemTree, import_of, func_of}
use Rattle.witx_ast.proofs.EntryLaws.{is_key}
use Rattle.witx_ast.specs.declared.definition.Definition.{Definition}
use Rattle.witx_ast.specs.declared.definition.Definition.TheVariants as definition
use Rattle.witx_ast.specs.declared.types.NamedType.{NamedType}
use Rattle.std.specs.declared.alloc.Global.{Global}
use Rattle.std.specs.declared.rc.Rc.{Rc}
use Rattle.witx_ast.specs.Views.{tree_of}
use Rattle.witx_layout.specs.declared.layout.SizeAlign.{SizeAlign}
use Rattle.witx_layout.specs.declared.members.LayoutError.{LayoutError}
use Rattle.witx_layout.specs.declared.members.LayoutError.TheVariants as layout_error
use Rattle.witx_layout.specs.Numbers.{size_of}
use Rattle.witx_layout.specs.Known.{Knows}
use Rattle.witx_layout.proofs.Tabled.{HasAll, Tabled, has-all, names-append, passed, type-known, tabled-start, ahead-start, next-known}
use Rattle.witx_docs.specs.LaidOut.{too_large, refusal_fits, document_laid_out, typenames_laid_out, typename_laid_out, modules_laid_out, laid_out}
use Rattle.witx_markdown.specs.NamesKnown.{InParams, InItems, InDefinition, InDefinitions}
use Rattle.witx_docs.proofs.Judging.{large-append, large-head, or-true}
use Rattle.witx_markdown.proofs.NameSteps.{layout_steps}

params-known : (table : List (List ℕ × SizeAlign)) (before : List DefinitionTree) → HasAll table before → (ps : List Field) → ParamNamesStand before ps → InParams (Knows table) ps
params-known table before h [] s = tt
params-known table before h (p ∷ ps) s = (type-known table before h p.tree s.0, params-known table before h ps s.1)

items-known : (table : List (List ℕ × SizeAlign)) (before : List DefinitionTree) → HasAll table before → (items : List ItemTree) → ItemNamesStand before items → InItems (Knows table) items
items-known table before h [] s = tt
items-known table before h (import_of i ∷ items) s = (tt, items-known table before h items s)
items-known table before h (func_of f ∷ items) s = ((params-known table before h f.params s.0, params-known table before h f.results s.1), items-known table before h items s.2)

definition-known : (table : List (List ℕ × SizeAlign)) (before : List DefinitionTree) → HasAll table before → (d : DefinitionTree) → AllNamesStand before d → InDefinition (Knows table) d
definition-known table before h (typename_of n t docs) s = type-known table before h t s
definition-known table before h (module_of m) s = items-known table before h m.items s
definition-known table before h (constant_of c) s = tt

-- what stands under a name among the first stands under it among all
step : {V : Type 0} (f : V → Option Tree) (u : Tree) (b : Bool) (v : V) (o p : Option V) → option_and_then f (cond b (Some v) o) ≡ Some u
    → (option_and_then f o ≡ Some u → option_and_then f p ≡ Some u) → option_and_then f (cond b (Some v) p) ≡ Some u
step f u true v o p h k = h
step f u false v o p h k = k h

among : {V : Type 0} (f : V → Option Tree) (n : List ℕ) (u : Tree) (es fs : List (List ℕ × V)) → option_and_then f (found es n) ≡ Some u → option_and_then f (found (es ++ fs) n) ≡ Some u
among f n u [] fs h = cc
among f n u (e ∷ es) fs h = step f u (is_key n e.0) e.1 (found es n) (found (es ++ fs) n) h (among f n u es fs)

called-among : (before rest : List DefinitionTree) (n : List ℕ) (u : Tree) → typename_called before n ≡ Some u → typename_called (before ++ rest) n ≡ Some u
called-among before rest n u h =
    subst (λ es. option_and_then as_typename (found es n) ≡ Some u) (sym (names-append before rest)) (among as_typename n u (by_name introduced before) (by_name introduced rest) h)

all-after : (table : List (List ℕ × SizeAlign)) (before rest all : List DefinitionTree) → ClosedAfter before rest → before ++ rest ≡ all → HasAll table all → InDefinitions (Knows table) rest
all-after table before [] all o e h = tt
all-after table before (d ∷ ds) all o e h = (
  definition-known table before (λ n u c. h n u (subst (λ ts. typename_called ts n ≡ Some u) e (called-among before (d ∷ ds) n u c))) d o.0,
  all-after table (before ++ d ∷ []) ds all o.1 (append_assoc before (d ∷ []) ds ∙ e) h,
)

pub definition-ordered : (before : List DefinitionTree) (d : DefinitionTree) → AllNamesStand before d → DefinitionStands before d
definition-ordered before (typename_of n t docs) s = s
definition-ordered before (module_of m) s = tt
definition-ordered before (constant_of c) s = tt

pub ordered-after : (before rest : List DefinitionTree) → ClosedAfter before rest → OrderedAfter before rest
ordered-after before [] s = tt
ordered-after before (d ∷ ds) s = (definition-ordered before d s.0, ordered-after (before ++ d ∷ []) ds s.1)

pub closed-ordered : (xs : List Definition) → IsClosed (map definition_tree xs) → IsOrdered (map definition_tree xs)
closed-ordered xs s = ordered-after [] (map definition_tree xs) s

-- the loop over all definitions has ended
pub all-known : (table : List (List ℕ × SizeAlign)) (xs : List Definition) (i : ℕ) → length xs ≤ i → IsClosed (map definition_tree xs) → Tabled table (passed xs i)
    → InDefinitions (Knows table) (map definition_tree xs)
all-known table xs i l o h =
    all-after table [] (map definition_tree xs) (map definition_tree xs) o refl
    (has-all table (map definition_tree xs) (subst (λ ys. Tabled table (map definition_tree ys)) (take_all i xs l) h))

-- a number that is too large among many
any-large : (ds : List Definition) (i : ℕ) (d : Definition) → i < length ds → d ≡ get_or ds i d → too_large (typename_laid_out (definition_tree d)) ≡ true
    → too_large (typenames_laid_out (map definition_tree ds)) ≡ true
any-large [] i d l p h = absurd (omega arith)
any-large (x ∷ ds) zero d l p h =
    large-append (typename_laid_out (definition_tree x)) (typenames_laid_out (map definition_tree ds))
    ∙ ap (λ b. b || too_large (typenames_laid_out (map definition_tree ds))) (ap (λ y. too_large (typename_laid_out (definition_tree y))) (sym p) ∙ h)
any-large (x ∷ ds) (suc i) d l p h =
    large-append (typename_laid_out (definition_tree x)) (typenames_laid_out (map definition_tree ds))
    ∙ ap (λ b. too_large (typename_laid_out (definition_tree x)) || b) (any-large ds i d (omega arith) p h)
    ∙ or-true (too_large (typename_laid_out (definition_tree x)))

document-large : (ds : List DefinitionTree) → too_large (typenames_laid_out ds) ≡ true → too_large (document_laid_out ds) ≡ true
document-large ds h = large-append (typenames_laid_out ds) (modules_laid_out ds) ∙ ap (λ b. b || too_large (modules_laid_out ds)) h

-- a refusal for one typename is one for the document
pub typename-refused : (ds : List Definition) (i : ℕ) (d : Definition) (e : LayoutError) → i < length ds → d ≡ get_or ds i d
    → refusal_fits (too_large (typename_laid_out (definition_tree d))) e → refusal_fits (too_large (document_laid_out (map definition_tree ds))) e
typename-refused ds i d layout_error.TooLarge l p h = document-large (map definition_tree ds) (any-large ds i d l p h)
typename-refused ds i d layout_error.OutOfMemory l p h = tt

-- a typename whose size is too large
pub size-refused : (n : Rc NamedType Global) → 2 ^ 64 ≤ size_of (plain (tree_of n.value.tref)) → too_large (typename_laid_out (definition_tree (definition.Typename n))) ≡ true
size-refused n l = large-head (size_of (plain (tree_of n.value.tref))) (laid_out (tree_of n.value.tref)) l

pub ruleset knowing_rules = (ahead-start, tabled-start, next-known, all-known, typename-refused)

pub ruleset keeping_rules = (layout_steps, size-refused)
