-- One more definition: the text so far and the lines of the definitions left are the whole text.
use Rattle.std.specs.Prelude.{◌≡◌, ℕ, ◌+◌, ◌≤◌, ◌<◌, ◌^◌, List, [], ◌∷◌, ◌++◌, length, drop, map, All, Any}
use Rattle.std.proofs.Common.{arith, get_or, refl, sym, ◌∙◌, append_assoc, append-nil}
use Rattle.std.proofs.lemmas.List.{drop_more, drop_all, length-append, get_or-append-add}
use Rattle.std.proofs.lemmas.List.Elements.{All-append, All-cons}
use Rattle.std.proofs.Math.ListN.{get_or-append}
use Rattle.witx_ast.specs.Plain.{plain}
use Rattle.witx_ast.specs.Views.{tree_of, named_tree}
use Rattle.witx_ast.proofs.Trees.{tree-NamedType}
use Rattle.witx_ast.specs.Definitions.{definition_tree}
use Rattle.witx_ast.specs.declared.types.NamedType.{NamedType}
use Rattle.witx_ast.specs.declared.definition.Definition.{Definition}
use Rattle.witx_layout.specs.LayoutsText.{definition_lines, definition_sizes, layouts_text, typename_sizes}

-- the text of the definitions from one on, and the sizes of their typenames
abbrev pub left_text : List Definition → ℕ → List ℕ
left_text ds i = layouts_text (map definition_tree (drop i ds))

abbrev pub left_sizes : List Definition → ℕ → List ℕ
left_sizes ds i = typename_sizes (map definition_tree (drop i ds))

abbrev pub AllFit : List ℕ → Type 0
AllFit sizes = All (λ size. size < 2 ^ 64) sizes

abbrev pub OneIsLarge : List ℕ → Type 0
OneIsLarge sizes = Any (λ size. 2 ^ 64 ≤ size) sizes

text-drop : (ds : List Definition) (i : ℕ) (d : Definition) → i < length ds → d ≡ get_or ds i d
    → left_text ds i ≡ definition_lines (definition_tree d) ++ left_text ds (i + 1)
text-drop ds i d l p = rw (drop_more ds i d l, ← p) refl

sizes-drop : (ds : List Definition) (i : ℕ) (d : Definition) → i < length ds → d ≡ get_or ds i d
    → left_sizes ds i ≡ definition_sizes (definition_tree d) ++ left_sizes ds (i + 1)
sizes-drop ds i d l p = rw (drop_more ds i d l, ← p) refl

pub next-text : (ds : List Definition) (i : ℕ) (d : Definition) (text all : List ℕ) → i < length ds → d ≡ get_or ds i d
    → text ++ left_text ds i ≡ all → (text ++ definition_lines (definition_tree d)) ++ left_text ds (i + 1) ≡ all
next-text ds i d text all l p e =
    let g = rw (text-drop ds i d l p) at e in
    append_assoc text (definition_lines (definition_tree d)) (left_text ds (i + 1)) ∙ g

pub next-fits : (ds : List Definition) (i : ℕ) (d : Definition) → i < length ds → d ≡ get_or ds i d
    → AllFit (definition_sizes (definition_tree d)) → AllFit (left_sizes ds (i + 1)) → AllFit (left_sizes ds i)
next-fits ds i d l p h a =
    rw (sizes-drop ds i d l p) (All-append (λ size. size < 2 ^ 64) (definition_sizes (definition_tree d)) (left_sizes ds (i + 1)) h a)

large-before : (xs ys : List ℕ) → OneIsLarge xs → OneIsLarge (xs ++ ys)
large-before xs ys (k, x, l, e, h) = (k, x, omega (arith, length-append xs ys), get_or-append xs ys x k l ∙ e, h)

large-behind : (xs ys : List ℕ) → OneIsLarge ys → OneIsLarge (xs ++ ys)
large-behind xs ys (k, x, l, e, h) = (length xs + k, x, omega (arith, length-append xs ys), get_or-append-add xs ys k x ∙ e, h)

pub next-large : (ds : List Definition) (i : ℕ) (d : Definition) → i < length ds → d ≡ get_or ds i d
    → OneIsLarge (left_sizes ds (i + 1)) → OneIsLarge (left_sizes ds i)
next-large ds i d l p a = rw (sizes-drop ds i d l p) (large-behind (definition_sizes (definition_tree d)) (left_sizes ds (i + 1)) a)

pub this-large : (ds : List Definition) (i : ℕ) (d : Definition) → i < length ds → d ≡ get_or ds i d
    → OneIsLarge (definition_sizes (definition_tree d)) → OneIsLarge (left_sizes ds i)
this-large ds i d l p a = rw (sizes-drop ds i d l p) (large-before (definition_sizes (definition_tree d)) (left_sizes ds (i + 1)) a)

pub all-text : (ds : List Definition) (i : ℕ) (text all : List ℕ) → length ds ≤ i → text ++ left_text ds i ≡ all → text ≡ all
all-text ds i text all l e = sym (append-nil text) ∙ rw (drop_all i ds l) at e

pub none-large : AllFit []
none-large k d h = absurd (omega arith)

pub all-fit : (ds : List Definition) (i : ℕ) → length ds ≤ i → AllFit (left_sizes ds i)
all-fit ds i l = rw (drop_all i ds l) none-large

pub ruleset typename_rules = (next-text, next-fits, next-large, this-large, all-text, all-fit)

-- one typename
pub named-plain : (n : NamedType) → plain (named_tree n) ≡ plain (tree_of n.tref)
named-plain n = rw (tree-NamedType n) refl

pub one-fits : (size : ℕ) → size < 2 ^ 64 → AllFit (size ∷ [])
one-fits size h = All-cons (λ s. s < 2 ^ 64) size [] h none-large

pub one-large : (size : ℕ) → 2 ^ 64 ≤ size → OneIsLarge (size ∷ [])
one-large size h = (0, size, omega arith, refl, h)

pub no-lines : (text : List ℕ) → text ≡ text ++ []
no-lines text = sym (append-nil text)

pub ruleset definition_rules = (named-plain, one-fits, one-large, none-large, no-lines)
