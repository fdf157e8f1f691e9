-- When a syntax tree says a printed type, function, module or document, whatever its places and comments.
use Rattle.std.specs.Prelude.{◌≡◌, ℕ, Bool, true, false, List, [], ◌∷◌, Some}
use Rattle.witx_ast.specs.declared.types.IntRepr.{IntRepr}
use Rattle.witx_ast.specs.declared.types.RecordKind.{RecordKind}
use Rattle.witx_ast.specs.declared.function.Abi.{Abi}
use Rattle.witx_ast.specs.Tree as ast
use Rattle.witx_ast.specs.Tree.{Tree, arm_list}
use Rattle.witx_ast.specs.Words.{is_bool_arms}
use Rattle.witx_syntax_tree.specs.declared.tree.BuiltinSyntax.{BuiltinSyntax}
use Rattle.witx_syntax_tree.specs.Trees as forms
use Rattle.witx_comments.specs.Comments.{Comments}
use Rattle.witx_syntax_tree.specs.Trees.{Name, QuotedText, Member, DeclTree, memory, function, NotedDecl, NotedItem, TypeTree, Maybe, Types, Fields, Cases, absent, present, no_types, one_type, no_fields, one_field, no_cases, one_case}
use Rattle.witx_scope.specs.Tags.{builtin_type, repr_of}
use Rattle.witx_ast.specs.Items.{ItemTree, import_of, func_of}
use Rattle.witx_ast.specs.Definitions.{DefinitionTree, typename_of, module_of, constant_of}
use Rattle.witx_render.specs.TypeExpressions.{have_no_payload}
use Rattle.witx_render.specs.ModuleExpressions.{items_in_order}

abbrev pub IsRepr : IntRepr → BuiltinSyntax → Type 0
IsRepr r b = repr_of (builtin_type b) ≡ Some r

abbrev pub SaysFlags : ast.Fields → List Member → Type 0
SaysFlags ast.no_fields ns = ns ≡ []
SaysFlags (ast.field n t d ms) ns = (m : Member) × (ks : List Member) × (ns ≡ m ∷ ks) × (m.name.name ≡ n) × SaysFlags ms ks

abbrev pub SaysNames : ast.Arms → List Member → Type 0
SaysNames ast.no_arms ns = ns ≡ []
SaysNames (ast.bare n d cs) ns = (m : Member) × (ks : List Member) × (ns ≡ m ∷ ks) × (m.name.name ≡ n) × SaysNames cs ks
SaysNames (ast.carries n t d cs) ns = (m : Member) × (ks : List Member) × (ns ≡ m ∷ ks) × (m.name.name ≡ n) × SaysNames cs ks

abbrev pub SaysRecord : RecordKind → ast.Fields → (Types → Type 0) → (Fields → Type 0) → TypeTree → Type 0
SaysRecord RecordKind.Tuple ms T F s = (ts : Types) × (s ≡ TypeTree.tuple_of ts) × T ts
SaysRecord (RecordKind.Bitflags r) ms T F s = (b : BuiltinSyntax) × (ns : List Member) × (s ≡ TypeTree.flags_of (Some b) ns) × IsRepr r b × SaysFlags ms ns
SaysRecord RecordKind.Other ms T F s = (fs : Fields) × (s ≡ TypeTree.record_of fs) × F fs

abbrev pub SaysVariant : Bool → Bool → IntRepr → ast.Arms → (Cases → Type 0) → TypeTree → Type 0
SaysVariant true bare r cs C s = s ≡ TypeTree.boolean
SaysVariant false true r cs C s = (b : BuiltinSyntax) × (ns : List Member) × (s ≡ TypeTree.enum_of (Some b) ns) × IsRepr r b × SaysNames cs ns
SaysVariant false false r cs C s = (b : BuiltinSyntax) × (ds : Cases) × (s ≡ TypeTree.variant_of (present (TypeTree.builtin b)) ds) × IsRepr r b × C ds

abbrev mutual
  pub Says : Tree → TypeTree → Type 0
  Says (Tree.named n t d) s = (m : Name) × (s ≡ TypeTree.ident m) × (m.name ≡ n)
  Says (Tree.builtin b) s = (c : BuiltinSyntax) × (s ≡ TypeTree.builtin c) × (builtin_type c ≡ b)
  Says Tree.handle s = s ≡ TypeTree.handle
  Says (Tree.list_of t) s = (u : TypeTree) × (s ≡ TypeTree.list_of u) × Says t u
  Says (Tree.pointer_to t) s = (u : TypeTree) × (s ≡ TypeTree.pointer_to u) × Says t u
  Says (Tree.const_pointer_to t) s = (u : TypeTree) × (s ≡ TypeTree.const_pointer_to u) × Says t u
  Says (Tree.record_of kind ms) s = SaysRecord kind ms (SaysTypes ms) (SaysFields ms) s
  Says (Tree.variant_of r cs) s = SaysVariant (is_bool_arms (arm_list cs)) (have_no_payload cs) r cs (SaysCases cs) s

  pub SaysTypes : ast.Fields → Types → Type 0
  SaysTypes ast.no_fields ts = ts ≡ no_types
  SaysTypes (ast.field n t d ms) ts = (u : TypeTree) × (us : Types) × (ts ≡ one_type u us) × Says t u × SaysTypes ms us

  pub SaysFields : ast.Fields → Fields → Type 0
  SaysFields ast.no_fields fs = fs ≡ no_fields
  SaysFields (ast.field n t d ms) fs =
      (k : Comments) × (m : Name) × (u : TypeTree) × (gs : Fields) × (fs ≡ one_field k m u gs) × (m.name ≡ n) × Says t u × SaysFields ms gs

  pub SaysCases : ast.Arms → Cases → Type 0
  SaysCases ast.no_arms ds = ds ≡ no_cases
  SaysCases (ast.bare n d cs) ds = (k : Comments) × (m : Name) × (es : Cases) × (ds ≡ one_case k m absent es) × (m.name ≡ n) × SaysCases cs es
  SaysCases (ast.carries n t d cs) ds =
      (k : Comments) × (m : Name) × (u : TypeTree) × (es : Cases) × (ds ≡ one_case k m (present u) es) × (m.name ≡ n) × Says t u × SaysCases cs es

-- ---- functions, modules, documents

abbrev pub SaysParams : List ast.Field → Fields → Type 0
SaysParams [] fs = fs ≡ no_fields
SaysParams (p ∷ ps) fs =
    (k : Comments) × (m : Name) × (u : TypeTree) × (gs : Fields) × (fs ≡ one_field k m u gs) × (m.name ≡ p.called) × Says p.tree u × SaysParams ps gs

-- the function is written as stored
abbrev pub is_stored : Abi → Bool
is_stored Abi.Preview1 = false
is_stored Abi.Stored = true

abbrev pub SaysItem : ItemTree → DeclTree → Type 0
SaysItem (import_of i) d = (q : QuotedText) × (d ≡ memory q) × (q.text ≡ i.name)
SaysItem (func_of f) d =
    (q : QuotedText) × (ps : Fields) × (rs : Fields) × (d ≡ function q ps rs f.noreturn (is_stored f.abi)) × (q.text ≡ f.name) × SaysParams f.params ps
    × SaysParams f.results rs

abbrev pub SaysItems : List ItemTree → List NotedDecl → Type 0
SaysItems [] ds = ds ≡ []
SaysItems (i ∷ is) ds = (d : NotedDecl) × (es : List NotedDecl) × (ds ≡ d ∷ es) × SaysItem i d.decl × SaysItems is es

abbrev pub SaysDefinition : DefinitionTree → forms.FormTree → Type 0
SaysDefinition (typename_of n t d) i = (m : Name) × (u : TypeTree) × (i ≡ forms.typename m u) × (m.name ≡ n) × Says t u
SaysDefinition (module_of o) i = (m : Name) × (ds : List NotedDecl) × (i ≡ forms.module_of m ds) × (m.name ≡ o.name) × SaysItems (items_in_order o.items) ds
SaysDefinition (constant_of c) i = ⊥

abbrev pub SaysDocument : List DefinitionTree → List NotedItem → Type 0
SaysDocument [] is = is ≡ []
SaysDocument (d ∷ ds) is = (i : NotedItem) × (js : List NotedItem) × (is ≡ i ∷ js) × SaysDefinition d i.item × SaysDocument ds js
