-- One field, one case and one function's entries as they are read; and which documents can be written.
use Rattle.std.proofs.Common.{◌≡◌, ℕ, Bool, true, false, List, [], ◌∷◌}
use Rattle.witx_ast.specs.declared.types.RecordKind.{RecordKind}
use Rattle.witx_ast.specs.Tree as ast
use Rattle.witx_ast.specs.Tree.{Tree, arm_list}
use Rattle.witx_ast.specs.Words.{is_bool_arms}
use Rattle.witx_ast.specs.Items.{ItemTree, import_of, func_of}
use Rattle.witx_ast.specs.Definitions.{DefinitionTree, typename_of, module_of, constant_of}
use Rattle.witx_comments.specs.Comments.{Comments}
use Rattle.witx_syntax_tree.specs.Trees.{Name, TypeTree, Maybe, Fields, absent, present}
use Rattle.witx_render.specs.TypeExpressions.{have_no_payload}
use Rattle.witx_render.specs.ModuleExpressions.{items_in_order}
use Rattle.witx_read_back.specs.Says.{Says, SaysParams}

-- ---- one field, and one case

pub record OneField : Type 0 where
  pub comments : Comments
  pub called : Name
  pub type_ : TypeTree

pub record OneCase : Type 0 where
  pub comments : Comments
  pub called : Name
  pub payload : Maybe

abbrev pub IsField : List ℕ → Tree → OneField → Type 0
IsField n t f = (f.called.name ≡ n) × Says t f.type_

abbrev pub IsBareCase : List ℕ → OneCase → Type 0
IsBareCase n c = (c.called.name ≡ n) × (c.payload ≡ absent)

abbrev pub IsCase : List ℕ → Tree → OneCase → Type 0
IsCase n t c = (c.called.name ≡ n) × ((u : TypeTree) × (c.payload ≡ present u) × Says t u)

-- ---- what can be read back: a record has a field, an enum a name

abbrev pub HasField : RecordKind → ast.Fields → Type 0
HasField RecordKind.Other ast.no_fields = ⊥
HasField RecordKind.Other (ast.field n t d ms) = Unit {0}
HasField RecordKind.Tuple ms = Unit {0}
HasField (RecordKind.Bitflags r) ms = Unit {0}

abbrev pub HasName : Bool → Bool → ast.Arms → Type 0
HasName true bare cs = Unit {0}
HasName false false cs = Unit {0}
HasName false true ast.no_arms = ⊥
HasName false true (ast.bare n d cs) = Unit {0}
HasName false true (ast.carries n t d cs) = Unit {0}

abbrev mutual
  pub IsWritable : Tree → Type 0
  IsWritable (Tree.named n t d) = Unit {0}
  IsWritable (Tree.builtin b) = Unit {0}
  IsWritable Tree.handle = Unit {0}
  IsWritable (Tree.list_of t) = IsWritable t
  IsWritable (Tree.pointer_to t) = IsWritable t
  IsWritable (Tree.const_pointer_to t) = IsWritable t
  IsWritable (Tree.record_of kind ms) = HasField kind ms × FieldsWritable ms
  IsWritable (Tree.variant_of r cs) = HasName (is_bool_arms (arm_list cs)) (have_no_payload cs) cs × ArmsWritable cs

  pub FieldsWritable : ast.Fields → Type 0
  FieldsWritable ast.no_fields = Unit {0}
  FieldsWritable (ast.field n t d ms) = IsWritable t × FieldsWritable ms

  pub ArmsWritable : ast.Arms → Type 0
  ArmsWritable ast.no_arms = Unit {0}
  ArmsWritable (ast.bare n d cs) = ArmsWritable cs
  ArmsWritable (ast.carries n t d cs) = IsWritable t × ArmsWritable cs

abbrev pub ParamsWritable : List ast.Field → Type 0
ParamsWritable [] = Unit {0}
ParamsWritable (p ∷ ps) = IsWritable p.tree × ParamsWritable ps

abbrev pub ItemWritable : ItemTree → Type 0
ItemWritable (import_of i) = Unit {0}
ItemWritable (func_of f) = ParamsWritable f.params × ParamsWritable f.results

abbrev pub ItemsWritable : List ItemTree → Type 0
ItemsWritable [] = Unit {0}
ItemsWritable (i ∷ is) = ItemWritable i × ItemsWritable is

abbrev pub DefinitionWritable : DefinitionTree → Type 0
DefinitionWritable (typename_of n t d) = IsWritable t
DefinitionWritable (module_of m) = ItemsWritable (items_in_order m.items)
DefinitionWritable (constant_of c) = ⊥

abbrev pub DocumentWritable : List DefinitionTree → Type 0
DocumentWritable [] = Unit {0}
DocumentWritable (d ∷ ds) = DefinitionWritable d × DocumentWritable ds

pub record OneEntries : Type 0 where
  pub params : Fields
  pub results : Fields
  pub noreturn : Bool
  pub stored : Bool

pub record IsEntries (ps rs : List ast.Field) (b s : Bool) (e : OneEntries) : Type 0 where
  pub params : SaysParams ps e.params
  pub results : SaysParams rs e.results
  pub noreturn : e.noreturn ≡ b
  pub stored : e.stored ≡ s
