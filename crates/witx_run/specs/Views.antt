-- How the program's conversions, names and stacks are read.
use Rattle.std.specs.Prelude.{List, map, reverse, Bool, Option, option_map}
use Rattle.std.specs.Borrow.{Bor}
use Rattle.std.specs.declared.alloc.Global.{Global}
use Rattle.std.specs.declared.rc.Rc.{Rc}
use Rattle.witx_ast.specs.declared.types.NamedType.{NamedType}
use Rattle.witx_ast.specs.declared.types.TypeRef.{TypeRef}
use Rattle.witx_ast.specs.Tree.{Tree}
use Rattle.witx_ast.specs.Views.{tree_of, named_tree}
use Rattle.witx_machine.specs.Machine as machine
use Rattle.witx_machine.specs.Machine.{word_item, value_item}
use Rattle.witx_machine.specs.Words as words
use Rattle.witx_machine.specs.Words.{Scalar}
use Rattle.witx_run.specs.declared.conversion.Conversion as declared_conversion
use Rattle.witx_run.specs.declared.conversion.Conversion.TheVariants as conversion
use Rattle.witx_run.specs.declared.item.Item as declared_item
use Rattle.witx_run.specs.declared.item.Item.TheVariants as item
use Rattle.witx_run.specs.declared.domain.Picked as declared_picked

abbrev pub scalar_of : declared_conversion.Conversion → Scalar
scalar_of (conversion.Number b) = words.number_of b
scalar_of conversion.Pointer = words.pointer
scalar_of conversion.ConstPointer = words.const_pointer
scalar_of (conversion.Handle n) = words.handle_of (named_tree n.now)
scalar_of (conversion.Flags w n) = words.flags_of w (named_tree n.now)
scalar_of (conversion.Enum n) = words.enum_of (named_tree n.now)

abbrev pub name_tree : Option (Rc NamedType Global) → Option Tree
name_tree n = option_map (λ n. named_tree n.value) n

-- a type, where one is given
abbrev pub type_tree : Option (Bor TypeRef) → Option Tree
type_tree t = option_map (λ t. tree_of t.now) t

module _ {v V : Type 0} (value : v → V) where
  -- a value, where one is given
  abbrev pub reply_of : Option (Bor v) → Option V
  reply_of r = option_map (λ r. value r.now) r

  abbrev pub payload_of : Option (v × Option (Rc NamedType Global)) → Option (V × Option Tree)
  payload_of p = option_map (λ q. (value q.0, name_tree q.1)) p

  abbrev pub picked_of : declared_picked.Picked v → Bool × Option (V × Option Tree)
  picked_of p = (p.error, payload_of p.payload)

module _ {w m W M : Type 0} (word : w → W) (memory : m → M) where
  -- an address that was given, with the memory as it is then
  abbrev pub given_in : m → Option w → Option (W × M)
  given_in new address = option_map (λ a. (word a, memory new)) address

module _ {v w V W : Type 0} (value : v → V) (word : w → W) where
  abbrev pub item_of : declared_item.Item v w → machine.Item V W
  item_of (item.Word x) = word_item (word x)
  item_of (item.Value x n) = value_item (value x) (name_tree n)

  abbrev pub items_of : List (declared_item.Item v w) → List (machine.Item V W)
  items_of xs = map item_of xs

  -- the program's stack, of which the top comes last
  abbrev pub stack_of : List (declared_item.Item v w) → List (machine.Item V W)
  stack_of xs = map item_of (reverse xs)
