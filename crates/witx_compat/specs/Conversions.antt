-- What is converted where an old function is called through a new one: two types, and which way values go.
use Rattle.std.specs.Prelude.{ℕ, List, codes, Option, Some, None, Bool, ◌&&◌}
use Rattle.witx_ast.specs.Tree.{Tree, Field}
use Rattle.witx_ast.specs.Plain.{plain}
use Rattle.witx_base.specs.SameBytes.{same_bytes}
use Rattle.witx_compat.specs.declared.answer.RepEquality.{RepEquality}
use Rattle.witx_compat.specs.Answers.{is_same}
use Rattle.witx_compat.specs.Represents.{represented}

-- the two types, the one that gives values first
pub data Conversion : Type 0 where
  new_to_old : Tree → Tree → Conversion
  old_to_new : Tree → Tree → Conversion

-- two parameters, or two results, that are mapped to each other
pub record Mapped : Type 0 where
  pub new : Field
  pub old : Field
  pub conversion : Conversion

-- one that is not mapped, of the old function or of the new
pub data Unknown : Type 0 where
  of_old : Field → Unknown
  of_new : Field → Unknown

-- the targets of two lists, two pointers or two const pointers; a name is none of these
abbrev pub targets : Tree → Tree → Option (Tree × Tree)
targets (Tree.list_of a) (Tree.list_of b) = Some (a, b)
targets (Tree.pointer_to a) (Tree.pointer_to b) = Some (a, b)
targets (Tree.const_pointer_to a) (Tree.const_pointer_to b) = Some (a, b)
targets _ _ = None

abbrev pub or_both : Tree → Tree → Option (Tree × Tree) → Tree × Tree
or_both a b None = (a, b)
or_both a b (Some both) = both

-- the types to be converted: the targets stand in place of two lists or pointers
abbrev pub converted : Tree → Tree → Tree × Tree
converted a b = or_both a b (targets a b)

-- a parameter: the old one's values become the new one's
abbrev pub param_mapped : Field → Field → Mapped
param_mapped new old =
    record { new = new; old = old; conversion = old_to_new (converted old.tree new.tree).0 (converted old.tree new.tree).1 }

-- a result: the new one's values become the old one's
abbrev pub result_mapped : Field → Field → Mapped
result_mapped new old =
    record { new = new; old = old; conversion = new_to_old (converted new.tree old.tree).0 (converted new.tree old.tree).1 }

-- how the type that receives values is represented by the one that gives them
abbrev pub conversion_answer : Conversion → RepEquality
conversion_answer (new_to_old new old) = represented (plain old) (plain new)
conversion_answer (old_to_new old new) = represented (plain new) (plain old)

-- the names are equal, and the answer is `Eq`
abbrev pub is_compatible : Mapped → Bool
is_compatible m = same_bytes m.new.called m.old.called && is_same (conversion_answer m.conversion)

abbrev pub unknown_word : Unknown → List ℕ
unknown_word (of_old f) = codes "old"
unknown_word (of_new f) = codes "new"
