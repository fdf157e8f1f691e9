-- What a row makes of the program's stack, or of stack and memory; or it has no rule.
use Rattle.std.specs.Prelude.{◌≡◌, List, Bool, Option, Some}
use Rattle.std.specs.Global.{Vec}
use Rattle.witx_machine.specs.Machine.{Item}
use Rattle.witx_machine.specs.Words.{when}
use Rattle.witx_run.specs.Views.{stack_of}
use Rattle.witx_run.specs.declared.domain.Domain as Domain
use Rattle.witx_run.specs.declared.item.Item as declared_item

module _ {D v w m : Type 0} (d : Domain.Ghosts D v w m) where
  abbrev pub Makes : (old new : Vec (declared_item.Item v w)) → (List (Item d.V d.W) → Option (List (Item d.V d.W))) → Bool → Type 0
  Makes old new row went =
      when went (Some (stack_of d.value_of d.word_of new.items)) ≡ row (stack_of d.value_of d.word_of old.items)

  abbrev pub MakesBoth : (old new : Vec (declared_item.Item v w)) → m → (List (Item d.V d.W) → Option (List (Item d.V d.W) × d.M)) → Bool → Type 0
  MakesBoth old new memory row went =
      when went (Some (stack_of d.value_of d.word_of new.items, d.memory_of memory)) ≡ row (stack_of d.value_of d.word_of old.items)
