-- What a block leaves on its stack, and what the step that ran it makes of that.
use Rattle.std.specs.Prelude.{List, [], ◌∷◌, Bool, true, false, Option, Some, None}
use Rattle.witx_machine.specs.Machine.{Domain, Item, block_word, lifted_payload}
use Rattle.witx_run.specs.StackRows.{pushed_word, pushed_value}

-- one item where the finish has a value, else none; nothing where anything else lies there
abbrev pub left_item : {V W : Type 0} → Bool → List (Item V W) → Option (Option (Item V W))
left_item true (x ∷ []) = Some (Some x)
left_item true _ = None
left_item false [] = Some None
left_item false _ = None

module _ {V W M : Type 0} (D : Domain V W M) where
  abbrev pub result_with : Bool → Option (Option V) → Option V
  result_with e None = None
  result_with e (Some p) = Some (D.result e p)

  -- result_lower pushes a word, result_lift a result
  abbrev pub left_row : Bool → Bool → Option (Item V W) → List (Item V W) → Option (List (Item V W))
  left_row true e x below = pushed_word (block_word D e x) below
  left_row false e x below = pushed_value (result_with e (lifted_payload x)) below
