-- What two records, or two variants, have in common beside the types in them.
use Rattle.std.specs.Prelude.{ℕ, ◌+◌, ◌==◌, ◌&&◌, Option, Some, None, Bool, true, false, not}
use Rattle.witx_ast.specs.Plain.{Plain, Fields, Arms}
use Rattle.witx_base.specs.SameBytes.{same_bytes}
use Rattle.witx_compat.specs.Represents.{last_place}

-- as many members, and member by member their names are equal
abbrev pub same_names : Fields → Fields → Bool
same_names Fields.no_fields Fields.no_fields = true
same_names (Fields.field name t ms) (Fields.field other u ns) = same_bytes name other && same_names ms ns
same_names _ _ = false

abbrev pub is_place : ℕ → Option ℕ → Bool
is_place i None = false
is_place i (Some j) = i == j

-- each case, of which the first stands at `i`, stands where the last case of its name stands in another variant
abbrev pub all_placed : ℕ → Arms → Arms → Bool
all_placed i Arms.no_arms by = true
all_placed i (Arms.bare name cs) by = is_place i (last_place name by) && all_placed (i + 1) cs by
all_placed i (Arms.carries name t cs) by = is_place i (last_place name by) && all_placed (i + 1) cs by

-- whether a case of two variants stands elsewhere in the other
abbrev pub has_misplaced : Plain → Plain → Bool
has_misplaced (Plain.variant_of tag cs) (Plain.variant_of other ds) = not (all_placed 0 cs ds)
has_misplaced _ _ = false
