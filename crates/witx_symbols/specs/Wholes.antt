-- When the symbol that comes from a type is of another type, and where a symbol comes from, asked of types without
-- making the parts.
use Rattle.std.specs.Prelude.{Bool, true, false, not, ◌&&◌}
use Rattle.witx_ast.specs.declared.types.RecordKind.{RecordKind}
use Rattle.witx_ast.specs.Plain.{Plain, Fields}
use Rattle.witx_ast.specs.Alike.{same_plain}
use Rattle.witx_symbols.specs.Symbols.{Source, same_source}
use Rattle.witx_symbols.specs.SymbolViews.{source_of}
use Rattle.witx_symbols.specs.Typing.{is_tuple_type}
use Rattle.witx_symbols.specs.declared.wholes.Origin.{Origin}
use Rattle.witx_symbols.specs.declared.wholes.Origin.TheVariants as origin

-- types of the same symbols: tuples by their members' types, all others where they are alike
abbrev mutual
  pub same_whole : Plain → Plain → Bool
  same_whole (Plain.record_of RecordKind.Tuple ms) (Plain.record_of RecordKind.Tuple ns) = same_wholes ms ns
  same_whole (Plain.record_of RecordKind.Tuple ms) u = false
  same_whole t u = not (is_tuple_type u) && same_plain t u

  pub same_wholes : Fields → Fields → Bool
  same_wholes Fields.no_fields Fields.no_fields = true
  same_wholes (Fields.field n t ms) (Fields.field m u ns) = same_whole t u && same_wholes ms ns
  same_wholes _ _ = false

-- a tuple of nothing but such tuples: its symbols have no atom, and are the same wherever they come from
abbrev mutual
  pub has_no_atom : Plain → Bool
  has_no_atom (Plain.record_of RecordKind.Tuple ms) = have_no_atom ms
  has_no_atom t = false

  pub have_no_atom : Fields → Bool
  have_no_atom Fields.no_fields = true
  have_no_atom (Fields.field n t ms) = has_no_atom t && have_no_atom ms

-- whether the origin that was found is this source
abbrev pub comes_from : Origin → Source → Bool
comes_from origin.Nowhere z = false
comes_from origin.Anywhere z = true
comes_from (origin.At s) z = same_source (source_of s.now) z
