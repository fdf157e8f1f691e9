use Rattle.std.proofs.Common.{◌≡◌, ◌++◌, ◌&&◌, drop, map, string_bytes}
use Rattle.std.specs.List.{list_all}
use Rattle.witx_compat.specs.Conversions.{is_compatible}
use Rattle.witx_compat.specs.Views.{mapped_view}
use Rattle.witx_docs.proofs.FunctionParts.{mapped_lines}
use Rattle.witx_docs.proofs.function_lines.put_all_mapped.Given as goal

abbrev pub invariant-loop-mapped : goal.invariant-loop-mapped
invariant-loop-mapped l = record {
  lines : string_bytes l.out ++ mapped_lines l.word (drop l.mapped-index l.all) ≡ string_bytes l.initial.out ++ mapped_lines l.word l.all;
  compatible : (l.compatible && list_all is_compatible (map mapped_view (drop l.mapped-index l.all))) ≡ list_all is_compatible (map mapped_view l.all);
}
