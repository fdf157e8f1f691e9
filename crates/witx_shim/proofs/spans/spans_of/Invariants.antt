use Rattle.std.proofs.Common.{◌≡◌, ◌+◌, ℕ, List, drop, take, map, is_some}
use Rattle.std.specs.List.{list_any}
use Rattle.witx_ast.specs.Functions.{param_field}
use Rattle.witx_base.specs.SameBytes.{same_bytes}
use Rattle.witx_shim.specs.Numbers.{earlier_text, numbers_called, span_called, widths}
use Rattle.witx_shim.specs.Refusals.{repeated_after, repeated_param}
use Rattle.witx_shim.proofs.Names.{names_of}
use Rattle.witx_shim.proofs.spans.spans_of.Given as goal

abbrev pub invariant-loop-param : goal.invariant-loop-param
invariant-loop-param l = record {
  seen : (name : List ℕ) → is_some (span_called l.spans.by_name name) ≡ list_any (λ b. same_bytes b name) (names_of (take l.param-index l.params));
  names : repeated_after (names_of (take l.param-index l.params)) (names_of (drop l.param-index l.params)) ≡ repeated_param (map param_field l.params);
  called : (name : List ℕ) → earlier_text (span_called l.spans.by_name name) (numbers_called name l.spans.count (map param_field (drop l.param-index l.params)))
      ≡ numbers_called name 0 (map param_field l.params);
  counted : l.spans.count + widths (map param_field (drop l.param-index l.params)) ≡ widths (map param_field l.params);
}
