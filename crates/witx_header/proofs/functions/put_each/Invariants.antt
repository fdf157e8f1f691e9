use Rattle.std.proofs.Common.{◌≡◌, ◌++◌, drop, string_bytes}
use Rattle.witx_header.specs.Headers.{params_from}
use Rattle.witx_header.proofs.functions.put_each.Given as goal

abbrev pub invariant-loop-place : goal.invariant-loop-place
invariant-loop-place l = string_bytes l.text ++ params_from l.place (drop l.place l.params) ≡ string_bytes l.initial.text ++ params_from 0 l.params
