use Rattle.std.proofs.Common.{◌≡◌, ◌≤◌, ◌+◌, length}
use Rattle.std.specs.Io.KnownBytes.{Consumes}
use Rattle.witx_bundle.specs.declared.bundle.TheConstants.{LONGEST_BUNDLE}
use Rattle.witx_commands.proofs.input.read_through.Given as goal

abbrev pub invariant-loop-turn : goal.invariant-loop-turn
invariant-loop-turn g l = record {
  taken : Consumes (g.S.Source.left l.initial.source) (g.S.Source.left l.source) l.bytes.items;
  bounded : length l.bytes.items ≤ LONGEST_BUNDLE;
  turns : l.turn ≤ length l.bytes.items;
  reads : g.S.Source.reads l.source ≤ g.S.Source.reads l.initial.source + l.turn;
  no_fault : g.S.Source.faults l.source ≡ g.S.Source.faults l.initial.source;
}
