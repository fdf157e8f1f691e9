use Rattle.std.proofs.Common.{◌≡◌, drop}
use Rattle.witx_files.specs.Files.{canonical}
use Rattle.witx_files.proofs.failing.alias_of.Given as goal

abbrev pub invariant-loop-alias : goal.invariant-loop-alias
invariant-loop-alias l = canonical (drop l.alias-index l.aliases) l.path ≡ canonical l.aliases l.path
