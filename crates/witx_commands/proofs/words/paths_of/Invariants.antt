use Rattle.std.proofs.Common.{◌≡◌, ◌++◌, map, drop}
use Rattle.witx_base.specs.Paths.{path_of}
use Rattle.witx_commands.proofs.words.paths_of.Given as goal

abbrev pub invariant-loop-word : goal.invariant-loop-word
invariant-loop-word l = l.paths ++ map path_of (drop l.word-index l.words) ≡ map path_of l.words
