use Rattle.std.proofs.Common.{◌≡◌, ◌++◌, drop, map, string_bytes}
use Rattle.witx_base.specs.Paths.{behind_slashes, kept_parts}
use Rattle.witx_base.proofs.path_text.put_kept.Given as goal

abbrev pub invariant-loop-piece : goal.invariant-loop-piece
invariant-loop-piece l = string_bytes l.text ++ behind_slashes (kept_parts (map (λ x. x.now) (drop l.piece-index l.pieces))) ≡ string_bytes l.initial.text ++ behind_slashes (kept_parts (map (λ x. x.now) l.pieces))
