use Rattle.std.proofs.Common.{◌≡◌, length}
use Rattle.std.specs.Hash as fed
use Rattle.std.specs.List.{flat_map, fold}
use denote.Text.{Utf8}
use denote.Shadow.{shadow}
use Rattle.witx_base.specs.Paths.{parts_of}
use Rattle.witx_base.proofs.path_text.hash_parts.Given as goal

abbrev pub invariant-loop-part : goal.invariant-loop-part
invariant-loop-part g l =
    shadow (Utf8 l.rest)
    × (fold g.H.Hasher.write l.state (flat_map fed.str (parts_of l.rest)) ≡ fold g.H.Hasher.write l.initial.state (flat_map fed.str (parts_of l.text)))

abbrev pub decreases-loop-part : goal.decreases-loop-part
decreases-loop-part g l = length (parts_of l.rest)
