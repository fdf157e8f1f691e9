use Rattle.std.proofs.Common.{◌≡◌, ℕ, List}
use Rattle.std.specs.Hash as fed
use Rattle.std.specs.List.{flat_map, fold}
use Rattle.witx_base.proofs.name_map.NameMapHash.hash.Given as goal

abbrev pub invariant-loop-key : goal.invariant-loop-key
invariant-loop-key g l =
    let writes = flat_map (λ (entry : List ℕ × g.row.V.Denot). fed.str entry.0) in
    fold g.H.Hasher.write l.state (writes l.key-iterator) ≡ fold g.H.Hasher.write l.initial.state (writes l.initial.key-iterator)
