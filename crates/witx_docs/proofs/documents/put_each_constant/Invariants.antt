use Rattle.std.proofs.Common.{◌≡◌, drop, map}
use Rattle.witx_markdown.specs.Forests.{each, sprouted}
use Rattle.witx_docs.specs.Parts.{constant_node}
use Rattle.witx_docs.proofs.documents.put_each_constant.Given as goal

abbrev pub invariant-loop-constant : goal.invariant-loop-constant
invariant-loop-constant l = sprouted l.branch l.node (each constant_node (map (λ c. c.now) (drop l.constant-index l.constants)))
    ≡ sprouted l.initial.branch l.node (each constant_node (map (λ c. c.now) l.constants))
