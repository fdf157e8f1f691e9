use Rattle.witx_docs.proofs.Grown.{two-groups}
use Rattle.witx_docs.proofs.documents.put_document.Goals as goal

pub returns-clause-nodes : goal.returns-clause-nodes
returns-clause-nodes c =
    rw (c.new_level_down-inner.ensures, c.new_header.ensures, c.new_header-2.ensures) at
    (two-groups _ _ _ _ _ _ _ _ _ _ _ _ c.put_modules.result c.in_ok-types.ensures.number c.in_ok-types.ensures.node c.in_ok-put_typenames.ensures.nodes
    c.in_ok-modules.ensures.number c.in_ok-modules.ensures.node c.put_modules.ensures.nodes)
