use Rattle.witx_docs.proofs.Grown.{two-groups}
use Rattle.witx_docs.proofs.functions.put_module.Goals as goal

pub returns-clause-nodes : goal.returns-clause-nodes
returns-clause-nodes c =
    rw (c.new_level_down-inner.ensures, c.as_slice.ensures, c.definitions.ensures, c.as_slice-2.ensures, c.definitions-2.ensures) at
    (two-groups _ _ _ _ _ _ _ _ _ _ _ _ c.put_funcs.result c.in_ok-imports.ensures.number c.in_ok-imports.ensures.node c.in_ok-put_imports.ensures
    c.in_ok-functions.ensures.number c.in_ok-functions.ensures.node c.put_funcs.ensures.nodes)
