use Rattle.witx_base.proofs.name_map.NameMap.insert.Goals as goal

pub returns-clause-found : goal.returns-clause-found
returns-clause-found g c = λ q. rw (← c.self.view_is) (c.in_ok-insert.ensures.updates.0 q)
