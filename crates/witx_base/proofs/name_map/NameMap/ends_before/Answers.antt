use Rattle.std.proofs.Common.{sym, ap, ◌∙◌}
use Rattle.std.specs.Ordering.{is_lt}
use Rattle.witx_base.specs.Found.{found}
use Rattle.witx_base.proofs.Behind.{behind-all}
use Rattle.witx_base.proofs.name_map.NameMap.ends_before.Goals as goal

pub returns-in-Some : goal.returns-in-Some
returns-in-Some g c = λ h.
    sym (ap (λ es. found es c.args.name.now) c.self.view_is)
    ∙ behind-all c.self.inside.map.entries c.in-Some.last.now c.args.name.now c.in-Some.ensures.all_up_to (sym (c.is_lt.ensures ∙ ap is_lt c.cmp.ensures) ∙ h)
