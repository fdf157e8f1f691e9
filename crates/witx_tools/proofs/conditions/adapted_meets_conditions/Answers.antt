use Rattle.witx_adapt.specs.Entries.{all_functions}
use Rattle.witx_commands.specs.Adapting.{defined}
use Rattle.witx_tools.proofs.Meeting.{all-callable, all-fit, all-single, closed-ordered, entries-lowered}
use Rattle.witx_tools.proofs.Verdicts.{counted-each}
use Rattle.std.proofs.Common.{refl}
use Rattle.witx_tools.proofs.conditions.adapted_meets_conditions.Goals as goal

pub returns-clause-callable : goal.returns-clause-callable
returns-clause-callable c =
    all-callable c.traces_take_writable.ensures c.args.adapted.now c.requires.closed c.requires.functions c.requires.faithful c.requires.adaptable

pub returns-clause-ordered : goal.returns-clause-ordered
returns-clause-ordered c = closed-ordered (defined c.args.adapted.now) c.requires.closed

pub returns-clause-entries : goal.returns-clause-entries
returns-clause-entries c = counted-each c.args.adapted.now (defined c.args.adapted.now) refl c.requires.functions

pub returns-clause-lowerable : goal.returns-clause-lowerable
returns-clause-lowerable c =
    entries-lowered c.args.adapted.now.functions (all_functions (defined c.args.adapted.now)) c.requires.functions c.requires.adaptable.lowerable

pub returns-clause-single : goal.returns-clause-single
returns-clause-single c = all-single c.args.adapted.now.functions (returns-clause-callable c)

pub returns-clause-fits : goal.returns-clause-fits
returns-clause-fits c = all-fit c.args.adapted.now.functions (returns-clause-callable c)
