use Rattle.std.proofs.Common.{◌-◌, ◌∙◌, Some, sym, ap}
use Rattle.std.specs.Prelude.{option_map}
use Rattle.std.proofs.lemmas.Iterator.Consumers.{nth_from_yields_List}
use Rattle.std.proofs.lemmas.Iterator.Splits.{YieldsList-from_lines}
use Rattle.witx_files.proofs.Lines.{line-numbered}
use Rattle.witx_files.proofs.memory.line_of.Goals as goal

pub returns-in_ok-new-in-Some : goal.returns-in_ok-new-in-Some
returns-in_ok-new-in-Some c =
    line-numbered c.args.text.now c.args.line_num c.if-line_num-eq0.false
    ∙ (sym (nth_from_yields_List c.nth.result _ (c.args.line_num - 1) c.nth.ensures.ran (YieldsList-from_lines c.args.text.now (c.lines.ensures.rest ∙ c.as_str.ensures)))
    ∙ (ap (option_map (λ x. x.now)) c.in-Some.is ∙ ap Some (sym c.in_ok-new-in-Some.ensures)))

pub returns-in-None : goal.returns-in-None
returns-in-None c =
    line-numbered c.args.text.now c.args.line_num c.if-line_num-eq0.false
    ∙ (sym (nth_from_yields_List c.nth.result _ (c.args.line_num - 1) c.nth.ensures.ran (YieldsList-from_lines c.args.text.now (c.lines.ensures.rest ∙ c.as_str.ensures)))
    ∙ ap (option_map (λ x. x.now)) c.in-None.is)
