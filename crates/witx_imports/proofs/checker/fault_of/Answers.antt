use Rattle.std.proofs.Common.{sym, ◌∙◌}
use Rattle.witx_imports.proofs.Checked.{missing_is, match_is, differs_is}
use Rattle.witx_imports.proofs.checker.fault_of.Goals as goal

pub returns-in_default : goal.returns-in_default
returns-in_default c = missing_is c.args.import.now c.args.functions.now c.args.index (sym c.requires ∙ c.in_default.is)

pub returns-then-has_words : goal.returns-then-has_words
returns-then-has_words c =
    match_is c.args.import.now c.args.functions.now c.args.index c.in-Some.function c.index-functions-function.result
    (sym c.requires ∙ c.in-Some.is) c.index-functions-function.is (sym c.has_words.ensures ∙ c.if-has_words.true)

pub returns-else-has_words : goal.returns-else-has_words
returns-else-has_words c =
    differs_is c.args.import.now c.args.functions.now c.args.index c.in-Some.function c.index-functions-function.result
    (sym c.requires ∙ c.in-Some.is) c.index-functions-function.is (sym c.has_words.ensures ∙ c.if-has_words.false)
