-- The text is the printed one, and what `parse` answers is its answer and its verdict.
use Rattle.std.proofs.Common.{rules, map}
use Rattle.witx_ast.specs.Definitions.{definition_tree}
use Rattle.witx_read_back.proofs.Whole.{parse_reads_back, printed_answer, printed_verdict}
use Rattle.witx_read_back.proofs.round.print_and_parse.Goals as goal

pub returns-clause-reads_back : goal.returns-clause-reads_back
returns-clause-reads_back c = λ m p.
    parse_reads_back c.printed_texts_mean_the_same.ensures (map definition_tree c.args.document.now.definitions) c.as_str.result.now c.parse.result
    (search rules) c.parse.ensures.verdict c.parse.ensures.one_file m p

pub returns-clause-verdict : goal.returns-clause-verdict
returns-clause-verdict c =
    printed_verdict (map definition_tree c.args.document.now.definitions) c.as_str.result.now c.parse.result (search rules) c.parse.ensures.verdict

pub returns-clause-answer : goal.returns-clause-answer
returns-clause-answer c =
    printed_answer (map definition_tree c.args.document.now.definitions) c.as_str.result.now c.parse.result (search rules) c.parse.ensures.answer
