use Rattle.std.proofs.Common.{lit<, Some, None}
use Rattle.std.proofs.lemmas.Str.Pattern.{strip_suffix_char}
use Rattle.witx_bundle.proofs.Headers.{stripped, unstripped}
use Rattle.witx_bundle.proofs.lines.without_return.Goals as goal

pub returns-in-Some : goal.returns-in-Some
returns-in-Some c = stripped _ _ (strip_suffix_char 13 c.args.line.now (Some c.in-Some.front) c.in-Some.ensures.cases (lit< tt))

pub returns-in-None : goal.returns-in-None
returns-in-None c = unstripped _ (strip_suffix_char 13 c.args.line.now None c.in-None.ensures.cases (lit< tt))
