use Rattle.std.proofs.Common.{rules, arith}
use Rattle.witx_files.specs.Files.{text_in}
use Rattle.witx_bundle.proofs.Fronts.{shorter}
use Rattle.witx_bundle.proofs.LastTexts.{file-last, file-skip, file-step}
use Rattle.witx_bundle.proofs.bundle.files_behind.Goals as goal

pub loop-line-preserved : goal.loop-line-preserved
loop-line-preserved c = (
  search rules,
  file-skip c.in-Some.more.now c.split_front.result.1.now (λ p. text_in c.put_file.new.files p) _ c.split_front.ensures.behind
      (file-step c.loop-line.rest.now c.in-Some.line.now c.in-Some.more.now (λ p. text_in c.loop-line.files p) (λ p. text_in c.put_file.new.files p) _ c.in-Some.ensures.lines c.in_ok-put_file.ensures c.loop-line.invariant.1),
)

pub loop-line-smaller : goal.loop-line-smaller
loop-line-smaller c = omega (arith, c.split_front.ensures.within, shorter c.loop-line.rest.now c.in-Some.line.now c.in-Some.more.now c.in-Some.ensures.spelled)

pub returns : goal.returns
returns c = file-last c.loop-line.rest.now (λ p. text_in c.loop-line.files p) (λ p. text_in c.put_last.new.files p) _ c.in_default.ensures.lines c.in_ok-put_last.ensures c.loop-line.invariant.1
