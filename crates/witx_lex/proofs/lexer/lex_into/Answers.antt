use Rattle.std.proofs.Common.{[], sym, arith, ap, ◌∙◌, ◌+◌, Ok, refl}
use Rattle.witx_lex.specs.Characters.{is_blank}
use Rattle.witx_lex.specs.Pieces.{opening, closing}
use Rattle.witx_lex.specs.Tokens.{left, right}
use Rattle.witx_lex.proofs.Cuts.{Sofar_handed, closing_behind, opening_behind, handed_token}
use Rattle.witx_lex.proofs.Progress.{Sofar_start, Sofar_blank, Sofar_done}
use Rattle.witx_lex.proofs.lexer.lex_into.Goals as goal

pub loop-cut-init : goal.loop-cut-init
loop-cut-init g c = ([], [], Sofar_start c.args.text.now c.utf8.text, c.requires)

pub loop-cut-preserved-then-is_blank : goal.loop-cut-preserved-then-is_blank
loop-cut-preserved-then-is_blank g c =
    let i = c.loop-cut.invariant in
    let s = Sofar_blank c.args.text.now c.loop-cut.cut.at c.loop-cut.cut.depth i.1 i.0 c.utf8.text (omega (arith, c.loop-cut-test.true))
    (ap is_blank (sym c.byte_at-first.ensures) ∙ sym c.is_blank.ensures ∙ c.if-is_blank.true) i.2 in
    (i.0, i.1, s, i.3)

pub loop-cut-preserved-then-is_name : goal.loop-cut-preserved-then-is_name
loop-cut-preserved-then-is_name g c =
    let i = c.loop-cut.invariant in
    Sofar_handed g.S.TokenSink.Took c.args.text.now c.loop-cut.sink c.hand_run.new.sink c.loop-cut.cut c.in_ok-cut.cut i.0 i.1 c.utf8.text i.2 i.3 c.in_ok-cut.ensures.handed

pub loop-cut-preserved-then-first-eq41 : goal.loop-cut-preserved-then-first-eq41
loop-cut-preserved-then-first-eq41 g c =
    let i = c.loop-cut.invariant in
    let cut = c.loop-cut.cut in
    let text = c.args.text.now in
    let new = c.hand_token.new.sink in
    let took = g.S.TokenSink.Took in
    let stands = closing_behind cut.depth cut.at text c.loop-cut-test.true (sym c.byte_at-first.ensures ∙ c.if-first-eq41.true) i.2.fits in
    Sofar_handed took text c.loop-cut.sink new cut c.in_ok-cut-2.cut i.0 i.1 c.utf8.text i.2 i.3
    (handed_token took text c.loop-cut.sink new cut closing right (cut.at + 1) c.saturating_sub-depth.result (Ok c.in_ok-cut-2.cut) stands refl c.saturating_sub-depth.ensures refl c.in_ok-cut-2.ensures.cut c.in_ok-cut-2.ensures.taken)

pub loop-cut-preserved-then-byte_at-ne59 : goal.loop-cut-preserved-then-byte_at-ne59
loop-cut-preserved-then-byte_at-ne59 g c =
    let i = c.loop-cut.invariant in
    let cut = c.loop-cut.cut in
    let text = c.args.text.now in
    let new = c.hand_token-then-byte_at-ne59.new.sink in
    let took = g.S.TokenSink.Took in
    let stands = opening_behind cut.depth cut.at text c.loop-cut-test.true (sym c.byte_at-first.ensures ∙ c.if-first-eq40.true) (λ e. c.if-byte_at-ne59.true (c.byte_at.ensures ∙ e)) (omega (arith, i.2.fits, c.if-cut-eq-MOST_OPEN.false)) in
    Sofar_handed took text c.loop-cut.sink new cut c.in_ok-cut-3.cut i.0 i.1 c.utf8.text i.2 i.3
    (handed_token took text c.loop-cut.sink new cut opening left (cut.at + 1) (cut.depth + 1) (Ok c.in_ok-cut-3.cut) stands refl refl refl c.in_ok-cut-3.ensures.cut c.in_ok-cut-3.ensures.taken)

pub loop-cut-preserved : goal.loop-cut-preserved
loop-cut-preserved g c =
    let i = c.loop-cut.invariant in
    Sofar_handed g.S.TokenSink.Took c.args.text.now c.loop-cut.sink c.hand_other.new.sink c.loop-cut.cut c.in_ok-cut-4.cut i.0 i.1 c.utf8.text i.2 i.3 c.in_ok-cut-4.ensures.handed

pub returns-clause-tokens : goal.returns-clause-tokens
returns-clause-tokens g c =
    let i = c.loop-cut.invariant in
    (i.0, i.1, Sofar_done c.args.text.now c.loop-cut.cut.at c.loop-cut.cut.depth i.1 i.0 (omega (arith, c.loop-cut-test.false)) i.2, i.3)
