use Rattle.std.proofs.Common.{◌+◌, ℕ, List, refl, sym, ap, subst, ◌∙◌, arith}
use Rattle.witx_lex.specs.Faults.{IsFaultAt}
use Rattle.witx_lex.specs.Reads.{seen_view}
use Rattle.witx_lex.specs.Tokens.{quoted}
use Rattle.witx_lex.proofs.Cuts.{fault_inside, handed_token, handed_comment, stands_behind}
use Rattle.witx_lex.proofs.Progress.{open_string}
use Rattle.witx_lex.proofs.handing.hand_other.Goals as goal

pub overflow_add-from : goal.overflow_add-from
overflow_add-from g c =
    let from = c.args.from in
    let h = rw c.in-Err-Bad.field-0-is at c.in-Err-Bad.ensures in
    let f = c.in-Err-Bad.fault in
    omega (arith, c.requires.here.within, fault_inside from.depth f.at c.range_from.result.now f.kind (h from.depth c.requires.here.deep), c.range_from.ensures.len)

pub returns-in-Quoted-clause-handed : goal.returns-in-Quoted-clause-handed
returns-in-Quoted-clause-handed g c =
    let from = c.args.from in
    let h = c.in-Ok.ensures from.depth c.requires.here.deep in
    let seen = sym h.sees ∙ ap seen_view c.in-Quoted.is in
    handed_token g.S.TokenSink.Took c.args.text.now c.args.sink.now c.hand_token.new.sink from h.piece (quoted c.in-Quoted.value) (from.at + c.in-Ok.read.len) from.depth c.hand_token.result
    (stands_behind from.depth from.at c.in-Ok.read.len c.args.text.now c.range_from.result.now h.piece c.range_from.ensures.value h.stands)
    (ap (λ (k : ℕ). from.at + k) h.len) (sym (open_string from.depth h.piece c.in-Quoted.value seen)) seen c.hand_token.ensures.cut c.hand_token.ensures.taken

pub returns-in_ok-take_comment-in-Comment-clause-handed : goal.returns-in_ok-take_comment-in-Comment-clause-handed
returns-in_ok-take_comment-in-Comment-clause-handed g c =
    let from = c.args.from in
    let h = c.in-Ok.ensures from.depth c.requires.here.deep in
    let seen = sym h.sees ∙ ap seen_view c.in-Comment.is in
    handed_comment g.S.TokenSink.Took c.args.text.now c.args.sink.now c.take_comment.new.self from (record { at = from.at + c.in-Ok.read.len; depth = from.depth }) h.piece c.in-Comment.comment.now
    (stands_behind from.depth from.at c.in-Ok.read.len c.args.text.now c.range_from.result.now h.piece c.range_from.ensures.value h.stands)
    (ap (λ (k : ℕ). from.at + k) h.len) refl seen c.in_ok-take_comment-in-Comment.ensures

pub returns-in-Err-Bad-clause-fault : goal.returns-in-Err-Bad-clause-fault
returns-in-Err-Bad-clause-fault g c =
    let from = c.args.from in
    let text = c.args.text.now in
    let f = c.in-Err-Bad.fault in
    let h = rw c.in-Err-Bad.field-0-is at c.in-Err-Bad.ensures in
    let at-rest = subst (λ (t : List ℕ). IsFaultAt from.depth t f.kind f.at) c.range_from.ensures.value (h from.depth c.requires.here.deep) in
    rw c.fault_at.ensures (f.at, at-rest, refl)
