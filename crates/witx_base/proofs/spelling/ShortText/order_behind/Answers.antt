use Rattle.std.proofs.Common.{List, ap, ap₂, arith, length, length-take, nat_cmp, sym, take, ℕ, ◌≡◌, ◌≤◌, ◌∙◌}
use Rattle.witx_base.proofs.FrontOrder.{back-decides, length-decides}
use Rattle.witx_base.proofs.spelling.ShortText.order_behind.Goals as goal

-- a text has the length that is kept beside its place
has-length : (n : ℕ) (bytes text : List ℕ) → take n bytes ≡ text → length bytes ≡ 15 → n ≤ 15 → n ≡ length text
has-length n bytes text e l s = omega (arith, length-take n bytes, ap length e)

pub returns-then-back-other_back : goal.returns-then-back-other_back
returns-then-back-other_back c =
    let own = has-length c.self.inside.len c.self.inside.bytes c.args.self.now c.self.view_is c.self.told c.self.invariant.short in
    let other = has-length c.other.inside.len c.other.inside.bytes c.args.other.now c.other.view_is c.other.told c.other.invariant.short in
    c.cmp.ensures
    ∙ ap₂ nat_cmp own other
    ∙ length-decides c.args.self.now c.args.other.now c.requires.bytes c.requires.other_bytes
    (omega (arith, own, c.self.invariant.short)) (omega (arith, other, c.other.invariant.short)) c.requires.one_front
    (sym c.back-back.ensures ∙ c.if-back-other_back.true ∙ c.back-other_back.ensures)

pub returns-else-back-other_back : goal.returns-else-back-other_back
returns-else-back-other_back c =
    c.cmp-else-back-other_back.ensures
    ∙ ap₂ nat_cmp c.back-back.ensures c.back-other_back.ensures
    ∙ back-decides c.args.self.now c.args.other.now c.requires.bytes c.requires.other_bytes c.requires.one_front
    (λ same. c.if-back-other_back.false (c.back-back.ensures ∙ same ∙ sym c.back-other_back.ensures))
