use Rattle.std.proofs.lemmas.Grind.{common_steps}
use Rattle.std.proofs.Common.{sym, take, ◌-◌, arith, ap, subst, ◌∙◌, ◌≡◌, ◌+◌, ◌<◌, ◌++◌, ◌∷◌, length, get_or, drop, List, ℕ, string_bytes, IsUtf8}
use Rattle.std.proofs.lemmas.List.{take_rest, drop_more, length-append, length-drop}
use Rattle.std.proofs.lemmas.Str.{IsUtf8-string_bytes}
use Rattle.witx_lex.specs.Pieces.{quoted, part_spelling}
use Rattle.witx_lex.specs.Tokens.{quoted as quoted_token}
use Rattle.witx_lex.specs.Meaning.{token}
use Rattle.witx_lex.proofs.Strings.{String_more, String_raw, String_end, String_not_utf8}
use Rattle.witx_lex.proofs.string.read_string.Goals as goal

pub returns-in-Ok : goal.returns-in-Ok
returns-in-Ok c n le =
    let text = c.args.text.now in
    let there : get_or text c.loop-at.at 0 ≡ 34 = ap (λ (t : List ℕ). get_or t c.loop-at.at 0) (sym c.loop-at.invariant.0) ∙ c.if-byte-eq34.true in
    let out-is : string_bytes c.in-Ok.value ≡ c.loop-at.out.items = ap (λ v. v.items) c.in-Ok.ensures.ok in
    let h = String_end n text c.loop-at.out.items c.loop-at.at c.requires le (omega (arith, c.loop-at-test.true, c.as_bytes-bytes.ensures.len)) there c.loop-at.invariant.2 (subst IsUtf8 out-is (IsUtf8-string_bytes c.in-Ok.value)) in
    record { piece = quoted h.0; stands = h.1; len = h.2; sees = ap token (ap quoted_token (c.from_string.ensures ∙ out-is ∙ h.3)) }

pub returns-in-Err : goal.returns-in-Err
returns-in-Err c n le =
    let text = c.args.text.now in
    let there : get_or text c.loop-at.at 0 ≡ 34 = ap (λ (t : List ℕ). get_or t c.loop-at.at 0) (sym c.loop-at.invariant.0) ∙ c.if-byte-eq34.true in
    rw c.fault.ensures (String_not_utf8 n text c.loop-at.out.items c.loop-at.at c.requires (omega (arith, c.loop-at-test.true, c.as_bytes-bytes.ensures.len)) there c.loop-at.invariant.2 (λ u. absurd (let q = c.in-Err.ensures.succeeds u in cc)))

pub loop-at-preserved-then-is_raw : goal.loop-at-preserved-then-is_raw
loop-at-preserved-then-is_raw c =
    let text = c.args.text.now in
    let inside : c.loop-at.at < length text = omega (arith, c.loop-at-test.true, c.as_bytes-bytes.ensures.len) in
    (c.loop-at.invariant.0, omega arith, String_raw text c.loop-at.at _ c.loop-at.out.items c.push.new.self.items inside (ap (λ (t : List ℕ). get_or t c.loop-at.at 0) c.loop-at.invariant.0) (sym c.is_raw.ensures ∙ c.if-is_raw.true) c.loop-at.invariant.2 c.in_ok-push.ensures.items)

pub loop-at-preserved : goal.loop-at-preserved
loop-at-preserved c =
    let text = c.args.text.now in
    let inside : c.loop-at.at < length text = omega (arith, c.loop-at-test.true, c.as_bytes-bytes.ensures.len) in
    let byte : get_or text c.loop-at.at 0 ≡ 92 = ap (λ (t : List ℕ). get_or t c.loop-at.at 0) (sym c.loop-at.invariant.0) ∙ c.if-byte-eq92.true in
    let one : drop c.loop-at.at text ≡ 92 ∷ drop (c.loop-at.at + 1) text = drop_more text c.loop-at.at 0 inside ∙ ap (λ (b : ℕ). b ∷ drop (c.loop-at.at + 1) text) byte in
    let bytes = c.as_bytes-bytes.result.now in
    let arg-is : take (length bytes - (c.loop-at.at + 1)) (drop (c.loop-at.at + 1) bytes) ≡ drop (c.loop-at.at + 1) text = take_rest bytes (c.loop-at.at + 1) ∙ ap (drop (c.loop-at.at + 1)) c.loop-at.invariant.0 in
    let e = c.in-Some.ensures in
    let sp = e.spelled in
    let p = e.part in
    let two : drop c.loop-at.at text ≡ part_spelling p ++ drop c.in-Some.escape.len (drop (c.loop-at.at + 1) text) = one ∙ ap (λ (t : List ℕ). 92 ∷ t) (sym arg-is) ∙ sp ∙ ap (λ (t : List ℕ). part_spelling p ++ drop c.in-Some.escape.len t) arg-is in
    let s = String_more text c.loop-at.at (c.loop-at.at + (c.in-Some.escape.len + 1)) c.loop-at.out.items c.push_escaped.new.out.items (drop c.in-Some.escape.len (drop (c.loop-at.at + 1) text)) p c.loop-at.invariant.2 e.valid two (ap (λ (k : ℕ). c.loop-at.at + k) e.len) (c.in_ok-push_escaped-in-Some.ensures ∙ ap (λ (t : List ℕ). c.loop-at.out.items ++ t) e.value) in
    (c.loop-at.invariant.0, omega (arith, e.len, ap (λ (t : List ℕ). length t) two, length-append (part_spelling p) (drop c.in-Some.escape.len (drop (c.loop-at.at + 1) text)), length-drop c.loop-at.at text), s)

pub loop-at-init : goal.loop-at-init
loop-at-init c = grind (arith, common_steps)

pub overflow_add-at-in-Some : goal.overflow_add-at-in-Some
overflow_add-at-in-Some c = grind (arith, common_steps)

pub overflow_add-at-in-Some-2 : goal.overflow_add-at-in-Some-2
overflow_add-at-in-Some-2 c = grind (arith, common_steps)

pub returns-in-None : goal.returns-in-None
returns-in-None c = grind (arith, common_steps)

pub returns-else-byte-eq92 : goal.returns-else-byte-eq92
returns-else-byte-eq92 c = grind (arith, common_steps)

pub returns : goal.returns
returns c = grind (arith, common_steps)
