-- The comments before a token of a list.
use Rattle.std.proofs.Common.{◌≡◌, ℕ, zero, suc, ◌+◌, List, [], ◌∷◌, drop, refl, ap, ◌∙◌, arith}
use Rattle.witx_lex.specs.Tokens.{Lexed}
use Rattle.witx_language.specs.Values.{comments_of, second_comments}
use Rattle.witx_values.specs.Texts.{token_at}

pub at_drop : (ts : List Lexed) (at : ℕ) → comments_of (drop at ts) ≡ (token_at ts at).comments
at_drop [] zero = refl
at_drop [] (suc at) = refl
at_drop (t ∷ ts) zero = refl
at_drop (t ∷ ts) (suc at) = at_drop ts at

next_is : (at : ℕ) → suc (at + 1) ≡ suc at + 1
next_is at = omega arith

pub second_drop : (ts : List Lexed) (at : ℕ) → second_comments (drop at ts) ≡ (token_at ts (at + 1)).comments
second_drop [] zero = refl
second_drop [] (suc at) = refl
second_drop (t ∷ ts) zero = at_drop ts zero
second_drop (t ∷ ts) (suc at) = second_drop ts at ∙ ap (λ (n : ℕ). (token_at (t ∷ ts) n).comments) (next_is at)
