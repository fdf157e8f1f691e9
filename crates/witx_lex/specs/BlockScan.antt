-- How the end of a block comment is found: by one pass that counts the inner comments that are open.
-- This defines nothing: the law `block_scan_is_exact` says that it finds the ends that `Blocks` defines.
use Rattle.std.specs.Prelude.{ℕ, ◌+◌, ◌-◌, ◌&&◌, ◌==◌, if◌then◌else◌, List, [], ◌∷◌, Option, Some, None, option_map}
use Rattle.witx_lex.specs.Characters.{left_paren, right_paren, semicolon}

-- how many bytes stand before the ;) that ends a comment in which n inner ones are open, if it ends
abbrev pub block_len : ℕ → List ℕ → Option ℕ
block_len n [] = None
block_len n (b ∷ []) = None
block_len n (b ∷ c ∷ bs) =
    if b == left_paren && c == semicolon then option_map (λ k. k + 2) (block_len (n + 1) bs)
    else if b == semicolon && c == right_paren then (if n == 0 then Some 0 else option_map (λ k. k + 2) (block_len (n - 1) bs))
    else option_map (λ k. k + 1) (block_len n (c ∷ bs))
