-- What the private reader of the front of a text answers.
use Rattle.std.specs.Prelude.{◌≡◌, ℕ, List, take, drop}
use Rattle.std.specs.Str.{IsCharBoundary}
use Rattle.witx_bundle.specs.Bundles.{given, lines_of, text_before}

-- so many bytes stand before the first header: they are the text before it, and all files are given behind them
pub record EndsFront (text : List ℕ) (n : ℕ) : Type 0 where
  pub before : take n text ≡ text_before (lines_of text)
  pub behind : given (lines_of (drop n text)) ≡ given (lines_of text)
  pub boundary : IsCharBoundary text n
