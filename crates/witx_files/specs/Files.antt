-- What a reader of files tells: the text at each path, and the paths that stand for others.
-- Files are a finite map from path to text, written as the list of its entries; lines are those of std's `lines`.
use Rattle.std.specs.Prelude.{ℕ, ◌-◌, List, Option, None, Some, unwrap_or, slice_get, ◌==◌, if◌then◌else◌}
use Rattle.std.specs.Map.{lookup}
use Rattle.std.specs.Str.Lines.{lines}
use Rattle.witx_base.specs.Paths.{Path}
pub use Rattle.witx_base.specs.PathOrder.{same_path}

-- each path with its text
abbrev pub Files : Type 0
Files = List (Path × List ℕ)

-- each path with the one that it stands for
abbrev pub Aliases : Type 0
Aliases = List (Path × Path)

-- the text at a path
abbrev pub text_in : Files → Path → Option (List ℕ)
text_in files p = lookup (same_path p) files

-- the path that this one stands for: that of its first alias, or itself
abbrev pub canonical : Aliases → Path → Path
canonical aliases p = unwrap_or (lookup (same_path p) aliases) p

-- line n of a text, counted from 1; there is no line 0
abbrev pub line_at : List ℕ → ℕ → Option (List ℕ)
line_at text n = (if n == 0 then None else slice_get (lines text) (n - 1))

-- a line of the text at a path, where there is one
abbrev pub line_of : Option (List ℕ) → ℕ → Option (List ℕ)
line_of None n = None
line_of (Some text) n = line_at text n

abbrev pub line_in : Files → Path → ℕ → Option (List ℕ)
line_in files p n = line_of (text_in files p) n
