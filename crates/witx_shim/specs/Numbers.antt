-- The numbers of words by the names of their parameters, and where a program keeps them.
use Rattle.std.specs.Prelude.{◌≡◌, ℕ, ◌+◌, ◌-◌, List, [], ◌∷◌, Option, Some, None, length, option_map, cond}
use Rattle.std.specs.List.{flat_map}
use Rattle.witx_base.specs.Found.{found}
use Rattle.witx_ast.specs.Tree.{Field}
use Rattle.witx_ast.specs.Plain.{plain}
use Rattle.witx_base.specs.SameBytes.{same_bytes}
use Rattle.witx_machine.specs.Signature.{param_words}
use Rattle.witx_machine.specs.Run.{numbers}
use Rattle.witx_shim.specs.declared.spans.Span.{Span}

-- how many words a parameter has
abbrev pub width : Field → ℕ
width p = length (param_words (plain p.tree))

abbrev pub widths : List Field → ℕ
widths [] = 0
widths (p ∷ ps) = width p + widths ps

-- the numbers of the words of the first parameter of a name, where those of the first parameter begin at `w`
abbrev pub numbers_called : List ℕ → ℕ → List Field → Option (List ℕ)
numbers_called name w [] = None
numbers_called name w (p ∷ ps) = cond (same_bytes p.called name) (Some (numbers w (width p))) (numbers_called name (w + width p) ps)

abbrev pub or_none : Option (List ℕ) → List ℕ
or_none None = []
or_none (Some ns) = ns

-- for each new parameter the numbers of the words of the old one of its name
abbrev pub all_handed : (old new : List Field) → List ℕ
all_handed old new = flat_map (λ p. or_none (numbers_called p.called 0 old)) new

-- the numbers from the first to the end
abbrev pub span_numbers : Span → List ℕ
span_numbers s = numbers s.first (s.end - s.first)

-- what a table holds at a name
abbrev pub span_called : List (List ℕ × Span) → List ℕ → Option (List ℕ)
span_called spans name = option_map span_numbers (found spans name)

-- a table holds the numbers of the words of each parameter
abbrev pub AreSpans : List (List ℕ × Span) → List Field → Type 0
AreSpans spans params = (name : List ℕ) → span_called spans name ≡ numbers_called name 0 params

-- the first that is there
abbrev pub earlier_text : Option (List ℕ) → Option (List ℕ) → Option (List ℕ)
earlier_text None later = later
earlier_text (Some ns) later = Some ns
