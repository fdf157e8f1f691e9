-- The line that a reader answers may be shown.
use Rattle.std.proofs.Common.{◌≡◌, ℕ, List, ◌++◌, Option, None, Some, Ok, refl, sym, ◌∙◌, append_assoc}
use mathlib.Core.Logic.{inl}
use Rattle.witx_files.specs.Answers.{HoldsLine}
use Rattle.witx_files.specs.Files.{Files}
use Rattle.witx_files.specs.LocatedTexts.{IsLocatedText, MayShow, heading, numbered_line, caret}
use Rattle.witx_files.specs.declared.location.Location.{Location}

may-show : (files : Option Files) (at : Location) (line : List ℕ) → HoldsLine files at.path at.line line → MayShow files at (Some line)
may-show None at line h = (line, refl)
may-show (Some told) at line h = sym h

pub line-shown : (files : Option Files) (at : Location) (before now : ℕ) (line shown text first second : List ℕ) → HoldsLine files at.path at.line line → now ≡ before
    → first ≡ heading at.path → shown ≡ line → second ≡ (first ++ numbered_line at.line shown) ++ caret at.column → text ≡ second
    → IsLocatedText files at before now (Ok text)
line-shown files at before now line shown text first second h q a s b t =
    let e : (first ++ numbered_line at.line shown) ++ caret at.column ≡ heading at.path ++ (numbered_line at.line line ++ caret at.column) =
    (λ i. (a i ++ numbered_line at.line (s i)) ++ caret at.column) ∙ append_assoc (heading at.path) (numbered_line at.line line) (caret at.column) in
    inl (Some line, may-show files at line h, t ∙ (b ∙ e), q)
