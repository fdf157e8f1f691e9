-- Files that are put one after the other leave the last text of each path.
use Rattle.std.proofs.Common.{◌≡◌, ℕ, List, [], ◌∷◌, ◌++◌, Bool, true, false, refl, sym, ap, ◌∙◌, cond, Option, Some, None, if◌then◌else◌}
use Rattle.std.specs.Prelude.{reverse}
use Rattle.std.specs.Option.{option_or}
use Rattle.std.proofs.lemmas.List.{reverse-append}
use Rattle.witx_base.specs.Paths.{Path}
use Rattle.witx_files.proofs.SamePaths.{same-turned}
use Rattle.witx_files.specs.Files.{Files, text_in, same_path}
use Rattle.witx_bundle.specs.Bundles.{is_header, header_path, text_before, lines_of, given, with_line}

held-behind : (es fs : Files) (q : Path) → text_in (es ++ fs) q ≡ option_or (text_in es q) (text_in fs q)
held-behind [] fs q = refl
held-behind (e ∷ es) fs q = one-more (same_path q e.0) (held-behind es fs q) where
  one-more : (here : Bool) → text_in (es ++ fs) q ≡ option_or (text_in es q) (text_in fs q)
      → cond here (Some e.1) (text_in (es ++ fs) q) ≡ option_or (cond here (Some e.1) (text_in es q)) (text_in fs q)
  one-more true h = refl
  one-more false h = h

-- the text at a path after these files: the last of theirs, or what stood there
abbrev pub last_or : (Path → Option (List ℕ)) → Files → Path → Option (List ℕ)
last_or f es q = option_or (text_in (reverse es) q) (f q)

or-in-turn : (a : Option (List ℕ)) (here : Bool) (text : List ℕ) (b : Option (List ℕ)) → option_or (option_or a (cond here (Some text) None)) b ≡ option_or a (cond here (Some text) b)
or-in-turn (Some x) here text b = refl
or-in-turn None true text b = refl
or-in-turn None false text b = refl

file-behind : (p : Path) (text : List ℕ) (es : Files) (f : Path → Option (List ℕ)) (q : Path)
    → last_or f ((p, text) ∷ es) q ≡ last_or (λ r. if same_path p r then Some text else f r) es q
file-behind p text es f q =
    ap (λ found. option_or found (f q)) (ap (λ files. text_in files q) (reverse-append ((p, text) ∷ []) es) ∙ held-behind (reverse es) ((p, text) ∷ []) q)
    ∙ (or-in-turn (text_in (reverse es) q) (same_path q p) text (f q) ∙ ap (λ here. option_or (text_in (reverse es) q) (cond here (Some text) (f q))) (same-turned q p))

line-behind : (x : List ℕ) (more : List (List ℕ)) (f : Path → Option (List ℕ)) (q : Path) → last_or f (given (x ∷ more)) q ≡ last_or (with_line x more f) (given more) q
line-behind x more f q = by-header (is_header x) where
  by-header : (b : Bool) → last_or f (if b then (header_path x more, text_before more) ∷ given more else given more) q
      ≡ last_or (λ r. if b then (if same_path (header_path x more) r then Some (text_before more) else f r) else f r) (given more) q
  by-header true = file-behind (header_path x more) (text_before more) (given more) f q
  by-header false = refl

pub file-step : (rest line more : List ℕ) (f g total : Path → Option (List ℕ)) → lines_of rest ≡ line ∷ lines_of more
    → ((q : Path) → g q ≡ with_line line (lines_of more) f q)
    → ((q : Path) → last_or f (given (lines_of rest)) q ≡ total q) → (q : Path) → last_or g (given (lines_of more)) q ≡ total q
file-step rest line more f g total a h e q =
    ap (λ before. option_or (text_in (reverse (given (lines_of more))) q) before) (h q)
    ∙ (sym (line-behind line (lines_of more) f q) ∙ (ap (λ ls. last_or f (given ls) q) (sym a) ∙ e q))

pub file-skip : (more behind : List ℕ) (g total : Path → Option (List ℕ)) → given (lines_of behind) ≡ given (lines_of more)
    → ((q : Path) → last_or g (given (lines_of more)) q ≡ total q) → (q : Path) → last_or g (given (lines_of behind)) q ≡ total q
file-skip more behind g total e h q = ap (λ (es : Files). last_or g es q) e ∙ h q

pub file-last : (rest : List ℕ) (f g total : Path → Option (List ℕ)) → lines_of rest ≡ rest ∷ [] → ((q : Path) → g q ≡ with_line rest [] f q)
    → ((q : Path) → last_or f (given (lines_of rest)) q ≡ total q) → (q : Path) → g q ≡ total q
file-last rest f g total a h e q = h q ∙ (sym (line-behind rest [] f q) ∙ (ap (λ ls. last_or f (given ls) q) (sym a) ∙ e q))

or-none : (a : Option (List ℕ)) → option_or a None ≡ a
or-none None = refl
or-none (Some x) = refl

pub file-start : (text : List ℕ) (q : Path) → last_or (λ p. text_in [] p) (given (lines_of text)) q ≡ text_in (reverse (given (lines_of text))) q
file-start text q = or-none (text_in (reverse (given (lines_of text))) q)

pub ruleset file_rules = (file-start, file-last)
