-- One text by itself: its files are those of the definition, and no more than one of them starts.
use Rattle.std.proofs.Common.{◌≡◌, ℕ, ◌≤◌, List, [], ◌∷◌, ◌++◌, Bool, true, false, refl, sym, ap, ◌∙◌, subst, length, Option, Some, None, Result, Ok, Err, cond, if◌then◌else◌, codes, arith, inl, inr, ◌⊎◌, Contains, IfErr, zero, suc}
use Rattle.std.specs.Cmp.Lexicographic.{lists_equiv, nat_list_eq_equiv}
use Rattle.witx_base.specs.Causes.{Rose}
use Rattle.witx_base.specs.Paths.{Path, path_of, file_name}
use Rattle.witx_base.specs.PathOrder.{same_path}
use Rattle.witx_files.specs.Files.{Files, text_in}
use Rattle.witx_files.specs.declared.fault.IoFault.TheVariants.{NotFound, LineNotFound, Failed}
use Rattle.witx_files.proofs.SamePaths.{same-test}
use Rattle.witx_ast.specs.Entries.{Held}
use Rattle.witx_ast.specs.declared.definition.Definition.{Definition}
use Rattle.witx_ast.specs.declared.definition.Entry.{Entry}
use Rattle.witx_scope.specs.Faults.{Fault}
use Rattle.witx_order.specs.Items.{Declared}
use Rattle.witx_order.specs.Walks.{World, Mark, start, decl, skip, end, Place, Next, go, stuck, over, next, is_taken, beginning, too_many}
use Rattle.witx_order.specs.Verdicts.{Verdict, refused, on, ends, turn, turned, checked, Leads, here, along, Ends, IsVerdict}
use Rattle.witx_order.proofs.FinalFronts.{turned-on}
use Rattle.witx_order.proofs.Taking.{Takes, NextTakes, next-takes}
use Rattle.witx_walk.specs.Readings.{FileReading}
use Rattle.witx_walk.specs.Meaning.{world}
use Rattle.witx_walk.specs.Answers.{Answer, Answers, HasCause, Caused, answer_of}
use Rattle.witx_walk.specs.OneFile.{source_path, source_file, source_world, IsOfOneFile}
use Rattle.witx_walk.specs.declared.error.WitxError.{WitxError}
use Rattle.witx_walk.specs.declared.error.WitxError.TheVariants.{Io, Parse, Validation, BadPath, TooManyFiles, OutOfMemory}

pub path-is : (p : Path) → p ≡ path_of (codes "-") → p ≡ source_path
unfolding path_of
path-is p e = e

equal-by : {A B : Type 0} {f g : A → B} → ((x : A) → f x ≡ g x) → f ≡ g
equal-by e = λ i x. e x i

-- the files with the one text are those of the definition
pub world-is : (none files : Files) (source : List ℕ) (p : Path) (text : List ℕ) (reading : FileReading) → none ≡ [] → p ≡ source_path → text ≡ source
    → ((q : Path) → text_in files q ≡ (if same_path p q then Some text else text_in none q)) → world files [] reading ≡ source_world source reading
world-is none files source p text reading n e f put =
    ap (λ (t : Path → Option (List ℕ)). record (source_world source reading) { text_at = t })
    (equal-by (λ q. put q ∙ (ap (λ x. (if same_path p q then Some text else text_in x q)) n ∙ (ap (λ x. (if same_path x q then Some text else None)) e ∙ ap (λ x. (if same_path source_path q then Some x else None)) f))))

same-trans : (p q : Path) → same_path source_path p ≡ true → same_path source_path q ≡ true → same_path p q ≡ true
same-trans p q e f =
    sym (same-test p q) ∙ (sym ((lists_equiv nat_list_eq_equiv).congr source_path p q (same-test source_path p ∙ e)) ∙ (same-test source_path q ∙ f))

if-some : (b : Bool) (source text : List ℕ) → (if b then Some source else None) ≡ Some text → b ≡ true
if-some true source text e = refl
if-some false source text e = absurd (cc)

clash : {b : Bool} → b ≡ true → b ≡ false → ⊥
clash e f = cc

module _ (source : List ℕ) (reading : FileReading) where
  abbrev w : World Fault
  w = source_world source reading

  -- nothing has started, or the one file
  abbrev Few : List Path → Type 0
  Few taken = (taken ≡ []) ⊎ ((p : Path) × ((taken ≡ p ∷ []) × (same_path source_path p ≡ true)))

  few-same : (before now : List Path) → now ≡ before → Few before → Few now
  few-same before now e h = let P : List Path → Type 0 = Few in subst P (sym e) h

  few-one : (before now : List Path) (p : Path) (text : List ℕ) → now ≡ before ++ p ∷ [] → is_taken before p ≡ false → source_file source p ≡ Some text → Few before → Few now
  few-one before now p text e t f (inl n) = inr (p, (e ∙ ap (λ x. x ++ p ∷ []) n, if-some (same_path source_path p) source text f))
  few-one before now p text e t f (inr (q, (n, s))) =
      absurd (clash (ap (λ x. is_taken x p) n ∙ ap (λ b. cond b true false) (same-trans q p s (if-some (same_path source_path p) source text f))) t)

  few-more : (before now : List Path) → Takes w before now → Few before → Few now
  few-more before now (inl e) h = few-same before now e h
  few-more before now (inr (p, (text, (e, (t, f))))) h = few-one before now p text e t f h

  few-after : (a : Place) (m : Mark) (b : Place) → turn w a ≡ on m b → Few a.taken → Few b.taken
  few-after a m b e h =
      let P : Next Fault → Type 0 = λ x. NextTakes w a.taken x in
      few-more a.taken b.taken (subst P (turned-on w (next w a) a.declared m b e).0 (next-takes w a)) h

  few-leads : {a b : Place} → Leads w a b → Few a.taken → Few b.taken
  few-leads (here a) h = h
  few-leads (along a m b c e r) h = few-leads r (few-after a m b e h)

  checked-many : (o : Option Fault) (m : Mark) (b : Place) (p : Path) → checked o m b ≡ ends (refused (too_many p)) → ⊥
  checked-many None m b p e = cc
  checked-many (Some f) m b p e = cc

  turned-many : (n : Next Fault) (ds : List Declared) (p : Path) → turned w ds n ≡ ends (refused (too_many p)) → n ≡ stuck (too_many p)
  turned-many (go (decl δ) b) ds p e = absurd (checked-many (w.fault_of ds δ) (decl δ) b p e)
  turned-many (go (start q d) b) ds p e = absurd (cc)
  turned-many (go (skip q) b) ds p e = absurd (cc)
  turned-many (go (end q) b) ds p e = absurd (cc)
  turned-many (stuck r) ds p e = let q : r ≡ too_many p = cc in ap stuck q
  turned-many over ds p e = absurd (cc)

  few-short : (taken : List Path) → Few taken → 1024 ≤ length taken → ⊥
  few-short taken (inl e) l = let n : length taken ≡ 0 = ap length e in omega arith
  few-short taken (inr (p, (e, s))) l = let n : length taken ≡ 1 = ap length e in omega arith

  never-many : (p : Path) → Ends w (beginning (source_path ∷ [])) (refused (too_many p)) → ⊥
  never-many p h =
      let P : Next Fault → Type 0 = λ x. NextTakes w h.last.taken x in
      few-short h.last.taken (few-leads h.way (inl refl)) (subst P (turned-many (next w h.last) h.last.declared p h.end_is) (next-takes w h.last))

  no-rise : (now : ℕ) → now ≡ 0 → Rose 0 now → ⊥
  no-rise now e h = omega arith

  pub of-one-file : (e : WitxError) (IsNameless : Path → Type 0) (files : Option Files) → ((p : Path) → IsNameless p → ⊥)
      → HasCause IsNameless files 0 0 e → Answers w (source_path ∷ []) 0 0 (Err e) → IsOfOneFile e
  of-one-file (BadPath p) IsNameless files never c h = never p c.0
  of-one-file (TooManyFiles p) IsNameless files never c h = never-many p h.1
  of-one-file (Io p NotFound) IsNameless files never c h = tt
  of-one-file (Io p LineNotFound) IsNameless files never c h = h
  of-one-file (Io p Failed) IsNameless files never c h = no-rise 0 refl h.0
  of-one-file (Parse e) IsNameless files never c h = tt
  of-one-file (Validation e) IsNameless files never c h = tt
  of-one-file OutOfMemory IsNameless files never c h = tt

no-name : file_name source_path ≡ None → ⊥
no-name e = cc

only : (p s : Path) → Contains (s ∷ []) p → p ≡ s
only p s (zero, l, e) = sym e
only p s (suc k, l, e) = absurd (omega arith)

pub answer-as : (w w' : World Fault) (p : Path) (r : Answer) → w ≡ w' → p ≡ source_path → Answers w (p ∷ []) 0 0 r → Answers w' (source_path ∷ []) 0 0 r
answer-as w w' p r e f h =
    let P : World Fault → Type 0 = λ x. Answers x (source_path ∷ []) 0 0 r in
    let Q : Path → Type 0 = λ x. Answers w (x ∷ []) 0 0 r in
    subst P e (subst Q f h)

pub verdict-as : (w w' : World Fault) (p : Path) (v : Verdict Fault) → w ≡ w' → p ≡ source_path → IsVerdict w' (source_path ∷ []) v → IsVerdict w (p ∷ []) v
verdict-as w w' p v e f h =
    let P : World Fault → Type 0 = λ x. IsVerdict x (source_path ∷ []) v in
    let Q : Path → Type 0 = λ x. IsVerdict w (x ∷ []) v in
    subst Q (sym f) (subst P (sym e) h)

pub one-file : (source : List ℕ) (reading : FileReading) (IsNameless : Path → Type 0) (files : Option Files) (r : Result (Held Definition Entry) WitxError)
    → ((p : Path) → IsNameless p → ⊥) → Caused IsNameless files 0 0 r → Answers (source_world source reading) (source_path ∷ []) 0 0 (answer_of r) → IfErr r (λ e. IsOfOneFile e)
one-file source reading IsNameless files (Ok d) never c h = tt
one-file source reading IsNameless files (Err e) never c h = of-one-file source reading e IsNameless files never c h

-- the path of the one file has a file name
pub named : (s p : Path) → s ≡ source_path → Contains (s ∷ []) p × (file_name p ≡ None) → ⊥
named s p e h =
    let q : p ≡ s = only p s h.0 in
    let n : file_name source_path ≡ None = sym (ap file_name (q ∙ e)) ∙ h.1 in
    no-name n
