-- What a path that is reached leads to, from the answers of the steps.
use Rattle.std.proofs.Common.{◌≡◌, ℕ, ◌<◌, ◌≤◌, List, [], ◌∷◌, ◌++◌, true, false, sym, ap, ◌∙◌, subst, length, Option, Some, None, Result, Ok, Err, inl, inr}
use Rattle.witx_base.specs.Paths.{Path}
use Rattle.witx_files.specs.Files.{Files, Aliases, text_in, canonical}
use Rattle.witx_files.specs.Answers.{Holds, Lacks, StandsFor}
use Rattle.witx_files.specs.declared.fault.IoFault.TheVariants.{NotFound, LineNotFound, Failed}
use Rattle.witx_scope.specs.Faults.{Fault}
use Rattle.witx_syntax.specs.Reads.{IfParse}
use Rattle.witx_language.specs.declared.error.ParseError.{ParseError}
use Rattle.witx_language.specs.declared.error.ParseFault.{ParseFault}
use Rattle.witx_language.specs.declared.error.SyntaxError.{SyntaxError}
use Rattle.witx_language.specs.declared.error.SyntaxError.TheVariants as syntax
use Rattle.witx_order.specs.Items.{TextItem, Declared, SyntaxFault}
use Rattle.witx_order.specs.Walks.{World, OpenFile, open_file, Place, place, Wish, reach, wish, is_taken, folder_of, unreadable}
use Rattle.witx_order.specs.Verdicts.{refused, Leads, here, Ends}
use Rattle.witx_order.proofs.Steps.{leads-trans, ends-after, too_many-ends, missing-ends, starts, skipped, unread-ends}
use Rattle.witx_walk.specs.Answers.{RefusesFiles, Breaks, IsCalledFor, told_fault}
use Rattle.witx_walk.specs.Steps.{WalkOutcome, ReachesPlace, Tracks, IsReached, IsGot}
use Rattle.witx_walk.specs.declared.error.WitxError.{WitxError}
use Rattle.witx_walk.specs.declared.error.WitxError.TheVariants.{Io, Parse, Validation, BadPath, TooManyFiles, OutOfMemory}
use Rattle.witx_walk.specs.declared.walking.Walking.{Walking}

pub stands : (told : Option Aliases) (links : Aliases) (j p : Path) → told ≡ Some links → StandsFor told j p → p ≡ canonical links j
stands told links j p e h = let P : Option Aliases → Type 0 = λ x. StandsFor x j p in subst P e h

pub holds : (told : Option Files) (files : Files) (p : Path) (text : List ℕ) → told ≡ Some files → Holds told p text → text_in files p ≡ Some text
holds told files p text e h = let P : Option Files → Type 0 = λ x. Holds x p text in subst P e h

pub lacks : (told : Option Files) (files : Files) (p : Path) → told ≡ Some files → Lacks told p → text_in files p ≡ None
lacks told files p e h = let P : Option Files → Type 0 = λ x. Lacks x p in subst P e h

pub parse-fault : (e : SyntaxError) (f : ParseFault) (P : ParseFault → Type 0) → e ≡ syntax.Parse f → IfParse e P → P f
parse-fault e f P q h = let Q : SyntaxError → Type 0 = λ x. IfParse x P in subst Q q h

module _ (w : World Fault) where
  breaks-after : {a b : Place} {p : Path} → Leads w a b → Breaks w b p → Breaks w a p
  breaks-after f e = record { last = e.last; way = leads-trans w f e.way; call = e.call }

  pub refuses-after : (a b : Place) (mid before now : ℕ) (e : WitxError) → mid ≡ before → Leads w a b → RefusesFiles w b mid now e → RefusesFiles w a before now e
  refuses-after a b mid before now (BadPath p) m f h = (h.0 ∙ m, ends-after w f h.1)
  refuses-after a b mid before now (TooManyFiles p) m f h = (h.0 ∙ m, ends-after w f h.1)
  refuses-after a b mid before now (Io p NotFound) m f h = (h.0 ∙ m, ends-after w f h.1)
  refuses-after a b mid before now (Io p LineNotFound) m f h = h
  refuses-after a b mid before now (Io p Failed) m f h = (rw (← m) h.0, breaks-after f h.1)
  refuses-after a b mid before now (Parse x) m f h = (h.0 ∙ m, ends-after w f h.1)
  refuses-after a b mid before now (Validation x) m f h = (h.0 ∙ m, ends-after w f h.1)
  refuses-after a b mid before now OutOfMemory m f h = h ∙ m

  pub outcome-after : {U : Type 0} (a b : Place) (behind : List Path → List Declared → Place) (walk : Walking) (mid before now : ℕ) (r : Result U WitxError)
      → mid ≡ before → Leads w a b → WalkOutcome w b behind walk mid now r → WalkOutcome w a behind walk before now r
  outcome-after a b behind walk mid before now (Ok u) m f h = (h.0 ∙ m, (h.1.0, (h.1.1.0, (h.1.1.1.0, leads-trans w f h.1.1.1.1))))
  outcome-after a b behind walk mid before now (Err e) m f h = refuses-after a b mid before now e m f h

  module _ (at : Place) (outer : List OpenFile) (handed taken : List Path) (ds : List Declared) (j d : Path)
      (e : wish at ≡ reach (place outer handed taken ds) j d) where
    call-is : (q : Path) → IsCalledFor w (reach (place outer handed taken ds) j d) q → IsCalledFor w (wish at) q
    call-is q h = let P : Wish → Type 0 = λ x. IsCalledFor w x q in subst P (sym e) h

    pub path-refused : (told : Option Aliases) (before now : ℕ) (x : WitxError) → IsReached told j before now (Err x) → RefusesFiles w at before now x
    path-refused told before now (Io q Failed) h = (h.1, record { last = at; way = here at; call = call-is q (inl h.0) })
    path-refused told before now (Io q NotFound) h = absurd h
    path-refused told before now (Io q LineNotFound) h = absurd h
    path-refused told before now OutOfMemory h = h
    path-refused told before now (BadPath q) h = absurd h
    path-refused told before now (TooManyFiles q) h = absurd h
    path-refused told before now (Parse x) h = absurd h
    path-refused told before now (Validation x) h = absurd h

    module _ (p : Path) (s : p ≡ w.canonical j) where
      pub path-skipped : (walk : Walking) (before now : ℕ) → Tracks walk taken ds → now ≡ before → is_taken taken p ≡ true
          → (now ≡ before) × ReachesPlace w walk at (place outer handed)
      path-skipped walk before now h n t = (n, (taken, (ds, (h, skipped w at outer handed taken ds j d p e s t))))

      module _ (t : is_taken taken p ≡ false) where
        pub too-many : (mid before : ℕ) → mid ≡ before → 1024 ≤ length taken → RefusesFiles w at before mid (TooManyFiles p)
        too-many mid before m l = (m, too_many-ends w at outer handed taken ds j d p e s t l)

        module _ (l : length taken < 1024) (told : Option Files) (told_is : (q : Path) → Lacks told q → w.text_at q ≡ None)
            (mid before : ℕ) (same : mid ≡ before) where
          pub text-refused : (now : ℕ) (x : WitxError) → IsGot told p mid now (Err x) → RefusesFiles w at before now x
          text-refused now (Io q Failed) h =
              (rw (← same) h.1, record { last = at; way = here at; call = call-is q (inr (h.0 ∙ s, ap (λ y. is_taken taken y) h.0 ∙ t, l)) })
          text-refused now (Io q NotFound) h =
              (h.2 ∙ same, rw h.0 (missing-ends w at outer handed taken ds j d p e s t l (told_is p h.1)))
          text-refused now (Io q LineNotFound) h = absurd h
          text-refused now OutOfMemory h = h ∙ same
          text-refused now (BadPath q) h = absurd h
          text-refused now (TooManyFiles q) h = absurd h
          text-refused now (Parse x) h = absurd h
          text-refused now (Validation x) h = absurd h

        module _ (l : length taken < 1024) (text : List ℕ) (text_is : w.text_at p ≡ Some text) where
          begins : Leads w at (place (open_file p text (folder_of p d) (w.reading text) ∷ outer) handed (taken ++ p ∷ []) ds)
          begins = starts w at outer handed taken ds j d p e s text t l text_is

          pub parse-refused : (before now : ℕ) (x : ParseError) (f : SyntaxFault) → now ≡ before → w.reading text ≡ Err f → x.path ≡ p → told_fault x ≡ f
              → RefusesFiles w at before now (Parse x)
          parse-refused before now x f n r q k =
              let P : Path → Type 0 = λ y. Ends w at (refused (unreadable y (told_fault x))) in
              let Q : SyntaxFault → Type 0 = λ y. Ends w at (refused (unreadable p y)) in
              (n, subst P (sym q) (subst Q (sym k) (ends-after w begins (unread-ends w p text (folder_of p d) outer handed (taken ++ p ∷ []) ds (w.reading text) f r))))

          pub took : {U : Type 0} (items : List TextItem) (folder : Path) (text' : List ℕ) (walk : Walking) (mid before now : ℕ) (r : Result U WitxError)
              → w.reading text ≡ Ok items → folder ≡ folder_of p d → text' ≡ text → mid ≡ before
              → WalkOutcome w (place (open_file p text' folder (Ok items) ∷ outer) handed (taken ++ p ∷ []) ds) (place outer handed) walk mid now r
              → WalkOutcome w at (place outer handed) walk before now r
          took items folder text' walk mid before now r a b et m h =
              let T : List ℕ → Type 0 = λ x. WalkOutcome w (place (open_file p x folder (Ok items) ∷ outer) handed (taken ++ p ∷ []) ds) (place outer handed) walk mid now r in
              let P : Path → Type 0 = λ x. WalkOutcome w (place (open_file p text x (Ok items) ∷ outer) handed (taken ++ p ∷ []) ds) (place outer handed) walk mid now r in
              let Q : Result (List TextItem) SyntaxFault → Type 0 = λ x. WalkOutcome w (place (open_file p text (folder_of p d) x ∷ outer) handed (taken ++ p ∷ []) ds) (place outer handed) walk mid now r in
              outcome-after at _ (place outer handed) walk mid before now r m begins (subst Q (sym a) (subst P b (subst T et h)))
