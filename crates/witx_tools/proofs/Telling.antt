-- What a tool tells over the files of a bundle, and why it has no text, by what its calls answer.
use Rattle.std.specs.Prelude.{◌≡◌, ◌⊎◌, ℕ, List, [], ◌∷◌, All, Some, Ok, Err, map}
use Rattle.std.proofs.Common.{refl, sym, ◌∙◌, subst, inl, inr, arith}
use Rattle.witx_base.specs.Paths.{Path, path_of}
use Rattle.witx_files.specs.Answers.{IsText}
use Rattle.witx_files.specs.Files.{Files, text_in}
use Rattle.witx_files.specs.declared.fault.IoError.TheVariants.{Fault}
use Rattle.witx_files.specs.declared.fault.IoFault.{IoFault}
use Rattle.witx_files.specs.declared.fault.IoFault.TheVariants as io_fault
use Rattle.witx_walk.specs.ErrorReports.{io_report}
use Rattle.witx_walk.specs.declared.error.WitxError.TheVariants as witx_error
use Rattle.witx_walk.specs.Readings.{OneReading}
use Rattle.witx_adapt.proofs.Fitting.{functions-fit}
use Rattle.witx_adapt.specs.Entries.{Entry, all_functions, entry_of}
use Rattle.witx_adapt.specs.declared.adapted.Adapted.{Adapted}
use Rattle.witx_adapt.specs.declared.adapted.AdaptedFunc.{AdaptedFunc}
use Rattle.witx_bytes.specs.Follow.{TakesAreWritable}
use Rattle.witx_traces.specs.Passages.{sides_of}
use Rattle.witx_traces.specs.Refusals.{RefusesLines}
use Rattle.witx_traces.specs.Traces.{GivesTraces, Listed, listed}
use Rattle.witx_traces.specs.declared.reading.TracePair.{TracePair}
use Rattle.witx_traces.specs.declared.reading.TracesError.TheVariants as traces_error
use Rattle.witx_compat.specs.Polyfills.{polyfill_answer}
use Rattle.witx_compat.specs.Views.{module_view}
use Rattle.witx_compat.specs.declared.modules.ModulePolyfill.{ModulePolyfill}
use Rattle.witx_imports.specs.Faults.{offered_import}
use Rattle.witx_imports.specs.Reads as list
use Rattle.witx_imports.specs.declared.import.WasmImport.{WasmImport}
use Rattle.witx_commands.specs.Adapting.{IsAdapted, Parses, defined}
use Rattle.witx_commands.specs.Causes.{CanAdapt}
use Rattle.witx_commands.specs.Mappings.{IsAbsentReport, mapping_of}
use Rattle.witx_commands.specs.Reports.{AdaptingFails, IsTextReport}
use Rattle.witx_commands.specs.Stops.{StopsWith}
use Rattle.witx_commands.specs.Words as asked
use Rattle.witx_commands.specs.Words.{FunctionNames, OwnFile, TwoFiles, paths_of}
use Rattle.witx_commands.specs.declared.refusal.Stop.{Stop}
use Rattle.witx_commands.proofs.Refusing.{memory-stops, stops-as}
use Rattle.witx_tools.specs.Callable.{IsCallable}
use Rattle.witx_tools.specs.Calls.{IsNamedText, NamedFails, entries_of, first_named}
use Rattle.witx_tools.specs.ImportTexts.{IsBadList, bad_report, faults_text}
use Rattle.witx_tools.specs.ShimTexts.{shims_text}
use Rattle.witx_tools.specs.ToolCauses.{CanAdaptAll, HoldsOwn, IsToolOutput, LacksOwn, OneIsUnadapted, OpeningFails, OwnRefuses, ToolRefuses}
use Rattle.witx_tools.specs.VerdictTexts.{IsUnfitListing, listed_for, owned_of, unfit_report, verdicts_text}
use Rattle.witx_tools.proofs.Calling.{entries-callable}
use Rattle.witx_tools.proofs.Closing.{parsed-closed}
use Rattle.witx_tools.proofs.Shims.{answers-mapped}
use Rattle.witx_tools.proofs.Verdicts.{ReadAsTrees, each-entry, listed-for, owned-for}

-- documents that can be adapted
can-adapt : (files : Files) (words : List (List ℕ)) (a : Adapted) → Parses files (paths_of words) (Ok (defined a)) → IsAdapted a → CanAdapt files (paths_of words)
can-adapt files words a p k = (defined a, p, k.adaptable)

-- of the words that were read
said : (files other : Files) (words same : List (List ℕ)) (a : Adapted) → words ≡ same → other ≡ files → Parses other (paths_of words) (Ok (defined a))
    → Parses files (paths_of same) (Ok (defined a))
said files other words same a e f p = subst (λ ws. Parses files (paths_of ws) (Ok (defined a))) e (subst (λ fs. Parses fs (paths_of words) (Ok (defined a))) f p)

failed : (files other : Files) (words same : List (List ℕ)) (s : Stop) → words ≡ same → other ≡ files → StopsWith (AdaptingFails other (paths_of words)) s
    → StopsWith (AdaptingFails files (paths_of same)) s
failed files other words same s e f k = subst (λ ws. StopsWith (AdaptingFails files (paths_of ws)) s) e (subst (λ fs. StopsWith (AdaptingFails fs (paths_of words)) s) f k)

-- ---- adapted documents

pub adapted-paths : (files : Files) (handed paths : List Path) (a : Adapted) → handed ≡ paths → Parses files handed (Ok (defined a)) → Parses files paths (Ok (defined a))
adapted-paths files handed paths a e p = subst (λ ps. Parses files ps (Ok (defined a))) e p

pub adapting-paths : (files : Files) (handed paths : List Path) (s : Stop) → handed ≡ paths → StopsWith (AdaptingFails files handed) s → StopsWith (AdaptingFails files paths) s
adapting-paths files handed paths s e k = subst (λ ps. StopsWith (AdaptingFails files ps) s) e k

pub ruleset path_rules = (memory-stops, adapted-paths, adapting-paths)

-- ---- a tool's own file

missing-told : (files : Files) (path : Path) (fault : IoFault) (report : List ℕ) → IsText (Some files) path 0 0 (Err (Fault fault)) → report ≡ io_report path fault
    → LacksOwn (Some path) files report
missing-told files path io_fault.NotFound report h r = (h.0, r)
missing-told files path io_fault.LineNotFound report h r = absurd h.0
missing-told files path io_fault.Failed report h r = absurd (omega (arith, h.1))

pub missing-stops : (files : Files) (path : Path) (fault : IoFault) (s : Stop) → IsText (Some files) path 0 0 (Err (Fault fault))
    → StopsWith (λ report. report ≡ io_report path fault) s → StopsWith (LacksOwn (Some path) files) s
missing-stops files path fault s h k =
    stops-as (λ report. report ≡ io_report path fault) (LacksOwn (Some path) files) (λ report r. missing-told files path fault report h r) s k

pub ruleset own_rules = (memory-stops, missing-stops)

error-told : (files : Files) (path : Path) (fault : IoFault) (report : List ℕ) → IsTextReport files (witx_error.Io path fault) report → report ≡ io_report path fault
unfolding IsTextReport
error-told files path fault report k = k.1.0

pub error-stops : (files : Files) (path other : Path) (fault : IoFault) (s : Stop) → other ≡ path → StopsWith (IsTextReport files (witx_error.Io other fault)) s
    → StopsWith (λ report. report ≡ io_report path fault) s
error-stops files path other fault s e k =
    stops-as (IsTextReport files (witx_error.Io path fault)) (λ report. report ≡ io_report path fault) (λ report h. error-told files path fault report h) s
    (subst (λ p. StopsWith (IsTextReport files (witx_error.Io p fault)) s) e k)

pub ruleset error_rules = (memory-stops, error-stops)

-- ---- shims

pub new-stops : (files : Files) (two : TwoFiles) (news : List (List ℕ)) (s : Stop) → news ≡ two.new ∷ [] → StopsWith (AdaptingFails files (paths_of news)) s
    → StopsWith (ToolRefuses (asked.shim two) files) s
unfolding ToolRefuses
new-stops files two news s n k =
    stops-as (AdaptingFails files (paths_of (two.new ∷ []))) (ToolRefuses (asked.shim two) files) (λ report h. inr (tt, inl (inl h))) s
    (failed files files news (two.new ∷ []) s n refl k)

pub old-stops : (files mid : Files) (two : TwoFiles) (news olds : List (List ℕ)) (a : Adapted) (s : Stop) → news ≡ two.new ∷ [] → olds ≡ two.old ∷ [] → mid ≡ files
    → Parses files (paths_of news) (Ok (defined a)) → IsAdapted a → StopsWith (AdaptingFails mid (paths_of olds)) s → StopsWith (ToolRefuses (asked.shim two) files) s
unfolding ToolRefuses
old-stops files mid two news olds a s n o f p q k =
    stops-as (AdaptingFails files (paths_of (two.old ∷ []))) (ToolRefuses (asked.shim two) files)
    (λ report h. inr (tt, inl (inr (can-adapt files (two.new ∷ []) a (said files files news (two.new ∷ []) a n refl p) q, inl h)))) s
    (failed files mid olds (two.old ∷ []) s o f k)

pub absent-stops : (files mid : Files) (two : TwoFiles) (news olds : List (List ℕ)) (a b : Adapted) (s : Stop) → news ≡ two.new ∷ [] → olds ≡ two.old ∷ [] → mid ≡ files
    → Parses files (paths_of news) (Ok (defined a)) → IsAdapted a → Parses mid (paths_of olds) (Ok (defined b)) → IsAdapted b
    → StopsWith (IsAbsentReport (defined a) (defined b) two.names) s → StopsWith (ToolRefuses (asked.shim two) files) s
unfolding ToolRefuses
absent-stops files mid two news olds a b s n o f p q r t k =
    let new = said files files news (two.new ∷ []) a n refl p in
    let old = said files mid olds (two.old ∷ []) b o f r in
    stops-as (IsAbsentReport (defined a) (defined b) two.names) (ToolRefuses (asked.shim two) files)
    (λ report h. inr (tt, inr ((can-adapt files (two.new ∷ []) a new q, (can-adapt files (two.old ∷ []) b old t, tt)), (defined a, defined b, (new, old), h)))) s k

pub shims-told : (files mid : Files) (two : TwoFiles) (news olds : List (List ℕ)) (a b : Adapted) (ms : List ModulePolyfill) (text made : List ℕ) → news ≡ two.new ∷ []
    → olds ≡ two.old ∷ [] → mid ≡ files → Parses files (paths_of news) (Ok (defined a)) → IsAdapted a → Parses mid (paths_of olds) (Ok (defined b)) → IsAdapted b
    → polyfill_answer (defined a) (defined b) (mapping_of two.names) ≡ Ok (map module_view ms) → text ≡ shims_text (map module_view ms) → made ≡ text
    → IsToolOutput (asked.shim two) files made
unfolding IsToolOutput
shims-told files mid two news olds a b ms text made n o f p q r t e k m =
    let new = said files files news (two.new ∷ []) a n refl p in
    let old = said files mid olds (two.old ∷ []) b o f r in (
      tt,
      (can-adapt files (two.new ∷ []) a new q, (can-adapt files (two.old ∷ []) b old t, tt)),
      (defined a, defined b, (new, old), map module_view ms, e, m ∙ k),
    )

pub ruleset shim_rules = (memory-stops, new-stops, old-stops, absent-stops, shims-told, answers-mapped)

-- ---- a tool with a file of its own and one document behind it

abbrev own-of : List ℕ → List (List ℕ) → OwnFile
own-of file paths = record { file = file; paths = paths }

pub own-held : (files : Files) (file : List ℕ) (path : Path) (text : List ℕ) → path ≡ path_of file
    → text_in files path ≡ Some text → text_in files (path_of file) ≡ Some text
own-held files file path text e h = subst (λ p. text_in files p ≡ Some text) e h

pub own-document : (files mid : Files) (handed : List Path) (a : Adapted) → mid ≡ files
    → Parses mid handed (Ok (defined a)) → Parses files handed (Ok (defined a))
own-document files mid handed a e p = subst (λ fs. Parses fs handed (Ok (defined a))) e p

pub lacking-stops : (files : Files) (own : OwnFile) (path : Path) (s : Stop) → path ≡ path_of own.file
    → StopsWith (LacksOwn (Some path) files) s → StopsWith (OpeningFails files own) s
unfolding OpeningFails
lacking-stops files own path s e k =
    stops-as (LacksOwn (Some (path_of own.file)) files) (OpeningFails files own) (λ report h. inl h) s
    (subst (λ p. StopsWith (LacksOwn (Some p) files) s) e k)

pub unadapted-stops : (files mid : Files) (own : OwnFile) (path : Path) (text : List ℕ) (s : Stop) → path ≡ path_of own.file
    → mid ≡ files → text_in files path ≡ Some text → StopsWith (AdaptingFails mid (paths_of own.paths)) s
    → StopsWith (OpeningFails files own) s
unfolding OpeningFails
unadapted-stops files mid own path text s e f h k =
    stops-as (AdaptingFails files (paths_of own.paths)) (OpeningFails files own)
    (λ report r. inr ((text, own-held files own.file path text e h), r)) s
    (failed files mid own.paths own.paths s refl f k)

pub ruleset opening_rules = (memory-stops, own-held, own-document, lacking-stops, unadapted-stops)

-- what such a tool refuses, where what it refuses by itself is R
abbrev Refused : (List ℕ → Type 0) → Files → OwnFile → List ℕ → Type 0
Refused R files own report =
    LacksOwn (Some (path_of own.file)) files report
    ⊎ (HoldsOwn (Some (path_of own.file)) files
    × (OneIsUnadapted files (own.paths ∷ []) report ⊎ (CanAdaptAll files (own.paths ∷ []) × R report)))

opening-refused : (R : List ℕ → Type 0) (files : Files) (own : OwnFile) (report : List ℕ) → OpeningFails files own report
    → Refused R files own report
unfolding OpeningFails
opening-refused R files own report (inl h) = inl h
opening-refused R files own report (inr (k, h)) = inr (k, inl (inl h))

opening : (R : List ℕ → Type 0) (files : Files) (own : OwnFile) (s : Stop) → StopsWith (OpeningFails files own) s
    → StopsWith (Refused R files own) s
opening R files own s k =
    stops-as (OpeningFails files own) (Refused R files own) (λ report h. opening-refused R files own report h) s k

-- it has its file and its document, and refuses by itself
refusing : (R Q : List ℕ → Type 0) (files : Files) (own : OwnFile) (text : List ℕ) (a : Adapted) (s : Stop)
    → text_in files (path_of own.file) ≡ Some text → Parses files (paths_of own.paths) (Ok (defined a)) → IsAdapted a
    → ((report : List ℕ) → Q report → R report) → StopsWith Q s → StopsWith (Refused R files own) s
refusing R Q files own text a s h p q why k =
    stops-as Q (Refused R files own)
    (λ report r. inr ((text, h), inr ((can-adapt files own.paths a p q, tt), why report r))) s k

-- ---- imports

bad-told : (path : Path) (text : List ℕ) (place : list.LineColumn) (report : List ℕ) → list.IsBadAt text place
    → report ≡ bad_report path place → IsBadList path text report
unfolding IsBadList
bad-told path text place report h r = (place, h, r)

pub bad-stops : (path : Path) (text : List ℕ) (place : list.LineColumn) (s : Stop) → list.IsBadAt text place
    → StopsWith (λ report. report ≡ bad_report path place) s → StopsWith (IsBadList path text) s
bad-stops path text place s h k =
    stops-as (λ report. report ≡ bad_report path place) (IsBadList path text) (λ report r. bad-told path text place report h r) s k

pub ruleset list_rules = (memory-stops, bad-stops)

pub list-opening : (files : Files) (own : OwnFile) (s : Stop) → StopsWith (OpeningFails files own) s
    → StopsWith (ToolRefuses (asked.imports own) files) s
unfolding ToolRefuses
list-opening files own s k = opening (OwnRefuses (asked.imports own) files) files own s k

pub list-stops : (files : Files) (file : List ℕ) (paths : List (List ℕ)) (path : Path) (text : List ℕ) (a : Adapted) (s : Stop)
    → path ≡ path_of file → text_in files (path_of file) ≡ Some text → Parses files (paths_of paths) (Ok (defined a))
    → IsAdapted a → StopsWith (IsBadList path text) s → StopsWith (ToolRefuses (asked.imports (own-of file paths)) files) s
unfolding ToolRefuses
list-stops files file paths path text a s e h p q k =
    let own = own-of file paths in
    refusing (OwnRefuses (asked.imports own) files) (IsBadList (path_of file) text) files own text a s h p q
    (λ report r. (text, h, r)) (subst (λ p. StopsWith (IsBadList p text) s) e k)

pub faults-told : (files : Files) (file : List ℕ) (paths : List (List ℕ)) (text told made : List ℕ) (a : Adapted)
    (imports : List WasmImport) → text_in files (path_of file) ≡ Some text → Parses files (paths_of paths) (Ok (defined a))
    → IsAdapted a → list.Lists text imports → told ≡ faults_text (map offered_import a.functions) imports → made ≡ told
    → IsToolOutput (asked.imports (own-of file paths)) files made
unfolding IsToolOutput
faults-told files file paths text told made a imports h p q r k m =
    ((text, h), (can-adapt files paths a p q, tt), (imports, (text, h, r), a, p, q, m ∙ k))

pub ruleset import_rules = (memory-stops, list-opening, list-stops, faults-told)

-- ---- calls

pub all-callable : OneReading → TakesAreWritable → (files : Files) (handed : List Path) (a : Adapted) (fs : List AdaptedFunc)
    → fs ≡ a.functions → Parses files handed (Ok (defined a)) → IsAdapted a → All IsCallable fs
all-callable one law files handed a fs e p k =
    subst (All IsCallable) (sym e)
    (entries-callable law a.functions (all_functions (defined a)) k.functions
    (functions-fit (defined a) (parsed-closed one files handed (defined a) p) k.adaptable.fits) k.adaptable.lowerable k.faithful)

pub values-opening : (files : Files) (n : FunctionNames) (own : OwnFile) (s : Stop) → StopsWith (OpeningFails files own) s
    → StopsWith (ToolRefuses (asked.invoke n own) files) s
unfolding ToolRefuses
values-opening files n own s k = opening (OwnRefuses (asked.invoke n own) files) files own s k

pub call-stops : (files : Files) (n : FunctionNames) (file : List ℕ) (paths : List (List ℕ)) (text : List ℕ) (a : Adapted) (s : Stop)
    → text_in files (path_of file) ≡ Some text → Parses files (paths_of paths) (Ok (defined a)) → IsAdapted a
    → StopsWith (NamedFails n (first_named n (map entry_of a.functions)) text) s
    → StopsWith (ToolRefuses (asked.invoke n (own-of file paths)) files) s
unfolding ToolRefuses
call-stops files n file paths text a s h p q k =
    let own = own-of file paths in
    let fails : List Entry → List ℕ → Type 0 = λ es. NamedFails n (first_named n es) text in
    refusing (OwnRefuses (asked.invoke n own) files) (fails (entries_of (defined a))) files own text a s h p q
    (λ report r. (defined a, text, (h, p), r)) (subst (λ es. StopsWith (fails es) s) q.functions k)

pub call-told : (files : Files) (n : FunctionNames) (file : List ℕ) (paths : List (List ℕ)) (text told made : List ℕ) (a : Adapted)
    → text_in files (path_of file) ≡ Some text → Parses files (paths_of paths) (Ok (defined a)) → IsAdapted a
    → IsNamedText n (map entry_of a.functions) text told → made ≡ told
    → IsToolOutput (asked.invoke n (own-of file paths)) files made
unfolding IsToolOutput
call-told files n file paths text told made a h p q k m =
    let tells : IsNamedText n (entries_of (defined a)) text told = subst (λ es. IsNamedText n es text told) q.functions k in (
      (text, h),
      (can-adapt files paths a p q, tt),
      (defined a, text, (h, p), subst (IsNamedText n (entries_of (defined a)) text) (sym m) tells),
    )

pub ruleset call_rules = (memory-stops, values-opening, call-stops, call-told)

-- ---- verdicts

unfit-told : (shown : Listed) (text : List ℕ) (line : ℕ) (report : List ℕ) → RefusesLines shown text (traces_error.Line line)
    → report ≡ unfit_report line → IsUnfitListing shown text report
unfolding IsUnfitListing
unfit-told shown text line report h r = (line, h, r)

pub unfit-stops : (shown : Listed) (text : List ℕ) (line : ℕ) (s : Stop) → RefusesLines shown text (traces_error.Line line)
    → StopsWith (λ report. report ≡ unfit_report line) s → StopsWith (IsUnfitListing shown text) s
unfit-stops shown text line s h k =
    stops-as (λ report. report ≡ unfit_report line) (IsUnfitListing shown text)
    (λ report r. unfit-told shown text line report h r) s k

pub ruleset listing_rules = (memory-stops, unfit-stops, each-entry)

pub listing-opening : (files : Files) (own : OwnFile) (s : Stop) → StopsWith (OpeningFails files own) s
    → StopsWith (ToolRefuses (asked.verify own) files) s
unfolding ToolRefuses
listing-opening files own s k = opening (OwnRefuses (asked.verify own) files) files own s k

pub listing-stops : (files : Files) (file : List ℕ) (paths : List (List ℕ)) (text : List ℕ) (a : Adapted) (s : Stop)
    → ReadAsTrees → text_in files (path_of file) ≡ Some text → Parses files (paths_of paths) (Ok (defined a)) → IsAdapted a
    → StopsWith (IsUnfitListing (listed a) text) s → StopsWith (ToolRefuses (asked.verify (own-of file paths)) files) s
unfolding ToolRefuses
listing-stops files file paths text a s law h p q k =
    let own = own-of file paths in
    refusing (OwnRefuses (asked.verify own) files) (IsUnfitListing (listed_for (defined a)) text) files own text a s h p q
    (λ report r. (defined a, text, (h, p), r)) (subst (λ l. StopsWith (IsUnfitListing l text) s) (listed-for law a q) k)

pub verdicts-told : (files : Files) (file : List ℕ) (paths : List (List ℕ)) (text told made : List ℕ) (a : Adapted)
    (pairs : List TracePair) → ReadAsTrees → text_in files (path_of file) ≡ Some text
    → Parses files (paths_of paths) (Ok (defined a)) → IsAdapted a → GivesTraces (listed a) text (map sides_of pairs)
    → told ≡ verdicts_text (map owned_of a.functions) (map sides_of pairs) → made ≡ told
    → IsToolOutput (asked.verify (own-of file paths)) files made
unfolding IsToolOutput
verdicts-told files file paths text told made a pairs law h p q g k m =
    let sides = map sides_of pairs in
    let gives : GivesTraces (listed_for (defined a)) text sides
    = subst (λ l. GivesTraces l text sides) (listed-for law a q) g in
    let tells : made ≡ verdicts_text (all_functions (defined a)) sides
    = m ∙ subst (λ fs. told ≡ verdicts_text fs sides) (owned-for a.functions (all_functions (defined a)) q.functions) k in
    ((text, h), (can-adapt files paths a p q, tt), (defined a, sides, (text, (h, p), gives), tells))

pub ruleset verdict_rules = (memory-stops, listing-opening, listing-stops, verdicts-told)
