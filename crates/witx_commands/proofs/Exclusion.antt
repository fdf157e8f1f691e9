-- Files that mean a document aren't refused, nor are other files that tell the same texts: there is one verdict.
use Rattle.std.specs.Prelude.{◌≡◌, ℕ, ◌^◌, ◌<◌, ◌≤◌, List, [], ◌∷◌, ◌⊎◌, length, All, Any, Option, Some, None, Ok, Err, true}
use Rattle.std.proofs.Common.{refl, sym, ap, ◌∙◌, subst, inl, inr, arith, get_or}
use mathlib.Core.Path.{fun_ext}
use Rattle.witx_base.specs.Paths.{Path}
use Rattle.witx_base.specs.Causes.{Rose}
use Rattle.witx_files.specs.Files.{Aliases, Files, canonical, text_in}
use Rattle.witx_files.specs.declared.fault.IoFault.TheVariants.{NotFound, LineNotFound, Failed}
use Rattle.witx_bundle.specs.Bundles.{IsRead, limit}
use Rattle.witx_bundle.specs.declared.error.BundleError.{BundleError}
use Rattle.witx_bundle.specs.declared.error.BundleError.TheVariants as bundle
use Rattle.witx_ast.specs.Misfits.{Misfit, first_misfit}
use Rattle.witx_ast.specs.Definitions.{DefinitionTree}
use Rattle.witx_scope.specs.Faults.{Fault}
use Rattle.witx_scope.specs.Blame.{fault_of}
use Rattle.witx_layout.specs.LayoutsText.{typename_sizes}
use Rattle.witx_layout.specs.Refusals.{tag_refusal}
use Rattle.witx_layout.specs.declared.tags.TagTooNarrow.{TagTooNarrow}
use Rattle.witx_order.specs.Items.{Declared}
use Rattle.witx_order.specs.Walks.{World, Place, WalkRefusal, bad_path, too_many, missing, unreadable, faulty, beginning}
use Rattle.witx_order.specs.Verdicts.{Verdict, fine, refused, Ends}
use Rattle.witx_order.proofs.OnlyOne.{one-verdict}
use Rattle.witx_order.proofs.FinalFronts.{means-fine}
use Rattle.witx_walk.specs.Readings.{FileReading, IsReading}
use Rattle.witx_walk.specs.Meaning.{world, definitions_of, fault_behind, MeansDocument}
use Rattle.witx_walk.specs.Answers.{Answer, Answers, told_fault}
use Rattle.witx_walk.specs.Answers as walk
use Rattle.witx_walk.specs.declared.error.WitxError.{WitxError}
use Rattle.witx_walk.specs.declared.error.WitxError.TheVariants as witx_error
use Rattle.witx_adapt.specs.declared.adapted.Adapted.{Adapted}
use Rattle.witx_adapt.specs.declared.error.DocumentError.{DocumentError}
use Rattle.witx_adapt.specs.declared.error.DocumentError.TheVariants as document_error
use Rattle.witx_adapt.specs.Adaptable.{IsAdaptable, RefusesDocument}
use Rattle.witx_commands.specs.declared.error.AdaptError.{AdaptError}
use Rattle.witx_commands.specs.declared.error.AdaptError.TheVariants as adapt_error
use Rattle.witx_commands.specs.Adapting.{AdaptRefuses, AdaptRefusesBundle, IsParsedDocument, IsTextRefusal, Parses, defined}
use Rattle.witx_adapt.specs.Listings.{listing_text}
use Rattle.witx_sample.specs.Samples.{sample_path}
use Rattle.witx_sample.specs.Summaries.{summary_text}
use Rattle.witx_compat.specs.Polyfills.{MappedModule, polyfill_answer}
use Rattle.witx_docs.specs.LaidOut.{document_refusal}
use Rattle.witx_commands.specs.MeantPages.{IsPage, IsPageReport}
use Rattle.witx_commands.specs.Mappings.{IsAbsentReport, IsPolyfillText, MeansBoth, mapping_of}
use Rattle.witx_commands.specs.Words as asked
use Rattle.witx_commands.specs.Words.{Asked, TwoFiles, bundle_bytes, paths_of, reads_source}
use Rattle.witx_commands.specs.Reports.{AdaptingFails, BothFail, CommandRefuses, IsAdaptReport, MappingFails, IsTextReport, PageFails, ParsingFails, SizesFail}
use Rattle.witx_commands.specs.Texts.{IsRefused, bundle_status}
use Rattle.witx_commands.specs.Causes.{IsAdaptedText, IsCause, IsMeantPage, IsOutput, IsPolyfill, IsValidFor}

-- a refusal where no call failed is the verdict
refusal-ends : (w : World Fault) (at : Place) (before now : ℕ) (e : WitxError) → (Rose before now → ⊥) → IsTextRefusal e → walk.RefusesFiles w at before now e
    → (r : WalkRefusal Fault) × Ends w at (refused r)
refusal-ends w at before now (witx_error.BadPath p) none i h = (bad_path p, h.1)
refusal-ends w at before now (witx_error.TooManyFiles p) none i h = (too_many p, h.1)
refusal-ends w at before now (witx_error.Io p NotFound) none i h = (missing p, h.1)
refusal-ends w at before now (witx_error.Io p LineNotFound) none i h = absurd h
refusal-ends w at before now (witx_error.Io p Failed) none i h = absurd (none h.0)
refusal-ends w at before now (witx_error.Parse e) none i h = (unreadable e.path (told_fault e), h.1)
refusal-ends w at before now (witx_error.Validation e) none i h = (faulty (fault_of e), h.1)
refusal-ends w at before now witx_error.OutOfMemory none i h = absurd i

not-both : (w : World Fault) (handed : List Path) (ds : List DefinitionTree) (before now : ℕ) (e : WitxError) → (Rose before now → ⊥) → MeansDocument w handed ds
    → IsTextRefusal e → walk.RefusesFiles w (beginning handed) before now e → ⊥
not-both w handed ds before now e none (declared, (means, made)) i h =
    let k = refusal-ends w (beginning handed) before now e none i h in
    let same : fine declared ≡ refused k.0 = one-verdict w handed (fine declared) (refused k.0) (means-fine w handed declared means.0 means.1.0 means.1.1) k.1 in
    cc

-- the verdict of these declarations, of the faults of the checker
abbrev fine-of : List Declared → Verdict Fault
fine-of declared = fine declared

same-document : (w : World Fault) (handed : List Path) (ds es : List DefinitionTree) → MeansDocument w handed ds → MeansDocument w handed es → ds ≡ es
same-document w handed ds es (declared, (means, made)) (other, (meant, done)) =
    let same : fine-of declared ≡ fine-of other = one-verdict w handed (fine-of declared) (fine-of other) (means-fine w handed declared means.0 means.1.0 means.1.1) (means-fine w handed other meant.0 meant.1.0 meant.1.1) in
    let k : declared ≡ other = cc in
    made ∙ ap definitions_of k ∙ sym done

-- no count rises from 0 to 0
never-rose : Rose 0 0 → ⊥
never-rose rose = omega arith

-- an adaptable document isn't refused
tag-excluded : (m : Option Misfit) (t : TagTooNarrow) → m ≡ None → tag_refusal m ≡ Err t → ⊥
tag-excluded None t h e = cc
tag-excluded (Some m) t h e = cc

-- any refusal of a document but want of memory
IsDocumentRefusal : DocumentError → Type 0
IsDocumentRefusal document_error.OutOfMemory = ⊥
IsDocumentRefusal _ = Unit {0}

document-excluded : (ds : List DefinitionTree) (e : DocumentError) → IsAdaptable ds → IsDocumentRefusal e → RefusesDocument ds e → ⊥
unfolding IsDocumentRefusal
document-excluded ds (document_error.TagTooNarrow t) a i h = tag-excluded (first_misfit ds) t a.fits h
document-excluded ds (document_error.TooLarge n) a i h = let l = a.sizes in let m = h.1 in cc
document-excluded ds (document_error.Unlowerable m f p) a i h = let l = a.lowerable in let k = h.2 in cc
document-excluded ds document_error.OutOfMemory a i h = absurd i

no-large : (sizes : List ℕ) → All (λ size. size < 2 ^ 64) sizes → Any (λ size. 2 ^ 64 ≤ size) sizes → ⊥
no-large sizes a (k, x, l, e, h) = let small : get_or sizes k x < 2 ^ 64 = a k x l in omega (arith, small, e, h)

abbrev world-with : FileReading → (Path → Option (List ℕ)) → World Fault
world-with reading texts = record { text_at = texts; canonical = canonical []; reading = reading; fault_of = fault_behind }

same-world : (fs gs : Files) (reading : FileReading) → ((q : Path) → text_in fs q ≡ text_in gs q) → world fs [] reading ≡ world gs [] reading
same-world fs gs reading h =
    ap (λ (texts : Path → Option (List ℕ)). world-with reading texts) (fun_ext h)

module _ (reading : FileReading) (is : IsReading reading) (fs gs : Files) (same : (q : Path) → text_in fs q ≡ text_in gs q) (handed : List Path) where
  here-answers : (r : Answer) → Parses gs handed r → Answers (world gs [] reading) handed 0 0 r
  unfolding IsParsedDocument
  here-answers r h = h gs [] reading refl refl is

  there-answers : (r : Answer) → Parses fs handed r → Answers (world gs [] reading) handed 0 0 r
  unfolding IsParsedDocument
  there-answers r h = subst (λ w. Answers w handed 0 0 r) (same-world fs gs reading same) (h fs [] reading refl refl is)

  text-excluded : (ds : List DefinitionTree) (e : WitxError) → Parses gs handed (Ok ds) → IsTextRefusal e → Parses fs handed (Err e) → ⊥
  text-excluded ds e p i h = not-both (world gs [] reading) handed ds 0 0 e never-rose (here-answers (Ok ds) p).1 i (there-answers (Err e) h)

  pub parses-same : (ds es : List DefinitionTree) → Parses gs handed (Ok ds) → Parses fs handed (Ok es) → es ≡ ds
  parses-same ds es p h = same-document (world gs [] reading) handed es ds (there-answers (Ok es) h).1 (here-answers (Ok ds) p).1

  meant-excluded : (ds es : List DefinitionTree) (e : DocumentError) → Parses gs handed (Ok ds) → IsAdaptable ds → IsDocumentRefusal e → Parses fs handed (Ok es) → RefusesDocument es e → ⊥
  meant-excluded ds es e p a i h r = document-excluded ds e a i (subst (λ xs. RefusesDocument xs e) (parses-same ds es p h) r)

  report-excluded : (ds : List DefinitionTree) → Parses gs handed (Ok ds) → IsAdaptable ds → (e : AdaptError) (report : List ℕ) → IsAdaptReport fs handed e report → AdaptRefusesBundle fs handed e → ⊥
  unfolding IsDocumentRefusal IsAdaptReport AdaptRefusesBundle
  report-excluded ds p a (adapt_error.Refused e) report i h = text-excluded ds e p h.0 h.1
  report-excluded ds p a (adapt_error.TagTooNarrow t) report i h = meant-excluded ds h.0 (document_error.TagTooNarrow t) p a tt h.1 h.2
  report-excluded ds p a (adapt_error.TooLarge n) report i h = meant-excluded ds h.0 (document_error.TooLarge n) p a tt h.1 h.2
  report-excluded ds p a (adapt_error.Unlowerable m f q) report i h = meant-excluded ds h.0 (document_error.Unlowerable m f q) p a tt h.1 h.2
  report-excluded ds p a adapt_error.OutOfMemory report i h = absurd i

  adapting-excluded : (ds : List DefinitionTree) → Parses gs handed (Ok ds) → IsAdaptable ds → (report : List ℕ) → AdaptingFails fs handed report → ⊥
  adapting-excluded ds p a report (e, h, k) = report-excluded ds p a e report k h

  parsing-excluded : (ds : List DefinitionTree) → Parses gs handed (Ok ds) → (report : List ℕ) → ParsingFails fs handed report → ⊥
  unfolding IsTextReport
  parsing-excluded ds p report (e, h, k) = text-excluded ds e p k.0 h

  sizes-excluded : (ds : List DefinitionTree) → Parses gs handed (Ok ds) → All (λ size. size < 2 ^ 64) (typename_sizes ds) → (report : List ℕ) → SizesFail fs handed report → ⊥
  sizes-excluded ds p a report (es, h, k) =
      no-large (typename_sizes ds) a (subst (λ xs. Any (λ size. 2 ^ 64 ≤ size) (typename_sizes xs)) (parses-same ds es p h) k.0)

module _ (reading : FileReading) (is : IsReading reading) (fs gs : Files) (same : (q : Path) → text_in fs q ≡ text_in gs q) where
  adapted-excluded : (handed : List Path) (text_for : Adapted → List ℕ) (text : List ℕ) (adapted : Option Adapted) (report : List ℕ)
      → IsAdaptedText text_for gs handed text adapted → AdaptingFails fs handed report → ⊥
  adapted-excluded handed text_for text None report o h = absurd o
  adapted-excluded handed text_for text (Some a) report o h = adapting-excluded reading is fs gs same handed (defined a) o.0 o.1.adaptable report h

  layouts-excluded : (handed : List Path) (ds : List DefinitionTree) → Parses gs handed (Ok ds) → All (λ size. size < 2 ^ 64) (typename_sizes ds)
      → (report : List ℕ) → ParsingFails fs handed report ⊎ SizesFail fs handed report → ⊥
  layouts-excluded handed ds p a report (inl h) = parsing-excluded reading is fs gs same handed ds p report h
  layouts-excluded handed ds p a report (inr h) = sizes-excluded reading is fs gs same handed ds p a report h

  unrefused : (ds : List DefinitionTree) → document_refusal ds ≡ None → (report : List ℕ) → IsPageReport ds report → ⊥
  unfolding IsPageReport
  unrefused ds r report (e, k, t) = cc

  pages-excluded : (handed : List Path) (ds : List DefinitionTree) → Parses gs handed (Ok ds) → document_refusal ds ≡ None
      → (report : List ℕ) → ParsingFails fs handed report ⊎ PageFails fs handed report → ⊥
  pages-excluded handed ds p r report (inl h) = parsing-excluded reading is fs gs same handed ds p report h
  pages-excluded handed ds p r report (inr (es, h, k)) =
      unrefused ds r report (subst (λ xs. IsPageReport xs report) (parses-same reading is fs gs same handed ds es p h) k)

  page-excluded : (handed : List Path) (text notes report : List ℕ) → IsMeantPage gs handed text notes → ParsingFails fs handed report ⊎ PageFails fs handed report → ⊥
  unfolding IsPage
  page-excluded handed text notes report (ds, p, (r, t, n)) h = pages-excluded handed ds p r report h

  absent-excluded : (names : List (List ℕ)) (new old : List DefinitionTree) (modules : List MappedModule) (report : List ℕ)
      → polyfill_answer new old (mapping_of names) ≡ Ok modules → IsAbsentReport new old names report → ⊥
  unfolding IsAbsentReport
  absent-excluded names new old modules report e (absent, h, k) = cc

  mapping-excluded : (two : TwoFiles) (new old : List DefinitionTree) → MeansBoth gs two new old → (modules : List MappedModule)
      → polyfill_answer new old (mapping_of two.names) ≡ Ok modules → (report : List ℕ) → BothFail fs two report ⊎ MappingFails fs two report → ⊥
  mapping-excluded two new old both modules e report (inl (inl h)) = parsing-excluded reading is fs gs same (paths_of (two.new ∷ [])) new both.0 report h
  mapping-excluded two new old both modules e report (inl (inr (ns, p, h))) = parsing-excluded reading is fs gs same (paths_of (two.old ∷ [])) old both.1 report h
  mapping-excluded two new old both modules e report (inr (ns, os, others, k)) =
      let n : ns ≡ new = parses-same reading is fs gs same (paths_of (two.new ∷ [])) new ns both.0 others.0 in
      let o : os ≡ old = parses-same reading is fs gs same (paths_of (two.old ∷ [])) old os both.1 others.1 in
      absent-excluded two.names new old modules report e
      (subst (λ ds. IsAbsentReport new ds two.names report) o (subst (λ ds. IsAbsentReport ds os two.names report) n k))

  polyfill-excluded : (two : TwoFiles) (text report : List ℕ) → IsPolyfill gs two text → BothFail fs two report ⊎ MappingFails fs two report → ⊥
  unfolding IsPolyfillText
  polyfill-excluded two text report (new, old, both, (modules, e, t)) h = mapping-excluded two new old both modules e report h

  -- a command that has its output doesn't refuse
  pub output-excluded : (c : Asked) (text notes : List ℕ) (adapted : Option Adapted) (report : List ℕ)
      → IsOutput c gs text notes adapted → CommandRefuses c fs report → ⊥
  unfolding IsOutput CommandRefuses
  output-excluded (asked.adapt words) text notes adapted report (n, o) h = adapted-excluded (paths_of words) listing_text text adapted report o h
  output-excluded (asked.print words) text notes adapted report (n, none, (ds, p, k)) h = parsing-excluded reading is fs gs same (paths_of words) ds p report h
  output-excluded (asked.layouts words) text notes adapted report (n, none, (ds, p, all, k)) h = layouts-excluded (paths_of words) ds p all report h
  output-excluded (asked.docs words) text notes adapted report (none, o) h = page-excluded (paths_of words) text notes report o h
  output-excluded (asked.polyfill two) text notes adapted report (n, none, o) h = polyfill-excluded two text report o h
  output-excluded (asked.sample n) text notes adapted report (none, o) h = adapted-excluded (sample_path ∷ []) summary_text text adapted report o h
  output-excluded _ text notes adapted report o h = absurd o

  -- valid input isn't refused
  pub valid-excluded : (c : Asked) (report : List ℕ) → IsValidFor c gs → CommandRefuses c fs report → ⊥
  unfolding CommandRefuses
  valid-excluded (asked.adapt words) report (ds, p, a) h = adapting-excluded reading is fs gs same (paths_of words) ds p a report h
  valid-excluded (asked.print words) report (ds, p) h = parsing-excluded reading is fs gs same (paths_of words) ds p report h
  valid-excluded (asked.layouts words) report (ds, p, all) h = layouts-excluded (paths_of words) ds p all report h
  valid-excluded (asked.docs words) report (ds, p, r) h = pages-excluded (paths_of words) ds p r report h
  valid-excluded (asked.polyfill two) report (new, old, both, modules, e) h = mapping-excluded two new old both modules e report h
  valid-excluded (asked.sample n) report (ds, p, a) h = adapting-excluded reading is fs gs same (sample_path ∷ []) ds p a report h
  valid-excluded _ report v h = absurd v

-- told files and aliases that mean a document, over any reader
module _ (reading : FileReading) (is : IsReading reading) (files : Files) (aliases : Aliases) (handed : List Path) (ds : List DefinitionTree) where
  told-answers : (before now : ℕ) (r : Answer) → IsParsedDocument (Some files) (Some aliases) handed before now r → Answers (world files aliases reading) handed before now r
  unfolding IsParsedDocument
  told-answers before now r h = h files aliases reading refl refl is

  told-means : IsParsedDocument (Some files) (Some aliases) handed 0 0 (Ok ds) → MeansDocument (world files aliases reading) handed ds
  told-means p = (told-answers 0 0 (Ok ds) p).1

  told-excluded : IsParsedDocument (Some files) (Some aliases) handed 0 0 (Ok ds) → IsAdaptable ds → (before now : ℕ) (es : List DefinitionTree) (d : DocumentError) → IsDocumentRefusal d
      → IsParsedDocument (Some files) (Some aliases) handed before now (Ok es) → RefusesDocument es d → ⊥
  told-excluded p a before now es d i h r =
      let same : es ≡ ds = same-document (world files aliases reading) handed es ds (told-answers before now (Ok es) h).1 (told-means p) in
      document-excluded ds d a i (subst (λ xs. RefusesDocument xs d) same r)

  pub valid-files : IsParsedDocument (Some files) (Some aliases) handed 0 0 (Ok ds) → IsAdaptable ds → (before now : ℕ) (e : AdaptError) → (Rose before now → ⊥)
      → AdaptRefuses (Some files) (Some aliases) handed before now e → e ≡ adapt_error.OutOfMemory
  unfolding IsDocumentRefusal
  valid-files p a before now (adapt_error.Refused e) none h =
      absurd (not-both (world files aliases reading) handed ds before now e none (told-means p) h.0 (told-answers before now (Err e) h.1))
  valid-files p a before now (adapt_error.TagTooNarrow t) none h = absurd (told-excluded p a before now h.0 (document_error.TagTooNarrow t) tt h.1 h.2)
  valid-files p a before now (adapt_error.TooLarge n) none h = absurd (told-excluded p a before now h.0 (document_error.TooLarge n) tt h.1 h.2)
  valid-files p a before now (adapt_error.Unlowerable m f q) none h = absurd (told-excluded p a before now h.0 (document_error.Unlowerable m f q) tt h.1 h.2)
  valid-files p a before now adapt_error.OutOfMemory none h = refl

-- the files of one bundle tell the same texts
pub same-files : (bytes : List ℕ) (fs gs : Files) → IsRead bytes (Ok fs) → IsRead bytes (Ok gs) → (q : Path) → text_in fs q ≡ text_in gs q
same-files bytes fs gs h k q = h.3 q ∙ sym (k.3 q)

-- the bytes of a bundle aren't refused as one
pub bundle-excluded : (bytes : List ℕ) (files : Files) (e : BundleError) → IsRead bytes (Ok files) → IsCause e → IsRead bytes (Err e) → ⊥
bundle-excluded bytes files bundle.TooLong h i k = let small : length bytes ≤ limit = h.0 in omega (arith, small, k)
bundle-excluded bytes files (bundle.NotUtf8 at) h i k = k.1 h.1
bundle-excluded bytes files (bundle.BeforeFirst at) h i k = let a = h.2 in let b = k.2 in cc
bundle-excluded bytes files bundle.OutOfMemory h i k = absurd i

-- a command that works on its source's bundle works on the bytes that are told
pub reading-bytes : (c : Asked) (left : Option (List ℕ)) → reads_source c ≡ true → bundle_bytes c left ≡ left
reading-bytes (asked.sample n) left i = absurd (cc)
reading-bytes _ left i = refl

-- what isn't want of memory is told with status 6
pub told-as-none : (b : BundleError) (status : ℕ) → IsCause b → IsRefused (bundle_status b) status → IsRefused 6 status
told-as-none bundle.TooLong status c s = s
told-as-none (bundle.NotUtf8 at) status c s = s
told-as-none (bundle.BeforeFirst at) status c s = s
told-as-none bundle.OutOfMemory status c s = absurd c
