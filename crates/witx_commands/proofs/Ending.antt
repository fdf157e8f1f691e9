-- How a run ends, by what was prepared and what was written of that: whatever its words ask for, where that is lawful.
use Rattle.std.specs.Prelude.{◌≡◌, ◌⊎◌, ◌<◌, ℕ, List, [], All, Bool, true, false, cond, ◌==◌, if◌then◌else◌, Option, Some, None, Result, Ok, Err, IfSome, IsSome, map}
use Rattle.std.proofs.Common.{refl, sym, ap, ◌∙◌, subst, inl, inr, arith}
use Rattle.std.proofs.lemmas.Bool.{eqb-true, eq-eqb}
use Rattle.witx_base.specs.Paths.{Path}
use Rattle.witx_files.specs.Files.{Files}
use Rattle.witx_bundle.specs.Bundles.{IsRead}
use Rattle.witx_bundle.specs.declared.error.BundleError.{BundleError}
use Rattle.witx_bundle.specs.declared.error.BundleError.TheVariants as bundle
use Rattle.witx_layout.specs.Layouts.{all_layouts}
use Rattle.witx_adapt.specs.Entries.{IsFaithful, all_functions, entry_for, entry_of}
use Rattle.witx_adapt.specs.declared.adapted.Adapted.{Adapted}
use Rattle.witx_commands.specs.Adapting.{IsAdapted, Parses, defined}
use Rattle.witx_commands.specs.Causes.{IsCause, IsMeaning, IsBundle}
use Rattle.witx_commands.specs.Runs.{Cause, Failed, IsAnswered, IsPrepared, IsRun, IsTold, IsUsage, IsWritten, RunInput, SinkSeen, Task, Took, TookFront, WroteNothing, WroteOutput, WroteRefusal, input_bytes}
use Rattle.witx_commands.specs.Streams.{BrokeOff, NoFault}
use Rattle.witx_commands.specs.Texts.{IsRefused, status_of, text_of}
use Rattle.witx_commands.specs.declared.forms.Forms.{Forms}
use Rattle.witx_commands.specs.declared.output.Output.{Output}
use Rattle.witx_commands.specs.declared.refusal.Refusal.{Refusal}
use Rattle.witx_commands.specs.declared.refusal.Refusal.TheVariants as refusal
use Rattle.witx_commands.specs.declared.refusal.Stop.{Stop}
use Rattle.witx_commands.specs.declared.refusal.Stop.TheVariants as stop
use Rattle.witx_commands.proofs.Exclusion.{bundle-excluded, told-as-none}

-- the facts of a listed value
pub record IsListed (t : Task) (files : Files) (text : List ℕ) (a : Adapted) : Type 0 where
  pub adapting : t.adapting ≡ true
  pub meant : Parses files t.adapted_paths (Ok (defined a))
  pub parts : IsAdapted a
  pub listed : text ≡ t.adapted_text a

-- words without a form read nothing, refuse nothing and take nothing for valid
pub record IsSilent (t : Task) : Type 0 where
  pub unread : t.reading ≡ false
  pub unrefused : (files : Files) (report : List ℕ) → t.Refuses files report → ⊥
  pub invalid : (files : Files) → t.IsValid files → ⊥

-- what words ask for is lawful: its output is never refused, nor are files that are valid for it, and what is noted and listed fits
pub record IsLawful (t : Task) : Type 0 where
  pub silent : (known : Forms) → t.no_form ≡ Some known → IsSilent t
  pub read : t.reading ≡ true → (left : Option (List ℕ)) → t.bundle left ≡ left
  pub quiet : (files : Files) (text notes : List ℕ) (adapted : Option Adapted) → t.Tells files text notes adapted → (notes ≡ [] → ⊥) → t.noting ≡ true
  pub value : (files : Files) (text notes : List ℕ) (a : Adapted) → t.Tells files text notes (Some a) → IsListed t files text a
  pub valued : (files : Files) (text notes : List ℕ) (adapted : Option Adapted) → t.adapting ≡ true → t.Tells files text notes adapted → IsSome adapted
  pub excluded : (bytes : List ℕ) (files others : Files) → IsRead bytes (Ok files) → IsRead bytes (Ok others)
      → (text notes report : List ℕ) (adapted : Option Adapted) → t.Tells others text notes adapted → t.Refuses files report → ⊥
  pub valid : (bytes : List ℕ) (files others : Files) → IsRead bytes (Ok files) → IsRead bytes (Ok others)
      → (report : List ℕ) → t.IsValid others → t.Refuses files report → ⊥

meaning-of : (left : Option (List ℕ)) (files : Files) (handed : List Path) (a : Adapted) → IsBundle left (Ok files) → Parses files handed (Ok (defined a)) → IsMeaning left handed (defined a)
meaning-of None files handed a r p = tt
meaning-of (Some bytes) files handed a r p = (files, r, p)

-- what reading the bytes left answers, where they are told
read-as : (left : Option (List ℕ)) (bytes : List ℕ) (files : Files) → left ≡ Some bytes → IsBundle left (Ok files) → IsRead bytes (Ok files)
read-as left bytes files e r = subst (λ l. IsBundle l (Ok files)) e r

read-bad : (left : Option (List ℕ)) (bytes : List ℕ) (e : BundleError) → left ≡ Some bytes → IsBundle left (Err e) → IsRead bytes (Err e)
read-bad left bytes e told r = subst (λ l. IsBundle l (Err e)) told r

-- ---- the value that is kept has what the output's value has

kept-if : (b : Bool) (adapted r : Option Adapted) (P : Adapted → Type 0) → r ≡ cond b adapted None → (b ≡ true → IfSome adapted P) → IfSome r P
kept-if true adapted r P e h = subst (λ o. IfSome o P) (sym e) (h refl)
kept-if false adapted r P e h = subst (λ o. IfSome o P) (sym e) tt

some-is : (Q : Type 0) (r : Option Adapted) → IsSome r → IfSome r (λ v. Q) → Q
some-is Q (Some a) i h = h
some-is Q None i h = absurd (cc)

-- each value of an output is listed in it
listed-in : (t : Task) → IsLawful t → (files : Files) (text notes : List ℕ) (adapted : Option Adapted) (P : Adapted → Type 0)
    → t.Tells files text notes adapted → ((a : Adapted) → IsListed t files text a → P a) → IfSome adapted P
listed-in t law files text notes None P o h = tt
listed-in t law files text notes (Some a) P o h = h a (law.value files text notes a o)

0-or-4 : (status : ℕ) → (status ≡ 0) ⊎ (status ≡ 4) → IsTold status → ⊥
0-or-4 status (inl z) t = t.0 z
0-or-4 status (inr f) t = t.1 f

-- what holds of an option that holds nothing
if-none : (adapted : Option Adapted) (P : Adapted → Type 0) → adapted ≡ None → IfSome adapted P
if-none adapted P e = subst (λ o. IfSome o P) (sym e) tt

none-some : {Q : Type 0} (adapted : Option Adapted) → adapted ≡ None → IsSome adapted → Q
none-some None e s = absurd (cc)
none-some (Some a) e s = absurd (cc)

no-rise : {Q : Type 0} (before now : ℕ) → now ≡ before → before < now → Q
no-rise before now e l = absurd (omega (arith, e, l))

-- ---- refusals

never-0 : (r : Refusal) → status_of r ≡ 0 → ⊥
never-0 (refusal.Usage known) e = absurd (cc)
never-0 refusal.Source e = absurd (cc)
never-0 (refusal.Bundle bundle.TooLong) e = absurd (cc)
never-0 (refusal.Bundle (bundle.NotUtf8 at)) e = absurd (cc)
never-0 (refusal.Bundle (bundle.BeforeFirst at)) e = absurd (cc)
never-0 (refusal.Bundle bundle.OutOfMemory) e = absurd (cc)
never-0 (refusal.Command report) e = absurd (cc)

refused-0 : {Q : Type 0} (r : Refusal) (status : ℕ) → IsRefused (status_of r) status → status ≡ 0 → Q
refused-0 r status (inl e) z = absurd (never-0 r (sym e ∙ z))
refused-0 r status (inr (inl e)) z = absurd (cc)
refused-0 r status (inr (inr e)) z = absurd (cc)

told-by : (r : Refusal) (status : ℕ) → IsRefused (status_of r) status → IsTold status → status ≡ status_of r
told-by r status (inl e) t = e
told-by r status (inr (inl e)) t = absurd (t.1 e)
told-by r status (inr (inr e)) t = absurd (t.2 e)

is-usage : (r : Refusal) (known : Forms) → ◌≡◌ {A = Result Output Stop} (Err (stop.Refused r)) (Err (stop.Refused (refusal.Usage known))) → IsUsage r
is-usage r known e = let same : r ≡ refusal.Usage known = cc in subst IsUsage (sym same) tt

module _ (i : RunInput) (law : IsLawful i.task) (status : ℕ) where
  bundle-refused : (r : Refusal) → Cause i r → IsRefused (status_of r) status → (bytes : List ℕ) (e : BundleError) → i.task.reading ≡ true → i.source.left ≡ Some bytes
      → IsCause e → IsRead bytes (Err e) → (BrokeOff i.source → ⊥) → IsRefused 6 status
  bundle-refused (refusal.Usage known) c s bytes e reads told cause bad none = let no : i.task.reading ≡ false = (law.silent known c.0).unread in absurd (cc)
  bundle-refused refusal.Source c s bytes e reads told cause bad none = absurd (none c.1)
  bundle-refused (refusal.Bundle b) c s bytes e reads told cause bad none = told-as-none b status c.2 s
  bundle-refused (refusal.Command report) c s bytes e reads told cause bad none =
      absurd (bundle-excluded bytes c.1 e (read-as (input_bytes i) bytes c.1 (law.read reads i.source.left ∙ told) c.2) cause bad)

  files-refused : (r : Refusal) → Cause i r → IsRefused (status_of r) status → (bytes : List ℕ) (files : Files) (report : List ℕ) → input_bytes i ≡ Some bytes
      → IsRead bytes (Ok files) → i.task.Refuses files report → (BrokeOff i.source → ⊥) → IsRefused 1 status
  files-refused (refusal.Usage known) c s bytes files report told read refuses none = absurd ((law.silent known c.0).unrefused files report refuses)
  files-refused refusal.Source c s bytes files report told read refuses none = absurd (none c.1)
  files-refused (refusal.Bundle b) c s bytes files report told read refuses none =
      absurd (bundle-excluded bytes files b read c.2 (read-bad (input_bytes i) bytes b told c.3))
  files-refused (refusal.Command why) c s bytes files report told read refuses none = s

  never-valid : (r : Refusal) → Cause i r → (bytes : List ℕ) (files : Files) → input_bytes i ≡ Some bytes → IsRead bytes (Ok files) → i.task.IsValid files
      → (BrokeOff i.source → ⊥) → ⊥
  never-valid (refusal.Usage known) c bytes files told read valid none = (law.silent known c.0).invalid files valid
  never-valid refusal.Source c bytes files told read valid none = none c.1
  never-valid (refusal.Bundle b) c bytes files told read valid none = bundle-excluded bytes files b read c.2 (read-bad (input_bytes i) bytes b told c.3)
  never-valid (refusal.Command report) c bytes files told read valid none =
      law.valid bytes c.1 files (read-as (input_bytes i) bytes c.1 told c.2) read report valid c.3

  source-failed : (r : Refusal) → Cause i r → IsRefused (status_of r) status → i.source.before < i.source.now → IsRefused 3 status
  source-failed (refusal.Usage known) c s l = no-rise i.source.before i.source.now c.1 l
  source-failed refusal.Source c s l = s
  source-failed (refusal.Bundle b) c s l = no-rise i.source.before i.source.now c.1 l
  source-failed (refusal.Command report) c s l = no-rise i.source.before i.source.now c.0 l

  module _ (text notes : List ℕ) (adapted r : Option Adapted) (x : IsAnswered i text notes adapted) (e : r ≡ (if status == 0 then adapted else None)) where
    kept : (P : Adapted → Type 0) → (status ≡ 0 → (a : Adapted) → IsListed i.task x.files text a → P a) → IfSome r P
    kept P h = kept-if (status == 0) adapted r P e (λ z. listed-in i.task law x.files text notes adapted P x.output (h (eqb-true status 0 z)))

    kept-done : status ≡ 0 → IsAnswered i text notes r
    kept-done z = subst (IsAnswered i text notes) (sym (e ∙ ap (λ b. cond b adapted None) (eq-eqb status 0 z))) x

    kept-listed : status ≡ 0 → i.task.adapting ≡ true → IsSome r
    kept-listed z f = let y = kept-done z in law.valued y.files text notes r f y.output

    kept-valued : IsSome r → (status ≡ 0) × (i.task.adapting ≡ true)
    kept-valued there = some-is ((status ≡ 0) × (i.task.adapting ≡ true)) r there (kept (λ v. (status ≡ 0) × (i.task.adapting ≡ true)) (λ z v l. (z, l.adapting)))

  module _ (adapted : Option Adapted) (out err : SinkSeen) (source_kept out_kept err_kept : Type 0) where
    -- where a sink failed, the output or its notes are unwritten, and notes are those of a command that notes
    failed-sink : (o : Output) → IsAnswered i o.text o.notes o.adapted → WroteOutput o status adapted out err err_kept → status ≡ 4
        → (Failed out → ⊥) → (i.task.noting ≡ true → Failed err → ⊥) → ⊥
    failed-sink o x w f none_out none_err = by-sink (w.unwritten f)
      where
        by-sink : (Failed out × (TookFront out o.text × (o.text ≡ [] → ⊥)) × err_kept) ⊎ (Failed err × TookFront err o.notes × (o.notes ≡ [] → ⊥) × Took out o.text) → ⊥
        by-sink (inl h) = none_out h.0
        by-sink (inr h) = none_err (law.quiet x.files o.text o.notes o.adapted x.output h.2) h.0

    finishes : (o : Output) → IsAnswered i o.text o.notes o.adapted → WroteOutput o status adapted out err err_kept → (status ≡ 0) ⊎ (status ≡ 4)
        → (Failed out → ⊥) → (i.task.noting ≡ true → Failed err → ⊥) → (status ≡ 0) ⊎ (status ≡ 5)
    finishes o x w (inl z) none_out none_err = inl z
    finishes o x w (inr f) none_out none_err = absurd (failed-sink o x w f none_out none_err)

    left-unwritten : (o : Output) → IsAnswered i o.text o.notes o.adapted
        → (Failed out × (TookFront out o.text × (o.text ≡ [] → ⊥)) × err_kept) ⊎ (Failed err × TookFront err o.notes × (o.notes ≡ [] → ⊥) × Took out o.text)
        → (Failed out × err_kept × (text : List ℕ) × (notes : List ℕ) × (a : Option Adapted) × IsAnswered i text notes a × (TookFront out text × (text ≡ [] → ⊥)))
        ⊎ (Failed err × (text : List ℕ) × (notes : List ℕ) × (a : Option Adapted) × (notes ≡ [] → ⊥) × IsAnswered i text notes a × Took out text × TookFront err notes)
        ⊎ (Failed err × out_kept × (r : Refusal) × Cause i r × TookFront err (text_of r))
    left-unwritten o x (inl (f, p, u)) = inl (f, u, o.text, o.notes, o.adapted, x, p)
    left-unwritten o x (inr (f, p, n, w)) = inr (inl (f, o.text, o.notes, o.adapted, n, x, w, p))

    -- with an output
    output-run : (o : Output) → IsPrepared i (Ok o) source_kept → IsWritten (Ok o) status adapted out err out_kept err_kept
        → IsRun i status adapted out err source_kept out_kept err_kept
    output-run o p w = let x : IsAnswered i o.text o.notes o.adapted = p.cause in let v : WroteOutput o status adapted out err err_kept = w.wrote in record {
      done = λ z. (o.text, o.notes, kept-done o.text o.notes o.adapted adapted x v.kept z, (v.done z).0, (v.done z).1, v.untouched);
      listing = kept o.text o.notes o.adapted adapted x v.kept (λ a. Took out (i.task.adapted_text a)) (λ z a l. subst (Took out) l.listed (v.done z).0);
      document = kept o.text o.notes o.adapted adapted x v.kept (λ a. IsMeaning (input_bytes i) i.task.adapted_paths (defined a))
          (λ z a l. meaning-of (input_bytes i) x.files i.task.adapted_paths a x.bundle l.meant);
      functions = kept o.text o.notes o.adapted adapted x v.kept (λ a. map entry_of a.functions ≡ map entry_for (all_functions (defined a))) (λ z a l. l.parts.functions);
      layouts = kept o.text o.notes o.adapted adapted x v.kept (λ a. a.layouts ≡ all_layouts (defined a)) (λ z a l. l.parts.layouts);
      faithful = kept o.text o.notes o.adapted adapted x v.kept (λ a. All IsFaithful a.functions) (λ z a l. l.parts.faithful);
      adapted = kept-valued o.text o.notes o.adapted adapted x v.kept;
      listed = kept-listed o.text o.notes o.adapted adapted x v.kept;
      usage = λ known h. let no : ◌≡◌ {A = Result Output Stop} (Ok o) (Err (stop.Refused (refusal.Usage known))) = p.usage known h in absurd (cc);
      nothing_read = p.nothing_read;
      told = λ t. absurd (0-or-4 status v.ended t);
      no_bundle = λ bytes e reads told cause bad none.
          absurd (bundle-excluded bytes x.files e (read-as (input_bytes i) bytes x.files (law.read reads i.source.left ∙ told) x.bundle) cause bad);
      refused = λ bytes files report told read refuses none.
          absurd (law.excluded bytes files x.files read (read-as (input_bytes i) bytes x.files told x.bundle) o.text o.notes report o.adapted x.output refuses);
      complete = λ bytes files told read valid none none_out none_err. finishes o x v v.ended none_out none_err;
      unrefused = λ none none_out none_err. finishes o x v v.ended none_out none_err;
      unwritten = λ f. left-unwritten o x (v.unwritten f);
      source_failed = λ l. no-rise i.source.before i.source.now x.no_fault l;
      out_failed = w.out_failed;
      err_failed = w.err_failed;
      no_memory = w.no_memory;
      source_later = p.later;
      out_later = w.out_later;
      err_later = w.err_later;
      reads = p.reads;
      taken = p.taken;
    }

    -- with a refusal
    refusal-run : (r : Refusal) → IsPrepared i (Err (stop.Refused r)) source_kept → IsWritten (Err (stop.Refused r)) status adapted out err out_kept err_kept
        → IsRun i status adapted out err source_kept out_kept err_kept
    refusal-run r p w = let c : Cause i r = p.cause in let v : WroteRefusal r status adapted err out_kept = w.wrote in record {
      done = λ z. refused-0 r status v.ended z;
      listing = if-none adapted (λ a. Took out (i.task.adapted_text a)) v.none;
      document = if-none adapted (λ a. IsMeaning (input_bytes i) i.task.adapted_paths (defined a)) v.none;
      functions = if-none adapted (λ a. map entry_of a.functions ≡ map entry_for (all_functions (defined a))) v.none;
      layouts = if-none adapted (λ a. a.layouts ≡ all_layouts (defined a)) v.none;
      faithful = if-none adapted (λ a. All IsFaithful a.functions) v.none;
      adapted = λ there. none-some adapted v.none there;
      listed = λ z f. refused-0 r status v.ended z;
      usage = λ known h. v.usage (is-usage r known (p.usage known h));
      nothing_read = p.nothing_read;
      told = λ t. let s = told-by r status v.ended t in (r, sym s, c, v.told s, v.untouched);
      no_bundle = λ bytes e reads told cause bad none. bundle-refused r c v.ended bytes e reads told cause bad none;
      refused = λ bytes files report told read refuses none. files-refused r c v.ended bytes files report told read refuses none;
      complete = λ bytes files told read valid none none_out none_err. absurd (never-valid r c bytes files told read valid none);
      unrefused = λ none none_out none_err. absurd (none r c);
      unwritten = λ f. inr (inr ((v.unwritten f).0, v.untouched, r, c, (v.unwritten f).1));
      source_failed = λ l. source-failed r c v.ended l;
      out_failed = w.out_failed;
      err_failed = w.err_failed;
      no_memory = w.no_memory;
      source_later = p.later;
      out_later = w.out_later;
      err_later = w.err_later;
      reads = p.reads;
      taken = p.taken;
    }

    five-not : {Q : Type 0} (n : ℕ) → status ≡ 5 → status ≡ n → (5 ≡ n → ⊥) → Q
    five-not n f s none = absurd (none (sym f ∙ s))

    -- without memory
    memory-run : IsPrepared i (Err stop.OutOfMemory) source_kept → IsWritten (Err stop.OutOfMemory) status adapted out err out_kept err_kept
        → IsRun i status adapted out err source_kept out_kept err_kept
    memory-run p w = let n : NoFault i.source = p.cause in let v : WroteNothing status adapted out_kept err_kept = w.wrote in record {
      done = λ z. five-not 0 v.ended z (λ e. cc);
      listing = if-none adapted (λ a. Took out (i.task.adapted_text a)) v.none;
      document = if-none adapted (λ a. IsMeaning (input_bytes i) i.task.adapted_paths (defined a)) v.none;
      functions = if-none adapted (λ a. map entry_of a.functions ≡ map entry_for (all_functions (defined a))) v.none;
      layouts = if-none adapted (λ a. a.layouts ≡ all_layouts (defined a)) v.none;
      faithful = if-none adapted (λ a. All IsFaithful a.functions) v.none;
      adapted = λ there. none-some adapted v.none there;
      listed = λ z f. five-not 0 v.ended z (λ e. cc);
      usage = λ known h. let no : ◌≡◌ {A = Result Output Stop} (Err stop.OutOfMemory) (Err (stop.Refused (refusal.Usage known))) = p.usage known h in absurd (cc);
      nothing_read = p.nothing_read;
      told = λ t. absurd (t.2 v.ended);
      no_bundle = λ bytes e reads told cause bad none. inr (inr v.ended);
      refused = λ bytes files report told read refuses none. inr (inr v.ended);
      complete = λ bytes files told read valid none none_out none_err. inr v.ended;
      unrefused = λ none none_out none_err. inr v.ended;
      unwritten = λ f. five-not 4 v.ended f (λ e. cc);
      source_failed = λ l. no-rise i.source.before i.source.now n l;
      out_failed = w.out_failed;
      err_failed = w.err_failed;
      no_memory = w.no_memory;
      source_later = p.later;
      out_later = w.out_later;
      err_later = w.err_later;
      reads = p.reads;
      taken = p.taken;
    }

    -- THE END of any run
    pub ends : (answer : Result Output Stop) → IsPrepared i answer source_kept → IsWritten answer status adapted out err out_kept err_kept
        → IsRun i status adapted out err source_kept out_kept err_kept
    ends (Ok o) p w = output-run o p w
    ends (Err (stop.Refused r)) p w = refusal-run r p w
    ends (Err stop.OutOfMemory) p w = memory-run p w

-- what it says of devices that weren't touched may say less
pub untouched-as : (i : RunInput) (status : ℕ) (adapted : Option Adapted) (out err : SinkSeen) (source_kept out_kept err_kept source_is out_is err_is : Type 0)
    → (source_kept → source_is) → (out_kept → out_is) → (err_kept → err_is) → IsRun i status adapted out err source_kept out_kept err_kept
    → IsRun i status adapted out err source_is out_is err_is
untouched-as i status adapted out err source_kept out_kept err_kept source_is out_is err_is s o e h = record {
  done = λ z. let d = h.done z in (d.0, d.1, d.2, d.3, d.4, λ n. e (d.5 n));
  listing = h.listing;
  document = h.document;
  functions = h.functions;
  layouts = h.layouts;
  faithful = h.faithful;
  adapted = h.adapted;
  listed = h.listed;
  usage = h.usage;
  nothing_read = λ n. s (h.nothing_read n);
  told = λ t. let d = h.told t in (d.0, d.1, d.2, d.3, o d.4);
  no_bundle = h.no_bundle;
  refused = h.refused;
  complete = h.complete;
  unrefused = h.unrefused;
  unwritten = λ f. by-way (h.unwritten f);
  source_failed = h.source_failed;
  out_failed = h.out_failed;
  err_failed = h.err_failed;
  no_memory = λ f. let d = h.no_memory f in (o d.0, e d.1);
  source_later = h.source_later;
  out_later = h.out_later;
  err_later = h.err_later;
  reads = h.reads;
  taken = h.taken;
}
  where
    by-way : (Failed out × err_kept × (text : List ℕ) × (notes : List ℕ) × (a : Option Adapted) × IsAnswered i text notes a × (TookFront out text × (text ≡ [] → ⊥)))
        ⊎ (Failed err × (text : List ℕ) × (notes : List ℕ) × (a : Option Adapted) × (notes ≡ [] → ⊥) × IsAnswered i text notes a × Took out text × TookFront err notes)
        ⊎ (Failed err × out_kept × (r : Refusal) × Cause i r × TookFront err (text_of r))
        → (Failed out × err_is × (text : List ℕ) × (notes : List ℕ) × (a : Option Adapted) × IsAnswered i text notes a × (TookFront out text × (text ≡ [] → ⊥)))
        ⊎ (Failed err × (text : List ℕ) × (notes : List ℕ) × (a : Option Adapted) × (notes ≡ [] → ⊥) × IsAnswered i text notes a × Took out text × TookFront err notes)
        ⊎ (Failed err × out_is × (r : Refusal) × Cause i r × TookFront err (text_of r))
    by-way (inl p) = inl (p.0, e p.1, p.2, p.3, p.4, p.5, p.6)
    by-way (inr (inl p)) = inr (inl p)
    by-way (inr (inr p)) = inr (inr (p.0, o p.1, p.2, p.3, p.4))
