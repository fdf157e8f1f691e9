-- The laws of samples, of what their bundles mean.
use Rattle.std.proofs.Common.{◌≡◌, ℕ, ◌+◌, ◌*◌, ◌≤◌, Bool, true, false, nat_le, if◌then◌else◌, List, [], ◌∷◌, ◌++◌, length, map, sum_by, Option, Some, None, Result, Ok, refl, ap, ◌∙◌, subst, arith, codes, decimal}
use Rattle.std.specs.Prelude.{IfSome}
use Rattle.std.specs.Str.Parse.{digits_value}
use Rattle.std.proofs.lemmas.Bool.{and_parts, leb-true}
use Rattle.std.proofs.lemmas.List.{length-map}
use Rattle.witx_base.specs.Paths.{Path}
use Rattle.witx_base.specs.Texts.{same_text}
use Rattle.witx_files.specs.Files.{Files, Aliases}
use Rattle.witx_bundle.specs.Bundles.{IsRead}
use Rattle.witx_ast.specs.Definitions.{DefinitionTree}
use Rattle.witx_layout.specs.declared.layout.SizeAlign.{SizeAlign}
use Rattle.witx_layout.specs.Layouts.{all_layouts}
use Rattle.witx_instructions.specs.Views.{event_of}
use Rattle.witx_adapt.specs.declared.adapted.Adapted.{Adapted}
use Rattle.witx_adapt.specs.declared.adapted.AdaptedFunc.{AdaptedFunc}
use Rattle.witx_adapt.specs.Entries.{all_functions, entry_for, entry_of}
use Rattle.witx_walk.specs.Meaning.{world, MeansDocument}
use Rattle.witx_walk.specs.Answers.{OneAnswer}
use Rattle.witx_sample.specs.Samples.{is_size, sample_path, sample_text}
use Rattle.witx_sample.specs.Summaries.{event_count, size_in_bytes, summary_text}
use Rattle.witx_commands.specs.declared.forms.Forms.{Forms}
use Rattle.witx_commands.specs.declared.refusal.Refusal.TheVariants as refusal
use Rattle.witx_commands.specs.Words as asked
use Rattle.witx_commands.specs.Words.{Asked, asked_of, if_known, is_known, is_printed_size}
use Rattle.witx_commands.proofs.Reading.{OfSample, asked-sample}
use Rattle.witx_commands.specs.Adapting.{IsAdapted, IsParsedDocument, Parses, defined}
use Rattle.witx_commands.specs.Laws.{ValidIsNotRefused}
use Rattle.witx_commands.specs.Causes.{IsAdaptedText, IsOutput}
use Rattle.witx_sample_laws.specs.SampleLaws.{SamplesAreBundles, SamplesAreValid, SampleWordsHaveASize, SamplesAreNotRefused, SamplesAreSummedUp, sample_summary}
use Rattle.witx_sample_laws.proofs.Counts.{IsSample, sample_adaptable, sample_layouts}
use Rattle.witx_sample_laws.proofs.SampleFiles.{sample_read}
use Rattle.witx_sample_laws.proofs.Meaning.{SampleMeant, sample_meant}
use Rattle.witx_sample_laws.proofs.Numbers.{functions_counted}

few : (n : ℕ) → is_size n ≡ true → n ≤ 4096
few n e = leb-true n 4096 (and_parts (nat_le 1 n) (nat_le n 4096) e).1

same_files : (files fs : Files) → Some files ≡ Some fs → files ≡ fs
same_files files fs e = cc

same_aliases : (as_ bs : Aliases) → Some as_ ≡ Some bs → as_ ≡ bs
same_aliases as_ bs e = cc

-- what they mean is what parsing them answers
parsed : (n : ℕ) (files : Files) (m : SampleMeant n files) → Parses files (sample_path ∷ []) (Ok m.definitions)
unfolding IsParsedDocument
parsed n files m fs links reading e f is = (
  refl,
  subst (λ (bs : Aliases). MeansDocument (world fs bs reading) (sample_path ∷ []) m.definitions) (same_aliases [] links f)
      (subst (λ (gs : Files). MeansDocument (world gs [] reading) (sample_path ∷ []) m.definitions) (same_files files fs e) (m.meant reading is)),
)

pub samples-are-bundles : SamplesAreBundles
samples-are-bundles n e = sample_read n (few n e)

pub samples-are-valid : SamplesAreValid
samples-are-valid n e files r =
    let m = sample_meant n (few n e) files r in
    (m.definitions, parsed n files m, sample_adaptable n m.definitions m.sample)

-- ---- words

-- a word that is read as a number has its size
printed_size : (word : List ℕ) → is_printed_size word ≡ true → is_size (digits_value 10 word) ≡ true
printed_size word h = (and_parts (is_size (digits_value 10 word)) (same_text word (decimal (digits_value 10 word))) h).0

kept_size : (t : Bool) (c : Asked) (n : ℕ) → OfSample (λ m. is_size m ≡ true) c → (if t then Some c else None) ≡ Some (asked.sample n) → is_size n ≡ true
kept_size true c n h e = let same : c ≡ asked.sample n = cc in subst (OfSample (λ m. is_size m ≡ true)) same h
kept_size false c n h e = absurd (cc)

known_size : (known : Forms) (o : Option Asked) (n : ℕ) → IfSome o (OfSample (λ m. is_size m ≡ true)) → if_known known o ≡ Some (asked.sample n) → is_size n ≡ true
known_size known None n h e = absurd (cc)
known_size known (Some c) n h e = kept_size (is_known known c) c n h e

pub words-have-a-size : SampleWordsHaveASize
words-have-a-size known words n e = known_size known (asked_of words) n (asked-sample (λ m. is_size m ≡ true) printed_size words) e

-- ---- refusals

no_true : false ≡ true → ⊥
no_true e = cc

pub samples-are-not-refused : ValidIsNotRefused → SamplesAreNotRefused
samples-are-not-refused law source n s (refusal.Usage known) c = let none : None ≡ Some known = c.0 in absurd (cc)
samples-are-not-refused law source n s refusal.Source c = no_true c.0
samples-are-not-refused law source n s (refusal.Bundle b) c = no_true c.0
samples-are-not-refused law source n s (refusal.Command report) c =
    law (sample_text n) c.1 c.1 c.2 c.2 (asked.sample n) report (samples-are-valid n s c.1 c.2) c.3

-- ---- the summary

abbrev numbered : (t f e b : ℕ) → List ℕ
numbered t f e b = codes "typenames " ++ decimal t ++ codes "\nfunctions " ++ decimal f ++ codes "\nevents " ++ decimal e ++ codes "\nbytes " ++ decimal b ++ codes "\n"

events_seen : (f : AdaptedFunc) → event_count f ≡ length (entry_of f).lowered.caller + length (entry_of f).lowered.callee
events_seen f = omega (arith, length-map f.caller.events event_of, length-map f.callee.events event_of)

summed_up : (n : ℕ) (a : Adapted) (ds : List DefinitionTree) → IsSample n ds → defined a ≡ ds → IsAdapted a → summary_text a ≡ sample_summary n
unfolding summary_text
summed_up n a ds s d h =
    let ls = sample_layouts n ds s in
    let layouts : a.layouts ≡ all_layouts ds = h.layouts ∙ ap (λ (l : List DefinitionTree). all_layouts l) d in
    let fs = functions_counted n ds entry_of event_count a.functions s (h.functions ∙ ap (λ (l : List DefinitionTree). map entry_for (all_functions l)) d) events_seen in
    ap (λ (x : ℕ). numbered x (length a.functions) (sum_by event_count a.functions) (sum_by size_in_bytes a.layouts)) (ap (λ (l : List SizeAlign). length l) layouts ∙ ls.0)
    ∙ (ap (λ (x : ℕ). numbered (2 * n + 1) x (sum_by event_count a.functions) (sum_by size_in_bytes a.layouts)) fs.0
    ∙ (ap (λ (x : ℕ). numbered (2 * n + 1) n x (sum_by size_in_bytes a.layouts)) fs.1
    ∙ ap (λ (x : ℕ). numbered (2 * n + 1) n (42 * n) x) (ap (λ (l : List SizeAlign). sum_by size_in_bytes l) layouts ∙ ls.1)))

same_ok : {E : Type 0} (xs ys : List DefinitionTree) → ◌≡◌ {A = Result (List DefinitionTree) E} (Ok xs) (Ok ys) → xs ≡ ys
same_ok xs ys e = cc

one_meaning : OneAnswer → (files : Files) (handed : List Path) (xs ys : List DefinitionTree) → Parses files handed (Ok xs) → Parses files handed (Ok ys) → xs ≡ ys
unfolding IsParsedDocument
one_meaning law files handed xs ys p q = same_ok xs ys (law files [] handed 0 0 0 0 (Ok xs) (Ok ys) (Ok xs) (Ok ys) p q refl refl)

text_summed : OneAnswer → (n : ℕ) → is_size n ≡ true → (files : Files) → IsRead (sample_text n) (Ok files) → (text : List ℕ) (adapted : Option Adapted)
    → IsAdaptedText summary_text files (sample_path ∷ []) text adapted → text ≡ sample_summary n
text_summed law n e files r text None o = absurd o
text_summed law n e files r text (Some a) o =
    let m = sample_meant n (few n e) files r in
    o.2 ∙ summed_up n a m.definitions m.sample (one_meaning law files (sample_path ∷ []) (defined a) m.definitions o.0 (parsed n files m)) o.1

pub samples-are-summed-up : OneAnswer → SamplesAreSummedUp
unfolding IsOutput
samples-are-summed-up law source n s text notes adapted h =
    let output : IsOutput (asked.sample n) h.files text notes adapted = h.output in
    (text_summed law n s h.files h.bundle text adapted output.1, output.0)
