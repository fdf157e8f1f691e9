-- What holds of each sample that can be made: its bytes are a bundle, whose files are valid for the command, so that none of the
-- refusals has its cause in a run with the words of a sample; and where such a run is answered, its text is the summary with the sample's numbers.
use Rattle.std.specs.Prelude.{◌≡◌, ℕ, ◌+◌, ◌*◌, List, [], ◌++◌, true, Option, Some, Ok, codes}
use Rattle.std.specs.Fmt.{decimal}
use Rattle.witx_files.specs.Files.{Files}
use Rattle.witx_bundle.specs.Bundles.{IsRead}
use Rattle.witx_adapt.specs.declared.adapted.Adapted.{Adapted}
use Rattle.witx_sample.specs.Samples.{is_size, sample_text}
use Rattle.witx_commands.specs.Words as asked
use Rattle.witx_commands.specs.declared.refusal.Refusal.{Refusal}
use Rattle.witx_commands.specs.Words.{command_of}
use Rattle.witx_commands.specs.declared.forms.Forms.{Forms}
use Rattle.witx_commands.specs.Causes.{IsValidFor}
use Rattle.witx_commands.specs.Runs.{Cause, IsAnswered, RunInput, command_task}
use Rattle.witx_commands.specs.Streams.{SourceSeen}

-- its bytes are a bundle
abbrev pub SamplesAreBundles : Type 0
SamplesAreBundles = (n : ℕ) → is_size n ≡ true → (files : Files) × IsRead (sample_text n) (Ok files)

-- the files of that bundle mean a document that can be adapted
abbrev pub SamplesAreValid : Type 0
SamplesAreValid = (n : ℕ) → is_size n ≡ true → (files : Files) → IsRead (sample_text n) (Ok files) → IsValidFor (asked.sample n) files

-- words that have the form of a sample name one that can be made
abbrev pub SampleWordsHaveASize : Type 0
SampleWordsHaveASize = (known : Forms) (words : List (List ℕ)) (n : ℕ) → command_of known words ≡ Some (asked.sample n) → is_size n ≡ true

-- what a run of such a command is given
abbrev pub sample_input : ℕ → SourceSeen → RunInput
sample_input n source = record { task = command_task (asked.sample n); source = source }

-- in it no refusal has its cause
abbrev pub SamplesAreNotRefused : Type 0
SamplesAreNotRefused = (source : SourceSeen) (n : ℕ) → is_size n ≡ true → (r : Refusal) → Cause (sample_input n source) r → ⊥

-- the summary: 2n + 1 typenames, n functions, 42n events and 40n + 2 bytes
abbrev pub sample_summary : ℕ → List ℕ
sample_summary n =
    codes "typenames " ++ decimal (2 * n + 1) ++ codes "\nfunctions " ++ decimal n
    ++ codes "\nevents " ++ decimal (42 * n) ++ codes "\nbytes " ++ decimal (40 * n + 2) ++ codes "\n"

-- where such a run is answered, this is its text
abbrev pub SamplesAreSummedUp : Type 0
SamplesAreSummedUp = (source : SourceSeen) (n : ℕ) → is_size n ≡ true
    → (text notes : List ℕ) (adapted : Option Adapted) → IsAnswered (sample_input n source) text notes adapted
    → (text ≡ sample_summary n) × (notes ≡ [])
