-- What is so of a run over words and an input in memory: its status, its text, which the program writes on standard output, and
-- its notes, which it writes on standard error. It is what the top call says of any run, over a source that tells its bytes and
-- never fails, and over sinks that fail for nothing but want of memory.
use Rattle.std.specs.Prelude.{◌≡◌, ◌⊎◌, ℕ, List, [], ◌++◌, length, take, drop, Option, Some}
use Rattle.std.specs.Str.{IsUtf8}
use Rattle.witx_adapt.specs.declared.adapted.Adapted.{Adapted}
use Rattle.witx_commands.specs.Runs.{IsRun, RunInput, SinkSeen}
use Rattle.witx_commands.specs.Streams.{SourceSeen}
use Rattle.witx_tools.specs.ToolRuns.{task_of_all}
use Rattle.witx_c.specs.Words.{words_between_zeros}

-- the words of a call: none where its bytes aren't UTF-8
abbrev pub AreWords : List ℕ → List (List ℕ) → Type 0
AreWords bytes words = (IsUtf8 bytes × (words ≡ words_between_zeros bytes)) ⊎ ((IsUtf8 bytes → ⊥) × (words ≡ []))

-- as much of a text as fits over the front of a buffer
abbrev pub over_front : List ℕ → List ℕ → List ℕ
over_front text buffer = take (length buffer) text ++ drop (length text) buffer

-- a source over an input in memory, which never fails: what a run left of the input, and how often it asked for some
abbrev pub source_over : List ℕ → Option (List ℕ) → ℕ → SourceSeen
source_over input after asked = record { left = Some input; left_after = after; before = 0; now = 0; asked = 0; asked_after = asked }

-- what a run is given: words, and such a source
abbrev pub run_over : List (List ℕ) → SourceSeen → RunInput
run_over words source = record { task = task_of_all words; source = source }

-- a sink that had taken nothing, and that took this text
abbrev pub wrote : List ℕ → SinkSeen
wrote text = record { taken = Some []; taken_after = Some text; before = 0; now = 0 }

-- A run of the program's top call over such devices, whose texts were all written whole.
pub record RunsOver (words : List (List ℕ)) (input : List ℕ) (status : ℕ) (text notes : List ℕ) : Type 0 where
  pub after : Option (List ℕ)
  pub asked : ℕ
  pub adapted : Option Adapted
  pub run : IsRun (run_over words (source_over input after asked)) status adapted (wrote text) (wrote notes)
      (asked ≡ 0) (text ≡ []) (notes ≡ [])
  -- statuses 3 and 4, those of a source that failed and of a text that couldn't be written, don't come
  pub no_other : (status ≡ 3 → ⊥) × (status ≡ 4 → ⊥)

-- THE RUN: such a one, or there was no memory, and nothing is written
abbrev pub IsRunInMemory : (words : List (List ℕ)) → (input : List ℕ) → (status : ℕ) → (text notes : List ℕ) → Type 0
IsRunInMemory words input status text notes =
    ((status ≡ 5) × (text ≡ []) × (notes ≡ [])) ⊎ RunsOver words input status text notes
