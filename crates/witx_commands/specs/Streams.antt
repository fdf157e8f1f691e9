-- What a run takes from its source and gives to a sink, where these tell their bytes.
use Rattle.std.specs.Prelude.{◌≡◌, ℕ, ◌+◌, ◌≤◌, List, [], ◌++◌, length, Option, None, Some}
use Rattle.std.specs.Io.KnownBytes.{Appends, Consumes, IsAtEnd}
use Rattle.witx_base.specs.Causes.{Rose}
use Rattle.witx_bundle.specs.declared.bundle.TheConstants.{LONGEST_BUNDLE}

-- A source before and after it is read: which bytes it had left and has left, where it tells them, its count of faults before and
-- now, and how often it had been asked and has been.
pub record SourceSeen : Type 0 where
  pub left : Option (List ℕ)
  pub left_after : Option (List ℕ)
  pub before : ℕ
  pub now : ℕ
  pub asked : ℕ
  pub asked_after : ℕ

-- by what is told of it
abbrev pub source_seen : {S : Type 0} → (S → Option (List ℕ)) → (faults reads : S → ℕ) → (old new : S) → SourceSeen
source_seen left faults reads old new = record {
  left = left old;
  left_after = left new;
  before = faults old;
  now = faults new;
  asked = reads old;
  asked_after = reads new;
}

-- Its count of faults is as it was.
abbrev pub NoFault : SourceSeen → Type 0
NoFault s = s.now ≡ s.before

-- At most so many bytes were taken from the front of what was left, in at most one read more than bytes. Of a source that gives one
-- byte a read this says that each read but the last gave one: none came behind the end, or behind the last of these bytes.
pub record TookAtMost (most : ℕ) (s : SourceSeen) : Type 0 where
  pub bytes : List ℕ
  pub taken : Consumes s.left s.left_after bytes
  pub bounded : length bytes ≤ most
  pub each : s.asked_after ≤ s.asked + length bytes + 1

-- No more was taken than says whether a bundle is too long: one byte more than it may have.
abbrev pub TookInput : SourceSeen → Type 0
TookInput s = TookAtMost (LONGEST_BUNDLE + 1) s

-- so between two states of a source
abbrev pub TakesInput : {S : Type 0} → (S → Option (List ℕ)) → (faults reads : S → ℕ) → (old new : S) → Type 0
TakesInput left faults reads old new = TookInput (source_seen left faults reads old new)

-- The source failed when at most so many bytes had been taken.
abbrev pub FailedWithin : ℕ → SourceSeen → Type 0
FailedWithin most s = Rose s.before s.now × TookAtMost most s

-- THE READING BROKE OFF: the source failed before it was over, with no more bytes taken than a bundle may have.
abbrev pub BrokeOff : SourceSeen → Type 0
BrokeOff s = FailedWithin LONGEST_BUNDLE s

-- These are all bytes that were left.
abbrev pub IsAll : Option (List ℕ) → List ℕ → Type 0
IsAll None bytes = Unit {0}
IsAll (Some left) bytes = bytes ≡ left

-- A run takes its input from the front of what is left: all of it, or one byte more than a bundle may have.
pub record IsInput (before after : Option (List ℕ)) (bytes : List ℕ) : Type 0 where
  pub taken : Consumes before after bytes
  pub whole : length bytes ≤ LONGEST_BUNDLE → IsAll before bytes
  pub bounded : length bytes ≤ LONGEST_BUNDLE + 1

-- Nothing is left, where the bytes left are told.
abbrev pub Finished : Option (List ℕ) → Option (List ℕ) → Type 0
Finished None after = Unit {0}
Finished (Some left) after = after ≡ Some []

-- One read put n bytes, which stood at the front of what was left, behind the bytes read so far; none only at the end.
pub record TakesMore (before after : Option (List ℕ)) (old new : List ℕ) (n : ℕ) : Type 0 where
  pub more : List ℕ
  pub joined : new ≡ old ++ more
  pub count : length new ≡ length old + n
  pub taken : Consumes before after more
  pub end : n ≡ 0 → IsAtEnd before

-- A sink took a prefix of a text, and nothing else.
abbrev pub TookPrefix : Option (List ℕ) → Option (List ℕ) → List ℕ → Type 0
TookPrefix before after text = (front : List ℕ) × (rest : List ℕ) × (text ≡ front ++ rest) × Appends before after front
