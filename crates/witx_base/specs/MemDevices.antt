-- A source and a sink in memory, call by call: how many bytes a call moves, and what it leaves.
use Rattle.std.specs.Prelude.{ℕ, ◌-◌, List, ◌++◌, length, take, drop, min, Bool, ◌||◌, ◌==◌, if◌then◌else◌}
use Rattle.witx_base.specs.Calls.{CallCount, fails_next, counted}

-- a source: the bytes left, at most how many a call gives, and its calls
pub record SourceState : Type 0 where
  pub left : List ℕ
  pub gives : ℕ
  pub calls : CallCount

-- how many bytes a read into a buffer of `room` bytes moves: none where the call fails
abbrev pub bytes_given : SourceState → ℕ → ℕ
bytes_given source room = (if fails_next source.calls then 0 else min (min (length source.left) room) source.gives)

-- the source after that read
abbrev pub after_read : SourceState → ℕ → SourceState
after_read source room = record source { left = drop (bytes_given source room) source.left; calls = counted (fails_next source.calls) source.calls }

-- a sink: the bytes taken, how many it can take in all and at most in one call, and its calls
pub record SinkState : Type 0 where
  pub bytes : List ℕ
  pub room : ℕ
  pub takes : ℕ
  pub calls : CallCount

-- a write fails where its call is listed and where the sink is full
abbrev pub fails_write : SinkState → Bool
fails_write sink = fails_next sink.calls || length sink.bytes == sink.room

-- how many bytes a write of a piece of `size` bytes takes: none where the call fails
abbrev pub bytes_accepted : SinkState → ℕ → ℕ
bytes_accepted sink size = (if fails_write sink then 0 else min (min size (sink.room - length sink.bytes)) sink.takes)

-- the sink after that write
abbrev pub after_write : SinkState → List ℕ → SinkState
after_write sink piece = record sink { bytes = sink.bytes ++ take (bytes_accepted sink (length piece)) piece; calls = counted (fails_write sink) sink.calls }
