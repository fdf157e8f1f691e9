-- Worked examples of the definitions, each by computing.
use Rattle.std.specs.Prelude.{◌≡◌, ℕ, List, [], ◌∷◌, Some, None, true, false, refl, codes}
use Rattle.std.specs.Ordering.{nat_cmp}
use Rattle.std.specs.Cmp.Lexicographic.{slice_cmp}
use Rattle.std.specs.BTreeMap.{insert_entry}
use Rattle.witx_base.specs.Calls.{counted, fails_next, no_calls}
use Rattle.witx_base.specs.Causes.{one_more}
use Rattle.witx_base.specs.Found.{found}
use Rattle.witx_base.specs.MemDevices.{SourceState, SinkState, after_read, after_write, fails_write, bytes_given}
use Rattle.witx_base.specs.Paths.{file_name, join, parent, path_of, path_text}

-- ---- paths: components

reads-root : path_of (codes "/") ≡ codes "/" ∷ []
unfolding path_of
reads-root = refl

reads-slashes : path_of (codes "//") ≡ codes "/" ∷ []
unfolding path_of
reads-slashes = refl

reads-empty : path_of [] ≡ []
unfolding path_of
reads-empty = refl

reads-dot : path_of (codes ".") ≡ codes "." ∷ []
unfolding path_of
reads-dot = refl

reads-dot-first : path_of (codes "./a") ≡ codes "." ∷ codes "a" ∷ []
unfolding path_of
reads-dot-first = refl

reads-dot-behind : path_of (codes "a/.") ≡ codes "a" ∷ []
unfolding path_of
reads-dot-behind = refl

reads-dot-behind-dot : path_of (codes "././a") ≡ codes "." ∷ codes "a" ∷ []
unfolding path_of
reads-dot-behind-dot = refl

reads-dot-absolute : path_of (codes "/./a") ≡ codes "/" ∷ codes "a" ∷ []
unfolding path_of
reads-dot-absolute = refl

reads-above : path_of (codes "a/..") ≡ codes "a" ∷ codes ".." ∷ []
unfolding path_of
reads-above = refl

reads-above-absolute : path_of (codes "/d/../x") ≡ codes "/" ∷ codes "d" ∷ codes ".." ∷ codes "x" ∷ []
unfolding path_of
reads-above-absolute = refl

reads-empty-part : path_of (codes "a//b/") ≡ codes "a" ∷ codes "b" ∷ []
unfolding path_of
reads-empty-part = refl

-- ---- paths: as a text

writes-absolute : path_text (codes "/" ∷ codes "a" ∷ codes "b" ∷ []) ≡ codes "/a/b"
writes-absolute = refl

writes-relative : path_text (codes "." ∷ codes "a" ∷ []) ≡ codes "./a"
writes-relative = refl

writes-root : path_text (codes "/" ∷ []) ≡ codes "/"
writes-root = refl

writes-empty : path_text [] ≡ []
writes-empty = refl

-- ---- paths: parents and file names

parent-of-root : parent (codes "/" ∷ []) ≡ None
parent-of-root = refl

parent-of-empty : parent [] ≡ None
parent-of-empty = refl

parent-of-name : parent (codes "a" ∷ []) ≡ Some []
parent-of-name = refl

parent-below-root : parent (codes "/" ∷ codes "a" ∷ []) ≡ Some (codes "/" ∷ [])
parent-below-root = refl

parent-of-above : parent (codes "a" ∷ codes ".." ∷ []) ≡ Some (codes "a" ∷ [])
parent-of-above = refl

named : file_name (codes "/" ∷ codes "a.witx" ∷ []) ≡ Some (codes "a.witx")
named = refl

unnamed-root : file_name (codes "/" ∷ []) ≡ None
unnamed-root = refl

unnamed-dot : file_name (codes "." ∷ []) ≡ None
unnamed-dot = refl

unnamed-above : file_name (codes "a" ∷ codes ".." ∷ []) ≡ None
unnamed-above = refl

unnamed-empty : file_name [] ≡ None
unnamed-empty = refl

named-dots : file_name (codes "..." ∷ []) ≡ Some (codes "...")
named-dots = refl

-- ---- paths: joining

joins-name : join (codes "d" ∷ []) (codes "x" ∷ []) ≡ codes "d" ∷ codes "x" ∷ []
unfolding join
joins-name = refl

joins-dot : join (codes "d" ∷ []) (codes "." ∷ codes "x" ∷ []) ≡ codes "d" ∷ codes "x" ∷ []
unfolding join
joins-dot = refl

joins-dot-to-empty : join [] (codes "." ∷ codes "x" ∷ []) ≡ codes "." ∷ codes "x" ∷ []
unfolding join
joins-dot-to-empty = refl

joins-above : join (codes "/" ∷ codes "d" ∷ []) (codes ".." ∷ codes "x" ∷ []) ≡ codes "/" ∷ codes "d" ∷ codes ".." ∷ codes "x" ∷ []
unfolding join
joins-above = refl

joins-absolute : join (codes "d" ∷ []) (codes "/" ∷ codes "x" ∷ []) ≡ codes "/" ∷ codes "x" ∷ []
unfolding join
joins-absolute = refl

joins-empty : join (codes "d" ∷ []) [] ≡ codes "d" ∷ []
unfolding join
joins-empty = refl

-- ---- maps: a new name goes to its place, and a name that is there takes the new value

two : List (List ℕ × ℕ)
two = insert_entry (slice_cmp nat_cmp) (insert_entry (slice_cmp nat_cmp) [] (codes "b") 1) (codes "a") 2

puts-in-order : two ≡ (codes "a", 2) ∷ (codes "b", 1) ∷ []
unfolding two
puts-in-order = refl

puts-again : insert_entry (slice_cmp nat_cmp) two (codes "b") 3 ≡ (codes "a", 2) ∷ (codes "b", 3) ∷ []
unfolding two
puts-again = refl

finds : found two (codes "a") ≡ Some 2
unfolding two
finds = refl

finds-nothing : found two (codes "ab") ≡ None
unfolding two
finds-nothing = refl

-- ---- counts

counts-up : one_more 4 ≡ 5
counts-up = refl

counts-no-further : one_more 18446744073709551615 ≡ 18446744073709551615
counts-no-further = refl

-- the calls 0 and 2 fail
fails-first : fails_next (no_calls (2 ∷ 0 ∷ [])) ≡ true
fails-first = refl

then-works : fails_next (counted true (no_calls (2 ∷ 0 ∷ []))) ≡ false
then-works = refl

-- ---- a source of five bytes that gives two a call, and a sink of three that takes two

source : List ℕ → SourceState
source fails = record { left = 1 ∷ 2 ∷ 3 ∷ 4 ∷ 5 ∷ []; gives = 2; calls = no_calls fails }

gives-two : bytes_given (source []) 8 ≡ 2
unfolding source
gives-two = refl

gives-one : bytes_given (source []) 1 ≡ 1
unfolding source
gives-one = refl

gives-none : bytes_given (source (0 ∷ [])) 8 ≡ 0
unfolding source
gives-none = refl

gives-the-rest : (after_read (after_read (source []) 8) 8).left ≡ 5 ∷ []
unfolding source
gives-the-rest = refl

sink : List ℕ → SinkState
sink fails = record { bytes = []; room = 3; takes = 2; calls = no_calls fails }

takes-two : (after_write (sink []) (7 ∷ 8 ∷ 9 ∷ [])).bytes ≡ 7 ∷ 8 ∷ []
unfolding sink
takes-two = refl

full-fails : fails_write (after_write (after_write (sink []) (7 ∷ 8 ∷ [])) (9 ∷ [])) ≡ true
unfolding sink
full-fails = refl

full-faults : (after_write (after_write (after_write (sink []) (7 ∷ 8 ∷ [])) (9 ∷ [])) (9 ∷ [])).calls.faults ≡ 1
unfolding sink
full-faults = refl

listed-takes-none : (after_write (sink (0 ∷ [])) (7 ∷ [])).bytes ≡ []
unfolding sink
listed-takes-none = refl
