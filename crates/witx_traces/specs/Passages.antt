-- The fixed text of a listing, cut where the events of its functions stand: the text before the events of each caller, and
-- the text behind the last events. And how far a text goes with it.
use Rattle.std.specs.Prelude.{◌≡◌, ℕ, suc, List, [], ◌∷◌, ◌++◌, drop, map, Bool, true, false, codes, string_bytes, ◌==◌, if◌then◌else◌}
use Rattle.std.specs.List.{AllByRecursion}
use Rattle.witx_ast.specs.declared.function.Abi.{Abi}
use Rattle.witx_ast.specs.Items.{ItemTree, import_of, func_of}
use Rattle.witx_ast.specs.Definitions.{DefinitionTree, typename_of, module_of, constant_of}
use Rattle.witx_machine.specs.Events.{Event}
use Rattle.witx_layout.specs.declared.layout.SizeAlign.{SizeAlign}
use Rattle.witx_adapt.specs.Lines.{event_lines}
use Rattle.witx_adapt.specs.Listings.{constant_line, module_line, import_line, listed_func_line, listed_typename_lines, func_count}
use Rattle.witx_traces.specs.declared.passages.Passage as code_passage
use Rattle.witx_traces.specs.declared.passages.Draft as code_draft
use Rattle.witx_traces.specs.declared.reading.TracePair as code_pair
use Rattle.witx_instructions.specs.Views.{event_of}
use Rattle.witx_traces.specs.Answers.{Never}
use Rattle.witx_traces.specs.Traces.{Types, known_of, Offered, offered, Listed, Sides, IsSayable, AreSayable, one_line, ended}

-- ---- the passages of a listing

-- the text before the events of a function
pub record Passage : Type 0 where
  pub fixed : List ℕ
  pub function : Offered

-- passages, and the fixed text behind the events of the last one
pub record Draft : Type 0 where
  pub done : List Passage
  pub text : List ℕ

abbrev pub put : List ℕ → Draft → Draft
put lines d = record { done = d.done; text = d.text ++ lines }

-- here stand the events of a function
abbrev pub end_passage : Offered → Draft → Draft
end_passage f d = record { done = d.done ++ record { fixed = d.text; function = f } ∷ []; text = [] }

-- with the first of the functions, where there is one
abbrev pub put_func : List ℕ → Abi → List Offered → Draft → Draft
put_func name abi [] d = d
put_func name abi (f ∷ fs) d = end_passage f (put (listed_func_line name abi f.lowered.params f.lowered.results ++ codes "caller\n") d)

abbrev pub put_items : List ItemTree → List Offered → Draft → Draft
put_items [] fs d = d
put_items (import_of i ∷ items) fs d = put_items items fs (put (import_line i.name) d)
put_items (func_of f ∷ items) fs d = put_items items (drop 1 fs) (put_func f.name f.abi fs d)

abbrev pub put_definitions : List DefinitionTree → List Offered → List SizeAlign → Draft → Draft
put_definitions [] fs ls d = d
put_definitions (typename_of name t docs ∷ ds) fs ls d = put_definitions ds fs (drop 1 ls) (put (listed_typename_lines name ls) d)
put_definitions (module_of m ∷ ds) fs ls d = put_definitions ds (drop (func_count m.items) fs) ls (put_items m.items fs (put (module_line m.name) d))
put_definitions (constant_of c ∷ ds) fs ls d = put_definitions ds fs ls (put (constant_line c) d)

abbrev pub nothing_put : Draft
nothing_put = record { done = []; text = [] }

unfoldable pub passages_of : Listed → Draft
passages_of l = put_definitions l.definitions l.functions l.layouts nothing_put

-- as the program has them
abbrev pub passage_of : code_passage.Passage → Passage
passage_of p = record { fixed = p.fixed; function = offered p.entry.now }

abbrev pub draft_of : code_draft.Draft → Draft
draft_of d = record { done = map passage_of d.passages.items; text = string_bytes d.text }

-- ---- texts that have these passages

-- a fixed text, and then lines of events
pub record Stretch : Type 0 where
  pub fixed : List ℕ
  pub types : Types

-- a side of a function: the text before its events, and the types that they can name
abbrev pub side_of : List ℕ → Types → Stretch
side_of fixed types = record { fixed = fixed; types = types }

-- both sides of each function
abbrev pub stretches : List DefinitionTree → List Passage → List Stretch
stretches ds [] = []
stretches ds (p ∷ ps) =
    side_of p.fixed (known_of ds p.function.function)
    ∷ side_of (codes "callee\n") (known_of ds p.function.function)
    ∷ stretches ds ps

-- the text has each stretch with some events, and then the last fixed text
abbrev pub Has : List Stretch → List ℕ → List ℕ → Type 0
Has [] last text = text ≡ last
Has (s ∷ ss) last text =
    (es : List Event) × (more : List ℕ) × AllByRecursion (IsSayable s.types) es × (text ≡ s.fixed ++ (event_lines es ++ more)) × Has ss last more

-- a blank stands first
abbrev pub indented : List ℕ → Bool
indented [] = false
indented (b ∷ bs) = b == 32

-- no such text begins with a blank
abbrev pub BeginPlainly : List Stretch → List ℕ → Type 0
BeginPlainly ss last = (text : List ℕ) → Has ss last text → indented text ≡ false

-- ---- whole lines

abbrev pub is_ended : List ℕ → Bool
is_ended [] = true
is_ended (b ∷ []) = b == 10
is_ended (b ∷ c ∷ cs) = is_ended (c ∷ cs)

-- lines above events
abbrev pub IsFixed : List ℕ → Type 0
IsFixed [] = ⊥
IsFixed (b ∷ bs) = ((b == 32) ≡ false) × (is_ended (b ∷ bs) ≡ true)

-- lines behind the last events, if there are any
abbrev pub IsLast : List ℕ → Type 0
IsLast text = (indented text ≡ false) × (is_ended text ≡ true)

abbrev pub AreFixed : List Passage → Type 0
AreFixed ps = AllByRecursion (λ p. IsFixed p.fixed) ps

-- ---- how far a text goes with others

-- one of these texts can begin with all before the rest, and none with the rest's first line too; or nothing is left, and
-- something is missing
pub record Stops (L : List ℕ → Type 0) (text rest : List ℕ) : Type 0 where
  pub front : List ℕ
  pub whole : text ≡ front ++ rest
  pub lines : is_ended front ≡ true
  pub more : List ℕ
  pub begins : L (front ++ more)
  pub stops : (line behind after : List ℕ) → one_line line ≡ true → rest ≡ ended line ++ behind → L ((front ++ ended line) ++ after) → ⊥
  pub missing : rest ≡ [] → L text → ⊥

-- the text doesn't begin with this line
pub record LacksWantedLine (wanted text rest : List ℕ) : Type 0 where
  pub same : rest ≡ text
  pub other : Never (λ more. text ≡ ended wanted ++ more)

-- within these lines, at the first that the text doesn't have
pub record IsCutAt (lines text rest : List ℕ) : Type 0 where
  pub front : List ℕ
  pub wanted : List ℕ
  pub behind : List ℕ
  pub same : lines ≡ front ++ (ended wanted ++ behind)
  pub closed-front : is_ended front ≡ true
  pub one : one_line wanted ≡ true
  pub whole : text ≡ front ++ rest
  pub other : (more : List ℕ) → rest ≡ ended wanted ++ more → ⊥

abbrev pub StopsAt : List Stretch → List ℕ → List ℕ → List ℕ → Type 0
StopsAt ss last text rest = Stops (Has ss last) text rest

-- the text stops where what follows a stretch in it stops
abbrev pub StopsBehind : Stretch → List ℕ → List ℕ → Type 0
StopsBehind s text end =
    (ss : List Stretch) (last rest : List ℕ) → BeginPlainly ss last → StopsAt ss last end rest → StopsAt (s ∷ ss) last text rest

-- events that can follow, with nothing before them
abbrev pub events_of : Types → Stretch
events_of types = side_of [] types

-- ---- the traces of passages

abbrev pub sides_of : code_pair.TracePair → Sides
sides_of p = record { caller = map event_of p.caller; callee = map event_of p.callee }

abbrev pub pair_text : Passage → Sides → List ℕ → List ℕ
pair_text p s more = p.fixed ++ (event_lines s.caller ++ (codes "callee\n" ++ (event_lines s.callee ++ more)))

-- the text has these passages with these events, and then the rest
abbrev pub ReadPairs : List DefinitionTree → List Passage → List Sides → List ℕ → List ℕ → Type 0
ReadPairs ds [] [] text rest = text ≡ rest
ReadPairs ds [] (s ∷ ss) text rest = ⊥
ReadPairs ds (p ∷ ps) [] text rest = ⊥
ReadPairs ds (p ∷ ps) (s ∷ ss) text rest =
    AreSayable (known_of ds p.function.function) s × ((more : List ℕ) × (text ≡ pair_text p s more) × ReadPairs ds ps ss more rest)

-- the number of the line with which what follows a text begins
abbrev pub feeds : List ℕ → ℕ
feeds [] = 0
feeds (b ∷ bs) = (if b == 10 then suc (feeds bs) else feeds bs)
