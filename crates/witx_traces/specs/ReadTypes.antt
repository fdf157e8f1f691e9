-- How the program has the types that texts stand for in the lines of a function.
use Rattle.std.specs.Prelude.{◌≡◌, ℕ, List, map, Option, option_map}
use Rattle.std.specs.List.{AllByRecursion}
use Rattle.witx_ast.specs.Tree.{Tree}
use Rattle.witx_ast.specs.TypeNames.{type_text}
use Rattle.witx_ast.specs.Views.{tree_of}
use Rattle.witx_ast.specs.Definitions.{definition_tree, typename_called}
use Rattle.witx_instructions.specs.Views.{event_of, param_types}
use Rattle.witx_instructions.specs.declared.event.Event as code_event
use Rattle.witx_traces.specs.declared.candidates.Candidate as code_candidate
use Rattle.witx_traces.specs.declared.candidates.KnownTypes as code_types
use Rattle.witx_traces.specs.Answers.{Answered}
use Rattle.witx_traces.specs.Traces.{Types, IsPayload, IsSayable, first_shown}

abbrev pub candidate_type : code_candidate.Candidate → Tree
candidate_type c = tree_of c.ty.now

unfoldable pub known_in : code_types.KnownTypes → Types
known_in k = record {
  typename = typename_called (map definition_tree k.document.now.definitions);
  held = first_shown (map candidate_type k.held.items);
  payload = first_shown (map candidate_type k.payloads.items);
  params = param_types k.func.now.params;
  results = param_types k.func.now.results;
}

-- each of these events is one that a line can say
abbrev pub LinesCanSay : code_types.KnownTypes → List code_event.Event → Type 0
LinesCanSay k es = AllByRecursion (IsSayable (known_in k)) (map event_of es)

-- the payload is what the text stands for, if there is a text
pub record IsPayloadText (types : Types) (text : Option (List ℕ)) (t : Option Tree) : Type 0 where
  pub payload : IsPayload types t
  pub same : option_map type_text t ≡ text

abbrev pub PayloadAt : Types → Option (List ℕ) → Option (Option Tree) → Type 0
PayloadAt types text o = Answered (IsPayloadText types text) o
