-- The reading of texts as a function: the items of each text that is a document, the fault of each that is none.
-- The grammar's definition is a relation; its laws say that there is exactly one such function.
use Rattle.std.specs.Prelude.{◌≡◌, ℕ, List, Result, Ok, Err}
use Rattle.witx_syntax_tree.specs.Trees.{Document}
use Rattle.witx_language.specs.FaultPlaces.{Told}
use Rattle.witx_syntax.specs.Reads.{Reads, IsFaultOf}
use Rattle.witx_order.specs.Items.{TextItem, items_of, SyntaxFault}

abbrev pub FileReading : Type 0
FileReading = List ℕ → Result (List TextItem) SyntaxFault

abbrev pub syntax_fault : Told → SyntaxFault
syntax_fault fault = record { message = fault.message; line = fault.line; column = fault.column }

pub record IsReading (reading : FileReading) : Type 0 where
  pub documents : (text : List ℕ) (document : Document) → Reads text document → reading text ≡ Ok (items_of document)
  pub faults : (text : List ℕ) (fault : Told) → IsFaultOf text fault → reading text ≡ Err (syntax_fault fault)

-- there is a reading, and each other gives every text the same
abbrev pub OneReading : Type 0
OneReading = (reading : FileReading) × (IsReading reading × ((other : FileReading) → IsReading other → (text : List ℕ) → other text ≡ reading text))
