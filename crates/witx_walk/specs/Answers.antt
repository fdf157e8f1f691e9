-- What reading files in order answers: the document that they mean, or the refusal that comes first, with its place.
-- Where a call of the reader fails, the answer is that failure, with the path of the call.
use Rattle.std.specs.Prelude.{◌≡◌, ◌≤◌, ◌<◌, ◌⊎◌, ℕ, List, map, length, Option, Some, None, Result, Ok, Err, Contains, false}
use Rattle.witx_base.specs.Causes.{Rose}
use Rattle.witx_base.specs.Paths.{Path, file_name}
use Rattle.witx_files.specs.Files.{Files, Aliases}
use Rattle.witx_files.specs.Answers.{Lacks}
use Rattle.witx_files.specs.declared.fault.IoFault.TheVariants.{NotFound, LineNotFound, Failed}
use Rattle.witx_files.specs.declared.io.WitxIo as WitxIo
use Rattle.witx_ast.specs.Closed.{IsClosed}
use Rattle.witx_ast.specs.Ordered.{IsOrdered}
use Rattle.witx_ast.specs.Definitions.{DefinitionTree, definition_tree}
use Rattle.witx_ast.specs.Entries.{Held}
use Rattle.witx_ast.specs.declared.definition.Definition.{Definition}
use Rattle.witx_ast.specs.declared.definition.Entry.{Entry}
use Rattle.witx_scope.specs.Faults.{Fault}
use Rattle.witx_scope.specs.Blame.{fault_of}
use Rattle.witx_language.specs.declared.error.ParseError.{ParseError}
use Rattle.witx_order.specs.Items.{Declared, SyntaxFault}
use Rattle.witx_order.specs.Walks.{World, Place, Wish, reach, declare, close, unread, nameless, done, wish, is_taken, most_files, WalkRefusal, bad_path, too_many, missing, unreadable, faulty, beginning}
use Rattle.witx_order.specs.Verdicts.{Verdict, fine, refused, Leads, Ends, IsVerdict}
use Rattle.witx_walk.specs.Readings.{FileReading, IsReading}
use Rattle.witx_walk.specs.Meaning.{world, definitions_of, MeansDocument}
use Rattle.witx_walk.specs.declared.error.WitxError.{WitxError}
use Rattle.witx_walk.specs.declared.error.WitxError.TheVariants.{Io, Parse, Validation, BadPath, TooManyFiles, OutOfMemory}

-- the fault of a text that a parse error tells
abbrev pub told_fault : ParseError → SyntaxFault
told_fault e = record { message = e.message.now; line = e.line; column = e.column }

-- the path of a call that is made next: the joined path, to be made canonical, or the canonical one, to be read
abbrev pub IsCalledFor : World Fault → Wish → Path → Type 0
IsCalledFor w (reach at joined directory) path =
    (path ≡ joined) ⊎ ((path ≡ w.canonical joined) × (is_taken at.taken path ≡ false) × (length at.taken < most_files))
IsCalledFor w (declare δ at) path = ⊥
IsCalledFor w (close closed at) path = ⊥
IsCalledFor w (unread read fault) path = ⊥
IsCalledFor w (nameless handed) path = ⊥
IsCalledFor w done path = ⊥

-- behind some marks without a fault a call for this path is made next
pub record Breaks (w : World Fault) (at : Place) (path : Path) : Type 0 where
  pub last : Place
  pub way : Leads w at last
  pub call : IsCalledFor w (wish last) path

-- each refusal is what comes first from a place on; the count of faults rises only where a call failed
abbrev pub RefusesFiles : World Fault → Place → ℕ → ℕ → WitxError → Type 0
RefusesFiles w at before now (BadPath path) = (now ≡ before) × Ends w at (refused (bad_path path))
RefusesFiles w at before now (TooManyFiles path) = (now ≡ before) × Ends w at (refused (too_many path))
RefusesFiles w at before now (Io path NotFound) = (now ≡ before) × Ends w at (refused (missing path))
RefusesFiles w at before now (Io path LineNotFound) = ⊥
RefusesFiles w at before now (Io path Failed) = Rose before now × Breaks w at path
RefusesFiles w at before now (Parse e) = (now ≡ before) × Ends w at (refused (unreadable e.path (told_fault e)))
RefusesFiles w at before now (Validation e) = (now ≡ before) × Ends w at (refused (faulty (fault_of e)))
RefusesFiles w at before now OutOfMemory = now ≡ before

-- a document whose definitions are ordered, and one whose definitions are closed
abbrev pub IsOrderedDocument : Held Definition Entry → Type 0
IsOrderedDocument document = IsOrdered (map definition_tree document.definitions)

abbrev pub IsClosedDocument : Held Definition Entry → Type 0
IsClosedDocument document = IsClosed (map definition_tree document.definitions)

-- an answer, given as the definitions of its document
abbrev pub Answer : Type 0
Answer = Result (List DefinitionTree) WitxError

abbrev pub answer_of : Result (Held Definition Entry) WitxError → Answer
answer_of (Ok document) = Ok (map definition_tree document.definitions)
answer_of (Err e) = Err e

-- the answer over a world, to the files at these paths
abbrev pub Answers : World Fault → List Path → ℕ → ℕ → Answer → Type 0
Answers w handed before now (Ok definitions) = (now ≡ before) × MeansDocument w handed definitions
Answers w handed before now (Err e) = RefusesFiles w (beginning handed) before now e

-- the answer is the verdict, but for a failed call and want of memory
abbrev pub AgreesWith : Verdict Fault → Answer → Type 0
AgreesWith v (Ok definitions) = (declared : List Declared) × ((v ≡ fine declared) × (definitions ≡ definitions_of declared))
AgreesWith v (Err (BadPath path)) = v ≡ refused (bad_path path)
AgreesWith v (Err (TooManyFiles path)) = v ≡ refused (too_many path)
AgreesWith v (Err (Io path NotFound)) = v ≡ refused (missing path)
AgreesWith v (Err (Io path LineNotFound)) = ⊥
AgreesWith v (Err (Io path Failed)) = Unit {0}
AgreesWith v (Err (Parse e)) = v ≡ refused (unreadable e.path (told_fault e))
AgreesWith v (Err (Validation e)) = v ≡ refused (faulty (fault_of e))
AgreesWith v (Err OutOfMemory) = Unit {0}

-- the claim holds of the world of the files and aliases, where both are told, and the reading of texts
abbrev pub WhereTold : Option Files → Option Aliases → (World Fault → Type 0) → Type 0
WhereTold files aliases P =
    (fs : Files) (links : Aliases) (reading : FileReading) → files ≡ Some fs → aliases ≡ Some links → IsReading reading → P (world fs links reading)

-- the answer to the files at these paths, where files and aliases are told
abbrev pub IsWalkAnswer : Option Files → Option Aliases → List Path → ℕ → ℕ → Answer → Type 0
IsWalkAnswer files aliases handed before now r = WhereTold files aliases (λ w. Answers w handed before now r)

-- the same by what a reader tells before and after
abbrev pub WalkAnswers : {I : Type 0} → WitxIo.Ghosts I → I → I → List Path → Result (Held Definition Entry) WitxError → Type 0
WalkAnswers g before after handed r =
    IsWalkAnswer (g.files before) (g.aliases before) handed (g.faults before) (g.faults after) (answer_of r)

-- it is the verdict
abbrev pub IsVerdictOf : Option Files → Option Aliases → List Path → Answer → Type 0
IsVerdictOf files aliases handed r = WhereTold files aliases (λ w. (v : Verdict Fault) → IsVerdict w handed v → AgreesWith v r)

-- what an answer tells of the files: their definitions, or the refusal; a failed call and want of memory tell nothing
abbrev pub told_by : Answer → Option (Result (List DefinitionTree) (WalkRefusal Fault))
told_by (Ok definitions) = Some (Ok definitions)
told_by (Err (BadPath path)) = Some (Err (bad_path path))
told_by (Err (TooManyFiles path)) = Some (Err (too_many path))
told_by (Err (Io path NotFound)) = Some (Err (missing path))
told_by (Err (Io path LineNotFound)) = None
told_by (Err (Io path Failed)) = None
told_by (Err (Parse e)) = Some (Err (unreadable e.path (told_fault e)))
told_by (Err (Validation e)) = Some (Err (faulty (fault_of e)))
told_by (Err OutOfMemory) = None

-- over told files and aliases two answers that tell something tell the same
abbrev pub OneAnswer : Type 0
OneAnswer = (files : Files) (aliases : Aliases) (handed : List Path) (before now before' now' : ℕ) (r s : Answer)
    (x y : Result (List DefinitionTree) (WalkRefusal Fault))
    → IsWalkAnswer (Some files) (Some aliases) handed before now r → IsWalkAnswer (Some files) (Some aliases) handed before' now' s
    → told_by r ≡ Some x → told_by s ≡ Some y → x ≡ y

-- ---- over any reader, whether or not it tells its files

abbrev pub HasCause : (Path → Type 0) → Option Files → ℕ → ℕ → WitxError → Type 0
HasCause IsNameless files before now (BadPath path) = IsNameless path × (now ≡ before)
HasCause IsNameless files before now (TooManyFiles path) = now ≡ before
HasCause IsNameless files before now (Io path NotFound) = Lacks files path × (now ≡ before)
HasCause IsNameless files before now (Io path LineNotFound) = ⊥
HasCause IsNameless files before now (Io path Failed) = Rose before now × (before ≤ now)
HasCause IsNameless files before now (Parse e) = now ≡ before
HasCause IsNameless files before now (Validation e) = now ≡ before
HasCause IsNameless files before now OutOfMemory = now ≡ before

abbrev pub Caused : {U : Type 0} → (Path → Type 0) → Option Files → ℕ → ℕ → Result U WitxError → Type 0
Caused IsNameless files before now (Ok u) = now ≡ before
Caused IsNameless files before now (Err e) = HasCause IsNameless files before now e

-- the same by what a reader tells before and after
abbrev pub CausedBy : {U I : Type 0} → WitxIo.Ghosts I → (Path → Type 0) → I → I → Result U WitxError → Type 0
CausedBy g IsNameless before after r = Caused IsNameless (g.files before) (g.faults before) (g.faults after) r

-- one of the paths that were handed over, without a file name
abbrev pub NamelessIn : List Path → Path → Type 0
NamelessIn handed path = Contains handed path × (file_name path ≡ None)
