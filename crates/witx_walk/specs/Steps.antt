-- For proofs between code and definitions: what the steps of reading answer, and what the code keeps.
use Rattle.std.specs.Prelude.{◌≡◌, ◌≤◌, ◌++◌, ◌∷◌, [], ℕ, List, map, length, Option, Some, None, Result, Ok, Err, Bool, true}
use Rattle.std.specs.Ordering.{nat_cmp}
use Rattle.std.specs.Cmp.Lexicographic.{slice_cmp}
use Rattle.std.specs.BTreeSet.{BTreeSet, contains, btree_set_len}
use Rattle.witx_base.specs.Causes.{Rose}
use Rattle.witx_base.specs.Paths.{Path, join}
use Rattle.witx_files.specs.Files.{Files, Aliases, canonical}
use Rattle.witx_files.specs.Answers.{Holds, Lacks, StandsFor}
use Rattle.witx_files.specs.declared.fault.IoFault.TheVariants.{NotFound, LineNotFound, Failed}
use Rattle.witx_ast.specs.Definitions.{definition_tree, DefinitionsFit}
use Rattle.witx_ast.specs.Ordered.{IsOrdered}
use Rattle.witx_ast.specs.Closed.{IsClosed}
use Rattle.witx_scope.specs.Faults.{Fault}
use Rattle.witx_scope.specs.Blame.{fault_of}
use Rattle.witx_scope.specs.Kept.{Keeps}
use Rattle.witx_check.specs.Validators.{kept_by}
use Rattle.witx_order.specs.Items.{Declared}
use Rattle.witx_comments.specs.Comments.{comments_view}
use Rattle.witx_syntax_tree.specs.Views.{declaration_view}
use Rattle.witx_comments.specs.declared.comment.CommentSyntax.{CommentSyntax}
use Rattle.witx_syntax_tree.specs.declared.tree.DeclSyntax.{DeclSyntax}
use Rattle.witx_order.specs.Walks.{World, Place, declared_in, is_taken}
use Rattle.witx_order.specs.Verdicts.{Leads}
use Rattle.witx_walk.specs.Meaning.{past_of, definitions_of}
use Rattle.witx_walk.specs.Answers.{RefusesFiles}
use Rattle.witx_walk.specs.declared.error.WitxError.{WitxError}
use Rattle.witx_walk.specs.declared.error.WitxError.TheVariants.{Io, Parse, Validation, BadPath, TooManyFiles, OutOfMemory}
use Rattle.witx_walk.specs.declared.path_set.PathSet.{PathSet}
use Rattle.witx_walk.specs.declared.walking.Walking.{Walking}

-- whether a set of paths has a path
abbrev pub has_path : BTreeSet Path → Path → Bool
has_path paths path = contains (slice_cmp (slice_cmp nat_cmp)) paths path

-- the set has the paths of the list, each once
pub record HasPaths (paths : BTreeSet Path) (taken : List Path) : Type 0 where
  pub known : (path : Path) → has_path paths path ≡ is_taken taken path
  pub count : btree_set_len paths ≡ length taken

-- what was taken in stays so
abbrev pub StayTaken : PathSet → PathSet → Type 0
StayTaken old new = (path : Path) → has_path old.paths path ≡ true → has_path new.paths path ≡ true

-- no fewer are taken in than were
abbrev pub HasNoFewerPaths : PathSet → PathSet → Type 0
HasNoFewerPaths old new = btree_set_len old.paths ≤ btree_set_len new.paths

-- where aliases are told, the path that this one stands for was taken in
abbrev pub IsTakenIn : Option Aliases → Path → PathSet → Type 0
IsTakenIn aliases joined taken = (links : Aliases) → aliases ≡ Some links → has_path taken.paths (canonical links joined) ≡ true

-- each path that was used from the folder was taken in
abbrev pub AreTakenIn : Option Aliases → Path → PathSet → PathSet → Type 0
AreTakenIn aliases folder uses taken = (used : Path) → has_path uses.paths used ≡ true → IsTakenIn aliases (join folder used) taken

-- the checker and the definitions are what these declarations leave
pub record Holding (walk : Walking) (declared : List Declared) : Type 0 where
  pub keeps : Keeps (kept_by walk.validation) (past_of declared)
  pub definitions : map definition_tree walk.definitions ≡ definitions_of declared
  pub fits : DefinitionsFit walk.definitions (kept_by walk.validation).entries
  pub ordered : IsOrdered (map definition_tree walk.definitions)
  pub closed : IsClosed (map definition_tree walk.definitions)

pub record Tracks (walk : Walking) (taken : List Path) (declared : List Declared) : Type 0 where
  pub paths : HasPaths walk.taken.paths taken
  pub holding : Holding walk declared

-- what was read stays
abbrev pub StaysTracked : Walking → Walking → Type 0
StaysTracked old new = (taken : List Path) (declared : List Declared) → Tracks old taken declared → Tracks new taken declared

-- what is kept is what some declarations leave
abbrev pub IsWell : Walking → Type 0
IsWell walk = (declared : List Declared) × Holding walk declared

-- what is kept has a place to which the marks lead
abbrev pub ReachesPlace : World Fault → Walking → Place → (List Path → List Declared → Place) → Type 0
ReachesPlace w walk at behind = (taken : List Path) × ((declared : List Declared) × (Tracks walk taken declared × Leads w at (behind taken declared)))

-- an answer over told files: Ok leads on, each refusal is where the marks end
abbrev pub WalkOutcome : {U : Type 0} → World Fault → Place → (List Path → List Declared → Place) → Walking → ℕ → ℕ → Result U WitxError → Type 0
WalkOutcome w at behind walk before now (Ok u) = (now ≡ before) × ReachesPlace w walk at behind
WalkOutcome w at behind walk before now (Err e) = RefusesFiles w at before now e

abbrev pub NeverComes : Path → Type 0
NeverComes path = ⊥

abbrev pub IsReached : Option Aliases → Path → ℕ → ℕ → Result Path WitxError → Type 0
IsReached aliases joined before now (Ok path) = StandsFor aliases joined path × (now ≡ before)
IsReached aliases joined before now (Err (Io path Failed)) = (path ≡ joined) × Rose before now × (before ≤ now)
IsReached aliases joined before now (Err OutOfMemory) = now ≡ before
IsReached aliases joined before now (Err (Io path NotFound)) = ⊥
IsReached aliases joined before now (Err (Io path LineNotFound)) = ⊥
IsReached aliases joined before now (Err (BadPath path)) = ⊥
IsReached aliases joined before now (Err (TooManyFiles path)) = ⊥
IsReached aliases joined before now (Err (Parse e)) = ⊥
IsReached aliases joined before now (Err (Validation e)) = ⊥

abbrev pub IsGot : Option Files → Path → ℕ → ℕ → Result (List ℕ) WitxError → Type 0
IsGot files asked before now (Ok text) = Holds files asked text × (now ≡ before)
IsGot files asked before now (Err (Io path Failed)) = (path ≡ asked) × Rose before now × (before ≤ now)
IsGot files asked before now (Err (Io path NotFound)) = (path ≡ asked) × Lacks files asked × (now ≡ before)
IsGot files asked before now (Err OutOfMemory) = now ≡ before
IsGot files asked before now (Err (Io path LineNotFound)) = ⊥
IsGot files asked before now (Err (BadPath path)) = ⊥
IsGot files asked before now (Err (TooManyFiles path)) = ⊥
IsGot files asked before now (Err (Parse e)) = ⊥
IsGot files asked before now (Err (Validation e)) = ⊥

-- a declaration with its comments, as it stands in the text of the file at a path
abbrev pub declared_at : Path → List ℕ → CommentSyntax → DeclSyntax → Declared
declared_at path text comments declaration =
    declared_in path text (record { comments = comments_view comments; item = declaration_view declaration })

abbrev pub IsDeclared : {U : Type 0} → Option Fault → List Declared → Declared → Walking → Result U WitxError → Type 0
IsDeclared fault before δ walk (Ok u) = (fault ≡ None) × Holding walk (before ++ δ ∷ [])
IsDeclared fault before δ walk (Err (Validation e)) = fault ≡ Some (fault_of e)
IsDeclared fault before δ walk (Err OutOfMemory) = Unit {0}
IsDeclared fault before δ walk (Err (Io path f)) = ⊥
IsDeclared fault before δ walk (Err (BadPath path)) = ⊥
IsDeclared fault before δ walk (Err (TooManyFiles path)) = ⊥
IsDeclared fault before δ walk (Err (Parse e)) = ⊥
