-- The reading order of files that use one another, step by step: a walk is a list of marks, and each mark is the next one
-- of those before it. A file starts once, at the first mention of its path; its items follow, each used file whole at its
-- use; the file ends behind them. At most 1,024 files start. `Groups` and `GroupFronts` say what a walk and what a front is
-- as a condition on the list; the laws `walk_form` and `front_form` say that these are the same.
use Rattle.std.specs.Prelude.{◌≡◌, ℕ, List, [], ◌∷◌, ◌++◌, length, Option, None, Some, Result, Ok, Err, Bool, true, false, cond, nat_lt, unwrap_or}
use Rattle.witx_base.specs.Paths.{Path, join, path_of, parent, all_but_last, file_name}
use Rattle.witx_files.specs.Files.{same_path}
use Rattle.witx_syntax_tree.specs.Trees.{NotedItem}
use Rattle.witx_order.specs.Items.{TextItem, declaration, use_of, Declared, SyntaxFault}

-- the text of each path that has a file, the path that each path stands for, what a text consists of or why it is no
-- document, and the fault of a declaration behind those before it, if it has one
pub record World (F : Type 0) : Type 0 where
  pub text_at : Path → Option (List ℕ)
  pub canonical : Path → Path
  pub reading : List ℕ → Result (List TextItem) SyntaxFault
  pub fault_of : List Declared → Declared → Option F

-- the path of a file that starts and the directory that led to it; a declaration; the path of a file that stands earlier;
-- the path of a file that ends
pub data Mark : Type 0 where
  start : Path → Path → Mark
  decl : Declared → Mark
  skip : Path → Mark
  end : Path → Mark

-- a file that is open: its path, its text, the folder from which its uses are seen, and its items to come
pub record OpenFile : Type 0 where
  pub path : Path
  pub text : List ℕ
  pub folder : Path
  pub left : Result (List TextItem) SyntaxFault

-- where a list of marks has come to: the open files, the innermost first; the handed paths to come; the paths that have
-- started; and the declarations so far
pub record Place : Type 0 where
  pub open_files : List OpenFile
  pub handed : List Path
  pub taken : List Path
  pub declared : List Declared

abbrev pub place : List OpenFile → List Path → List Path → List Declared → Place
place open_files handed taken declared = record { open_files = open_files; handed = handed; taken = taken; declared = declared }

abbrev pub open_file : Path → List ℕ → Path → Result (List TextItem) SyntaxFault → OpenFile
open_file path text folder left = record { path = path; text = text; folder = folder; left = left }

abbrev pub declared_in : Path → List ℕ → NotedItem → Declared
declared_in path text item = record { path = path; text = text; item = item }

-- the folder from which the uses of a file are seen: its parent, or else the directory that led to it
abbrev pub folder_of : Path → Path → Path
folder_of path directory = unwrap_or (parent path) directory

-- ---- what the innermost open file, or else the next handed path, wants next

pub data Wish : Type 0 where
  -- a path seen from a directory, and where it leaves off
  reach : Place → Path → Path → Wish
  -- a declaration, and where it leads
  declare : Declared → Place → Wish
  -- the end of a file, and where it leads
  close : Path → Place → Wish
  -- a file whose text is no document
  unread : Path → SyntaxFault → Wish
  -- a handed path without a file name
  nameless : Path → Wish
  done : Wish

-- a handed path is its directory joined with its file name
abbrev pub handed_wish : Option (List ℕ) → Path → Place → Wish
handed_wish None path behind = nameless path
handed_wish (Some name) path behind = reach behind (join (all_but_last path) (name ∷ [])) (all_but_last path)

abbrev pub item_wish : Path → List ℕ → Path → TextItem → Place → Wish
item_wish path text folder (declaration item) behind =
    declare (declared_in path text item) (record behind { declared = behind.declared ++ declared_in path text item ∷ [] })
item_wish path text folder (use_of used) behind = reach behind (join folder (path_of used)) folder

abbrev pub outer_wish : List Path → List Path → List Declared → Wish
outer_wish [] taken declared = done
outer_wish (path ∷ handed) taken declared = handed_wish (file_name path) path (place [] handed taken declared)

abbrev pub inner_wish : Path → List ℕ → Path → Result (List TextItem) SyntaxFault → List OpenFile → List Path → List Path → List Declared → Wish
inner_wish path text folder (Err fault) outer handed taken declared = unread path fault
inner_wish path text folder (Ok []) outer handed taken declared = close path (place outer handed taken declared)
inner_wish path text folder (Ok (item ∷ left)) outer handed taken declared =
    item_wish path text folder item (place (open_file path text folder (Ok left) ∷ outer) handed taken declared)

abbrev pub wish_at : List OpenFile → List Path → List Path → List Declared → Wish
wish_at [] handed taken declared = outer_wish handed taken declared
wish_at (file ∷ outer) handed taken declared = inner_wish file.path file.text file.folder file.left outer handed taken declared

abbrev pub wish : Place → Wish
wish at = wish_at at.open_files at.handed at.taken at.declared

-- ---- what comes of a wish

-- why there is no next mark before the end
pub data WalkRefusal (F : Type 0) : Type 0 where
  bad_path : Path → WalkRefusal F
  too_many : Path → WalkRefusal F
  missing : Path → WalkRefusal F
  unreadable : Path → SyntaxFault → WalkRefusal F
  faulty : F → WalkRefusal F

pub data Next (F : Type 0) : Type 0 where
  go : Mark → Place → Next F
  stuck : WalkRefusal F → Next F
  over : Next F

-- so many files may start
abbrev pub most_files : ℕ
most_files = 1024

abbrev pub is_taken : List Path → Path → Bool
is_taken [] path = false
is_taken (other ∷ taken) path = cond (same_path other path) true (is_taken taken path)

-- a path that starts, where it has a file
abbrev pub started : {F : Type 0} → World F → Place → Path → Path → Option (List ℕ) → Next F
started w at path directory None = stuck (missing path)
started w at path directory (Some text) = go (start path directory)
    (place (open_file path text (folder_of path directory) (w.reading text) ∷ at.open_files) at.handed (at.taken ++ path ∷ []) at.declared)

-- a canonical path that is reached
abbrev pub reached : {F : Type 0} → World F → Place → Path → Path → Next F
reached w at path directory =
    cond (is_taken at.taken path) (go (skip path) at)
    (cond (nat_lt (length at.taken) most_files) (started w at path directory (w.text_at path)) (stuck (too_many path)))

abbrev pub met : {F : Type 0} → World F → Wish → Next F
met w (reach behind joined directory) = reached w behind (w.canonical joined) directory
met w (declare δ behind) = go (decl δ) behind
met w (close path behind) = go (end path) behind
met w (unread path fault) = stuck (unreadable path fault)
met w (nameless path) = stuck (bad_path path)
met w done = over

-- the next mark and where it leads; or why there is none
abbrev pub next : {F : Type 0} → World F → Place → Next F
next w at = met w (wish at)

abbrev pub beginning : List Path → Place
beginning handed = place [] handed [] []

-- the marks lead from one place to another, each the next of those before it
pub data Marks {F : Type 0} (w : World F) : Place → List Mark → Place → Type 0 where
  none : (at : Place) → Marks w at [] at
  more : (at : Place) (mark : Mark) (between : Place) (marks : List Mark) (last : Place)
      → next w at ≡ go mark between → Marks w between marks last → Marks w at (mark ∷ marks) last

-- a front of a walk: the marks lead somewhere
abbrev pub IsFront : {F : Type 0} → World F → List Path → List Mark → Type 0
IsFront w handed marks = (last : Place) × Marks w (beginning handed) marks last

-- the declaration is an item of its text, which its path has
abbrev pub IsReadDeclaration : {F : Type 0} → World F → Declared → Type 0
IsReadDeclaration w δ = (w.text_at δ.path ≡ Some δ.text) × ((before after : List TextItem) × (w.reading δ.text ≡ Ok (before ++ declaration δ.item ∷ after)))

-- a walk, with its declarations: the reading order
pub record IsWalk {F : Type 0} (w : World F) (handed : List Path) (marks : List Mark) (declared : List Declared) : Type 0 where
  pub last : Place
  pub leads : Marks w (beginning handed) marks last
  pub all : next w last ≡ over
  pub order : last.declared ≡ declared
