-- The reading order as a condition on the finished list of marks: groups nest and match; directly inside the group of a
-- file stand its items in order, a use as a whole group or as a skip; outside all groups stand the handed paths in order.
-- Each path starts once, at its first mention; a skip stands behind the start of its path; there are at most 1,024 starts.
use Rattle.std.specs.Prelude.{◌≡◌, ◌<◌, ℕ, List, [], ◌∷◌, ◌++◌, length, Some, Ok, true, false}
use Rattle.witx_base.specs.Paths.{Path, join, path_of, all_but_last, file_name}
use Rattle.witx_syntax_tree.specs.Trees.{NotedItem}
use Rattle.witx_order.specs.Items.{TextItem, declaration, use_of}
use Rattle.witx_order.specs.Walks.{World, Mark, start, decl, skip, end, declared_in, is_taken, folder_of, most_files}

mutual
  -- the marks of the items of a file with this path and text, whose uses are seen from this folder
  pub data Contents {F : Type 0} (w : World F) : Path → List ℕ → Path → List TextItem → List Mark → Type 0 where
    no_items : (path : Path) (text : List ℕ) (folder : Path) → Contents w path text folder [] []
    declared : (path : Path) (text : List ℕ) (folder : Path) (item : NotedItem) (items : List TextItem) (marks : List Mark)
        → Contents w path text folder items marks → Contents w path text folder (declaration item ∷ items) (decl (declared_in path text item) ∷ marks)
    used : (path : Path) (text : List ℕ) (folder : Path) (named : List ℕ) (items : List TextItem) (group marks : List Mark)
        → Reached w (join folder (path_of named)) folder group → Contents w path text folder items marks
        → Contents w path text folder (use_of named ∷ items) (group ++ marks)

  -- the marks of a path that is reached from a directory: a skip, or a whole group from its start to its end
  pub data Reached {F : Type 0} (w : World F) : Path → Path → List Mark → Type 0 where
    skipped : (joined directory : Path) → Reached w joined directory (skip (w.canonical joined) ∷ [])
    opened : (joined directory : Path) (text : List ℕ) (items : List TextItem) (marks : List Mark)
        → w.text_at (w.canonical joined) ≡ Some text → w.reading text ≡ Ok items
        → Contents w (w.canonical joined) text (folder_of (w.canonical joined) directory) items marks
        → Reached w joined directory (start (w.canonical joined) directory ∷ (marks ++ end (w.canonical joined) ∷ []))

-- outside all groups stand the handed paths, in order
pub data Handed {F : Type 0} (w : World F) : List Path → List Mark → Type 0 where
  no_paths : Handed w [] []
  handed : (path : Path) (name : List ℕ) (paths : List Path) (group marks : List Mark) → file_name path ≡ Some name
      → Reached w (join (all_but_last path) (name ∷ [])) (all_but_last path) group → Handed w paths marks
      → Handed w (path ∷ paths) (group ++ marks)

-- behind the starts of these paths: a path starts that hasn't, with fewer than 1,024 before it, and one is skipped that has
abbrev pub StartsOnce : List Path → List Mark → Type 0
StartsOnce taken [] = Unit {0}
StartsOnce taken (start path directory ∷ marks) = (is_taken taken path ≡ false) × (length taken < most_files) × StartsOnce (taken ++ path ∷ []) marks
StartsOnce taken (skip path ∷ marks) = (is_taken taken path ≡ true) × StartsOnce taken marks
StartsOnce taken (decl δ ∷ marks) = StartsOnce taken marks
StartsOnce taken (end path ∷ marks) = StartsOnce taken marks

-- a walk by its groups
pub record IsGrouped {F : Type 0} (w : World F) (paths : List Path) (marks : List Mark) : Type 0 where
  pub groups : Handed w paths marks
  pub once : StartsOnce [] marks
