-- A front of a reading order, as a condition on its marks: a list that meets `Groups` as far as it goes. It is cut where
-- groups may still be open and handed paths still to come; of each open file the marks so far are those of its first items.
use Rattle.std.specs.Prelude.{◌≡◌, ℕ, List, [], ◌∷◌, ◌++◌, Some, Ok}
use Rattle.witx_base.specs.Paths.{Path, join, path_of, all_but_last, file_name}
use Rattle.witx_syntax_tree.specs.Trees.{NotedItem}
use Rattle.witx_order.specs.Items.{TextItem, declaration, use_of}
use Rattle.witx_order.specs.Walks.{World, Mark, start, decl, declared_in, folder_of}
use Rattle.witx_order.specs.Groups.{Reached, StartsOnce}

mutual
  -- a front of the marks of these items: it stops before any of them, or inside the group of one that is a use
  pub data ContentsFront {F : Type 0} (w : World F) : Path → List ℕ → Path → List TextItem → List Mark → Type 0 where
    stops : (path : Path) (text : List ℕ) (folder : Path) (items : List TextItem) → ContentsFront w path text folder items []
    declares : (path : Path) (text : List ℕ) (folder : Path) (item : NotedItem) (items : List TextItem) (marks : List Mark)
        → ContentsFront w path text folder items marks → ContentsFront w path text folder (declaration item ∷ items) (decl (declared_in path text item) ∷ marks)
    uses : (path : Path) (text : List ℕ) (folder : Path) (named : List ℕ) (items : List TextItem) (group marks : List Mark)
        → Reached w (join folder (path_of named)) folder group → ContentsFront w path text folder items marks
        → ContentsFront w path text folder (use_of named ∷ items) (group ++ marks)
    stops_inside : (path : Path) (text : List ℕ) (folder : Path) (named : List ℕ) (items : List TextItem) (group : List Mark)
        → OpenGroup w (join folder (path_of named)) folder group → ContentsFront w path text folder (use_of named ∷ items) group

  -- a group that has started and is still open: its start alone, whatever the text is, or behind it a front of its items' marks
  pub data OpenGroup {F : Type 0} (w : World F) : Path → Path → List Mark → Type 0 where
    begun : (joined directory : Path) (text : List ℕ) → w.text_at (w.canonical joined) ≡ Some text
        → OpenGroup w joined directory (start (w.canonical joined) directory ∷ [])
    read : (joined directory : Path) (text : List ℕ) (items : List TextItem) (marks : List Mark)
        → w.text_at (w.canonical joined) ≡ Some text → w.reading text ≡ Ok items
        → ContentsFront w (w.canonical joined) text (folder_of (w.canonical joined) directory) items marks
        → OpenGroup w joined directory (start (w.canonical joined) directory ∷ marks)

-- outside all groups stand the first of the handed paths, in order; the last of these may be the one that is open
pub data HandedFront {F : Type 0} (w : World F) : List Path → List Mark → Type 0 where
  stops_there : (paths : List Path) → HandedFront w paths []
  hands : (path : Path) (name : List ℕ) (paths : List Path) (group marks : List Mark) → file_name path ≡ Some name
      → Reached w (join (all_but_last path) (name ∷ [])) (all_but_last path) group → HandedFront w paths marks
      → HandedFront w (path ∷ paths) (group ++ marks)
  stops_in_it : (path : Path) (name : List ℕ) (paths : List Path) (group : List Mark) → file_name path ≡ Some name
      → OpenGroup w (join (all_but_last path) (name ∷ [])) (all_but_last path) group
      → HandedFront w (path ∷ paths) group

-- a front by its groups
pub record IsGroupedFront {F : Type 0} (w : World F) (paths : List Path) (marks : List Mark) : Type 0 where
  pub groups : HandedFront w paths marks
  pub once : StartsOnce [] marks
