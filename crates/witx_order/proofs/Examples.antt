-- Small files, computed: in which order their marks come, and where a walk stops.
use Rattle.std.specs.Prelude.{◌≡◌, refl, ℕ, zero, suc, List, [], ◌∷◌, Option, None, Some, Result, Ok, Err, codes, if◌then◌else◌}
use Rattle.witx_base.specs.Paths.{Path, root, path_of, join}
use Rattle.witx_base.specs.Texts.{same_text}
use Rattle.witx_files.specs.Files.{same_path}
use Rattle.witx_syntax_tree.specs.Trees.{NotedItem, typename, handle}
use Rattle.witx_order.specs.Items.{TextItem, declaration, use_of, SyntaxFault, Declared}
use Rattle.witx_order.specs.Walks.{World, Mark, start, decl, skip, end, Place, Next, go, stuck, over, missing, next, beginning, declared_in}

-- the file of a name in the topmost folder
abbrev file : List ℕ → Path
file name = root ∷ name ∷ []

abbrev topmost : Path
topmost = root ∷ []

-- a typename of a name
abbrev named : List ℕ → NotedItem
named name = record { comments = []; item = typename (record { name = name; start = 0; end = 0 }) handle }

-- the text of each of these files is its name; `lost` is used, and isn't there
abbrev text_of : Path → Option (List ℕ)
text_of (top ∷ name ∷ []) = if same_text name (codes "lost") then None else Some name
text_of _ = None

-- `all` uses `left` and `right`, each of which uses `base`; `middle` uses `base` between two declarations; `one` and
-- `two` use each other; `broken` uses what is lost
abbrev items_in : List ℕ → List TextItem
items_in text =
    if same_text text (codes "all") then use_of (codes "left") ∷ use_of (codes "right") ∷ declaration (named (codes "t")) ∷ []
    else if same_text text (codes "left") then use_of (codes "base") ∷ []
    else if same_text text (codes "right") then use_of (codes "base") ∷ []
    else if same_text text (codes "middle") then declaration (named (codes "t")) ∷ use_of (codes "base") ∷ declaration (named (codes "v")) ∷ []
    else if same_text text (codes "one") then use_of (codes "two") ∷ []
    else if same_text text (codes "two") then use_of (codes "one") ∷ []
    else if same_text text (codes "broken") then declaration (named (codes "t")) ∷ use_of (codes "lost") ∷ []
    else declaration (named (codes "u")) ∷ []

abbrev files : World (List ℕ)
files = record { text_at = text_of; canonical = λ path. path; reading = λ text. Ok (items_in text); fault_of = λ before δ. None }

-- so many marks from a place on, and what comes behind so many
abbrev behind : {A : Type 0} → (Mark → Place → A) → (Next (List ℕ) → A) → Next (List ℕ) → A
behind on stop (go mark between) = on mark between
behind on stop (stuck refusal) = stop (stuck refusal)
behind on stop over = stop over

abbrev marks : ℕ → Place → List Mark
marks zero at = []
marks (suc n) at = behind (λ mark between. mark ∷ marks n between) (λ stopped. []) (next files at)

abbrev stop : ℕ → Place → Next (List ℕ)
stop zero at = next files at
stop (suc n) at = behind (λ mark between. stop n between) (λ stopped. stopped) (next files at)

abbrev item_of : List ℕ → List ℕ → Declared
item_of name text = declared_in (file text) text (named name)

-- a file that two others use starts once, at its first use, and is skipped at its second
diamond : marks 20 (beginning (file (codes "all") ∷ []))
    ≡ start (file (codes "all")) topmost
    ∷ start (file (codes "left")) topmost
    ∷ start (file (codes "base")) topmost
    ∷ decl (item_of (codes "u") (codes "base"))
    ∷ end (file (codes "base"))
    ∷ end (file (codes "left"))
    ∷ start (file (codes "right")) topmost
    ∷ skip (file (codes "base"))
    ∷ end (file (codes "right"))
    ∷ decl (item_of (codes "t") (codes "all"))
    ∷ end (file (codes "all")) ∷ []
unfolding path_of join same_text
diamond = refl

-- the used file stands whole where it is used, between the declarations before and behind
in_between : marks 20 (beginning (file (codes "middle") ∷ []))
    ≡ start (file (codes "middle")) topmost
    ∷ decl (item_of (codes "t") (codes "middle"))
    ∷ start (file (codes "base")) topmost
    ∷ decl (item_of (codes "u") (codes "base"))
    ∷ end (file (codes "base"))
    ∷ decl (item_of (codes "v") (codes "middle"))
    ∷ end (file (codes "middle")) ∷ []
unfolding path_of join same_text
in_between = refl

-- in a circle of uses the file that is open is skipped
circle : marks 20 (beginning (file (codes "one") ∷ []))
    ≡ start (file (codes "one")) topmost
    ∷ start (file (codes "two")) topmost
    ∷ skip (file (codes "one"))
    ∷ end (file (codes "two"))
    ∷ end (file (codes "one")) ∷ []
unfolding path_of join same_text
circle = refl

-- a handed path that was used before is skipped
handed_twice : marks 20 (beginning (file (codes "base") ∷ file (codes "base") ∷ []))
    ≡ start (file (codes "base")) topmost
    ∷ decl (item_of (codes "u") (codes "base"))
    ∷ end (file (codes "base"))
    ∷ skip (file (codes "base")) ∷ []
unfolding path_of join same_text
handed_twice = refl

-- these walks come to their ends
diamond_ends : stop 20 (beginning (file (codes "all") ∷ [])) ≡ over
unfolding path_of join same_text
diamond_ends = refl

circle_ends : stop 20 (beginning (file (codes "one") ∷ [])) ≡ over
unfolding path_of join same_text
circle_ends = refl

-- a used file that isn't there: the walk stops behind the declaration before the use
lost : marks 20 (beginning (file (codes "broken") ∷ [])) ≡ start (file (codes "broken")) topmost ∷ decl (item_of (codes "t") (codes "broken")) ∷ []
unfolding path_of join same_text
lost = refl

lost_is_missing : stop 20 (beginning (file (codes "broken") ∷ [])) ≡ stuck (missing (file (codes "lost")))
unfolding path_of join same_text
lost_is_missing = refl
