-- Small files, computed: what they mean, and what comes first where they mean nothing.
use Rattle.std.specs.Prelude.{◌≡◌, refl, ℕ, zero, suc, List, [], ◌∷◌, false, Some, None, Ok, codes, if◌then◌else◌}
use Rattle.witx_base.specs.Paths.{Path, root, path_of, join}
use Rattle.witx_base.specs.Texts.{same_text}
use Rattle.witx_files.specs.Files.{Files}
use Rattle.witx_files.specs.declared.location.Location.{Location}
use Rattle.witx_comments.specs.Documentation.{documentation_of, margin_of, text_of_lines}
use Rattle.witx_syntax_tree.specs.Trees.{Name, TypeTree, NotedItem, builtin, ident, typename}
use Rattle.witx_syntax_tree.specs.declared.tree.BuiltinSyntax.TheVariants as word
use Rattle.witx_ast.specs.declared.types.BuiltinType.TheVariants as kind
use Rattle.witx_ast.specs.Tree.{Tree}
use Rattle.witx_ast.specs.Definitions.{typename_of}
use Rattle.witx_scope.specs.Faults.{Fault, name_already_exists}
use Rattle.witx_scope.specs.Places.{location_in}
use Rattle.witx_scope.specs.Positions.{made_type}
use Rattle.witx_order.specs.Items.{declaration, use_of, Declared}
use Rattle.witx_order.specs.Walks.{World, Place, beginning, declared_in, missing, faulty}
use Rattle.witx_order.specs.Verdicts.{Verdict, fine, refused, Turn, on, ends, turn, Leads, here, along, IsVerdict}
use Rattle.witx_order.proofs.FinalFronts.{fine-walk}
use Rattle.witx_walk.specs.Readings.{FileReading}
use Rattle.witx_walk.specs.Meaning.{world, past_of, fault_behind, MeansDocument}

-- the file of a name in the topmost folder
abbrev file : List ℕ → Path
file name = root ∷ name ∷ []

abbrev name_at : List ℕ → ℕ → Name
name_at name start = record { name = name; start = start; end = start }

abbrev typename_at : List ℕ → ℕ → TypeTree → NotedItem
typename_at name start type_ = record { comments = []; item = typename (name_at name start) type_ }

-- ---- four texts, and what each consists of

abbrev one : List ℕ
one = codes "(typename $t u8)"

abbrev all : List ℕ
all = codes "(use \"one\")\n(typename $u $t)"

abbrev lost : List ℕ
lost = codes "(use \"gone\")"

abbrev twice : List ℕ
twice = codes "(typename $t u8)\n(typename $t u16)"

abbrev t_of_one : NotedItem
t_of_one = typename_at (codes "t") 10 (builtin (word.U8 false))

abbrev u_of_all : NotedItem
u_of_all = typename_at (codes "u") 22 (ident (name_at (codes "t") 25))

abbrev second_t : NotedItem
second_t = typename_at (codes "t") 27 (builtin word.U16)

abbrev reading : FileReading
reading text =
    if same_text text one then Ok (declaration t_of_one ∷ [])
    else if same_text text all then Ok (use_of (codes "one") ∷ declaration u_of_all ∷ [])
    else if same_text text lost then Ok (use_of (codes "gone") ∷ [])
    else Ok (declaration t_of_one ∷ declaration second_t ∷ [])

abbrev files : Files
files = (file (codes "one"), one) ∷ (file (codes "all"), all) ∷ (file (codes "lost"), lost) ∷ (file (codes "twice"), twice) ∷ []

abbrev w : World Fault
w = world files [] reading

-- ---- so many marks without a fault from a place on, as far as there are

abbrev by_turn : (at : Place) (x : Turn Fault) → turn w at ≡ x → ((between : Place) → (last : Place) × Leads w between last) → (last : Place) × Leads w at last
by_turn at (on mark between) e rest = ((rest between).0, along at mark between (rest between).0 e (rest between).1)
by_turn at (ends v) e rest = (at, here at)

abbrev led : (n : ℕ) (at : Place) → (last : Place) × Leads w at last
led zero at = (at, here at)
led (suc n) at = by_turn at (turn w at) refl (led n)

comes : (n : ℕ) (handed : List Path) (v : Verdict Fault) → turn w (led n (beginning handed)).0 ≡ ends v → IsVerdict w handed v
comes n handed v e = record { last = (led n (beginning handed)).0; way = (led n (beginning handed)).1; end_is = e }

-- ---- a file by itself means its declaration

abbrev of_one : List Declared
of_one = declared_in (file (codes "one")) one t_of_one ∷ []

one_file : MeansDocument w (file (codes "one") ∷ []) (typename_of (codes "t") (Tree.builtin (kind.U8 false)) [] ∷ [])
unfolding path_of join same_text documentation_of margin_of text_of_lines location_in
one_file = (of_one, (fine-walk w (file (codes "one") ∷ []) of_one (comes 8 (file (codes "one") ∷ []) (fine of_one) refl), refl))

-- a used file stands before what is behind its use, and a name of it is looked through
abbrev of_all : List Declared
of_all = declared_in (file (codes "one")) one t_of_one ∷ declared_in (file (codes "all")) all u_of_all ∷ []

a_used_file : MeansDocument w (file (codes "all") ∷ [])
    (typename_of (codes "t") (Tree.builtin (kind.U8 false)) [] ∷ typename_of (codes "u") (Tree.named (codes "t") (Tree.builtin (kind.U8 false)) []) [] ∷ [])
unfolding path_of join same_text documentation_of margin_of text_of_lines location_in
a_used_file = (of_all, (fine-walk w (file (codes "all") ∷ []) of_all (comes 8 (file (codes "all") ∷ []) (fine of_all) refl), refl))

-- a file that isn't there is what comes first
a_missing_file : IsVerdict w (file (codes "lost") ∷ []) (refused (missing (file (codes "gone"))))
unfolding path_of join same_text
a_missing_file = comes 8 (file (codes "lost") ∷ []) (refused (missing (file (codes "gone")))) refl

-- ---- a name that two declarations introduce

abbrev first_of_twice : Declared
first_of_twice = declared_in (file (codes "twice")) twice t_of_one

abbrev second_of_twice : Declared
second_of_twice = declared_in (file (codes "twice")) twice second_t

abbrev in_twice : ℕ → ℕ → Location
in_twice line column = record { path = file (codes "twice"); line = line; column = column }

-- what the first leaves
behind_the_first : past_of (first_of_twice ∷ []) ≡ record {
  taken = record { name = codes "t"; place = in_twice 1 11; outcome = made_type (Tree.named (codes "t") (Tree.builtin (kind.U8 false)) []) } ∷ [];
  constants = [];
}
unfolding same_text documentation_of margin_of text_of_lines location_in
behind_the_first = refl

-- the second has a fault behind it, and none alone
a_fault_behind : fault_behind (first_of_twice ∷ []) second_of_twice ≡ Some (name_already_exists (codes "t") (in_twice 2 11) (in_twice 1 11))
unfolding same_text documentation_of margin_of text_of_lines location_in
a_fault_behind = refl

no_fault_alone : fault_behind [] second_of_twice ≡ None
unfolding same_text documentation_of margin_of text_of_lines location_in
no_fault_alone = refl

-- and that is what comes first
twice_is_refused : IsVerdict w (file (codes "twice") ∷ []) (refused (faulty (name_already_exists (codes "t") (in_twice 2 11) (in_twice 1 11))))
unfolding path_of join same_text documentation_of margin_of text_of_lines location_in
twice_is_refused = comes 8 (file (codes "twice") ∷ []) (refused (faulty (name_already_exists (codes "t") (in_twice 2 11) (in_twice 1 11)))) refl
