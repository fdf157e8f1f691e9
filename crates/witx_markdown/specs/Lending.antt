-- What a tree is once a content of it was lent: it has the content that was left there.
use Rattle.std.specs.Prelude.{ℕ}
use Rattle.std.specs.Borrow.{Lends, MutBor, Fml}
use Rattle.std.specs.List.{slice_set}
use Rattle.witx_markdown.specs.declared.content.MdContent.{MdContent}
use Rattle.witx_markdown.specs.contracts.content.MdContent as content
use Rattle.witx_markdown.specs.contracts.tree.MdTree as tree
use Rattle.witx_markdown.specs.Trees.{PageTree}

abbrev pub LendsContent : MutBor PageTree → ℕ → MutBor MdContent → Fml
LendsContent t n r = Lends tree.the_row content.the_row t r (λ c. record t.now { contents = slice_set t.now.contents n c })
