-- A documented item is a copy of another where its comments are the same texts and its item is a copy.
use Rattle.std.specs.Prelude.{◌≡◌}
use Rattle.witx_comments.specs.Comments.{comments_view}
use Rattle.witx_comments.specs.declared.comment.Documented.{Documented}

abbrev pub IsCopyOfDocumented : {T : Type 0} → (T → T → Type 0) → Documented T → Documented T → Type 0
IsCopyOfDocumented is_copy noted made = (comments_view made.comments ≡ comments_view noted.comments) × is_copy noted.item made.item
