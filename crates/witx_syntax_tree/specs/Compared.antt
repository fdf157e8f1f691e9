-- What the comparisons of syntax decide. Each type has a reading without places; values are equal exactly where they read
-- the same, and a copy is equal to its original.
use Rattle.std.specs.Prelude.{◌≡◌, ℕ, Bool, IsTrue}
use Rattle.std.specs.Bool.{Decides}
use Rattle.witx_comments.specs.Comments.{Comments, comments_view}
use Rattle.witx_comments.specs.declared.comment.Documented.{Documented}
use Rattle.witx_syntax_tree.specs.declared.tree.FieldSyntax.{FieldSyntax}
use Rattle.witx_syntax_tree.specs.declared.tree.CaseSyntax.{CaseSyntax}
use Rattle.witx_syntax_tree.specs.declared.tree.ConstSyntax.{ConstSyntax}
use Rattle.witx_syntax_tree.specs.Trees.{Name}
use Rattle.witx_syntax_tree.specs.Unplaced.{unplaced, unplaced_maybe, unplaced_name}
use Rattle.witx_syntax_tree.specs.Views.{FieldView, CaseView, name_view, optional_view, type_view}

-- values are equal exactly where they read the same, and a copy is equal to its original
pub record Compares {T V : Type 0} (eq : T → T → Bool) (is_copy : T → T → Type 0) (reading : T → V) : Type 0 where
  pub equal : (a b : T) → Decides (eq a b) (reading a ≡ reading b)
  pub copied : (original made : T) → is_copy original made → IsTrue (eq made original)

-- a documented item, by its comments and a reading of the item
abbrev pub documented_reading : {T V : Type 0} → (T → V) → Documented T → Comments × V
documented_reading reading d = (comments_view d.comments, reading d.item)

-- the readings without places of what is a part of types and declarations: a field, a case, a constant
abbrev pub field_reading : FieldSyntax → FieldView
field_reading f = record { name = unplaced_name (name_view f.name); type_ = unplaced (type_view f.type_) }

abbrev pub case_reading : CaseSyntax → CaseView
case_reading c = record { name = unplaced_name (name_view c.name); ty = unplaced_maybe (optional_view c.ty) }

abbrev pub constant_reading : ConstSyntax → Name × (Name × ℕ)
constant_reading c = (unplaced_name (name_view c.ty), (unplaced_name (name_view c.name), c.value))
