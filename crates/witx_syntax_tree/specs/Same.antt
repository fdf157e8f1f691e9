-- Two trees are the same up to places, as a test.
use Rattle.std.specs.Prelude.{ℕ, List, Bool, true, false, ◌&&◌, ◌==◌}
use Rattle.std.specs.Option.{option_eq}
use Rattle.std.specs.Cmp.Lexicographic.{pointwise}
use Rattle.witx_base.specs.SameBytes.{same_bytes}
use Rattle.witx_comments.specs.Comments.{Comments}
use Rattle.witx_syntax_tree.specs.Trees.{Name, Member, TypeTree, Maybe, Types, Fields, UnionFields, Cases}
use Rattle.witx_syntax_tree.specs.contracts.tree.BuiltinSyntaxPartialEq.TheImpl as builtins

abbrev pub same_comments : Comments → Comments → Bool
same_comments = pointwise same_bytes

abbrev pub same_name : Name → Name → Bool
same_name n m = same_bytes n.name m.name

abbrev pub same_member : Member → Member → Bool
same_member x y = same_comments x.comments y.comments && same_name x.name y.name

abbrev mutual
  pub same_type : TypeTree → TypeTree → Bool
  same_type (TypeTree.ident n) (TypeTree.ident m) = same_name n m
  same_type (TypeTree.builtin b) (TypeTree.builtin c) = builtins.ghosts.eq b c
  same_type TypeTree.string TypeTree.string = true
  same_type TypeTree.boolean TypeTree.boolean = true
  same_type TypeTree.handle TypeTree.handle = true
  same_type (TypeTree.list_of t) (TypeTree.list_of u) = same_type t u
  same_type (TypeTree.pointer_to t) (TypeTree.pointer_to u) = same_type t u
  same_type (TypeTree.const_pointer_to t) (TypeTree.const_pointer_to u) = same_type t u
  same_type (TypeTree.tuple_of ts) (TypeTree.tuple_of us) = same_types ts us
  same_type (TypeTree.enum_of r ms) (TypeTree.enum_of q ns) = option_eq builtins.ghosts.eq r q && pointwise same_member ms ns
  same_type (TypeTree.flags_of r ms) (TypeTree.flags_of q ns) = option_eq builtins.ghosts.eq r q && pointwise same_member ms ns
  same_type (TypeTree.record_of fs) (TypeTree.record_of gs) = same_fields fs gs
  same_type (TypeTree.union_of t fs) (TypeTree.union_of u gs) = same_maybe t u && same_union_fields fs gs
  same_type (TypeTree.variant_of t cs) (TypeTree.variant_of u ds) = same_maybe t u && same_cases cs ds
  same_type (TypeTree.expected t e) (TypeTree.expected u f) = same_maybe t u && same_maybe e f
  same_type _ _ = false

  pub same_maybe : Maybe → Maybe → Bool
  same_maybe Maybe.absent Maybe.absent = true
  same_maybe (Maybe.present t) (Maybe.present u) = same_type t u
  same_maybe _ _ = false

  pub same_types : Types → Types → Bool
  same_types Types.no_types Types.no_types = true
  same_types (Types.one_type t ts) (Types.one_type u us) = same_type t u && same_types ts us
  same_types _ _ = false

  pub same_fields : Fields → Fields → Bool
  same_fields Fields.no_fields Fields.no_fields = true
  same_fields (Fields.one_field c n t fs) (Fields.one_field d m u gs) = same_comments c d && (same_name n m && same_type t u) && same_fields fs gs
  same_fields _ _ = false

  pub same_union_fields : UnionFields → UnionFields → Bool
  same_union_fields UnionFields.no_union_fields UnionFields.no_union_fields = true
  same_union_fields (UnionFields.one_union_field c t fs) (UnionFields.one_union_field d u gs) = same_comments c d && same_type t u && same_union_fields fs gs
  same_union_fields _ _ = false

  pub same_cases : Cases → Cases → Bool
  same_cases Cases.no_cases Cases.no_cases = true
  same_cases (Cases.one_case c n t cs) (Cases.one_case d m u ds) = same_comments c d && (same_name n m && same_maybe t u) && same_cases cs ds
  same_cases _ _ = false
