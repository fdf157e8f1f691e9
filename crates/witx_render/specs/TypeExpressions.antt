-- The expression that a type is printed as, form by form.
-- A use of a name is its identifier. Members and cases carry their documentation; what a name stands for is not entered.
-- Before `repr` and `tag` the text `@witx` is a word, elsewhere it is an annotation.
use Rattle.std.specs.Prelude.{ℕ, Bool, true, false, List, [], ◌∷◌, codes}
use Rattle.witx_ast.specs.declared.types.BuiltinType.{BuiltinType}
use Rattle.witx_ast.specs.declared.types.IntRepr.{IntRepr}
use Rattle.witx_ast.specs.declared.types.RecordKind.{RecordKind}
use Rattle.witx_ast.specs.Tree.{Tree, Fields, Arms, arm_list}
use Rattle.witx_ast.specs.Words.{all_arms_bare, is_bool_arms}
use Rattle.witx_render.specs.Expressions.{SExpr, vec, word, ident, annot, SExprs, nil, ◌▹◌, with_docs}

-- `(@witx WORD)`
abbrev pub witx_expr : List ℕ → SExpr
witx_expr w = vec (annot (codes "witx") ▹ word w ▹ nil)

abbrev pub builtin_expr : BuiltinType → SExpr
builtin_expr BuiltinType.Char = word (codes "char")
builtin_expr (BuiltinType.U8 true) = witx_expr (codes "char8")
builtin_expr (BuiltinType.U8 false) = word (codes "u8")
builtin_expr BuiltinType.U16 = word (codes "u16")
builtin_expr (BuiltinType.U32 true) = witx_expr (codes "usize")
builtin_expr (BuiltinType.U32 false) = word (codes "u32")
builtin_expr BuiltinType.U64 = word (codes "u64")
builtin_expr BuiltinType.S8 = word (codes "s8")
builtin_expr BuiltinType.S16 = word (codes "s16")
builtin_expr BuiltinType.S32 = word (codes "s32")
builtin_expr BuiltinType.S64 = word (codes "s64")
builtin_expr BuiltinType.F32 = word (codes "f32")
builtin_expr BuiltinType.F64 = word (codes "f64")

abbrev pub repr_expr : IntRepr → SExpr
repr_expr IntRepr.U8 = word (codes "u8")
repr_expr IntRepr.U16 = word (codes "u16")
repr_expr IntRepr.U32 = word (codes "u32")
repr_expr IntRepr.U64 = word (codes "u64")

-- `(@witx repr R)` and `(@witx tag R)`, with `@witx` as a word
abbrev pub width_expr : List ℕ → IntRepr → SExpr
width_expr w r = vec (word (codes "@witx") ▹ word w ▹ repr_expr r ▹ nil)

abbrev pub handle_expr : SExpr
handle_expr = vec (word (codes "handle") ▹ nil)

-- `(@witx pointer T)` and `(@witx const_pointer T)`
abbrev pub pointer_expr : List ℕ → SExpr → SExpr
pointer_expr w t = vec (annot (codes "witx") ▹ word w ▹ t ▹ nil)

-- `(WORD $name T)`: a typename, a field, a parameter, a result
abbrev pub named_expr : List ℕ → List ℕ → SExpr → SExpr
named_expr w n t = vec (word w ▹ ident n ▹ t ▹ nil)

-- no case has a payload
abbrev pub have_no_payload : Arms → Bool
have_no_payload cs = all_arms_bare (arm_list cs)

-- a record, by its kind, its members' expressions behind its first words
abbrev pub record_expr : RecordKind → SExprs → SExpr
record_expr RecordKind.Tuple members = vec (word (codes "tuple") ▹ members)
record_expr (RecordKind.Bitflags r) members = vec (word (codes "flags") ▹ width_expr (codes "repr") r ▹ members)
record_expr RecordKind.Other members = vec (word (codes "record") ▹ members)

-- a member, by the kind of its record, its name and its type's expression
abbrev pub member_expr : RecordKind → List ℕ → SExpr → SExpr
member_expr RecordKind.Tuple n t = t
member_expr (RecordKind.Bitflags r) n t = ident n
member_expr RecordKind.Other n t = named_expr (codes "field") n t

-- a variant: whether it is a bool, whether it is an enum, its tag and its cases
abbrev pub variant_expr : Bool → Bool → IntRepr → SExprs → SExpr
variant_expr true bare r cases = word (codes "bool")
variant_expr false true r cases = vec (word (codes "enum") ▹ width_expr (codes "tag") r ▹ cases)
variant_expr false false r cases = vec (word (codes "variant") ▹ width_expr (codes "tag") r ▹ cases)

-- a case: whether it stands in an enum, its name, and its payload's expression where it has one
abbrev pub case_expr : Bool → List ℕ → SExprs → SExpr
case_expr true n payload = ident n
case_expr false n payload = vec (word (codes "case") ▹ ident n ▹ payload)

abbrev mutual
  pub type_expr : Tree → SExpr
  type_expr (Tree.named n t d) = ident n
  type_expr (Tree.builtin b) = builtin_expr b
  type_expr Tree.handle = handle_expr
  type_expr (Tree.list_of t) = vec (word (codes "list") ▹ type_expr t ▹ nil)
  type_expr (Tree.pointer_to t) = pointer_expr (codes "pointer") (type_expr t)
  type_expr (Tree.const_pointer_to t) = pointer_expr (codes "const_pointer") (type_expr t)
  type_expr (Tree.record_of kind ms) = record_expr kind (member_exprs kind ms)
  type_expr (Tree.variant_of r cs) = variant_expr (is_bool_arms (arm_list cs)) (have_no_payload cs) r (case_exprs (have_no_payload cs) cs)

  pub member_exprs : RecordKind → Fields → SExprs
  member_exprs kind Fields.no_fields = nil
  member_exprs kind (Fields.field n t d ms) = with_docs d (member_expr kind n (type_expr t)) ▹ member_exprs kind ms

  pub case_exprs : Bool → Arms → SExprs
  case_exprs bare Arms.no_arms = nil
  case_exprs bare (Arms.bare n d cs) = with_docs d (case_expr bare n nil) ▹ case_exprs bare cs
  case_exprs bare (Arms.carries n t d cs) = with_docs d (case_expr bare n (type_expr t ▹ nil)) ▹ case_exprs bare cs
