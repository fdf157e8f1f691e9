-- Printed texts, row by row, by computation.
use Rattle.std.proofs.Common.{◌≡◌, ℕ, Bool, true, false, List, [], ◌∷◌, ◌++◌, refl}
use Rattle.std.specs.Prelude.{codes}
use Rattle.witx_base.specs.Texts.{same_text}
use Rattle.witx_ast.specs.declared.types.BuiltinType.{BuiltinType}
use Rattle.witx_ast.specs.declared.types.IntRepr.{IntRepr}
use Rattle.witx_ast.specs.declared.types.RecordKind.{RecordKind}
use Rattle.witx_ast.specs.declared.function.Abi.{Abi}
use Rattle.witx_ast.specs.declared.module.ModuleImportVariant.TheVariants.{Memory}
use Rattle.witx_ast.specs.Tree.{Tree, Fields, Arms}
use Rattle.witx_ast.specs.Items.{import_of, func_of}
use Rattle.witx_ast.specs.Definitions.{DefinitionTree, typename_of, module_of}
use Rattle.witx_render.specs.Expressions.{ident, with_docs, text_of}
use Rattle.witx_render.specs.TypeExpressions.{type_expr}
use Rattle.witx_render.specs.ModuleExpressions.{func_expr}
use Rattle.witx_render.specs.DocumentTexts.{document_text}

abbrev shown : Tree → List ℕ
shown t = text_of (type_expr t)

byte : Tree
byte = Tree.builtin (BuiltinType.U8 false)

-- ---- types

a_char8 : shown (Tree.builtin (BuiltinType.U8 true)) ≡ codes "(@witx char8)"
a_char8 = refl

a_usize : shown (Tree.builtin (BuiltinType.U32 true)) ≡ codes "(@witx usize)"
a_usize = refl

an_f64 : shown (Tree.builtin BuiltinType.F64) ≡ codes "f64"
an_f64 = refl

-- what a name stands for, and its documentation, aren't entered
a_name : shown (Tree.named (codes "size") byte (codes "A size.")) ≡ codes "$size"
a_name = refl

a_handle : shown Tree.handle ≡ codes "(handle)"
a_handle = refl

a_list : shown (Tree.list_of (Tree.named (codes "a") byte [])) ≡ codes "(list $a)"
a_list = refl

a_pointer : shown (Tree.pointer_to (Tree.list_of (Tree.builtin (BuiltinType.U8 false)))) ≡ codes "(@witx pointer (list u8))"
a_pointer = refl

a_const_pointer : shown (Tree.const_pointer_to (Tree.builtin BuiltinType.S16)) ≡ codes "(@witx const_pointer s16)"
a_const_pointer = refl

abbrev members : Fields
members = Fields.field (codes "x") (Tree.builtin BuiltinType.U16) (codes "First.") (Fields.field (codes "y") (Tree.builtin BuiltinType.S64) [] Fields.no_fields)

a_tuple : shown (Tree.record_of RecordKind.Tuple members) ≡ codes "(tuple (;; First. ;) u16 s64)"
a_tuple = refl

flags : shown (Tree.record_of (RecordKind.Bitflags IntRepr.U16) members) ≡ codes "(flags (@witx repr u16) (;; First. ;) $x $y)"
flags = refl

a_record : shown (Tree.record_of RecordKind.Other members) ≡ codes "(record (;; First. ;) (field $x u16) (field $y s64))"
a_record = refl

no_members : shown (Tree.record_of RecordKind.Other Fields.no_fields) ≡ codes "(record)"
no_members = refl

-- the cases of one name each
abbrev cases : List ℕ → List ℕ → Arms
cases m n = Arms.bare m [] (Arms.bare n [] Arms.no_arms)

-- `false` and `true` print `bool`, whatever their tag
a_bool : shown (Tree.variant_of IntRepr.U8 (cases (codes "false") (codes "true"))) ≡ codes "bool"
unfolding same_text
a_bool = refl

not_a_bool : shown (Tree.variant_of IntRepr.U32 (cases (codes "true") (codes "false"))) ≡ codes "(enum (@witx tag u32) $true $false)"
unfolding same_text
not_a_bool = refl

no_cases : shown (Tree.variant_of IntRepr.U8 Arms.no_arms) ≡ codes "(enum (@witx tag u8))"
no_cases = refl

a_variant : shown (Tree.variant_of IntRepr.U64 (Arms.bare (codes "a") (codes "None.") (Arms.carries (codes "b") (Tree.builtin BuiltinType.Char) [] Arms.no_arms)))
    ≡ codes "(variant (@witx tag u64) (;; None. ;) (case $a) (case $b char))"
unfolding same_text
a_variant = refl

-- ---- functions

abbrev a_function : Bool → Abi → List ℕ
a_function noreturn abi = text_of (func_expr (record {
  abi = abi;
  name = codes "f";
  comment = codes "Does.";
  noreturn = noreturn;
  params = record { called = codes "x"; tree = Tree.builtin BuiltinType.U16; comment = [] } ∷ [];
  results = record { called = codes "r"; tree = Tree.named (codes "e") (Tree.builtin BuiltinType.S8) []; comment = codes "Says." } ∷ [];
}))

stored : a_function true Abi.Stored
    ≡ codes "(;; Does. ;) (@interface func (export \"f\") (param $x u16) (;; Says. ;) (result $r $e) (@witx noreturn) (@witx stored))"
stored = refl

returning : a_function false Abi.Preview1 ≡ codes "(;; Does. ;) (@interface func (export \"f\") (param $x u16) (;; Says. ;) (result $r $e))"
returning = refl

-- ---- documents

abbrev an_enum : DefinitionTree
an_enum = typename_of (codes "t") (Tree.variant_of IntRepr.U8 (cases (codes "a") (codes "b"))) []

abbrev a_choice : DefinitionTree
a_choice = typename_of (codes "v") (Tree.variant_of IntRepr.U8 (Arms.bare (codes "a") [] (Arms.carries (codes "b") (Tree.builtin (BuiltinType.U8 false)) [] Arms.no_arms))) []

-- a function that stands before the import
abbrev a_module : DefinitionTree
a_module = module_of (record {
  name = codes "m";
  comment = [];
  items =
      func_of (record { abi = Abi.Preview1; name = codes "f"; params = []; results = []; noreturn = true; comment = [] })
      ∷ import_of (record { name = codes "memory"; variant = Memory; docs = [] }) ∷ [];
})

-- typenames before modules, imports before functions
a_document : document_text (an_enum ∷ a_module ∷ a_choice ∷ [])
    ≡ codes "(typename $t (enum (@witx tag u8) $a $b))\n(typename $v (variant (@witx tag u8) (case $a) (case $b u8)))\n"
    ++ codes "(module $m (import \"memory\" (memory)) (@interface func (export \"f\") (@witx noreturn)))\n"
unfolding same_text document_text
a_document = refl

nothing : document_text [] ≡ []
unfolding document_text
nothing = refl

no_docs : with_docs [] (ident (codes "x")) ≡ ident (codes "x")
no_docs = refl
