-- Pages, computed.
use Rattle.std.specs.Prelude.{◌≡◌, codes, [], ◌∷◌, ◌++◌, false, Some, None}
use Rattle.std.specs.Fmt.{digits}
use Rattle.std.proofs.Common.{refl}
use Rattle.witx_base.specs.Texts.{same_text}
use Rattle.witx_ast.specs.declared.types.BuiltinType.{BuiltinType}
use Rattle.witx_ast.specs.declared.types.IntRepr.{IntRepr}
use Rattle.witx_ast.specs.declared.types.RecordKind.{RecordKind}
use Rattle.witx_ast.specs.declared.function.Abi.{Abi}
use Rattle.witx_ast.specs.Tree.{Tree, Fields, Arms}
use Rattle.witx_ast.specs.Functions.{FunctionTree}
use Rattle.witx_ast.specs.Items.{func_of}
use Rattle.witx_ast.specs.Definitions.{DefinitionTree, typename_of, module_of, constant_of}
use Rattle.witx_markdown.specs.Trees.{levels_of, text_order}
use Rattle.witx_docs.specs.Pages.{page_tree, page_text, missing_links}

abbrev u8 : Tree
u8 = Tree.builtin (BuiltinType.U8 false)

abbrev u32 : Tree
u32 = Tree.builtin (BuiltinType.U32 false)

abbrev bool : Tree
bool = Tree.variant_of IntRepr.U32 (Arms.bare (codes "false") [] (Arms.bare (codes "true") [] Arms.no_arms))

abbrev n : DefinitionTree
n = typename_of (codes "n") u32 []

-- a typename
number-page : page_text (n ∷ []) ≡ codes "# Types\n## <a href=\"#n\" name=\"n\"></a> `n`: `u32`\n\nSize: 4\n\nAlignment: 4\n\n# Modules\n"
unfolding page_tree digits same_text
number-page = refl

-- a record, whose documentation has a link that is found, one that is missing, and a backquote that none closes
abbrev r : DefinitionTree
r = typename_of (codes "r") (Tree.record_of RecordKind.Other (Fields.field (codes "a") u8 [] (Fields.field (codes "b") (Tree.named (codes "n") u32 []) [] Fields.no_fields)))
    (codes "See `n`, `gone`, `r::b` and `n.\n")

record-links : missing_links (r ∷ []) ≡ codes "n" ∷ codes "gone" ∷ []
unfolding page_tree digits same_text
record-links = refl

-- flags, each a bit
abbrev f : DefinitionTree
f = typename_of (codes "f") (Tree.record_of (RecordKind.Bitflags IntRepr.U8) (Fields.field (codes "a") bool [] (Fields.field (codes "b") bool [] Fields.no_fields))) []

-- a variant with a payload
abbrev v : DefinitionTree
v = typename_of (codes "v") (Tree.variant_of IntRepr.U8 (Arms.carries (codes "a") u32 [] (Arms.bare (codes "b") [] Arms.no_arms))) []

-- all three, one after the other
types-page : page_text (r ∷ f ∷ v ∷ [])
    ≡ codes "# Types\n## <a href=\"#r\" name=\"r\"></a> `r`: `Record`\nSee `n`, `gone`, [`r::b`](#r.b) and `n.\n\nSize: 8\n\nAlignment: 4\n"
    ++ codes "\n### Record members\n- <a href=\"#r.a\" name=\"r.a\"></a> `a`: `u8`\n\nOffset: 0\n"
    ++ codes "\n- <a href=\"#r.b\" name=\"r.b\"></a> `b`: [`n`](#n)\n\nOffset: 4\n"
    ++ codes "\n## <a href=\"#f\" name=\"f\"></a> `f`: `Record`\n\nSize: 1\n\nAlignment: 1\n"
    ++ codes "\n### Record members\n- <a href=\"#f.a\" name=\"f.a\"></a> `a`: `bool`\n\nBit: 0\n"
    ++ codes "\n- <a href=\"#f.b\" name=\"f.b\"></a> `b`: `bool`\n\nBit: 1\n"
    ++ codes "\n## <a href=\"#v\" name=\"v\"></a> `v`: `Variant`\n\nSize: 8\n\nAlignment: 4\n"
    ++ codes "\n### Variant Layout\n- size: 8\n- align: 4\n- tag_size: 1\n### Variant cases\n- <a href=\"#v.a\" name=\"v.a\"></a> `a`: `u32`\n"
    ++ codes "\n- <a href=\"#v.b\" name=\"v.b\"></a> `b`\n\n# Modules\n"
unfolding page_tree digits same_text
types-page = refl

-- a handle with a constant of its type
abbrev h : DefinitionTree
h = typename_of (codes "h") Tree.handle []

abbrev most : DefinitionTree
most = constant_of (record { ty = codes "h"; name = codes "most"; value = 9; docs = codes "Nine.\n" })

handle-page : page_text (h ∷ most ∷ [])
    ≡ codes "# Types\n## <a href=\"#h\" name=\"h\"></a> `h`: `Handle`\n\nSize: 4\n\nAlignment: 4\n"
    ++ codes "\n### Constants\n- <a href=\"#h.most\" name=\"h.most\"></a> `most`\nNine.\n\n### Supertypes\n# Modules\n"
unfolding page_tree digits same_text
handle-page = refl

-- a function
abbrev add : FunctionTree
add = record {
  abi = Abi.Preview1;
  name = codes "add";
  params = record { called = codes "x"; tree = u32; comment = codes "In.\n" } ∷ [];
  results = record { called = codes "y"; tree = u8; comment = [] } ∷ [];
  noreturn = false;
  comment = codes "Adds.\n";
}

abbrev m : DefinitionTree
m = module_of (record { name = codes "m"; comment = []; items = func_of add ∷ [] })

function-page : page_text (m ∷ [])
    ≡ codes "# Types\n# Modules\n## <a href=\"#m\" name=\"m\"></a> m\n### Imports\n### Functions\n"
    ++ codes "\n---\n\n#### <a href=\"#add\" name=\"add\"></a> `add(x: u32) -> u8`\nAdds.\n"
    ++ codes "\n##### Params\n- <a href=\"#add.x\" name=\"add.x\"></a> `x`: `u32`\nIn.\n"
    ++ codes "\n##### Results\n- <a href=\"#add.y\" name=\"add.y\"></a> `y`: `u8`\n\n"
unfolding page_tree digits same_text
function-page = refl

-- nodes that were added in another order than that of the text: 1 and 2 below the root, 3 and 5 below 1, 4 below 2, 6 below 3
unordered : levels_of (None ∷ Some 0 ∷ Some 0 ∷ Some 1 ∷ Some 2 ∷ Some 1 ∷ Some 3 ∷ []) 0 ≡ 1 ∷ 2 ∷ 3 ∷ 5 ∷ 6 ∷ 4 ∷ []
unordered = refl

unordered-text : text_order (None ∷ Some 0 ∷ Some 0 ∷ Some 1 ∷ Some 2 ∷ Some 1 ∷ Some 3 ∷ []) ≡ 0 ∷ 1 ∷ 3 ∷ 6 ∷ 5 ∷ 2 ∷ 4 ∷ []
unordered-text = refl
