-- A document with all documentation emptied; nothing else changes.
use Rattle.std.specs.Prelude.{ℕ, List, [], ◌∷◌, map}
use Rattle.witx_ast.specs.Tree.{Tree, Fields, Arms, Field}
use Rattle.witx_ast.specs.Functions.{FunctionTree}
use Rattle.witx_ast.specs.Items.{ItemTree, import_of, func_of}

abbrev mutual
  pub emptied : Tree → Tree
  emptied (Tree.named n t d) = Tree.named n (emptied t) []
  emptied (Tree.builtin b) = Tree.builtin b
  emptied Tree.handle = Tree.handle
  emptied (Tree.list_of t) = Tree.list_of (emptied t)
  emptied (Tree.pointer_to t) = Tree.pointer_to (emptied t)
  emptied (Tree.const_pointer_to t) = Tree.const_pointer_to (emptied t)
  emptied (Tree.record_of kind ms) = Tree.record_of kind (emptied_fields ms)
  emptied (Tree.variant_of r cs) = Tree.variant_of r (emptied_arms cs)

  pub emptied_fields : Fields → Fields
  emptied_fields Fields.no_fields = Fields.no_fields
  emptied_fields (Fields.field n t d ms) = Fields.field n (emptied t) [] (emptied_fields ms)

  pub emptied_arms : Arms → Arms
  emptied_arms Arms.no_arms = Arms.no_arms
  emptied_arms (Arms.bare n d cs) = Arms.bare n [] (emptied_arms cs)
  emptied_arms (Arms.carries n t d cs) = Arms.carries n (emptied t) [] (emptied_arms cs)

abbrev pub emptied_param : Field → Field
emptied_param p = record { called = p.called; tree = emptied p.tree; comment = [] }

abbrev pub emptied_func : FunctionTree → FunctionTree
emptied_func f = record {
  abi = f.abi;
  name = f.name;
  params = map emptied_param f.params;
  results = map emptied_param f.results;
  noreturn = f.noreturn;
  comment = [];
}

abbrev pub emptied_item : ItemTree → ItemTree
emptied_item (import_of i) = import_of (record { name = i.name; variant = i.variant; docs = [] })
emptied_item (func_of f) = func_of (emptied_func f)
