-- A name is no shallower than the type that it stands for, and has its plain tree.
use Rattle.std.proofs.Common.{◌≡◌, ◌≤◌, refl, rules}
use Rattle.std.specs.declared.alloc.Global.{Global}
use Rattle.std.specs.declared.rc.Rc.{Rc}
use Rattle.witx_ast.specs.declared.types.Datatype.{the_lemmas}
use Rattle.witx_ast.specs.declared.types.NamedType.{NamedType}
use Rattle.witx_ast.specs.declared.types.TypeRef.TheVariants as tref
use Rattle.witx_ast.specs.Plain.{plain}
use Rattle.witx_ast.specs.Views.{tree_of}
use Rattle.witx_ast.proofs.Trees.{tree-Name, tree-NamedType}
use Rattle.witx_ast.proofs.types.TypeRef.TheLaws.{the_size}

pub behind-name : (n : Rc NamedType Global) → the_size n.value.tref ≤ the_size (tref.Name n)
unfolding Rattle.witx_ast.specs.declared.types.Datatype.TheBlock.the_depth
behind-name n = search (rules, the_lemmas)

pub behind-plain : (n : Rc NamedType Global) → plain (tree_of (tref.Name n)) ≡ plain (tree_of n.value.tref)
behind-plain n = rw (tree-Name n, tree-NamedType n.value) refl
