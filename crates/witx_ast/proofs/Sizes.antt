-- How deep a type is: along a chain of names it lessens.
use Rattle.std.specs.Prelude.{◌<◌}
use Rattle.std.proofs.Common.{arith}
use Rattle.std.specs.declared.alloc.Global.{Global}
use Rattle.std.specs.declared.rc.Rc.{Rc}
use Rattle.witx_ast.specs.declared.types.Datatype.TheViews.{sized-Name}
use Rattle.witx_ast.specs.declared.types.TypeRef.{size-TypeRef}
use Rattle.witx_ast.specs.declared.types.TypeRef.TheVariants as tref
use Rattle.witx_ast.specs.declared.types.NamedType.{NamedType, size-NamedType, size_is-NamedType}

pub size-name : (n : Rc NamedType Global) → size-NamedType n.value < size-TypeRef (tref.Name n)
size-name n = rw (sized-Name n) (omega arith)

pub size-named : (n : NamedType) → size-TypeRef n.tref < size-NamedType n
size-named n = rw (size_is-NamedType n) (omega arith)

pub ruleset size_rules = (size-name, size-named)
