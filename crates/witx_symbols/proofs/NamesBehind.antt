-- The names of a type, looked through one by one: what stands behind has the type's plain tree, and is no deeper.
use Rattle.std.proofs.Common.{◌≡◌, ◌≤◌, sym, ap, ◌∙◌, arith}
use Rattle.std.specs.declared.alloc.Global.{Global}
use Rattle.std.specs.declared.rc.Rc.{Rc}
use Rattle.witx_ast.specs.declared.types.NamedType.{NamedType}
use Rattle.witx_ast.specs.declared.types.TypeRef.{TypeRef}
use Rattle.witx_ast.specs.declared.types.TypeRef.TheVariants as tref
use Rattle.witx_ast.specs.Plain.{plain}
use Rattle.witx_ast.specs.Views.{tree_of}
use Rattle.witx_ast.proofs.types.TypeRef.TheLaws.{the_size}
use Rattle.witx_extent.proofs.Depths.{behind-name, behind-plain}

abbrev pub StandsBehind : (whole now : TypeRef) → Type 0
StandsBehind whole now = (plain (tree_of now) ≡ plain (tree_of whole)) × (the_size now ≤ the_size whole)

pub next-behind : (whole now : TypeRef) (n : Rc NamedType Global) (next : NamedType) → now ≡ tref.Name n → next ≡ n.value → StandsBehind whole now → StandsBehind whole next.tref
next-behind whole now n next is held h =
    let shallower : the_size next.tref ≤ the_size now = rw (held, is) (behind-name n) in
    (rw (held) (sym (behind-plain n) ∙ ap (λ t. plain (tree_of t)) (sym is) ∙ h.0), omega (arith, shallower, h.1))
