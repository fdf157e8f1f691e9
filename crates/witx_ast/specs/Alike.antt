-- Whether two plain trees are equal, as a test: the test of alike types.
use Rattle.std.specs.Prelude.{Bool, true, false, ◌&&◌}
use Rattle.witx_ast.specs.declared.types.BuiltinType.{BuiltinType}
use Rattle.witx_ast.specs.Plain.{Plain, Fields, Arms}
use Rattle.witx_base.specs.SameBytes.{same_bytes}
use Rattle.witx_ast.specs.contracts.types.BuiltinTypePartialEq.TheImpl as builtins
use Rattle.witx_ast.specs.contracts.types.IntReprPartialEq.TheImpl as reprs
use Rattle.witx_ast.specs.contracts.types.RecordKindPartialEq.TheImpl as kinds

abbrev pub same_builtin : BuiltinType → BuiltinType → Bool
same_builtin = builtins.ghosts.eq

abbrev mutual
  pub same_plain : Plain → Plain → Bool
  same_plain (Plain.builtin b) (Plain.builtin c) = same_builtin b c
  same_plain Plain.handle Plain.handle = true
  same_plain (Plain.list_of t) (Plain.list_of u) = same_plain t u
  same_plain (Plain.pointer_to t) (Plain.pointer_to u) = same_plain t u
  same_plain (Plain.const_pointer_to t) (Plain.const_pointer_to u) = same_plain t u
  same_plain (Plain.record_of k ms) (Plain.record_of l ns) = kinds.ghosts.eq k l && same_plain_fields ms ns
  same_plain (Plain.variant_of r cs) (Plain.variant_of q ds) = reprs.ghosts.eq r q && same_plain_arms cs ds
  same_plain _ _ = false

  pub same_plain_fields : Fields → Fields → Bool
  same_plain_fields Fields.no_fields Fields.no_fields = true
  same_plain_fields (Fields.field n t ms) (Fields.field m u ns) = same_bytes n m && same_plain t u && same_plain_fields ms ns
  same_plain_fields _ _ = false

  pub same_plain_arms : Arms → Arms → Bool
  same_plain_arms Arms.no_arms Arms.no_arms = true
  same_plain_arms (Arms.bare n cs) (Arms.bare m ds) = same_bytes n m && same_plain_arms cs ds
  same_plain_arms (Arms.carries n t cs) (Arms.carries m u ds) = same_bytes n m && same_plain t u && same_plain_arms cs ds
  same_plain_arms _ _ = false
