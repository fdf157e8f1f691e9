-- What a definition of a document holds, where it is of one kind.
use Rattle.std.specs.Prelude.{Option, Some, None}
use Rattle.std.specs.declared.alloc.Global.{Global}
use Rattle.std.specs.declared.rc.Rc.{Rc}
use Rattle.witx_ast.specs.declared.types.NamedType.{NamedType}
use Rattle.witx_ast.specs.declared.module.Module.{Module}
use Rattle.witx_ast.specs.declared.definition.Constant.{Constant}
use Rattle.witx_ast.specs.declared.definition.Definition as definition
use Rattle.witx_ast.specs.declared.definition.Definition.TheVariants as definition_variant

abbrev pub typename_kind : definition.Definition → Option (Rc NamedType Global)
typename_kind (definition_variant.Typename n) = Some n
typename_kind (definition_variant.Module m) = None
typename_kind (definition_variant.Constant c) = None

abbrev pub module_kind : definition.Definition → Option (Rc Module Global)
module_kind (definition_variant.Typename n) = None
module_kind (definition_variant.Module m) = Some m
module_kind (definition_variant.Constant c) = None

abbrev pub constant_kind : definition.Definition → Option Constant
constant_kind (definition_variant.Typename n) = None
constant_kind (definition_variant.Module m) = None
constant_kind (definition_variant.Constant c) = Some c
