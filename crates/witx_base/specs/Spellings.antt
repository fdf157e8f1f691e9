-- The bytes that a spelling spells, wherever they lie.
use Rattle.std.specs.Prelude.{ℕ, List}
use Rattle.witx_base.specs.declared.spelling.Spelling.{Spelling}
use Rattle.witx_base.specs.declared.spelling.Spelling.TheVariants as spelling

abbrev pub spelled : Spelling → List ℕ
spelled (spelling.Short text) = text
spelled (spelling.Long text) = text.value
