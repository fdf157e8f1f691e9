-- The word for what stands under a name.
use Rattle.std.specs.Prelude.{ℕ, List, codes}
use Rattle.witx_ast.specs.declared.definition.Entry as entry
use Rattle.witx_ast.specs.declared.definition.Entry.TheVariants as entry_variant

abbrev pub entry_word : entry.Entry → List ℕ
entry_word (entry_variant.Typename n) = codes "typename"
entry_word (entry_variant.Module m) = codes "module"
