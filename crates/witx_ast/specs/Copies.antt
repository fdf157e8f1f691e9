-- What a copy of definitions and entries keeps: the values behind what is shared, so a copy is equal and reads as the same trees.
use Rattle.std.specs.Prelude.{◌≡◌}
use Rattle.std.specs.List.{AllZip}
use Rattle.witx_base.specs.Copies.{IsCopyOfEntries}
use Rattle.witx_ast.specs.Entries.{Held}
use Rattle.witx_ast.specs.declared.module.ModuleDefinition as item
use Rattle.witx_ast.specs.declared.module.ModuleDefinition.TheVariants as item_variant
use Rattle.witx_ast.specs.declared.module.ModuleEntry as item_entry
use Rattle.witx_ast.specs.declared.module.ModuleEntry.TheVariants as item_entry_variant
use Rattle.witx_ast.specs.declared.definition.Definition as definition
use Rattle.witx_ast.specs.declared.definition.Definition.TheVariants as definition_variant
use Rattle.witx_ast.specs.declared.definition.Entry as entry
use Rattle.witx_ast.specs.declared.definition.Entry.TheVariants as entry_variant

-- both hold the same
abbrev pub HoldSameItem : item.ModuleDefinition → item.ModuleDefinition → Type 0
HoldSameItem (item_variant.Import i) (item_variant.Import j) = j.value ≡ i.value
HoldSameItem (item_variant.Func f) (item_variant.Func g) = g.value ≡ f.value
HoldSameItem _ _ = ⊥

abbrev pub HoldSameItemEntry : item_entry.ModuleEntry → item_entry.ModuleEntry → Type 0
HoldSameItemEntry (item_entry_variant.Import i) (item_entry_variant.Import j) = j.value ≡ i.value
HoldSameItemEntry (item_entry_variant.Func f) (item_entry_variant.Func g) = g.value ≡ f.value
HoldSameItemEntry _ _ = ⊥

abbrev pub HoldSame : definition.Definition → definition.Definition → Type 0
HoldSame (definition_variant.Typename n) (definition_variant.Typename m) = m.value ≡ n.value
HoldSame (definition_variant.Module n) (definition_variant.Module m) = m.value ≡ n.value
HoldSame (definition_variant.Constant k) (definition_variant.Constant c) = c ≡ k
HoldSame _ _ = ⊥

abbrev pub HoldSameEntry : entry.Entry → entry.Entry → Type 0
HoldSameEntry (entry_variant.Typename n) (entry_variant.Typename m) = m.value ≡ n.value
HoldSameEntry (entry_variant.Module n) (entry_variant.Module m) = m.value ≡ n.value
HoldSameEntry _ _ = ⊥

-- in order and by name
pub record IsCopyOf {D E : Type 0} (definition : D → D → Type 0) (entry : E → E → Type 0) (held copy : Held D E) : Type 0 where
  pub definitions : AllZip definition held.definitions copy.definitions
  pub entries : IsCopyOfEntries entry held.entries copy.entries
