-- The bytes of the string in a store, whether other texts share it or not.
use Rattle.std.specs.Prelude.{ℕ, List, string_bytes}
use Rattle.witx_base.specs.declared.store.Store.{Store}
use Rattle.witx_base.specs.declared.store.Store.TheVariants as store

abbrev pub bytes_in : Store → List ℕ
bytes_in (store.Own string) = string_bytes string
bytes_in (store.Shared string) = string_bytes string.value
