-- What the kept tables say of names.
use Rattle.std.specs.Prelude.{ℕ, List, Option, Some, None}
use Rattle.witx_base.specs.Found.{found}
use Rattle.witx_files.specs.declared.location.Location.{Location}
use Rattle.witx_scope.specs.Places.{location_in}
use Rattle.witx_ast.specs.declared.definition.Entry.{Entry}
use Rattle.witx_ast.specs.declared.definition.Entry.TheVariants as entry
use Rattle.witx_ast.specs.Views.{named_tree}
use Rattle.witx_scope.specs.Names.{Sense, unknown, unfinished, a_module, a_type, Here, Names}
use Rattle.witx_scope.specs.declared.scope.Scope.{Scope}

abbrev pub entry_sense : Option Entry → Sense
entry_sense None = unfinished
entry_sense (Some (entry.Typename n)) = a_type (named_tree n.value)
entry_sense (Some (entry.Module m)) = a_module

abbrev pub sense_at : Option Location → Option Entry → Sense
sense_at None e = unknown
sense_at (Some l) e = entry_sense e

abbrev pub kept_sense : Names → List (List ℕ × Entry) → List ℕ → Sense
kept_sense names entries n = sense_at (found names n) (found entries n)

unfoldable pub here_of : Scope → Here
here_of s = record { sense = kept_sense s.names.now s.entries.now; place = location_in s.text.now s.path.now }
