-- What the entries of a function stand for, in the code.
use Rattle.std.specs.Prelude.{reverse}
use Rattle.witx_language.specs.declared.entries.Entry.{Entry}
use Rattle.witx_language.specs.declared.entries.Entry.TheVariants as entry
use Rattle.witx_language.specs.declared.entries.Entries.{Entries}
use Rattle.witx_language.specs.Values.{EntryTree, param, result_of, noreturn, stored, Val, some_entries}
use Rattle.witx_comments.specs.Comments.{comments_view}
use Rattle.witx_syntax_tree.specs.Views.{field_view, fields_view}

abbrev pub entry_view : Entry → EntryTree
entry_view (entry.Param d) = param (comments_view d.comments) (field_view d.item).name (field_view d.item).type_
entry_view (entry.Result d) = result_of (comments_view d.comments) (field_view d.item).name (field_view d.item).type_
entry_view entry.NoReturn = noreturn
entry_view entry.Stored = stored

abbrev pub entries_value : Entries → Val
entries_value e = some_entries (fields_view (reverse e.params.items)) (fields_view (reverse e.results.items)) e.noreturn e.stored
