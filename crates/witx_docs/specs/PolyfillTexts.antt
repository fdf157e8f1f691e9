-- The Markdown of polyfills: in which terms an old interface is told by a new one, and which types are converted.
use Rattle.std.specs.Prelude.{ℕ, List, [], ◌∷◌, ◌++◌, Bool, map, not, codes, if◌then◌else◌}
use Rattle.std.specs.List.{filter, flat_map, join_by}
use Rattle.witx_ast.specs.Tree.{Tree}
use Rattle.witx_base.specs.SameBytes.{same_bytes}
use Rattle.witx_ast.specs.TypeNames.{type_text}
use Rattle.witx_compat.specs.declared.answer.RepEquality.{RepEquality}
use Rattle.witx_compat.specs.Answers.{is_same}
use Rattle.witx_compat.specs.Conversions.{Conversion, new_to_old, old_to_new, conversion_answer, Mapped, is_compatible, Unknown, of_old, of_new, unknown_word}
use Rattle.witx_compat.specs.Polyfills.{MappedFunction, is_fully_compatible, MappedModule}
use Rattle.witx_compat.specs.Once.{each_once, module_conversions}

-- one below the other
abbrev pub lines : {A : Type 0} → (A → List ℕ) → List A → List ℕ
lines text all = join_by text (codes "\n") all

-- conversions

abbrev pub conversion_mark : RepEquality → List ℕ
conversion_mark RepEquality.Eq = codes ": compatible"
conversion_mark RepEquality.Superset = codes ": superset"
conversion_mark RepEquality.NotEq = []

-- a type, behind the word of the interface that has it
abbrev pub owned_type : List ℕ → Tree → List ℕ
owned_type owner t = owner ++ codes " `" ++ type_text t ++ codes "`"

-- the type that gives values, then the one that receives them
abbrev pub directed : (giver : List ℕ) → Tree → (receiver : List ℕ) → Tree → (mark : List ℕ) → List ℕ
directed giver from receiver to mark = codes "* " ++ owned_type giver from ++ codes " => " ++ owned_type receiver to ++ mark

-- the two types of a conversion, with that answer
abbrev pub conversion_line : RepEquality → Conversion → List ℕ
conversion_line answer (old_to_new old new) = directed (codes "old") old (codes "new") new (conversion_mark answer)
conversion_line answer (new_to_old new old) = directed (codes "new") new (codes "old") old (conversion_mark answer)

abbrev pub conversion_text : Conversion → List ℕ
conversion_text c = conversion_line (conversion_answer c) c

-- parameters and results

-- a name between backquotes
abbrev pub backquoted : List ℕ → List ℕ
backquoted name = codes "`" ++ name ++ codes "`"

-- the name, or the old name and then the new one
abbrev pub renamed : (old new : List ℕ) → List ℕ
renamed old new = if same_bytes new old then backquoted new else backquoted old ++ codes " => " ++ backquoted new

-- the old type, what it is to the new one, and the new one
abbrev pub related : (relation : List ℕ) → (old new : List ℕ) → List ℕ
related relation old new = codes "`" ++ old ++ codes "` " ++ relation ++ codes " `" ++ new ++ codes "`"

-- two types, by their answer
abbrev pub types_text : RepEquality → (old new : List ℕ) → List ℕ
types_text RepEquality.Eq old new = codes "compatible types"
types_text RepEquality.Superset old new = related (codes "is superset-compatible with") old new
types_text RepEquality.NotEq old new = related (codes "is incompatible with new") old new

-- the types of two that are mapped
abbrev pub mapped_types : RepEquality → Mapped → List ℕ
mapped_types answer m = types_text answer (type_text m.old.tree) (type_text m.new.tree)

abbrev pub related_types : (relation : List ℕ) → Mapped → List ℕ
related_types relation m = related relation (type_text m.old.tree) (type_text m.new.tree)

-- the names and the types of two that are mapped, with that answer
abbrev pub mapped_line : RepEquality → Mapped → List ℕ
mapped_line answer m = renamed m.old.called m.new.called ++ codes ": " ++ mapped_types answer m

abbrev pub mapped_text : Mapped → List ℕ
mapped_text m = mapped_line (conversion_answer m.conversion) m

-- functions

abbrev pub compatible_part : List ℕ → (name : List ℕ) → List ℕ
compatible_part word name = word ++ codes " `" ++ name ++ codes "`: compatible"

-- a part that is mapped, `param` or `result` as its word says
abbrev pub mapped_part : List ℕ → Mapped → List ℕ
mapped_part word m = if is_compatible m then compatible_part word m.new.called else word ++ codes " " ++ mapped_text m

abbrev pub unknown_name : Unknown → List ℕ
unknown_name (of_old f) = f.called
unknown_name (of_new f) = f.called

abbrev pub nothing_found : (name : List ℕ) → List ℕ
nothing_found name = codes " `" ++ name ++ codes "`: no corresponding result!"

-- a part that only one of the two functions has
abbrev pub unknown_part : List ℕ → Unknown → List ℕ
unknown_part word u = unknown_word u ++ codes " " ++ word ++ nothing_found (unknown_name u)

-- parameters, then results; of each those that are mapped, then those that are not
abbrev pub mapped_function_parts : MappedFunction → List (List ℕ)
mapped_function_parts f =
    map (mapped_part (codes "param")) f.params ++ map (unknown_part (codes "param")) f.unknown_params
    ++ map (mapped_part (codes "result")) f.results ++ map (unknown_part (codes "result")) f.unknown_results

abbrev pub part_line : List ℕ → List ℕ
part_line part = codes "\n    - " ++ part

-- a colon, and each part on a line; nothing where there is no part
abbrev pub parts_text : List (List ℕ) → List ℕ
parts_text [] = []
parts_text (part ∷ parts) = codes ":" ++ flat_map part_line (part ∷ parts)

abbrev pub full_line : List ℕ → List ℕ
full_line name = codes "* `" ++ name ++ codes "`: full compatibility"

abbrev pub function_text : MappedFunction → List ℕ
function_text f =
    if is_fully_compatible f
    then full_line f.new.name
    else codes "* " ++ renamed f.old.name f.new.name ++ parts_text (mapped_function_parts f)

-- modules

abbrev pub module_heading : (new old : List ℕ) → List ℕ
module_heading new old = codes "## `" ++ new ++ codes "` in terms of `" ++ old ++ codes "`\n"

abbrev pub module_text : MappedModule → List ℕ
module_text m = module_heading m.new.name m.old.name ++ lines function_text m.functions

-- a conversion between types that are alike, and of conversions those between others
abbrev pub are_alike : Conversion → Bool
are_alike c = is_same (conversion_answer c)

abbrev pub between_others : List Conversion → List Conversion
between_others = filter (λ c. not (are_alike c))

-- what the modules convert between types that are not alike, each conversion once
abbrev pub true_conversions : List MappedModule → List Conversion
true_conversions modules = between_others (each_once (flat_map module_conversions modules))

-- the report on an old interface and a new one
abbrev pub polyfill_text : List MappedModule → List ℕ
polyfill_text modules =
    codes "# Modules\n" ++ lines module_text modules ++ codes "\n# Type Conversions\n" ++ lines conversion_text (true_conversions modules) ++ codes "\n"
