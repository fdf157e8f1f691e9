-- The bundle of the sample of a number n: the header of its one file, an enumeration, a record and a variant for each number
-- below n in turn, and a module with a function for each. A line that holds a number stands once for each, in rising order.
use Rattle.std.specs.Prelude.{ℕ, List, ◌++◌, Bool, ◌&&◌, nat_le, codes}
use Rattle.std.specs.Fmt.{decimal}
use Rattle.std.specs.List.{flat_map, range_with_len}
use Rattle.witx_base.specs.Paths.{Path, path_of}

-- how many functions a sample can have
abbrev pub is_size : ℕ → Bool
is_size n = nat_le 1 n && nat_le n 4096

-- the path of the one file
abbrev pub sample_path : Path
sample_path = path_of (codes "/sample.witx")

abbrev pub header_line : List ℕ
header_line = codes ";;;; file /sample.witx\n"

abbrev pub enum_line : List ℕ
enum_line = codes "(typename $e (enum (@witx tag u16) $ok $bad))\n"

unfoldable pub record_line : ℕ → List ℕ
record_line i = codes "(typename $r" ++ decimal i ++ codes " (record (field $a u32) (field $b $e) (field $c u64)))\n"

-- a variant's name and tag, the case of the record of its number, that of a list of them, and the last one
unfoldable pub variant_head : ℕ → List ℕ
variant_head i = codes "(typename $v" ++ decimal i ++ codes " (variant (@witx tag u8)"

unfoldable pub record_case : ℕ → List ℕ
record_case i = codes " (case $x $r" ++ decimal i ++ codes ")"

unfoldable pub list_case : ℕ → List ℕ
list_case i = codes " (case $y (list $r" ++ decimal i ++ codes ")) (case $z)))\n"

unfoldable pub variant_line : ℕ → List ℕ
variant_line i = variant_head i ++ (record_case i ++ list_case i)

-- a function's name, its parameters and its result
unfoldable pub func_head : ℕ → List ℕ
func_head i = codes "(@interface func (export \"f" ++ decimal i ++ codes "\")"

unfoldable pub func_params : ℕ → List ℕ
func_params i = codes " (param $p $v" ++ decimal i ++ codes ") (param $q string)"

unfoldable pub func_result : ℕ → List ℕ
func_result i = codes " (result $s (expected (tuple $r" ++ decimal i ++ codes " $e) (error $e))))\n"

unfoldable pub sample_func_line : ℕ → List ℕ
sample_func_line i = func_head i ++ (func_params i ++ func_result i)

-- the types of a number
unfoldable pub type_lines : ℕ → List ℕ
type_lines i = record_line i ++ variant_line i

-- what stands once for each number below n, in rising order
abbrev pub each_below : (ℕ → List ℕ) → ℕ → List ℕ
each_below lines n = flat_map lines (range_with_len 0 n)

unfoldable pub sample_types_text : ℕ → List ℕ
sample_types_text n = header_line ++ (enum_line ++ each_below type_lines n)

unfoldable pub sample_module_text : ℕ → List ℕ
sample_module_text n = codes "(module $m\n" ++ (each_below sample_func_line n ++ codes ")\n")

unfoldable pub sample_text : ℕ → List ℕ
sample_text n = sample_types_text n ++ sample_module_text n
