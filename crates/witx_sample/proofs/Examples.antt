-- The definitions on small inputs.
use Rattle.std.proofs.Common.{◌≡◌, refl, codes}
use Rattle.std.specs.Fmt.{digits}
use Rattle.witx_sample.specs.Samples.{func_head, sample_func_line, func_params, func_result, list_case, sample_module_text, record_case, record_line, sample_text, type_lines, sample_types_text, variant_head, variant_line}

two : sample_text 2 ≡ codes ";;;; file /sample.witx\n(typename $e (enum (@witx tag u16) $ok $bad))\n(typename $r0 (record (field $a u32) (field $b $e) (field $c u64)))\n(typename $v0 (variant (@witx tag u8) (case $x $r0) (case $y (list $r0)) (case $z)))\n(typename $r1 (record (field $a u32) (field $b $e) (field $c u64)))\n(typename $v1 (variant (@witx tag u8) (case $x $r1) (case $y (list $r1)) (case $z)))\n(module $m\n(@interface func (export \"f0\") (param $p $v0) (param $q string) (result $s (expected (tuple $r0 $e) (error $e))))\n(@interface func (export \"f1\") (param $p $v1) (param $q string) (result $s (expected (tuple $r1 $e) (error $e))))\n)\n"
unfolding sample_text sample_types_text sample_module_text type_lines record_line variant_line variant_head record_case list_case sample_func_line func_head func_params func_result digits
two = refl
