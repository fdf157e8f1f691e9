-- The test by which files and aliases are looked up is `==` on paths, and holds both ways.
use Rattle.std.proofs.Common.{◌≡◌, sym, ◌∙◌, ◌==◌}
use Rattle.std.specs.Ordering.{nat_cmp}
use Rattle.std.specs.Cmp.Lexicographic.{pointwise, slice_cmp, lists_ties, texts_ties, lists_equiv, nat_list_eq_equiv}
use Rattle.witx_base.specs.Paths.{Path}
use Rattle.witx_files.specs.Files.{same_path}

pub same-test : (p q : Path) → pointwise (pointwise ◌==◌) p q ≡ same_path p q
same-test = lists_ties (slice_cmp nat_cmp) texts_ties

pub same-turned : (p q : Path) → same_path p q ≡ same_path q p
same-turned p q = sym (same-test p q) ∙ (sym ((lists_equiv nat_list_eq_equiv).symm q p) ∙ same-test q p)
