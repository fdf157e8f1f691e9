-- What stands around functions and modules, one below the other.
use Rattle.std.specs.Prelude.{◌≡◌, ℕ, List, ◌++◌, map, codes}
use Rattle.std.proofs.Common.{ap, ◌∙◌}
use Rattle.witx_compat.specs.declared.modules.ModulePolyfill.{ModulePolyfill}
use Rattle.witx_compat.specs.Views.{function_view, module_view}
use Rattle.witx_docs.specs.PolyfillTexts.{lines, conversion_text, function_text, module_heading, module_text, polyfill_text, true_conversions}
use Rattle.witx_docs.proofs.Lines.{lines-viewed, behind, five-behind}

-- a module, and a polyfill, from what is written of them
pub told-module : (m : ModulePolyfill) (before one after : List ℕ)
    → one ≡ before ++ module_heading m.new.value.name m.old.value.name → after ≡ one ++ lines (λ f. function_text (function_view f)) m.funcs
    → after ≡ before ++ module_text (module_view m)
told-module m before one after p q =
    behind before (module_heading m.new.value.name m.old.value.name) (lines function_text (map function_view m.funcs)) one after p
    (q ∙ ap (λ text. one ++ text) (lines-viewed function_text function_view m.funcs))

pub told-polyfill : (ms : List ModulePolyfill) (before one two three four after : List ℕ)
    → one ≡ before ++ codes "# Modules\n" → two ≡ one ++ lines (λ m. module_text (module_view m)) ms → three ≡ two ++ codes "\n# Type Conversions\n"
    → four ≡ three ++ lines conversion_text (true_conversions (map module_view ms)) → after ≡ four ++ codes "\n"
    → after ≡ before ++ polyfill_text (map module_view ms)
told-polyfill ms before one two three four after p q r s t =
    five-behind before (codes "# Modules\n") (lines module_text (map module_view ms)) (codes "\n# Type Conversions\n")
    (lines conversion_text (true_conversions (map module_view ms))) (codes "\n") one two three four after p
    (q ∙ ap (λ text. one ++ text) (lines-viewed module_text module_view ms)) r s t
