-- What a run writes on its second sink: the usage text where the words have no form, else the report of the refusal.
use Rattle.std.specs.Prelude.{◌≡◌, ◌⊎◌, ℕ, List, [], ◌∷◌, ◌++◌, codes}
use Rattle.std.specs.List.{flat_map}
use Rattle.std.specs.Fmt.{decimal}
use Rattle.witx_commands.specs.declared.forms.Forms.{Forms}
use Rattle.witx_commands.specs.declared.forms.Forms.TheVariants as forms
use Rattle.witx_commands.specs.declared.refusal.Refusal.{Refusal}
use Rattle.witx_commands.specs.declared.refusal.Refusal.TheVariants as refusal
use Rattle.witx_bundle.specs.declared.error.BundleError.{BundleError}
use Rattle.witx_bundle.specs.declared.error.BundleError.TheVariants as bundle
use Rattle.witx_compat.specs.Polyfills.{no_module, no_function}
use Rattle.witx_compat.specs.Polyfills as polyfill

-- a text and a line feed
abbrev pub line : List ℕ → List ℕ
line text = text ++ codes "\n"

-- why bytes are no bundle; nothing is said of want of memory
abbrev pub bundle_text : BundleError → List ℕ
bundle_text bundle.TooLong = line (codes "witx: bundle has more than 4194304 bytes")
bundle_text (bundle.NotUtf8 at) = line (codes "witx: bundle is not UTF-8 at byte " ++ decimal at)
bundle_text (bundle.BeforeFirst at) = line (codes "witx: text before the first file at byte " ++ decimal at)
bundle_text bundle.OutOfMemory = []

abbrev pub absent_module : List ℕ → List ℕ
absent_module name = codes "Module not present: `" ++ name ++ codes "`"

abbrev pub absent_function : List ℕ → List ℕ
absent_function name = codes "Function not present: `" ++ name ++ codes "`"

-- a module that a document lacks, or a function that the new module lacks
abbrev pub absent_text : polyfill.PolyfillRefusal → List ℕ
absent_text (no_module name) = absent_module name
absent_text (no_function owner name) = absent_function name

-- the table of forms: a line for each command of `run`, and one for each further command of the program
abbrev pub command_lines : List (List ℕ)
command_lines =
    codes "usage: witx adapt PATH.."
    ∷ codes "       witx print PATH.."
    ∷ codes "       witx layouts PATH.."
    ∷ codes "       witx docs PATH.."
    ∷ codes "       witx polyfill NEW OLD [NEWMODULE OLDMODULE].."
    ∷ codes "       witx sample N"
    ∷ []

abbrev pub tool_lines : List (List ℕ)
tool_lines =
    codes "       witx shim NEW OLD [NEWMODULE OLDMODULE].."
    ∷ codes "       witx verify LISTING PATH.."
    ∷ codes "       witx invoke MODULE FUNC VALUES PATH.."
    ∷ codes "       witx imports LIST PATH.."
    ∷ []

-- the lines behind those of `run`
abbrev pub further_lines : Forms → List (List ℕ)
further_lines forms.Commands = []
further_lines forms.All = tool_lines

unfoldable pub command_text : List ℕ
command_text = flat_map line command_lines

unfoldable pub further_text : Forms → List ℕ
further_text known = flat_map line (further_lines known)

-- what is told where the words have none of these forms
abbrev pub usage_text : Forms → List ℕ
usage_text known = command_text ++ further_text known

abbrev pub text_of : Refusal → List ℕ
text_of (refusal.Usage known) = usage_text known
text_of refusal.Source = line (codes "witx: cannot read input")
text_of (refusal.Bundle e) = bundle_text e
text_of (refusal.Command report) = line (codes "witx: " ++ report)

abbrev pub bundle_status : BundleError → ℕ
bundle_status bundle.OutOfMemory = 5
bundle_status _ = 6

-- the status of a refusal
abbrev pub status_of : Refusal → ℕ
status_of (refusal.Command report) = 1
status_of (refusal.Usage known) = 2
status_of refusal.Source = 3
status_of (refusal.Bundle e) = bundle_status e

-- the status of a run that refuses: that of the refusal, or one of the two where the text isn't written
abbrev pub IsRefused : ℕ → ℕ → Type 0
IsRefused wanted status = (status ≡ wanted) ⊎ (status ≡ 4) ⊎ (status ≡ 5)
