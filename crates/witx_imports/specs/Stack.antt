-- What the values on the stack of the code stand for.
use Rattle.std.specs.Prelude.{◌≡◌, ℕ, ◌++◌, List, [], reverse, Result, IfOk}
use Rattle.witx_lex.specs.Tokens.{Lexed}
use Rattle.witx_imports.specs.declared.value.Value.{Value}
use Rattle.witx_imports.specs.declared.value.Value.TheVariants as value
use Rattle.witx_imports.specs.declared.symbols.ProductionName.{ProductionName}
use Rattle.witx_imports.specs.declared.symbols.ProductionName.TheVariants as p
use Rattle.witx_imports.specs.declared.symbols.TokenKind.{TokenKind}
use Rattle.witx_values.specs.Language.{stack_of}
use Rattle.witx_values.specs.TextTokens.{AreHeld}
use Rattle.witx_values.specs.Texts.{token_at}
use Rattle.witx_values.specs.declared.marks.TextTokens.{TextTokens}
use Rattle.witx_imports.specs.Actions.{import_act, import_language, words}
use Rattle.witx_imports.specs.Values.{ImportVal, import_leaf, a_name, a_type, some_types, a_signature, an_import, some_imports}

-- what a value of the code stands for
abbrev pub import_value_view : Value → ImportVal
import_value_view (value.Name n) = a_name n
import_value_view (value.Type t) = a_type t
import_value_view (value.Types ts) = some_types (reverse ts.items)
import_value_view (value.Signature s) = a_signature (words (reverse s.params.items) (reverse s.results.items))
import_value_view (value.Import i) = an_import i
import_value_view (value.Imports is) = some_imports (reverse is.items)

-- what a production makes of its parts. Of one that isn't known this is a word alone, in which a match puts the one that it is
abbrev pub import_performed : ProductionName → List ImportVal → List ImportVal
import_performed p.NoImports vs = import_act p.NoImports [] vs
import_performed p vs = import_act p [] vs

-- the production's value lies in place of that
abbrev pub ImportMade : ProductionName → List Value → List Value → Type 0
ImportMade p old new = stack_of import_value_view new ≡ import_performed p (stack_of import_value_view old)

-- unless memory was refused, what the token with the number stands for lies on top
abbrev pub ImportLaid : {X E : Type 0} → Result X E → TextTokens TokenKind → ℕ → List Value → List Value → Type 0
ImportLaid r tokens at old new = (ls : List Lexed) → AreHeld import_language tokens ls
    → IfOk r (λ _. stack_of import_value_view new ≡ import_leaf (token_at ls at) ++ stack_of import_value_view old)
