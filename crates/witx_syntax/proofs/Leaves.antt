-- What is laid on the stack for a token.
use Rattle.std.proofs.Common.{◌≡◌, ◌∷◌, [], List, ◌++◌, Result, IfOk, subst}
use Rattle.witx_values.specs.Language.{stack_of}
use Rattle.witx_language.specs.Values.{Val}
use Rattle.witx_syntax.specs.declared.value.Value.{Value}
use Rattle.witx_syntax.specs.Stack.{value_view}

-- a value on top is the values of the token, where it is the only one
pub laid : {X E : Type 0} (r : Result X E) (old new : List Value) (v : Val) (vs : List Val) → v ∷ [] ≡ vs
    → IfOk r (λ _. stack_of value_view new ≡ v ∷ stack_of value_view old) → IfOk r (λ _. stack_of value_view new ≡ vs ++ stack_of value_view old)
laid r old new v vs e h = subst (λ (ws : List Val). IfOk r (λ _. stack_of value_view new ≡ ws ++ stack_of value_view old)) e h
