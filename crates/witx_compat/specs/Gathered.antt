-- Answers that are gathered in order: what is there already, with one more answer or with those to come.
use Rattle.std.specs.Prelude.{List, [], ◌∷◌, ◌++◌, Result, Ok, Err}
use Rattle.witx_compat.specs.Polyfills.{PolyfillRefusal}

abbrev pub put_before : {A : Type 0} → List A → Result A PolyfillRefusal → Result (List A) PolyfillRefusal
put_before made (Ok x) = Ok (made ++ x ∷ [])
put_before made (Err refusal) = Err refusal

abbrev pub before : {A : Type 0} → List A → Result (List A) PolyfillRefusal → Result (List A) PolyfillRefusal
before made (Ok xs) = Ok (made ++ xs)
before made (Err refusal) = Err refusal
