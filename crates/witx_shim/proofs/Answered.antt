-- The shim of functions that nothing refuses: its words, and that every call arrives.
use Rattle.std.specs.Prelude.{◌≡◌, ℕ, ◌+◌, ◌-◌, List, [], ◌∷◌, ◌++◌, map, length, Option, Some, None, Bool, true, false, IsTrue, option_map}
use Rattle.std.specs.List.{concat}
use Rattle.std.proofs.Common.{rules, refl, sym, ◌∙◌, ap, arith, length-append}
use Rattle.std.proofs.lemmas.List.{length-map}
use Rattle.std.proofs.lemmas.Option.{none-some}
use Rattle.witx_ast.specs.Tree.{Field}
use Rattle.witx_ast.specs.Plain.{plain}
use Rattle.witx_ast.specs.Functions.{FunctionTree}
use Rattle.witx_ast.specs.Tags.{function_fits}
use Rattle.witx_ast.specs.declared.function.Abi.{Abi}
use Rattle.witx_ast.specs.contracts.function.AbiPartialEq.TheImpl as abis
use Rattle.witx_compat.specs.Polyfills.{MappedFunction, function_mapped}
use Rattle.witx_machine.specs.declared.surface.Place.{Place}
use Rattle.witx_machine.specs.declared.surface.WasmType.{WasmType}
use Rattle.witx_machine.specs.Functions.{Function, function_of}
use Rattle.witx_machine.specs.Signature.{param_words, words_of_params, return_pointers, signature_params}
use Rattle.witx_machine.specs.Lowerable.{earlier_place, lowerable, unlowerable, unlowerable_result}
use Rattle.witx_machine.specs.Run.{numbers}
use Rattle.witx_machine.specs.Traces.{caller_events, callee_events}
use Rattle.witx_machine.specs.Shims.{StandsIn, pass, FaithfulThrough}
use Rattle.witx_shim.specs.Numbers.{width, widths, all_handed}
use Rattle.witx_shim.specs.Refusals.{ShimRefusal, not_compatible, other_abi, old_unlowerable, new_unlowerable, refusal_unless, first_refusal_of, call_refusals, repeated, repeated_param}
use Rattle.witx_shim.specs.Arrivals.{words_passed, EachArrives}
use Rattle.witx_shim.proofs.Compared.{AtMostOne, IsCompatible, compatible-parts, each-named, results-alike, trees}
use Rattle.witx_shim.proofs.Standing.{Ordered, all-served, in-order-of-names}

-- ---- how many words there are

widths-words : (fs : List Field) → length (words_of_params (trees fs)) ≡ widths fs
widths-words [] = refl
widths-words (f ∷ fs) = length-append (param_words (plain f.tree)) (words_of_params (trees fs)) ∙ ap (λ n. width f + n) (widths-words fs)

behind-params : (f : FunctionTree) → length (signature_params (function_of f)) - widths f.params ≡ length (return_pointers (function_of f))
behind-params f =
    let all = length-append (words_of_params (trees f.params)) (map (λ t. WasmType.I32) (return_pointers (function_of f))) in
    let front = widths-words f.params in
    let back = length-map (return_pointers (function_of f)) (λ t. WasmType.I32) in
    omega (arith, all, front, back)

-- ---- what nothing refuses

all-none : (o : Option ShimRefusal) (rest : List (Option ShimRefusal)) → first_refusal_of (o ∷ rest) ≡ None → (o ≡ None) × (first_refusal_of rest ≡ None)
all-none None rest h = (refl, h)
all-none (Some refusal) rest h = absurd (none-some refusal (sym h))

unless-true : (b : Bool) (refusal : ShimRefusal) → refusal_unless b refusal ≡ None → b ≡ true
unless-true true refusal h = refl
unless-true false refusal h = absurd (none-some refusal (sym h))

map-none : {A B : Type 0} (f : A → B) (o : Option A) → option_map f o ≡ None → o ≡ None
map-none f None h = refl
map-none f (Some x) h = absurd (none-some (f x) (sym h))

abi-same : (a b : Abi) → abis.ghosts.eq a b ≡ true → a ≡ b
abi-same a b h = search rules

place-none : (o : Option ℕ) (r : Option Place) → earlier_place o r ≡ None → r ≡ None
place-none None r h = h
place-none (Some i) r h = absurd (none-some (Place.Param i) (sym h))

one-result : (abi : Abi) (fs : List Field) → unlowerable_result abi (trees fs) ≡ None → AtMostOne fs
one-result abi [] h = tt
one-result abi (f ∷ []) h = tt
one-result abi (f ∷ g ∷ fs) h = absurd (none-some (Place.Result 1) (sym h))

can-lower : (f : Function) → unlowerable f ≡ None → IsTrue (lowerable f)
can-lower f h = rw h refl

pub record Ready (old new : FunctionTree) : Type 0 where
  pub ordered : Ordered old.params new.params
  pub stands : StandsIn ordered.order (function_of old) (function_of new)
  pub old_lowers : IsTrue (lowerable (function_of old))
  pub new_lowers : IsTrue (lowerable (function_of new))

pub ready : (old new : FunctionTree) → first_refusal_of (call_refusals (function_mapped new old)) ≡ None → repeated_param new.params ≡ None → Ready old new
ready old new h r =
    let a = all-none _ _ h in let b = all-none _ _ a.1 in let c = all-none _ _ b.1 in let d = all-none _ _ c.1 in
    let parts : IsCompatible new.params old.params new.results old.results = compatible-parts _ new.params old.params new.results old.results (unless-true _ not_compatible a.0) in
    let old_lowers = map-none old_unlowerable (unlowerable (function_of old)) c.0 in
    let new_lowers = map-none new_unlowerable (unlowerable (function_of new)) d.0 in
    let by_name = in-order-of-names old.params new.params (all-served new.params old.params parts.params r (each-named new.params old.params parts.known)) in
    record {
      ordered = by_name;
      stands = record {
        abi = abi-same old.abi new.abi (unless-true _ other_abi b.0);
        ordered = by_name.types;
        params = by_name.ordered;
        alike = by_name.alike;
        results = results-alike new.results old.results (one-result new.abi new.results (place-none _ _ new_lowers)) (one-result old.abi old.results (place-none _ _ old_lowers)) parts.results parts.returned;
      };
      old_lowers = can-lower (function_of old) old_lowers;
      new_lowers = can-lower (function_of new) new_lowers;
    }

-- ---- the words, and the arrival

abbrev shim_words : FunctionTree → FunctionTree → List ℕ
shim_words old new = all_handed old.params new.params ++ numbers (widths old.params) (length (return_pointers (function_of old)))

passed : (old new : FunctionTree) (o : Ordered old.params new.params) → pass o.order (function_of old) ≡ Some (shim_words old new)
passed old new o =
    let rest = length (return_pointers (function_of old)) in
    ap (option_map (λ params. concat params ++ numbers (length (words_of_params (trees old.params))) rest)) o.handed
    ∙ ap (λ n. Some (concat o.words ++ numbers n rest)) (widths-words old.params) ∙ ap (λ ws. Some (ws ++ numbers (widths old.params) rest)) o.whole

-- the numbers that the code makes
pub same-words : (old new : FunctionTree) (made : List ℕ) (count total : ℕ) → count ≡ widths old.params → total ≡ length (signature_params (function_of old))
    → made ≡ all_handed old.params new.params ++ numbers count (total - count) → made ≡ shim_words old new
same-words old new made count total c t m =
    m ∙ ap (λ n. all_handed old.params new.params ++ numbers n (total - n)) c
    ∙ ap (λ n. all_handed old.params new.params ++ numbers (widths old.params) (n - widths old.params)) t
    ∙ ap (λ n. all_handed old.params new.params ++ numbers (widths old.params) n) (behind-params old)

pub words-ready : (old new : FunctionTree) (made : List ℕ) → Ready old new → made ≡ shim_words old new → words_passed old new ≡ Some made
words-ready old new made r m = rw (r.ordered.by_name) (passed old new r.ordered ∙ ap (λ ws. Some ws) (sym m))

-- the law of the machine
abbrev pub ShimLaw : Type 0
ShimLaw = (old_module new_module : List ℕ) (old new : FunctionTree) (order words : List ℕ) →
    IsTrue (lowerable (function_of old)) → IsTrue (lowerable (function_of new)) → IsTrue (function_fits old) → IsTrue (function_fits new) →
    StandsIn order (function_of old) (function_of new) → pass order (function_of old) ≡ Some words →
    FaithfulThrough old_module new_module (function_of old) (function_of new) order words
    (caller_events old_module (function_of old)) (callee_events new_module (function_of new))

pub each-arrives : (old new : FunctionTree) (made : List ℕ) → ShimLaw → Ready old new → made ≡ shim_words old new → EachArrives old new made
each-arrives old new made law r m old_module new_module f g = record {
  order = r.ordered.order;
  by_name = r.ordered.by_name;
  faithful = law old_module new_module old new r.ordered.order made r.old_lowers r.new_lowers f g r.stands (passed old new r.ordered ∙ ap (λ ws. Some ws) (sym m));
}

-- what the code makes is the shim
pub record Made (old new : FunctionTree) (words : List ℕ) : Type 0 where
  pub pass : words_passed old new ≡ Some words
  pub arrives : EachArrives old new words

pub shim-made : (old new : FunctionTree) (view : MappedFunction) (olds news again : List Field) (count total : ℕ) (signature : List WasmType) (f : Function) (made : List ℕ) → ShimLaw
    → olds ≡ old.params → news ≡ new.params → again ≡ new.params → view ≡ function_mapped new old → first_refusal_of (call_refusals view) ≡ None
    → option_map repeated (repeated_param news) ≡ None → count ≡ widths olds → total ≡ length signature → signature ≡ signature_params f → function_of old ≡ f
    → made ≡ all_handed olds again ++ numbers count (total - count) → Made old new made
shim-made old new view olds news again count total signature f made law o n a v calls names c t s g m =
    let distinct = map-none repeated (repeated_param new.params) (ap (λ ps. option_map repeated (repeated_param ps)) (sym n) ∙ names) in
    let called = ap (λ w. first_refusal_of (call_refusals w)) (sym v) ∙ calls in
    let r = ready old new called distinct in
    let same = same-words old new made count total (c ∙ ap widths o) (t ∙ ap length s ∙ ap (λ h. length (signature_params h)) (sym g))
    (m ∙ ap (λ ps. all_handed ps again ++ numbers count (total - count)) o ∙ ap (λ ps. all_handed old.params ps ++ numbers count (total - count)) a) in
    record { pass = words-ready old new made r same; arrives = each-arrives old new made law r same }
