-- What the words of a call have to be, going in and coming back.
-- In: per parameter its word, a list's address and length, or an address whose cell holds the argument; then
-- an address made for each return pointer; nothing else. Back: no word without a result. Under Stored no word,
-- with the reply at the one return pointer. Under Preview1 the value's word; for an ok reply the word 0, with
-- the payload at the return pointers; for an error its word or its address.
use Rattle.std.specs.Prelude.{◌≡◌, ℕ, List, [], ◌∷◌, ◌++◌, length, Bool, true, false, cond, Option, Some, None, ◌-◌, drop}
use Rattle.witx_ast.specs.declared.function.Abi.{Abi}
use Rattle.witx_ast.specs.Tree.{Tree, Arms}
use Rattle.witx_ast.specs.Plain.{Plain, plain}
use Rattle.witx_machine.specs.Functions.{Function, is_tuple, by_address, ok_of, err_of, result_cases}
use Rattle.witx_machine.specs.Signature.{return_pointers, pointers_by}
use Rattle.witx_machine.specs.Machine.{Domain}
use Rattle.witx_machine.specs.Run.{Outcome}

-- what is said of words and of what stands at addresses, in a domain
pub record Meaning (V W M : Type 0) : Type 1 where
  -- the words of a value that isn't passed by address
  pub direct : Plain → V → List W → Type 0
  -- the word is an address that was given
  pub given : M → W → Type 0
  pub holds : M → W → V → Type 0
  -- its cell was made for that type, as it is written
  pub made_for : M → W → Tree → Type 0

abbrev pub last_words : {W : Type 0} → ℕ → List W → List W
last_words n ws = drop (length ws - n) ws

module _ {V W M : Type 0} (D : Domain V W M) (J : Meaning V W M) where
  -- the words of one parameter
  abbrev pub ParamWords : M → Plain → V → List W → Type 0
  ParamWords m t v ws = cond (by_address t) ((a : W) × (ws ≡ a ∷ []) × J.given m a × J.holds m a v) (J.direct t v ws)

  -- the words of return pointers: an address made for each type
  abbrev pub PointerWords : M → List Tree → List W → Type 0
  PointerWords m [] ws = ws ≡ []
  PointerWords m (t ∷ ts) ws =
      (a : W) × (rest : List W) × (ws ≡ a ∷ rest) × J.given m a × J.made_for m a t × PointerWords m ts rest

  abbrev pub PassesWords : M → List Tree → List Tree → List V → List W → Type 0
  PassesWords m pointers [] [] ws = PointerWords m pointers ws
  PassesWords m pointers (t ∷ ts) (v ∷ vs) ws =
      (first : List W) × (rest : List W) × (ws ≡ first ++ rest) × ParamWords m (plain t) v first × PassesWords m pointers ts vs rest
  PassesWords m pointers [] (v ∷ vs) ws = ⊥
  PassesWords m pointers (t ∷ ts) [] ws = ⊥

  -- PASSES: the words at the call, read in the memory as it stands at the call
  abbrev pub Passes : Function → List V → Outcome V W M → Type 0
  Passes f arguments o = PassesWords o.call.at_call (return_pointers f) f.params arguments o.call.words

  -- these words are addresses that hold these values
  abbrev pub HoldAll : M → List W → List V → Type 0
  HoldAll m [] [] = Unit {0}
  HoldAll m (w ∷ ws) (v ∷ vs) = J.holds m w v × HoldAll m ws vs
  HoldAll m [] (v ∷ vs) = ⊥
  HoldAll m (w ∷ ws) [] = ⊥

  -- the members of an ok tuple, or the one payload
  abbrev pub ok_values : Bool → ℕ → V → Option (List V)
  ok_values true n v = D.parts n v
  ok_values false n v = Some (v ∷ [])

  abbrev pub HoldParts : M → List W → Option (List V) → Type 0
  HoldParts m ws None = ⊥
  HoldParts m ws (Some vs) = HoldAll m ws vs

  -- a reply that is ok or an error, with its payload
  abbrev pub ReturnsCase : (ok err : Option Tree) → (pointers : List W) → Bool → Option (V × Option Tree) → Outcome V W M → Type 0
  ReturnsCase ok err pointers e None o = o.call.callee_words ≡ D.case_word e ∷ []
  ReturnsCase None err pointers false (Some p) o = ⊥
  ReturnsCase (Some t) err pointers false (Some p) o =
      (o.call.callee_words ≡ D.case_word false ∷ []) × HoldParts o.call.at_return pointers (ok_values (is_tuple t) (length pointers) p.0)
  ReturnsCase ok None pointers true (Some p) o = ⊥
  ReturnsCase ok (Some t) pointers true (Some p) o = ParamWords o.call.at_return (plain t) p.0 o.call.callee_words

  abbrev pub ReturnsPicked : (ok err : Option Tree) → (pointers : List W) → Option (Bool × Option (V × Option Tree)) → Outcome V W M → Type 0
  ReturnsPicked ok err pointers None o = ⊥
  ReturnsPicked ok err pointers (Some c) o = ReturnsCase ok err pointers c.0 c.1 o

  abbrev pub ReturnsBy : Option Arms → Tree → V → Outcome V W M → Type 0
  ReturnsBy None t v o = J.direct (plain t) v o.call.callee_words
  ReturnsBy (Some cs) t v o =
      ReturnsPicked (ok_of cs) (err_of cs) (last_words (length (pointers_by (Some cs))) o.call.words) (D.picks (ok_of cs) (err_of cs) v) o

  -- stored whole, at the last address
  abbrev pub ReturnsWhole : V → Outcome V W M → Type 0
  ReturnsWhole v o = (o.call.callee_words ≡ []) × HoldAll o.call.at_return (last_words 1 o.call.words) (v ∷ [])

  abbrev pub ReturnsUnder : Abi → Tree → V → Outcome V W M → Type 0
  ReturnsUnder Abi.Preview1 t v o = ReturnsBy (result_cases t) t v o
  ReturnsUnder Abi.Stored t v o = ReturnsWhole v o

  abbrev pub ReturnsOf : Abi → List Tree → Option V → Outcome V W M → Type 0
  ReturnsOf abi [] None o = o.call.callee_words ≡ []
  ReturnsOf abi (t ∷ []) (Some v) o = ReturnsUnder abi t v o
  ReturnsOf abi _ _ o = ⊥

  -- RETURNS: the callee's words, read in the memory as it stands at its return
  abbrev pub Returns : Function → Option V → Outcome V W M → Type 0
  Returns f reply o = ReturnsOf f.abi f.results reply o
