-- The two calls of a run are what the machine's sides do.
use Rattle.std.proofs.Common.{◌≡◌, ◌≢◌, ℕ, zero, suc, ◌+◌, ◌<◌, ◌≤◌, Bool, true, false, ◌&&◌, refl, sym, ap, ◌∙◌, arith, List, [], ◌∷◌, ◌++◌, append_assoc, append-nil, map, drop, length, get_or, Option, Some, None, option_map, option_and_then}
use Rattle.std.proofs.lemmas.List.{drop_more, drop_all}
use Rattle.std.specs.declared.alloc.Global.{Global}
use Rattle.std.specs.declared.rc.Rc.{Rc}
use Rattle.std.specs.Prelude.{Result, IfOk, Ok, Err, nat_eq}
use Rattle.std.specs.Cmp.Lexicographic.{pointwise}
use Rattle.std.specs.Global.{Vec}
use Rattle.std.proofs.Math.Dec.{eqb-suc-zero}
use Rattle.witx_base.specs.declared.memory.OutOfMemory.{OutOfMemory}
use Rattle.witx_ast.specs.declared.function.InterfaceFuncParam.{InterfaceFuncParam}
use Rattle.witx_ast.specs.declared.types.NamedType.{NamedType}
use Rattle.witx_ast.specs.Tree.{Tree}
use Rattle.witx_base.specs.SameBytes.{same_bytes}
use Rattle.witx_ast.specs.Views.{tree_of}
use Rattle.witx_machine.specs.declared.surface.WasmType.{WasmType}
use Rattle.witx_machine.specs.Words.{same_types, when}
use Rattle.witx_machine.specs.Events.{Event}
use Rattle.witx_machine.specs.Functions.{Function, name_of}
use Rattle.witx_machine.specs.Signature.{signature_params, signature_results}
use Rattle.witx_machine.specs.Machine.{Domain, Item, Tried, went, if_found, only, word_item, value_item, pushed, words_off, values_off}
use Rattle.witx_machine.specs.Positions.{Spot, in_callee, numbered}
use Rattle.witx_machine.specs.Run.{words_in, typed, reply_items, itself, one_word, answered, handed_on, called_with, replied}
use Rattle.witx_machine.proofs.Scalars.{same_types_is, truth}
use Rattle.witx_machine.proofs.Caller.{all_in_order}
use Rattle.witx_instructions.specs.Views.{param_types}
use Rattle.witx_run.specs.CallViews.{names_function, names_words, reply_on, reply_row, typed_only, words_row, CalleeState, CallerState, Replies, HandsOn, TakesBack, IsAnswered}
use Rattle.witx_run.specs.MachineViews.{Numbered, state_in}
use Rattle.witx_run.specs.OutcomeViews.{call_of}
use Rattle.witx_run.specs.Sides.{callee_setting, caller_setting}
use Rattle.witx_run.specs.Views.{item_of, items_of, stack_of}
use Rattle.witx_run.specs.declared.item.Item as declared_item
use Rattle.witx_run.specs.declared.item.Item.TheVariants as item
use Rattle.witx_run.specs.declared.machine.Machine.{Machine}
use Rattle.witx_run.specs.declared.outcome.CallMade.{CallMade}
use Rattle.witx_run.proofs.StackLemmas.{stack-pushed}
use Rattle.witx_run.proofs.SideLemmas.{side_rules}

some-same : {A : Type 0} {x y : A} → Some x ≡ Some y → x ≡ y
some-same e = cc

none_some : {A : Type 0} {x : A} → None ≡ Some x → ⊥
none_some e = cc

from_first : {A : Type 0} (xs : List A) → drop 0 xs ≡ xs
from_first [] = refl
from_first (x ∷ xs) = refl

-- words of types are told pair by pair
module _ {w V W M : Type 0} (D : Domain V W M) (word : w → W) where
  abbrev pub is_typed : WasmType → w → Bool
  is_typed t x = D.has_type t (word x)

  pub typed-pairs : (ts : List WasmType) (ws : List w) → pointwise is_typed ts ws ≡ typed D ts (map word ws)
  typed-pairs [] [] = refl
  typed-pairs [] (x ∷ ws) = refl
  typed-pairs (t ∷ ts) [] = refl
  typed-pairs (t ∷ ts) (x ∷ ws) = ap (λ b. is_typed t x && b) (typed-pairs ts ws)

module _ {v w V W : Type 0} (value : v → V) (word : w → W) where
  -- words pushed one after the other
  abbrev pub left_words : List w → List (declared_item.Item v w) → ℕ → List (Item V W)
  left_words ws stack i = pushed (map word_item (map word (drop i ws))) (stack_of value word stack)

  pub word-pushed : (ws : List w) (old new : List (declared_item.Item v w)) (i : ℕ) (x : w) (y : declared_item.Item v w) (all : List (Item V W)) → i < length ws → x ≡ get_or ws i x →
      item_of value word y ≡ word_item (word x) → new ≡ old ++ y ∷ [] → left_words ws old i ≡ all → left_words ws new (i + 1) ≡ all
  word-pushed ws old new i x y all l p q e h =
      ap (λ s. pushed (map word_item (map word (drop (i + 1) ws))) (stack_of value word s)) e
      ∙ ap (pushed (map word_item (map word (drop (i + 1) ws)))) (stack-pushed value word old y ∙ ap (λ z. z ∷ stack_of value word old) q)
      ∙ sym (ap (λ vs. pushed (map word_item (map word vs)) (stack_of value word old)) (drop_more ws i x l ∙ ap (λ z. z ∷ drop (i + 1) ws) (sym p)))
      ∙ h

  pub words-pushed : (ws : List w) (old new : List (declared_item.Item v w)) (i : ℕ) → length ws ≤ i → left_words ws new i ≡ left_words ws old 0 →
      stack_of value word new ≡ pushed (map word_item (map word ws)) (stack_of value word old)
  words-pushed ws old new i l h =
      sym (ap (λ vs. pushed (map word_item (map word vs)) (stack_of value word new)) (drop_all i ws l)) ∙ h
      ∙ ap (λ vs. pushed (map word_item (map word vs)) (stack_of value word old)) (from_first ws)

  -- items that are words, and nothing else
  words-more : (ws : List w) (x : w) → map word (ws ++ x ∷ []) ≡ map word ws ++ word x ∷ []
  words-more [] x = refl
  words-more (y ∷ ws) x = ap (λ l. word y ∷ l) (words-more ws x)

  abbrev pub left_only : List w → List (declared_item.Item v w) → ℕ → Option (List W)
  left_only ws xs i = option_and_then (λ more. Some (map word ws ++ more)) (words_in (items_of value word (drop i xs)))

  pub only-more : (ws : List w) (xs : List (declared_item.Item v w)) (i : ℕ) (x : declared_item.Item v w) (y z : w) (all : Option (List W)) → i < length xs → x ≡ get_or xs i x → x ≡ item.Word y →
      word z ≡ word y → left_only ws xs i ≡ all → left_only (ws ++ z ∷ []) xs (i + 1) ≡ all
  only-more ws xs i x y z all l p q e h =
      go (words_in (items_of value word (drop (i + 1) xs)))
      ∙ sym (ap (λ xs. option_and_then (λ more. Some (map word ws ++ more)) (words_in (items_of value word xs))) (drop_more xs i x l ∙ ap (λ y. y ∷ drop (i + 1) xs) (sym p ∙ q)))
      ∙ h
    where
      go : (o : Option (List W)) → option_and_then (λ more. Some (map word (ws ++ z ∷ []) ++ more)) o ≡ option_and_then (λ more. Some (map word ws ++ more)) (option_and_then (λ us. Some (word y ∷ us)) o)
      go None = refl
      go (Some more) = ap (λ us. Some (us ++ more)) (words-more ws z) ∙ ap Some (append_assoc (map word ws) (word z ∷ []) more) ∙ ap (λ u. Some (map word ws ++ (u ∷ more))) e

  pub only-not : (ws : List w) (xs : List (declared_item.Item v w)) (i : ℕ) (x : declared_item.Item v w) (y : v) (n : Option (Rc NamedType Global)) (all : Option (List W)) → i < length xs → x ≡ get_or xs i x →
      x ≡ item.Value y n → left_only ws xs i ≡ all → None ≡ all
  only-not ws xs i x y n all l p q h =
      sym (ap (λ xs. option_and_then (λ more. Some (map word ws ++ more)) (words_in (items_of value word xs))) (drop_more xs i x l ∙ ap (λ y. y ∷ drop (i + 1) xs) (sym p ∙ q))) ∙ h

  pub only-done : (ws : List w) (xs : List (declared_item.Item v w)) (i : ℕ) → length xs ≤ i → left_only ws xs i ≡ left_only [] xs 0 → Some (map word ws) ≡ words_in (items_of value word xs)
  only-done ws xs i l h =
      sym (ap (λ xs. option_and_then (λ more. Some (map word ws ++ more)) (words_in (items_of value word xs))) (drop_all i xs l) ∙ ap Some (append-nil (map word ws)))
      ∙ h ∙ ap (λ xs. option_and_then (λ more. Some more) (words_in (items_of value word xs))) (from_first xs) ∙ same (words_in (items_of value word xs))
    where
      same : (o : Option (List W)) → option_and_then (λ more. Some more) o ≡ o
      same None = refl
      same (Some more) = refl

one-type : (ps : List InterfaceFuncParam) (p : InterfaceFuncParam) → length ps ≡ 1 → p ≡ get_or ps 0 p → param_types ps ≡ tree_of p.tref ∷ []
one-type [] p l e = absurd (omega (arith, l))
one-type (q ∷ []) p l e = ap (λ p. tree_of (InterfaceFuncParam.tref p) ∷ []) (sym e)
one-type (q ∷ r ∷ ps) p l e = absurd (omega (arith, l))

-- the reply, where there is one and where there is none
module _ {V W : Type 0} where
  pub reply-none : (ps : List InterfaceFuncParam) (stack : List (Item V W)) → when (nat_eq (length ps) 0) (Some stack) ≡ option_map (λ xs. xs ++ stack) (reply_items (param_types ps) None)
  reply-none [] stack = refl
  reply-none (p ∷ []) stack = refl
  reply-none (p ∷ q ∷ ps) stack = ap (λ b. when b (Some stack)) (eqb-suc-zero (suc (length ps)))

  pub reply-one : (ps : List InterfaceFuncParam) (p : InterfaceFuncParam) (x : V) → length ps ≡ 1 → p ≡ get_or ps 0 p →
      reply_items {W = W} (param_types ps) (Some x) ≡ Some (value_item x (name_of (tree_of p.tref)) ∷ [])
  reply-one ps p x l e = ap (λ ts. reply_items ts (Some x)) (one-type ps p l e)

  pub reply-other : (ps : List InterfaceFuncParam) (x : V) → length ps ≢ 1 → reply_items {W = W} (param_types ps) (Some x) ≡ None
  reply-other [] x n = refl
  reply-other (p ∷ []) x n = absurd (n refl)
  reply-other (p ∷ q ∷ ps) x n = refl

  -- what was pushed, and the values taken off before
  pub reply-went : (o : Option (List (Item V W))) (vs : List V) (old new : List (Item V W)) → Some new ≡ option_map (λ xs. xs ++ old) o → Some (vs, new) ≡ reply_on o (vs, old)
  reply-went None vs old new e = absurd (none_some (sym e))
  reply-went (Some xs) vs old new e = ap (λ s. Some (vs, s)) (some-same e)

  pub reply-failed : (o : Option (List (Item V W))) (vs : List V) (old : List (Item V W)) → None ≡ option_map (λ xs. xs ++ old) o → None ≡ reply_on o (vs, old)
  reply-failed None vs old e = refl
  reply-failed (Some xs) vs old e = absurd (none_some e)

module _ {v w m V W M : Type 0} (D : Domain V W M) (value : v → V) (word : w → W) (memory : m → M) where
  abbrev Stack : Type 0
  Stack = List (Item V W)

  -- A CALL OF THE INTERFACE
  module _ (home : List ℕ) (f : Function) (reply : Option V) (m' n : List ℕ) (ps rs : List Tree) (old : Machine v w m) where
    abbrev callee_before : List W → List Event → CalleeState V W M
    callee_before words es = state_in value word memory (callee_setting D home f reply words None) es old

    pub not-called : (new : Machine v w m) → names_function home f m' n ps rs ≡ false → Replies D value word memory home f reply m' n ps rs old new None
    not-called new e = λ words es.
        ap (λ b. only b (if_found {A = List V × Stack} (values_off (length f.params) [] (stack_of value word old.stack.items)) (λ r. replied (λ (e : Numbered). e.1) (λ (e : Numbered). e.0) D home f reply r.0 r.1 (callee_before words es)))) e

    pub replies : (stack : Vec (declared_item.Item v w)) (r : Result (Option (Vec v)) OutOfMemory) → names_function home f m' n ps rs ≡ true →
        IfOk r (λ noted. option_map (λ vs. (map value vs.items, stack_of value word stack.items)) noted ≡ reply_row f reply (stack_of value word old.stack.items)) →
        IfOk r (Replies D value word memory home f reply m' n ps rs old (record old { stack = stack }))
    replies stack (Err x) e h = h
    replies stack (Ok noted) e h = λ words es.
        let before = callee_before words es in
        ap (λ b. only b (if_found {A = List V × Stack} (values_off (length f.params) [] (stack_of value word old.stack.items)) (λ r. replied (λ (e : Numbered). e.1) (λ (e : Numbered). e.0) D home f reply r.0 r.1 before))) e
        ∙ row before (values_off (length f.params) [] (stack_of value word old.stack.items))
        ∙ ap (λ (o : Option (List V × Stack)). if_found o (λ r. went (record before { stack = r.1; called = Some r.0 }))) (sym h)
        ∙ by words es noted
      where
        on : (before : CalleeState V W M) (o : Option (List (Item V W))) (r : List V × Stack) →
            if_found {P = Spot} o (λ xs. went (record before { stack = xs ++ r.1; called = Some r.0 })) ≡ if_found {A = List V × Stack} (reply_on o r) (λ r. went (record before { stack = r.1; called = Some r.0 }))
        on before None r = refl
        on before (Some xs) r = refl

        row : (before : CalleeState V W M) (o : Option (List V × Stack)) →
            if_found {P = Spot} {A = List V × Stack} o (λ r. replied (λ (e : Numbered). e.1) (λ (e : Numbered). e.0) D home f reply r.0 r.1 before)
            ≡ if_found {A = List V × Stack} (option_and_then (reply_on (reply_items f.results reply)) o) (λ r. went (record before { stack = r.1; called = Some r.0 }))
        row before None = refl
        row before (Some r) = on before (reply_items f.results reply) r

        by : (words : List W) (es : List Event) (noted : Option (Vec v)) →
            if_found {P = Spot} {A = List V × Stack} (option_map (λ (vs : Vec v). (map value vs.items, stack_of value word stack.items)) noted) (λ r. went (record (callee_before words es) { stack = r.1; called = Some r.0 }))
            ≡ if_found noted (λ vs. went (state_in value word memory (callee_setting D home f reply words (Some (map value vs.items))) es (record old { stack = stack })))
        by words es None = refl
        by words es (Some vs) = refl

-- words taken off are as many as were asked for
words-long : {V W : Type 0} (n : ℕ) (ws : List W) (stack : List (Item V W)) (r : List W × List (Item V W)) → words_off n ws stack ≡ Some r → length r.0 ≡ n + length ws
words-long {V = V} {W = W} zero ws stack r e = let k : length ws ≡ length r.0 = ap (λ (p : List W × List (Item V W)). length p.0) (some-same e) in omega (arith, k)
words-long (suc n) ws (word_item x ∷ stack) r e = let k : length r.0 ≡ n + suc (length ws) = words-long n (x ∷ ws) stack r e in omega (arith, k)
words-long (suc n) ws (value_item x t ∷ stack) r e = absurd (none_some e)
words-long (suc n) ws [] r e = absurd (none_some e)

both-true : (a b c d : Bool) → a && (b && (c && d)) ≡ true → c ≡ true
both-true true true true d e = refl
both-true true true false d e = e
both-true true false c d e = absurd (clash e)
  where
    clash : false ≡ true → ⊥
    clash e = cc
both-true false b c d e = absurd (clash e)
  where
    clash : false ≡ true → ⊥
    clash e = cc

-- the words taken off, if they are of these types
module _ {V W M : Type 0} (D : Domain V W M) where
  abbrev Off : Type 0
  Off = List W × List (Item V W)

  pub typed-off : (ts : List WasmType) (stack below : List (Item V W)) (ws : List W) (o : Option (List W)) → Some (ws, below) ≡ words_off (length ts) [] stack → o ≡ typed_only D ts ws →
      option_map {U = Off} (λ ws. (ws, below)) o ≡ words_row D ts stack
  typed-off ts stack below ws o e h =
      ap (option_map {U = Off} (λ ws. (ws, below))) h ∙ at (typed D ts ws) ∙ ap (λ (o : Option Off). option_and_then (λ r. when (typed D ts r.0) (Some r)) o) e
    where
      at : (b : Bool) → option_map {U = Off} (λ ws. (ws, below)) (when b (Some ws)) ≡ when b (Some (ws, below))
      at true = refl
      at false = refl

-- A CALL OF WEBASSEMBLY, up to the callee's run
module _ {v w m V W M : Type 0} (D : Domain V W M) (value : v → V) (word : w → W) (memory : m → M) (home : List ℕ) (f : Function)
    (m' n : List ℕ) (ps rs : List WasmType) (old : Machine v w m) where
  module _ (callee : List Event) (arguments : List V) (reply : Option V) (es : List Event) where
    abbrev before : CallerState V W M
    before = state_in value word memory (caller_setting D home f callee arguments reply None) es old

    abbrev calls_with : List W × List (Item V W) → Tried Spot (CallerState V W M)
    calls_with r =
        called_with (λ (e : Numbered). e.1) (λ (e : Numbered). e.0) D home f (itself home f) (in_callee (length callee)) (numbered in_callee 0 callee) reply r.0 (record before { stack = r.1 })

    abbrev hands_on : List W × List (Item V W) → Tried Spot (CallerState V W M)
    hands_on r =
        handed_on (λ (e : Numbered). e.1) (λ (e : Numbered). e.0) D home f (itself home f) (in_callee (length callee)) (numbered in_callee 0 callee) reply r.0 (record before { stack = r.1 }) r.0

    handed-row : ps ≡ signature_params f → (o : Option (List W × List (Item V W))) → ((r : List W × List (Item V W)) → o ≡ Some r → length r.0 ≡ length ps + 0) →
        if_found o (λ r. only (typed D ps r.0) (calls_with r)) ≡ if_found (option_and_then (λ r. when (typed D ps r.0) (Some r)) o) hands_on
    handed-row e None long = refl
    handed-row e (Some r) long = at (typed D ps r.0)
      where
        number : length (signature_params f) ≡ length r.0
        number = sym (ap length e) ∙ omega (arith, long r refl)

        at : (b : Bool) → only b (calls_with r) ≡ if_found (when b (Some r)) hands_on
        at false = refl
        at true =
            ap (λ o. if_found o (handed_on (λ (e : Numbered). e.1) (λ (e : Numbered). e.0) D home f (itself home f) (in_callee (length callee)) (numbered in_callee 0 callee) reply r.0 (record before { stack = r.1 })))
            (all_in_order r.0 (length (signature_params f)) number)

  pub not-made : (new : Machine v w m) → names_words home f m' n ps rs ≡ false → HandsOn D value word memory home f m' n ps rs old new None
  not-made new e = λ callee arguments reply es.
      ap (λ b. only b (if_found (words_off (length ps) [] (stack_of value word old.stack.items)) (λ r. only (typed D ps r.0) (calls_with callee arguments reply es r)))) e

  pub hands-on : (stack : Vec (declared_item.Item v w)) (r : Result (Option (Vec w)) OutOfMemory) → names_words home f m' n ps rs ≡ true →
      IfOk r (λ words. option_map (λ ws. (map word ws.items, stack_of value word stack.items)) words ≡ words_row D ps (stack_of value word old.stack.items)) →
      IfOk r (HandsOn D value word memory home f m' n ps rs old (record old { stack = stack }))
  hands-on stack (Err x) e h = h
  hands-on stack (Ok words) e h = λ callee arguments reply es.
      ap (λ b. only b (if_found (words_off (length ps) [] (stack_of value word old.stack.items)) (λ r. only (typed D ps r.0) (calls_with callee arguments reply es r)))) e
      ∙ handed-row callee arguments reply es types (words_off (length ps) [] (stack_of value word old.stack.items)) (λ r k. words-long (length ps) [] (stack_of value word old.stack.items) r k)
      ∙ ap (λ o. if_found o (hands_on callee arguments reply es)) (sym h)
      ∙ by callee arguments reply es words
    where
      types : ps ≡ signature_params f
      types = same_types_is ps (signature_params f) (truth (both-true (same_bytes m' home) (same_bytes n f.name) (same_types ps (signature_params f)) (same_types rs (signature_results f)) e))

      by : (callee : List Event) (arguments : List V) (reply : Option V) (es : List Event) (words : Option (Vec w)) →
          if_found {A = List W × List (Item V W)} (option_map (λ (ws : Vec w). (map word ws.items, stack_of value word stack.items)) words) (hands_on callee arguments reply es)
          ≡ if_found words (λ ws. handed_on (λ (e : Numbered). e.1) (λ (e : Numbered). e.0) D home f (itself home f) (in_callee (length callee)) (numbered in_callee 0 callee) reply (map word ws.items)
          (state_in value word memory (caller_setting D home f callee arguments reply None) es (record old { stack = stack })) (map word ws.items))
      by callee arguments reply es None = refl
      by callee arguments reply es (Some ws) = refl

-- THE CALLEE'S RUN HAS COME BACK
module _ {v w m V W M : Type 0} (D : Domain V W M) (value : v → V) (word : w → W) (memory : m → M)
    (f : Function) (words : List W) (noted : List V) (at_return : M) (old new : Machine v w m) where
  module _ (back : List (Item V W)) where
    back-row : (home : List ℕ) (s : CallerState V W M) (o : Option (List W)) →
        if_found {P = Spot} o (λ ws. only (typed D (signature_results f) ws) (went (answered (λ (e : Numbered). e.1) (λ (e : Numbered). e.0) D home f (itself home f) words noted ws at_return s)))
        ≡ if_found (option_and_then (typed_only D (signature_results f)) o) (λ ws. went (answered (λ (e : Numbered). e.1) (λ (e : Numbered). e.0) D home f (itself home f) words noted ws at_return s))
    back-row home s None = refl
    back-row home s (Some ws) = at (typed D (signature_results f) ws)
      where
        at : (b : Bool) → only {P = Spot} b (went (answered (λ (e : Numbered). e.1) (λ (e : Numbered). e.0) D home f (itself home f) words noted ws at_return s))
            ≡ if_found (when b (Some ws)) (λ ws. went (answered (λ (e : Numbered). e.1) (λ (e : Numbered). e.0) D home f (itself home f) words noted ws at_return s))
        at true = refl
        at false = refl

    -- whatever memory it is that was left
    backs : (home : List ℕ) (s : CallerState V W M) (memory' : M) → memory' ≡ at_return → (o : Option (List W)) → o ≡ option_and_then (typed_only D (signature_results f)) (words_in back) →
        if_found {P = Spot} (words_in back) (λ ws. only (typed D (signature_results f) ws) (went (answered (λ (e : Numbered). e.1) (λ (e : Numbered). e.0) D home f (itself home f) words noted ws memory' s)))
        ≡ if_found o (λ ws. went (answered (λ (e : Numbered). e.1) (λ (e : Numbered). e.0) D home f (itself home f) words noted ws at_return s))
    backs home s memory' e o h =
        ap (λ a. if_found {P = Spot} (words_in back) (λ ws. only (typed D (signature_results f) ws) (went (answered (λ (e : Numbered). e.1) (λ (e : Numbered). e.0) D home f (itself home f) words noted ws a s)))) e
        ∙ back-row home s (words_in back)
        ∙ sym (ap (λ o. if_found o (λ ws. went (answered (λ (e : Numbered). e.1) (λ (e : Numbered). e.0) D home f (itself home f) words noted ws at_return s))) h)

    pub not-back : None ≡ option_and_then (typed_only D (signature_results f)) (words_in back) → TakesBack D value word memory f words noted back at_return old new None
    not-back h = λ home callee arguments reply es end e.
        backs home (state_in value word memory (caller_setting D home f callee arguments reply None) es old) end.memory e None h

    pub comes-back : (ws : List W) (call : CallMade v w m) → Some ws ≡ option_and_then (typed_only D (signature_results f)) (words_in back) →
        IsAnswered D value word memory words noted ws at_return old new call → TakesBack D value word memory f words noted back at_return old new (Some call)
    comes-back ws call h k = λ home callee arguments reply es end e.
        backs home (state_in value word memory (caller_setting D home f callee arguments reply None) es old) end.memory e (Some ws) h
        ∙ ap went (k home f callee arguments reply es)

  pub is-answered : (ws : List W) (call : CallMade v w m) → stack_of value word new.stack.items ≡ pushed (map word_item ws) (stack_of value word old.stack.items) →
      option_map word new.returned ≡ one_word ws → memory new.memory ≡ at_return → new.slots ≡ old.slots → new.answer ≡ old.answer → new.blocks ≡ old.blocks →
      call_of value word memory call ≡ record { words = words; at_call = memory old.memory; noted = noted; callee_words = ws; at_return = at_return } →
      IsAnswered D value word memory words noted ws at_return old new call
  is-answered ws call s r c l a b k = λ home f callee arguments reply es.
      rw (← s, ← r, ← k, ← c, ← l, ← a, ← b) refl

pub ruleset call_rules = (side_rules, reply-none, reply-one, reply-other, reply-went, reply-failed)
