-- Words that are handed on in another order of parameters are those of the other function's parameters.
use Rattle.std.proofs.Common.{◌≡◌, ℕ, zero, suc, ◌+◌, T, refl, sym, ap, ◌∙◌, subst, arith, Option, Some, None, option_and_then, option_map, List, [], ◌∷◌, ◌++◌, slice_get, length, is_none}
use Rattle.std.specs.List.{concat}
use Rattle.witx_ast.specs.Tree.{Tree}
use Rattle.witx_ast.specs.Plain.{plain}
use Rattle.witx_machine.specs.Functions.{Function, name_of}
use Rattle.witx_machine.specs.Signature.{param_words, words_of_params, return_pointers}
use Rattle.witx_machine.specs.Lowerable.{unlowerable_result, lowerable}
use Rattle.witx_machine.specs.Traces.{caller_events, callee_events}
use Rattle.witx_machine.specs.Machine.{Domain}
use Rattle.witx_machine.specs.Run.{numbers, picked_in_order}
use Rattle.witx_machine.specs.Passage.{Meaning}
use Rattle.witx_machine.specs.Shims.{Alike, StandsIn, word_numbers, pass}
use Rattle.witx_machine.proofs.Laws.{Laws}
use Rattle.witx_machine.proofs.Ways.{Way, Ways}
use Rattle.witx_machine.proofs.Params.{StandAt, AreArguments, Passed, PassedAll, passed_alike, typed_length}
use Rattle.witx_machine.proofs.Callee.{stand_all}
use Rattle.witx_machine.proofs.Caller.{words_from}
use Rattle.witx_machine.proofs.Whole.{Handed, RunWell, passed_types}
use Rattle.witx_machine.proofs.All.{all_fit, param_ways, params_lower, runs_well_to}

pub some_same : {A : Type 0} {x y : A} → Some x ≡ Some y → x ≡ y
some_same {A} {x} e = ap (or_else x) e
  where
    or_else : A → Option A → A
    or_else d None = d
    or_else d (Some y) = y

module _ {A : Type 0} where
  stands_front : (all : List A) (i : ℕ) (a b : List A) → StandAt all i (a ++ b) → StandAt all i a
  stands_front all i [] b h = tt
  stands_front all i (x ∷ a) b h = (h.0, stands_front all (i + 1) a b h.1)

  stands_back : (all : List A) (i : ℕ) (a b : List A) → StandAt all i (a ++ b) → StandAt all (i + length a) b
  stands_back all i [] b h = let e : i ≡ i + 0 = omega arith in subst (λ i. StandAt all i b) e h
  stands_back all i (x ∷ a) b h =
      let e : i + 1 + length a ≡ i + length (x ∷ a) = omega arith in
      subst (λ i. StandAt all i b) e (stands_back all (i + 1) a b h.1)

  -- the first item and the others
  record Picked (i : ℕ) (is : List ℕ) (all xs : List A) : Type 0 where
    pub item : A
    pub more : List A
    pub first : slice_get all i ≡ Some item
    pub rest : picked_in_order is all ≡ Some more
    pub both : item ∷ more ≡ xs

  picked : (i : ℕ) (is : List ℕ) (all xs : List A) → picked_in_order (i ∷ is) all ≡ Some xs → Picked i is all xs
  picked i is all xs e = go (slice_get all i) refl (picked_in_order is all) refl e
    where
      none : None ≡ Some xs → ⊥
      none e = cc

      go : (o : Option A) → slice_get all i ≡ o → (p : Option (List A)) → picked_in_order is all ≡ p → option_and_then (λ x. option_and_then (λ more. Some (x ∷ more)) p) o ≡ Some xs → Picked i is all xs
      go None g p h e = absurd (none e)
      go (Some x) g None h e = absurd (none e)
      go (Some x) g (Some more) h e = record { item = x; more = more; first = g; rest = h; both = some_same e }

  both_picked : (i : ℕ) (is : List ℕ) (all : List A) (x : A) (more : List A) → slice_get all i ≡ Some x → picked_in_order is all ≡ Some more → picked_in_order (i ∷ is) all ≡ Some (x ∷ more)
  both_picked i is all x more g h =
      ap (option_and_then (λ x. option_and_then (λ more. Some (x ∷ more)) (picked_in_order is all))) g ∙ ap (option_and_then (λ more. Some (x ∷ more))) h

  in_order_append : (a b : List ℕ) (all xs ys : List A) → picked_in_order a all ≡ Some xs → picked_in_order b all ≡ Some ys → picked_in_order (a ++ b) all ≡ Some (xs ++ ys)
  in_order_append [] b all xs ys e k = k ∙ ap (λ xs. Some (xs ++ ys)) (some_same e)
  in_order_append (i ∷ a) b all xs ys e k =
      let p = picked i a all xs e in
      both_picked i (a ++ b) all p.item (p.more ++ ys) p.first (in_order_append a b all p.more ys p.rest k) ∙ ap (λ xs. Some (xs ++ ys)) p.both

module _ {V W M : Type 0} {D : Domain V W M} {J : Meaning V W M} (L : Laws D J) (m : M) (all : List W) where
  -- what was passed for one parameter, of words from the w-th on
  record Piece (w : ℕ) (ts : List Tree) (vs : List V) (i : ℕ) (t : Tree) : Type 0 where
    pub way : Way (name_of t) t t
    pub value : V
    pub own_numbers : List ℕ
    pub words : List W
    pub value_is : slice_get vs i ≡ Some value
    pub numbers_are : slice_get (word_numbers w ts) i ≡ Some own_numbers
    pub words_are : picked_in_order own_numbers all ≡ Some words
    pub is : L.Is (plain t) value
    pub passed : Passed L m t way value words

  piece : (ts : List Tree) (ways : Ways ts) (vs : List V) (ws : List W) (w i : ℕ) (t : Tree) → AreArguments L ts vs → PassedAll L m ts ways vs ws → StandAt all w ws → slice_get ts i ≡ Some t → Piece w ts vs i t
  piece [] ways vs ws w i t are p stands e = absurd (none e)
    where
      none : None ≡ Some t → ⊥
      none e = cc
  piece (u ∷ ts) ways [] ws w i t are p stands e = absurd are
  piece (u ∷ ts) ways (v ∷ vs) ws w zero t are p stands e =
      let st = stands_front all w p.0 p.1 (subst (StandAt all w) p.2 stands) in
      let long : length p.0 ≡ length (param_words (plain u)) = sym (typed_length D (param_words (plain u)) p.0 p.3.types) in
      subst (Piece w (u ∷ ts) (v ∷ vs) zero) (some_same e) (record {
        way = ways.0;
        value = v;
        own_numbers = numbers w (length (param_words (plain u)));
        words = p.0;
        value_is = refl;
        numbers_are = refl;
        words_are = ap (λ n. picked_in_order (numbers w n) all) (sym long) ∙ words_from all w p.0 st;
        is = are.0;
        passed = p.3;
      })
  piece (u ∷ ts) ways (v ∷ vs) ws w (suc i) t are p stands e =
      let st = stands_back all w p.0 p.1 (subst (StandAt all w) p.2 stands) in
      let long : w + length p.0 ≡ w + length (param_words (plain u)) = ap (λ n. w + n) (sym (typed_length D (param_words (plain u)) p.0 p.3.types)) in
      let r = piece ts ways.1 vs p.1 (w + length (param_words (plain u))) i t are.1 p.4 (subst (λ w. StandAt all w p.1) long st) e in
      record { way = r.way; value = r.value; own_numbers = r.own_numbers; words = r.words; value_is = r.value_is; numbers_are = r.numbers_are; words_are = r.words_are; is = r.is; passed = r.passed }

  record Ordered (order : List ℕ) (w : ℕ) (ts : List Tree) (vs : List V) (us : List Tree) (own_ways : Ways us) : Type 0 where
    pub noted : List V
    pub all_numbers : List (List ℕ)
    pub own : List W
    pub noted_are : picked_in_order order vs ≡ Some noted
    pub numbers_are : picked_in_order order (word_numbers w ts) ≡ Some all_numbers
    pub own_are : picked_in_order (concat all_numbers) all ≡ Some own
    pub are : AreArguments L us noted
    pub passed : PassedAll L m us own_ways noted own

  module _ (ts : List Tree) (ways : Ways ts) (vs : List V) (ws : List W) (w : ℕ) (are : AreArguments L ts vs) (p : PassedAll L m ts ways vs ws) (stands : StandAt all w ws) where
    in_new_order : (order : List ℕ) (ordered us : List Tree) (own_ways : Ways us) → picked_in_order order ts ≡ Some ordered → Alike ordered us → Ordered order w ts vs us own_ways
    in_new_order [] ordered us own_ways e a = none us own_ways (subst (λ ts. Alike ts us) (sym (some_same e)) a)
      where
        none : (us : List Tree) (own_ways : Ways us) → Alike [] us → Ordered [] w ts vs us own_ways
        none [] own_ways a = record { noted = []; all_numbers = []; own = []; noted_are = refl; numbers_are = refl; own_are = refl; are = tt; passed = refl }
        none (u ∷ us) own_ways a = absurd a
    in_new_order (i ∷ order) ordered us own_ways e a =
        let k = picked i order ts ordered e in
        next (λ more us own_ways h a. in_new_order order more us own_ways h a) k.item k.more us own_ways k.first k.rest (subst (λ ts. Alike ts us) (sym k.both) a)
      where
        next : ((more us : List Tree) (own_ways : Ways us) → picked_in_order order ts ≡ Some more → Alike more us → Ordered order w ts vs us own_ways) → (t : Tree) (more us : List Tree) (own_ways : Ways us) → slice_get ts i ≡ Some t → picked_in_order order ts ≡ Some more → Alike (t ∷ more) us → Ordered (i ∷ order) w ts vs us own_ways
        next others t more [] own_ways g h a = absurd a
        next others t more (u ∷ us) own_ways g h a =
            let one = piece ts ways vs ws w i t are p stands g in
            let rest = others more us own_ways.1 h a.1 in
            record {
              noted = one.value ∷ rest.noted;
              all_numbers = one.own_numbers ∷ rest.all_numbers;
              own = one.words ++ rest.own;
              noted_are = both_picked i order vs one.value rest.noted one.value_is rest.noted_are;
              numbers_are = both_picked i order (word_numbers w ts) one.own_numbers rest.all_numbers one.numbers_are rest.numbers_are;
              own_are = in_order_append one.own_numbers (concat rest.all_numbers) all one.words rest.own one.words_are rest.own_are;
              are = (subst (λ q. L.Is q one.value) a.0 one.is, rest.are);
              passed = (one.words, rest.own, refl, passed_alike L m t u one.way own_ways.0 one.value one.words a.0 one.is one.passed, rest.passed);
            }

module _ {V W M : Type 0} {D : Domain V W M} {J : Meaning V W M} (L : Laws D J) where
  -- an old caller against a new callee that gets the words by their numbers
  pub shim_runs_well : (m n : List ℕ) (f g : Function) (order words : List ℕ) → T (lowerable f) → T (lowerable g) → T (all_fit f.params) → T (all_fit f.results) → T (all_fit g.params) → T (all_fit g.results) → StandsIn order f g → pass order f ≡ Some words →
      RunWell L m f (record { module_name = n; function = g; order = words }) (picked_in_order order) (caller_events m f) (callee_events n g)
  shim_runs_well m n f g order words h h' fp fr gp gr in_place passes =
      let can = params_lower f.params (unlowerable_result f.abi f.results) h in
      let own_can = params_lower g.params (unlowerable_result g.abi g.results) h' in
      let ways = param_ways f.params can.0 fp in
      let own_ways = param_ways g.params own_can.0 gp in
      subst (λ abi. let g' : Function = record { abi = abi; name = g.name; params = g.params; results = g.results } in RunWell L m f (record { module_name = n; function = g'; order = words }) (picked_in_order order) (caller_events m f) (callee_events n g')) in_place.abi
      (runs_well_to L m n f.name g.name f.params g.params words ways own_ways (picked_in_order order) f.abi f.results g.results can.1 (subst (λ abi. T (is_none (unlowerable_result abi g.results))) (sym in_place.abi) own_can.1) fr gr in_place.results
      (λ base vs ws addresses are passed count. hand base vs ws addresses ways own_ways are passed count))
    where
      hand : (base : M) (vs : List V) (ws addresses : List W) (ways : Ways f.params) (own_ways : Ways g.params) → AreArguments L f.params vs → PassedAll L base f.params ways vs ws → length (return_pointers f) ≡ length addresses →
          Handed L (record { module_name = n; function = record { abi = f.abi; name = g.name; params = g.params; results = g.results }; order = words }) own_ways (picked_in_order order vs) base ws addresses
      hand base vs ws addresses ways own_ways are passed count =
          let all = ws ++ addresses in
          let stands = stand_all all in
          let d = in_new_order L base all f.params ways vs ws 0 are passed (stands_front all 0 ws addresses stands) order in_place.ordered g.params own_ways in_place.params in_place.alike in
          let k = length (words_of_params f.params) in
          let at : 0 + length ws ≡ k = let e = typed_length D (words_of_params f.params) ws (passed_types L base f.params ways vs ws passed) in omega arith in
          let behind = words_from all k addresses (subst (λ w. StandAt all w addresses) at (stands_back all 0 ws addresses stands)) in
          let pointers : picked_in_order (numbers k (length (return_pointers f))) all ≡ Some addresses = ap (λ n. picked_in_order (numbers k n) all) count ∙ behind in
          let whole : concat d.all_numbers ++ numbers k (length (return_pointers f)) ≡ words = some_same (sym (ap (option_map (λ params. concat params ++ numbers k (length (return_pointers f)))) d.numbers_are) ∙ passes) in
          record {
            noted = d.noted;
            own = d.own;
            arguments = d.noted_are;
            handed = subst (λ is. picked_in_order is all ≡ Some (d.own ++ addresses)) whole (in_order_append (concat d.all_numbers) (numbers k (length (return_pointers f))) all d.own addresses d.own_are pointers);
            are = d.are;
            passed = d.passed;
          }
