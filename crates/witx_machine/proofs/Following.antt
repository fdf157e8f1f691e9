-- The simulation in its final form: what is known of the last memory is known throughout.
use Rattle.std.proofs.Common.{◌≡◌, ℕ, zero, suc, Bool, true, false, refl, sym, ap, ◌∙◌, subst, Option, Some, None, List, [], ◌∷◌, ◌++◌, map, length}
use Rattle.witx_ast.specs.Tree.{Tree}
use Rattle.witx_machine.specs.declared.surface.WasmType.{WasmType}
use Rattle.witx_machine.specs.Events.{Event}
use Rattle.witx_machine.specs.Functions.{Function}
use Rattle.witx_machine.specs.Machine.{Domain, Tried, went, no_rule, stuck_at, Item, word_item, value_item, State, Inside, outside, in_lower, in_lift, Side, Flow, flowing, gathering, play, runs_within}
use Rattle.witx_machine.specs.Run.{argument_items, reply_items, Call, Outcome, Receiver, callee_side, caller_side, run_to}
use Rattle.witx_machine.proofs.Simulation.{Follows, Both, Each, Goes, Back, Makes, Simulates, Backwards, went_same}
use Rattle.witx_machine.proofs.Simulation as sim
use Rattle.witx_machine.proofs.RunSimulation.{BacksOf, Outcomes, Calls}
use Rattle.witx_machine.proofs.RunSimulation as two

pub follows_self : {A : Type 0} (R : A → A → Type 0) → ((x : A) → R x x) → (o : Option A) → Follows R o o
follows_self R h None = tt
follows_self R h (Some x) = h x

pub both_self : {A : Type 0} (R : A → A → Type 0) → ((x : A) → R x x) → (o : Option A) → Both R o o
both_self R h None = tt
both_self R h (Some x) = h x

pub each_self : {A : Type 0} (R : A → A → Type 0) → ((x : A) → R x x) → (xs : List A) → Each R xs xs
each_self R h [] = tt
each_self R h (x ∷ xs) = (h x, each_self R h xs)

pub each_same : {A : Type 0} (xs ys : List A) → Each ◌≡◌ xs ys → xs ≡ ys
each_same [] [] h = refl
each_same [] (y ∷ ys) h = absurd h
each_same (x ∷ xs) [] h = absurd h
each_same (x ∷ xs) (y ∷ ys) h = cons_both h.0 (each_same xs ys h.1)
  where
    cons_both : {A : Type 0} {x y : A} {xs ys : List A} → x ≡ y → xs ≡ ys → x ∷ xs ≡ y ∷ ys
    cons_both p q i = p i ∷ q i

pub both_same : {A : Type 0} (o p : Option A) → Both ◌≡◌ o p → o ≡ p
both_same None None h = refl
both_same None (Some y) h = absurd h
both_same (Some x) None h = absurd h
both_same (Some x) (Some y) h = ap Some h

pub follows_at : {A B : Type 0} (R : B → B → Type 0) → ((x : B) → R x x) → (f : A → Option B) (x y : A) → x ≡ y → Follows R (f x) (f y)
follows_at R h f x y e = subst (λ y. Follows R (f x) (f y)) e (follows_self R h (f x))

module _ {V W M : Type 0} (D : Domain V W M) (G : M → Type 0) where
  -- the same memory, and what is known of it is known of m0
  abbrev pub Same : M → M → M → Type 0
  Same m0 m m' = (m ≡ m') × (G m → G m0)

  abbrev pub Any : M → Type 0
  Any m = Unit {0}

  abbrev pub Named≡ : Option Tree → V → V → Type 0
  Named≡ t v v' = v ≡ v'

  abbrev Two : W × W → W × W → Type 0
  Two p q = (p.0 ≡ q.0) × (p.1 ≡ q.1)

  abbrev Paid : V × Option Tree → V × Option Tree → Type 0
  Paid p q = (p.0 ≡ q.0) × (p.1 ≡ q.1)

  abbrev Picked : Bool × Option (V × Option Tree) → Bool × Option (V × Option Tree) → Type 0
  Picked p q = (p.0 ≡ q.0) × Both Paid p.1 q.1

  abbrev Gave : M → W × M → W × M → Type 0
  Gave m0 p q = (p.0 ≡ q.0) × Same m0 p.1 q.1

  abbrev AnyAt : W × M → Type 0
  AnyAt p = Any p.1

  pub self : (m0 : M) → ((t : Tree) (m : M) (r : W × M) → D.give t m ≡ Some r → G r.1 → G m) → ((t : Tree) (v : V) (m : M) (r : W × M) → D.put t v m ≡ Some r → G r.1 → G m) → ((t : Tree) (w : W) (v : V) (m m1 : M) → D.set t w v m ≡ Some m1 → G m1 → G m) → Simulates D D ◌≡◌ Named≡ ◌≡◌ (Same m0) Any
  self m0 give_back put_back set_back = record {
    plain = λ v v' e. e;
    forget = λ t v v' e. e;
    lower = λ x v v' e. follows_at ◌≡◌ (λ x. refl) (λ v. D.lower x v) v v' e;
    lift = λ x w w' e. follows_at ◌≡◌ (λ x. refl) (λ w. D.lift x w) w w' e;
    list_words = λ v v' e. follows_at Two (λ x. (refl, refl)) (λ v. D.list_words v) v v' e;
    list_value = λ a a' l l' e k. subst (λ a'. Follows ◌≡◌ (D.list_value a l) (D.list_value a' l')) e (follows_at ◌≡◌ (λ x. refl) (λ l. D.list_value a l) l l' k);
    tuple = λ vs vs' e. ap (λ vs. D.tuple vs) (each_same vs vs' e);
    parts = λ n v v' e. follows_at (Each ◌≡◌) (each_self ◌≡◌ (λ x. refl)) (λ v. D.parts n v) v v' e;
    give = λ t m m' r. subst (λ m'. Makes AnyAt (Gave m0) (D.give t m) (D.give t m')) r.0 (made (D.give t m) (λ p e g. r.1 (give_back t m p e g)));
    put = λ t v v' m m' e r. subst (λ m'. Makes AnyAt (Gave m0) (D.put t v m) (D.put t v' m')) r.0 (subst (λ v'. Makes AnyAt (Gave m0) (D.put t v m) (D.put t v' m)) e (made (D.put t v m) (λ p e g. r.1 (put_back t v m p e g))));
    get = λ t w w' m m' e r. subst (λ m'. Follows ◌≡◌ (D.get t w m) (D.get t w' m')) r.0 (follows_at ◌≡◌ (λ x. refl) (λ w. D.get t w m) w w' e);
    set = λ t w w' v v' m m' e k r. subst (λ m'. Makes Any (Same m0) (D.set t w v m) (D.set t w' v' m')) r.0 (subst (λ w'. Makes Any (Same m0) (D.set t w v m) (D.set t w' v' m)) e (subst (λ v'. Makes Any (Same m0) (D.set t w v m) (D.set t w v' m)) k (stored (D.set t w v m) (λ p e g. r.1 (set_back t w v m p e g)))));
    picks = λ ok err v v' e. follows_at Picked (λ c. (refl, both_self Paid (λ p. (refl, refl)) c.1)) (λ v. D.picks ok err v) v v' e;
    case_word = λ ok err v c e. refl;
    chooses = λ w w' e. follows_at ◌≡◌ (λ x. refl) (λ w. D.chooses w) w w' e;
    result = λ e p p' h. ap (λ p. D.result e p) (both_same p p' h);
    has_type = λ t w w' e h. subst (λ w. Rattle.std.proofs.Common.T (D.has_type t w)) e h;
  }
    where
      made : (o : Option (W × M)) → ((p : W × M) → o ≡ Some p → G p.1 → G m0) → Makes AnyAt (Gave m0) o o
      made None h = tt
      made (Some p) h = λ u. (refl, (refl, h p refl))

      stored : (o : Option M) → ((p : M) → o ≡ Some p → G p → G m0) → Makes Any (Same m0) o o
      stored None h = tt
      stored (Some p) h = λ u. (refl, h p refl)

  abbrev Trivial : {P E C : Type 0} (event : E → Event) (place : E → P) (side : Side P E V W M C) → BacksOf Any event place D side
  Trivial event place side n i es fl x z e g = tt

  pub items_self : (m0 : M) (x : Item V W) → sim.Items D D ◌≡◌ Named≡ ◌≡◌ (Same m0) Any x x
  items_self m0 (word_item w) = refl
  items_self m0 (value_item v t) = (refl, refl)

  insides_self : (m0 : M) (i : Inside V W) → sim.Insides D D ◌≡◌ Named≡ ◌≡◌ (Same m0) Any i i
  insides_self m0 outside = tt
  insides_self m0 in_lift = tt
  insides_self m0 (in_lower x) = both_self _ (items_self m0) x

  module _ (give_back : (t : Tree) (m : M) (r : W × M) → D.give t m ≡ Some r → G r.1 → G m) (put_back : (t : Tree) (v : V) (m : M) (r : W × M) → D.put t v m ≡ Some r → G r.1 → G m) (set_back : (t : Tree) (w : W) (v : V) (m m1 : M) → D.set t w v m ≡ Some m1 → G m1 → G m) {P E : Type 0} (event : E → Event) (place : E → P) where
    abbrev H : (m0 : M) → Simulates D D ◌≡◌ Named≡ ◌≡◌ (Same m0) Any
    H m0 = self m0 give_back put_back set_back

    state_self : {C : Type 0} (RC : C → C → Type 0) → ((c : C) → RC c c) → (s : State E V W M C) → sim.States D D ◌≡◌ Named≡ ◌≡◌ (Same s.memory) Any (H s.memory) event event place place RC s s
    state_self RC h s = record {
      stack = each_self _ (items_self s.memory) s.stack;
      slots = each_self (λ p q. (p.0 ≡ q.0) × (p.1 ≡ q.1)) (λ p. (refl, refl)) s.slots;
      memory = (refl, λ g. g);
      blocks = each_self (λ b b'. Each (λ e e'. event e ≡ event e') b.events b'.events × (b.has_value ≡ b'.has_value)) (λ b. (each_self _ (λ e. refl) b.events, refl)) s.blocks;
      returned = both_self _ (λ w. refl) s.returned;
      called = both_self RC h s.called;
      answer = both_self _ (each_self _ (items_self s.memory)) s.answer;
    }

    flows_self : (fl : Flow E) → sim.FlowsOf event event fl fl
    flows_self flowing = tt
    flows_self (gathering b d es) = (refl, each_self _ (λ e. refl) es)

    -- of a part of a run, from the relation of that run to itself
    from_self : {C : Type 0} (RC : C → C → Type 0) (t : Tried P (State E V W M C)) (m0 : M) (z : State E V W M C) → Goes (λ s. Any s.memory) (sim.States D D ◌≡◌ Named≡ ◌≡◌ (Same m0) Any (H m0) event event place place RC) t t → t ≡ went z → G z.memory → G m0
    from_self RC (went x) m0 z h e g = (h tt).memory.1 (subst (λ s. G s.memory) (sym (went_same e)) g)
    from_self RC no_rule m0 z h e g = absurd (sim.not_went e)
    from_self RC (stuck_at p) m0 z h e g = absurd (sim.not_stuck e)

    callee_side_backs : (m : List ℕ) (f : Function) (reply : Option V) (words : List W) → BacksOf G event place D (callee_side event place D m f reply words)
    callee_side_backs m f reply words n i es fl x z e g =
        let m0 = x.memory in
        let side = callee_side event place D m f reply words in
        let arguments = each_self _ (items_self m0) side.arguments in
        let wasm = λ (m n : List ℕ) (ps rs : List WasmType) (s s' : State E V W M (List V)) (q : sim.States D D ◌≡◌ Named≡ ◌≡◌ (Same m0) Any (H m0) event event place place (Each ◌≡◌) s s'). tt in
        let interface = two.callee_interface D D ◌≡◌ Named≡ ◌≡◌ (Same m0) Any (H m0) event event place place m f reply reply words words (follows_self _ (each_self _ (items_self m0)) (reply_items f.results reply)) in
        let runs = runs_within event place D side n in
        let go = sim.runs_go D D ◌≡◌ Named≡ ◌≡◌ (Same m0) Any (H m0) event event place place (Each ◌≡◌) side side arguments (λ ok err t. t) wasm interface (Trivial event place side) n in
        let all = sim.play_goes D D ◌≡◌ Named≡ ◌≡◌ (Same m0) Any (H m0) event event place place (Each ◌≡◌) side side arguments (λ ok err t. t) wasm interface runs runs go i i (insides_self m0 i) (λ es fl x z e g. tt) es es (each_self _ (λ e. refl) es) fl fl x x (flows_self fl) (state_self (Each ◌≡◌) (each_self _ (λ v. refl)) x) in
        from_self (Each ◌≡◌) (play event place D side runs i es fl x) m0 z all e g

    abbrev AnyCall : Call V W M → Call V W M → Type 0
    AnyCall c c' = Unit {0}

    caller_side_backs : (m : List ℕ) (f : Function) (to : Receiver) (last : P) (callee : List E) (arguments : List V) (reply : Option V) → BacksOf G event place D (caller_side event place D m f to last callee arguments reply)
    caller_side_backs m f to last callee values reply n i es fl x z e g =
        let m0 = x.memory in
        let side = caller_side event place D m f to last callee values reply in
        let arguments = each_self _ (items_self m0) side.arguments in
        let wasm = two.caller_wasm D D ◌≡◌ Named≡ ◌≡◌ (Same m0) Any (H m0) event event place place m f to (λ reply words. Trivial event place (callee_side event place D to.module_name to.function reply words)) AnyCall (λ c c' h. tt) last last callee callee values values reply reply (each_self _ (λ e. refl) callee) (follows_self _ (each_self _ (items_self m0)) (reply_items to.function.results reply)) in
        let interface = λ (m n : List ℕ) (ps rs : List Tree) (s s' : State E V W M (Call V W M)) (q : sim.States D D ◌≡◌ Named≡ ◌≡◌ (Same m0) Any (H m0) event event place place AnyCall s s'). tt in
        let runs = runs_within event place D side n in
        let go = sim.runs_go D D ◌≡◌ Named≡ ◌≡◌ (Same m0) Any (H m0) event event place place AnyCall side side arguments (λ ok err t. t) wasm interface (Trivial event place side) n in
        let all = sim.play_goes D D ◌≡◌ Named≡ ◌≡◌ (Same m0) Any (H m0) event event place place AnyCall side side arguments (λ ok err t. t) wasm interface runs runs go i i (insides_self m0 i) (λ es fl x z e g. tt) es es (each_self _ (λ e. refl) es) fl fl x x (flows_self fl) (state_self AnyCall (λ c. tt) x) in
        from_self AnyCall (play event place D side runs i es fl x) m0 z all e g

-- THE LAW. Where the first run ends in a memory that meets G, the second ends too, and the outcomes are related
module _ {V W M V' W' M' : Type 0} (D : Domain V W M) (D' : Domain V' W' M') (RV : V → V' → Type 0) (RI : Option Tree → V → V' → Type 0) (RW : W → W' → Type 0) (RM : M → M' → Type 0) (G : M → Type 0) (H : Simulates D D' RV RI RW RM G) (B : Backwards D D' RV RI RW RM G) {P P' E E' : Type 0} (event : E → Event) (event' : E' → Event) (place : E → P) (place' : E' → P') (m : List ℕ) (f : Function) (to : Receiver) where
  pub run_follows : (p last : P) (p' last' : P') (caller callee : List E) (caller' callee' : List E') (arguments : List V) (arguments' : List V') (reply : Option V) (reply' : Option V') (a : M) (b : M') →
      Each (λ e e'. event e ≡ event' e') caller caller' → Each (λ e e'. event e ≡ event' e') callee callee' →
      Each (sim.Items D D' RV RI RW RM G) (argument_items f.params arguments) (argument_items f.params arguments') →
      Follows (Each (sim.Items D D' RV RI RW RM G)) (reply_items to.function.results reply) (reply_items to.function.results reply') → RM a b →
      (o : Outcome V W M) → run_to event place D m f to p last caller callee arguments reply a ≡ went o → G o.memory →
      (o' : Outcome V' W' M') × (run_to event' place' D' m f to p' last' caller' callee' arguments' reply' b ≡ went o') × Outcomes D D' RV RI RW RM G o o'
  run_follows p last p' last' caller callee caller' callee' arguments arguments' reply reply' a b k l are h r o e g =
      ends (run_to event place D m f to p last caller callee arguments reply a) (run_to event' place' D' m f to p' last' caller' callee' arguments' reply' b) e
      (two.run_goes D D' RV RI RW RM G H event event' place place' m f to (callee_side_backs D G B.give B.put B.set event place to.module_name to.function) p p' last last' caller callee caller' callee' arguments arguments' reply reply' a b (caller_side_backs D G B.give B.put B.set event place m f to last callee arguments reply) k l are h r)
    where
      ends : (t : Tried P (Outcome V W M)) (t' : Tried P' (Outcome V' W' M')) → t ≡ went o → Goes (λ o. G o.memory) (Outcomes D D' RV RI RW RM G) t t' → (o' : Outcome V' W' M') × (t' ≡ went o') × Outcomes D D' RV RI RW RM G o o'
      ends (went x) (went y) e q = (y, refl, subst (λ x. Outcomes D D' RV RI RW RM G x y) (went_same e) (q (subst (λ x. G x.memory) (sym (went_same e)) g)))
      ends (went x) no_rule e q = absurd (q (subst (λ x. G x.memory) (sym (went_same e)) g))
      ends (went x) (stuck_at z) e q = absurd (q (subst (λ x. G x.memory) (sym (went_same e)) g))
      ends no_rule t' e q = absurd (sim.not_went e)
      ends (stuck_at z) t' e q = absurd (sim.not_stuck e)
