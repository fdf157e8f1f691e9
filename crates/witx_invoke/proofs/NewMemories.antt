-- Where a domain follows another, so does it with other memories in place of its own, if these follow.
use Rattle.std.proofs.Common.{Option, Some}
use Rattle.witx_ast.specs.Tree.{Tree}
use Rattle.witx_machine.specs.Machine.{Domain}
use Rattle.witx_machine.proofs.Simulation.{Follows, Makes, Simulates}
use Rattle.witx_invoke.specs.Placing.{with_memories}

-- E follows D; N: memories in place of E's; RN: how D's memories are related to them; K: what is known of D's
module _ {V W M V' W' M' N : Type 0} (D : Domain V W M) (E : Domain V' W' M') (RV : V → V' → Type 0) (RI : Option Tree → V → V' → Type 0) (RW : W → W' → Type 0) (RM : M → M' → Type 0) (G : M → Type 0) (RN : M → N → Type 0) (K : M → Type 0) where
  module _ (give : Tree → N → Option (W' × N)) (put : Tree → V' → N → Option (W' × N)) (get : Tree → W' → N → Option V') (set : Tree → W' → V' → N → Option N) where
    abbrev Known : W × M → Type 0
    Known p = K p.1

    abbrev Gives : W × M → W' × N → Type 0
    Gives p q = RW p.0 q.0 × RN p.1 q.1

    pub follows_anew :
        Simulates D E RV RI RW RM G →
        ((t : Tree) (m : M) (n : N) → RN m n → Makes Known Gives (D.give t m) (give t n)) →
        ((t : Tree) (v : V) (v' : V') (m : M) (n : N) → RI (Some t) v v' → RN m n → Makes Known Gives (D.put t v m) (put t v' n)) →
        ((t : Tree) (w : W) (w' : W') (m : M) (n : N) → RW w w' → RN m n → Follows (RI (Some t)) (D.get t w m) (get t w' n)) →
        ((t : Tree) (w : W) (w' : W') (v : V) (v' : V') (m : M) (n : N) → RW w w' → RV v v' → RN m n → Makes K RN (D.set t w v m) (set t w' v' n)) →
        Simulates D (with_memories E give put get set) RV RI RW RN K
    follows_anew base gives puts gets sets = record {
      plain = base.plain;
      forget = base.forget;
      lower = base.lower;
      lift = base.lift;
      list_words = base.list_words;
      list_value = base.list_value;
      tuple = base.tuple;
      parts = base.parts;
      give = gives;
      put = puts;
      get = gets;
      set = sets;
      picks = base.picks;
      case_word = base.case_word;
      chooses = base.chooses;
      result = base.result;
      has_type = base.has_type;
    }
