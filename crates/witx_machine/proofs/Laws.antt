-- What a domain has to meet for the traces of a function to run well.
use Rattle.std.proofs.Common.{◌≡◌, ◌≢◌, ℕ, suc, ◌^◌, Bool, true, false, cond, T, Option, Some, None, List, [], ◌∷◌, nat_le}
use Rattle.witx_ast.specs.declared.function.Abi.{Abi}
use Rattle.witx_ast.specs.declared.types.IntRepr.{IntRepr}
use Rattle.witx_ast.specs.declared.types.RecordKind.{RecordKind}
use Rattle.witx_ast.specs.Tree.{Tree, arm_list}
use Rattle.witx_ast.specs.Tree.{Arms as TreeArms}
use Rattle.witx_ast.specs.Plain.{Plain, Fields, Arms, plain, plain_arms, field_count, arm_count}
use Rattle.witx_ast.specs.Tags.{repr_bits}
use Rattle.witx_machine.specs.declared.surface.WasmType.{WasmType}
use Rattle.witx_machine.specs.Words.{repr_word_type, word_type, Scalar, number_of, pointer, const_pointer, handle_of, flags_of, enum_of}
use Rattle.witx_machine.specs.Functions.{has_payload, by_address, name_of, ok_of, err_of, result_cases}
use Rattle.witx_ast.specs.Words.{is_expected}
use Rattle.witx_machine.specs.Machine.{Domain}
use Rattle.witx_machine.specs.Passage.{Meaning}
use Rattle.witx_machine.proofs.Alikes.{AlikeOption}

-- which types a conversion to one word is for
abbrev pub Lowers : Scalar → Plain → Type 0
Lowers (number_of b) t = t ≡ Plain.builtin b
Lowers pointer t = (u : Plain) × (t ≡ Plain.pointer_to u)
Lowers const_pointer t = (u : Plain) × (t ≡ Plain.const_pointer_to u)
Lowers (handle_of n) t = (t ≡ Plain.handle) × (plain n ≡ Plain.handle)
Lowers (flags_of w n) t = (r : IntRepr) × (ms : Fields) × (t ≡ Plain.record_of (RecordKind.Bitflags r) ms) × (plain n ≡ Plain.record_of (RecordKind.Bitflags r) ms) × (w ≡ repr_word_type r) × T (nat_le (field_count ms) (repr_bits r))
Lowers (enum_of n) t = (r : IntRepr) × (cs : Arms) × (t ≡ Plain.variant_of r cs) × (plain n ≡ Plain.variant_of r cs) × (has_payload cs ≡ false) × T (nat_le (arm_count cs) (2 ^ repr_bits r))

-- a payload with the name of its type
abbrev pub named_payload : {V : Type 0} → Option Tree → Option V → Option (V × Option Tree)
named_payload (Some t) (Some p) = Some (p, name_of t)
named_payload (Some t) None = None
named_payload None p = None

module _ {V : Type 0} where
  abbrev pub AreMembers : (Plain → V → Type 0) → Fields → List V → Type 0
  AreMembers is Fields.no_fields [] = Unit {0}
  AreMembers is Fields.no_fields (v ∷ vs) = ⊥
  AreMembers is (Fields.field n t ms) [] = ⊥
  AreMembers is (Fields.field n t ms) (v ∷ vs) = is t v × AreMembers is ms vs

  -- a payload is there where its case has a type, and is one of it
  abbrev pub PayloadIs : (Plain → V → Type 0) → Option Tree → Option V → Type 0
  PayloadIs is None None = Unit {0}
  PayloadIs is None (Some p) = ⊥
  PayloadIs is (Some t) None = ⊥
  PayloadIs is (Some t) (Some p) = is (plain t) p

pub record Laws {V W M : Type 0} (D : Domain V W M) (J : Meaning V W M) : Type 1 where
  -- v is a value of the type; v is a reply of the type that comes back under the ABI; v is an error's payload that comes back
  pub Is : Plain → V → Type 0
  pub Replies : Abi → Tree → V → Type 0
  pub Returned : Plain → V → Type 0
  -- n addresses at least can still be given; what stands in the first memory stands in the second; the word is no address of the memory
  pub Room : ℕ → M → Type 0
  pub Keeps : M → M → Type 0
  pub New : M → W → Type 0
  -- values and words
  pub reply_is : (abi : Abi) (t : Tree) (v : V) → Replies abi t v → Is (plain t) v
  pub scalar : (x : Scalar) (t : Plain) (v : V) → Lowers x t → Is t v → (w : W) × (D.lower x v ≡ Some w) × (D.lift x w ≡ Some v) × T (D.has_type (word_type x) w) × J.direct t v (w ∷ [])
  pub list : (t : Plain) (v : V) → Is (Plain.list_of t) v → (a : W) × (l : W) × (D.list_words v ≡ Some (a, l)) × (D.list_value a l ≡ Some v) × T (D.has_type WasmType.I32 a) × T (D.has_type WasmType.I32 l) × J.direct (Plain.list_of t) v (a ∷ l ∷ [])
  pub direct_once : (t : Plain) (v : V) (ws us : List W) → J.direct t v ws → J.direct t v us → ws ≡ us
  pub tuple : (ms : Fields) (v : V) → Is (Plain.record_of RecordKind.Tuple ms) v → (vs : List V) × (D.parts (field_count ms) v ≡ Some vs) × (D.tuple vs ≡ v) × AreMembers Is ms vs
  pub cases : (t : Tree) (r : IntRepr) (cs : TreeArms) (v : V) → result_cases t ≡ Some cs → plain t ≡ Plain.variant_of r (plain_arms cs) → T (is_expected (arm_list cs)) → T (has_payload (plain_arms cs)) → Replies Abi.Preview1 t v →
      (e : Bool) × (p : Option V) × (D.result e p ≡ v) × (D.chooses (D.case_word e) ≡ Some e) ×
      PayloadIs (λ u q. Is u q × cond e (Returned u q) (Unit {0})) (cond e (err_of cs) (ok_of cs)) p ×
      ((ok err : Option Tree) → AlikeOption (ok_of cs) ok → AlikeOption (err_of cs) err → D.picks ok err v ≡ Some (e, named_payload (cond e err ok) p))
  pub case_type : (e : Bool) → T (D.has_type WasmType.I32 (D.case_word e))
  pub error_word : (t : Plain) (v : V) (w : W) → Returned t v → T (D.has_type WasmType.I32 w) → J.direct t v (w ∷ []) → D.chooses w ≡ Some true
  -- memories
  pub keeps_all : (m : M) → Keeps m m
  pub keeps_then : (m m' m'' : M) → Keeps m m' → Keeps m' m'' → Keeps m m''
  pub keeps_given : (m m' : M) (w : W) → Keeps m m' → J.given m w → J.given m' w
  pub keeps_held : (m m' : M) (w : W) (v : V) → Keeps m m' → J.holds m w v → J.holds m' w v
  pub keeps_made : (m m' : M) (w : W) (t : Tree) → Keeps m m' → J.made_for m w t → J.made_for m' w t
  pub keeps_got : (m m' : M) (t : Tree) (w : W) (v : V) → Keeps m m' → D.get t w m ≡ Some v → D.get t w m' ≡ Some v
  pub got_alike : (m : M) (t q : Tree) (w : W) (v : V) → plain t ≡ plain q → D.get t w m ≡ Some v → D.get q w m ≡ Some v
  pub less_room : (n : ℕ) (m : M) → Room (suc n) m → Room n m
  pub new_before : (m m' : M) (w : W) → Keeps m m' → New m' w → New m w
  pub new_other : (m : M) (u w : W) (t : Tree) → J.made_for m u t → New m w → u ≢ w
  pub put : (t : Tree) (v : V) (n : ℕ) (m : M) → T (by_address (plain t)) → Is (plain t) v → Room (suc n) m →
      (w : W) × (m' : M) × (D.put t v m ≡ Some (w, m')) × J.given m' w × J.holds m' w v × (D.get t w m' ≡ Some v) × T (D.has_type WasmType.I32 w) × Keeps m m' × Room n m' × ((u : Plain) → Returned u v → D.chooses w ≡ Some true)
  pub give : (t : Tree) (n : ℕ) (m : M) → Room (suc n) m →
      (w : W) × (m' : M) × (D.give t m ≡ Some (w, m')) × J.given m' w × J.made_for m' w t × T (D.has_type WasmType.I32 w) × Keeps m m' × Room n m' × New m w
  -- what stands elsewhere, and what stood in an earlier memory, stays
  pub set : (base m : M) (made t : Tree) (w : W) (v : V) → plain made ≡ plain t → Keeps base m → New base w → J.made_for m w made → Is (plain t) v →
      (m' : M) × (D.set t w v m ≡ Some m') × (D.get t w m' ≡ Some v) × J.holds m' w v × Keeps base m' ×
      ((u : W) → J.given m u → J.given m' u) × ((u : W) (q : Tree) → u ≢ w → J.made_for m u q → J.made_for m' u q) ×
      ((u : W) (x : V) → u ≢ w → J.holds m u x → J.holds m' u x) × ((q : Tree) (u : W) (x : V) → u ≢ w → D.get q u m ≡ Some x → D.get q u m' ≡ Some x)
