-- What is read of records and variants, from what is read of their parts.
use Rattle.std.proofs.Common.{◌≡◌, ℕ, zero, suc, ◌+◌, ◌<◌, ◌≤◌, List, [], ◌∷◌, ◌++◌, Bool, true, false, Option, Some, None, option_map, option_and_then, Result, Err, refl, sym, ap, ◌∙◌, subst, arith, add-one, length, get_or, ℤ}
use Rattle.std.specs.Borrow.{Bor}
use Rattle.std.specs.declared.alloc.Global.{Global}
use Rattle.std.specs.declared.boxed.Box.{Box}
use Rattle.witx_ast.specs.declared.types.BuiltinType.{BuiltinType}
use Rattle.witx_ast.specs.declared.types.Case.{Case}
use Rattle.witx_ast.specs.declared.types.IntRepr.{IntRepr}
use Rattle.witx_ast.specs.declared.types.RecordKind.{RecordKind}
use Rattle.witx_ast.specs.declared.types.RecordMember.{RecordMember}
use Rattle.witx_ast.specs.declared.types.TypeRef.{TypeRef}
use Rattle.witx_ast.specs.Plain.{Plain, plain, Fields, Arms, field_count, all_bare}
use Rattle.witx_ast.specs.Values as plain
use Rattle.witx_ast.specs.Views.{tree_of, members_plain, cases_plain}
use Rattle.witx_ast.proofs.Parts.{members-drop, members-end, cases-bare, cases-carries, count-members}
use Rattle.witx_bytes.specs.Readings.{ReadAs}
use Rattle.witx_bytes.specs.Seen.{seen, values_seen}
use Rattle.witx_bytes.specs.declared.read_error.ReadError.{ReadError}
use Rattle.witx_bytes.specs.declared.value.Value.{Value}
use Rattle.witx_bytes.specs.declared.value.Value.TheVariants as value
use Rattle.witx_bytes.proofs.Members.{ms_from}
use Rattle.witx_bytes.proofs.ReadNumbers.{goes_on}
use Rattle.witx_bytes.proofs.ReadParts.{followed_by}
use Rattle.witx_bytes.proofs.Seen.{seen-Num, seen-Handle, seen-Pointer, seen-ConstPointer, seen-List, seen-Flags, seen-Tuple, seen-Rec, seen-Enum, seen-Bare, seen-With}
use Rattle.witx_invoke.specs.Reading.{Payloads, past, made, item_past, closed, list_behind, index_at, case_behind, cases_at, type_at, members_at, payload_at, word_at, signed_at, flags_read, taken}

-- tuples and other records, by what stands in their parentheses
abbrev pub enclosed_at : Fields → List ℕ → Option (plain.Values × List ℕ)
enclosed_at ms s = option_and_then (closed 41) (option_and_then (members_at 0 ms) (past 40 s))

pub tuple_taken : (ms : Fields) (s rest : List ℕ) (vs : List Value) → enclosed_at ms s ≡ Some (values_seen vs, rest) → type_at (Plain.record_of RecordKind.Tuple ms) s ≡ Some (seen (value.Tuple vs), rest)
tuple_taken ms s rest vs h = ap (option_map (made plain.tuple_values)) h ∙ ap (λ v. Some (v, rest)) (sym (seen-Tuple vs))

pub other_taken : (k : RecordKind) (ms : Fields) (s rest : List ℕ) (vs : List Value) → ((r : IntRepr) → k ≡ RecordKind.Bitflags r → ⊥) → (k ≡ RecordKind.Tuple → ⊥) → enclosed_at ms s ≡ Some (values_seen vs, rest) → type_at (Plain.record_of k ms) s ≡ Some (seen (value.Rec vs), rest)
other_taken (RecordKind.Bitflags r) ms s rest vs n o h = absurd (n r refl)
other_taken RecordKind.Tuple ms s rest vs n o h = absurd (o refl)
other_taken RecordKind.Other ms s rest vs n o h = ap (option_map (made plain.record_values)) h ∙ ap (λ v. Some (v, rest)) (sym (seen-Rec vs))

pub members_refused : (k : RecordKind) (ms : Fields) (s : List ℕ) (e : ReadError) → ((r : IntRepr) → k ≡ RecordKind.Bitflags r → ⊥) → ReadAs (taken values_seen) (enclosed_at ms s) (Err e) → ReadAs (taken seen) (type_at (Plain.record_of k ms) s) (Err e)
members_refused (RecordKind.Bitflags r) ms s e n h = absurd (n r refl)
members_refused RecordKind.Tuple ms s e n h = goes_on (taken values_seen) (taken seen) (enclosed_at ms s) (type_at (Plain.record_of RecordKind.Tuple ms) s) e (λ n. ap (option_map (made plain.tuple_values)) n) h
members_refused RecordKind.Other ms s e n h = goes_on (taken values_seen) (taken seen) (enclosed_at ms s) (type_at (Plain.record_of RecordKind.Other ms) s) e (λ n. ap (option_map (made plain.record_values)) n) h

-- between the parentheses, and what follows them
module _ (ms : Fields) (s : List ℕ) where
  pub enclosed_none : None ≡ past 40 s → enclosed_at ms s ≡ None
  enclosed_none h = ap (λ o. option_and_then (closed 41) (option_and_then (members_at 0 ms) o)) (sym h)

  inside : (start : List ℕ) → Some start ≡ past 40 s → enclosed_at ms s ≡ option_and_then (closed 41) (members_at 0 ms start)
  inside start h = ap (λ o. option_and_then (closed 41) (option_and_then (members_at 0 ms) o)) (sym h)

  pub enclosed_refused : (start : List ℕ) (e : ReadError) → Some start ≡ past 40 s → ReadAs (taken values_seen) (members_at 0 ms start) (Err e) → ReadAs (taken values_seen) (enclosed_at ms s) (Err e)
  enclosed_refused start e h k = goes_on (taken values_seen) (taken values_seen) (members_at 0 ms start) (enclosed_at ms s) e (λ n. inside start h ∙ ap (option_and_then (closed 41)) n) k

  pub enclosed_open : (start rest : List ℕ) (vs : List Value) → Some start ≡ past 40 s → members_at 0 ms start ≡ Some (values_seen vs, rest) → None ≡ past 41 rest → enclosed_at ms s ≡ None
  enclosed_open start rest vs h k n = inside start h ∙ ap (option_and_then (closed 41)) k ∙ ap (option_map (λ s. (values_seen vs, s))) (sym n)

  pub enclosed_taken : (start rest behind : List ℕ) (vs : List Value) → Some start ≡ past 40 s → members_at 0 ms start ≡ Some (values_seen vs, rest) → Some behind ≡ past 41 rest → enclosed_at ms s ≡ Some (values_seen vs, behind)
  enclosed_taken start rest behind vs h k n = inside start h ∙ ap (option_and_then (closed 41)) k ∙ ap (option_map (λ s. (values_seen vs, s))) (sym n)

-- a member, behind the space before it
pub member_none : (t : Plain) (i : ℕ) (s : List ℕ) → None ≡ item_past i s → option_and_then (type_at t) (item_past i s) ≡ None
member_none t i s h = ap (option_and_then (type_at t)) (sym h)

pub member_some : (t : Plain) (i : ℕ) (s start : List ℕ) (r : Result (Value × Bor (List ℕ)) ReadError) → Some start ≡ item_past i s → ReadAs (taken seen) (type_at t start) r → ReadAs (taken seen) (option_and_then (type_at t) (item_past i s)) r
member_some t i s start r h k = subst (λ o. ReadAs (taken seen) (option_and_then (type_at t) o) r) h k

followed-one : (vs : List Value) (v : Value) (more : plain.Values) → followed_by (vs ++ v ∷ []) more ≡ followed_by vs (plain.value_then (seen v) more)
followed-one [] v more = refl
followed-one (w ∷ vs) v more = ap (plain.value_then (seen w)) (followed-one vs v more)

followed-none : (vs : List Value) → followed_by vs plain.no_values ≡ values_seen vs
followed-none [] = refl
followed-none (v ∷ vs) = ap (plain.value_then (seen v)) (followed-none vs)

-- values so far, and then those of the members from number i on
abbrev pub MembersRead : List RecordMember → List Value → ℕ → (text rest : List ℕ) → Type 0
MembersRead ms vs i text rest = members_at 0 (members_plain ms) text ≡ option_map (made (followed_by vs)) (members_at i (ms_from ms i) rest)

nothing-before : (o : Option (plain.Values × List ℕ)) → o ≡ option_map (made (followed_by [])) o
nothing-before None = refl
nothing-before (Some p) = refl

pub members_first : (ms : List RecordMember) (text : List ℕ) → MembersRead ms [] 0 text text
members_first ms text = nothing-before (members_at 0 (members_plain ms) text)

one-more : (vs : List Value) (v : Value) (o : Option (plain.Values × List ℕ)) → option_map (made (followed_by vs)) (option_map (made (plain.value_then (seen v))) o) ≡ option_map (made (followed_by (vs ++ v ∷ []))) o
one-more vs v None = refl
one-more vs v (Some p) = ap (λ (us : plain.Values). Some (us, p.1)) (sym (followed-one vs v p.0))

module _ (ms : List RecordMember) (vs : List Value) (i : ℕ) (text rest : List ℕ) (d : RecordMember) (h : MembersRead ms vs i text rest) (l : i < length ms) (e : d ≡ get_or ms i d) where
  abbrev there : Option (plain.Value × List ℕ)
  there = option_and_then (type_at (plain (tree_of d.tref))) (item_past i rest)

  abbrev behind : Option (plain.Value × List ℕ) → Option (plain.Values × List ℕ)
  behind o = option_map (made (followed_by vs)) (option_and_then (λ p. option_map (made (plain.value_then p.0)) (members_at (suc i) (ms_from ms (i + 1)) p.1)) o)

  whole : members_at 0 (members_plain ms) text ≡ behind there
  whole = h ∙ ap (λ ms. option_map (made (followed_by vs)) (members_at i ms rest)) (members-drop ms i d l e)

  pub members_stop : (f : ReadError) → ReadAs (taken seen) (option_and_then (type_at (plain (tree_of d.tref))) (item_past i rest)) (Err f) → ReadAs (taken values_seen) (members_at 0 (members_plain ms) text) (Err f)
  members_stop f k = goes_on (taken seen) (taken values_seen) there (members_at 0 (members_plain ms) text) f (λ n. whole ∙ ap behind n) k

  pub members_next : (longer : List Value) (v : Value) (more : List ℕ) → longer ≡ vs ++ v ∷ [] → option_and_then (type_at (plain (tree_of d.tref))) (item_past i rest) ≡ Some (seen v, more) → MembersRead ms longer (i + 1) text more
  members_next longer v more is k =
      whole ∙ ap behind k ∙ one-more vs v (members_at (suc i) (ms_from ms (i + 1)) more)
      ∙ ap (λ j. option_map (made (followed_by (vs ++ v ∷ []))) (members_at j (ms_from ms (i + 1)) more)) (sym (add-one i))
      ∙ ap (λ vs. option_map (made (followed_by vs)) (members_at (i + 1) (ms_from ms (i + 1)) more)) (sym is)

pub members_done : (ms : List RecordMember) (vs : List Value) (i : ℕ) (text rest : List ℕ) → MembersRead ms vs i text rest → length ms ≤ i → members_at 0 (members_plain ms) text ≡ Some (values_seen vs, rest)
members_done ms vs i text rest h l = h ∙ ap (λ ms. option_map (made (followed_by vs)) (members_at i ms rest)) (members-end ms i l) ∙ ap (λ (us : plain.Values). Some (us, rest)) (followed-none vs)

-- cases: with or without payloads, and behind a parenthesis or not
pub cases_bare : (cs : Arms) (s : List ℕ) (b : Bool) (r : Result (Value × Bor (List ℕ)) ReadError) → b ≡ all_bare cs → b ≡ true → ((p : Payloads) → ReadAs (taken seen) (cases_at true p s) r) → ReadAs (taken seen) (cases_at (all_bare cs) (payload_at cs) s) r
cases_bare cs s b r e t h = subst (λ b. ReadAs (taken seen) (cases_at b (payload_at cs) s) r) (sym t ∙ e) (h (payload_at cs))

pub cases_alone : (cs : Arms) (s : List ℕ) (b : Bool) (r : Result (Value × Bor (List ℕ)) ReadError) → b ≡ all_bare cs → b ≡ false → None ≡ past 40 s → ((p : Payloads) → ReadAs (taken seen) (case_behind None p s) r) → ReadAs (taken seen) (cases_at (all_bare cs) (payload_at cs) s) r
cases_alone cs s b r e t n h = subst (λ b. ReadAs (taken seen) (cases_at b (payload_at cs) s) r) (sym t ∙ e) (subst (λ o. ReadAs (taken seen) (case_behind o (payload_at cs) s) r) n (h (payload_at cs)))

pub cases_carrying : (cs : Arms) (s start : List ℕ) (b : Bool) (r : Result (Value × Bor (List ℕ)) ReadError) → b ≡ all_bare cs → b ≡ false → Some start ≡ past 40 s → ((s : List ℕ) → ReadAs (taken seen) (case_behind (Some start) (payload_at cs) s) r) → ReadAs (taken seen) (cases_at (all_bare cs) (payload_at cs) s) r
cases_carrying cs s start b r e t n h = subst (λ b. ReadAs (taken seen) (cases_at b (payload_at cs) s) r) (sym t ∙ e) (subst (λ o. ReadAs (taken seen) (case_behind o (payload_at cs) s) r) n (h s))

-- a case with its payload, piece by piece
module _ (cs : Arms) (s : List ℕ) where
  abbrev carried : Option (ℕ × List ℕ) → Option (plain.Value × List ℕ)
  carried o = option_and_then (λ p. option_and_then (closed 41) (option_map (made (plain.case_with p.0)) (option_and_then (payload_at cs p.0) (past 32 p.1)))) o

  pub carried_none : None ≡ index_at s → carried (index_at s) ≡ None
  carried_none h = ap carried (sym h)

  module _ (i : ℕ) (rest : List ℕ) (h : Some (i, rest) ≡ index_at s) where
    pub carried_near : None ≡ past 32 rest → carried (index_at s) ≡ None
    carried_near k = ap carried (sym h) ∙ ap (λ o. option_and_then (closed 41) (option_map (made (plain.case_with i)) (option_and_then (payload_at cs i) o))) (sym k)

    module _ (start : List ℕ) (k : Some start ≡ past 32 rest) where
      payload : carried (index_at s) ≡ option_and_then (closed 41) (option_map (made (plain.case_with i)) (payload_at cs i start))
      payload = ap carried (sym h) ∙ ap (λ o. option_and_then (closed 41) (option_map (made (plain.case_with i)) (option_and_then (payload_at cs i) o))) (sym k)

      pub carried_refused : (e : ReadError) → ReadAs (taken seen) (payload_at cs i start) (Err e) → ReadAs (taken seen) (carried (index_at s)) (Err e)
      carried_refused e r = goes_on (taken seen) (taken seen) (payload_at cs i start) (carried (index_at s)) e (λ n. payload ∙ ap (λ o. option_and_then (closed 41) (option_map (made (plain.case_with i)) o)) n) r

      module _ (v : Value) (behind : List ℕ) (r : payload_at cs i start ≡ Some (seen v, behind)) where
        pub carried_open : None ≡ past 41 behind → carried (index_at s) ≡ None
        carried_open n = payload ∙ ap (λ o. option_and_then (closed 41) (option_map (made (plain.case_with i)) o)) r ∙ ap (option_map (λ s. (plain.case_with i (seen v), s))) (sym n)

        pub carried_taken : (b : Box Value Global) (end : List ℕ) → b.value ≡ v → Some end ≡ past 41 behind → carried (index_at s) ≡ Some (seen (value.Case i (Some b)), end)
        carried_taken b end w n =
            payload ∙ ap (λ o. option_and_then (closed 41) (option_map (made (plain.case_with i)) o)) r ∙ ap (option_map (λ s. (plain.case_with i (seen v), s))) (sym n)
            ∙ ap (λ (u : plain.Value). Some (u, end)) (ap (λ v. plain.case_with i (seen v)) (sym w) ∙ sym (seen-With i b))

-- the payload of a case of the program
abbrev pub of_payload : Option TypeRef → List ℕ → Option (plain.Value × List ℕ)
of_payload None s = None
of_payload (Some t) s = type_at (plain (tree_of t)) s

payload-first : (c : Case) (cs : List Case) (s : List ℕ) (o : Option TypeRef) → c.tref ≡ o → payload_at (cases_plain (c ∷ cs)) zero s ≡ of_payload o s
payload-first c cs s None e = ap (λ cs. payload_at cs zero s) (cases-bare (c ∷ cs) 0 c (omega arith) refl e)
payload-first c cs s (Some t) e = ap (λ cs. payload_at cs zero s) (cases-carries (c ∷ cs) 0 c t (omega arith) refl e)

payload-later : (c : Case) (cs : List Case) (i : ℕ) (s : List ℕ) (o : Option TypeRef) → c.tref ≡ o → payload_at (cases_plain (c ∷ cs)) (suc i) s ≡ payload_at (cases_plain cs) i s
payload-later c cs i s None e = ap (λ cs. payload_at cs (suc i) s) (cases-bare (c ∷ cs) 0 c (omega arith) refl e)
payload-later c cs i s (Some t) e = ap (λ cs. payload_at cs (suc i) s) (cases-carries (c ∷ cs) 0 c t (omega arith) refl e)

pub payload_is : (cs : List Case) (i : ℕ) (c : Case) (s : List ℕ) → i < length cs → c ≡ get_or cs i c → payload_at (cases_plain cs) i s ≡ of_payload c.tref s
payload_is [] i c s l e = absurd (omega (arith, l))
payload_is (d ∷ cs) zero c s l e = payload-first d cs s d.tref refl ∙ ap (λ c. of_payload c.tref s) (sym e)
payload_is (d ∷ cs) (suc i) c s l e = payload-later d cs i s d.tref refl ∙ payload_is cs i c s (omega (arith, l)) e

pub payload_beyond : (cs : List Case) (i : ℕ) (s : List ℕ) → length cs ≤ i → payload_at (cases_plain cs) i s ≡ None
payload_beyond [] i s l = refl
payload_beyond (d ∷ cs) zero s l = absurd (omega (arith, l))
payload_beyond (d ∷ cs) (suc i) s l = payload-later d cs i s d.tref refl ∙ payload_beyond cs i s (omega (arith, l))

pub payload_none : (cs : List Case) (i : ℕ) (c : Case) (s : List ℕ) → i < length cs → c ≡ get_or cs i c → c.tref ≡ None → payload_at (cases_plain cs) i s ≡ None
payload_none cs i c s l e n = payload_is cs i c s l e ∙ ap (λ o. of_payload o s) n

pub payload_some : (cs : List Case) (i : ℕ) (c : Case) (t : TypeRef) (s : List ℕ) (r : Result (Value × Bor (List ℕ)) ReadError) → i < length cs → c ≡ get_or cs i c → c.tref ≡ Some t → ReadAs (taken seen) (type_at (plain (tree_of t)) s) r → ReadAs (taken seen) (payload_at (cases_plain cs) i s) r
payload_some cs i c t s r l e n h = subst (λ o. ReadAs (taken seen) o r) (sym (payload_is cs i c s l e ∙ ap (λ o. of_payload o s) n)) h

pub ruleset part_rules = (enclosed_none, enclosed_refused, enclosed_open, enclosed_taken, member_none, member_some, members_first, members_stop, members_next, members_done, cases_bare, cases_alone, cases_carrying, carried_none, carried_near, carried_refused, carried_open, carried_taken, payload_beyond, payload_none, payload_some)

-- flags, by what stands in their brackets
abbrev pub bits_at : ℕ → List ℕ → Option (List Bool × List ℕ)
bits_at count s = option_and_then (closed 93) (option_and_then (flags_read 0 count) (past 91 s))

pub bits_taken : (ms : List RecordMember) (n : ℕ) (s rest : List ℕ) (bits : List Bool) → n ≡ length ms → bits_at n s ≡ Some (bits, rest) → option_map (made plain.flag_bits) (bits_at (field_count (members_plain ms)) s) ≡ Some (seen (value.Flags bits), rest)
bits_taken ms n s rest bits e h =
    ap (λ n. option_map (made plain.flag_bits) (bits_at n s)) (count-members ms ∙ sym e)
    ∙ ap (option_map (made plain.flag_bits)) h ∙ ap (λ (v : plain.Value). Some (v, rest)) (sym (seen-Flags bits))

pub bits_refused : (ms : List RecordMember) (n : ℕ) (s : List ℕ) (e : ReadError) → n ≡ length ms → ReadAs (taken (λ bs. bs)) (bits_at n s) (Err e) → ReadAs (taken seen) (option_map (made plain.flag_bits) (bits_at (field_count (members_plain ms)) s)) (Err e)
bits_refused ms n s e l h =
    goes_on (taken (λ bs. bs)) (taken seen) (bits_at n s) (option_map (made plain.flag_bits) (bits_at (field_count (members_plain ms)) s)) e
    (λ none. ap (λ n. option_map (made plain.flag_bits) (bits_at n s)) (count-members ms ∙ sym l) ∙ ap (option_map (made plain.flag_bits)) none) h

-- what has no parts
pub builtin_taken : (b : BuiltinType) (s : List ℕ) (p : ℤ × Bor (List ℕ)) → taken (λ n. n) p ≡ signed_at s → type_at (Plain.builtin b) s ≡ Some (seen (value.Num b p.0), p.1.now)
builtin_taken b s p h = ap (λ q. Some (made (plain.number b) q)) (sym h) ∙ ap (λ (v : plain.Value). Some (v, p.1.now)) (sym (seen-Num b p.0))

pub handle_taken : (s : List ℕ) (p : ℕ × Bor (List ℕ)) → taken (λ n. n) p ≡ word_at s → type_at Plain.handle s ≡ Some (seen (value.Handle p.0), p.1.now)
handle_taken s p h = ap (λ q. Some (made plain.handle_number q)) (sym h) ∙ ap (λ (v : plain.Value). Some (v, p.1.now)) (sym (seen-Handle p.0))

pub pointer_taken : (t : Plain) (s : List ℕ) (p : ℕ × Bor (List ℕ)) → taken (λ n. n) p ≡ word_at s → type_at (Plain.pointer_to t) s ≡ Some (seen (value.Pointer p.0), p.1.now)
pointer_taken t s p h = ap (λ q. Some (made plain.address q)) (sym h) ∙ ap (λ (v : plain.Value). Some (v, p.1.now)) (sym (seen-Pointer p.0))

pub const_taken : (t : Plain) (s : List ℕ) (p : ℕ × Bor (List ℕ)) → taken (λ n. n) p ≡ word_at s → type_at (Plain.const_pointer_to t) s ≡ Some (seen (value.ConstPointer p.0), p.1.now)
const_taken t s p h = ap (λ q. Some (made plain.const_address q)) (sym h) ∙ ap (λ (v : plain.Value). Some (v, p.1.now)) (sym (seen-ConstPointer p.0))

module _ (t : Plain) (s : List ℕ) where
  pub list_none : None ≡ past 64 s → type_at (Plain.list_of t) s ≡ None
  list_none h = ap (λ o. option_and_then (λ s. list_behind (word_at s)) o) (sym h)

  module _ (start : List ℕ) (h : Some start ≡ past 64 s) (p : ℕ × Bor (List ℕ)) (k : taken (λ n. n) p ≡ word_at start) where
    address : type_at (Plain.list_of t) s ≡ list_behind (p.0, p.1.now)
    address = ap (λ o. option_and_then (λ s. list_behind (word_at s)) o) (sym h) ∙ ap list_behind (sym k)

    pub list_short : None ≡ past 43 p.1.now → type_at (Plain.list_of t) s ≡ None
    list_short n = address ∙ ap (option_map (λ s. made (plain.list_at p.0) (word_at s))) (sym n)

    pub list_taken : (behind : List ℕ) (q : ℕ × Bor (List ℕ)) → Some behind ≡ past 43 p.1.now → taken (λ n. n) q ≡ word_at behind → type_at (Plain.list_of t) s ≡ Some (seen (value.List p.0 q.0), q.1.now)
    list_taken behind q n l =
        address ∙ ap (option_map (λ s. made (plain.list_at p.0) (word_at s))) (sym n)
        ∙ ap (λ w. Some (made (plain.list_at p.0) w)) (sym l) ∙ ap (λ (v : plain.Value). Some (v, q.1.now)) (sym (seen-List p.0 q.0))

pub enum_none : (c : Payloads) (s : List ℕ) → None ≡ index_at s → cases_at true c s ≡ None
enum_none c s h = ap (option_map (made plain.enum_index)) (sym h)

pub enum_taken : (c : Payloads) (s rest : List ℕ) (i : ℕ) → Some (i, rest) ≡ index_at s → cases_at true c s ≡ Some (seen (value.Enum i), rest)
enum_taken c s rest i h = ap (option_map (made plain.enum_index)) (sym h) ∙ ap (λ (v : plain.Value). Some (v, rest)) (sym (seen-Enum i))

pub bare_none : (c : Payloads) (s : List ℕ) → None ≡ index_at s → case_behind None c s ≡ None
bare_none c s h = ap (option_map (made plain.bare_case)) (sym h)

pub bare_taken : (c : Payloads) (s rest : List ℕ) (i : ℕ) → Some (i, rest) ≡ index_at s → case_behind None c s ≡ Some (seen (value.Case i None), rest)
bare_taken c s rest i h = ap (option_map (made plain.bare_case)) (sym h) ∙ ap (λ (v : plain.Value). Some (v, rest)) (sym (seen-Bare i))

pub ruleset scalar_rules = (builtin_taken, handle_taken, pointer_taken, const_taken, list_none, list_short, list_taken, enum_none, enum_taken, bare_none, bare_taken)
