-- Lines one after the other: what is read so far, and where the first fault is.
use Rattle.std.proofs.Common.{◌≡◌, ℕ, zero, suc, ◌+◌, ◌*◌, ◌<◌, ◌≤◌, ◌/◌, ◌%◌, List, [], ◌∷◌, ◌++◌, Bool, true, false, cond, Option, Some, None, option_map, Err, pos, negsuc, refl, sym, ap, ◌∙◌, subst, arith, append_assoc, append-nil, map, length, length-append, drop, get_or, inl, inr}
use Rattle.std.specs.Prelude.{IsTrue, IsSome, ◌≢◌, ◌↔◌, ◌==◌, option_to_list}
use Rattle.std.specs.Fmt.{decimal, digits, digits_onto, digit_glyph}
use Rattle.std.proofs.lemmas.List.{drop_more, drop_all}
use Rattle.witx_base.specs.SameBytes.{false-true, both}
use Rattle.witx_ast.specs.Functions.{func_tree, param_field}
use Rattle.witx_ast.specs.declared.function.InterfaceFunc.{InterfaceFunc}
use Rattle.witx_ast.specs.Plain.{Plain, plain}
use Rattle.witx_ast.specs.Tags.{fits, types_fit}
use Rattle.witx_ast.specs.Tree.{Tree}
use Rattle.witx_ast.specs.Views.{tree_of}
use Rattle.witx_ast.specs.Values.{Value}
use Rattle.witx_ast.specs.ValueTests.{is_value}
use Rattle.witx_ast.specs.declared.function.InterfaceFuncParam.{InterfaceFuncParam}
use Rattle.witx_ast.proofs.TagLaws.{fits-decides}
use Rattle.witx_ast.proofs.ValueLaws.{value-decides}
use Rattle.witx_machine.specs.Faithful.{are_arguments, is_reply}
use Rattle.witx_machine.specs.Functions.{function_of}
use Rattle.witx_bytes.specs.Readings.{ReadAs}
use Rattle.witx_bytes.specs.Seen.{seen}
use Rattle.witx_bytes.specs.declared.read_error.ReadError.{ReadError}
use Rattle.witx_bytes.specs.declared.value.Value as program
use Rattle.witx_call.specs.Lines.{AreLines, FirstFault, Gives, IsBehindLine, IsValueLine, NoLine, line_text, lines_text, line_param_types, line_types, values_given}
use Rattle.witx_invoke.specs.Reading.{taken, type_at}
use Rattle.witx_call.specs.ValueTexts.{value_text}
use Rattle.witx_invoke.proofs.ReadBack.{type-taken}

-- of the line of a value the reader takes the value
pub line-taken : (t : Tree) (text : List ℕ) (v : Value) (rest : List ℕ) → fits (plain t) ≡ true → IsValueLine t text v rest → type_at (plain t) text ≡ Some (v, 10 ∷ rest)
line-taken t text v rest f l =
    ap (type_at (plain t)) (l.spelled ∙ append_assoc (value_text v) (10 ∷ []) rest)
    ∙ type-taken (plain t) v (10 ∷ rest) ((value-decides (plain t) v).0 l.value) ((fits-decides (plain t)).0 f) refl

some-value : {A : Type 0} (x y : A) → Some x ≡ Some y → x ≡ y
some-value x y e = cc

none-taken : (o : Option (Value × List ℕ)) (v : Value) (s : List ℕ) → o ≡ None → o ≡ Some (v, s) → ⊥
none-taken None v s e f = cc
none-taken (Some p) v s e f = cc

one-taken : (o : Option (Value × List ℕ)) (v w : Value) (s r : List ℕ) → o ≡ Some (v, s) → o ≡ Some (w, r) → v ≡ w
one-taken None v w s r e f = absurd (none-taken None v s refl e)
one-taken (Some p) v w s r e f = sym (ap (λ (p : Value × List ℕ). p.0) (some-value p (v, s) e)) ∙ ap (λ (p : Value × List ℕ). p.0) (some-value p (w, r) f)

rest-taken : (o : Option (Value × List ℕ)) (v w : Value) (s r : List ℕ) → o ≡ Some (v, s) → o ≡ Some (w, r) → s ≡ r
rest-taken None v w s r e f = absurd (none-taken None v s refl e)
rest-taken (Some p) v w s r e f = sym (ap (λ (p : Value × List ℕ). p.1) (some-value p (v, s) e)) ∙ ap (λ (p : Value × List ℕ). p.1) (some-value p (w, r) f)

same-rest : (s r : List ℕ) → 10 ∷ s ≡ 10 ∷ r → s ≡ r
same-rest s r e = cc

-- a line tells its value and what follows it
pub line-tells : (t : Tree) (text : List ℕ) (v w : Value) (rest more : List ℕ) → fits (plain t) ≡ true → IsValueLine t text v rest → IsValueLine t text w more → (v ≡ w) × (rest ≡ more)
line-tells t text v w rest more f l m =
    let e = line-taken t text v rest f l in
    let k = line-taken t text w more f m in
    (one-taken (type_at (plain t) text) v w (10 ∷ rest) (10 ∷ more) e k, same-rest rest more (rest-taken (type_at (plain t) text) v w (10 ∷ rest) (10 ∷ more) e k))

-- and a text
alone : (t : Plain) (v : Value) → fits t ≡ true → is_value t v ≡ true → type_at t (value_text v) ≡ Some (v, [])
alone t v f h = ap (type_at t) (sym (append-nil (value_text v))) ∙ type-taken t v [] ((value-decides t v).0 h) ((fits-decides t).0 f) tt

pub text-tells : (t : Plain) (v w : Value) → fits t ≡ true → is_value t v ≡ true → is_value t w ≡ true → value_text v ≡ value_text w → v ≡ w
text-tells t v w f h k e = one-taken (type_at t (value_text v)) v w [] [] (alone t v f h) (ap (type_at t) e ∙ alone t w f k)

-- where the reader takes no value there is no line, and no line but that of the value that it takes
pub no-line-none : (t : Tree) (text : List ℕ) → fits (plain t) ≡ true → type_at (plain t) text ≡ None → NoLine t text
no-line-none t text f e v rest l = none-taken (type_at (plain t) text) v (10 ∷ rest) e (line-taken t text v rest f l)

pub no-line-other : (t : Tree) (text : List ℕ) (v : Value) (behind : List ℕ) → fits (plain t) ≡ true → type_at (plain t) text ≡ Some (v, behind) → IsBehindLine t text v None → NoLine t text
no-line-other t text v behind f e none w rest l =
    let value : w ≡ v = one-taken (type_at (plain t) text) w v (10 ∷ rest) behind (line-taken t text w rest f l) e in
    none rest (subst (λ v. IsValueLine t text v rest) value l)

-- one line and the rest
lines-more : (t : Tree) (ts : List Tree) (text rest more : List ℕ) (v : Value) (vs : List Value) → IsValueLine t text v rest → AreLines ts rest vs more → AreLines (t ∷ ts) text (v ∷ vs) more
lines-more t ts text rest more v vs l m = record {
  values = ap (λ b. cond b (are_arguments ts vs) false) l.value ∙ m.values;
  spelled = l.spelled ∙ ap (λ r. line_text v ++ r) m.spelled ∙ sym (append_assoc (line_text v) (lines_text vs) more);
}

-- the lines of these parameters from number i on are left, where so many values are read
pub record LinesLeft (done : List Value) (ps : List InterfaceFuncParam) (before i : ℕ) (text rest : List ℕ) : Type 0 where
  pub fit : types_fit (map param_field (drop i ps)) ≡ true
  pub lines : (vs : List Value) (more : List ℕ) → AreLines (line_param_types (drop i ps)) rest vs more → AreLines (line_param_types ps) text (done ++ vs) more
  pub fault : (more : List Tree) (n : ℕ) → FirstFault (before + i + 1) (line_param_types (drop i ps) ++ more) rest n → FirstFault (before + 1) (line_param_types ps ++ more) text n

pub lines-first : (ps : List InterfaceFuncParam) (before : ℕ) (text : List ℕ) → types_fit (map param_field ps) ≡ true → LinesLeft [] ps before 0 text text
lines-first ps before text f = record {
  fit = f;
  lines = λ vs more a. a;
  fault = λ more n a. subst (λ k. FirstFault k (line_param_types ps ++ more) text n) (omega arith) a;
}

module _ (done : List Value) (ps : List InterfaceFuncParam) (before i : ℕ) (text rest : List ℕ) (p : InterfaceFuncParam) (f : LinesLeft done ps before i text rest) (l : i < length ps) (e : p ≡ get_or ps i p) where
  left : drop i ps ≡ p ∷ drop (i + 1) ps
  left = drop_more ps i p l ∙ ap (λ q. q ∷ drop (i + 1) ps) (sym e)

  both-fit : (fits (plain (tree_of p.tref)) ≡ true) × (types_fit (map param_field (drop (i + 1) ps)) ≡ true)
  both-fit = both (fits (plain (tree_of p.tref))) (types_fit (map param_field (drop (i + 1) ps))) (ap (λ ps. types_fit (map param_field ps)) (sym left) ∙ f.fit)

  pub lines-fit : fits (plain (tree_of p.tref)) ≡ true
  lines-fit = both-fit.0

  pub lines-next : (v : Value) (next : List ℕ) → IsValueLine (tree_of p.tref) rest v next → LinesLeft (done ++ v ∷ []) ps before (i + 1) text next
  lines-next v next line = record {
    fit = both-fit.1;
    lines = λ vs more a.
        let here : AreLines (line_param_types (p ∷ drop (i + 1) ps)) rest (v ∷ vs) more = lines-more (tree_of p.tref) (line_param_types (drop (i + 1) ps)) rest next more v vs line a in
        subst (λ us. AreLines (line_param_types ps) text us more) (sym (append_assoc done (v ∷ []) vs))
        (f.lines (v ∷ vs) more (subst (λ ps. AreLines (line_param_types ps) rest (v ∷ vs) more) (sym left) here));
    fault = λ more n a.
        let count : before + (i + 1) + 1 ≡ before + i + 1 + 1 = omega arith in
        let here : FirstFault (before + i + 1) (line_param_types (p ∷ drop (i + 1) ps) ++ more) rest n = inr (v, next, line, subst (λ k. FirstFault k (line_param_types (drop (i + 1) ps) ++ more) next n) count a) in
        f.fault more n (subst (λ ps. FirstFault (before + i + 1) (line_param_types ps ++ more) rest n) (sym left) here);
  }

  pub lines-stop : (n : ℕ) → (n ≡ before + i + 1) × NoLine (tree_of p.tref) rest → (more : List Tree) → FirstFault (before + 1) (line_param_types ps ++ more) text n
  lines-stop n h more =
      let here : FirstFault (before + i + 1) (line_param_types (p ∷ drop (i + 1) ps) ++ more) rest n = inl h in
      f.fault more n (subst (λ ps. FirstFault (before + i + 1) (line_param_types ps ++ more) rest n) (sym left) here)

pub lines-done : (done : List Value) (ps : List InterfaceFuncParam) (before i : ℕ) (text rest : List ℕ) → LinesLeft done ps before i text rest → length ps ≤ i → AreLines (line_param_types ps) text done rest
lines-done done ps before i text rest f l =
    let none : drop i ps ≡ [] = drop_all i ps l in
    let end : AreLines [] rest [] rest = record { values = refl; spelled = refl } in
    subst (λ us. AreLines (line_param_types ps) text us rest) (append-nil done) (f.lines [] rest (subst (λ ps. AreLines (line_param_types ps) rest [] rest) (sym none) end))

-- a text is never empty
either : (b : Bool) (xs ys : List ℕ) → 0 < length xs → 0 < length ys → 0 < length (cond b xs ys)
either true xs ys l m = l
either false xs ys l m = m

onto-some : (k n : ℕ) (acc : List ℕ) → 0 < length acc → 0 < length (digits_onto k 10 false n acc)
onto-some zero n acc l = l
onto-some (suc k) n acc l = either (n / 10 == 0) (digit_glyph false (n % 10) ∷ acc) (digits_onto k 10 false (n / 10) (digit_glyph false (n % 10) ∷ acc)) (omega arith) (onto-some k (n / 10) (digit_glyph false (n % 10) ∷ acc) (omega arith))

decimal-some : (n : ℕ) → 0 < length (decimal n)
unfolding digits
decimal-some n = either (n / 10 == 0) (digit_glyph false (n % 10) ∷ []) (digits_onto 63 10 false (n / 10) (digit_glyph false (n % 10) ∷ [])) (omega arith) (onto-some 63 (n / 10) (digit_glyph false (n % 10) ∷ []) (omega arith))

text-some : (v : Value) → 0 < length (value_text v)
text-some (Value.number k (pos n)) = decimal-some n
text-some (Value.number k (negsuc n)) = omega arith
text-some (Value.handle_number n) = decimal-some n
text-some (Value.address n) = decimal-some n
text-some (Value.const_address n) = decimal-some n
text-some (Value.list_at a l) = omega arith
text-some (Value.flag_bits bits) = omega arith
text-some (Value.tuple_values vs) = omega arith
text-some (Value.record_values vs) = omega arith
text-some (Value.enum_index i) = omega arith
text-some (Value.bare_case i) = omega arith
text-some (Value.case_with i v) = omega arith

line-long : (v : Value) (rest : List ℕ) → 2 + length rest ≤ length (line_text v ++ rest)
line-long v rest = omega (arith, text-some v, length-append (line_text v) rest, length-append (value_text v) (10 ∷ []))

-- values of types are as many
pub lines-count : (ts : List Tree) (vs : List Value) → IsTrue (are_arguments ts vs) → length ts ≡ length vs
lines-count [] [] h = refl
lines-count [] (v ∷ vs) h = absurd (false-true h)
lines-count (t ∷ ts) [] h = absurd (false-true h)
lines-count (t ∷ ts) (v ∷ vs) h = ap suc (lines-count ts vs (go (is_value (plain t) v) h))
  where
    go : (b : Bool) → cond b (are_arguments ts vs) false ≡ true → are_arguments ts vs ≡ true
    go true h = h
    go false h = absurd (false-true h)

lines-long : (vs : List Value) (rest : List ℕ) → 2 * length vs + length rest ≤ length (lines_text vs ++ rest)
lines-long [] rest = omega arith
lines-long (v ∷ vs) rest =
    let e : length ((line_text v ++ lines_text vs) ++ rest) ≡ length (line_text v ++ (lines_text vs ++ rest)) = ap length (append_assoc (line_text v) (lines_text vs) rest) in
    omega (arith, e, line-long v (lines_text vs ++ rest), lines-long vs rest)

param-count : (ps : List InterfaceFuncParam) → length (line_param_types ps) ≡ length ps
param-count [] = refl
param-count (p ∷ ps) = ap suc (param-count ps)

-- each line has two bytes at least
pub lines-room : (ps : List InterfaceFuncParam) (text : List ℕ) (vs : List Value) (rest : List ℕ) → AreLines (line_param_types ps) text vs rest → (2 * length ps + length rest ≤ length text) × (length ps ≡ length vs)
lines-room ps text vs rest a =
    let count : length ps ≡ length vs = sym (param-count ps) ∙ lines-count (line_param_types ps) vs a.values in
    let e : length text ≡ length (lines_text vs ++ rest) = ap length a.spelled in
    let room : 2 * length ps + length rest ≤ length text = omega (arith, count, e, lines-long vs rest) in
    (room, count)

-- a fault behind lines
pub fault-behind : (ts us : List Tree) (vs : List Value) (text rest : List ℕ) (k n : ℕ) → AreLines ts text vs rest → FirstFault (k + length ts) us rest n → FirstFault k (ts ++ us) text n
fault-behind [] us [] text rest k n a f =
    let none : k + 0 ≡ k = omega arith in
    subst (λ text. FirstFault k us text n) (sym a.spelled) (subst (λ k. FirstFault k us rest n) none f)
fault-behind [] us (v ∷ vs) text rest k n a f = absurd (false-true a.values)
fault-behind (t ∷ ts) us [] text rest k n a f = absurd (false-true a.values)
fault-behind (t ∷ ts) us (v ∷ vs) text rest k n a f =
    let h = go (is_value (plain t) v) refl a.values in
    let line : IsValueLine t text v (lines_text vs ++ rest) = record { value = h.0; spelled = a.spelled ∙ append_assoc (line_text v) (lines_text vs) rest } in
    let more : AreLines ts (lines_text vs ++ rest) vs rest = record { values = h.1; spelled = refl } in
    let count : k + suc (length ts) ≡ k + 1 + length ts = omega arith in
    inr (v, lines_text vs ++ rest, line, fault-behind ts us vs (lines_text vs ++ rest) rest (k + 1) n more (subst (λ k. FirstFault k us rest n) count f))
  where
    go : (b : Bool) → is_value (plain t) v ≡ b → cond b (are_arguments ts vs) false ≡ true → (is_value (plain t) v ≡ true) × (are_arguments ts vs ≡ true)
    go true e h = (e, h)
    go false e h = absurd (false-true h)

-- the reader's refusal
pub none_read : (t : Tree) (text : List ℕ) → fits (plain t) ≡ true → (e : ReadError) → ReadAs (taken seen) (type_at (plain t) text) (Err e) → e ≡ ReadError.NoValue → NoLine t text
none_read t text f ReadError.NoValue h n = no-line-none t text f h
none_read t text f ReadError.OutOfMemory h n = absurd (clash n)
  where
    clash : ReadError.OutOfMemory ≡ ReadError.NoValue → ⊥
    clash h = cc

-- lines one behind the other
lines-append : (vs us : List Value) → lines_text (vs ++ us) ≡ lines_text vs ++ lines_text us
lines-append [] us = refl
lines-append (v ∷ vs) us = ap (λ s. line_text v ++ s) (lines-append vs us) ∙ sym (append_assoc (line_text v) (lines_text vs) (lines_text us))

-- all values of one call, whose function has these parameters and results
module _ (func : InterfaceFunc) (ps rs : List InterfaceFuncParam) (p : ps ≡ func.params) (r : rs ≡ func.results) (text next : List ℕ) (args : List Value) (a : AreLines (line_param_types ps) text args next) where
  all-types : line_param_types ps ++ line_param_types rs ≡ line_types (function_of (func_tree func))
  all-types = ap (λ ps. line_param_types ps ++ line_param_types rs) p ∙ ap (λ rs. line_param_types func.params ++ line_param_types rs) r

  behind-args : (n : ℕ) → FirstFault (1 + length ps) (line_param_types rs) next n → FirstFault 1 (line_types (function_of (func_tree func))) text n
  behind-args n f = subst (λ ts. FirstFault 1 ts text n) all-types (fault-behind (line_param_types ps) (line_param_types rs) args text next 1 n a (subst (λ k. FirstFault (1 + k) (line_param_types rs) next n) (sym (param-count ps)) f))

  pub reply-fault : (n : ℕ) → ((more : List Tree) → FirstFault (length ps + 1) (line_param_types rs ++ more) next n) → FirstFault 1 (line_types (function_of (func_tree func))) text n
  reply-fault n f =
      let count : length ps + 1 ≡ 1 + length ps = omega arith in
      behind-args n (subst (λ k. FirstFault k (line_param_types rs) next n) count (subst (λ ts. FirstFault (length ps + 1) ts next n) (append-nil (line_param_types rs)) (f [])))

  module _ (rest : List ℕ) (us : List Value) (b : AreLines (line_param_types rs) next us rest) where
    pub too-many : (n : ℕ) → rest ≢ [] → n ≡ length ps + length us + 1 → FirstFault 1 (line_types (function_of (func_tree func))) text n
    too-many n some e =
        let count : n ≡ 1 + length ps + length (line_param_types rs) = omega (arith, e, lines-count (line_param_types rs) us b.values) in
        let end : FirstFault (1 + length ps + length (line_param_types rs)) [] rest n = (count, some) in
        behind-args n (subst (λ ts. FirstFault (1 + length ps) ts next n) (append-nil (line_param_types rs)) (fault-behind (line_param_types rs) [] us next rest (1 + length ps) n b end))

-- the value of a result, if there is one
reply-is : (ts : List Tree) (replies news : List program.Value) (o : Option program.Value) → length ts ≤ 1 → IsTrue (are_arguments ts (map seen replies)) → replies ≡ news ++ option_to_list o → (IsSome o ↔ (0 < length replies))
    → IsTrue (is_reply ts (option_map seen o)) × (map seen replies ≡ values_given [] (option_map seen o))
reply-is [] [] news None l h e i = (refl, refl)
reply-is [] [] news (Some w) l h e i = absurd (omega (arith, ap length e, length-append news (w ∷ [])))
reply-is [] (v ∷ vs) news o l h e i = absurd (false-true h)
reply-is (t ∷ []) [] news o l h e i = absurd (false-true h)
reply-is (t ∷ []) (v ∷ []) news None l h e i = absurd (false-true (i.1 (omega arith)))
reply-is (t ∷ []) (v ∷ []) [] (Some w) l h e i = (holds (is_value (plain t) (seen w)) (subst (λ v. cond (is_value (plain t) (seen v)) true false ≡ true) same h), ap (λ v. seen v ∷ []) same)
  where
    same : v ≡ w
    same = cc

    holds : (b : Bool) → cond b true false ≡ true → b ≡ true
    holds true h = refl
    holds false h = absurd (false-true h)
reply-is (t ∷ []) (v ∷ []) (u ∷ news) (Some w) l h e i = absurd (omega (arith, ap length e, length-append news (w ∷ [])))
reply-is (t ∷ []) (v ∷ u ∷ vs) news o l h e i = absurd (no (is_value (plain t) (seen v)) h)
  where
    no : (b : Bool) → cond b false false ≡ true → ⊥
    no true h = false-true h
    no false h = false-true h
reply-is (t ∷ s ∷ ts) replies news o l h e i = absurd (omega (arith, l))

given-append : (vs : List Value) (o : Option Value) → vs ++ values_given [] o ≡ values_given vs o
given-append vs None = append-nil vs
given-append vs (Some v) = refl

pub values-given : (func : InterfaceFunc) (ps rs : List InterfaceFuncParam) → ps ≡ func.params → rs ≡ func.results → (text next rest : List ℕ) (args replies news : List program.Value) (o : Option program.Value)
    → AreLines (line_param_types ps) text (map seen args) next → AreLines (line_param_types rs) next (map seen replies) rest → length rest ≤ 0 → length func.results ≤ 1 → replies ≡ news ++ option_to_list o → (IsSome o ↔ (0 < length replies))
    → Gives (function_of (func_tree func)) text (map seen args) (option_map seen o)
values-given func ps rs p r text next rest args replies news o a b none few e i =
    let one : length (line_param_types rs) ≤ 1 = omega (arith, few, ap length r, param-count rs) in
    let reply = reply-is (line_param_types rs) replies news o one b.values e i in
    let all : text ≡ lines_text (map seen args) ++ lines_text (map seen replies) = a.spelled ∙ ap (λ s. lines_text (map seen args) ++ s) (b.spelled ∙ ap (λ s. lines_text (map seen replies) ++ s) (empty rest none) ∙ append-nil (lines_text (map seen replies))) in
    record {
      accepted = subst (λ ps. IsTrue (are_arguments (line_param_types ps) (map seen args))) p a.values;
      replied = subst (λ rs. IsTrue (is_reply (line_param_types rs) (option_map seen o))) r reply.0;
      spelled = all ∙ sym (lines-append (map seen args) (map seen replies)) ∙ ap (λ us. lines_text (map seen args ++ us)) reply.1 ∙ ap lines_text (given-append (map seen args) (option_map seen o));
    }
  where
    empty : (xs : List ℕ) → length xs ≤ 0 → xs ≡ []
    empty [] l = refl
    empty (x ∷ xs) l = absurd (omega (arith, l))

pub ruleset line_rules = (lines-first, lines-fit, lines-next, lines-stop, lines-done)
