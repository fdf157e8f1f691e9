-- In a closed document that can be adapted, whose names are unbroken, each type of each function's events stands for something.
use Rattle.std.proofs.Common.{◌≡◌, ℕ, ◌⊎◌, inl, inr, List, [], ◌∷◌, ◌++◌, map, Bool, true, false, cond, refl, sym, ap, ◌∙◌, subst, Option, Some, None, option_map, append_assoc, append-nil, if◌then◌else◌}
use Rattle.std.specs.Prelude.{⊤, codes}
use Rattle.std.specs.List.{AllByRecursion, flat_map}
use Rattle.std.specs.Option.{option_and_then, option_or}
use Rattle.std.specs.Ordering.{is_eq, nat_cmp}
use Rattle.std.specs.Cmp.Lexicographic.{slice_cmp}
use Rattle.std.proofs.lemmas.List.Elements.{filter_map-append}
use Rattle.witx_base.specs.Found.{found}
use Rattle.witx_base.specs.Texts.{same_text}
use Rattle.witx_base.proofs.Names.{found-append, same-is, same-equal}
use Rattle.witx_ast.specs.declared.types.BuiltinType.{BuiltinType}
use Rattle.witx_ast.specs.declared.types.RecordKind.{RecordKind}
use Rattle.witx_ast.specs.Tree.{Tree, Fields, Arms, Field, arm_list, behind}
use Rattle.witx_ast.specs.TypeNames.{builtin_text, comma_joined, is_char, member_texts, payload_texts, result_text, type_text}
use Rattle.witx_ast.specs.Plain.{plain_arms}
use Rattle.witx_ast.specs.Words.{is_bool_arms, is_expected}
use Rattle.witx_ast.specs.Entries.{by_name}
use Rattle.witx_ast.specs.Definitions.{DefinitionTree, typename_of, module_of, constant_of, introduced, as_typename, typename_called}
use Rattle.witx_ast.specs.Ordered.{NamesStand, FieldNamesStand, ArmNamesStand}
use Rattle.witx_ast.specs.Closed.{AllNamesStand, ClosedAfter, ParamNamesStand}
use Rattle.witx_machine.specs.Functions.{err_of, has_payload, member_types, ok_of, result_cases, tuple_types}
use Rattle.witx_traces.specs.Traces.{first_shown, one_line, target}
use Rattle.witx_traces.specs.ReadBack.{IsUnbroken, NamesAreUnbroken}
use Rattle.witx_traces.proofs.OneLines.{EachOneLine, joined-one, one-append}

-- ---- among

abbrev pub Among : Tree → List Tree → Type 0
Among x [] = ⊥
Among x (y ∷ ys) = (x ≡ y) ⊎ Among x ys

pub among-left : (x : Tree) (ys zs : List Tree) → Among x ys → Among x (ys ++ zs)
among-left x [] zs h = absurd h
among-left x (y ∷ ys) zs (inl e) = inl e
among-left x (y ∷ ys) zs (inr h) = inr (among-left x ys zs h)

pub among-right : (x : Tree) (ys zs : List Tree) → Among x zs → Among x (ys ++ zs)
among-right x [] zs h = h
among-right x (y ∷ ys) zs h = inr (among-right x ys zs h)

pub among-flat : (g : Tree → List Tree) (x y : Tree) (ys : List Tree) → Among x (g y) → Among y ys → Among x (flat_map g ys)
among-flat g x y [] h a = absurd a
among-flat g x y (z ∷ zs) h (inl e) = among-left x (g z) (flat_map g zs) (subst (λ w. Among x (g w)) e h)
among-flat g x y (z ∷ zs) h (inr a) = among-right x (g z) (flat_map g zs) (among-flat g x y zs h a)

pub all-among : (P : Tree → Type 0) (xs : List Tree) → ((x : Tree) → Among x xs → P x) → AllByRecursion P xs
all-among P [] f = tt
all-among P (x ∷ xs) f = (f x (inl refl), all-among P xs (λ y a. f y (inr a)))

pub among-all : (P : Tree → Type 0) (x : Tree) (xs : List Tree) → AllByRecursion P xs → Among x xs → P x
among-all P x [] h a = absurd a
among-all P x (y ∷ ys) h (inl e) = subst P (sym e) h.0
among-all P x (y ∷ ys) h (inr a) = among-all P x ys h.1 a

-- a text stands for one of the types among which its own is
pub record Found (look : List ℕ → Option Tree) (t : Tree) : Type 0 where
  pub for : Tree
  pub is : look (type_text t) ≡ Some for

first-by : (x y : Tree) (ys : List Tree) (b : Bool) → Found (first_shown ys) x → (if b then Some y else first_shown ys (type_text x)) ≡ first_shown (y ∷ ys) (type_text x) → Found (first_shown (y ∷ ys)) x
first-by x y ys true h e = record { for = y; is = sym e }
first-by x y ys false h e = record { for = h.for; is = sym e ∙ h.is }

same-itself : (t : List ℕ) → same_text t t ≡ true
same-itself t = (same-equal t t).1 refl

pub first-among : (x : Tree) (ys : List Tree) → Among x ys → Found (first_shown ys) x
first-among x [] a = absurd a
first-among x (y ∷ ys) (inl e) = record { for = y; is = ap (λ t. if t then Some y else first_shown ys (type_text x)) (ap (λ z. same_text (type_text z) (type_text x)) (sym e) ∙ same-itself (type_text x)) }
first-among x (y ∷ ys) (inr a) = first-by x y ys (same_text (type_text y) (type_text x)) (first-among x ys a) refl

pub or-found : (f g : List ℕ → Option Tree) (t : Tree) (o : Option Tree) → f (type_text t) ≡ o → Found g t → Found (λ n. option_or (f n) (g n)) t
or-found f g t None e h = record { for = h.for; is = ap (λ o. option_or o (g (type_text t))) e ∙ h.is }
or-found f g t (Some u) e h = record { for = u; is = ap (λ o. option_or o (g (type_text t))) e }

pub or-first : (f g : List ℕ → Option Tree) (t : Tree) → Found f t → Found (λ n. option_or (f n) (g n)) t
or-first f g t h = record { for = h.for; is = ap (λ o. option_or o (g (type_text t))) h.is }

-- ---- typenames

called-by : (B D : List (List ℕ × DefinitionTree)) (n : List ℕ) (u : Tree) (o : Option DefinitionTree) → found B n ≡ o → option_and_then as_typename (option_or o (found D n)) ≡ Some u
    → (option_and_then as_typename o ≡ Some u) ⊎ (option_and_then as_typename (found D n) ≡ Some u)
called-by B D n u None e h = inr h
called-by B D n u (Some d) e h = inl h

called-append : (before rest : List DefinitionTree) (n : List ℕ) → typename_called (before ++ rest) n ≡ option_and_then as_typename (option_or (found (by_name introduced before) n) (found (by_name introduced rest) n))
called-append before rest n =
    ap (λ es. option_and_then as_typename (found es n)) (filter_map-append {Y = List ℕ × DefinitionTree} (λ (d : DefinitionTree). option_map (λ (m : List ℕ). (m, d)) (introduced d)) before rest)
    ∙ ap (option_and_then as_typename) (found-append (by_name introduced before) (by_name introduced rest) n)

called-either : (before rest : List DefinitionTree) (n : List ℕ) (u : Tree) → typename_called (before ++ rest) n ≡ Some u → (typename_called before n ≡ Some u) ⊎ (typename_called rest n ≡ Some u)
called-either before rest n u h = called-by (by_name introduced before) (by_name introduced rest) n u (found (by_name introduced before) n) refl (sym (called-append before rest n) ∙ h)

still-by : (o p : Option DefinitionTree) (u : Tree) → option_and_then as_typename o ≡ Some u → option_and_then as_typename (option_or o p) ≡ Some u
still-by None p u h = absurd (cc)
still-by (Some d) p u h = h

called-still : (before rest : List DefinitionTree) (n : List ℕ) (u : Tree) → typename_called before n ≡ Some u → typename_called (before ++ rest) n ≡ Some u
called-still before rest n u h = called-append before rest n ∙ still-by (found (by_name introduced before) n) (found (by_name introduced rest) n) u h

last-by : (b : Bool) (d : DefinitionTree) (u : Tree) → option_and_then as_typename (cond b (Some d) None) ≡ Some u → as_typename d ≡ Some u
last-by true d u h = h
last-by false d u h = absurd (cc)

called-alone : (d : DefinitionTree) (n : List ℕ) (u : Tree) → typename_called (d ∷ []) n ≡ Some u → as_typename d ≡ Some u
called-alone (typename_of name t docs) n u h = last-by (is_eq (slice_cmp nat_cmp n name)) (typename_of name t docs) u h
called-alone (module_of m) n u h = last-by (is_eq (slice_cmp nat_cmp n m.name)) (module_of m) u h
called-alone (constant_of c) n u h = absurd (cc)

-- the name of a typename is unbroken
name-by : (key n : List ℕ) (d : DefinitionTree) (o : Option DefinitionTree) (u : Tree) (b : Bool) → is_eq (slice_cmp nat_cmp n key) ≡ b → IsUnbroken key → (option_and_then as_typename o ≡ Some u → IsUnbroken n)
    → option_and_then as_typename (cond b (Some d) o) ≡ Some u → IsUnbroken n
name-by key n d o u true e own more h = subst IsUnbroken (sym (same-is n key e)) own
name-by key n d o u false e own more h = more h

past-by : (d : DefinitionTree) (o : Option DefinitionTree) (u : Tree) (b : Bool) → as_typename d ≡ None → option_and_then as_typename (cond b (Some d) o) ≡ Some u → option_and_then as_typename o ≡ Some u
past-by d o u true e h = absurd (cc)
past-by d o u false e h = h

pub unbroken-name : (ds : List DefinitionTree) → NamesAreUnbroken ds → (n : List ℕ) (u : Tree) → typename_called ds n ≡ Some u → IsUnbroken n
unbroken-name [] h n u e = absurd (cc)
unbroken-name (typename_of name t docs ∷ ds) h n u e = name-by name n (typename_of name t docs) (found (by_name introduced ds) n) u (is_eq (slice_cmp nat_cmp n name)) refl h.0 (unbroken-name ds h.1 n u) e
unbroken-name (module_of m ∷ ds) h n u e = unbroken-name ds h n u (past-by (module_of m) (found (by_name introduced ds) n) u (is_eq (slice_cmp nat_cmp n m.name)) refl e)
unbroken-name (constant_of c ∷ ds) h n u e = unbroken-name ds h n u e

-- ---- names that stand before a definition stand in the whole

mutual
  still-stand : (before rest : List DefinitionTree) (t : Tree) → NamesStand before t → NamesStand (before ++ rest) t
  still-stand before rest (Tree.named n t d) s = (s.0, called-still before rest n s.0 s.1, s.2)
  still-stand before rest (Tree.builtin b) s = tt
  still-stand before rest Tree.handle s = tt
  still-stand before rest (Tree.list_of t) s = still-stand before rest t s
  still-stand before rest (Tree.pointer_to t) s = still-stand before rest t s
  still-stand before rest (Tree.const_pointer_to t) s = still-stand before rest t s
  still-stand before rest (Tree.record_of k ms) s = fields-still-stand before rest ms s
  still-stand before rest (Tree.variant_of r cs) s = arms-still-stand before rest cs s

  fields-still-stand : (before rest : List DefinitionTree) (ms : Fields) → FieldNamesStand before ms → FieldNamesStand (before ++ rest) ms
  fields-still-stand before rest Fields.no_fields s = tt
  fields-still-stand before rest (Fields.field n t d ms) s = (still-stand before rest t s.0, fields-still-stand before rest ms s.1)

  arms-still-stand : (before rest : List DefinitionTree) (cs : Arms) → ArmNamesStand before cs → ArmNamesStand (before ++ rest) cs
  arms-still-stand before rest Arms.no_arms s = tt
  arms-still-stand before rest (Arms.bare n d cs) s = arms-still-stand before rest cs s
  arms-still-stand before rest (Arms.carries n t d cs) s = (still-stand before rest t s.0, arms-still-stand before rest cs s.1)

pub params-still-stand : (before rest : List DefinitionTree) (ps : List Field) → ParamNamesStand before ps → AllByRecursion (NamesStand (before ++ rest)) (map (λ p. p.tree) ps)
params-still-stand before rest [] s = tt
params-still-stand before rest (p ∷ ps) s = (still-stand before rest p.tree s.0, params-still-stand before rest ps s.1)

-- what stands behind a typename has names that stand, too
pub BehindStands : List DefinitionTree → Type 0
BehindStands ds = (n : List ℕ) (u : Tree) → typename_called ds n ≡ Some u → NamesStand ds (behind u)

pub behind-stands : (ds : List DefinitionTree) → BehindStands ds → (t : Tree) → NamesStand ds t → NamesStand ds (behind t)
unfolding BehindStands
behind-stands ds h (Tree.named n t d) s = subst (NamesStand ds) s.2 (h n s.0 s.1)
behind-stands ds h (Tree.builtin b) s = tt
behind-stands ds h Tree.handle s = tt
behind-stands ds h (Tree.list_of t) s = s
behind-stands ds h (Tree.pointer_to t) s = s
behind-stands ds h (Tree.const_pointer_to t) s = s
behind-stands ds h (Tree.record_of k ms) s = s
behind-stands ds h (Tree.variant_of r cs) s = s

as-named : (d : DefinitionTree) (before : List DefinitionTree) → BehindStands before → AllNamesStand before d → (u : Tree) → as_typename d ≡ Some u → NamesStand before (behind u)
unfolding BehindStands
as-named (typename_of name t docs) before h s u e = let same : Tree.named name t docs ≡ u = cc in subst (λ v. NamesStand before (behind v)) same (behind-stands before h t s)
as-named (module_of m) before h s u e = absurd (cc)
as-named (constant_of c) before h s u e = absurd (cc)

behind-next : (before : List DefinitionTree) (d : DefinitionTree) → BehindStands before → AllNamesStand before d → BehindStands (before ++ d ∷ [])
unfolding BehindStands
behind-next before d h s n u e = still-stand before (d ∷ []) (behind u) (by (called-either before (d ∷ []) n u e))
  where
    by : (typename_called before n ≡ Some u) ⊎ (typename_called (d ∷ []) n ≡ Some u) → NamesStand before (behind u)
    by (inl old) = h n u old
    by (inr new) = as-named d before h s u (called-alone d n u new)

pub behind-after : (before ds all : List DefinitionTree) → BehindStands before → ClosedAfter before ds → before ++ ds ≡ all → BehindStands all
behind-after before [] all h c e = subst BehindStands (sym (append-nil before) ∙ e) h
behind-after before (d ∷ ds) all h c e = behind-after (before ++ d ∷ []) ds all (behind-next before d h c.0) c.1 (append_assoc before (d ∷ []) ds ∙ e)

pub none-behind : BehindStands []
unfolding BehindStands
none-behind n u e = absurd (cc)

-- ---- in such a document

pub record Document (ds : List DefinitionTree) : Type 0 where
  pub behind-stand : BehindStands ds
  pub unbroken : NamesAreUnbroken ds

-- a type's text is in one line
builtin-one : (b : BuiltinType) → one_line (builtin_text b) ≡ true
builtin-one BuiltinType.Char = refl
builtin-one (BuiltinType.U8 c) = refl
builtin-one BuiltinType.U16 = refl
builtin-one (BuiltinType.U32 true) = refl
builtin-one (BuiltinType.U32 false) = refl
builtin-one BuiltinType.U64 = refl
builtin-one BuiltinType.S8 = refl
builtin-one BuiltinType.S16 = refl
builtin-one BuiltinType.S32 = refl
builtin-one BuiltinType.S64 = refl
builtin-one BuiltinType.F32 = refl
builtin-one BuiltinType.F64 = refl

list-one : (b : Bool) (text : List ℕ) → one_line text ≡ true → one_line (if b then codes "string" else codes "List<" ++ text ++ codes ">") ≡ true
list-one true text h = refl
list-one false text h = one-append text (codes ">") h refl

variant-one : (a b : Bool) (texts : List (List ℕ)) → EachOneLine texts → one_line (if a then result_text texts else if b then codes "bool" else codes "Variant") ≡ true
variant-one true b texts h = one-append (comma_joined texts) (codes ">") (joined-one texts h) refl
variant-one false true texts h = refl
variant-one false false texts h = refl

mutual
  pub type-one : (ds : List DefinitionTree) → NamesAreUnbroken ds → (t : Tree) → NamesStand ds t → one_line (type_text t) ≡ true
  type-one ds u (Tree.named n t d) s = (unbroken-name ds u n s.0 s.1).0
  type-one ds u (Tree.builtin b) s = builtin-one b
  type-one ds u Tree.handle s = refl
  type-one ds u (Tree.list_of t) s = list-one (is_char (behind t)) (type_text t) (type-one ds u t s)
  type-one ds u (Tree.pointer_to t) s = one-append (type_text t) (codes ">") (type-one ds u t s) refl
  type-one ds u (Tree.const_pointer_to t) s = one-append (type_text t) (codes ">") (type-one ds u t s) refl
  type-one ds u (Tree.record_of RecordKind.Tuple ms) s = one-append (comma_joined (member_texts ms)) (codes ")") (joined-one (member_texts ms) (members-one ds u ms s)) refl
  type-one ds u (Tree.record_of (RecordKind.Bitflags r) ms) s = refl
  type-one ds u (Tree.record_of RecordKind.Other ms) s = refl
  type-one ds u (Tree.variant_of r cs) s = variant-one (is_expected (arm_list cs)) (is_bool_arms (arm_list cs)) (payload_texts cs) (payloads-one ds u cs s)

  members-one : (ds : List DefinitionTree) → NamesAreUnbroken ds → (ms : Fields) → FieldNamesStand ds ms → EachOneLine (member_texts ms)
  members-one ds u Fields.no_fields s = tt
  members-one ds u (Fields.field n t d ms) s = (type-one ds u t s.0, members-one ds u ms s.1)

  payloads-one : (ds : List DefinitionTree) → NamesAreUnbroken ds → (cs : Arms) → ArmNamesStand ds cs → EachOneLine (payload_texts cs)
  payloads-one ds u Arms.no_arms s = tt
  payloads-one ds u (Arms.bare n d cs) s = (refl, payloads-one ds u cs s)
  payloads-one ds u (Arms.carries n t d cs) s = (type-one ds u t s.0, payloads-one ds u cs s.1)

-- ---- the parts of a type have names that stand

pub target-stands : (ds : List DefinitionTree) (t x : Tree) → NamesStand ds (behind t) → Among x (target t) → NamesStand ds x
target-stands ds (Tree.named n t d) x s a = target-stands ds t x s a
target-stands ds (Tree.builtin b) x s a = absurd a
target-stands ds Tree.handle x s a = absurd a
target-stands ds (Tree.list_of t) x s (inl e) = subst (NamesStand ds) (sym e) s
target-stands ds (Tree.list_of t) x s (inr a) = absurd a
target-stands ds (Tree.pointer_to t) x s (inl e) = subst (NamesStand ds) (sym e) s
target-stands ds (Tree.pointer_to t) x s (inr a) = absurd a
target-stands ds (Tree.const_pointer_to t) x s (inl e) = subst (NamesStand ds) (sym e) s
target-stands ds (Tree.const_pointer_to t) x s (inr a) = absurd a
target-stands ds (Tree.record_of k ms) x s a = absurd a
target-stands ds (Tree.variant_of r cs) x s a = absurd a

cases-by : (ds : List DefinitionTree) (b : Bool) (cs es : Arms) → cond b (Some cs) None ≡ Some es → ArmNamesStand ds cs → ArmNamesStand ds es
cases-by ds true cs es e s = let same : cs ≡ es = cc in subst (ArmNamesStand ds) same s
cases-by ds false cs es e s = absurd (cc)

pub cases-stand : (ds : List DefinitionTree) (t : Tree) (cs : Arms) → NamesStand ds (behind t) → result_cases t ≡ Some cs → ArmNamesStand ds cs
cases-stand ds (Tree.named n t d) cs s e = cases-stand ds t cs s e
cases-stand ds (Tree.variant_of r es) cs s e = cases-by ds (has_payload (plain_arms es)) es cs e s
cases-stand ds _ cs s e = absurd (cc)

members-all : (ds : List DefinitionTree) (ms : Fields) → FieldNamesStand ds ms → AllByRecursion (NamesStand ds) (member_types ms)
members-all ds Fields.no_fields s = tt
members-all ds (Fields.field n t d ms) s = (s.0, members-all ds ms s.1)

pub tuple-stands : (ds : List DefinitionTree) (t : Tree) (ts : List Tree) → NamesStand ds (behind t) → tuple_types t ≡ Some ts → AllByRecursion (NamesStand ds) ts
tuple-stands ds (Tree.named n t d) ts s e = tuple-stands ds t ts s e
tuple-stands ds (Tree.builtin b) ts s e = absurd (cc)
tuple-stands ds Tree.handle ts s e = absurd (cc)
tuple-stands ds (Tree.list_of t) ts s e = absurd (cc)
tuple-stands ds (Tree.pointer_to t) ts s e = absurd (cc)
tuple-stands ds (Tree.const_pointer_to t) ts s e = absurd (cc)
tuple-stands ds (Tree.record_of RecordKind.Tuple ms) ts s e = let same : member_types ms ≡ ts = cc in subst (AllByRecursion (NamesStand ds)) same (members-all ds ms s)
tuple-stands ds (Tree.record_of (RecordKind.Bitflags r) ms) ts s e = absurd (cc)
tuple-stands ds (Tree.record_of RecordKind.Other ms) ts s e = absurd (cc)
tuple-stands ds (Tree.variant_of r cs) ts s e = absurd (cc)

abbrev pub OptionStands : List DefinitionTree → Option Tree → Type 0
OptionStands ds None = ⊤
OptionStands ds (Some t) = NamesStand ds t

pub ok-stands : (ds : List DefinitionTree) (cs : Arms) → ArmNamesStand ds cs → OptionStands ds (ok_of cs)
ok-stands ds Arms.no_arms s = tt
ok-stands ds (Arms.bare n d cs) s = tt
ok-stands ds (Arms.carries n t d cs) s = s.0

pub err-stands : (ds : List DefinitionTree) (cs : Arms) → ArmNamesStand ds cs → OptionStands ds (err_of cs)
err-stands ds Arms.no_arms s = tt
err-stands ds (Arms.bare n d cs) s = ok-stands ds cs s
err-stands ds (Arms.carries n t d cs) s = ok-stands ds cs s.1
