-- The types of the events of each function of such a document stand for something, and so both its sides are read back.
use Rattle.std.proofs.Common.{◌≡◌, ℕ, ◌+◌, ◌≤◌, inl, List, [], ◌∷◌, ◌++◌, length, map, Bool, true, false, cond, refl, sym, ap, ◌∙◌, subst, Option, Some, None, arith, append_assoc, append-nil, length-append}
use Rattle.std.specs.Prelude.{not, position}
use Rattle.std.specs.List.{AllByRecursion, flat_map, position_from}
use Rattle.std.specs.Option.{option_and_then, option_to_list}
use Rattle.std.specs.Str.{IsUtf8}
use Rattle.std.proofs.lemmas.List.{length-map}
use Rattle.std.proofs.lemmas.Iterator.Adapters.{position_from-zero}
use Rattle.witx_ast.specs.declared.function.Abi.{Abi}
use Rattle.witx_ast.specs.declared.types.RecordKind.{RecordKind}
use Rattle.witx_ast.specs.Tree.{Tree, Fields, Arms}
use Rattle.witx_ast.specs.TypeNames.{member_texts, type_text}
use Rattle.witx_ast.specs.Plain.{plain}
use Rattle.witx_ast.specs.Words.{is_named}
use Rattle.witx_ast.specs.Items.{ItemTree, import_of, func_of}
use Rattle.witx_ast.specs.Definitions.{DefinitionTree, ModuleTree, typename_of, module_of, constant_of, typename_called}
use Rattle.witx_ast.specs.Ordered.{NamesStand, FieldNamesStand}
use Rattle.witx_ast.specs.Closed.{AllNamesStand, ClosedAfter, IsClosed, ItemNamesStand}
use Rattle.witx_machine.specs.declared.surface.Place.{Place}
use Rattle.witx_machine.specs.declared.surface.WasmType.{WasmType}
use Rattle.witx_machine.specs.Functions.{Function, err_of, function_of, member_types, ok_of, result_cases, tuple_types}
use Rattle.witx_machine.specs.Signature.{before_rest, ok_pointers, pointers_by, pointers_under, result_word, return_pointers, signature_params, words_of_params}
use Rattle.witx_machine.specs.Lowerable.{all_names, can_be_ok, can_be_param, can_be_result, earlier_place, unlowerable, unlowerable_result}
use Rattle.witx_machine.specs.Traces.{lift_by, lower_by}
use Rattle.witx_instructions.proofs.PointerTypes.{ok-members, ok-named, ok-single, ok-tuple}
use Rattle.witx_instructions.proofs.Sides.{result-err, result-ok, word-param}
use Rattle.witx_adapt.specs.Entries.{Owned, all_functions, owned_functions, owned_item}
use Rattle.witx_traces.specs.LineParts.{no_blank}
use Rattle.witx_traces.specs.Traces.{EndsBeforeError, IsWord, err_types, first_shown, held_types, ok_types, payload_types, shown as shown_in, target, known_of}
use Rattle.witx_traces.specs.ReadBack.{AreTypesHeld, ItemsAreHeld}
use Rattle.witx_traces.proofs.OkTexts.{EachNoBlank, name-ends, tuple-ends}
use Rattle.witx_traces.proofs.ReadBackParts.{PayloadStands, Stands, Tells, both-true}
use Rattle.witx_traces.proofs.ReadBackEvents.{AllStand, CanBeParam, ErrReads, NameStands, PayloadsTell, Readable, ResultsTell, SidesTell, lift-cases-tell, load-all-tells, lower-cases-tell, step-tells, store-all-tells}
use Rattle.witx_traces.proofs.ReadBackDocs.{Among, Document, OptionStands, among-all, among-flat, among-left, among-right, all-among, behind-stands, cases-stand, err-stands, first-among, ok-stands, or-first, or-found, params-still-stand, target-stands, tuple-stands, type-one, unbroken-name}

can-back : (b : Bool) → cond b None (Some (Place.Result 0)) ≡ None → b ≡ true
can-back true e = refl
can-back false e = absurd (cc)

none-first : (o : Option ℕ) (r : Option Place) → earlier_place o r ≡ None → (o ≡ None) × (r ≡ None)
none-first None r h = (refl, h)
none-first (Some i) r h = absurd (cc)

can-step : (b : Bool) (j : ℕ) (o : Option ℕ) → cond (not b) (Some j) o ≡ None → (b ≡ true) × (o ≡ None)
can-step true j o e = (refl, e)
can-step false j o e = absurd (cc)

all-can : (j : ℕ) (ts : List Tree) → position_from (λ t. not (can_be_param t)) j ts ≡ None → AllByRecursion CanBeParam ts
all-can j [] e = tt
all-can j (t ∷ ts) e = let s = can-step (can_be_param t) j (position_from (λ t. not (can_be_param t)) (j + 1) ts) e in (s.0, all-can (j + 1) ts s.1)

fewer : (k n : ℕ) → IsWord (k + n) → IsWord n
fewer k n w = omega (arith, w)

one-is-word : IsWord (0 + 1)
one-is-word = omega arith

-- the payloads of a result are among its ok and err types
ok-among : (t : Tree) (cs : Arms) (x : Tree) → result_cases t ≡ Some cs → ok_of cs ≡ Some x → Among x (ok_types t)
ok-among t cs x e o = subst (Among x) (sym (ap (λ c. option_to_list (option_and_then ok_of c)) e ∙ ap option_to_list o)) (inl refl)

err-among : (t : Tree) (cs : Arms) (x : Tree) → result_cases t ≡ Some cs → err_of cs ≡ Some x → Among x (err_types t)
err-among t cs x e o = subst (Among x) (sym (ap (λ c. option_to_list (option_and_then err_of c)) e ∙ ap option_to_list o)) (inl refl)

named-is : (t : Tree) → is_named t ≡ true → (name : List ℕ) × (u : Tree) × (docs : List ℕ) × (t ≡ Tree.named name u docs)
named-is (Tree.named n t d) e = (n, t, d, refl)
named-is (Tree.builtin b) e = absurd (cc)
named-is Tree.handle e = absurd (cc)
named-is (Tree.list_of t) e = absurd (cc)
named-is (Tree.pointer_to t) e = absurd (cc)
named-is (Tree.const_pointer_to t) e = absurd (cc)
named-is (Tree.record_of k ms) e = absurd (cc)
named-is (Tree.variant_of r cs) e = absurd (cc)

module _ (ds : List DefinitionTree) (doc : Document ds) (f : Function) where
  -- ---- types of a function

  named-stands : (t : Tree) → is_named t ≡ true → NamesStand ds t → Stands (typename_called ds) t
  named-stands t e s =
      let is = named-is t e in
      let stands : NamesStand ds (Tree.named is.0 is.1 is.2) = subst (NamesStand ds) is.3 s in
      subst (Stands (typename_called ds)) (sym is.3) (record { for = stands.0; is = stands.1; one = (unbroken-name ds doc.unbroken is.0 stands.0 stands.1).0 })

  text-unbroken : (t : Tree) → is_named t ≡ true → NamesStand ds t → no_blank (type_text t) ≡ true
  text-unbroken t e s =
      let is = named-is t e in
      let stands : NamesStand ds (Tree.named is.0 is.1 is.2) = subst (NamesStand ds) is.3 s in
      ap (λ t. no_blank (type_text t)) is.3 ∙ (unbroken-name ds doc.unbroken is.0 stands.0 stands.1).1

  name-stands : (t : Tree) → NamesStand ds t → NameStands (known_of ds f) t
  name-stands (Tree.named n t d) s = named-stands (Tree.named n t d) refl s
  name-stands (Tree.builtin b) s = tt
  name-stands Tree.handle s = tt
  name-stands (Tree.list_of t) s = tt
  name-stands (Tree.pointer_to t) s = tt
  name-stands (Tree.const_pointer_to t) s = tt
  name-stands (Tree.record_of k ms) s = tt
  name-stands (Tree.variant_of r cs) s = tt

  held-stands : (x : Tree) → NamesStand ds x → Among x (held_types f) → Stands (shown_in (known_of ds f)) x
  held-stands x s a =
      let h = or-found (typename_called ds) (first_shown (held_types f)) x (typename_called ds (type_text x)) refl (first-among x (held_types f) a) in
      record { for = h.for; is = h.is; one = type-one ds doc.unbroken x s }

  payload-stands : (o : Option Tree) → OptionStands ds o → ((x : Tree) → o ≡ Some x → Among x (payload_types f)) → PayloadStands (known_of ds f) o
  payload-stands None s a = tt
  payload-stands (Some x) s a =
      let h = or-first (first_shown (payload_types f)) (shown_in (known_of ds f)) x (first-among x (payload_types f) (a x refl)) in
      record { for = h.for; is = h.is; one = type-one ds doc.unbroken x s }

  readable : (t : Tree) → NamesStand ds t → ((x : Tree) → Among x (target t) → Among x (held_types f)) → Readable (known_of ds f) t
  readable t s held =
      (name-stands t s, all-among (Stands (shown_in (known_of ds f))) (target t) (λ x a. held-stands x (target-stands ds t x (behind-stands ds doc.behind-stand t s) a) (held x a)))

  err-reads : (o : Option Tree) → OptionStands ds o → ((t : Tree) → o ≡ Some t → (x : Tree) → Among x (target t) → Among x (held_types f)) → ErrReads (known_of ds f) o
  err-reads None s held = tt
  err-reads (Some t) s held = readable t s (held t refl)

  -- where a type that the function holds stands among all of them
  param-held : (x : Tree) → Among x (flat_map target f.params) → Among x (held_types f)
  param-held x a =
      among-left x (flat_map target f.params ++ flat_map target f.results ++ flat_map target (flat_map err_types f.results)) (payload_types f)
      (among-left x (flat_map target f.params ++ flat_map target f.results) (flat_map target (flat_map err_types f.results))
      (among-left x (flat_map target f.params) (flat_map target f.results) a))

  result-held : (x : Tree) → Among x (flat_map target f.results) → Among x (held_types f)
  result-held x a =
      among-left x (flat_map target f.params ++ flat_map target f.results ++ flat_map target (flat_map err_types f.results)) (payload_types f)
      (among-left x (flat_map target f.params ++ flat_map target f.results) (flat_map target (flat_map err_types f.results))
      (among-right x (flat_map target f.params) (flat_map target f.results) a))

  err-held : (x : Tree) → Among x (flat_map target (flat_map err_types f.results)) → Among x (held_types f)
  err-held x a =
      among-left x (flat_map target f.params ++ flat_map target f.results ++ flat_map target (flat_map err_types f.results)) (payload_types f)
      (among-right x (flat_map target f.params ++ flat_map target f.results) (flat_map target (flat_map err_types f.results)) a)

  params-read : AllByRecursion (NamesStand ds) f.params → AllByRecursion (Readable (known_of ds f)) f.params
  params-read s =
      all-among (Readable (known_of ds f)) f.params
      (λ t a. readable t (among-all (NamesStand ds) t f.params s a) (λ x b. param-held x (among-flat target x t f.params b a)))

  -- ---- the ok type

  names-stand : (ts : List Tree) → all_names ts ≡ true → AllByRecursion (NamesStand ds) ts → AllStand (known_of ds f) ts
  names-stand [] e s = tt
  names-stand (t ∷ ts) e s = let b = both-true (is_named t) (all_names ts) e in (named-stands t b.0 s.0, names-stand ts b.1 s.1)

  pointers-by-tuple : (t : Tree) (q : Option (List Tree)) → tuple_types t ≡ q → NamesStand ds t → can_be_ok (Some t) ≡ true → AllStand (known_of ds f) (ok_pointers (Some t))
  pointers-by-tuple t None e s h = subst (AllStand (known_of ds f)) (sym (ok-single t e)) (named-stands t (ok-named t e h) s, tt)
  pointers-by-tuple t (Some ts) e s h = subst (AllStand (known_of ds f)) (sym (ok-tuple t ts e)) (names-stand ts (ok-members t ts e h) (tuple-stands ds t ts (behind-stands ds doc.behind-stand t s) e))

  ok-pointers-stand : (o : Option Tree) → OptionStands ds o → can_be_ok o ≡ true → AllStand (known_of ds f) (ok_pointers o)
  ok-pointers-stand None s h = tt
  ok-pointers-stand (Some t) s h = pointers-by-tuple t (tuple_types t) refl s h

  each-unbroken : (ms : Fields) → all_names (member_types ms) ≡ true → FieldNamesStand ds ms → EachNoBlank (member_texts ms)
  each-unbroken Fields.no_fields e s = tt
  each-unbroken (Fields.field n t d ms) e s = let b = both-true (is_named t) (all_names (member_types ms)) e in (text-unbroken t b.0 s.0, each-unbroken ms b.1 s.1)

  ok-ends : (o : Option Tree) → OptionStands ds o → can_be_ok o ≡ true → EndsBeforeError o
  ok-ends None s h = tt
  ok-ends (Some (Tree.named n t d)) s h = name-ends n (unbroken-name ds doc.unbroken n s.0 s.1).1
  ok-ends (Some (Tree.builtin b)) s h = absurd (cc)
  ok-ends (Some Tree.handle) s h = absurd (cc)
  ok-ends (Some (Tree.list_of t)) s h = absurd (cc)
  ok-ends (Some (Tree.pointer_to t)) s h = absurd (cc)
  ok-ends (Some (Tree.const_pointer_to t)) s h = absurd (cc)
  ok-ends (Some (Tree.record_of RecordKind.Tuple ms)) s h = tuple-ends (member_texts ms) (each-unbroken ms (ok-members (Tree.record_of RecordKind.Tuple ms) (member_types ms) refl h) s)
  ok-ends (Some (Tree.record_of (RecordKind.Bitflags r) ms)) s h = absurd (cc)
  ok-ends (Some (Tree.record_of RecordKind.Other ms)) s h = absurd (cc)
  ok-ends (Some (Tree.variant_of r cs)) s h = absurd (cc)

  -- ---- a result with cases

  payloads-tell : (t : Tree) (cs : Arms) → f.results ≡ t ∷ [] → NamesStand ds t → can_be_result Abi.Preview1 t ≡ true → result_cases t ≡ Some cs → PayloadsTell (known_of ds f) (ok_of cs) (err_of cs)
  payloads-tell t cs e s h c =
      let stand = cases-stand ds t cs (behind-stands ds doc.behind-stand t s) c in
      let among : Among t f.results = subst (Among t) (sym e) (inl refl) in
      record {
        pointers = ok-pointers-stand (ok_of cs) (ok-stands ds cs stand) (result-ok t cs h c);
        can = result-err t cs h c;
        reads = err-reads (err_of cs) (err-stands ds cs stand) (λ u o x a. err-held x (among-flat target x u (flat_map err_types f.results) a (among-flat err_types u t f.results (err-among t cs u c o) among)));
        ok-stands = payload-stands (ok_of cs) (ok-stands ds cs stand) (λ x o. among-flat (λ v. ok_types v ++ err_types v) x t f.results (among-left x (ok_types t) (err_types t) (ok-among t cs x c o)) among);
        err-stands = payload-stands (err_of cs) (err-stands ds cs stand) (λ x o. among-flat (λ v. ok_types v ++ err_types v) x t f.results (among-right x (ok_types t) (err_types t) (err-among t cs x c o)) among);
        ends = ok-ends (ok_of cs) (ok-stands ds cs stand) (result-ok t cs h c);
      }

  -- ---- results

  record CasesTell (t : Tree) (o : Option Arms) (k : ℕ) : Type 0 where
    pointers : AllStand (known_of ds f) (pointers_by o ++ [])
    lift : Tells (known_of ds f) (lift_by o t)
    lower : Tells (known_of ds f) (lower_by o k t)

  cases-tell : (t : Tree) (o : Option Arms) (k : ℕ) → result_cases t ≡ o → f.results ≡ t ∷ [] → NamesStand ds t → can_be_result Abi.Preview1 t ≡ true → IsWord (k + length (pointers_by o ++ [])) → CasesTell t o k
  cases-tell t None k c e s h w =
      let among : Among t f.results = subst (Among t) (sym e) (inl refl) in
      let both = step-tells (known_of ds f) t (word-param t h c) (readable t s (λ x a. result-held x (among-flat target x t f.results a among))) in
      record { pointers = tt; lift = both.0; lower = both.1 }
  cases-tell t (Some cs) k c e s h w =
      let tell = payloads-tell t cs e s h c in
      let same = append-nil (ok_pointers (ok_of cs)) in
      let all : IsWord (k + length (ok_pointers (ok_of cs))) = subst (λ z. IsWord (k + length z)) same w in
      record {
        pointers = subst (AllStand (known_of ds f)) (sym same) tell.pointers;
        lift = lift-cases-tell (known_of ds f) (ok_of cs) (err_of cs) (fewer k (length (ok_pointers (ok_of cs))) all) tell;
        lower = lower-cases-tell (known_of ds f) (ok_of cs) (err_of cs) k all tell;
      }

  one-back : (o : Option WasmType) → length (before_rest o []) ≤ 1
  one-back None = omega arith
  one-back (Some w) = omega arith

  results-tell : (abi : Abi) (ts : List Tree) (k : ℕ) → f.results ≡ ts → AllByRecursion (NamesStand ds) ts → unlowerable_result abi ts ≡ None → IsWord (k + length (pointers_under abi ts)) → ResultsTell (known_of ds f) abi ts k
  results-tell Abi.Preview1 [] k e s h w = record { pointers = tt; lift = tt; lower = tt; few = omega arith; back = omega arith }
  results-tell Abi.Preview1 (t ∷ []) k e s h w =
      let c = cases-tell t (result_cases t) k refl e s.0 (can-back (can_be_result Abi.Preview1 t) h) w in
      record { pointers = c.pointers; lift = c.lift; lower = c.lower; few = omega arith; back = one-back (result_word (plain t)) }
  results-tell Abi.Preview1 (t ∷ u ∷ ts) k e s h w = absurd (cc)
  results-tell Abi.Stored [] k e s h w = record { pointers = tt; lift = tt; lower = tt; few = omega arith; back = omega arith }
  results-tell Abi.Stored (t ∷ []) k e s h w =
      let stand = named-stands t (can-back (can_be_result Abi.Stored t) h) s.0 in
      record {
        pointers = (stand, tt);
        lift = load-all-tells (known_of ds f) 0 (t ∷ []) (one-is-word) (stand, tt);
        lower = store-all-tells (known_of ds f) k (t ∷ []) w (stand, tt);
        few = omega arith;
        back = omega arith;
      }
  results-tell Abi.Stored (t ∷ u ∷ ts) k e s h w = absurd (cc)

  -- ---- the function

  record FunctionIn (m : List ℕ) : Type 0 where
    params : AllByRecursion (NamesStand ds) f.params
    results : AllByRecursion (NamesStand ds) f.results
    can : unlowerable f ≡ None
    words : IsWord (length (signature_params f))
    owner : IsUtf8 m
    name : IsUtf8 f.name

  sides-tell : (m : List ℕ) → FunctionIn m → SidesTell (known_of ds f) m f
  sides-tell m h =
      let none = none-first (position (λ t. not (can_be_param t)) f.params) (unlowerable_result f.abi f.results) h.can in
      let count = length-append (words_of_params f.params) (map (λ t. WasmType.I32) (return_pointers f)) ∙ ap (λ n. length (words_of_params f.params) + n) (length-map (return_pointers f) (λ t. WasmType.I32)) in
      let words : IsWord (length (words_of_params f.params) + length (return_pointers f)) = subst IsWord count h.words in
      record {
        can = all-can 0 f.params (sym (position_from-zero (λ t. not (can_be_param t)) f.params) ∙ none.0);
        params = params-read h.params;
        results = results-tell f.abi f.results (length (words_of_params f.params)) refl h.results none.1 words;
        words = words;
        owner = h.owner;
        name = h.name;
        takes = refl;
        gives = refl;
      }

-- ---- the functions of a document

pub record OwnedIn (ds : List DefinitionTree) (p : Owned) : Type 0 where
  pub params : AllByRecursion (NamesStand ds) (function_of p.func).params
  pub results : AllByRecursion (NamesStand ds) (function_of p.func).results
  pub words : IsWord (length (signature_params (function_of p.func)))
  pub owner : IsUtf8 p.owner.name
  pub name : IsUtf8 p.func.name

abbrev pub AllIn : List DefinitionTree → List Owned → Type 0
AllIn ds ps = AllByRecursion (OwnedIn ds) ps

all-both : (ds : List DefinitionTree) (ps qs : List Owned) → AllIn ds ps → AllIn ds qs → AllIn ds (ps ++ qs)
all-both ds [] qs g h = h
all-both ds (p ∷ ps) qs g h = (g.0, all-both ds ps qs g.1 h)

items-in : (m : ModuleTree) (before rest : List DefinitionTree) (items : List ItemTree) → IsUtf8 m.name → ItemNamesStand before items → ItemsAreHeld items → AllIn (before ++ rest) (flat_map (owned_item m) items)
items-in m before rest [] u s h = tt
items-in m before rest (import_of i ∷ items) u s h = items-in m before rest items u s h
items-in m before rest (func_of f ∷ items) u s h = (
  record { params = params-still-stand before rest f.params s.0; results = params-still-stand before rest f.results s.1; words = h.1; owner = u; name = h.0 },
  items-in m before rest items u s.2 h.2,
)

definition-in : (before rest : List DefinitionTree) (d : DefinitionTree) (ds : List DefinitionTree) → AllNamesStand before d → AreTypesHeld (d ∷ ds) → AllIn (before ++ rest) (owned_functions d) × AreTypesHeld ds
definition-in before rest (typename_of n t docs) ds s h = (tt, h)
definition-in before rest (module_of m) ds s h = (items-in m before rest m.items h.0 s h.1, h.2)
definition-in before rest (constant_of c) ds s h = (tt, h)

functions-in : (before ds all : List DefinitionTree) → ClosedAfter before ds → AreTypesHeld ds → before ++ ds ≡ all → AllIn all (all_functions ds)
functions-in before [] all c h e = tt
functions-in before (d ∷ ds) all c h e =
    let here = definition-in before (d ∷ ds) d ds c.0 h in
    all-both all (owned_functions d) (all_functions ds) (subst (λ z. AllIn z (owned_functions d)) e here.0) (functions-in (before ++ d ∷ []) ds all c.1 here.1 (append_assoc before (d ∷ []) ds ∙ e))

pub all-in : (ds : List DefinitionTree) → IsClosed ds → AreTypesHeld ds → AllIn ds (all_functions ds)
all-in ds c h = functions-in [] ds ds c h refl

pub owned-tells : (ds : List DefinitionTree) → Document ds → (p : Owned) → OwnedIn ds p → unlowerable (function_of p.func) ≡ None → SidesTell (known_of ds (function_of p.func)) p.owner.name (function_of p.func)
owned-tells ds doc p h e = sides-tell ds doc (function_of p.func) p.owner.name (record { params = h.params; results = h.results; can = e; words = h.words; owner = h.owner; name = h.name })
