-- What two alike types have in common: whatever is read off their plain trees.
use Rattle.std.proofs.Common.{◌≡◌, Bool, true, false, cond, refl, sym, ap, ◌∙◌, Option, Some, None, option_map, List, [], ◌∷◌, map}
use Rattle.witx_ast.specs.declared.function.Abi.{Abi}
use Rattle.witx_ast.specs.declared.types.RecordKind.{RecordKind}
use Rattle.witx_ast.specs.Tree.{Tree}
use Rattle.witx_ast.specs.Tree.{Fields as TreeFields, Arms as TreeArms}
use Rattle.witx_ast.specs.Plain.{Plain, Fields, Arms, plain, plain_fields, plain_arms}
use Rattle.witx_machine.specs.Functions.{has_payload, tuple_types, is_tuple, member_types, ok_of, err_of, result_cases}
use Rattle.witx_machine.specs.Shims.{Alike}
use Rattle.witx_machine.specs.Signature.{before_rest, result_word, words_of_results, words_back, or_alone, pointers_at}

pub alike_self : (ts : List Tree) → Alike ts ts
alike_self [] = tt
alike_self (t ∷ ts) = (refl, alike_self ts)

pub alike_back : (ts us : List Tree) → Alike ts us → Alike us ts
alike_back [] [] h = tt
alike_back (t ∷ ts) (u ∷ us) h = (sym h.0, alike_back ts us h.1)
alike_back [] (u ∷ us) h = absurd h
alike_back (t ∷ ts) [] h = absurd h

abbrev pub AlikeOption : Option Tree → Option Tree → Type 0
AlikeOption None None = Unit {0}
AlikeOption (Some t) (Some u) = plain t ≡ plain u
AlikeOption None (Some u) = ⊥
AlikeOption (Some t) None = ⊥

pub alike_option_self : (o : Option Tree) → AlikeOption o o
alike_option_self None = tt
alike_option_self (Some t) = refl

pub alike_option : (o p : Option Tree) → option_map plain o ≡ option_map plain p → AlikeOption o p
alike_option None None e = tt
alike_option (Some t) (Some u) e = ap (or_else (plain t)) e
  where
    or_else : Plain → Option Plain → Plain
    or_else d None = d
    or_else d (Some p) = p
alike_option None (Some u) e = absurd (clash e)
  where
    clash : None ≡ Some (plain u) → ⊥
    clash e = cc
alike_option (Some t) None e = absurd (clash e)
  where
    clash : Some (plain t) ≡ None → ⊥
    clash e = cc

-- lists of equal plain trees
alike_list : (ts us : List Tree) → map plain ts ≡ map plain us → Alike ts us
alike_list [] [] e = tt
alike_list (t ∷ ts) (u ∷ us) e = (ap (first_or (plain t)) e, alike_list ts us (ap rest_of e))
  where
    first_or : Plain → List Plain → Plain
    first_or d [] = d
    first_or d (p ∷ ps) = p

    rest_of : List Plain → List Plain
    rest_of [] = []
    rest_of (p ∷ ps) = ps
alike_list [] (u ∷ us) e = absurd (clash e)
  where
    clash : [] ≡ plain u ∷ map plain us → ⊥
    clash e = cc
alike_list (t ∷ ts) [] e = absurd (clash e)
  where
    clash : plain t ∷ map plain ts ≡ [] → ⊥
    clash e = cc

-- a tuple
tuple_in : Plain → Bool
tuple_in (Plain.record_of RecordKind.Tuple ms) = true
tuple_in _ = false

tuple_is : (t : Tree) → is_tuple t ≡ tuple_in (plain t)
unfolding tuple_in
tuple_is (Tree.named n t d) = tuple_is t
tuple_is (Tree.builtin b) = refl
tuple_is Tree.handle = refl
tuple_is (Tree.list_of t) = refl
tuple_is (Tree.pointer_to t) = refl
tuple_is (Tree.const_pointer_to t) = refl
tuple_is (Tree.record_of (RecordKind.Bitflags r) ms) = refl
tuple_is (Tree.record_of RecordKind.Tuple ms) = refl
tuple_is (Tree.record_of RecordKind.Other ms) = refl
tuple_is (Tree.variant_of r cs) = refl

pub alike_tuple : (t u : Tree) → plain t ≡ plain u → is_tuple t ≡ is_tuple u
alike_tuple t u e = tuple_is t ∙ ap tuple_in e ∙ sym (tuple_is u)

-- return pointers of an ok type
members_in : Fields → List Plain
members_in Fields.no_fields = []
members_in (Fields.field n t ms) = t ∷ members_in ms

pointers_in : Plain → Plain → List Plain
pointers_in whole (Plain.record_of RecordKind.Tuple ms) = members_in ms
pointers_in whole _ = whole ∷ []

members_are : (ms : TreeFields) → map plain (member_types ms) ≡ members_in (plain_fields ms)
unfolding members_in
members_are TreeFields.no_fields = refl
members_are (TreeFields.field n t d ms) = ap (λ ps. plain t ∷ ps) (members_are ms)

pointers_are : (whole t : Tree) → map plain (or_alone whole (tuple_types t)) ≡ pointers_in (plain whole) (plain t)
unfolding pointers_in
pointers_are whole (Tree.named n t d) = pointers_are whole t
pointers_are whole (Tree.builtin b) = refl
pointers_are whole Tree.handle = refl
pointers_are whole (Tree.list_of t) = refl
pointers_are whole (Tree.pointer_to t) = refl
pointers_are whole (Tree.const_pointer_to t) = refl
pointers_are whole (Tree.record_of (RecordKind.Bitflags r) ms) = refl
pointers_are whole (Tree.record_of RecordKind.Tuple ms) = members_are ms
pointers_are whole (Tree.record_of RecordKind.Other ms) = refl
pointers_are whole (Tree.variant_of r cs) = refl

pub alike_pointers : (t u : Tree) → plain t ≡ plain u → Alike (pointers_at t) (pointers_at u)
alike_pointers t u e = alike_list _ _ (pointers_are t t ∙ ap (λ p. pointers_in p p) e ∙ sym (pointers_are u u))

-- the cases of a result
cases_in : Plain → Option Arms
cases_in (Plain.variant_of r cs) = cond (has_payload cs) (Some cs) None
cases_in _ = None

cases_are_in : (t : Tree) → option_map plain_arms (result_cases t) ≡ cases_in (plain t)
unfolding cases_in
cases_are_in (Tree.named n t d) = cases_are_in t
cases_are_in (Tree.builtin b) = refl
cases_are_in Tree.handle = refl
cases_are_in (Tree.list_of t) = refl
cases_are_in (Tree.pointer_to t) = refl
cases_are_in (Tree.const_pointer_to t) = refl
cases_are_in (Tree.record_of (RecordKind.Bitflags r) ms) = refl
cases_are_in (Tree.record_of RecordKind.Tuple ms) = refl
cases_are_in (Tree.record_of RecordKind.Other ms) = refl
cases_are_in (Tree.variant_of r cs) = go (has_payload (plain_arms cs))
  where
    go : (b : Bool) → option_map plain_arms (cond b (Some cs) None) ≡ cond b (Some (plain_arms cs)) None
    go true = refl
    go false = refl

pub alike_cases : (t u : Tree) → plain t ≡ plain u → option_map plain_arms (result_cases t) ≡ option_map plain_arms (result_cases u)
alike_cases t u e = cases_are_in t ∙ ap cases_in e ∙ sym (cases_are_in u)

ok_in : Arms → Option Plain
ok_in Arms.no_arms = None
ok_in (Arms.bare n cs) = None
ok_in (Arms.carries n t cs) = Some t

err_in : Arms → Option Plain
err_in Arms.no_arms = None
err_in (Arms.bare n cs) = ok_in cs
err_in (Arms.carries n t cs) = ok_in cs

ok_is : (cs : TreeArms) → option_map plain (ok_of cs) ≡ ok_in (plain_arms cs)
unfolding ok_in
ok_is TreeArms.no_arms = refl
ok_is (TreeArms.bare n d cs) = refl
ok_is (TreeArms.carries n t d cs) = refl

err_is : (cs : TreeArms) → option_map plain (err_of cs) ≡ err_in (plain_arms cs)
unfolding err_in
err_is TreeArms.no_arms = refl
err_is (TreeArms.bare n d cs) = ok_is cs
err_is (TreeArms.carries n t d cs) = ok_is cs

pub alike_ok : (cs ds : TreeArms) → plain_arms cs ≡ plain_arms ds → AlikeOption (ok_of cs) (ok_of ds)
alike_ok cs ds e = alike_option _ _ (ok_is cs ∙ ap ok_in e ∙ sym (ok_is ds))

pub alike_err : (cs ds : TreeArms) → plain_arms cs ≡ plain_arms ds → AlikeOption (err_of cs) (err_of ds)
alike_err cs ds e = alike_option _ _ (err_is cs ∙ ap err_in e ∙ sym (err_is ds))

-- the words that come back
alike_words : (ts us : List Tree) → Alike ts us → words_of_results ts ≡ words_of_results us
alike_words [] [] h = refl
alike_words (t ∷ ts) (u ∷ us) h = ap (λ p. before_rest (result_word p) (words_of_results ts)) h.0 ∙ ap (before_rest (result_word (plain u))) (alike_words ts us h.1)
alike_words [] (u ∷ us) h = absurd h
alike_words (t ∷ ts) [] h = absurd h

pub alike_words_back : (abi : Abi) (ts us : List Tree) → Alike ts us → words_back abi ts ≡ words_back abi us
alike_words_back Abi.Preview1 ts us h = alike_words ts us h
alike_words_back Abi.Stored ts us h = refl
