-- `names-by-position`: what a validator keeps says of each name what the positions of the declarations say.
use Rattle.std.specs.Prelude.{◌≡◌, ℕ, List, [], ◌∷◌, ◌++◌, Option, Some, None, cond, Bool, true, false, option_map}
use Rattle.std.proofs.Common.{refl, sym, ap, ◌∙◌}
use Rattle.witx_base.specs.Found.{found}
use Rattle.witx_files.specs.declared.location.Location.{Location}
use Rattle.witx_syntax_tree.specs.Trees.{Name}
use Rattle.witx_ast.specs.declared.definition.Entry.{Entry}
use Rattle.witx_ast.specs.declared.definition.Entry.TheVariants as entry
use Rattle.witx_scope.specs.Names.{Names, Sense, unfinished}
use Rattle.witx_scope.specs.Senses.{kept_sense, sense_at, entry_sense}
use Rattle.witx_scope.specs.Inside.{within}
use Rattle.witx_scope.specs.Positions.{TakenName, DeclarationOutcome, refused, made_type, made_module, introducer, is_same_name, denotes, denotes_before, sense_after, sense_from, after}
use Rattle.witx_scope.specs.Kept.{Keeps, KeepsNames, finished_sense, entry_sense_of, finished}
use Rattle.witx_scope.specs.Declarations.{nothing_before}
use Rattle.witx_check.specs.Validators.{nothing_kept}
use Rattle.witx_scope.proofs.Steps.{funext}

abbrev pub taken_place : Option TakenName → Option Location
taken_place o = option_map (λ t. t.place) o

entry-of : (o : DeclarationOutcome) (e : Option Entry) → entry_sense_of e ≡ finished o → entry_sense e ≡ sense_from o
entry-of refused None h = refl
entry-of refused (Some (entry.Typename n)) h = absurd (cc)
entry-of refused (Some (entry.Module m)) h = absurd (cc)
entry-of (made_type t) None h = absurd (cc)
entry-of (made_type t) (Some (entry.Typename n)) h = cc
entry-of (made_type t) (Some (entry.Module m)) h = absurd (cc)
entry-of made_module None h = absurd (cc)
entry-of made_module (Some (entry.Typename n)) h = absurd (cc)
entry-of made_module (Some (entry.Module m)) h = refl

none-entry : (e : Option Entry) → entry_sense_of e ≡ None → entry_sense e ≡ unfinished
none-entry None h = refl
none-entry (Some (entry.Typename n)) h = absurd (cc)
none-entry (Some (entry.Module m)) h = absurd (cc)

plain-sense : (t : Option TakenName) (l : Option Location) (e : Option Entry)
    → l ≡ taken_place t → entry_sense_of e ≡ finished_sense t → sense_at l e ≡ sense_after t false
plain-sense None l e a b = rw a refl
plain-sense (Some t) l e a b = rw a (entry-of t.outcome e b)

one-sense : (t : Option TakenName) (own : Bool) (p : Location) (l : Option Location) (e : Option Entry)
    → l ≡ taken_place t → entry_sense_of e ≡ finished_sense t → sense_at (cond own (Some p) l) e ≡ sense_after t own
one-sense None true p l e a b = none-entry e b
one-sense None false p l e a b = plain-sense None l e a b
one-sense (Some t) true p l e a b = entry-of t.outcome e b
one-sense (Some t) false p l e a b = plain-sense (Some t) l e a b

-- inside the next declaration each name denotes what the positions say
pub names-by-position : (names : Names) (es : List (List ℕ × Entry)) (past : List TakenName) (own : List ℕ) (p : Location)
    → KeepsNames names es past → kept_sense ((own, p) ∷ names) es ≡ denotes past own
names-by-position names es past own p k =
    funext (λ q. one-sense (introducer past q) (is_same_name q own) p (found names q) (found es q) (k.places q) (k.senses q))

-- and so it does inside one that introduces no name
pub sense-by-position : (names : Names) (es : List (List ℕ × Entry)) (past : List TakenName) (q : List ℕ)
    → KeepsNames names es past → kept_sense names es q ≡ denotes_before past q
sense-by-position names es past q k = plain-sense (introducer past q) (found names q) (found es q) (k.places q) (k.senses q)

-- one declaration more
abbrev first_or : Option TakenName → Option TakenName → Option TakenName
first_or None b = b
first_or (Some a) b = Some a

more-by : (c : Bool) (s : TakenName) (a b t : Option TakenName) → b ≡ first_or a t → cond c (Some s) b ≡ first_or (cond c (Some s) a) t
more-by true s a b t e = refl
more-by false s a b t e = e

introducer-more : (past : List TakenName) (t : TakenName) (q : List ℕ) → introducer (past ++ t ∷ []) q ≡ first_or (introducer past q) (cond (is_same_name q t.name) (Some t) None)
introducer-more [] t q = refl
introducer-more (s ∷ past) t q = more-by (is_same_name q s.name) s (introducer past q) (introducer (past ++ t ∷ []) q) (cond (is_same_name q t.name) (Some t) None) (introducer-more past t q)

place-step : (a : Option TakenName) (c : Bool) (t : TakenName) (old : Option Location) → old ≡ taken_place a → (c ≡ true → old ≡ None)
    → cond c (Some t.place) old ≡ taken_place (first_or a (cond c (Some t) None))
place-step None true t old e f = refl
place-step None false t old e f = e
place-step (Some s) true t old e f = absurd (let g = f refl in cc)
place-step (Some s) false t old e f = e

entry-step : (a : Option TakenName) (c : Bool) (t : TakenName) (p : Option Location) (old : Option Sense) → p ≡ taken_place a → old ≡ finished_sense a → (c ≡ true → p ≡ None)
    → cond c (finished t.outcome) old ≡ finished_sense (first_or a (cond c (Some t) None))
entry-step None true t p old d e f = refl
entry-step None false t p old d e f = e
entry-step (Some s) true t p old d e f = absurd (let g = f refl in cc)
entry-step (Some s) false t p old d e f = e

-- a new name is taken in, with what came of its declaration
pub keeps-more : (names new : Names) (es es2 : List (List ℕ × Entry)) (past : List TakenName) (t : TakenName)
    → KeepsNames names es past
    → ((q : List ℕ) → is_same_name q t.name ≡ true → found names q ≡ None)
    → ((q : List ℕ) → found new q ≡ found ((t.name, t.place) ∷ names) q)
    → ((q : List ℕ) → entry_sense_of (found es2 q) ≡ cond (is_same_name q t.name) (finished t.outcome) (entry_sense_of (found es q)))
    → KeepsNames new es2 (past ++ t ∷ [])
keeps-more names new es es2 past t k f a b = record {
  places = λ q. a q ∙ (place-step (introducer past q) (is_same_name q t.name) t (found names q) (k.places q) (f q) ∙ sym (ap taken_place (introducer-more past t q)));
  senses = λ q. b q ∙ (entry-step (introducer past q) (is_same_name q t.name) t (found names q) (entry_sense_of (found es q)) (k.places q) (k.senses q) (f q) ∙ sym (ap finished_sense (introducer-more past t q)));
}

same-step : (a : Option TakenName) (c : Bool) (t : TakenName) → (c ≡ true → a ≡ None → ⊥) → first_or a (cond c (Some t) None) ≡ a
same-step None true t f = absurd (f refl refl)
same-step None false t f = refl
same-step (Some s) c t f = refl

-- a name that stands already: the declaration changes nothing, whatever came of it
pub keeps-same : (names : Names) (es : List (List ℕ × Entry)) (past : List TakenName) (t : TakenName)
    → KeepsNames names es past
    → ((q : List ℕ) → is_same_name q t.name ≡ true → introducer past q ≡ None → ⊥)
    → KeepsNames names es (past ++ t ∷ [])
keeps-same names es past t k f = record {
  places = λ q. k.places q ∙ sym (ap taken_place (introducer-more past t q ∙ same-step (introducer past q) (is_same_name q t.name) t (f q)));
  senses = λ q. k.senses q ∙ sym (ap finished_sense (introducer-more past t q ∙ same-step (introducer past q) (is_same_name q t.name) t (f q)));
}

pub within-by-position : (names : Names) (es : List (List ℕ × Entry)) (past : List TakenName) (place : ℕ → Location) (n : Name)
    → KeepsNames names es past → within names es place n ≡ after past place n
unfolding within
within-by-position names es past place n k = ap (λ (f : List ℕ → Sense). record { sense = f; place = place }) (names-by-position names es past n.name (place n.start) k)

pub ruleset position_rules = (names-by-position, within-by-position)

pub keeps-nothing : Keeps nothing_kept nothing_before
keeps-nothing = record { introduced = record { places = λ q. refl; senses = λ q. refl }; constants = λ t q. refl }

pub ruleset start_rules = (keeps-nothing)
