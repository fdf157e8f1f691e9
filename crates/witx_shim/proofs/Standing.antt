-- Where functions are fully compatible and the names of their parameters are distinct, the new function stands in for the old one in the order of names.
use Rattle.std.specs.Prelude.{◌≡◌, ℕ, suc, ◌+◌, List, [], ◌∷◌, ◌++◌, map, Option, Some, None, Bool, true, false, cond, is_some, position, slice_get, option_map}
use Rattle.std.specs.List.{concat, list_any, list_all, position_from}
use Rattle.std.proofs.Common.{refl, sym, ◌∙◌, ap, add-one}
use Rattle.std.proofs.lemmas.Iterator.Adapters.{position_from-zero}
use Rattle.std.proofs.lemmas.List.{append_assoc, map-append}
use Rattle.std.proofs.lemmas.Option.{none-some}
use Rattle.witx_ast.specs.Tree.{Tree, Field}
use Rattle.witx_ast.specs.Plain.{plain}
use Rattle.witx_base.specs.SameBytes.{same_bytes, bytes-self, false-true}
use Rattle.witx_compat.specs.Conversions.{is_compatible}
use Rattle.witx_compat.specs.Polyfills.{first_called, prefer, mapped_params}
use Rattle.witx_machine.specs.Run.{numbers, picked_in_order}
use Rattle.witx_machine.specs.Shims.{Alike, order_by_name, word_numbers}
use Rattle.witx_shim.specs.Numbers.{width, numbers_called, all_handed, or_none}
use Rattle.witx_shim.specs.Refusals.{repeated_after, repeated_param}
use Rattle.witx_shim.proofs.Compared.{Each, first-named, named-compatible, param-alike, some-same, trees}

-- ---- a place behind the first

shift : {A : Type 0} (p : A → Bool) (j : ℕ) (xs : List A) → position_from p (j + 1) xs ≡ option_map (λ i. suc i) (position_from p j xs)
shift p j [] = refl
shift p j (x ∷ xs) = by (p x) (shift p (j + 1) xs)
  where
    by : (b : Bool) → position_from p (j + 1 + 1) xs ≡ option_map (λ i. suc i) (position_from p (j + 1) xs)
        → cond b (Some (j + 1)) (position_from p (j + 1 + 1) xs) ≡ option_map (λ i. suc i) (cond b (Some j) (position_from p (j + 1) xs))
    by true more = ap (λ i. Some i) (add-one j)
    by false more = more

position-cons : {A : Type 0} (p : A → Bool) (x : A) (xs : List A) → position p (x ∷ xs) ≡ cond (p x) (Some 0) (option_map (λ i. suc i) (position p xs))
position-cons p x xs =
    position_from-zero p (x ∷ xs) ∙ ap (cond (p x) (Some 0)) (shift p 0 xs ∙ ap (option_map (λ i. suc i)) (sym (position_from-zero p xs)))

-- ---- the place of a name, with what stands there

pub record Placed (name : List ℕ) (w : ℕ) (fs : List Field) (f : Field) : Type 0 where
  pub number : ℕ
  pub at : position (λ q. same_bytes q.called name) fs ≡ Some number
  pub type : slice_get (trees fs) number ≡ Some f.tree
  pub words : List ℕ
  pub there : slice_get (word_numbers w (trees fs)) number ≡ Some words
  pub called : numbers_called name w fs ≡ Some words

placed : (name : List ℕ) (w : ℕ) (fs : List Field) (f : Field) → first_called name fs ≡ Some f → Placed name w fs f
placed name w [] f h = absurd (none-some f h)
placed name w (g ∷ gs) f h = by (same_bytes g.called name) refl (λ k. placed name (w + width g) gs f k) h
  where
    by : (b : Bool) → same_bytes g.called name ≡ b → (first_called name gs ≡ Some f → Placed name (w + width g) gs f) → prefer b g (first_called name gs) ≡ Some f → Placed name w (g ∷ gs) f
    by true e more k = record {
      number = 0;
      at = position-cons (λ q. same_bytes q.called name) g gs ∙ ap (λ c. cond c (Some 0) (option_map (λ i. suc i) (position (λ q. same_bytes q.called name) gs))) e;
      type = ap (λ x. Some x.tree) (some-same g f k);
      words = numbers w (width g);
      there = refl;
      called = ap (λ c. cond c (Some (numbers w (width g))) (numbers_called name (w + width g) gs)) e;
    }
    by false e more k =
        let r = more k in record {
          number = suc r.number;
          at = position-cons (λ q. same_bytes q.called name) g gs ∙ ap (λ c. cond c (Some 0) (option_map (λ i. suc i) (position (λ q. same_bytes q.called name) gs))) e ∙ ap (option_map (λ i. suc i)) r.at;
          type = r.type;
          words = r.words;
          there = r.there;
          called = ap (λ c. cond c (Some (numbers w (width g))) (numbers_called name (w + width g) gs)) e ∙ r.called;
        }

-- ---- a new parameter, and the old one of its name

pub record Served (old : List Field) (p : Field) : Type 0 where
  pub by : Field
  pub first : first_called p.called old ≡ Some by
  pub alike : plain by.tree ≡ plain p.tree

-- distinct names: a parameter is the first of its name
not-first : (q : List ℕ) (before after : List Field) → list_any (λ b. same_bytes b q) (map (λ p. p.called) before) ≡ false → first_called q (before ++ after) ≡ first_called q after
not-first q [] after h = refl
not-first q (b ∷ bs) after h = by (same_bytes b.called q) refl (λ k. not-first q bs after k)
  where
    by : (t : Bool) → same_bytes b.called q ≡ t → (list_any (λ b. same_bytes b q) (map (λ p. p.called) bs) ≡ false → first_called q (bs ++ after) ≡ first_called q after)
        → first_called q ((b ∷ bs) ++ after) ≡ first_called q after
    by true e more = absurd (false-true (sym (rw e at h)))
    by false e more = rw e (more (rw e at h))

distinct-first : (before after : List Field) (p : Field) → repeated_after (map (λ p. p.called) before) (p.called ∷ map (λ p. p.called) after) ≡ None
    → (list_any (λ b. same_bytes b p.called) (map (λ p. p.called) before) ≡ false) × (repeated_after (map (λ p. p.called) before ++ p.called ∷ []) (map (λ p. p.called) after) ≡ None)
distinct-first before after p h = by (list_any (λ b. same_bytes b p.called) (map (λ p. p.called) before)) refl
  where
    by : (t : Bool) → list_any (λ b. same_bytes b p.called) (map (λ p. p.called) before) ≡ t
        → (list_any (λ b. same_bytes b p.called) (map (λ p. p.called) before) ≡ false) × (repeated_after (map (λ p. p.called) before ++ p.called ∷ []) (map (λ p. p.called) after) ≡ None)
    by true e = absurd (none-some p.called (sym (rw e at h)))
    by false e = (e, rw e at h)

itself-first : (q : List ℕ) (p : Field) (after : List Field) → q ≡ p.called → first_called q (p ∷ after) ≡ Some p
itself-first q p after e = rw (e, bytes-self p.called) refl

served-one : (new old : List Field) (p : Field) (o : Option Field) → list_all is_compatible (mapped_params new old) ≡ true → first_called p.called new ≡ Some p
    → first_called p.called old ≡ o → is_some o ≡ true → Served old p
served-one new old p None a f h s = absurd (false-true s)
served-one new old p (Some b) a f h s = record {
  by = b;
  first = h;
  alike = param-alike p b (named-compatible p.called new old b p a h (ap (λ n. first_called n new) (first-named p.called old b h) ∙ f));
}

-- each new parameter is served
served-from : (new old before after : List Field) → new ≡ before ++ after → list_all is_compatible (mapped_params new old) ≡ true
    → repeated_after (map (λ p. p.called) before) (map (λ p. p.called) after) ≡ None → Each (λ p. is_some (first_called p.called old) ≡ true) after → Each (Served old) after
served-from new old before [] n a r e = tt
served-from new old before (p ∷ after) n a r e =
    let d = distinct-first before after p r in
    let first : first_called p.called new ≡ Some p = ap (first_called p.called) n ∙ not-first p.called before (p ∷ after) d.0 ∙ itself-first p.called p after refl in (
      served-one new old p (first_called p.called old) a first refl e.0,
      served-from new old (before ++ p ∷ []) after (n ∙ sym (append_assoc before (p ∷ []) after)) a (ap (λ b. repeated_after b (map (λ p. p.called) after)) (map-append (λ p. p.called) before (p ∷ [])) ∙ d.1) e.1,
    )

pub all-served : (new old : List Field) → list_all is_compatible (mapped_params new old) ≡ true → repeated_param new ≡ None
    → Each (λ p. is_some (first_called p.called old) ≡ true) new → Each (Served old) new
all-served new old a r e = served-from new old [] new refl a r e

-- ---- the order of names

pub record Ordered (old new : List Field) : Type 0 where
  pub order : List ℕ
  pub by_name : order_by_name old new ≡ Some order
  pub types : List Tree
  pub ordered : picked_in_order order (trees old) ≡ Some types
  pub alike : Alike types (trees new)
  pub words : List (List ℕ)
  pub handed : picked_in_order order (word_numbers 0 (trees old)) ≡ Some words
  pub whole : concat words ≡ all_handed old new

one-more : {A : Type 0} (i : ℕ) (is : List ℕ) (xs : List A) (x : A) (ys : List A) → slice_get xs i ≡ Some x → picked_in_order is xs ≡ Some ys → picked_in_order (i ∷ is) xs ≡ Some (x ∷ ys)
one-more i is xs x ys a b = rw (a, b) refl

one-name : (old ps : List Field) (p : Field) (i : ℕ) (is : List ℕ) → position (λ q. same_bytes q.called p.called) old ≡ Some i → order_by_name old ps ≡ Some is → order_by_name old (p ∷ ps) ≡ Some (i ∷ is)
one-name old ps p i is a b = rw (a, b) refl

pub in-order-of-names : (old new : List Field) → Each (Served old) new → Ordered old new
in-order-of-names old [] e = record { order = []; by_name = refl; types = []; ordered = refl; alike = tt; words = []; handed = refl; whole = refl }
in-order-of-names old (p ∷ ps) e =
    let s = e.0 in
    let f = placed p.called 0 old s.by s.first in
    let r = in-order-of-names old ps e.1 in record {
      order = f.number ∷ r.order;
      by_name = one-name old ps p f.number r.order f.at r.by_name;
      types = s.by.tree ∷ r.types;
      ordered = one-more f.number r.order (trees old) s.by.tree r.types f.type r.ordered;
      alike = (s.alike, r.alike);
      words = f.words ∷ r.words;
      handed = one-more f.number r.order (word_numbers 0 (trees old)) f.words r.words f.there r.handed;
      whole = ap (λ ws. ws ++ concat r.words) (ap or_none (sym f.called)) ∙ ap (λ ws. or_none (numbers_called p.called 0 old) ++ ws) r.whole;
    }
