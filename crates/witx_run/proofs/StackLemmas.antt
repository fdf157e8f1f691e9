-- The program's stack: its last item is the machine's top.
use Rattle.std.proofs.Common.{◌≡◌, ℕ, zero, suc, ◌<◌, ◌≤◌, length, get_or, arith, option_map, slice_get, List, [], ◌∷◌, ◌++◌, map, refl, sym, ap, ◌∙◌, Option, Some, None}
use Rattle.std.specs.Prelude.{reverse}
use Rattle.std.proofs.lemmas.List.{reverse-append}
use Rattle.witx_machine.specs.Machine as machine
use Rattle.witx_machine.specs.Machine.{slot_word, word_item}
use Rattle.witx_run.specs.SlotViews.{given_slots}
use Rattle.witx_run.specs.StackRows.{pushed_item, pushed_word}
use Rattle.witx_run.specs.Views.{item_of, items_of, stack_of}
use Rattle.witx_run.specs.declared.item.Item as declared_item
use Rattle.witx_run.specs.declared.item.Item.TheVariants as item
use Rattle.witx_run.proofs.SlotLemmas.{given-word}

mapped : {A B : Type 0} (f : A → B) (xs : List A) (n : ℕ) → slice_get (map f xs) n ≡ option_map f (slice_get xs n)
mapped f [] n = refl
mapped f (x ∷ xs) zero = refl
mapped f (x ∷ xs) (suc n) = mapped f xs n

pub got-none : {A : Type 0} (xs : List A) (n : ℕ) → length xs ≤ n → None ≡ slice_get xs n
got-none [] n h = refl
got-none (x ∷ xs) zero h = absurd (omega arith)
got-none (x ∷ xs) (suc n) h = got-none xs n (omega arith)

pub got-some : {A : Type 0} (xs : List A) (n : ℕ) (x : A) → n < length xs → x ≡ get_or xs n x → Some x ≡ slice_get xs n
got-some [] n x h e = absurd (omega arith)
got-some (y ∷ xs) zero x h e = ap Some e
got-some (y ∷ xs) (suc n) x h e = got-some xs n x (omega arith) e

module _ {v w V W : Type 0} (value : v → V) (word : w → W) where
  pub stack-pushed : (xs : List (declared_item.Item v w)) (x : declared_item.Item v w) → stack_of value word (xs ++ x ∷ []) ≡ item_of value word x ∷ stack_of value word xs
  stack-pushed xs x = ap (map (item_of value word)) (reverse-append xs (x ∷ []))

  pub arg-none : (xs : List (declared_item.Item v w)) (n : ℕ) (stack : List (machine.Item V W)) → None ≡ slice_get xs n → None ≡ pushed_item (slice_get (items_of value word xs) n) stack
  arg-none xs n stack e = ap (λ o. pushed_item (option_map (item_of value word) o) stack) e ∙ ap (λ o. pushed_item o stack) (sym (mapped (item_of value word) xs n))

  pub arg-some : (xs : List (declared_item.Item v w)) (n : ℕ) (x y : declared_item.Item v w) (old new : List (declared_item.Item v w)) → Some x ≡ slice_get xs n → item_of value word y ≡ item_of value word x → new ≡ old ++ y ∷ [] →
      Some (stack_of value word new) ≡ pushed_item (slice_get (items_of value word xs) n) (stack_of value word old)
  arg-some xs n x y old new e h k =
      ap (λ new. Some (stack_of value word new)) k ∙ ap Some (stack-pushed old y) ∙ ap (λ i. Some (i ∷ stack_of value word old)) h
      ∙ ap (λ o. pushed_item (option_map (item_of value word) o) (stack_of value word old)) e ∙ ap (λ o. pushed_item o (stack_of value word old)) (sym (mapped (item_of value word) xs n))

  -- the address of a slot
  slot-is : (xs : List (ℕ × w)) (k : ℕ) (o : Option w) → o ≡ slot_word k (reverse xs) → option_map word o ≡ slot_word k (given_slots word xs)
  slot-is xs k o e = ap (option_map word) e ∙ sym (given-word word k (reverse xs))

  pub slot-none : (xs : List (ℕ × w)) (k : ℕ) (stack : List (machine.Item V W)) → None ≡ slot_word k (reverse xs) → None ≡ pushed_word (slot_word k (given_slots word xs)) stack
  slot-none xs k stack e = ap (λ o. pushed_word o stack) (slot-is xs k None e)

  pub slot-some : (xs : List (ℕ × w)) (k : ℕ) (a b : w) (old new : List (declared_item.Item v w)) → Some a ≡ slot_word k (reverse xs) → word b ≡ word a → new ≡ old ++ item.Word b ∷ [] →
      Some (stack_of value word new) ≡ pushed_word (slot_word k (given_slots word xs)) (stack_of value word old)
  slot-some xs k a b old new e h one =
      ap (λ new. Some (stack_of value word new)) one ∙ ap Some (stack-pushed old (item.Word b)) ∙ ap (λ a. Some (word_item a ∷ stack_of value word old)) h
      ∙ ap (λ o. pushed_word o (stack_of value word old)) (slot-is xs k (Some a) e)

pub ruleset stack_rules = (stack-pushed)
