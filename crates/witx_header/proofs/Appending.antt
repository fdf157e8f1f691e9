-- What a loop has written, with the texts of the items still to come, is what it is to write in all.
use Rattle.std.proofs.Common.{◌≡◌, ℕ, ◌+◌, ◌<◌, ◌≤◌, List, [], ◌∷◌, ◌++◌, length, map, get_or, drop, sym, ap, ◌∙◌, append_assoc, append-nil, Result, Ok, Err, OnOk, is_ok, if◌then◌else◌}
use Rattle.std.proofs.lemmas.List.{drop_more, drop_all}
use Rattle.std.specs.List.{flat_map}

-- the next of the items, before those behind it
pub next-of : {A B : Type 0} (f : A → B) (xs : List A) (n : ℕ) (x : A) → n < length xs → x ≡ get_or xs n x → map f (drop n xs) ≡ f x ∷ map f (drop (n + 1) xs)
next-of f xs n x l p = ap (map f) (drop_more xs n x l ∙ ap (λ y. y ∷ drop (n + 1) xs) (sym p))

pub none-left : {A B : Type 0} (f : A → B) (xs : List A) (n : ℕ) → length xs ≤ n → map f (drop n xs) ≡ []
none-left f xs n l = ap (map f) (drop_all n xs l)

-- a piece that was appended, and what is still to come behind it
pub joined : (done now piece more total : List ℕ) → now ≡ done ++ piece → done ++ (piece ++ more) ≡ total → now ++ more ≡ total
joined done now piece more total p e = ap (λ s. s ++ more) p ∙ append_assoc done piece more ∙ e

pub flat-more : {A : Type 0} (f : A → List ℕ) (xs : List A) (n : ℕ) (x : A) (done now total : List ℕ) → n < length xs → x ≡ get_or xs n x → now ≡ done ++ f x
    → done ++ flat_map f (drop n xs) ≡ total → now ++ flat_map f (drop (n + 1) xs) ≡ total
flat-more f xs n x done now total l p w e =
    joined done now (f x) (flat_map f (drop (n + 1) xs)) total w (ap (λ ys. done ++ flat_map f ys) (sym (drop_more xs n x l ∙ ap (λ y. y ∷ drop (n + 1) xs) (sym p))) ∙ e)

pub flat-end : {A : Type 0} (f : A → List ℕ) (xs : List A) (n : ℕ) (done total : List ℕ) → length xs ≤ n → done ++ flat_map f (drop n xs) ≡ total → done ≡ total
flat-end f xs n done total l e = sym (append-nil done) ∙ ap (λ ys. done ++ flat_map f ys) (sym (drop_all n xs l)) ∙ e

-- each item as one byte
pub map-more : (f : ℕ → ℕ) (xs : List ℕ) (n x : ℕ) (done now total : List ℕ) → n < length xs → x ≡ get_or xs n x → now ≡ done ++ f x ∷ []
    → done ++ map f (drop n xs) ≡ total → now ++ map f (drop (n + 1) xs) ≡ total
map-more f xs n x done now total l p w e =
    joined done now (f x ∷ []) (map f (drop (n + 1) xs)) total w (ap (λ ys. done ++ ys) (sym (next-of f xs n x l p)) ∙ e)

pub map-end : (f : ℕ → ℕ) (xs : List ℕ) (n : ℕ) (done total : List ℕ) → length xs ≤ n → done ++ map f (drop n xs) ≡ total → done ≡ total
map-end f xs n done total l e = sym (append-nil done) ∙ ap (λ ys. done ++ ys) (sym (none-left f xs n l)) ∙ e

-- each item, read first
pub read-more : {A B : Type 0} (f : B → List ℕ) (g : A → B) (xs : List A) (n : ℕ) (x : A) (done now total : List ℕ) → n < length xs → x ≡ get_or xs n x → now ≡ done ++ f (g x)
    → done ++ flat_map f (map g (drop n xs)) ≡ total → now ++ flat_map f (map g (drop (n + 1) xs)) ≡ total
read-more f g xs n x done now total l p w e =
    joined done now (f (g x)) (flat_map f (map g (drop (n + 1) xs))) total w (ap (λ ys. done ++ flat_map f ys) (sym (next-of g xs n x l p)) ∙ e)

pub read-end : {A B : Type 0} (f : B → List ℕ) (g : A → B) (xs : List A) (n : ℕ) (done total : List ℕ) → length xs ≤ n → done ++ flat_map f (map g (drop n xs)) ≡ total → done ≡ total
read-end f g xs n done total l e = sym (append-nil done) ∙ ap (λ ys. done ++ flat_map f ys) (sym (none-left g xs n l)) ∙ e

-- pieces that were put one behind the other
pub two : (start one more middle end : List ℕ) → middle ≡ start ++ one → end ≡ middle ++ more → end ≡ start ++ (one ++ more)
two start one more middle end p q = q ∙ ap (λ t. t ++ more) p ∙ append_assoc start one more

pub three : (start x y z a b c : List ℕ) → a ≡ start ++ x → b ≡ a ++ y → c ≡ b ++ z → c ≡ start ++ (x ++ y ++ z)
three start x y z a b c p q r = two start (x ++ y) z b c (two start x y a b p q) r

pub four : (start x y z w a b c d : List ℕ) → a ≡ start ++ x → b ≡ a ++ y → c ≡ b ++ z → d ≡ c ++ w → d ≡ start ++ (x ++ y ++ z ++ w)
four start x y z w a b c d p q r s = two start (x ++ y ++ z) w c d (three start x y z a b c p q r) s

pub five : (start x y z w v a b c d e : List ℕ) → a ≡ start ++ x → b ≡ a ++ y → c ≡ b ++ z → d ≡ c ++ w → e ≡ d ++ v → e ≡ start ++ (x ++ y ++ z ++ w ++ v)
five start x y z w v a b c d e p q r s t = two start (x ++ y ++ z ++ w) v d e (four start x y z w a b c d p q r s) t

-- a last piece, which was pushed where the push ended well
pub when_pushed : {X E : Type 0} (r : Result X E) (old piece new : List ℕ) (Q : Type 0) → new ≡ (if is_ok r then old ++ piece else old) → (new ≡ old ++ piece → Q) → OnOk r Q
when_pushed (Ok x) old piece new Q p f = f p
when_pushed (Err e) old piece new Q p f = tt

pub ruleset piece_rules = (two, three)

pub ruleset appending_rules = (flat-more, flat-end, map-more, map-end, read-more, read-end)
