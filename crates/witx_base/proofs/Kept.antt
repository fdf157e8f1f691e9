-- A path that is kept as its text.
use Rattle.std.proofs.Common.{◌≡◌, ℕ, List, [], ◌∷◌, Bool, true, false, refl, sym, ap, ◌∙◌, if◌then◌else◌, length}
use Rattle.std.specs.Prelude.{◌==◌, Some, None, option_map}
use Rattle.std.specs.Cmp.Lexicographic.{pointwise}
use Rattle.std.proofs.lemmas.Slice.Eq.{bytes_eq-Decides, slice_eq-Decides}
use Rattle.witx_base.specs.Paths.{Path, all_but_last, has_parent, is_absolute, join, join_to, parent, path_of, path_text}
use Rattle.witx_base.specs.PathTexts.{IsPathText}
use Rattle.witx_base.proofs.PathTexts.{IsWell, read-well, text-is, text-read}
use Rattle.witx_base.proofs.Cuts.{front-well, suc-full}
use Rattle.witx_base.proofs.Joins.{join-well}

pub new-is : (text s : List ℕ) → text ≡ path_text (path_of s) → IsPathText text
new-is text s e = text-is text (path_of s) e (read-well s)

pub new-read : (text s : List ℕ) → text ≡ path_text (path_of s) → path_of text ≡ path_of s
new-read text s e = text-read text (path_of s) e (read-well s)

pub ruleset new_rules = (new-is, new-read)

-- ---- the parent

some-is : (x y : List ℕ) → Some x ≡ Some y → x ≡ y
some-is x y e = cc

parent-step : (t : Bool) (p : Path) (text : List ℕ) → IsWell p → Some text ≡ option_map path_text (if t then Some (all_but_last p) else None)
    → (Some (path_of text) ≡ (if t then Some (all_but_last p) else None)) × IsPathText text
parent-step true p text h e =
    let same = some-is text (path_text (all_but_last p)) e in
    (ap (λ q. Some q) (text-read text (all_but_last p) same (front-well p h)), text-is text (all_but_last p) same (front-well p h))
parent-step false p text h e = absurd (cc)

none-step : (t : Bool) (p : Path) → None ≡ option_map path_text (if t then Some (all_but_last p) else None) → None ≡ (if t then Some (all_but_last p) else None)
none-step true p e = absurd (cc)
none-step false p e = refl

pub parent-read : (own text : List ℕ) → Some text ≡ option_map path_text (parent (path_of own)) → Some (path_of text) ≡ parent (path_of own)
parent-read own text e = (parent-step (has_parent (path_of own)) (path_of own) text (read-well own) e).0

pub parent-is-text : (own text : List ℕ) → Some text ≡ option_map path_text (parent (path_of own)) → IsPathText text
parent-is-text own text e = (parent-step (has_parent (path_of own)) (path_of own) text (read-well own) e).1

pub no-parent : (own : List ℕ) → None ≡ option_map path_text (parent (path_of own)) → None ≡ parent (path_of own)
no-parent own e = none-step (has_parent (path_of own)) (path_of own) e

pub ruleset parent_rules = (parent-read, parent-is-text, no-parent)

-- ---- joining

pub join-absolute : (p q : Path) → is_absolute q ≡ true → q ≡ join p q
unfolding join
join-absolute p q a = ap (λ b. if b then q else join_to p q) (sym a)

same-either : (t : Bool) (q : Path) → q ≡ (if t then q else q)
same-either true q = refl
same-either false q = refl

pub join-empty : (text : List ℕ) (q : Path) → (length text == 0) ≡ true → q ≡ join (path_of text) q
unfolding join path_of
join-empty [] q e = same-either (is_absolute q) q
join-empty (b ∷ bs) q e = let no : false ≡ true = sym (suc-full b bs) ∙ e in absurd (cc)

pub join-is-text : (own other text : List ℕ) → text ≡ path_text (join (path_of own) (path_of other)) → IsPathText text
join-is-text own other text e = text-is text (join (path_of own) (path_of other)) e (join-well (is_absolute (path_of other)) (path_of own) (path_of other) refl (read-well own) (read-well other))

pub join-read : (own other text : List ℕ) → text ≡ path_text (join (path_of own) (path_of other)) → path_of text ≡ join (path_of own) (path_of other)
join-read own other text e = text-read text (join (path_of own) (path_of other)) e (join-well (is_absolute (path_of other)) (path_of own) (path_of other) refl (read-well own) (read-well other))

pub ruleset join_rules = (join-absolute, join-empty, join-is-text, join-read)

-- ---- equality

same-test : (x y : Bool) → (x ≡ true → y ≡ true) → (y ≡ true → x ≡ true) → x ≡ y
same-test true y f g = sym (f refl)
same-test false true f g = g refl
same-test false false f g = refl

pub equal-texts : (a b : List ℕ) → IsPathText a → IsPathText b → pointwise ◌==◌ a b ≡ pointwise (pointwise ◌==◌) (path_of a) (path_of b)
equal-texts a b h k =
    let texts = bytes_eq-Decides a b in
    let paths = slice_eq-Decides bytes_eq-Decides (path_of a) (path_of b) (pointwise (pointwise ◌==◌) (path_of a) (path_of b)) refl in
    same-test (pointwise ◌==◌ a b) (pointwise (pointwise ◌==◌) (path_of a) (path_of b))
    (λ e. paths.1 (ap path_of (texts.0 e)))
    (λ e. texts.1 (sym h ∙ ap path_text (paths.0 e) ∙ k))

pub ruleset equal_rules = (equal-texts)
