-- Line by line the text before the first header is made.
use Rattle.std.proofs.Common.{◌≡◌, ℕ, ◌<◌, ◌+◌, ◌≤◌, List, [], ◌∷◌, ◌++◌, Bool, true, false, refl, sym, ap, subst, ◌∙◌, length, take, drop, append_assoc, arith, ◌==◌, get_or, if◌then◌else◌}
use Rattle.std.specs.Prelude.{take_while, not, ◌||◌, Some, None, position}
use Rattle.std.specs.List.{list_any, join_with_byte, position_or_len, slice_range}
use Rattle.std.proofs.lemmas.Grind.{common_steps}
use Rattle.std.proofs.lemmas.List.Quantifiers.{position-Some}
use Rattle.std.proofs.lemmas.List.Elements.{All-from_get_or}
use Rattle.std.proofs.lemmas.List.Splits.{length-slice_split, slice_split_none, slice_split_first}
use Rattle.std.proofs.lemmas.List.Sums.{split_at_first, fails_before_first, passes_at_first, take_while-cons}
use Rattle.witx_base.specs.Paths.{Path, path_of}
use Rattle.witx_bundle.specs.Bundles.{is_header, ended_lines, lines_of, path_after, text_before, without_return}

-- ---- a text that is cut at its first line feed

abbrev is_feed : ℕ → Bool
is_feed byte = byte == 10

at-feed : (byte : ℕ) → (byte == 10) ≡ true → byte ≡ 10
at-feed byte e = grind (arith, common_steps)

-- a text whose first line feed stands at a place, and what stands before and behind it
pub record FirstFeed (text : List ℕ) (at : ℕ) : Type 0 where
  pub inside : at < length text
  pub feed : get_or text at 0 ≡ 10
  pub lines : lines_of text ≡ take at text ∷ lines_of (drop (at + 1) text)
  pub spelled : text ≡ take at text ++ 10 ∷ drop (at + 1) text

of-place : (text : List ℕ) (at : ℕ) → position_or_len is_feed text ≡ at → at < length text → FirstFeed text at
of-place text at e l =
    let here : position_or_len is_feed text < length text = omega arith in
    let feed = at-feed (get_or text at 0) (subst (λ n. is_feed (get_or text n 0) ≡ true) e (passes_at_first is_feed text 0 here)) in
    let cut = subst (λ n. text ≡ take n text ++ (get_or text n 0 ∷ drop (n + 1) text)) e (split_at_first is_feed text 0 here) in
    record {
      inside = l;
      feed = feed;
      lines = subst (λ n. lines_of text ≡ take n text ∷ lines_of (drop (n + 1) text)) e (slice_split_first is_feed text 0 here);
      spelled = cut ∙ ap (λ byte. take at text ++ byte ∷ drop (at + 1) text) feed;
    }

pub first-feed : (text : List ℕ) (at : ℕ) → position is_feed text ≡ Some at → FirstFeed text at
first-feed text at e =
    let place : position_or_len is_feed text ≡ at = grind (arith, common_steps) in
    of-place text at place (position-Some is_feed text at 0 e).0

from-start : (xs : List ℕ) (n : ℕ) → take n xs ≡ slice_range xs 0 n
from-start xs n = ap (λ k. take k xs) (omega arith)

pub cut-line : (text line more : List ℕ) (at : ℕ) → position is_feed text ≡ Some at → line ≡ slice_range text 0 at → more ≡ drop (at + 1) text
    → lines_of text ≡ line ∷ lines_of more
cut-line text line more at e l m = subst (λ x. lines_of text ≡ x ∷ lines_of more) (from-start text at ∙ sym l) (subst (λ y. lines_of text ≡ take at text ∷ lines_of y) (sym m) (first-feed text at e).lines)

pub cut-spelled : (text line more : List ℕ) (at : ℕ) → position is_feed text ≡ Some at → line ≡ slice_range text 0 at → more ≡ drop (at + 1) text
    → text ≡ line ++ 10 ∷ more
cut-spelled text line more at e l m = subst (λ x. text ≡ x ++ 10 ∷ more) (from-start text at ∙ sym l) (subst (λ y. text ≡ take at text ++ 10 ∷ y) (sym m) (first-feed text at e).spelled)

pub no-feed : (text : List ℕ) → position is_feed text ≡ None → lines_of text ≡ text ∷ []
no-feed text e =
    let past : length text ≤ position_or_len is_feed text = grind (arith, common_steps) in
    slice_split_none is_feed text (All-from_get_or (λ byte. is_feed byte ≡ false) text 0 (λ i l. fails_before_first is_feed text i 0 (omega arith)))

some-line : (text : List ℕ) → 0 < length (lines_of text)
some-line text = omega (arith, length-slice_split (λ b. b == 10) text)

path-some : (rest : List ℕ) (lines : List (List ℕ)) → 0 < length lines → path_of (without_return rest) ≡ path_after rest lines
path-some rest [] l = absurd (omega arith)
path-some rest (next ∷ more) l = refl

pub path-before : (p : Path) (rest more : List ℕ) → p ≡ path_of (without_return rest) → p ≡ path_after rest (lines_of more)
path-before p rest more e = e ∙ path-some rest (lines_of more) (some-line more)

pub ruleset path_rules = (path-before)

-- ---- the text before the first header

abbrev goes_on : List ℕ → Bool
goes_on line = not (is_header line)

-- the text before the first header begins with a line that is no header
ended-next : (x : List ℕ) (more : List (List ℕ)) → is_header x ≡ false → ended_lines (take_while goes_on (x ∷ more)) ≡ x ++ 10 ∷ ended_lines (take_while goes_on more)
ended-next x more h = rw (take_while-cons goes_on x more, h) refl

pub at-header : (x : List ℕ) (more : List (List ℕ)) → is_header x ≡ true → text_before (x ∷ more) ≡ []
at-header x more h = rw h refl

at-last : (x : List ℕ) → is_header x ≡ false → text_before (x ∷ []) ≡ x
at-last x h = rw h refl

by-header-behind : (x y : List ℕ) (more : List (List ℕ)) (behind : Bool) → is_header x ≡ false
    → (if behind then ended_lines (take_while goes_on (x ∷ y ∷ more)) else join_with_byte 10 (x ∷ y ∷ more))
    ≡ x ++ 10 ∷ (if behind then ended_lines (take_while goes_on (y ∷ more)) else join_with_byte 10 (y ∷ more))
by-header-behind x y more true h = ended-next x (y ∷ more) h
by-header-behind x y more false h = refl

at-line : (x y : List ℕ) (more : List (List ℕ)) → is_header x ≡ false → text_before (x ∷ y ∷ more) ≡ x ++ 10 ∷ text_before (y ∷ more)
at-line x y more h =
    ap (λ here. if here || list_any is_header (y ∷ more) then ended_lines (take_while goes_on (x ∷ y ∷ more)) else join_with_byte 10 (x ∷ y ∷ more)) h
    ∙ by-header-behind x y more (list_any is_header (y ∷ more)) h

at-some : (x : List ℕ) (more : List (List ℕ)) → 0 < length more → is_header x ≡ false → text_before (x ∷ more) ≡ x ++ 10 ∷ text_before more
at-some x [] l h = absurd (omega arith)
at-some x (y ∷ more) l h = at-line x y more h

pub text-step : (front rest line more total : List ℕ) → lines_of rest ≡ line ∷ lines_of more → is_header line ≡ false → front ++ text_before (lines_of rest) ≡ total
    → ((front ++ line) ++ 10 ∷ []) ++ text_before (lines_of more) ≡ total
text-step front rest line more total e h g =
    append_assoc (front ++ line) (10 ∷ []) (text_before (lines_of more))
    ∙ (append_assoc front line (10 ∷ text_before (lines_of more))
    ∙ (ap (λ z. front ++ z) (sym (at-some line (lines_of more) (some-line more) h) ∙ ap text_before (sym e)) ∙ g))

last-text : (t : Bool) (x : List ℕ) → is_header x ≡ t → (if t then [] else x) ≡ text_before (x ∷ [])
last-text true x h = sym (at-header x [] h)
last-text false x h = sym (at-last x h)

pub text-end : (front rest made total : List ℕ) → lines_of rest ≡ rest ∷ [] → made ≡ front ++ (if is_header rest then [] else rest)
    → front ++ text_before (lines_of rest) ≡ total → made ≡ total
text-end front rest made total e m g =
    m ∙ (ap (λ z. front ++ z) (last-text (is_header rest) rest refl ∙ ap text_before (sym e)) ∙ g)
