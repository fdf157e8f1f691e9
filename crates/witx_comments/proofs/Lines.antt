-- `margin_fits`: no nonempty line is shorter than the margin. `lines_cut`: none is cut inside a character.
use Rattle.std.proofs.Common.{inl, inr, ◌≡◌, ℕ, ◌≢◌, ◌<◌, ◌≤◌, Bool, List, [], ◌∷◌, ◌++◌, ◌==◌, true, false, cond, eqb-true, map, length, min, drop, refl, sym, append-nil, append_assoc, lit<, add-one, get_or, drop-cons, ◌+◌, ap, subst, ◌∙◌, arith, Option, Some, None, Bor, MatchOption}
use Rattle.std.proofs.Math.Nat.{min-le_left, min-le_right}
use Rattle.std.proofs.lemmas.Bool.{and_parts}
use Rattle.std.proofs.lemmas.Bool.Decides.{nat_tests}
use Rattle.std.proofs.lemmas.Str.{IsUtf8-drop, IsCharBoundary-after_ascii, scalars-chars}
use Rattle.std.proofs.Math.Utf8.{scalar, scalars}
use Rattle.std.proofs.lemmas.Str.Pattern.{strip_prefix_char}
use Rattle.std.specs.Str.Pattern.{FindsCharPrefix}
use Rattle.std.specs.Option.{option_map, unwrap_or}
use Rattle.std.specs.List.{AllByRecursion, filter, filter_map, cons_option, fold, reduce}
use Rattle.std.specs.Str.{IsUtf8, chars, trim_end, drop_trailing_whitespace}
use Rattle.witx_comments.proofs.Cuts.{tells, IsLastBoundary, cut_is, floor_is_boundary}
use Rattle.witx_comments.specs.Documentation.{after_semicolon, indent_in, indent_of, is_nonempty, margin_of, doc_lines, doc_line, cut_line, text_of_lines, IsCutBetweenCharacters}

behind_semicolon : (bs : List ℕ) (r : Option (Bor (List ℕ))) → MatchOption r ((rest : List ℕ) → bs ≢ 59 ∷ rest) (λ line. bs ≡ 59 ∷ line.now) → option_map (λ line. line.now) r ≡ after_semicolon bs
behind_semicolon [] None h = refl
behind_semicolon [] (Some line) h = cc
behind_semicolon (b ∷ line) None h = grind (arith, nat_tests, h line)
behind_semicolon (b ∷ line) (Some rest) h = grind (arith, nat_tests)

-- what stands behind a `;`, as std's `strip_prefix` answers it
pub stripped : (bs : List ℕ) (r : Option (Bor (List ℕ)))
    → MatchOption r (FindsCharPrefix 59 bs None) (λ x. (n : ℕ) × FindsCharPrefix 59 bs (Some n) × (x.now ≡ drop n bs) × (length x.now + n ≡ length bs))
    → option_map (λ line. line.now) r ≡ after_semicolon bs
stripped bs r h = behind_semicolon bs r (strip_prefix_char 59 bs r h (lit< tt))

fold-min_le : (a : ℕ) (xs : List ℕ) → fold min a xs ≤ a
fold-min_le a [] = omega arith
fold-min_le a (x ∷ xs) = let rest = fold-min_le (min a x) xs in let left = min-le_left a x in omega arith

indent_fits : (line : List ℕ) → indent_of line ≤ length line
indent_fits line = omega arith

nonempty-cons : (b : ℕ) (bs : List ℕ) → is_nonempty (b ∷ bs) ≡ true
nonempty-cons b bs = grind (arith, nat_tests)

filter-cons : (b : ℕ) (bs : List ℕ) (lines : List (List ℕ)) → filter is_nonempty ((b ∷ bs) ∷ lines) ≡ (b ∷ bs) ∷ filter is_nonempty lines
filter-cons b bs lines = rw (nonempty-cons b bs) refl

-- each line that has a byte measures m or more
abbrev pub Fits : ℕ → List (List ℕ) → Type 0
Fits m lines = AllByRecursion (λ line. 0 < length line → m ≤ length line) lines

least_fits : (a m : ℕ) (lines : List (List ℕ)) → m ≤ fold min a (map indent_of (filter is_nonempty lines)) → Fits m lines
least_fits a m [] h = tt
least_fits a m ([] ∷ lines) h = (λ some. absurd (omega arith), least_fits a m lines h)
least_fits a m ((b ∷ bs) ∷ lines) h =
    let below = fold-min_le (min a (indent_of (b ∷ bs))) (map indent_of (filter is_nonempty lines)) in
    let right = min-le_right a (indent_of (b ∷ bs)) in
    let short = indent_fits (b ∷ bs) in
    let least : m ≤ fold min (min a (indent_of (b ∷ bs))) (map indent_of (filter is_nonempty lines)) =
    subst (λ kept. m ≤ fold min a (map indent_of kept)) (filter-cons b bs lines) h in
    (λ _. omega (arith, below, right, short, least), least_fits (min a (indent_of (b ∷ bs))) m lines least)

all_fit : (m : ℕ) (lines : List (List ℕ)) → m ≡ unwrap_or (reduce min (map indent_of (filter is_nonempty lines))) 0 → Fits m lines
all_fit m [] h = tt
all_fit m ([] ∷ lines) h = (λ some. absurd (omega arith), all_fit m lines h)
all_fit m ((b ∷ bs) ∷ lines) h =
    let below = fold-min_le (indent_of (b ∷ bs)) (map indent_of (filter is_nonempty lines)) in
    let short = indent_fits (b ∷ bs) in
    let least : m ≡ fold min (indent_of (b ∷ bs)) (map indent_of (filter is_nonempty lines)) =
    subst (λ kept. m ≡ unwrap_or (reduce min (map indent_of kept)) 0) (filter-cons b bs lines) h in
    (λ _. omega (arith, below, short, least), least_fits (indent_of (b ∷ bs)) m lines (omega (arith, least)))

pub margin_fits : (lines : List (List ℕ)) → Fits (margin_of lines) lines
unfolding margin_of
margin_fits lines = all_fit (margin_of lines) lines refl

-- ---- where lines are cut

cut_all : (m : ℕ) (lines : List (List ℕ)) → AllByRecursion IsUtf8 lines → Fits m lines → AllByRecursion (IsCutBetweenCharacters m) lines
cut_all m [] texts fits = tt
cut_all m (line ∷ lines) texts fits = (λ some. floor_is_boundary line m texts.0 (fits.0 some), cut_all m lines texts.1 fits.1)

kept_scalars : (b : Bool) (c : ℕ) (rest : List ℕ) → scalar c ≡ true → scalars rest ≡ true → scalars (cond b [] (c ∷ rest)) ≡ true
kept_scalars true c rest e f = refl
kept_scalars false c rest e f = rw (e, f) refl

trimmed_scalars : (cs : List ℕ) → scalars cs ≡ true → scalars (drop_trailing_whitespace cs) ≡ true
trimmed_scalars [] e = refl
trimmed_scalars (c ∷ cs) e = let p = and_parts (scalar c) (scalars cs) e in kept_scalars _ c (drop_trailing_whitespace cs) p.0 (trimmed_scalars cs p.1)

trimmed_utf8 : (bs : List ℕ) → IsUtf8 bs → IsUtf8 (trim_end bs)
unfolding trim_end
trimmed_utf8 bs u = (drop_trailing_whitespace (chars bs), (trimmed_scalars (chars bs) (scalars-chars bs u), refl))

semicolon_is : (z : Bool) (b : ℕ) (bs line : List ℕ) → (b == 59) ≡ z → after_semicolon (b ∷ bs) ≡ Some line → (b ≡ 59) × (bs ≡ line)
semicolon_is true b bs line z-is e = (eqb-true b 59 z-is, (let f : Some bs ≡ Some line = sym (rw z-is refl) ∙ e in cc))
semicolon_is false b bs line z-is e = absurd (let f : None ≡ Some line = sym (rw z-is refl) ∙ e in cc)

behind_one : (bs : List ℕ) (o : Option (List ℕ)) (lines : List (List ℕ)) → IsUtf8 bs → after_semicolon bs ≡ o → AllByRecursion IsUtf8 lines → AllByRecursion IsUtf8 (cons_option o lines)
behind_one bs None lines u e texts = texts
behind_one [] (Some line) lines u e texts = absurd cc
behind_one (b ∷ bs) (Some line) lines u e texts =
    let p : (b ≡ 59) × (bs ≡ line) = semicolon_is _ b bs line refl e in
    (subst IsUtf8 p.1 (IsUtf8-drop (b ∷ bs) 1 u (IsCharBoundary-after_ascii (b ∷ bs) 0 u (omega arith) (omega (arith, p.0)))), texts)

lines_utf8 : (comments : List (List ℕ)) → AllByRecursion IsUtf8 comments → AllByRecursion IsUtf8 (doc_lines comments)
lines_utf8 [] texts = tt
lines_utf8 (comment ∷ comments) texts = behind_one (trim_end comment) (doc_line comment) (doc_lines comments) (trimmed_utf8 comment texts.0) refl (lines_utf8 comments texts.1)

pub lines_cut : (comments : List (List ℕ)) → AllByRecursion IsUtf8 comments → AllByRecursion (IsCutBetweenCharacters (margin_of (doc_lines comments))) (doc_lines comments)
lines_cut comments texts = cut_all (margin_of (doc_lines comments)) (doc_lines comments) (lines_utf8 comments texts) (margin_fits (doc_lines comments))

-- ---- what is written

abbrev pub shown : List (Bor (List ℕ)) → List (List ℕ)
shown comments = map (λ comment. comment.now) comments

-- written is what all lines give but for those that are left
abbrev pub IsAt : ℕ → List ℕ → List (List ℕ) → List (List ℕ) → Type 0
IsAt margin written all left = written ++ text_of_lines margin left ≡ text_of_lines margin all

pub at_start : (all : List (List ℕ)) (margin : ℕ) (written : List ℕ) → margin ≡ margin_of all → written ≡ [] → IsAt margin written all all
at_start all margin written m w = rw (m, w) refl

pub at_end : (all : List (List ℕ)) (margin : ℕ) (written : List ℕ) → IsAt margin written all [] → written ≡ text_of_lines margin all
unfolding text_of_lines
at_end all margin written h = sym (append-nil written) ∙ h

-- a comment that gives no line
pub at_other : (comments : List (Bor (List ℕ))) (i : ℕ) (d : Bor (List ℕ)) (all : List (List ℕ)) (margin : ℕ) (before written : List ℕ) → i < length comments
    → None ≡ doc_line (get_or comments i d).now → written ≡ before
    → IsAt margin before all (doc_lines (shown (drop i comments))) → IsAt margin written all (doc_lines (shown (drop (i + 1) comments)))
at_other comments i d all margin before written within e same h =
    let cut : drop i comments ≡ get_or comments i d ∷ drop (i + 1) comments = rw add-one (drop-cons comments i d within) in
    let here : IsAt margin before all (doc_lines (shown (get_or comments i d ∷ drop (i + 1) comments))) = subst (λ l. IsAt margin before all (doc_lines (shown l))) cut h in
    subst (λ w. IsAt margin w all (doc_lines (shown (drop (i + 1) comments)))) (sym same)
    (subst (λ o. IsAt margin before all (cons_option o (doc_lines (shown (drop (i + 1) comments))))) (sym e) here)

-- a comment that gives a line, which is written from its last character boundary at or below the margin on
step : (line : List ℕ) (lines all : List (List ℕ)) (margin kept : ℕ) (written : List ℕ) → IsLastBoundary line margin kept
    → IsAt margin written all (line ∷ lines) → IsAt margin ((written ++ drop kept line) ++ (10 ∷ [])) all lines
unfolding text_of_lines
step line lines all margin kept written last h =
    ap (λ l. l ++ text_of_lines margin lines) (append_assoc written (drop kept line) (10 ∷ []) ∙ ap (λ cut. written ++ (cut ++ (10 ∷ []))) (sym (cut_is line margin kept last)))
    ∙ append_assoc written (cut_line margin line ++ (10 ∷ [])) (text_of_lines margin lines)
    ∙ h

pub at_line : (comments : List (Bor (List ℕ))) (i : ℕ) (d : Bor (List ℕ)) (line : List ℕ) (all : List (List ℕ)) (margin kept : ℕ) (before written : List ℕ) → i < length comments
    → Some line ≡ doc_line (get_or comments i d).now → IsLastBoundary line margin kept → written ≡ (before ++ drop kept line) ++ (10 ∷ [])
    → IsAt margin before all (doc_lines (shown (drop i comments))) → IsAt margin written all (doc_lines (shown (drop (i + 1) comments)))
at_line comments i d line all margin kept before written within e last same h =
    let cut : drop i comments ≡ get_or comments i d ∷ drop (i + 1) comments = rw add-one (drop-cons comments i d within) in
    let here : IsAt margin before all (doc_lines (shown (get_or comments i d ∷ drop (i + 1) comments))) = subst (λ l. IsAt margin before all (doc_lines (shown l))) cut h in
    subst (λ w. IsAt margin w all (doc_lines (shown (drop (i + 1) comments)))) (sym same)
    (step line (doc_lines (shown (drop (i + 1) comments))) all margin kept before last
    (subst (λ o. IsAt margin before all (cons_option o (doc_lines (shown (drop (i + 1) comments))))) (sym e) here))

-- the indents of the nonempty lines, comment by comment
indents_go : (comment : List ℕ) (line : Option (List ℕ)) (comments : List (List ℕ)) (rest : List ℕ) → doc_line comment ≡ line
    → rest ≡ map indent_of (filter is_nonempty (doc_lines comments))
    → cons_option (indent_in comment) rest ≡ map indent_of (filter is_nonempty (doc_lines (comment ∷ comments)))
indents_go comment None comments rest h e = rw h e
indents_go comment (Some line) comments rest h e = rw h (elim (tells (is_nonempty line)) [ inl some ↦ rw some (ap (λ ns. indent_of line ∷ ns) e) | inr none ↦ rw none e ])

pub indents : (comments : List (Bor (List ℕ))) → filter_map (λ comment. indent_in comment.now) comments ≡ map indent_of (filter is_nonempty (doc_lines (map (λ comment. comment.now) comments)))
indents [] = refl
indents (comment ∷ comments) = indents_go comment.now (doc_line comment.now) (map (λ c. c.now) comments) _ refl (indents comments)

pub same_option : (o : Option ℕ) → o ≡ option_map (λ n. n) o
same_option None = refl
same_option (Some n) = refl
