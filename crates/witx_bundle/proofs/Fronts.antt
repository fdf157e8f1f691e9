-- Where the text before the first header ends: line by line the bytes are passed that stand before it.
use Rattle.std.proofs.Common.{◌≡◌, ℕ, ◌+◌, ◌<◌, List, [], ◌∷◌, ◌++◌, true, false, refl, sym, ap, ◌∙◌, length, get_or, take, drop, append_assoc, append-nil, arith, ◌==◌, eqb-true, if◌then◌else◌}
use Rattle.std.proofs.Math.Seq.{take-length, take-append_seam, drop-append_seam}
use Rattle.std.proofs.lemmas.Bool.{and_parts}
use Rattle.std.proofs.lemmas.List.{drop_all, get_or_at, length-append}
use Rattle.std.proofs.lemmas.Str.{IsCharBoundary-end, IsCharBoundary-before_ascii}
use Rattle.std.specs.Str.{IsCharBoundary}
use Rattle.witx_bundle.specs.Bundles.{given, is_header, lines_of, text_before}
use Rattle.witx_bundle.specs.Fronts.{EndsFront}
use Rattle.witx_bundle.proofs.LineSteps.{at-header, text-step, text-end}

-- no header stands in the text before this rest
pub record Passed (text rest : List ℕ) : Type 0 where
  pub front : List ℕ
  pub spelled : text ≡ front ++ rest
  pub before : front ++ text_before (lines_of rest) ≡ text_before (lines_of text)
  pub files : given (lines_of rest) ≡ given (lines_of text)

pub passed-none : (text : List ℕ) → Passed text text
passed-none text = record { front = []; spelled = refl; before = refl; files = refl }

no-file : (line : List ℕ) (lines : List (List ℕ)) → is_header line ≡ false → given (line ∷ lines) ≡ given lines
no-file line lines h = rw h refl

pub passed-line : (text rest line more : List ℕ) → Passed text rest → rest ≡ line ++ 10 ∷ more → lines_of rest ≡ line ∷ lines_of more → is_header line ≡ false → Passed text more
passed-line text rest line more p cut e h = record {
  front = (p.front ++ line) ++ 10 ∷ [];
  spelled = p.spelled ∙ ap (λ (t : List ℕ). p.front ++ t) cut ∙ sym (append_assoc (p.front ++ line) (10 ∷ []) more ∙ append_assoc p.front line (10 ∷ more));
  before = text-step p.front rest line more (text_before (lines_of text)) e h p.before;
  files = sym (ap given e ∙ no-file line (lines_of more) h) ∙ p.files;
}

pub shorter : (rest line more : List ℕ) → rest ≡ line ++ 10 ∷ more → length more < length rest
shorter rest line more cut = omega (arith, ap (λ (t : List ℕ). length t) cut, length-append line (10 ∷ more))

-- a header begins with a semicolon
header-boundary : (text front line tail : List ℕ) → text ≡ front ++ (line ++ tail) → is_header line ≡ true → IsCharBoundary text (length front)
header-boundary text front [] tail e h = absurd cc
header-boundary text front (b ∷ bs) tail e h =
    let first : 59 ≡ b = eqb-true 59 b (and_parts (59 == b) _ h).0 in
    let there : get_or text (length front) 0 ≡ b = ap (λ (t : List ℕ). get_or t (length front) 0) e ∙ get_or_at front b (bs ++ tail) 0 (length front) refl in
    let long : length text ≡ length front + (1 + length (bs ++ tail)) = ap (λ (t : List ℕ). length t) e ∙ length-append front (b ∷ (bs ++ tail)) ∙ omega arith in
    IsCharBoundary-before_ascii text (length front) (omega (arith, long)) (omega (arith, there, first))

pub stops : (text rest line tail : List ℕ) (lines : List (List ℕ)) (n : ℕ) → Passed text rest → rest ≡ line ++ tail → lines_of rest ≡ line ∷ lines → is_header line ≡ true
    → n + length rest ≡ length text → EndsFront text n
stops text rest line tail lines n p cut e h m =
    let n-is : n ≡ length p.front = omega (arith, m, ap (λ (t : List ℕ). length t) p.spelled, length-append p.front rest) in
    let whole : p.front ≡ text_before (lines_of text) =
    sym (append-nil p.front) ∙ ap (λ (t : List ℕ). p.front ++ t) (sym (at-header line lines h) ∙ ap text_before (sym e)) ∙ p.before in
    rw n-is (record {
      before = ap (take (length p.front)) p.spelled ∙ take-append_seam p.front rest ∙ whole;
      behind = ap (λ (t : List ℕ). given (lines_of (drop (length p.front) t))) p.spelled ∙ ap (λ (t : List ℕ). given (lines_of t)) (drop-append_seam p.front rest) ∙ p.files;
      boundary = header-boundary text p.front line tail (p.spelled ∙ ap (λ (t : List ℕ). p.front ++ t) cut) h;
    })

pub ends : (text rest : List ℕ) → Passed text rest → lines_of rest ≡ rest ∷ [] → is_header rest ≡ false → EndsFront text (length text)
ends text rest p e h =
    let last : (if is_header rest then [] else rest) ≡ rest = rw h refl in
    record {
      before = take-length text ∙ text-end p.front rest text (text_before (lines_of text)) e (p.spelled ∙ ap (λ (t : List ℕ). p.front ++ t) (sym last)) p.before;
      behind = ap (λ (t : List ℕ). given (lines_of t)) (drop_all (length text) text (omega arith)) ∙ sym (ap given e ∙ no-file rest [] h) ∙ p.files;
      boundary = IsCharBoundary-end text;
    }

pub ruleset front_rules = (shorter)
