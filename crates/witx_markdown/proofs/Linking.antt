-- Link by link documentation is written again.
use Rattle.std.specs.Prelude.{◌≡◌, ℕ, ◌<◌, List, [], ◌∷◌, ◌++◌, false, length, ◌==◌, Option, Some, None, MatchOption}
use Rattle.std.proofs.Common.{arith, get_or, refl, ap, ◌∙◌, append_assoc, lit<, Bor}
use Rattle.std.specs.List.{All}
use Rattle.std.proofs.lemmas.Bool.{ne_eqb}
use Rattle.std.proofs.lemmas.List.Elements.{All-from_get_or}
use Rattle.std.proofs.lemmas.List.Splits.{length-slice_split, slice_split_none, slice_split_at, join_with_byte-slice_split}
use Rattle.std.proofs.lemmas.Str.Pattern.{IsSplitOnceResult, split_parts}
use Rattle.witx_markdown.specs.Links.{pieces, link, linked, linked_pieces, missing, missing_pieces, missing_if}

free : (xs : List ℕ) → ((i : ℕ) → i < length xs → (get_or xs i 0 ≡ 96 → ⊥)) → All (λ b. (b == 96) ≡ false) xs
free xs h = All-from_get_or (λ b. (b == 96) ≡ false) xs 0 (λ i l. ne_eqb (get_or xs i 0) 96 (h i l))

pub cut-piece : (bs : List ℕ) (r : Option (Bor (List ℕ) × Bor (List ℕ))) → IsSplitOnceResult 96 bs r
    → MatchOption r (pieces bs ≡ bs ∷ []) (λ x. pieces bs ≡ x.0.now ∷ pieces x.1.now)
cut-piece bs None h = slice_split_none (λ b. b == 96) bs (free bs (split_parts 96 bs None h (lit< tt)))
cut-piece bs (Some x) h =
    let cut = split_parts 96 bs (Some x) h (lit< tt) in
    ap pieces cut.0 ∙ slice_split_at (λ b. b == 96) x.0.now 96 x.1.now (free x.0.now cut.1) refl

some-pieces : (text : List ℕ) → 0 < length (pieces text)
some-pieces text = omega (arith, length-slice_split (λ b. b == 96) text)

linked-first : (known : List (List ℕ)) (before x : List ℕ) (ps : List (List ℕ)) → 0 < length ps
    → linked_pieces known (before ∷ x ∷ ps) ≡ before ++ (link known x ++ linked_pieces known ps)
linked-first known before x [] l = absurd (omega arith)
linked-first known before x (q ∷ ps) l = refl

missing-first : (known : List (List ℕ)) (before x : List ℕ) (ps : List (List ℕ)) → 0 < length ps
    → missing_pieces known (before ∷ x ∷ ps) ≡ missing_if known x ++ missing_pieces known ps
missing-first known before x [] l = absurd (omega arith)
missing-first known before x (q ∷ ps) l = refl

pub next-text : (known : List (List ℕ)) (rest before x behind text all : List ℕ) → pieces rest ≡ before ∷ x ∷ pieces behind
    → text ++ linked known rest ≡ all → ((text ++ before) ++ link known x) ++ linked known behind ≡ all
next-text known rest before x behind text all e h =
    append_assoc (text ++ before) (link known x) (linked known behind) ∙ append_assoc text before (link known x ++ linked known behind)
    ∙ (rw (e, linked-first known before x (pieces behind) (some-pieces behind)) at h)

pub next-missing : (known : List (List ℕ)) (rest before x behind : List ℕ) (names all : List (List ℕ)) → pieces rest ≡ before ∷ x ∷ pieces behind
    → names ++ missing known rest ≡ all → (names ++ missing_if known x) ++ missing known behind ≡ all
next-missing known rest before x behind names all e h =
    append_assoc names (missing_if known x) (missing known behind) ∙ (rw (e, missing-first known before x (pieces behind) (some-pieces behind)) at h)

pub unclosed : (text before behind : List ℕ) (known : List (List ℕ)) → pieces text ≡ before ∷ pieces behind → pieces behind ≡ behind ∷ []
    → (linked known text ≡ text) × (missing known text ≡ [])
unclosed text before behind known e f =
    let g : pieces text ≡ before ∷ behind ∷ [] = rw f at e in
    let whole : before ++ (96 ∷ behind) ≡ text = rw g at (join_with_byte-slice_split 96 text) in
    (rw g whole, rw g refl)
