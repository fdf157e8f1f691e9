-- The piece that the code finds by the first bytes of a text stands there: `stands_blank`, `stands_opening`,
-- `stands_closing`, `found_line`, `found_block`, `found_run`.
use Rattle.std.proofs.Common.{◌≡◌, ◌≢◌, ℕ, ◌+◌, ◌<◌, ◌≤◌, ◌==◌, List, [], ◌∷◌, ◌++◌, length, get_or, take, drop, Some, None, refl, sym, ap, ◌∙◌, subst, inl, inr, arith, append_assoc}
use Rattle.std.proofs.lemmas.Bool.{cases_lt}
use Rattle.std.proofs.lemmas.Bool.Decides.{nat_tests}
use Rattle.std.proofs.lemmas.List.{drop_more, drop-drop, drop_all, take-append-drop, length-take-le, length-append, get_or_at}
use Rattle.std.proofs.lemmas.List.Sums.{prefix_len-le-length, prefix_len_stops}
use Rattle.std.specs.List.{prefix_len}
use Rattle.std.proofs.lemmas.Slice.{between_from_start}
use Rattle.std.specs.Str.{IsCharBoundary}
use Rattle.std.proofs.lemmas.Str.{IsCharBoundary-before_ascii}
use Rattle.std.specs.Prelude.{IsTrue, ◌⊎◌, slice_range}
use Rattle.witx_lex.specs.Characters.{is_blank, is_name_character, is_line_byte, begins}
use Rattle.witx_lex.specs.declared.error.LexKind.TheVariants.{UnterminatedComment}
use Rattle.witx_lex.specs.BlockScan.{block_len}
use Rattle.witx_lex.specs.Faults.{IsFaultAt}
use Rattle.witx_lex.specs.Blocks.{IsBlockText}
use Rattle.witx_lex.specs.Pieces.{blank, line, block, opening, closing, run, spelling, Stands}
use Rattle.witx_lex.proofs.Blocks.{Scanned, scanned, no_end}
use Rattle.witx_lex.proofs.Texts.{front, front_two, begins-index, all_of_run, run_stops}

pub stands_blank : (n : ℕ) (text : List ℕ) → 0 < length text → IsTrue (is_blank (get_or text 0 0)) → n ≤ 100 → Stands n (blank (get_or text 0 0)) text (drop 1 text)
stands_blank n text some h le = record { piece = h; spelled = front text _ some refl; ended = tt; depth = le }

pub stands_closing : (n : ℕ) (text : List ℕ) → 0 < length text → get_or text 0 0 ≡ 41 → n ≤ 100 → Stands n closing text (drop 1 text)
stands_closing n text some h le = record { piece = tt; spelled = front text _ some h; ended = tt; depth = omega arith }

pub stands_opening : (n : ℕ) (text : List ℕ) → 0 < length text → get_or text 0 0 ≡ 40 → get_or text 1 0 ≢ 59 → n < 100 → Stands n opening text (drop 1 text)
stands_opening n [] some h second lt = absurd (omega arith)
stands_opening n (b ∷ bs) some h second lt = record { piece = tt; spelled = ap (λ (x : ℕ). x ∷ bs) h; ended = begins-index (λ c. c == 59) bs refl ∙ grind (arith, nat_tests); depth = omega arith }

line_ends : (inside : List ℕ) → (drop (prefix_len is_line_byte inside) inside ≡ []) ⊎ IsTrue (begins (λ b. b == 10) (drop (prefix_len is_line_byte inside) inside))
line_ends inside =
    elim (cases_lt (prefix_len is_line_byte inside) (length inside)) [
      | inl within ↦ inr (rw (drop_more inside (prefix_len is_line_byte inside) 0 within) (let h = prefix_len_stops is_line_byte inside 0 within in grind (arith, nat_tests)))
      | inr past ↦ inl (drop_all (prefix_len is_line_byte inside) inside past)
    ]

pub stands_line : (n : ℕ) (text : List ℕ) → get_or text 0 0 ≡ 59 → get_or text 1 0 ≡ 59 → n ≤ 100
    → let k = prefix_len is_line_byte (drop 2 text) in
    Stands n (line (take k (drop 2 text))) text (drop (k + 2) text)
stands_line n text first second le =
    let inside = drop 2 text in
    let k = prefix_len is_line_byte inside in
    let rest : drop (k + 2) text ≡ drop k inside = ap (λ (j : ℕ). drop j text) (omega arith) ∙ sym (drop-drop k 2 text) in
    let two = front_two text 59 59 (omega arith) (omega arith) first second in
    rw rest (record {
      piece = all_of_run is_line_byte inside;
      spelled = two ∙ ap (λ (t : List ℕ). 59 ∷ 59 ∷ t) (sym (take-append-drop k inside));
      ended = line_ends inside;
      depth = le;
    })

-- ---- as the code has it

pub found_line : (n : ℕ) (text inside bytes t : List ℕ) (len : ℕ) → get_or text 0 0 ≡ 59 → get_or text 1 0 ≡ 59 → n ≤ 100
    → inside ≡ drop 2 text → bytes ≡ inside → len ≡ prefix_len is_line_byte bytes → t ≡ slice_range inside 0 len
    → Stands n (line t) text (drop (len + 2) text) × (len + 2 ≡ length (spelling (line t)))
found_line n text inside bytes t len first second le inside-is bytes-is len-is t-is =
    let k = prefix_len is_line_byte (drop 2 text) in
    let bytes-are : bytes ≡ drop 2 text = bytes-is ∙ inside-is in
    let len-k : len ≡ k = len-is ∙ ap (prefix_len is_line_byte) bytes-are in
    let t-take : t ≡ take k (drop 2 text) = t-is ∙ between_from_start inside len ∙ ap (take len) inside-is ∙ ap (λ (j : ℕ). take j (drop 2 text)) len-k in (
      rw (len-k, t-take) (stands_line n text first second le),
      rw (len-k, t-take) (omega (arith, length-take-le k (drop 2 text) (prefix_len-le-length is_line_byte (drop 2 text)))),
    )

run_some : (text : List ℕ) → IsTrue (is_name_character (get_or text 0 0)) → 0 < prefix_len is_name_character text
run_some [] h = absurd (grind (arith, nat_tests))
run_some (b ∷ bs) h = rw h (omega arith)

pub found_run : (n : ℕ) (text bytes name : List ℕ) (len : ℕ) → IsTrue (is_name_character (get_or text 0 0)) → n ≤ 100
    → bytes ≡ text → len ≡ prefix_len is_name_character bytes → name ≡ slice_range text 0 len → (name ≢ 36 ∷ [])
    → Stands n (run name) text (drop len text) × (len ≡ length (spelling (run name)))
found_run n text bytes name len first le bytes-is len-is name-is more =
    let k = prefix_len is_name_character text in
    let len-k : len ≡ k = len-is ∙ ap (prefix_len is_name_character) bytes-is in
    let name-take : name ≡ take k text = name-is ∙ between_from_start text len ∙ ap (λ (j : ℕ). take j text) len-k in
    let long : length (take k text) ≡ k = length-take-le k text (prefix_len-le-length is_name_character text) in
    let some : 0 < k = run_some text first in (
      record {
        piece = (λ e. let z : length name ≡ 0 = ap (λ (t : List ℕ). length t) e in let q : length name ≡ k = ap (λ (t : List ℕ). length t) name-take ∙ long in omega arith, rw name-take (all_of_run is_name_character text), more);
        spelled = rw (len-k, name-take) (sym (take-append-drop k text));
        ended = rw len-k (run_stops is_name_character text);
        depth = le;
      },
      len-k ∙ sym (ap (λ (t : List ℕ). length t) name-take ∙ long),
    )

-- ---- block comments

pub found_block : (n : ℕ) (text inside bytes t : List ℕ) (len : ℕ) → get_or text 0 0 ≡ 40 → get_or text 1 0 ≡ 59 → n ≤ 100
    → inside ≡ drop 2 text → bytes ≡ inside → Some len ≡ block_len 0 bytes → t ≡ slice_range inside 0 len
    → Stands n (block t) text (drop (len + 4) text) × (len + 4 ≡ length (spelling (block t)))
found_block n text inside bytes t len first second le inside-is bytes-is len-is t-is =
    let i = drop 2 text in
    let found : Scanned len i = scanned i len (ap (block_len 0) (sym (bytes-is ∙ inside-is)) ∙ sym len-is) in
    let t-take : t ≡ take len i = t-is ∙ between_from_start inside len ∙ ap (take len) inside-is in
    let t-len : length t ≡ len = ap (λ (u : List ℕ). length u) t-take ∙ length-take-le len i (omega (arith, found.within)) in
    let rest : drop (len + 4) text ≡ drop (len + 2) i = ap (λ (j : ℕ). drop j text) (omega arith) ∙ sym (drop-drop (len + 2) 2 text) in
    let two = front_two text 40 59 (omega arith) (omega arith) first second in (
      record {
        piece = subst IsBlockText (sym t-take) found.text;
        spelled = two ∙ ap (λ (u : List ℕ). 40 ∷ 59 ∷ u) (found.split ∙ ap (λ (u : List ℕ). u ++ 59 ∷ 41 ∷ drop (len + 2) i) (sym t-take) ∙ sym (append_assoc t (59 ∷ 41 ∷ []) (drop (len + 2) i)) ∙ ap (λ (u : List ℕ). (t ++ 59 ∷ 41 ∷ []) ++ u) (sym rest));
        ended = tt;
        depth = le;
      },
      omega (arith, t-len, length-append t (59 ∷ 41 ∷ [])),
    )

pub no_block : (n : ℕ) (text inside bytes : List ℕ) → get_or text 0 0 ≡ 40 → get_or text 1 0 ≡ 59
    → inside ≡ drop 2 text → bytes ≡ inside → None ≡ block_len 0 bytes → IsFaultAt n text UnterminatedComment 0
no_block n text inside bytes first second inside-is bytes-is none =
    let two = front_two text 40 59 (omega arith) (omega arith) first second in
    subst (λ (t : List ℕ). IsFaultAt n t UnterminatedComment 0) (sym two) (refl, refl, refl, no_end (drop 2 text) (ap (block_len 0) (sym (bytes-is ∙ inside-is)) ∙ sym none))

pub block_boundary : (t : List ℕ) (k : ℕ) → Some k ≡ block_len 0 t → IsCharBoundary t k
block_boundary t k e =
    let found = scanned t k (sym e) in
    let there : get_or t k 0 ≡ 59 = ap (λ (u : List ℕ). get_or u k 0) found.split ∙ get_or_at (take k t) 59 (41 ∷ drop (k + 2) t) 0 k (length-take-le k t (omega (arith, found.within))) in
    IsCharBoundary-before_ascii t k (omega (arith, found.within)) (omega arith)
