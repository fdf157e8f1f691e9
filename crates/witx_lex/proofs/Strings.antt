-- `StringSofar`: the parts of a string up to an offset, which each part that is read carries on up to the closing quote.
use Rattle.std.proofs.Common.{◌≡◌, ℕ, ◌+◌, ◌<◌, ◌≤◌, List, [], ◌∷◌, ◌++◌, length, get_or, drop, IsUtf8, refl, sym, ap, ◌∙◌, subst, arith, append_assoc}
use Rattle.std.proofs.lemmas.Bool.{and_parts}
use Rattle.std.proofs.lemmas.List.{append-nil, length-append, drop_at, drop-drop, drop_more}
use Rattle.std.specs.List.{list_all, flat_map}
use Rattle.std.specs.Prelude.{IsTrue}
use Rattle.witx_lex.specs.Characters.{is_raw}
use Rattle.witx_lex.specs.Pieces.{Part, raw, is_part, part_spelling, part_value, spelling, quoted, Stands}
use Rattle.witx_lex.specs.Faults.{StringParts, IsFaultAt}
use Rattle.witx_lex.specs.declared.error.LexKind.TheVariants.{NotUtf8}
use Rattle.witx_lex.proofs.Texts.{front}

-- what was read of a string up to this offset
abbrev pub StringSofar : List ℕ → ℕ → List ℕ → Type 0
StringSofar text at out = (ps : List Part) × StringParts ps (drop 1 text) (drop at text) × (out ≡ flat_map part_value ps) × (at ≡ 1 + length (flat_map part_spelling ps))

all_more : (ps : List Part) (p : Part) → IsTrue (list_all is_part ps) → IsTrue (is_part p) → IsTrue (list_all is_part (ps ++ p ∷ []))
all_more [] p all h = rw h refl
all_more (q ∷ ps) p all h = let parts = and_parts (is_part q) (list_all is_part ps) all in rw parts.0 (all_more ps p parts.1 h)

map_more : (f : Part → List ℕ) (ps : List Part) (p : Part) → flat_map f (ps ++ p ∷ []) ≡ flat_map f ps ++ f p
map_more f [] p = append-nil (f p)
map_more f (q ∷ ps) p = ap (λ (t : List ℕ). f q ++ t) (map_more f ps p) ∙ sym (append_assoc (f q) (flat_map f ps) (f p))

pub String_more : (text : List ℕ) (at new_at : ℕ) (out new_out rest : List ℕ) (p : Part) → StringSofar text at out → IsTrue (is_part p)
    → drop at text ≡ part_spelling p ++ rest → new_at ≡ at + length (part_spelling p) → new_out ≡ out ++ part_value p → StringSofar text new_at new_out
String_more text at new_at out new_out rest p s valid spelled at-is out-is =
    let next : drop new_at text ≡ rest = ap (λ (j : ℕ). drop j text) at-is ∙ sym (drop-drop (length (part_spelling p)) at text) ∙ ap (drop (length (part_spelling p))) spelled ∙ drop_at (part_spelling p) rest _ refl in
    let ps = s.0 in (
      ps ++ p ∷ [],
      (all_more ps p s.1.0 valid, s.1.1 ∙ ap (λ (t : List ℕ). flat_map part_spelling ps ++ t) (spelled ∙ ap (λ (t : List ℕ). part_spelling p ++ t) (sym next)) ∙ sym (append_assoc (flat_map part_spelling ps) (part_spelling p) (drop new_at text)) ∙ ap (λ (t : List ℕ). t ++ drop new_at text) (sym (map_more part_spelling ps p))),
      out-is ∙ ap (λ (t : List ℕ). t ++ part_value p) s.2 ∙ sym (map_more part_value ps p),
      at-is ∙ omega (arith, s.3, ap (λ (t : List ℕ). length t) (map_more part_spelling ps p), length-append (flat_map part_spelling ps) (part_spelling p)),
    )

pub String_raw : (text : List ℕ) (at b : ℕ) (out new_out : List ℕ) → at < length text → b ≡ get_or text at 0 → IsTrue (is_raw b) → StringSofar text at out → new_out ≡ out ++ b ∷ [] → StringSofar text (at + 1) new_out
String_raw text at b out new_out lt b-is h s e =
    String_more text at (at + 1) out new_out (drop (at + 1) text) (raw b) s h (drop_more text at 0 lt ∙ ap (λ (x : ℕ). x ∷ drop (at + 1) text) (sym b-is)) refl e

pub String_end : (n : ℕ) (text out : List ℕ) (at : ℕ) → get_or text 0 0 ≡ 34 → n ≤ 100 → at < length text → get_or text at 0 ≡ 34 → StringSofar text at out → IsUtf8 out
    → (ps : List Part) × Stands n (quoted ps) text (drop (at + 1) text) × (at + 1 ≡ length (spelling (quoted ps))) × (out ≡ flat_map part_value ps)
String_end n text out at first le lt last s utf8 =
    let ps = s.0 in
    let whole : text ≡ 34 ∷ drop 1 text = front text 34 (omega arith) first in (
      ps,
      record {
        piece = (s.1.0, subst IsUtf8 s.2 utf8);
        spelled = whole ∙ ap (λ (t : List ℕ). 34 ∷ t) (s.1.1 ∙ ap (λ (t : List ℕ). flat_map part_spelling ps ++ t) (drop_more text at 0 lt ∙ ap (λ (b : ℕ). b ∷ drop (at + 1) text) last) ∙ sym (append_assoc (flat_map part_spelling ps) (34 ∷ []) (drop (at + 1) text)));
        ended = tt;
        depth = le;
      },
      omega (arith, s.3, length-append (flat_map part_spelling ps) (34 ∷ [])),
      s.2,
    )

pub String_not_utf8 : (n : ℕ) (text out : List ℕ) (at : ℕ) → get_or text 0 0 ≡ 34 → at < length text → get_or text at 0 ≡ 34 → StringSofar text at out → (IsUtf8 out → ⊥) → IsFaultAt n text NotUtf8 0
String_not_utf8 n [] out at first lt last s not_text = absurd (omega arith)
String_not_utf8 n (b ∷ bs) out at first lt last s not_text =
    (refl, first, s.0, drop (at + 1) (b ∷ bs), (s.1.0, s.1.1 ∙ ap (λ (t : List ℕ). flat_map part_spelling s.0 ++ t) (drop_more (b ∷ bs) at 0 lt ∙ ap (λ (c : ℕ). c ∷ drop (at + 1) (b ∷ bs)) last)), λ u. not_text (subst IsUtf8 (sym s.2) u))
