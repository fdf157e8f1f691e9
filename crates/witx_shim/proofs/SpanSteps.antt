-- The table of spans: one more parameter, and the end; numbers that are appended.
use Rattle.std.specs.Prelude.{◌≡◌, ℕ, suc, ◌+◌, ◌-◌, ◌≤◌, ◌<◌, List, [], ◌∷◌, ◌++◌, map, length, drop, Option, Some, None, Bool, true, false, cond, is_some, option_map}
use Rattle.std.specs.Ordering.{is_eq, nat_cmp}
use Rattle.std.specs.Cmp.Lexicographic.{slice_cmp}
use Rattle.std.proofs.Common.{refl, sym, ◌∙◌, ap, arith, get_or}
use Rattle.std.proofs.lemmas.List.{drop_more, drop_all, append_assoc, append-nil}
use Rattle.witx_base.specs.Found.{found}
use Rattle.witx_ast.specs.Tree.{Tree, Field, behind}
use Rattle.witx_ast.specs.Plain.{plain, Plain, Fields}
use Rattle.witx_base.specs.SameBytes.{same_bytes, bytes-to, false-true}
use Rattle.witx_ast.specs.Views.{tree_of}
use Rattle.witx_ast.specs.Functions.{param_field}
use Rattle.witx_ast.specs.declared.types.RecordKind.{RecordKind}
use Rattle.witx_ast.specs.declared.function.InterfaceFuncParam.{InterfaceFuncParam}
use Rattle.witx_ast.specs.declared.types.RecordDatatype.{RecordDatatype, out-RecordDatatype}
use Rattle.witx_ast.specs.declared.types.Variant.{Variant}
use Rattle.witx_ast.specs.Views.{datatype_tree, record_tree, variant_tree}
use Rattle.witx_ast.specs.declared.types.Datatype.{Datatype}
use Rattle.witx_ast.proofs.TreeKinds.{plain-behind}
use Rattle.witx_ast.proofs.Trees.{tree_rules, tree-RecordDatatype, tree-VariantDatatype}
use Rattle.witx_compat.proofs.Tables.{key-bytes}
use Rattle.witx_machine.specs.Run.{numbers}
use Rattle.witx_machine.specs.Signature.{param_words}
use Rattle.witx_shim.specs.declared.spans.Span.{Span}
use Rattle.witx_shim.specs.Numbers.{widths, numbers_called, all_handed, or_none, span_numbers, span_called, earlier_text}

-- one more span
pub put-span : (old new : List (List ℕ × Span)) (name q : List ℕ) (s : Span) (w n : ℕ) → found new q ≡ cond (is_eq (slice_cmp nat_cmp name q)) (Some s) (found old q)
    → s.first ≡ w → s.end ≡ w + n → span_called new q ≡ cond (same_bytes name q) (Some (numbers w n)) (span_called old q)
put-span old new name q s w n e f g =
    ap (option_map span_numbers) (e ∙ ap (λ b. cond b (Some s) (found old q)) (key-bytes name q)) ∙ by (same_bytes name q)
  where
    spanned : span_numbers s ≡ numbers w n
    spanned = rw (f, g) (ap (numbers w) (omega arith))

    by : (b : Bool) → option_map span_numbers (cond b (Some s) (found old q)) ≡ cond b (Some (numbers w n)) (span_called old q)
    by true = ap (λ ns. Some ns) spanned
    by false = refl

next-by : (old new whole : Option (List ℕ)) (b : Bool) (ns : List ℕ) (rest : Option (List ℕ)) → (b ≡ true → is_some old ≡ false) → new ≡ cond b (Some ns) old
    → earlier_text old (cond b (Some ns) rest) ≡ whole → earlier_text new rest ≡ whole
next-by None new whole true ns rest f n e = rw n e
next-by (Some ms) new whole true ns rest f n e = absurd (false-true (sym (f refl)))
next-by old new whole false ns rest f n e = rw n e

pub next-span : (xs : List InterfaceFuncParam) (i : ℕ) (x : InterfaceFuncParam) (old new whole : List ℕ → Option (List ℕ)) (w v : ℕ) → i < length xs → x ≡ get_or xs i x
    → is_some (old x.name) ≡ false → v ≡ w + length (param_words (plain (tree_of x.tref)))
    → ((q : List ℕ) → new q ≡ cond (same_bytes x.name q) (Some (numbers w (length (param_words (plain (tree_of x.tref)))))) (old q))
    → ((q : List ℕ) → earlier_text (old q) (numbers_called q w (map param_field (drop i xs))) ≡ whole q)
    → (q : List ℕ) → earlier_text (new q) (numbers_called q v (map param_field (drop (i + 1) xs))) ≡ whole q
next-span xs i x old new whole w v l p f c n e q =
    let here : earlier_text (old q) (cond (same_bytes x.name q) (Some (numbers w (length (param_words (plain (tree_of x.tref)))))) (numbers_called q (w + length (param_words (plain (tree_of x.tref)))) (map param_field (drop (i + 1) xs)))) ≡ whole q
    = rw (drop_more xs i x l, ← p) at (e q) in
    ap (λ k. earlier_text (new q) (numbers_called q k (map param_field (drop (i + 1) xs)))) c
    ∙ next-by (old q) (new q) (whole q) (same_bytes x.name q) _ _ (λ t. ap (λ m. is_some (old m)) (sym (bytes-to x.name q t)) ∙ f) (n q) here

earlier-none : (o : Option (List ℕ)) → o ≡ earlier_text o None
earlier-none None = refl
earlier-none (Some ns) = refl

pub last-span : (xs : List InterfaceFuncParam) (i w : ℕ) (o whole : Option (List ℕ)) (q : List ℕ) → length xs ≤ i
    → earlier_text o (numbers_called q w (map param_field (drop i xs))) ≡ whole → o ≡ whole
last-span xs i w o whole q l e = earlier-none o ∙ (rw (drop_all i xs l) at e)

pub next-count : (xs : List InterfaceFuncParam) (i : ℕ) (x : InterfaceFuncParam) (w v whole : ℕ) → i < length xs → x ≡ get_or xs i x
    → v ≡ w + length (param_words (plain (tree_of x.tref))) → w + widths (map param_field (drop i xs)) ≡ whole → v + widths (map param_field (drop (i + 1) xs)) ≡ whole
next-count xs i x w v whole l p c e =
    let here : w + (length (param_words (plain (tree_of x.tref))) + widths (map param_field (drop (i + 1) xs))) ≡ whole = rw (drop_more xs i x l, ← p) at e in
    omega (arith, c, here)

pub last-count : (xs : List InterfaceFuncParam) (i w whole : ℕ) → length xs ≤ i → w + widths (map param_field (drop i xs)) ≡ whole → w ≡ whole
last-count xs i w whole l e =
    let none : widths (map param_field (drop i xs)) ≡ 0 = rw (drop_all i xs l) refl in
    omega (arith, none, e)

-- numbers in a row
pub next-number : (pass now whole : List ℕ) (i n : ℕ) → i < n → now ≡ pass ++ i ∷ [] → pass ++ numbers i (n - i) ≡ whole → now ++ numbers (i + 1) (n - (i + 1)) ≡ whole
next-number pass now whole i n l w e =
    let s : n - i ≡ suc (n - (i + 1)) = omega arith in
    ap (λ t. t ++ numbers (i + 1) (n - (i + 1))) w ∙ append_assoc pass (i ∷ []) (numbers (i + 1) (n - (i + 1)))
    ∙ ap (λ m. pass ++ numbers i m) (sym s) ∙ e

pub last-number : (pass whole : List ℕ) (i n : ℕ) → n ≤ i → pass ++ numbers i (n - i) ≡ whole → pass ≡ whole
last-number pass whole i n l e =
    let z : n - i ≡ 0 = omega arith in
    sym (append-nil pass) ∙ ap (λ m. pass ++ numbers i m) (sym z) ∙ e

-- the numbers of one more parameter
pub next-handed : (old : List Field) (xs : List InterfaceFuncParam) (i : ℕ) (x : InterfaceFuncParam) (pass now whole : List ℕ) (ns : Option (List ℕ)) → i < length xs → x ≡ get_or xs i x
    → ns ≡ numbers_called x.name 0 old → now ≡ pass ++ or_none ns
    → pass ++ all_handed old (map param_field (drop i xs)) ≡ whole → now ++ all_handed old (map param_field (drop (i + 1) xs)) ≡ whole
next-handed old xs i x pass now whole ns l p s n e =
    let here : pass ++ (or_none (numbers_called x.name 0 old) ++ all_handed old (map param_field (drop (i + 1) xs))) ≡ whole = rw (drop_more xs i x l, ← p) at e in
    ap (λ t. t ++ all_handed old (map param_field (drop (i + 1) xs))) (n ∙ ap (λ o. pass ++ or_none o) s)
    ∙ append_assoc pass (or_none (numbers_called x.name 0 old)) (all_handed old (map param_field (drop (i + 1) xs))) ∙ here

pub last-handed : (old : List Field) (xs : List InterfaceFuncParam) (i : ℕ) (pass whole : List ℕ) → length xs ≤ i
    → pass ++ all_handed old (map param_field (drop i xs)) ≡ whole → pass ≡ whole
last-handed old xs i pass whole l e = sym (append-nil pass) ∙ (rw (drop_all i xs l) at e)

-- how many words a type has
record-word : (k : RecordKind) (ms : Fields) → 1 ≡ length (param_words (Plain.record_of k ms))
record-word RecordKind.Tuple ms = refl
record-word (RecordKind.Bitflags r) ms = refl
record-word RecordKind.Other ms = refl

pub width-record : (d : RecordDatatype) → length (param_words (plain (record_tree d))) ≡ 1
width-record d = rw (tree-RecordDatatype d) (sym (record-word (out-RecordDatatype d).kind _))

pub width-variant : (v : Variant) → length (param_words (plain (variant_tree v))) ≡ 1
width-variant v = rw (tree-VariantDatatype v) refl

pub width-behind : (d : Datatype) (t : Tree) (n : ℕ) → datatype_tree d ≡ behind t → n ≡ length (param_words (plain (datatype_tree d))) → n ≡ length (param_words (plain t))
width-behind d t n e h = h ∙ ap (λ u. length (param_words (plain u))) e ∙ ap (λ p. length (param_words p)) (plain-behind t)

pub ruleset width_rules = (tree_rules, width-record, width-variant, width-behind)

pub ruleset number_rules = (next-number, last-number)

pub ruleset put_rules = (put-span)

pub ruleset span_rules = (next-span, last-span, next-count, last-count)
