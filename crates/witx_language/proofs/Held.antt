-- The comments that the marks of tokens say are those before each.
use Rattle.std.proofs.Common.{◌≡◌, ℕ, zero, suc, ◌+◌, ◌-◌, ◌≤◌, List, [], ◌∷◌, ◌++◌, length, map, take, refl, sym, ap, ◌∙◌, subst, arith}
use Rattle.std.specs.Prelude.{slice_index, slice_range}
use Rattle.std.proofs.Math.Seq.{drop-append_seam, take-append_seam}
use Rattle.std.proofs.lemmas.List.{append_assoc, get_or_past, length-append, length-map}
use Rattle.witx_lex.specs.Tokens.{Lexed}
use Rattle.witx_lex.specs.Views.{texts_view}
use Rattle.witx_values.specs.TextTokens.{AreMarked, comments_before, marks_from}
use Rattle.witx_values.specs.Texts.{token_at}
use Rattle.witx_values.specs.declared.marks.Mark.{Mark}
use Rattle.witx_values.specs.declared.marks.TextTokens.{TextTokens}
use Rattle.witx_language.specs.CommentsHeld.{comment_counts, comments_held}

-- how many comments stand before the first of the tokens, and before the end of each
abbrev counts_from : ℕ → List Lexed → List ℕ
counts_from n ls = n ∷ map (λ m. m.comments) (marks_from n ls)

cut_none : (cs : List (List ℕ)) (n : ℕ) → slice_range cs n 0 ≡ []
cut_none cs n = let e : 0 - n ≡ 0 = omega arith in rw e refl

cut : (before cs more : List (List ℕ)) → slice_range (before ++ (cs ++ more)) (length before) (length before + length cs) ≡ cs
cut before cs more =
    let e : (length before + length cs) - length before ≡ length cs = omega arith in
    rw e (ap (take (length cs)) (drop-append_seam before (cs ++ more)) ∙ take-append_seam cs more)

cut_at : (before cs more : List (List ℕ)) (n : ℕ) → length before ≡ n → slice_range (before ++ (cs ++ more)) n (n + length cs) ≡ cs
cut_at before cs more n e = subst (λ (k : ℕ). slice_range (before ++ (cs ++ more)) k (k + length cs) ≡ cs) e (cut before cs more)

next_is : (at : ℕ) → suc (at + 1) ≡ suc at + 1
next_is at = omega arith

read_from : (before behind : List (List ℕ)) (n : ℕ) (ls : List Lexed) (at : ℕ) → length before ≡ n
    → slice_range (before ++ (comments_before ls ++ behind)) (slice_index (counts_from n ls) at) (slice_index (counts_from n ls) (at + 1)) ≡ (token_at ls at).comments
read_from before behind n [] zero e = cut_none (before ++ behind) n
read_from before behind n [] (suc at) e =
    subst (λ (k : ℕ). slice_range (before ++ behind) (slice_index (counts_from n []) (suc at)) (slice_index (counts_from n []) k) ≡ []) (next_is at) (cut_none (before ++ behind) 0)
read_from before behind n (l ∷ ls) zero e =
    subst (λ (cs : List (List ℕ)). slice_range (before ++ cs) n (n + length l.comments) ≡ l.comments) (sym (append_assoc l.comments (comments_before ls) behind))
    (cut_at before l.comments (comments_before ls ++ behind) n e)
read_from before behind n (l ∷ ls) (suc at) e =
    let there : before ++ ((l.comments ++ comments_before ls) ++ behind) ≡ (before ++ l.comments) ++ (comments_before ls ++ behind)
    = ap (λ (cs : List (List ℕ)). before ++ cs) (append_assoc l.comments (comments_before ls) behind) ∙ sym (append_assoc before l.comments (comments_before ls ++ behind)) in
    let more = n + length l.comments in
    let count : length (before ++ l.comments) ≡ more = length-append before l.comments ∙ ap (λ (k : ℕ). k + length l.comments) e in
    subst (λ (k : ℕ). slice_range (before ++ ((l.comments ++ comments_before ls) ++ behind)) (slice_index (counts_from more ls) at) (slice_index (counts_from n (l ∷ ls)) k) ≡ (token_at ls at).comments) (next_is at)
    (subst (λ (cs : List (List ℕ)). slice_range cs (slice_index (counts_from more ls) at) (slice_index (counts_from more ls) (at + 1)) ≡ (token_at ls at).comments) (sym there)
    (read_from (before ++ l.comments) behind more ls at count))

pub comments_are : {K : Type 0} (held : TextTokens K) (ls : List Lexed) (at : ℕ) → AreMarked held ls → comments_held held at ≡ (token_at ls at).comments
comments_are held ls at h =
    ap (λ (ms : List Mark). slice_range (texts_view held.comments.items) (slice_index (0 ∷ map (λ m. m.comments) ms) at) (slice_index (0 ∷ map (λ m. m.comments) ms) (at + 1))) h.marks
    ∙ ap (λ (cs : List (List ℕ)). slice_range cs (slice_index (counts_from 0 ls) at) (slice_index (counts_from 0 ls) (at + 1))) h.comments
    ∙ read_from [] h.behind 0 ls at refl

none_past : (ns : List ℕ) (cs : List (List ℕ)) (at : ℕ) → length ns ≤ at → [] ≡ slice_range cs (slice_index ns at) (slice_index ns (at + 1))
none_past ns cs at le = sym (ap (λ (n : ℕ). slice_range cs (slice_index ns at) n) (get_or_past ns (at + 1) 0 (omega (arith, le))) ∙ cut_none cs (slice_index ns at))

-- behind the last token there are none
pub none_behind : {K : Type 0} (held : TextTokens K) (at : ℕ) → length held.marks.items ≤ at → [] ≡ comments_held held (at + 1)
none_behind held at le =
    none_past (comment_counts held) (texts_view held.comments.items) (at + 1)
    (let count = length-map held.marks.items (λ m. m.comments) in omega (arith, le, count))
