-- What marks, kinds and comments tell of the token with a number, and how they grow by a token.
use Rattle.std.proofs.Common.{◌≡◌, ℕ, zero, suc, ◌+◌, ◌-◌, ◌<◌, ◌≤◌, List, [], ◌∷◌, ◌++◌, length, get_or, take, drop, map, refl, sym, ap, ◌∙◌, subst, arith, append_assoc, length-append, take_at, drop_at}
use Rattle.std.proofs.lemmas.List.{append-nil, map-append, length-map, drop-map, take-map}
use Rattle.std.proofs.lemmas.List.Concat.{flat_map-append}
use Rattle.std.proofs.lemmas.Bool.Decides.{nat_tests}
use Rattle.std.specs.Prelude.{slice_range, nat_lt, true, false}
use Rattle.std.specs.Borrow.{Bor}
use Rattle.witx_lex.specs.Sinks.{lexed_token}
use Rattle.witx_lex.specs.Slices.{SpellsToken}
use Rattle.witx_lex.specs.Tokens.{Token, Lexed}
use Rattle.witx_lex.specs.Views.{texts_view}
use Rattle.witx_lex.specs.declared.token.Span.{Span}
use Rattle.witx_values.proofs.Cuts.{stand}
use Rattle.witx_values.specs.declared.marks.Mark.{Mark}
use Rattle.witx_values.specs.declared.marks.TextTokens.{TextTokens}
use Rattle.witx_values.specs.Language.{Language, kinds_of}
use Rattle.witx_values.specs.TextTokens.{span_of, IsTokenSpan, comments_before, marks_from, AreTold, AreMarked, AreHeld}
use Rattle.witx_values.specs.Texts.{no_lexed, token_at, start_of}

-- ---- marks

is_below : (at n : ℕ) → at < n → nat_lt at n ≡ true
is_below at n lt = grind (arith, nat_tests)

is_past : (at n : ℕ) → n ≤ at → nat_lt at n ≡ false
is_past at n le = grind (arith, nat_tests)

marks_length : (n : ℕ) (ls : List Lexed) → length (marks_from n ls) ≡ length ls
marks_length n [] = refl
marks_length n (l ∷ ls) = omega (arith, marks_length (n + length l.comments) ls)

span_there : (n : ℕ) (ls : List Lexed) (at : ℕ) (d : Mark) → at < length ls → (get_or (marks_from n ls) at d).span ≡ span_of (token_at ls at)
span_there n [] at d lt = absurd (omega (arith, lt))
span_there n (l ∷ ls) zero d lt = refl
span_there n (l ∷ ls) (suc at) d lt = span_there (n + length l.comments) ls at d (omega (arith, lt))

count_there : (n : ℕ) (ls : List Lexed) (at : ℕ) (d : Mark) → at < length ls → (get_or (marks_from n ls) at d).comments ≡ n + length (comments_before (take (suc at) ls))
count_there n [] at d lt = absurd (omega (arith, lt))
count_there n (l ∷ ls) zero d lt = ap (λ (cs : List (List ℕ)). n + length cs) (sym (append-nil l.comments))
count_there n (l ∷ ls) (suc at) d lt =
    let more = count_there (n + length l.comments) ls at d (omega (arith, lt)) in
    omega (arith, more, length-append l.comments (comments_before (take (suc at) ls)))

marks_more : (n : ℕ) (ls : List Lexed) (l : Lexed) → marks_from n (ls ++ l ∷ []) ≡ marks_from n ls ++ record { span = span_of l; comments = n + length (comments_before ls) + length l.comments } ∷ []
marks_more n [] l = ap (λ (k : ℕ). record { span = span_of l; comments = k } ∷ []) (omega arith)
marks_more n (x ∷ ls) l =
    let count : n + length x.comments + length (comments_before ls) + length l.comments ≡ n + length (comments_before (x ∷ ls)) + length l.comments =
    omega (arith, length-append x.comments (comments_before ls)) in
    ap (λ (ms : List Mark). record { span = span_of x; comments = n + length x.comments } ∷ ms)
    (marks_more (n + length x.comments) ls l ∙ ap (λ (k : ℕ). marks_from (n + length x.comments) ls ++ record { span = span_of l; comments = k } ∷ []) count)

-- ---- comments

-- those of one token stand between those before it and those behind
comments_split : (ls : List Lexed) (at : ℕ) → at < length ls
    → comments_before ls ≡ comments_before (take at ls) ++ ((token_at ls at).comments ++ comments_before (drop (suc at) ls))
comments_split [] at lt = absurd (omega (arith, lt))
comments_split (l ∷ ls) zero lt = refl
comments_split (l ∷ ls) (suc at) lt =
    ap (λ (cs : List (List ℕ)). l.comments ++ cs) (comments_split ls at (omega (arith, lt)))
    ∙ sym (append_assoc l.comments (comments_before (take at ls)) ((token_at ls at).comments ++ comments_before (drop (suc at) ls)))

counted : (ls : List Lexed) (at : ℕ) → at < length ls → length (comments_before (take (suc at) ls)) ≡ length (comments_before (take at ls)) + length (token_at ls at).comments
counted [] at lt = absurd (omega (arith, lt))
counted (l ∷ ls) zero lt =
    let own : length (l.comments ++ []) ≡ length l.comments = ap (λ (cs : List (List ℕ)). length cs) (append-nil l.comments) in
    let plain : length l.comments ≡ 0 + length l.comments = omega arith in
    own ∙ plain
counted (l ∷ ls) (suc at) lt =
    let more = counted ls at (omega (arith, lt)) in
    omega (arith, more, length-append l.comments (comments_before (take (suc at) ls)), length-append l.comments (comments_before (take at ls)))

between : {X : Type 0} (xs ys zs all : List X) (from to : ℕ) → all ≡ xs ++ (ys ++ zs) → from ≡ length xs → to ≡ length xs + length ys → slice_range all from to ≡ ys
between {X} xs ys zs all from to e f t =
    let long : to - from ≡ length ys = omega arith in
    ap (λ (n : ℕ). take n (drop from all)) long
    ∙ ap (take (length ys)) (ap (λ (us : List X). drop from us) e ∙ drop_at xs (ys ++ zs) from (sym f))
    ∙ take_at ys zs (length ys) refl

no_token : (ls : List Lexed) (at : ℕ) → length ls ≤ at → (token_at ls at).comments ≡ []
no_token [] zero le = refl
no_token [] (suc at) le = refl
no_token (l ∷ ls) zero le = absurd (omega (arith, le))
no_token (l ∷ ls) (suc at) le = no_token ls at (omega (arith, le))

-- ---- of tokens that are marked

module _ {T : Type 0} (held : TextTokens T) (ls : List Lexed) (h : AreMarked held ls) where
  -- there are as many marks as tokens
  pub marks_count : length held.marks.items ≡ length ls
  marks_count = ap (λ (ms : List Mark). length ms) h.marks ∙ marks_length 0 ls

  -- the mark says where its token stands
  pub span_at : (at : ℕ) (m : Mark) → at < length held.marks.items → m ≡ get_or held.marks.items at m → m.span ≡ span_of (token_at ls at)
  span_at at m lt e =
      ap (λ (x : Mark). x.span) (e ∙ ap (λ (ms : List Mark). get_or ms at m) h.marks) ∙ span_there 0 ls at m (omega (arith, lt, marks_count))

  -- a token of the text stands there
  pub token_span : (at : ℕ) (s : Span) → at < length held.marks.items → s ≡ span_of (token_at ls at) → IsTokenSpan held.text.now s
  token_span at s lt e = (ls, at, h.lexed, omega (arith, lt, marks_count), e)

  -- the bytes at its span spell it
  pub spelled_at : (at : ℕ) (s : Span) (bytes : List ℕ) → at < length held.marks.items → s ≡ span_of (token_at ls at) → bytes ≡ slice_range held.text.now s.start s.end
      → SpellsToken bytes (token_at ls at).token
  spelled_at at s bytes lt e is =
      let there = (stand held.text.now ls h.lexed at no_lexed (omega (arith, lt, marks_count))).spelled in
      subst (λ (bs : List ℕ). SpellsToken bs (token_at ls at).token) (sym (is ∙ ap (λ (x : Span). slice_range held.text.now x.start x.end) e)) there

  -- where it starts
  pub starts_at : (at : ℕ) (m : Mark) → at < length held.marks.items → m ≡ get_or held.marks.items at m → m.span.start ≡ start_of held.text.now ls at
  starts_at at m lt e = rw (is_below at (length ls) (omega (arith, lt, marks_count))) (ap (λ (s : Span). s.start) (span_at at m lt e))

  -- the end of the text, behind the last token
  pub ends_at : (at : ℕ) → length held.marks.items ≤ at → length held.text.now ≡ start_of held.text.now ls at
  ends_at at le = rw (is_past at (length ls) (omega (arith, le, marks_count))) refl

  -- and how many comments stand before the end of its token
  pub count_at : (at : ℕ) (m : Mark) → at < length held.marks.items → m ≡ get_or held.marks.items at m → m.comments ≡ length (comments_before (take (at + 1) ls))
  count_at at m lt e =
      let there = ap (λ (x : Mark). x.comments) (e ∙ ap (λ (ms : List Mark). get_or ms at m) h.marks) ∙ count_there 0 ls at m (omega (arith, lt, marks_count)) in
      let next : suc at ≡ at + 1 = omega arith in
      let plain : 0 + length (comments_before (take (suc at) ls)) ≡ length (comments_before (take (suc at) ls)) = omega arith in
      there ∙ plain ∙ ap (λ (k : ℕ). length (comments_before (take k ls))) next

  -- the comments between two such counts are those of the token
  pub comments_there : (at from to : ℕ) → at < length held.marks.items → from ≡ length (comments_before (take at ls)) → to ≡ length (comments_before (take (at + 1) ls))
      → texts_view (slice_range held.comments.items from to) ≡ (token_at ls at).comments
  comments_there at from to lt f t =
      let inside : at < length ls = omega (arith, lt, marks_count) in
      let next : at + 1 ≡ suc at = omega arith in
      let all : texts_view held.comments.items ≡ comments_before (take at ls) ++ ((token_at ls at).comments ++ (comments_before (drop (suc at) ls) ++ h.behind)) =
      h.comments ∙ ap (λ (cs : List (List ℕ)). cs ++ h.behind) (comments_split ls at inside)
      ∙ append_assoc (comments_before (take at ls)) ((token_at ls at).comments ++ comments_before (drop (suc at) ls)) h.behind
      ∙ ap (λ (cs : List (List ℕ)). comments_before (take at ls) ++ cs) (append_assoc (token_at ls at).comments (comments_before (drop (suc at) ls)) h.behind) in
      sym (take-map (λ (b : Bor (List ℕ)). b.now) (to - from) (drop from held.comments.items) ∙ refl)
      ∙ ap (take (to - from)) (sym (drop-map (λ (b : Bor (List ℕ)). b.now) from held.comments.items) ∙ refl)
      ∙ between (comments_before (take at ls)) (token_at ls at).comments (comments_before (drop (suc at) ls) ++ h.behind) (texts_view held.comments.items) from to all f
      (t ∙ ap (λ (k : ℕ). length (comments_before (take k ls))) next ∙ counted ls at inside)

  -- they stand among those that are held
  pub counts_inside : (at from to : ℕ) → at < length held.marks.items → from ≡ length (comments_before (take at ls)) → to ≡ length (comments_before (take (at + 1) ls))
      → (from ≤ to) × (to ≤ length held.comments.items)
  counts_inside at from to lt f t =
      let inside : at < length ls = omega (arith, lt, marks_count) in
      let next : at + 1 ≡ suc at = omega arith in
      let step = counted ls at inside in
      let upto : to ≡ length (comments_before (take (suc at) ls)) = t ∙ ap (λ (k : ℕ). length (comments_before (take k ls))) next in
      let whole : length held.comments.items ≡ length (comments_before ls) + length h.behind =
      sym (length-map held.comments.items (λ (b : Bor (List ℕ)). b.now)) ∙ ap (λ (cs : List (List ℕ)). length cs) h.comments ∙ length-append (comments_before ls) h.behind in
      let parts : length (comments_before ls) ≡ length (comments_before (take at ls)) + length ((token_at ls at).comments ++ comments_before (drop (suc at) ls)) =
      ap (λ (cs : List (List ℕ)). length cs) (comments_split ls at inside) ∙ length-append (comments_before (take at ls)) ((token_at ls at).comments ++ comments_before (drop (suc at) ls)) in
      let own = length-append (token_at ls at).comments (comments_before (drop (suc at) ls)) in
      (omega (arith, step, upto, f), omega (arith, step, upto, whole, parts, own))

  -- behind the last token stand none
  pub none_there : (at : ℕ) → length held.marks.items ≤ at → (token_at ls at).comments ≡ []
  none_there at le = no_token ls at (omega (arith, le, marks_count))

-- ---- kinds

kind_there : {T N P S V : Type 0} (a : Language T N P Lexed S V) (ls : List Lexed) (at : ℕ) (d : T) → at < length ls → get_or (kinds_of a ls) at d ≡ a.kind (token_at ls at)
kind_there a [] at d lt = absurd (omega (arith, lt))
kind_there a (l ∷ ls) zero d lt = refl
kind_there a (l ∷ ls) (suc at) d lt = kind_there a ls at d (omega (arith, lt))

kinds_length : {T N P S V : Type 0} (a : Language T N P Lexed S V) (ls : List Lexed) → length (kinds_of a ls) ≡ length ls + 1
kinds_length a [] = refl
kinds_length a (l ∷ ls) = omega (arith, kinds_length a ls)

module _ {T N P S V : Type 0} (a : Language T N P Lexed S V) (held : TextTokens T) (ls : List Lexed) (h : AreHeld a held ls) where
  -- the kind with the number of a token is that of the token
  pub kind_at : (at : ℕ) (k : T) → at < length held.marks.items → k ≡ get_or held.kinds.items at k → k ≡ a.kind (token_at ls at)
  kind_at at k lt e = e ∙ ap (λ (ks : List T). get_or ks at k) h.kinds ∙ kind_there a ls at k (omega (arith, lt, marks_count held ls h.marked))

  -- there is one kind more than there are tokens
  pub kinds_count : length held.kinds.items ≡ length ls + 1
  kinds_count = ap (λ (ks : List T). length ks) h.kinds ∙ kinds_length a ls

-- ---- one token more

pub told_more : {T N P S V : Type 0} (a : Language T N P Lexed S V) (kinds kinds_then : List T) (marks marks_then : List Mark) (texts : List (Bor (List ℕ))) (ls : List Lexed)
    (behind : List (List ℕ)) (k : T) (t : Token) (s : Span) (count : ℕ) → AreTold a kinds marks (texts_view texts) ls behind → k ≡ a.kind (lexed_token t s behind)
    → kinds_then ≡ kinds ++ k ∷ [] → count ≡ length texts → marks_then ≡ marks ++ record { span = s; comments = count } ∷ []
    → AreTold a kinds_then marks_then (texts_view texts) (ls ++ lexed_token t s behind ∷ []) []
told_more {T} a kinds kinds_then marks marks_then texts ls behind k t s count h k-is kinds-are count-is marks-are =
    let l = lexed_token t s behind in
    let own : comments_before (ls ++ l ∷ []) ≡ comments_before ls ++ behind =
    flat_map-append (λ (x : Lexed). x.comments) ls (l ∷ []) ∙ ap (λ (cs : List (List ℕ)). comments_before ls ++ cs) (append-nil behind) in
    let all : length texts ≡ length (comments_before ls) + length behind =
    sym (length-map texts (λ (b : Bor (List ℕ)). b.now)) ∙ ap (λ (cs : List (List ℕ)). length cs) h.comments_are ∙ length-append (comments_before ls) behind in
    let counts : count ≡ 0 + length (comments_before ls) + length behind = omega (arith, count-is, all) in
    record {
      kinds_are =
          kinds-are ∙ ap (λ (ks : List T). ks ++ k ∷ []) h.kinds_are ∙ ap (λ (x : T). map a.kind ls ++ x ∷ []) k-is
          ∙ sym (map-append a.kind ls (l ∷ []));
      marks_are =
          marks-are ∙ ap (λ (ms : List Mark). ms ++ record { span = s; comments = count } ∷ []) h.marks_are
          ∙ ap (λ (n : ℕ). marks_from 0 ls ++ record { span = s; comments = n } ∷ []) counts ∙ sym (marks_more 0 ls l);
      comments_are = h.comments_are ∙ sym own ∙ sym (append-nil (comments_before (ls ++ l ∷ [])));
    }
