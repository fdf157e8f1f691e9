-- What stands behind a cut by its first bytes, and that handing it on is one piece more.
use Rattle.std.proofs.Common.{◌≡◌, ◌≢◌, ℕ, ◌+◌, ◌-◌, ◌<◌, ◌≤◌, List, [], ◌∷◌, ◌++◌, length, get_or, take, drop, Result, Ok, Err, IsUtf8, refl, sym, ap, ◌∙◌, subst, arith, Bool, true}
use Rattle.std.proofs.lemmas.Bool.Decides.{nat_tests}
use Rattle.std.proofs.lemmas.List.{length-append, length-drop, get_or-drop, drop-drop, take-append-drop, drop_more}
use Rattle.std.proofs.lemmas.Slice.{between_from_start}
use Rattle.std.proofs.lemmas.Str.{IsUtf8-drop, IsCharBoundary-from_rest}
use Rattle.std.specs.List.{prefix_len, flat_map}
use Rattle.std.specs.Prelude.{IsTrue, IfOk, slice_range}
use Rattle.std.specs.Str.{IsCharBoundary}
use Rattle.witx_lex.specs.declared.cut.Cut.{Cut}
use Rattle.witx_lex.specs.declared.error.LexError.{LexError}
use Rattle.witx_lex.specs.declared.error.LexKind.{LexKind}
use Rattle.witx_lex.specs.declared.error.LexKind.TheVariants.{UnexpectedCharacter, UnterminatedComment, UnterminatedString, BadEscape, BadCharacter, NotUtf8, EmptyId, TooDeep}
use Rattle.witx_lex.specs.Characters.{is_name_character}
use Rattle.witx_lex.specs.Faults.{parts_length, IsFaultAt}
use Rattle.witx_lex.specs.Meaning.{Seen, nothing, comment, token, piece_seen}
use Rattle.witx_lex.specs.Pieces.{Part, Piece, opening, closing, run, spelling, part_spelling, open_after, Stands}
use Rattle.witx_lex.specs.Sinks.{TookToken, TookSeen, HandedOn}
use Rattle.witx_lex.specs.Tokens.{Token, Lexed}
use Rattle.witx_lex.proofs.Found.{found_run, stands_opening, stands_closing}
use Rattle.witx_lex.proofs.Progress.{Sofar, Sofar_more, Sofar_token, open_comment}
use Rattle.witx_lex.proofs.Texts.{run_stops, IsCharBoundary-ascii_run}

-- ---- what stands behind a cut

first_behind : (text : List ℕ) (at b : ℕ) → get_or text at 0 ≡ b → get_or (drop at text) 0 0 ≡ b
first_behind text at b e = get_or-drop at text 0 0 ∙ ap (λ (k : ℕ). get_or text k 0) (omega arith) ∙ e

some_behind : (text : List ℕ) (at : ℕ) → at < length text → 0 < length (drop at text)
some_behind text at within = omega (arith, length-drop at text)

next : (text : List ℕ) (at : ℕ) → drop 1 (drop at text) ≡ drop (at + 1) text
next text at = drop-drop 1 at text

-- a piece that stands at the beginning of what is left of a text
pub stands_behind : (n at len : ℕ) (text rest : List ℕ) (p : Piece) → rest ≡ drop at text → Stands n p rest (drop len rest) → Stands n p (drop at text) (drop (at + len) text)
stands_behind n at len text rest p e h =
    subst (λ (t : List ℕ). Stands n p (drop at text) t) (drop-drop len at text) (subst (λ (t : List ℕ). Stands n p t (drop len t)) e h)

pub opening_behind : (n at : ℕ) (text : List ℕ) → at < length text → get_or text at 0 ≡ 40 → get_or text (at + 1) 0 ≢ 59 → n < 100
    → Stands n opening (drop at text) (drop (at + 1) text)
opening_behind n at text within first second lt =
    subst (λ (t : List ℕ). Stands n opening (drop at text) t) (next text at)
    (stands_opening n (drop at text) (some_behind text at within) (first_behind text at 40 first) (λ e. second (sym (get_or-drop at text 1 0) ∙ e)) lt)

pub closing_behind : (n at : ℕ) (text : List ℕ) → at < length text → get_or text at 0 ≡ 41 → n ≤ 100 → Stands n closing (drop at text) (drop (at + 1) text)
closing_behind n at text within first le =
    subst (λ (t : List ℕ). Stands n closing (drop at text) t) (next text at)
    (stands_closing n (drop at text) (some_behind text at within) (first_behind text at 41 first) le)

-- the run of name characters behind a cut, of which the first is passed
prefix_step : (p : ℕ → Bool) (x : ℕ) (xs : List ℕ) → p x ≡ true → prefix_len p (x ∷ xs) ≡ 1 + prefix_len p xs
prefix_step p x xs e = rw e refl

pub run_onward : (at end : ℕ) (text bytes : List ℕ) → at < length text → IsTrue (is_name_character (get_or text at 0)) → bytes ≡ text
    → end ≡ at + 1 + prefix_len is_name_character (drop (at + 1) bytes) → end ≡ at + prefix_len is_name_character (drop at bytes)
run_onward at end text bytes within named bytes-is end-is =
    let p = is_name_character in
    let more = drop (at + 1) text in
    let whole : prefix_len p (drop at bytes) ≡ prefix_len p (get_or text at 0 ∷ more) = ap (λ (t : List ℕ). prefix_len p (drop at t)) bytes-is ∙ ap (prefix_len p) (drop_more text at 0 within) in
    let tail : prefix_len p (drop (at + 1) bytes) ≡ prefix_len p more = ap (λ (t : List ℕ). prefix_len p (drop (at + 1) t)) bytes-is in
    let step : prefix_len p (get_or text at 0 ∷ more) ≡ 1 + prefix_len p more = prefix_step p (get_or text at 0) more named in
    omega (arith, end-is, whole, tail, step)

run_is : (text bytes name : List ℕ) (at end : ℕ) → bytes ≡ text → end ≡ at + prefix_len is_name_character (drop at bytes) → name ≡ slice_range text at end
    → name ≡ slice_range (drop at text) 0 (prefix_len is_name_character (drop at text))
run_is text bytes name at end bytes-is end-is name-is =
    let rest = drop at text in
    let k = prefix_len is_name_character rest in
    let end-k : end ≡ at + k = end-is ∙ ap (λ (t : List ℕ). at + prefix_len is_name_character (drop at t)) bytes-is in
    let long : end - at ≡ k = omega (arith, end-k) in
    name-is ∙ ap (λ (j : ℕ). take j rest) long ∙ sym (between_from_start rest k)

pub run_behind : (n at end : ℕ) (text bytes name : List ℕ) → IsTrue (is_name_character (get_or text at 0)) → n ≤ 100 → bytes ≡ text
    → end ≡ at + prefix_len is_name_character (drop at bytes) → name ≡ slice_range text at end → (name ≢ 36 ∷ [])
    → Stands n (run name) (drop at text) (drop end text) × (end ≡ at + length (spelling (run name)))
run_behind n at end text bytes name first le bytes-is end-is name-is more =
    let rest = drop at text in
    let k = prefix_len is_name_character rest in
    let end-k : end ≡ at + k = end-is ∙ ap (λ (t : List ℕ). at + prefix_len is_name_character (drop at t)) bytes-is in
    let named : IsTrue (is_name_character (get_or rest 0 0)) = ap is_name_character (first_behind text at _ refl) ∙ first in
    let h = found_run n rest rest name k named le refl refl (run_is text bytes name at end bytes-is end-is name-is) more in (
      subst (λ (t : List ℕ). Stands n (run name) rest t) (drop-drop k at text ∙ ap (λ (j : ℕ). drop j text) (sym end-k)) h.0,
      end-k ∙ ap (λ (j : ℕ). at + j) h.1,
    )

pub empty_behind : (n at end : ℕ) (text bytes name : List ℕ) → bytes ≡ text → end ≡ at + prefix_len is_name_character (drop at bytes)
    → name ≡ slice_range text at end → name ≡ 36 ∷ [] → IsFaultAt n (drop at text) EmptyId 0
empty_behind n at end text bytes name bytes-is end-is name-is lone =
    let rest = drop at text in
    let k = prefix_len is_name_character rest in
    let name-take : name ≡ take k rest = run_is text bytes name at end bytes-is end-is name-is ∙ between_from_start rest k in
    let whole : rest ≡ 36 ∷ drop k rest = sym (take-append-drop k rest) ∙ ap (λ (t : List ℕ). t ++ drop k rest) (sym name-take ∙ lone) in
    subst (λ (t : List ℕ). IsFaultAt n t EmptyId 0) (sym whole) (refl, refl, run_stops is_name_character rest)

pub run_boundary : (at end : ℕ) (text bytes : List ℕ) → IsUtf8 text → IsCharBoundary text at → bytes ≡ text
    → end ≡ at + prefix_len is_name_character (drop at bytes) → IsCharBoundary text end
run_boundary at end text bytes utf8 boundary bytes-is end-is =
    let rest = drop at text in
    let end-k = end-is ∙ ap (λ (t : List ℕ). at + prefix_len is_name_character (drop at t)) bytes-is in
    subst (IsCharBoundary text) (sym end-k) (IsCharBoundary-from_rest text at (prefix_len is_name_character rest) boundary.0
    (IsCharBoundary-ascii_run is_name_character rest (IsUtf8-drop text at utf8 boundary) (λ b e. grind (arith, nat_tests))))

-- ---- faults

-- a fault lies in its text
inside_parts : (k : ℕ) (ps : List Part) (bs rest : List ℕ) → bs ≡ flat_map part_spelling ps ++ rest → k ≡ parts_length ps → k ≤ length bs + 1
inside_parts k ps bs rest e place = omega (arith, ap (λ (t : List ℕ). length t) e, length-append (flat_map part_spelling ps) rest)

pub fault_inside : (n k : ℕ) (text : List ℕ) (kind : LexKind) → IsFaultAt n text kind k → k ≤ length text
fault_inside n k [] kind f = absurd f
fault_inside n k (b ∷ bs) UnexpectedCharacter f = omega (arith, f.0)
fault_inside n k (b ∷ bs) EmptyId f = omega (arith, f.0)
fault_inside n k (b ∷ bs) TooDeep f = omega (arith, f.0)
fault_inside n k (b ∷ bs) UnterminatedComment f = omega (arith, f.0)
fault_inside n k (b ∷ bs) UnterminatedString f = omega (arith, f.0)
fault_inside n k (b ∷ bs) BadEscape f = omega (arith, inside_parts k f.1 bs (92 ∷ f.2) f.3.1 f.5)
fault_inside n k (b ∷ bs) BadCharacter f = omega (arith, inside_parts k f.1 bs (f.2 ∷ f.3) f.4.1 f.6)
fault_inside n k (b ∷ bs) NotUtf8 f = omega (arith, f.0)

-- ---- handing on

pub handed_token : {X : Type 0} (Took : X → List Lexed → List (List ℕ) → Type 0) (text : List ℕ) (old new : X) (from : Cut) (p : Piece) (t : Token) (end depth : ℕ) (r : Result Cut LexError)
    → Stands from.depth p (drop from.at text) (drop end text) → end ≡ from.at + length (spelling p) → depth ≡ open_after from.depth p → piece_seen p ≡ token t
    → IfOk r (λ to. (to.at ≡ end) × (to.depth ≡ depth)) → IfOk r (λ to. TookToken Took old new t from.at end)
    → IfOk r (λ to. HandedOn Took text old new from to)
handed_token Took text old new from p t end depth (Ok to) stands end-is depth-is seen cut took =
    record {
      piece = p;
      stands = subst (λ (k : ℕ). Stands from.depth p (drop from.at text) (drop k text)) (sym cut.0) stands;
      end = cut.0 ∙ end-is;
      depth = cut.1 ∙ depth-is;
      took = subst (λ (s : Seen). TookSeen Took old new s from.at to.at) (sym seen) (subst (λ (k : ℕ). TookToken Took old new t from.at k) (sym cut.0) took);
    }
handed_token Took text old new from p t end depth (Err e) stands end-is depth-is seen cut took = tt

pub handed_comment : {X : Type 0} (Took : X → List Lexed → List (List ℕ) → Type 0) (text : List ℕ) (old new : X) (from to : Cut) (p : Piece) (t : List ℕ)
    → Stands from.depth p (drop from.at text) (drop to.at text) → to.at ≡ from.at + length (spelling p) → to.depth ≡ from.depth → piece_seen p ≡ comment t
    → TookSeen Took old new (comment t) from.at to.at → HandedOn Took text old new from to
handed_comment Took text old new from to p t stands end-is depth-is seen took =
    record {
      piece = p;
      stands = stands;
      end = end-is;
      depth = depth-is ∙ sym (open_comment from.depth p t seen);
      took = subst (λ (s : Seen). TookSeen Took old new s from.at to.at) (sym seen) took;
    }

-- ---- the pieces so far and one more

abbrev Onward : {X : Type 0} → (X → List Lexed → List (List ℕ) → Type 0) → List ℕ → X → ℕ → ℕ → Type 0
Onward Took text new at depth = (us : List Lexed) × (ds : List (List ℕ)) × Sofar text at depth ds us × Took new us ds

handed_case : {X : Type 0} (x : Seen) (Took : X → List Lexed → List (List ℕ) → Type 0) (text : List ℕ) (old new : X) (at depth end : ℕ) (ts : List Lexed) (cs : List (List ℕ)) (p : Piece)
    → IsUtf8 text → Sofar text at depth cs ts → Took old ts cs → Stands depth p (drop at text) (drop (length (spelling p)) (drop at text)) → end ≡ at + length (spelling p)
    → piece_seen p ≡ x → TookSeen Took old new x at end → Onward Took text new end (open_after depth p)
handed_case nothing Took text old new at depth end ts cs p utf8 s took stands end-is seen more =
    (ts, cs, Sofar_more text at depth (length (spelling p)) end cs cs ts ts p utf8 s stands refl end-is (λ qs. rw seen refl), more ts cs took)
handed_case (comment t) Took text old new at depth end ts cs p utf8 s took stands end-is seen more =
    (ts, cs ++ t ∷ [], Sofar_more text at depth (length (spelling p)) end cs (cs ++ t ∷ []) ts ts p utf8 s stands refl end-is (λ qs. rw seen refl), more ts cs took)
handed_case (token t) Took text old new at depth end ts cs p utf8 s took stands end-is seen more =
    let us = ts ++ record { token = t; start = at; end = end; comments = cs } ∷ [] in
    (us, [], Sofar_token text at depth (length (spelling p)) end cs [] ts us p t utf8 s stands refl end-is seen refl refl, more ts cs took)

pub Sofar_handed : {X : Type 0} (Took : X → List Lexed → List (List ℕ) → Type 0) (text : List ℕ) (old new : X) (from to : Cut) (ts : List Lexed) (cs : List (List ℕ))
    → IsUtf8 text → Sofar text from.at from.depth cs ts → Took old ts cs → HandedOn Took text old new from to
    → (us : List Lexed) × (ds : List (List ℕ)) × Sofar text to.at to.depth ds us × Took new us ds
Sofar_handed Took text old new from to ts cs utf8 s took h =
    let p = h.piece in
    let rest : drop to.at text ≡ drop (length (spelling p)) (drop from.at text) = ap (λ (k : ℕ). drop k text) h.end ∙ sym (drop-drop (length (spelling p)) from.at text) in
    let stands : Stands from.depth p (drop from.at text) (drop (length (spelling p)) (drop from.at text)) = subst (λ (t : List ℕ). Stands from.depth p (drop from.at text) t) rest h.stands in
    subst (λ (d : ℕ). Onward Took text new to.at d) (sym h.depth)
    (handed_case (piece_seen p) Took text old new from.at from.depth to.at ts cs p utf8 s took stands h.end refl h.took)
