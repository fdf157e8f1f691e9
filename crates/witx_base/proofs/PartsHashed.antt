-- What a path hands to a hasher, part by part.
use Rattle.std.proofs.Common.{◌≡◌, ℕ, ◌<◌, List, [], ◌∷◌, ◌++◌, Bool, true, false, refl, sym, ap, ◌∙◌, subst, if◌then◌else◌, length, append-nil, inl, inr, arith}
use Rattle.std.specs.Prelude.{◌==◌}
use Rattle.std.specs.Hash as fed
use Rattle.std.specs.List.{flat_map, fold}
use Rattle.std.proofs.lemmas.List.Sums.{fold-append}
use Rattle.witx_base.specs.Paths.{Path, parts_of, path_of, root}
use Rattle.witx_base.specs.PathTexts.{IsPathText, or_empty, path_text_parts}
use Rattle.witx_base.proofs.PathTexts.{IsWell, no-root, parts-of-text, parts-other, read-well}
use Rattle.witx_base.proofs.Cuts.{kept-full, no-parts, read-one, same-parts, suc-full}
use Rattle.witx_base.proofs.Joins.{head-is, tail-is}

module _ {S : Type 0} (write : S → List ℕ → S) where
  pub hash-step : (s now total : S) (rest part more : List ℕ) → parts_of rest ≡ part ∷ parts_of more → now ≡ fold write s (fed.str part)
      → fold write s (flat_map fed.str (parts_of rest)) ≡ total → fold write now (flat_map fed.str (parts_of more)) ≡ total
  hash-step s now total rest part more e n h =
      ap (λ x. fold write x (flat_map fed.str (parts_of more))) n
      ∙ sym (fold-append write s (fed.str part) (flat_map fed.str (parts_of more)))
      ∙ ap (λ ps. fold write s (flat_map fed.str ps)) (sym e) ∙ h

  pub hash-end : (s now total : S) (rest : List ℕ) → parts_of rest ≡ rest ∷ [] → now ≡ fold write s (fed.str rest)
      → fold write s (flat_map fed.str (parts_of rest)) ≡ total → now ≡ total
  hash-end s now total rest e n h =
      n ∙ ap (fold write s) (sym (append-nil (fed.str rest))) ∙ ap (λ ps. fold write s (flat_map fed.str ps)) (sym e) ∙ h

  pub hash-all : (s one now : S) (n : ℕ) (text : List ℕ) (p : Path) → one ≡ fold write s (fed.usize n) → n ≡ length (parts_of text) → parts_of text ≡ p
      → now ≡ fold write one (flat_map fed.str (parts_of text)) → now ≡ fold write s (fed.slice fed.str p)
  hash-all s one now n text p o l e h =
      h ∙ ap (λ x. fold write x (flat_map fed.str (parts_of text))) (o ∙ ap (λ k. fold write s (fed.usize k)) l)
      ∙ sym (fold-append write s (fed.usize (length (parts_of text))) (flat_map fed.str (parts_of text)))
      ∙ ap (λ ps. fold write s (fed.slice fed.str ps)) e

  pub hash-rooted : (s one two now : S) (n : ℕ) (rest : List ℕ) (p : Path) → one ≡ fold write s (fed.usize n) → n ≡ length (root ∷ parts_of rest) → p ≡ root ∷ parts_of rest
      → two ≡ fold write one (fed.str root) → now ≡ fold write two (flat_map fed.str (parts_of rest)) → now ≡ fold write s (fed.slice fed.str p)
  hash-rooted s one two now n rest p o l e t h =
      h ∙ ap (λ x. fold write x (flat_map fed.str (parts_of rest))) t
      ∙ sym (fold-append write one (fed.str root) (flat_map fed.str (parts_of rest)))
      ∙ ap (λ x. fold write x (flat_map fed.str (root ∷ parts_of rest))) (o ∙ ap (λ k. fold write s (fed.usize k)) l)
      ∙ sym (fold-append write s (fed.usize (length (root ∷ parts_of rest))) (flat_map fed.str (root ∷ parts_of rest)))
      ∙ ap (λ ps. fold write s (fed.slice fed.str ps)) (sym e)

  pub hash-one : (s one now : S) (c : List ℕ) (p : Path) → one ≡ fold write s (fed.usize 1) → p ≡ c ∷ [] → now ≡ fold write one (fed.str c) → now ≡ fold write s (fed.slice fed.str p)
  hash-one s one now c p o e h =
      h ∙ ap (λ x. fold write x (fed.str c)) o ∙ sym (fold-append write s (fed.usize 1) (fed.str c))
      ∙ ap (λ z. fold write s (fed.usize 1 ++ z)) (sym (append-nil (fed.str c)))
      ∙ ap (λ ps. fold write s (fed.slice fed.str ps)) (sym e)

  pub hash-none : (s now : S) (p : Path) → p ≡ [] → now ≡ fold write s (fed.usize 0) → now ≡ fold write s (fed.slice fed.str p)
  hash-none s now p e h =
      h ∙ ap (fold write s) (sym (append-nil (fed.usize 0))) ∙ ap (λ ps. fold write s (fed.slice fed.str ps)) (sym e)

pub fewer-parts : (rest part more : List ℕ) → parts_of rest ≡ part ∷ parts_of more → length (parts_of more) < length (parts_of rest)
fewer-parts rest part more e = omega (arith, ap length e)

pub ruleset loop_rules = (hash-step, hash-end, fewer-parts)

-- ---- which parts are the components

relative-of : (p : Path) (first rest : List ℕ) → IsWell p → path_text_parts p ≡ first ∷ parts_of rest → (length first == 0) ≡ false → path_text_parts p ≡ p
relative-of [] first rest h e f = absurd (no-parts rest (tail-is [] first [] (parts_of rest) e))
relative-of (c ∷ cs) first rest (inl q, k) e f =
    let same : [] ∷ or_empty cs ≡ first ∷ parts_of rest = subst (λ r. path_text_parts (r ∷ cs) ≡ first ∷ parts_of rest) q e in
    let no : true ≡ false = ap (λ x. length x == 0) (head-is [] first (or_empty cs) (parts_of rest) same) ∙ f in absurd (cc)
relative-of (c ∷ cs) first rest (inr g, k) e f = parts-other c cs (no-root c g.0)

pub relative-parts : (text first rest : List ℕ) → IsPathText text → parts_of text ≡ first ∷ parts_of rest → (length first == 0) ≡ false → parts_of text ≡ path_of text
relative-parts text first rest h e f =
    parts-of-text text h ∙ relative-of (path_of text) first rest (read-well text) (sym (parts-of-text text h) ∙ e) f

empty-is : (c : List ℕ) → (length c == 0) ≡ true → c ≡ []
empty-is [] e = refl
empty-is (b ∷ bs) e = let no : false ≡ true = sym (suc-full b bs) ∙ e in absurd (cc)

rooted-of : (p : Path) (first rest : List ℕ) → IsWell p → path_text_parts p ≡ first ∷ parts_of rest → (length first == 0) ≡ true → (length rest == 0) ≡ false → p ≡ root ∷ parts_of rest
rooted-of [] first rest h e f g = absurd (no-parts rest (tail-is [] first [] (parts_of rest) e))
rooted-of (c ∷ []) first rest (inl q, k) e f g =
    let same : [] ∷ [] ∷ [] ≡ first ∷ parts_of rest = subst (λ r. path_text_parts (r ∷ []) ≡ first ∷ parts_of rest) q e in
    let empty : [] ≡ rest = same-parts [] rest (tail-is [] first ([] ∷ []) (parts_of rest) same) in
    let no : true ≡ false = ap (λ x. length x == 0) empty ∙ g in absurd (cc)
rooted-of (c ∷ d ∷ ds) first rest (inl q, k) e f g =
    let same : [] ∷ d ∷ ds ≡ first ∷ parts_of rest = subst (λ r. path_text_parts (r ∷ d ∷ ds) ≡ first ∷ parts_of rest) q e in
    λ i. q i ∷ tail-is [] first (d ∷ ds) (parts_of rest) same i
rooted-of (c ∷ cs) first rest (inr w, k) e f g =
    let same : c ∷ cs ≡ first ∷ parts_of rest = sym (parts-other c cs (no-root c w.0)) ∙ e in
    let no : true ≡ false = sym f ∙ ap (λ x. length x == 0) (sym (head-is c first cs (parts_of rest) same)) ∙ w.1 in absurd (cc)

pub rooted-parts : (text first rest : List ℕ) → IsPathText text → parts_of text ≡ first ∷ parts_of rest → (length first == 0) ≡ true → (length rest == 0) ≡ false
    → path_of text ≡ root ∷ parts_of rest
rooted-parts text first rest h e f g = rooted-of (path_of text) first rest (read-well text) (sym (parts-of-text text h) ∙ e) f g

root-of : (p : Path) (first : List ℕ) → IsWell p → path_text_parts p ≡ first ∷ [] ∷ [] → (length first == 0) ≡ true → p ≡ root ∷ []
root-of [] first h e f = absurd (no-parts [] (tail-is [] first [] ([] ∷ []) e))
root-of (c ∷ []) first (inl q, k) e f = ap (λ r. r ∷ []) q
root-of (c ∷ d ∷ ds) first (inl q, k) e f =
    let same : [] ∷ d ∷ ds ≡ first ∷ [] ∷ [] = subst (λ r. path_text_parts (r ∷ d ∷ ds) ≡ first ∷ [] ∷ []) q e in
    let none : d ≡ [] = head-is d [] ds [] (tail-is [] first (d ∷ ds) ([] ∷ []) same) in
    let no : true ≡ false = ap (λ x. length x == 0) (sym none) ∙ kept-full d k.1 in absurd (cc)
root-of (c ∷ cs) first (inr w, k) e f =
    let same : c ∷ cs ≡ first ∷ [] ∷ [] = sym (parts-other c cs (no-root c w.0)) ∙ e in
    let no : true ≡ false = sym f ∙ ap (λ x. length x == 0) (sym (head-is c first cs ([] ∷ []) same)) ∙ w.1 in absurd (cc)

pub root-alone : (text first rest : List ℕ) → IsPathText text → parts_of text ≡ first ∷ parts_of rest → (length first == 0) ≡ true → (length rest == 0) ≡ true
    → path_of text ≡ root ∷ []
root-alone text first rest h e f g =
    root-of (path_of text) first (read-well text) (sym (parts-of-text text h) ∙ e ∙ ap (λ r. first ∷ parts_of r) (empty-is rest g)) f

one-step : (t : Bool) (text : List ℕ) → (length text == 0) ≡ t → (if length text == 0 then [] else text ∷ []) ≡ (if t then [] else text ∷ [])
one-step t text e = ap (λ b. if b then [] else text ∷ []) e

pub one-path : (text : List ℕ) → parts_of text ≡ text ∷ [] → (length text == 0) ≡ false → path_of text ≡ text ∷ []
one-path text e f = read-one text e ∙ one-step false text f

pub no-path : (text : List ℕ) → parts_of text ≡ text ∷ [] → (length text == 0) ≡ true → path_of text ≡ []
no-path text e f = read-one text e ∙ one-step true text f

pub same-count : (n : ℕ) (text first rest : List ℕ) → n ≡ length (parts_of text) → parts_of text ≡ first ∷ parts_of rest → n ≡ length (root ∷ parts_of rest)
same-count n text first rest l e = l ∙ ap length e

pub ruleset relative_rules = (hash-all)

pub ruleset rooted_rules = (hash-rooted, hash-one)

pub ruleset single_rules = (hash-none, hash-one, one-path, no-path)

pub ruleset path_rules = (relative-parts, rooted-parts, root-alone, same-count)
