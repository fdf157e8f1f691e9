-- What the reads of a loop took, one after the other, is what the run took; and how much that is, however it ends.
use Rattle.std.proofs.Common.{◌≡◌, ℕ, ◌+◌, ◌<◌, ◌≤◌, List, [], ◌∷◌, ◌++◌, Option, Some, None, length, take, min, subst, sym, refl, ap, ◌∙◌, append-nil, length-append, arith}
use Rattle.std.proofs.KnownBytes.{Consumes-trans}
use Rattle.std.proofs.lemmas.List.{length-take}
use Rattle.std.specs.Io.KnownBytes.{Consumes, IsAtEnd, Keeps}
use Rattle.witx_base.specs.Causes.{Rose, one_more}
use Rattle.witx_bundle.specs.declared.bundle.TheConstants.{LONGEST_BUNDLE}
use Rattle.std.specs.Prelude.{Result, Ok, Err}
use Rattle.witx_files.specs.Files.{Files}
use Rattle.witx_bundle.specs.Bundles.{IsRead, limit}
use Rattle.witx_bundle.specs.declared.error.BundleError.{BundleError}
use Rattle.witx_bundle.specs.declared.error.BundleError.TheVariants as bundle
use Rattle.witx_commands.specs.Causes.{ReadCause, IsBundle}
use Rattle.witx_commands.specs.Streams.{Finished, IsAll, IsInput, SourceSeen, TakesMore, TookAtMost}
use Rattle.witx_commands.specs.declared.input.InputError.{InputError}
use Rattle.witx_commands.specs.declared.input.InputError.TheVariants as input

pub input-more : (a b c : Option (List ℕ)) (xs ys : List ℕ) (n : ℕ) → Consumes a b xs → TakesMore b c xs ys n → Consumes a c ys
input-more a b c xs ys n p t = subst (Consumes a c) (sym t.joined) (Consumes-trans a b c xs t.more p t.taken)

no-more : (xs more ys : List ℕ) → ys ≡ xs ++ more → length ys ≡ length xs + 0 → ys ≡ xs
no-more xs [] ys e l = e ∙ append-nil xs
no-more xs (m ∷ more) ys e l = let f : length ys ≡ length xs + length (m ∷ more) = ap length e ∙ length-append xs (m ∷ more) in absurd (omega arith)

all-read : (a b : Option (List ℕ)) (xs : List ℕ) → Consumes a b xs → IsAtEnd b → IsAll a xs
all-read None b xs p e = tt
all-read (Some x) None xs p e = absurd p
all-read (Some x) (Some y) xs p e = sym (append-nil xs) ∙ ap (λ l. xs ++ l) (sym e) ∙ sym p

pub input-end : (a b c : Option (List ℕ)) (xs ys : List ℕ) (n : ℕ) → Consumes a b xs → TakesMore b c xs ys n → n ≡ 0 → length xs ≤ LONGEST_BUNDLE → IsInput a c ys
input-end a b c xs ys n p t z l =
    let same : ys ≡ xs = no-more xs t.more ys t.joined (t.count ∙ ap (λ k. length xs + k) z) in
    record {
      taken = input-more a b c xs ys n p t;
      whole = λ _. subst (IsAll a) (sym same) (all-read a b xs p (t.end z));
      bounded = let k : length ys ≡ length xs = ap length same in omega arith;
    }

pub input-full : (a b c : Option (List ℕ)) (xs ys : List ℕ) (n : ℕ) → Consumes a b xs → TakesMore b c xs ys n → LONGEST_BUNDLE < length ys → length ys ≤ LONGEST_BUNDLE + 1 → IsInput a c ys
input-full a b c xs ys n p t large small = record { taken = input-more a b c xs ys n p t; whole = λ l. absurd (omega arith); bounded = small }

longer : (left : List ℕ) (b : Option (List ℕ)) (xs : List ℕ) → Consumes (Some left) b xs → limit < length xs → limit < length left
longer left None xs p h = absurd p
longer left (Some rest) xs p h = let e : length left ≡ length xs + length rest = ap length p ∙ length-append xs rest in omega arith

nothing-left : (left rest xs : List ℕ) → left ≡ xs ++ rest → xs ≡ left → rest ≡ []
nothing-left left [] xs p e = refl
nothing-left left (r ∷ rest) xs p e =
    let k : length left ≡ length xs + length (r ∷ rest) = ap length p ∙ length-append xs (r ∷ rest) in
    let m : length xs ≡ length left = ap length e in absurd (omega arith)

-- what stands at the front of the bytes left says what the bytes left are
pub bundle-reads : (a b : Option (List ℕ)) (xs : List ℕ) (r : Result Files BundleError) → IsInput a b xs → IsRead xs r → IsBundle a r
bundle-reads None b xs r i h = tt
bundle-reads (Some left) b xs (Ok files) i h = subst (λ ys. IsRead ys (Ok files)) (i.whole h.0) h
bundle-reads (Some left) b xs (Err bundle.TooLong) i h = longer left b xs i.taken h
bundle-reads (Some left) b xs (Err (bundle.NotUtf8 at)) i h = subst (λ ys. IsRead ys (Err (bundle.NotUtf8 at))) (i.whole h.0) h
bundle-reads (Some left) b xs (Err (bundle.BeforeFirst at)) i h = subst (λ ys. IsRead ys (Err (bundle.BeforeFirst at))) (i.whole h.0) h
bundle-reads (Some left) b xs (Err bundle.OutOfMemory) i h = tt

-- a bundle was read to the end of what was left
pub bundle-finished : (a b : Option (List ℕ)) (xs : List ℕ) (files : Files) → IsInput a b xs → IsRead xs (Ok files) → Finished a b
bundle-finished None b xs files i h = tt
bundle-finished (Some left) None xs files i h = absurd i.taken
bundle-finished (Some left) (Some rest) xs files i h = ap Some (nothing-left left rest xs i.taken (i.whole h.0))

-- ---- how much was taken

nothing-consumed : (a b : Option (List ℕ)) → Keeps a b → Consumes a b []
nothing-consumed None b k = tt
nothing-consumed (Some x) None k = absurd k
nothing-consumed (Some x) (Some y) k = sym k

untouched : (a : Option (List ℕ)) → Keeps a a
untouched None = tt
untouched (Some x) = refl

-- between two places, told or not
abbrev between : (a b : Option (List ℕ)) (before now asked asked_after : ℕ) → SourceSeen
between a b before now asked asked_after =
    record { left = a; left_after = b; before = before; now = now; asked = asked; asked_after = asked_after }

-- without a read
pub took-nothing : (most : ℕ) (a : Option (List ℕ)) (f g r : ℕ) → TookAtMost most (between a a f g r r)
took-nothing most a f g r = record { bytes = []; taken = nothing-consumed a a (untouched a); bounded = omega arith; each = omega arith }

-- by one read that failed
pub took-none : (most : ℕ) (a b : Option (List ℕ)) (f g r q : ℕ) → Keeps a b → q ≡ one_more r → TookAtMost most (between a b f g r q)
took-none most a b f g r q k e = record { bytes = []; taken = nothing-consumed a b k; bounded = omega arith; each = omega (arith, e) }

-- by one that didn't
pub took-some : (most n : ℕ) (a b : Option (List ℕ)) (bytes : List ℕ) (f g r q : ℕ) → Consumes a b (take n bytes) → n ≤ most → q ≡ one_more r
    → TookAtMost most (between a b f g r q)
took-some most n a b bytes f g r q c l e = record {
  bytes = take n bytes;
  taken = c;
  bounded = let k : length (take n bytes) ≡ min n (length bytes) = length-take n bytes in omega (arith, k, l);
  each = omega (arith, e);
}

-- by one more than a loop made
module _ (most turns : ℕ) (a b : Option (List ℕ)) (xs : List ℕ) (fa fb ra rb : ℕ) (p : Consumes a b xs) (t : turns ≤ length xs) (r : rb ≤ ra + turns) where
  pub took-more : (k : ℕ) (c : Option (List ℕ)) (fc rc : ℕ) → TookAtMost k (between b c fb fc rb rc) → length xs + k ≤ most → TookAtMost most (between a c fa fc ra rc)
  took-more k c fc rc s l =
      let e : length (xs ++ s.bytes) ≡ length xs + length s.bytes = length-append xs s.bytes in
      let m = s.bounded in
      let n = s.each in
      record {
        bytes = xs ++ s.bytes;
        taken = Consumes-trans a b c xs s.bytes p s.taken;
        bounded = omega (arith, e, m, l);
        each = omega (arith, e, n, t, r);
      }

  -- one that wasn't read through
  pub read-broke : (c : Option (List ℕ)) (fc rc : ℕ) (e : InputError) → fb ≡ fa → length xs ≤ most → ReadCause 0 (between b c fb fc rb rc) e
      → ReadCause most (between a c fa fc ra rc) e
  read-broke c fc rc input.Source same l h = (subst (λ f. Rose f fc) same h.0, took-more 0 c fc rc h.1 (omega (arith, l)))
  read-broke c fc rc (input.Bundle e) same l h = absurd h
  read-broke c fc rc input.OutOfMemory same l h = h ∙ same

pub ruleset bundle_rules = (bundle-reads, bundle-finished)

pub ruleset one_read_rules = (took-none, took-some)

pub ruleset reading_rules = (input-more, input-end, input-full, read-broke)

pub ruleset buffer_rules = (took-nothing)
