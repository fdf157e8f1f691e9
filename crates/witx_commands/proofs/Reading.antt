-- The command of words: which forms are known, and which number a sample has.
use Rattle.std.specs.Prelude.{◌≡◌, ℕ, ◌≤◌, List, [], ◌∷◌, Bool, true, false, Option, Some, None, IfSome, codes, option_map, if◌then◌else◌}
use Rattle.std.proofs.Common.{refl, sym, ap, ◌∙◌, subst}
use Rattle.std.specs.Str.Parse.{digits_value}
use Rattle.witx_base.specs.Texts.{same_text}
use Rattle.witx_sample.specs.declared.sample.TheConstants.{LARGEST_SAMPLE}
use Rattle.witx_commands.specs.declared.forms.Forms.{Forms}
use Rattle.witx_commands.specs.declared.words.Command.{Command}
use Rattle.witx_commands.specs.Words as asked
use Rattle.witx_commands.specs.Words.{Asked, IsBounded, asked_by, asked_of, command_of, if_known, invoke_of, is_known, is_printed_size, both_names, own_file_of, sample_of, two_files_of}
use Rattle.witx_commands.proofs.SampleWords.{printed-parts}

-- ---- the number of a sample

if-some : {A : Type 0} (P : A → Type 0) (t : Bool) (x y : Option A) → IfSome x P → IfSome y P → IfSome (if t then x else y) P
if-some P true x y h k = h
if-some P false x y h k = k

mapped : {A : Type 0} (P : Asked → Type 0) (f : A → Asked) → ((a : A) → P (f a)) → (o : Option A) → IfSome (option_map f o) P
mapped P f h None = tt
mapped P f h (Some a) = h a

-- so it is with the number of a sample, if what is asked for is one
abbrev pub OfSample : (ℕ → Type 0) → Asked → Type 0
OfSample P (asked.sample n) = P n
OfSample P _ = Unit {0}

-- the number of a sample that words ask for is one of which P holds, where P holds of each that is printed
module _ (P : ℕ → Type 0) (sized : (word : List ℕ) → is_printed_size word ≡ true → P (digits_value 10 word)) where
  number-of : (word : List ℕ) (t : Bool) → is_printed_size word ≡ t → IfSome (option_map asked.sample (if t then Some (digits_value 10 word) else None)) (OfSample P)
  number-of word true e = sized word e
  number-of word false e = tt

  sample-of : (arguments : List (List ℕ)) → IfSome (sample_of arguments) (OfSample P)
  sample-of [] = tt
  sample-of (word ∷ []) = number-of word (is_printed_size word) refl
  sample-of (word ∷ other ∷ more) = tt

  invoke-of : (arguments : List (List ℕ)) → IfSome (invoke_of arguments) (OfSample P)
  invoke-of [] = tt
  invoke-of (owner ∷ []) = tt
  invoke-of (owner ∷ function ∷ more) = mapped (OfSample P) (asked.invoke (both_names owner function)) (λ own. tt) (own_file_of more)

  pub asked-sample : (words : List (List ℕ)) → IfSome (asked_of words) (OfSample P)
  asked-sample [] = tt
  asked-sample (word ∷ arguments) =
      let P' = OfSample P in
      let two = two_files_of arguments in
      let own = own_file_of arguments in
      if-some P' (same_text word (codes "adapt")) (Some (asked.adapt arguments)) _ tt
      (if-some P' (same_text word (codes "print")) (Some (asked.print arguments)) _ tt
      (if-some P' (same_text word (codes "layouts")) (Some (asked.layouts arguments)) _ tt
      (if-some P' (same_text word (codes "docs")) (Some (asked.docs arguments)) _ tt
      (if-some P' (same_text word (codes "polyfill")) (option_map asked.polyfill two) _ (mapped P' asked.polyfill (λ f. tt) two)
      (if-some P' (same_text word (codes "sample")) (sample_of arguments) _ (sample-of arguments)
      (if-some P' (same_text word (codes "shim")) (option_map asked.shim two) _ (mapped P' asked.shim (λ f. tt) two)
      (if-some P' (same_text word (codes "verify")) (option_map asked.verify own) _ (mapped P' asked.verify (λ f. tt) own)
      (if-some P' (same_text word (codes "invoke")) (invoke_of arguments) _ (invoke-of arguments)
      (if-some P' (same_text word (codes "imports")) (option_map asked.imports own) None (mapped P' asked.imports (λ f. tt) own) tt)))))))))

-- ---- the forms that are known

if-kept : (t : Bool) (c : Asked) → t ≡ true → Some c ≡ (if t then Some c else None)
if-kept true c e = refl
if-kept false c e = absurd (cc)

if-dropped : (t : Bool) (c : Asked) → t ≡ false → None ≡ (if t then Some c else None)
if-dropped true c e = absurd (cc)
if-dropped false c e = refl

-- what was read, as a command of the program
read-as : (r : Option Command) (o : Option Asked) (x : Command) → r ≡ Some x → option_map asked_by r ≡ o → Some (asked_by x) ≡ o
read-as r o x s e = sym (ap (option_map asked_by) s) ∙ e

pub no-form : (known : Forms) (r : Option Command) (words : List (List ℕ)) → r ≡ None → option_map asked_by r ≡ asked_of words → None ≡ command_of known words
no-form known r words n e = ap (if_known known) (sym (ap (option_map asked_by) n) ∙ e)

pub form-known : (known : Forms) (r : Option Command) (words : List (List ℕ)) (x : Command) (t : Bool) → r ≡ Some x → option_map asked_by r ≡ asked_of words
    → t ≡ is_known known (asked_by x) → t ≡ true → Some (asked_by x) ≡ command_of known words
form-known known r words x t s e k y = if-kept (is_known known (asked_by x)) (asked_by x) (sym k ∙ y) ∙ ap (if_known known) (read-as r (asked_of words) x s e)

pub form-unknown : (known : Forms) (r : Option Command) (words : List (List ℕ)) (x : Command) (t : Bool) → r ≡ Some x → option_map asked_by r ≡ asked_of words
    → t ≡ is_known known (asked_by x) → t ≡ false → None ≡ command_of known words
form-unknown known r words x t s e k y = if-dropped (is_known known (asked_by x)) (asked_by x) (sym k ∙ y) ∙ ap (if_known known) (read-as r (asked_of words) x s e)

bounded-sample : (c : Asked) → OfSample (λ n. n ≤ LARGEST_SAMPLE) c → IsBounded c
bounded-sample (asked.sample n) h = h
bounded-sample _ h = tt

pub form-bounded : (r : Option Command) (words : List (List ℕ)) (x : Command) → r ≡ Some x → option_map asked_by r ≡ asked_of words → IsBounded (asked_by x)
form-bounded r words x s e =
    bounded-sample (asked_by x)
    (subst (λ (o : Option Asked). IfSome o (OfSample (λ n. n ≤ LARGEST_SAMPLE))) (sym (read-as r (asked_of words) x s e))
    (asked-sample (λ n. n ≤ LARGEST_SAMPLE) (λ word p. (printed-parts word p).most) words))

pub ruleset known_rules = (no-form, form-known, form-unknown, form-bounded)
