-- What the writes of a loop appended, one after the other, is a prefix of the text; of two texts the one behind the other follows the
-- first; and a refusal that counts as want of memory has no text.
use Rattle.std.proofs.Common.{◌≡◌, ℕ, ◌+◌, List, [], ◌++◌, Option, take, drop, refl, ap, subst, sym, ◌∙◌, append_assoc, take-append-drop}
use Rattle.std.specs.Prelude.{Result, Ok, Err, OnOk}
use Rattle.std.proofs.Math.Seq.{take-add}
use Rattle.std.proofs.KnownBytes.{Appends-trans, Appends-nil}
use Rattle.std.specs.Io.KnownBytes.{Appends}
use Rattle.witx_bundle.specs.declared.error.BundleError.TheVariants as bundle
use Rattle.witx_commands.specs.Streams.{TookPrefix}
use Rattle.witx_commands.specs.Texts.{status_of, text_of}
use Rattle.witx_commands.specs.declared.refusal.Refusal.{Refusal}
use Rattle.witx_commands.specs.declared.refusal.Refusal.TheVariants as refusal

pub wrote-front : (a b : Option (List ℕ)) (text : List ℕ) (n : ℕ) → Appends a b (take n text) → TookPrefix a b text
wrote-front a b text n p = (take n text, drop n text, sym (take-append-drop n text), p)

pub wrote-none : (a : Option (List ℕ)) (text : List ℕ) → Appends a a (take 0 text)
wrote-none a text = Appends-nil a

pub wrote-more : (a b c : Option (List ℕ)) (text : List ℕ) (n m : ℕ) → Appends a b (take n text) → Appends b c (take m (drop n text)) → Appends a c (take (n + m) text)
wrote-more a b c text n m p q = subst (Appends a c) (sym (take-add n m text)) (Appends-trans a b c (take n text) (take m (drop n text)) p q)

pub ruleset writing_rules = (wrote-front, wrote-none, wrote-more)

-- two texts, one behind the other
wrote-both : (a b c : Option (List ℕ)) (x y text more : List ℕ) → x ≡ text → y ≡ more → Appends a b x → Appends b c y → Appends a c (text ++ more)
wrote-both a b c x y text more e f p q = subst (λ t. Appends a c (t ++ more)) e (subst (λ t. Appends a c (x ++ t)) f (Appends-trans a b c x y p q))

pub first-front : (a b : Option (List ℕ)) (x text more : List ℕ) → x ≡ text → TookPrefix a b x → TookPrefix a b (text ++ more)
first-front a b x text more e (front, rest, joined, p) =
    (front, rest ++ more, subst (λ t. t ++ more ≡ front ++ (rest ++ more)) e (ap (λ t. t ++ more) joined ∙ append_assoc front rest more), p)

pub second-front : (a b c : Option (List ℕ)) (x y text more : List ℕ) → x ≡ text → y ≡ more → Appends a b x → TookPrefix b c y → TookPrefix a c (text ++ more)
second-front a b c x y text more e f p (front, rest, joined, q) = (
  x ++ front,
  rest,
  subst (λ t. t ++ more ≡ (x ++ front) ++ rest) e (subst (λ t. x ++ t ≡ (x ++ front) ++ rest) f (ap (λ t. x ++ t) joined ∙ sym (append_assoc x front rest))),
  Appends-trans a b c x front p q,
)

pub both-whole : {A E : Type 0} (r : Result A E) (a b c : Option (List ℕ)) (x y text more : List ℕ) → x ≡ text → y ≡ more → Appends a b x
    → OnOk r (Appends b c y) → OnOk r (Appends a c (text ++ more))
both-whole (Ok u) a b c x y text more e f p q = wrote-both a b c x y text more e f p q
both-whole (Err u) a b c x y text more e f p q = tt

silent : (r : Refusal) → status_of r ≡ 5 → text_of r ≡ []
silent (refusal.Usage known) e = cc
silent refusal.Source e = cc
silent (refusal.Bundle bundle.TooLong) e = cc
silent (refusal.Bundle (bundle.NotUtf8 at)) e = cc
silent (refusal.Bundle (bundle.BeforeFirst at)) e = cc
silent (refusal.Bundle bundle.OutOfMemory) e = refl
silent (refusal.Command report) e = cc

-- so nothing is written of it
pub unsaid : (r : Refusal) (a : Option (List ℕ)) → 5 ≡ status_of r → Appends a a (text_of r)
unsaid r a e = subst (Appends a a) (sym (silent r (sym e))) (Appends-nil a)

pub says-nothing : (r : Refusal) (status : ℕ) (text : List ℕ) → status ≡ status_of r → text ≡ text_of r → status ≡ 5 → text ≡ []
says-nothing r status text same is e = is ∙ silent r (sym same ∙ e)

pub ruleset silent_rules = (unsaid, says-nothing)
