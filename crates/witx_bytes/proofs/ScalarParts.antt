-- Values that have no parts: their types, and what is written of them.
use Rattle.std.proofs.Common.{◌≡◌, ℕ, ℤ, ◌+◌, ◌^◌, ◌++◌, true, refl, sym, ap, ◌∙◌, subst}
use Rattle.witx_base.specs.SameBytes.{false-true, both}
use Rattle.witx_ast.specs.declared.types.BuiltinType.{BuiltinType}
use Rattle.witx_ast.specs.Alike.{same_builtin}
use Rattle.witx_ast.specs.Plain.{Plain}
use Rattle.witx_ast.specs.Values as plain
use Rattle.witx_ast.specs.ValueTests.{is_value, in_range}
use Rattle.witx_ast.proofs.AlikeLaws.{builtins-decide}
use Rattle.witx_layout.specs.Numbers.{builtin_size, size_of}
use Rattle.witx_machine.specs.Words.{wrapped}
use Rattle.witx_bytes.specs.Bytes.{Bytes, Image, image_written}
use Rattle.witx_bytes.specs.Images.{image, little}
use Rattle.witx_bytes.specs.Seen.{seen}
use Rattle.witx_bytes.specs.Writes.{CanWrite, HasNoParts, HasRange, Writes}
use Rattle.witx_bytes.specs.declared.value.Value.{Value}
use Rattle.witx_bytes.specs.declared.value.Value.TheVariants as value
use Rattle.witx_bytes.proofs.Seen.{seen-Num, seen-List}
use Rattle.witx_bytes.proofs.Writing.{written-at, writes-then}

abbrev number_image : BuiltinType → ℤ → Image
number_image k n = little (builtin_size k) (wrapped (256 ^ builtin_size k) n)

-- a scalar type that has a number is its builtin
number_type : (t : Plain) (k : BuiltinType) (n : ℤ) → HasNoParts t → is_value t (plain.number k n) ≡ true → t ≡ Plain.builtin k
number_type (Plain.builtin b) k n s h = ap Plain.builtin (sym ((builtins-decide k b).0 (both (same_builtin k b) (in_range b n) h).0))
number_type (Plain.record_of kind ms) k n s h = absurd s
number_type t k n s h = absurd (false-true h)

list_image : (t : Plain) (a l : ℕ) → HasNoParts t → is_value t (plain.list_at a l) ≡ true → image t (plain.list_at a l) ≡ little 4 a ++ little 4 l
list_image (Plain.list_of t) a l s h = refl
list_image (Plain.record_of kind ms) a l s h = absurd s
list_image t a l s h = absurd (false-true h)

module _ (t : Plain) (v : Value) (s : HasNoParts t) (h : CanWrite t (seen v)) where
  is_of : (u : plain.Value) → seen v ≡ u → is_value t u ≡ true
  is_of u e = ap (is_value t) (sym e) ∙ h.value

  module _ (k : BuiltinType) (n : ℤ) (e : v ≡ value.Num k n) where
    is_builtin : t ≡ Plain.builtin k
    is_builtin = number_type t k n s (is_of (plain.number k n) (ap seen e ∙ seen-Num k n))

    pub number_in_range : in_range k n ≡ true
    number_in_range = (both (same_builtin k k) (in_range k n) (subst (λ t. is_value t (plain.number k n) ≡ true) is_builtin (is_of (plain.number k n) (ap seen e ∙ seen-Num k n)))).1

    pub number_room : (at width : ℕ) (m : Bytes) → width ≡ builtin_size k → HasRange at (size_of t) m → HasRange at width m
    number_room at width m w h = subst (λ size. HasRange at size m) (ap size_of is_builtin ∙ sym w) h

    number_pictured : image t (seen v) ≡ number_image k n
    number_pictured = ap (image t) (ap seen e ∙ seen-Num k n) ∙ ap (λ t. image t (plain.number k n)) is_builtin

    pub number_written : (at width bits : ℕ) (m m' : Bytes) → width ≡ builtin_size k → bits ≡ wrapped (256 ^ builtin_size k) n → Writes at (little width bits) m m' → Writes at (image t (seen v)) m m'
    number_written at width bits m m' w b f x =
        f x ∙ ap (λ width. image_written at (little width bits) m x) w ∙ ap (λ bits. image_written at (little (builtin_size k) bits) m x) b ∙ ap (λ xs. image_written at xs m x) (sym number_pictured)

  pub list_written : (a l : ℕ) → v ≡ value.List a l → (at : ℕ) (m k n : Bytes) → Writes at (little 4 a) m k → Writes (at + 4) (little 4 l) k n → Writes at (image t (seen v)) m n
  list_written a l e at m k n f g x =
      let shown = ap seen e ∙ seen-List a l in
      writes-then at (little 4 a) (little 4 l) m k n f (λ x. g x ∙ written-at (at + 4) (at + 4) (little 4 l) k x refl) x
      ∙ ap (λ xs. image_written at xs m x) (sym (ap (image t) shown ∙ list_image t a l s (is_of (plain.list_at a l) shown)))
