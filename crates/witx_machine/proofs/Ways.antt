-- The three ways in which a parameter is passed, whatever the domain.
use Rattle.std.proofs.Common.{◌≡◌, ℕ, ◌^◌, Bool, true, false, cond, T, refl, sym, ap, subst, Option, Some, List, [], ◌∷◌, nat_le}
use Rattle.witx_ast.specs.declared.types.BuiltinType.{BuiltinType}
use Rattle.witx_ast.specs.declared.types.IntRepr.{IntRepr}
use Rattle.witx_ast.specs.declared.types.RecordKind.{RecordKind}
use Rattle.witx_ast.specs.Tree.{Tree}
use Rattle.witx_ast.specs.Tree.{Fields as TreeFields, Arms as TreeArms}
use Rattle.witx_ast.specs.Plain.{Plain, plain, plain_fields, plain_arms, field_count, arm_count}
use Rattle.witx_ast.specs.Tags.{fits, repr_bits, node_fits}
use Rattle.witx_machine.specs.declared.surface.WasmType.{WasmType}
use Rattle.witx_machine.specs.Words.{word_type, Scalar, number_of, pointer, const_pointer, handle_of, flags_of, enum_of, repr_word_type}
use Rattle.witx_machine.specs.Events.{Step}
use Rattle.witx_machine.specs.Rows.{row, addr_of, lowering, lifting, list_pointer_length, list_from_pointer_length, load}
use Rattle.witx_machine.specs.Functions.{has_payload, by_address, name_of}
use Rattle.witx_machine.specs.Signature.{param_words}
use Rattle.witx_machine.specs.Traces.{lower_at, lift_at, lower_builtin, lift_builtin}
use Rattle.witx_machine.proofs.Scalars.{left_true}
use Rattle.witx_machine.proofs.Laws.{Lowers}

-- as one word
pub record OneWord (whole : Tree) (t : Tree) (x : Scalar) : Type 0 where
  pub lower : row (lower_at whole t) ≡ lowering x
  pub lift : row (lift_at whole t) ≡ lifting x
  pub types : param_words (plain t) ≡ word_type x ∷ []
  pub direct : by_address (plain t) ≡ false
  pub lowers : Lowers x (plain t)

-- as an address and a length
pub record TwoWords (whole : Tree) (t : Tree) : Type 0 where
  pub lower : row (lower_at whole t) ≡ list_pointer_length
  pub lift : row (lift_at whole t) ≡ list_from_pointer_length
  pub target : Plain
  pub is_list : plain t ≡ Plain.list_of target

-- as an address at which it stands
pub record ByCell (carried : Option Tree) (whole : Tree) (t : Tree) : Type 0 where
  pub lower : row (lower_at whole t) ≡ addr_of
  pub lift : row (lift_at whole t) ≡ load whole
  pub types : param_words (plain t) ≡ WasmType.I32 ∷ []
  pub carries : carried ≡ Some whole
  pub same : plain whole ≡ plain t
  pub address : by_address (plain t) ≡ true

pub data Way (carried : Option Tree) (whole : Tree) (t : Tree) : Type 0 where
  one_word : (x : Scalar) → OneWord whole t x → Way carried whole t
  two_words : TwoWords whole t → Way carried whole t
  by_cell : ByCell carried whole t → Way carried whole t

abbrev pub Ways : List Tree → Type 0
Ways [] = Unit {0}
Ways (t ∷ ts) = Way (name_of t) t t × Ways ts

builtin_rows : (b : BuiltinType) → (row (lower_builtin b) ≡ lowering (number_of b)) × (row (lift_builtin b) ≡ lifting (number_of b))
builtin_rows (BuiltinType.U8 true) = (refl, refl)
builtin_rows (BuiltinType.U8 false) = (refl, refl)
builtin_rows (BuiltinType.U32 true) = (refl, refl)
builtin_rows (BuiltinType.U32 false) = (refl, refl)
builtin_rows BuiltinType.Char = (refl, refl)
builtin_rows BuiltinType.U16 = (refl, refl)
builtin_rows BuiltinType.U64 = (refl, refl)
builtin_rows BuiltinType.S8 = (refl, refl)
builtin_rows BuiltinType.S16 = (refl, refl)
builtin_rows BuiltinType.S32 = (refl, refl)
builtin_rows BuiltinType.S64 = (refl, refl)
builtin_rows BuiltinType.F32 = (refl, refl)
builtin_rows BuiltinType.F64 = (refl, refl)

pub builtin_word : (whole : Tree) (k : BuiltinType) → OneWord whole (Tree.builtin k) (number_of k)
builtin_word whole k = record { lower = (builtin_rows k).0; lift = (builtin_rows k).1; types = refl; direct = refl; lowers = refl }

pub flags_way : (whole : Tree) (r : IntRepr) (ms : TreeFields) → plain whole ≡ Plain.record_of (RecordKind.Bitflags r) (plain_fields ms) → T (nat_le (field_count (plain_fields ms)) (repr_bits r)) → OneWord whole (Tree.record_of (RecordKind.Bitflags r) ms) (flags_of (repr_word_type r) whole)
flags_way whole r ms e f = record { lower = lower_row r; lift = lift_row r; types = refl; direct = refl; lowers = (r, plain_fields ms, refl, e, refl, f) }
  where
    lower_row : (r : IntRepr) → row (lower_at whole (Tree.record_of (RecordKind.Bitflags r) ms)) ≡ lowering (flags_of (repr_word_type r) whole)
    lower_row IntRepr.U8 = refl
    lower_row IntRepr.U16 = refl
    lower_row IntRepr.U32 = refl
    lower_row IntRepr.U64 = refl

    lift_row : (r : IntRepr) → row (lift_at whole (Tree.record_of (RecordKind.Bitflags r) ms)) ≡ lifting (flags_of (repr_word_type r) whole)
    lift_row IntRepr.U8 = refl
    lift_row IntRepr.U16 = refl
    lift_row IntRepr.U32 = refl
    lift_row IntRepr.U64 = refl

pub handle_way : (whole : Tree) → plain whole ≡ Plain.handle → OneWord whole Tree.handle (handle_of whole)
handle_way whole e = record { lower = refl; lift = refl; types = refl; direct = refl; lowers = (refl, e) }

pub pointer_way : (whole : Tree) (t : Tree) → OneWord whole (Tree.pointer_to t) pointer
pointer_way whole t = record { lower = refl; lift = refl; types = refl; direct = refl; lowers = (plain t, refl) }

pub const_pointer_way : (whole : Tree) (t : Tree) → OneWord whole (Tree.const_pointer_to t) const_pointer
const_pointer_way whole t = record { lower = refl; lift = refl; types = refl; direct = refl; lowers = (plain t, refl) }

pub enum_way : (whole : Tree) (r : IntRepr) (cs : TreeArms) → plain whole ≡ Plain.variant_of r (plain_arms cs) → has_payload (plain_arms cs) ≡ false → T (nat_le (arm_count (plain_arms cs)) (2 ^ repr_bits r)) → OneWord whole (Tree.variant_of r cs) (enum_of whole)
enum_way whole r cs e none f = record { lower = ap (λ b. row (cond b Step.AddrOf (Step.EnumLower whole))) none; lift = ap (λ b. row (cond b (Step.Load whole) (Step.EnumLift whole))) none; types = refl; direct = none; lowers = (r, plain_arms cs, refl, e, none, f) }

pub named_way : (c : Option Tree) (whole : Tree) (n : List ℕ) (t : Tree) (d : List ℕ) → Way c whole t → Way c whole (Tree.named n t d)
named_way c whole n t d (one_word x o) = one_word x (record { lower = o.lower; lift = o.lift; types = o.types; direct = o.direct; lowers = o.lowers })
named_way c whole n t d (two_words o) = two_words (record { lower = o.lower; lift = o.lift; target = o.target; is_list = o.is_list })
named_way c whole n t d (by_cell o) = by_cell (record { lower = o.lower; lift = o.lift; types = o.types; carries = o.carries; same = o.same; address = o.address })

pub way_at : (c : Option Tree) (whole : Tree) (t : Tree) → plain whole ≡ plain t → (T (by_address (plain t)) → c ≡ Some whole) → T (fits (plain t)) → Way c whole t
way_at c whole (Tree.named n t d) e h f = named_way c whole n t d (way_at c whole t e h f)
way_at c whole (Tree.builtin k) e h f = one_word (number_of k) (builtin_word whole k)
way_at c whole Tree.handle e h f = one_word (handle_of whole) (handle_way whole e)
way_at c whole (Tree.pointer_to t) e h f = one_word pointer (pointer_way whole t)
way_at c whole (Tree.const_pointer_to t) e h f = one_word const_pointer (const_pointer_way whole t)
way_at c whole (Tree.list_of t) e h f = two_words (record { lower = refl; lift = refl; target = plain t; is_list = refl })
way_at c whole (Tree.record_of (RecordKind.Bitflags r) ms) e h f = one_word (flags_of (repr_word_type r) whole) (flags_way whole r ms e (left_true (nat_le (field_count (plain_fields ms)) (repr_bits r)) _ f))
way_at c whole (Tree.record_of RecordKind.Tuple ms) e h f = by_cell (record { lower = refl; lift = refl; types = refl; carries = h tt; same = e; address = refl })
way_at c whole (Tree.record_of RecordKind.Other ms) e h f = by_cell (record { lower = refl; lift = refl; types = refl; carries = h tt; same = e; address = refl })
way_at c whole (Tree.variant_of r cs) e h f = go (has_payload (plain_arms cs)) refl
  where
    go : (b : Bool) → has_payload (plain_arms cs) ≡ b → Way c whole (Tree.variant_of r cs)
    go true is = by_cell (record { lower = ap (λ b. row (cond b Step.AddrOf (Step.EnumLower whole))) is; lift = ap (λ b. row (cond b (Step.Load whole) (Step.EnumLift whole))) is; types = refl; carries = h (subst T (sym is) tt); same = e; address = is })
    go false is = one_word (enum_of whole) (enum_way whole r cs e is (left_true (nat_le (arm_count (plain_arms cs)) (2 ^ repr_bits r)) _ (left_true (node_fits (Plain.variant_of r (plain_arms cs))) _ f)))
