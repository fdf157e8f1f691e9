-- Types of different kinds have trees of different kinds, which are never the same.
use Rattle.std.specs.Prelude.{◌≡◌, ℕ, false, refl}
use Rattle.std.proofs.Common.{ap, sym, ◌∙◌, subst, arith}
use Rattle.std.specs.declared.boxed.Box.{Box}
use Rattle.std.specs.declared.alloc.Global.{Global}
use Rattle.witx_syntax_tree.specs.Trees.{TypeTree}
use Rattle.witx_syntax_tree.specs.Same.{same_type}
use Rattle.witx_syntax_tree.specs.Views.{type_view}
use Rattle.witx_syntax_tree.specs.declared.tree.TypedefSyntax.{TypedefSyntax, out-TypedefSyntax, roll-TypedefSyntax, roll-out-TypedefSyntax}
use Rattle.witx_syntax_tree.specs.declared.tree.TypedefSyntax.TheOpen.{TypedefSyntax-F}
use Rattle.witx_syntax_tree.specs.declared.tree.TypedefSyntax.TheVariants as typedef
use Rattle.witx_syntax_tree.specs.declared.tree.BuiltinSyntax.{BuiltinSyntax}
use Rattle.witx_syntax_tree.specs.declared.tree.HandleSyntax.{HandleSyntax}
use Rattle.witx_syntax_tree.specs.declared.tree.IdSyntax.{IdSyntax}
use Rattle.witx_syntax_tree.specs.declared.tree.EnumSyntax.{EnumSyntax}
use Rattle.witx_syntax_tree.specs.declared.tree.FlagsSyntax.{FlagsSyntax}
use Rattle.witx_syntax_tree.specs.declared.tree.TupleSyntax.{TupleSyntax}
use Rattle.witx_syntax_tree.specs.declared.tree.ExpectedSyntax.{ExpectedSyntax}
use Rattle.witx_syntax_tree.specs.declared.tree.RecordSyntax.{RecordSyntax}
use Rattle.witx_syntax_tree.specs.declared.tree.UnionSyntax.{UnionSyntax}
use Rattle.witx_syntax_tree.specs.declared.tree.VariantSyntax.{VariantSyntax}
use Rattle.witx_syntax_tree.specs.declared.tree.FieldSyntax.{FieldSyntax}
use Rattle.witx_syntax_tree.specs.declared.tree.CaseSyntax.{CaseSyntax}
use Rattle.witx_syntax_tree.proofs.TypeViews.{view-Enum, view-Tuple, view-Expected, view-Flags, view-Record, view-Union, view-Variant, view-Handle, view-List, view-Pointer, view-ConstPointer, view-Builtin, view-Ident, view-String, view-Bool}

-- the kind of a tree, as a number
abbrev pub kind : TypeTree → ℕ
kind (TypeTree.enum_of a b) = 0
kind (TypeTree.tuple_of a) = 1
kind (TypeTree.expected a b) = 2
kind (TypeTree.flags_of a b) = 3
kind (TypeTree.record_of a) = 4
kind (TypeTree.union_of a b) = 5
kind (TypeTree.variant_of a b) = 6
kind TypeTree.handle = 7
kind (TypeTree.list_of a) = 8
kind (TypeTree.pointer_to a) = 9
kind (TypeTree.const_pointer_to a) = 10
kind (TypeTree.builtin a) = 11
kind (TypeTree.ident a) = 12
kind TypeTree.string = 13
kind TypeTree.boolean = 14

pub apart : (x y : TypeTree) → (kind x ≡ kind y → ⊥) → false ≡ same_type x y
apart (TypeTree.enum_of a b) (TypeTree.enum_of c d) f = absurd (f refl)
apart (TypeTree.tuple_of a) (TypeTree.tuple_of c) f = absurd (f refl)
apart (TypeTree.expected a b) (TypeTree.expected c d) f = absurd (f refl)
apart (TypeTree.flags_of a b) (TypeTree.flags_of c d) f = absurd (f refl)
apart (TypeTree.record_of a) (TypeTree.record_of c) f = absurd (f refl)
apart (TypeTree.union_of a b) (TypeTree.union_of c d) f = absurd (f refl)
apart (TypeTree.variant_of a b) (TypeTree.variant_of c d) f = absurd (f refl)
apart TypeTree.handle TypeTree.handle f = absurd (f refl)
apart (TypeTree.list_of a) (TypeTree.list_of c) f = absurd (f refl)
apart (TypeTree.pointer_to a) (TypeTree.pointer_to c) f = absurd (f refl)
apart (TypeTree.const_pointer_to a) (TypeTree.const_pointer_to c) f = absurd (f refl)
apart (TypeTree.builtin a) (TypeTree.builtin c) f = absurd (f refl)
apart (TypeTree.ident a) (TypeTree.ident c) f = absurd (f refl)
apart TypeTree.string TypeTree.string f = absurd (f refl)
apart TypeTree.boolean TypeTree.boolean f = absurd (f refl)
apart _ _ f = refl

-- a type by its variant
pub data Shown (y : TypedefSyntax) : Type 0 where
  is_enum_of : (v : EnumSyntax) → y ≡ typedef.Enum v → Shown y
  is_tuple_of : (v : TupleSyntax) → y ≡ typedef.Tuple v → Shown y
  is_expected : (v : ExpectedSyntax) → y ≡ typedef.Expected v → Shown y
  is_flags_of : (v : FlagsSyntax) → y ≡ typedef.Flags v → Shown y
  is_record_of : (v : RecordSyntax) → y ≡ typedef.Record v → Shown y
  is_union_of : (v : UnionSyntax) → y ≡ typedef.Union v → Shown y
  is_variant_of : (v : VariantSyntax) → y ≡ typedef.Variant v → Shown y
  is_handle : (v : HandleSyntax) → y ≡ typedef.Handle v → Shown y
  is_list_of : (v : Box TypedefSyntax Global) → y ≡ typedef.List v → Shown y
  is_pointer_to : (v : Box TypedefSyntax Global) → y ≡ typedef.Pointer v → Shown y
  is_const_pointer_to : (v : Box TypedefSyntax Global) → y ≡ typedef.ConstPointer v → Shown y
  is_builtin : (v : BuiltinSyntax) → y ≡ typedef.Builtin v → Shown y
  is_ident : (v : IdSyntax) → y ≡ typedef.Ident v → Shown y
  is_string : y ≡ typedef.String → Shown y
  is_boolean : y ≡ typedef.Bool → Shown y

pub shown-layer : (s : TypedefSyntax-F TypedefSyntax CaseSyntax ExpectedSyntax FieldSyntax RecordSyntax TupleSyntax UnionSyntax VariantSyntax) → Shown (roll-TypedefSyntax s)
shown-layer (TypedefSyntax-F.Enum v) = is_enum_of v (typedef.rolls-Enum v)
shown-layer (TypedefSyntax-F.Tuple v) = is_tuple_of v (typedef.rolls-Tuple v)
shown-layer (TypedefSyntax-F.Expected v) = is_expected v (typedef.rolls-Expected v)
shown-layer (TypedefSyntax-F.Flags v) = is_flags_of v (typedef.rolls-Flags v)
shown-layer (TypedefSyntax-F.Record v) = is_record_of v (typedef.rolls-Record v)
shown-layer (TypedefSyntax-F.Union v) = is_union_of v (typedef.rolls-Union v)
shown-layer (TypedefSyntax-F.Variant v) = is_variant_of v (typedef.rolls-Variant v)
shown-layer (TypedefSyntax-F.Handle v) = is_handle v (typedef.rolls-Handle v)
shown-layer (TypedefSyntax-F.List v) = is_list_of v (typedef.rolls-List v)
shown-layer (TypedefSyntax-F.Pointer v) = is_pointer_to v (typedef.rolls-Pointer v)
shown-layer (TypedefSyntax-F.ConstPointer v) = is_const_pointer_to v (typedef.rolls-ConstPointer v)
shown-layer (TypedefSyntax-F.Builtin v) = is_builtin v (typedef.rolls-Builtin v)
shown-layer (TypedefSyntax-F.Ident v) = is_ident v (typedef.rolls-Ident v)
shown-layer TypedefSyntax-F.String = is_string typedef.rolls-String
shown-layer TypedefSyntax-F.Bool = is_boolean typedef.rolls-Bool

pub shown : (y : TypedefSyntax) → Shown y
shown y = subst Shown (roll-out-TypedefSyntax y) (shown-layer (out-TypedefSyntax y))

abbrev pub number : {y : TypedefSyntax} → Shown y → ℕ
number (is_enum_of v p) = 0
number (is_tuple_of v p) = 1
number (is_expected v p) = 2
number (is_flags_of v p) = 3
number (is_record_of v p) = 4
number (is_union_of v p) = 5
number (is_variant_of v p) = 6
number (is_handle v p) = 7
number (is_list_of v p) = 8
number (is_pointer_to v p) = 9
number (is_const_pointer_to v p) = 10
number (is_builtin v p) = 11
number (is_ident v p) = 12
number (is_string p) = 13
number (is_boolean p) = 14

pub number-kind : (y : TypedefSyntax) (s : Shown y) → kind (type_view y) ≡ number s
number-kind y (is_enum_of v p) = rw (p, view-Enum v) refl
number-kind y (is_tuple_of v p) = rw (p, view-Tuple v) refl
number-kind y (is_expected v p) = rw (p, view-Expected v) refl
number-kind y (is_flags_of v p) = rw (p, view-Flags v) refl
number-kind y (is_record_of v p) = rw (p, view-Record v) refl
number-kind y (is_union_of v p) = rw (p, view-Union v) refl
number-kind y (is_variant_of v p) = rw (p, view-Variant v) refl
number-kind y (is_handle v p) = rw (p, view-Handle v) refl
number-kind y (is_list_of v p) = rw (p, view-List v) refl
number-kind y (is_pointer_to v p) = rw (p, view-Pointer v) refl
number-kind y (is_const_pointer_to v p) = rw (p, view-ConstPointer v) refl
number-kind y (is_builtin v p) = rw (p, view-Builtin v) refl
number-kind y (is_ident v p) = rw (p, view-Ident v) refl
number-kind y (is_string p) = rw (p, view-String) refl
number-kind y (is_boolean p) = rw (p, view-Bool) refl

-- a type is none of this variant
abbrev IsNo : {V : Type 0} → (V → TypedefSyntax) → TypedefSyntax → Type 0
IsNo {V} variant y = (v : V) → y ≡ variant v → ⊥

-- a type is of another variant than a type with this tree
abbrev IsOther : TypeTree → TypedefSyntax → Type 0
IsOther (TypeTree.enum_of a b) y = IsNo typedef.Enum y
IsOther (TypeTree.tuple_of a) y = IsNo typedef.Tuple y
IsOther (TypeTree.expected a b) y = IsNo typedef.Expected y
IsOther (TypeTree.flags_of a b) y = IsNo typedef.Flags y
IsOther (TypeTree.record_of a) y = IsNo typedef.Record y
IsOther (TypeTree.union_of a b) y = IsNo typedef.Union y
IsOther (TypeTree.variant_of a b) y = IsNo typedef.Variant y
IsOther TypeTree.handle y = IsNo typedef.Handle y
IsOther (TypeTree.list_of a) y = IsNo typedef.List y
IsOther (TypeTree.pointer_to a) y = IsNo typedef.Pointer y
IsOther (TypeTree.const_pointer_to a) y = IsNo typedef.ConstPointer y
IsOther (TypeTree.builtin a) y = IsNo typedef.Builtin y
IsOther (TypeTree.ident a) y = IsNo typedef.Ident y
IsOther TypeTree.string y = y ≡ typedef.String → ⊥
IsOther TypeTree.boolean y = y ≡ typedef.Bool → ⊥

no-other : (t : TypeTree) (y : TypedefSyntax) (s : Shown y) → kind t ≡ number s → IsOther t y → ⊥
no-other (TypeTree.enum_of a b) y (is_enum_of v p) h f = f v p
no-other (TypeTree.tuple_of a) y (is_tuple_of v p) h f = f v p
no-other (TypeTree.expected a b) y (is_expected v p) h f = f v p
no-other (TypeTree.flags_of a b) y (is_flags_of v p) h f = f v p
no-other (TypeTree.record_of a) y (is_record_of v p) h f = f v p
no-other (TypeTree.union_of a b) y (is_union_of v p) h f = f v p
no-other (TypeTree.variant_of a b) y (is_variant_of v p) h f = f v p
no-other TypeTree.handle y (is_handle v p) h f = f v p
no-other (TypeTree.list_of a) y (is_list_of v p) h f = f v p
no-other (TypeTree.pointer_to a) y (is_pointer_to v p) h f = f v p
no-other (TypeTree.const_pointer_to a) y (is_const_pointer_to v p) h f = f v p
no-other (TypeTree.builtin a) y (is_builtin v p) h f = f v p
no-other (TypeTree.ident a) y (is_ident v p) h f = f v p
no-other TypeTree.string y (is_string p) h f = f p
no-other TypeTree.boolean y (is_boolean p) h f = f p
no-other _ y _ h f = omega arith

other : (x y : TypedefSyntax) (t : TypeTree) → type_view x ≡ t → IsOther t y → false ≡ same_type (type_view x) (type_view y)
other x y t e f = apart _ _ (λ h. no-other t y (shown y) (sym (ap kind e) ∙ h ∙ number-kind y (shown y)) f)

-- a type of this variant is never the same as one of another
abbrev pub IsApart : {V : Type 0} → (V → TypedefSyntax) → Type 0
IsApart {V} variant = (x y : TypedefSyntax) (v : V) → x ≡ variant v → IsNo variant y → false ≡ same_type (type_view x) (type_view y)

pub other-Enum : IsApart typedef.Enum
other-Enum x y v p f = other x y _ (ap type_view p ∙ view-Enum v) f

pub other-Tuple : IsApart typedef.Tuple
other-Tuple x y v p f = other x y _ (ap type_view p ∙ view-Tuple v) f

pub other-Expected : IsApart typedef.Expected
other-Expected x y v p f = other x y _ (ap type_view p ∙ view-Expected v) f

pub other-Flags : IsApart typedef.Flags
other-Flags x y v p f = other x y _ (ap type_view p ∙ view-Flags v) f

pub other-Record : IsApart typedef.Record
other-Record x y v p f = other x y _ (ap type_view p ∙ view-Record v) f

pub other-Union : IsApart typedef.Union
other-Union x y v p f = other x y _ (ap type_view p ∙ view-Union v) f

pub other-Variant : IsApart typedef.Variant
other-Variant x y v p f = other x y _ (ap type_view p ∙ view-Variant v) f

pub other-Handle : IsApart typedef.Handle
other-Handle x y v p f = other x y _ (ap type_view p ∙ view-Handle v) f

pub other-List : IsApart typedef.List
other-List x y v p f = other x y _ (ap type_view p ∙ view-List v) f

pub other-Pointer : IsApart typedef.Pointer
other-Pointer x y v p f = other x y _ (ap type_view p ∙ view-Pointer v) f

pub other-ConstPointer : IsApart typedef.ConstPointer
other-ConstPointer x y v p f = other x y _ (ap type_view p ∙ view-ConstPointer v) f

pub other-Builtin : IsApart typedef.Builtin
other-Builtin x y v p f = other x y _ (ap type_view p ∙ view-Builtin v) f

pub other-Ident : IsApart typedef.Ident
other-Ident x y v p f = other x y _ (ap type_view p ∙ view-Ident v) f

pub other-String : (x y : TypedefSyntax) → x ≡ typedef.String → (y ≡ typedef.String → ⊥) → false ≡ same_type (type_view x) (type_view y)
other-String x y p f = other x y _ (ap type_view p ∙ view-String) f

pub other-Bool : (x y : TypedefSyntax) → x ≡ typedef.Bool → (y ≡ typedef.Bool → ⊥) → false ≡ same_type (type_view x) (type_view y)
other-Bool x y p f = other x y _ (ap type_view p ∙ view-Bool) f

pub ruleset other_rules = (other-Enum, other-Tuple, other-Expected, other-Flags, other-Record, other-Union, other-Variant, other-Handle, other-List, other-Pointer, other-ConstPointer, other-Builtin, other-Ident, other-String, other-Bool)
