-- No misfit is listed exactly where each type node fits its tag.
use Rattle.std.specs.Prelude.{◌≡◌, ℕ, ◌+◌, ◌≤◌, ◌^◌, ◌↔◌, List, [], ◌∷◌, ◌++◌, Bool, true, false, cond, min, nat_le, Option, Some, None}
use Rattle.std.proofs.Common.{refl, arith, ap}
use Rattle.std.specs.Bool.{Decides}
use Rattle.std.specs.List.{AllByRecursion}
use Rattle.witx_ast.specs.declared.types.IntRepr.{IntRepr}
use Rattle.witx_ast.specs.declared.types.RecordKind.{RecordKind}
use Rattle.witx_ast.specs.Tree.{Tree, Fields, Arms, Field}
use Rattle.witx_ast.specs.Plain.{plain_fields, plain_arms, field_count, arm_count}
use Rattle.witx_ast.specs.Tags.{repr_bits, FlagsFit}
use Rattle.witx_ast.specs.Items.{ItemTree, import_of, func_of}
use Rattle.witx_ast.specs.Definitions.{DefinitionTree, typename_of, module_of, constant_of}
use Rattle.witx_ast.specs.Misfits.{Excess, Misfit, beyond, most_cases, flags_beyond, misfits, field_misfits, arm_misfits, params_misfits, item_misfits, definition_misfits, first_here, first_misfit_from, first_misfit, NodesFit, FieldNodesFit, ArmNodesFit, ItemNodesFit, DefinitionNodesFit, AllNodesFit}
use Rattle.witx_ast.proofs.Decided.{decides-le}

some-listed : {A : Type 0} (x : A) (xs : List A) → x ∷ xs ≡ [] → ⊥
some-listed x xs h = cc

abbrev nothing : List Excess
nothing = []

none-listed : (P : Type 0) → P → (nothing ≡ []) ↔ P
none-listed P p = (λ h. p, λ h. refl)

-- nothing in two lists
both-empty : {A P Q : Type 0} (xs ys : List A) → (xs ≡ []) ↔ P → (ys ≡ []) ↔ Q → (xs ++ ys ≡ []) ↔ (P × Q)
both-empty [] ys p q = (λ h. (p.0 refl, q.0 h), λ h. q.1 h.1)
both-empty (x ∷ xs) ys p q = (λ h. absurd (some-listed x (xs ++ ys) h), λ h. absurd (some-listed x xs (p.1 h.0)))

within : {P : Type 0} (b : Bool) (e : Excess) → Decides b P → (cond b [] (e ∷ []) ≡ []) ↔ P
within true e d = (λ h. d.0 refl, λ p. refl)
within false e d = (λ h. absurd (some-listed e [] h), λ p. ap (λ b. cond b [] (e ∷ [])) (d.1 p))

beyond-none : (most count : ℕ) → (beyond most count ≡ []) ↔ (count ≤ most)
beyond-none most count = within (nat_le count most) (record { count = count; most = most }) (decides-le count most)

below-both : (n a b : ℕ) → (n ≤ min a b) ↔ ((n ≤ a) × (n ≤ b))
below-both n a b = (λ h. (omega arith, omega arith), λ h. omega arith)

then : {P Q R : Type 0} → P ↔ Q → Q ↔ R → P ↔ R
then a b = (λ p. b.0 (a.0 p), λ r. a.1 (b.1 r))

flags-none : (kind : RecordKind) (n : ℕ) → (flags_beyond kind n ≡ []) ↔ FlagsFit kind n
flags-none (RecordKind.Bitflags repr) n = beyond-none (repr_bits repr) n
flags-none RecordKind.Tuple n = none-listed (Unit {0}) tt
flags-none RecordKind.Other n = none-listed (Unit {0}) tt

cases-none : (repr : IntRepr) (n : ℕ) → (beyond (most_cases repr) n ≡ []) ↔ ((n ≤ 2 ^ repr_bits repr) × (n ≤ 2 ^ 32))
cases-none repr n = then (beyond-none (most_cases repr) n) (below-both n (2 ^ repr_bits repr) (2 ^ 32))

mutual
  pub type-none : (t : Tree) → (misfits t ≡ []) ↔ NodesFit t
  type-none (Tree.named n t d) = none-listed (Unit {0}) tt
  type-none (Tree.builtin b) = none-listed (Unit {0}) tt
  type-none Tree.handle = none-listed (Unit {0}) tt
  type-none (Tree.list_of t) = type-none t
  type-none (Tree.pointer_to t) = type-none t
  type-none (Tree.const_pointer_to t) = type-none t
  type-none (Tree.record_of kind ms) =
      both-empty (flags_beyond kind (field_count (plain_fields ms))) (field_misfits ms) (flags-none kind (field_count (plain_fields ms))) (fields-none ms)
  type-none (Tree.variant_of repr cs) =
      both-empty (beyond (most_cases repr) (arm_count (plain_arms cs))) (arm_misfits cs) (cases-none repr (arm_count (plain_arms cs))) (arms-none cs)

  fields-none : (ms : Fields) → (field_misfits ms ≡ []) ↔ FieldNodesFit ms
  fields-none Fields.no_fields = none-listed (Unit {0}) tt
  fields-none (Fields.field n t d ms) = both-empty (misfits t) (field_misfits ms) (type-none t) (fields-none ms)

  arms-none : (cs : Arms) → (arm_misfits cs ≡ []) ↔ ArmNodesFit cs
  arms-none Arms.no_arms = none-listed (Unit {0}) tt
  arms-none (Arms.bare n d cs) = arms-none cs
  arms-none (Arms.carries n t d cs) = both-empty (misfits t) (arm_misfits cs) (type-none t) (arms-none cs)

params-none : (ps : List Field) → (params_misfits ps ≡ []) ↔ AllByRecursion (λ p. NodesFit p.tree) ps
params-none [] = none-listed (Unit {0}) tt
params-none (p ∷ ps) = both-empty (misfits p.tree) (params_misfits ps) (type-none p.tree) (params-none ps)

alone : {A : Type 0} → A ↔ (Unit {0} × A)
alone = (λ a. (tt, a), λ h. h.1)

items-none : (items : List ItemTree) → (item_misfits items ≡ []) ↔ AllByRecursion ItemNodesFit items
items-none [] = none-listed (Unit {0}) tt
items-none (import_of i ∷ items) = then (items-none items) alone
items-none (func_of f ∷ items) =
    both-empty (params_misfits f.params ++ params_misfits f.results) (item_misfits items)
    (both-empty (params_misfits f.params) (params_misfits f.results) (params-none f.params) (params-none f.results)) (items-none items)

definition-none : (d : DefinitionTree) → (definition_misfits d ≡ []) ↔ DefinitionNodesFit d
definition-none (typename_of name t docs) = type-none t
definition-none (module_of m) = items-none m.items
definition-none (constant_of c) = none-listed (Unit {0}) tt

some-told : (m : Misfit) → Some m ≡ None → ⊥
some-told m h = cc

here-none : {P Q : Type 0} (n : ℕ) (es : List Excess) (others : Option Misfit) → (es ≡ []) ↔ P → (others ≡ None) ↔ Q → (first_here n es others ≡ None) ↔ (P × Q)
here-none n [] others p q = (λ h. (p.0 refl, q.0 h), λ h. q.1 h.1)
here-none n (e ∷ es) others p q = (λ h. absurd (some-told _ h), λ h. absurd (some-listed e es (p.1 h.0)))

all-none : (n : ℕ) (ds : List DefinitionTree) → (first_misfit_from n ds ≡ None) ↔ AllNodesFit ds
all-none n [] = (λ h. tt, λ h. refl)
all-none n (d ∷ ds) = here-none n (definition_misfits d) (first_misfit_from (n + 1) ds) (definition-none d) (all-none (n + 1) ds)

pub document-none : (ds : List DefinitionTree) → (first_misfit ds ≡ None) ↔ AllNodesFit ds
document-none ds = all-none 0 ds
