-- Members, cases, items and parameters, one after the other: whether the names in their types stand.
use Rattle.std.specs.Prelude.{◌≡◌, ℕ, ◌+◌, ◌<◌, ◌≤◌, List, ◌∷◌, Bool, true, false, ◌&&◌, Option, Some, None, map, option_map, length, drop}
use Rattle.std.proofs.Common.{refl, get_or}
use Rattle.witx_ast.specs.Tree.{Arm, arm, fields_of, arms_of}
use Rattle.witx_ast.specs.Views.{tree_of, member_field, case_arm}
use Rattle.witx_ast.specs.Functions.{param_field}
use Rattle.witx_ast.specs.Items.{item_tree}
use Rattle.witx_ast.specs.Definitions.{DefinitionTree}
use Rattle.witx_ast.specs.declared.function.InterfaceFuncParam.{InterfaceFuncParam}
use Rattle.witx_ast.specs.declared.module.ModuleDefinition.{ModuleDefinition}
use Rattle.witx_ast.specs.declared.types.RecordMember.{RecordMember}
use Rattle.witx_ast.specs.declared.types.Case.{Case}
use Rattle.witx_ast.specs.declared.types.TypeRef.{TypeRef}
use Rattle.witx_ast.proofs.Trees.{tree_rules, tree-RecordMember, tree-Case}
use Rattle.witx_conditions.proofs.Lists.{refused, passed, ended}
use Rattle.witx_conditions.specs.NameTests.{names_stand, fields_stand, arms_stand, payload_stands, params_stand, item_stands, items_stand}

abbrev pub members_stand : List DefinitionTree → List RecordMember → Bool
members_stand before xs = fields_stand before (fields_of (map member_field xs))

abbrev pub member_stands : List DefinitionTree → RecordMember → Bool
member_stands before m = names_stand before (tree_of m.tref)

abbrev pub cases_stand : List DefinitionTree → List Case → Bool
cases_stand before xs = arms_stand before (arms_of (map case_arm xs))

abbrev pub case_stands : List DefinitionTree → Case → Bool
case_stands before c = payload_stands before c.tref

more-member : (before : List DefinitionTree) (m : RecordMember) (ms : List RecordMember) → members_stand before (m ∷ ms) ≡ member_stands before m && members_stand before ms
more-member before m ms = rw (tree-RecordMember m) refl

arm-stands : (before : List DefinitionTree) (name docs : List ℕ) (o : Option TypeRef) (cs : List Arm)
    → arms_stand before (arm name (option_map tree_of o) docs (arms_of cs)) ≡ payload_stands before o && arms_stand before (arms_of cs)
arm-stands before name docs None cs = refl
arm-stands before name docs (Some t) cs = refl

more-case : (before : List DefinitionTree) (c : Case) (cs : List Case) → cases_stand before (c ∷ cs) ≡ case_stands before c && cases_stand before cs
more-case before c cs = rw (tree-Case c) (arm-stands before c.name c.docs c.tref (map case_arm cs))

module _ (before : List DefinitionTree) where
  abbrev pub MembersFrom : List RecordMember → ℕ → Type 0
  MembersFrom xs i = members_stand before (drop i xs) ≡ members_stand before xs

  pub member-refused : (xs : List RecordMember) (i : ℕ) (m : RecordMember) → i < length xs → m ≡ get_or xs i m → MembersFrom xs i → names_stand before (tree_of m.tref) ≡ false → fields_stand before (fields_of (map member_field xs)) ≡ false
  member-refused xs i m l p h e = refused (member_stands before) (members_stand before) (more-member before) refl xs i m l p h e

  pub member-passed : (xs : List RecordMember) (i : ℕ) (m : RecordMember) → i < length xs → m ≡ get_or xs i m → MembersFrom xs i → names_stand before (tree_of m.tref) ≡ true → MembersFrom xs (i + 1)
  member-passed xs i m l p h e = passed (member_stands before) (members_stand before) (more-member before) refl xs i m l p h e

  pub members-ended : (xs : List RecordMember) (i : ℕ) → length xs ≤ i → MembersFrom xs i → fields_stand before (fields_of (map member_field xs)) ≡ true
  members-ended xs i l h = ended (member_stands before) (members_stand before) (more-member before) refl xs i l h

  abbrev pub CasesFrom : List Case → ℕ → Type 0
  CasesFrom xs i = cases_stand before (drop i xs) ≡ cases_stand before xs

  pub case-refused : (xs : List Case) (i : ℕ) (c : Case) → i < length xs → c ≡ get_or xs i c → CasesFrom xs i → payload_stands before c.tref ≡ false → arms_stand before (arms_of (map case_arm xs)) ≡ false
  case-refused xs i c l p h e = refused (case_stands before) (cases_stand before) (more-case before) refl xs i c l p h e

  pub case-passed : (xs : List Case) (i : ℕ) (c : Case) → i < length xs → c ≡ get_or xs i c → CasesFrom xs i → payload_stands before c.tref ≡ true → CasesFrom xs (i + 1)
  case-passed xs i c l p h e = passed (case_stands before) (cases_stand before) (more-case before) refl xs i c l p h e

  pub cases-ended : (xs : List Case) (i : ℕ) → length xs ≤ i → CasesFrom xs i → arms_stand before (arms_of (map case_arm xs)) ≡ true
  cases-ended xs i l h = ended (case_stands before) (cases_stand before) (more-case before) refl xs i l h

  abbrev all-items : List ModuleDefinition → Bool
  all-items xs = items_stand before (map item_tree xs)

  abbrev one-item : ModuleDefinition → Bool
  one-item x = item_stands before (item_tree x)

  abbrev pub ItemsFrom : List ModuleDefinition → ℕ → Type 0
  ItemsFrom xs i = all-items (drop i xs) ≡ all-items xs

  pub item-refused : (xs : List ModuleDefinition) (i : ℕ) (x : ModuleDefinition) → i < length xs → x ≡ get_or xs i x → ItemsFrom xs i → item_stands before (item_tree x) ≡ false → items_stand before (map item_tree xs) ≡ false
  item-refused xs i x l p h e = refused one-item all-items (λ y ys. refl) refl xs i x l p h e

  pub item-passed : (xs : List ModuleDefinition) (i : ℕ) (x : ModuleDefinition) → i < length xs → x ≡ get_or xs i x → ItemsFrom xs i → item_stands before (item_tree x) ≡ true → ItemsFrom xs (i + 1)
  item-passed xs i x l p h e = passed one-item all-items (λ y ys. refl) refl xs i x l p h e

  pub items-ended : (xs : List ModuleDefinition) (i : ℕ) → length xs ≤ i → ItemsFrom xs i → items_stand before (map item_tree xs) ≡ true
  items-ended xs i l h = ended one-item all-items (λ y ys. refl) refl xs i l h

  abbrev all-params : List InterfaceFuncParam → Bool
  all-params xs = params_stand before (map param_field xs)

  abbrev one-param : InterfaceFuncParam → Bool
  one-param x = names_stand before (tree_of x.tref)

  abbrev pub ParamsFrom : List InterfaceFuncParam → ℕ → Type 0
  ParamsFrom xs i = all-params (drop i xs) ≡ all-params xs

  pub param-refused : (xs : List InterfaceFuncParam) (i : ℕ) (x : InterfaceFuncParam) → i < length xs → x ≡ get_or xs i x → ParamsFrom xs i → names_stand before (tree_of x.tref) ≡ false → params_stand before (map param_field xs) ≡ false
  param-refused xs i x l p h e = refused one-param all-params (λ y ys. refl) refl xs i x l p h e

  pub param-passed : (xs : List InterfaceFuncParam) (i : ℕ) (x : InterfaceFuncParam) → i < length xs → x ≡ get_or xs i x → ParamsFrom xs i → names_stand before (tree_of x.tref) ≡ true → ParamsFrom xs (i + 1)
  param-passed xs i x l p h e = passed one-param all-params (λ y ys. refl) refl xs i x l p h e

  pub params-ended : (xs : List InterfaceFuncParam) (i : ℕ) → length xs ≤ i → ParamsFrom xs i → params_stand before (map param_field xs) ≡ true
  params-ended xs i l h = ended one-param all-params (λ y ys. refl) refl xs i l h

pub ruleset name_rules = (tree_rules, member-refused, member-passed, members-ended, case-refused, case-passed, cases-ended)

pub ruleset item_rules = (item-refused, item-passed, items-ended, param-refused, param-passed, params-ended)
