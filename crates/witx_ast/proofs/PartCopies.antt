-- What reads as the same tree, as a copy does, is equal: parts of types, parameters and functions.
use Rattle.std.specs.Prelude.{◌≡◌, true, false, List, [], ◌∷◌, Bool, ◌&&◌, map, Option, None, Some, option_map}
use Rattle.std.proofs.Common.{refl, ap, ◌∙◌}
use Rattle.std.specs.Cmp.Lexicographic.{pointwise}
use Rattle.std.specs.Option.{option_eq}
use Rattle.std.specs.Bool.{beq}
use Rattle.witx_ast.specs.Tree.{Tree, Field, Arm}
use Rattle.witx_ast.specs.Views.{tree_of, record_tree, variant_tree, member_field, case_arm}
use Rattle.witx_ast.specs.Functions.{param_field, func_tree}
use Rattle.witx_base.specs.SameBytes.{same_bytes, bytes-self}
use Rattle.witx_ast.specs.Same.{same_tree}
use Rattle.witx_ast.specs.SameLaws.{same-self}
use Rattle.witx_ast.proofs.Equal.{datatype-same}
use Rattle.witx_ast.proofs.Trees.{tree-Record, tree-Variant, tree-RecordMember, tree-Case}
use Rattle.witx_ast.specs.declared.types.Datatype.TheVariants as datatype
use Rattle.witx_ast.specs.declared.types.TypeRef.{TypeRef}
use Rattle.witx_ast.specs.declared.types.RecordDatatype.{RecordDatatype}
use Rattle.witx_ast.specs.declared.types.Variant.{Variant}
use Rattle.witx_ast.specs.declared.types.RecordMember.{RecordMember}
use Rattle.witx_ast.specs.declared.types.Case.{Case}
use Rattle.witx_ast.specs.declared.function.InterfaceFuncParam.{InterfaceFuncParam}
use Rattle.witx_ast.specs.declared.function.InterfaceFunc.{InterfaceFunc}
use Rattle.witx_ast.specs.contracts.types.RecordDatatypePartialEq.TheImpl as records
use Rattle.witx_ast.specs.contracts.types.VariantPartialEq.TheImpl as variants
use Rattle.witx_ast.specs.contracts.types.RecordMemberPartialEq.TheImpl as members
use Rattle.witx_ast.specs.contracts.types.CasePartialEq.TheImpl as cases
use Rattle.witx_ast.specs.contracts.types.TypeRefPartialEq.TheImpl as trefs
use Rattle.witx_ast.specs.contracts.function.InterfaceFuncParamPartialEq.TheImpl as params
use Rattle.witx_ast.specs.contracts.function.InterfaceFuncPartialEq.TheImpl as functions
use Rattle.witx_ast.specs.contracts.function.AbiEq.TheImpl.Laws as abi_laws

pub record-same : (r s : RecordDatatype) → records.ghosts.eq r s ≡ same_tree (record_tree r) (record_tree s)
record-same r s = datatype-same (datatype.Record r) (datatype.Record s) ∙ rw (tree-Record r, tree-Record s) refl

pub variant-same : (v w : Variant) → variants.ghosts.eq v w ≡ same_tree (variant_tree v) (variant_tree w)
variant-same v w = datatype-same (datatype.Variant v) (datatype.Variant w) ∙ rw (tree-Variant v, tree-Variant w) refl

abbrev pub same_field : Field → Field → Bool
same_field f g = same_bytes f.called g.called && (same_tree f.tree g.tree && same_bytes f.comment g.comment)

field-self : (f : Field) → same_field f f ≡ true
field-self f = rw (bytes-self f.called, same-self f.tree, bytes-self f.comment) refl

pub member-copied : (m c : RecordMember) → member_field c ≡ member_field m → members.ghosts.eq c m ≡ true
member-copied m c h = (rw (tree-RecordMember c, tree-RecordMember m) refl) ∙ ap (λ f. same_field f (member_field m)) h ∙ field-self (member_field m)

option-self : (t : Option Tree) → option_eq same_tree t t ≡ true
option-self None = refl
option-self (Some t) = same-self t

option-same : (a b : Option TypeRef) → option_eq trefs.ghosts.eq a b ≡ option_eq same_tree (option_map tree_of a) (option_map tree_of b)
option-same None None = refl
option-same None (Some u) = refl
option-same (Some t) None = refl
option-same (Some t) (Some u) = refl

abbrev pub same_arm : Arm → Arm → Bool
same_arm a b = same_bytes a.called b.called && (option_eq same_tree a.payload b.payload && same_bytes a.comment b.comment)

arm-self : (a : Arm) → same_arm a a ≡ true
arm-self a = rw (bytes-self a.called, option-self a.payload, bytes-self a.comment) refl

case-same : (a b : Case) → cases.ghosts.eq a b ≡ same_arm (case_arm a) (case_arm b)
case-same a b = rw (tree-Case a, tree-Case b, ← option-same a.tref b.tref) refl

pub case-copied : (a c : Case) → case_arm c ≡ case_arm a → cases.ghosts.eq c a ≡ true
case-copied a c h = case-same c a ∙ ap (λ b. same_arm b (case_arm a)) h ∙ arm-self (case_arm a)

pub param-copied : (p c : InterfaceFuncParam) → param_field c ≡ param_field p → params.ghosts.eq c p ≡ true
param-copied p c h = ap (λ f. same_field f (param_field p)) h ∙ field-self (param_field p)

fields-self : (fs : List Field) → pointwise same_field fs fs ≡ true
fields-self [] = refl
fields-self (f ∷ fs) = rw (field-self f, fields-self fs) refl

params-same : (ps qs : List InterfaceFuncParam) → pointwise params.ghosts.eq ps qs ≡ pointwise same_field (map param_field ps) (map param_field qs)
params-same [] [] = refl
params-same [] (q ∷ qs) = refl
params-same (p ∷ ps) [] = refl
params-same (p ∷ ps) (q ∷ qs) = ap (λ b. same_field (param_field p) (param_field q) && b) (params-same ps qs)

params-copied : (ps cs : List InterfaceFuncParam) → map param_field cs ≡ map param_field ps → pointwise params.ghosts.eq cs ps ≡ true
params-copied ps cs h = params-same cs ps ∙ ap (λ fs. pointwise same_field fs (map param_field ps)) h ∙ fields-self (map param_field ps)

bool-self : (b : Bool) → beq b b ≡ true
bool-self true = refl
bool-self false = refl

pub function-copied : (f c : InterfaceFunc) → func_tree c ≡ func_tree f → functions.ghosts.eq c f ≡ true
function-copied f c h =
    let abi = ap (λ t. t.abi) h in
    let name = ap (λ t. t.name) h in
    let params = params-copied f.params c.params (ap (λ t. t.params) h) in
    let results = params-copied f.results c.results (ap (λ t. t.results) h) in
    let noreturn = ap (λ t. t.noreturn) h in
    let comment = ap (λ t. t.comment) h in
    rw (abi, name, params, results, noreturn, comment, abi_laws.laws-law.refl f.abi, bytes-self f.name, bytes-self f.docs, bool-self f.noreturn) refl
