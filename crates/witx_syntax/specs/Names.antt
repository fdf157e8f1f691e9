-- Each identifier of a document meets one claim, each quoted text another, and each record has a field; and which bytes of the text an identifier is: those of its place, behind their $.
use Rattle.std.specs.Prelude.{◌≡◌, ℕ, ◌≤◌, List, [], ◌∷◌, length, slice_range}
use Rattle.witx_lex.specs.Characters.{dollar}
use Rattle.witx_syntax_tree.specs.Trees.{Name, Member, TypeTree, ident, builtin, string, boolean, handle, list_of, pointer_to, const_pointer_to, tuple_of, enum_of, flags_of, record_of, union_of, variant_of, expected, Maybe, absent, present, Types, no_types, one_type, Fields, no_fields, one_field, UnionFields, no_union_fields, one_union_field, Cases, no_cases, one_case, DeclTree, memory, function, NotedDecl, FormTree, uses, typename, module_of, constant, Document}

-- the identifier is written in the text where its place says
pub record StandsInText (text : List ℕ) (n : Name) : Type 0 where
  pub ordered : n.start ≤ n.end
  pub inside : n.end ≤ length text
  pub spelled : slice_range text n.start n.end ≡ dollar ∷ n.name

abbrev pub NamesOfMembers : (Name → Type 0) → (List ℕ → Type 0) → List Member → Type 0
NamesOfMembers P Q [] = Unit {0}
NamesOfMembers P Q (m ∷ ms) = P m.name × NamesOfMembers P Q ms

abbrev pub HasOne : Fields → Type 0
HasOne no_fields = ⊥
HasOne (one_field cs n t fs) = Unit {0}

abbrev mutual
  pub NamesOfType : (Name → Type 0) → (List ℕ → Type 0) → TypeTree → Type 0
  NamesOfType P Q (ident n) = P n
  NamesOfType P Q (builtin b) = Unit {0}
  NamesOfType P Q string = Unit {0}
  NamesOfType P Q boolean = Unit {0}
  NamesOfType P Q handle = Unit {0}
  NamesOfType P Q (list_of t) = NamesOfType P Q t
  NamesOfType P Q (pointer_to t) = NamesOfType P Q t
  NamesOfType P Q (const_pointer_to t) = NamesOfType P Q t
  NamesOfType P Q (tuple_of ts) = NamesOfTypes P Q ts
  NamesOfType P Q (enum_of b ms) = NamesOfMembers P Q ms
  NamesOfType P Q (flags_of b ms) = NamesOfMembers P Q ms
  NamesOfType P Q (record_of fs) = HasOne fs × NamesOfFields P Q fs
  NamesOfType P Q (union_of tag fs) = NamesOfMaybe P Q tag × NamesOfUnionFields P Q fs
  NamesOfType P Q (variant_of tag cs) = NamesOfMaybe P Q tag × NamesOfCases P Q cs
  NamesOfType P Q (expected ok err) = NamesOfMaybe P Q ok × NamesOfMaybe P Q err

  pub NamesOfMaybe : (Name → Type 0) → (List ℕ → Type 0) → Maybe → Type 0
  NamesOfMaybe P Q absent = Unit {0}
  NamesOfMaybe P Q (present t) = NamesOfType P Q t

  pub NamesOfTypes : (Name → Type 0) → (List ℕ → Type 0) → Types → Type 0
  NamesOfTypes P Q no_types = Unit {0}
  NamesOfTypes P Q (one_type t ts) = NamesOfType P Q t × NamesOfTypes P Q ts

  pub NamesOfFields : (Name → Type 0) → (List ℕ → Type 0) → Fields → Type 0
  NamesOfFields P Q no_fields = Unit {0}
  NamesOfFields P Q (one_field cs n t fs) = (P n × NamesOfType P Q t) × NamesOfFields P Q fs

  pub NamesOfUnionFields : (Name → Type 0) → (List ℕ → Type 0) → UnionFields → Type 0
  NamesOfUnionFields P Q no_union_fields = Unit {0}
  NamesOfUnionFields P Q (one_union_field cs t fs) = NamesOfType P Q t × NamesOfUnionFields P Q fs

  pub NamesOfCases : (Name → Type 0) → (List ℕ → Type 0) → Cases → Type 0
  NamesOfCases P Q no_cases = Unit {0}
  NamesOfCases P Q (one_case ds n t cs) = (P n × NamesOfMaybe P Q t) × NamesOfCases P Q cs

abbrev pub NamesOfDecl : (Name → Type 0) → (List ℕ → Type 0) → DeclTree → Type 0
NamesOfDecl P Q (memory q) = Q q.text
NamesOfDecl P Q (function q ps rs n s) = Q q.text × (NamesOfFields P Q ps × NamesOfFields P Q rs)

abbrev pub NamesOfDecls : (Name → Type 0) → (List ℕ → Type 0) → List NotedDecl → Type 0
NamesOfDecls P Q [] = Unit {0}
NamesOfDecls P Q (d ∷ ds) = NamesOfDecl P Q d.decl × NamesOfDecls P Q ds

abbrev pub NamesOfItem : (Name → Type 0) → (List ℕ → Type 0) → FormTree → Type 0
NamesOfItem P Q (uses t) = Q t
NamesOfItem P Q (typename n t) = P n × NamesOfType P Q t
NamesOfItem P Q (module_of n ds) = P n × NamesOfDecls P Q ds
NamesOfItem P Q (constant cs t n v) = P t × P n

-- each identifier of the document meets the claim P, each quoted text the claim Q
abbrev pub AllNames : (Name → Type 0) → (List ℕ → Type 0) → Document → Type 0
AllNames P Q [] = Unit {0}
AllNames P Q (i ∷ is) = NamesOfItem P Q i.item × AllNames P Q is
