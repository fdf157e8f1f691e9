-- Trees of a text without their places, which is what equality compares: each name stands at the beginning of the text.
use Rattle.std.specs.Prelude.{map}
use Rattle.witx_syntax_tree.specs.Trees.{Name, QuotedText, Member, TypeTree, Maybe, Types, Fields, UnionFields, Cases, DeclTree, NotedDecl, FormTree, NotedItem, Document}

abbrev pub unplaced_name : Name → Name
unplaced_name n = record { name = n.name; start = 0; end = 0 }

abbrev pub unplaced_quoted : QuotedText → QuotedText
unplaced_quoted q = record { text = q.text; start = 0; end = 0 }

abbrev pub unplaced_member : Member → Member
unplaced_member m = record { comments = m.comments; name = unplaced_name m.name }

abbrev mutual
  pub unplaced : TypeTree → TypeTree
  unplaced (TypeTree.ident n) = TypeTree.ident (unplaced_name n)
  unplaced (TypeTree.builtin b) = TypeTree.builtin b
  unplaced TypeTree.string = TypeTree.string
  unplaced TypeTree.boolean = TypeTree.boolean
  unplaced TypeTree.handle = TypeTree.handle
  unplaced (TypeTree.list_of t) = TypeTree.list_of (unplaced t)
  unplaced (TypeTree.pointer_to t) = TypeTree.pointer_to (unplaced t)
  unplaced (TypeTree.const_pointer_to t) = TypeTree.const_pointer_to (unplaced t)
  unplaced (TypeTree.tuple_of ts) = TypeTree.tuple_of (unplaced_types ts)
  unplaced (TypeTree.enum_of r ms) = TypeTree.enum_of r (map unplaced_member ms)
  unplaced (TypeTree.flags_of r ms) = TypeTree.flags_of r (map unplaced_member ms)
  unplaced (TypeTree.record_of fs) = TypeTree.record_of (unplaced_fields fs)
  unplaced (TypeTree.union_of t fs) = TypeTree.union_of (unplaced_maybe t) (unplaced_union_fields fs)
  unplaced (TypeTree.variant_of t cs) = TypeTree.variant_of (unplaced_maybe t) (unplaced_cases cs)
  unplaced (TypeTree.expected t u) = TypeTree.expected (unplaced_maybe t) (unplaced_maybe u)

  pub unplaced_maybe : Maybe → Maybe
  unplaced_maybe Maybe.absent = Maybe.absent
  unplaced_maybe (Maybe.present t) = Maybe.present (unplaced t)

  pub unplaced_types : Types → Types
  unplaced_types Types.no_types = Types.no_types
  unplaced_types (Types.one_type t ts) = Types.one_type (unplaced t) (unplaced_types ts)

  pub unplaced_fields : Fields → Fields
  unplaced_fields Fields.no_fields = Fields.no_fields
  unplaced_fields (Fields.one_field c n t fs) = Fields.one_field c (unplaced_name n) (unplaced t) (unplaced_fields fs)

  pub unplaced_union_fields : UnionFields → UnionFields
  unplaced_union_fields UnionFields.no_union_fields = UnionFields.no_union_fields
  unplaced_union_fields (UnionFields.one_union_field c t fs) = UnionFields.one_union_field c (unplaced t) (unplaced_union_fields fs)

  pub unplaced_cases : Cases → Cases
  unplaced_cases Cases.no_cases = Cases.no_cases
  unplaced_cases (Cases.one_case c n t cs) = Cases.one_case c (unplaced_name n) (unplaced_maybe t) (unplaced_cases cs)

abbrev pub unplaced_decl : DeclTree → DeclTree
unplaced_decl (DeclTree.memory q) = DeclTree.memory (unplaced_quoted q)
unplaced_decl (DeclTree.function q ps rs noreturn stored) = DeclTree.function (unplaced_quoted q) (unplaced_fields ps) (unplaced_fields rs) noreturn stored

abbrev pub unplaced_noted_decl : NotedDecl → NotedDecl
unplaced_noted_decl d = record { comments = d.comments; decl = unplaced_decl d.decl }

abbrev pub unplaced_item : FormTree → FormTree
unplaced_item (FormTree.uses t) = FormTree.uses t
unplaced_item (FormTree.typename n t) = FormTree.typename (unplaced_name n) (unplaced t)
unplaced_item (FormTree.module_of n ds) = FormTree.module_of (unplaced_name n) (map unplaced_noted_decl ds)
unplaced_item (FormTree.constant c t n v) = FormTree.constant c (unplaced_name t) (unplaced_name n) v

abbrev pub unplaced_noted_item : NotedItem → NotedItem
unplaced_noted_item i = record { comments = i.comments; item = unplaced_item i.item }

abbrev pub unplaced_document : Document → Document
unplaced_document = map unplaced_noted_item
