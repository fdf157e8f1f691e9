-- Claims on the texts of a document that are printed: on its names, on the names in quotes, and on its documentation.
-- What a name stands for isn't entered; the members of a tuple have no names, and those of flags no types.
use Rattle.std.specs.Prelude.{ℕ, List, [], ◌∷◌}
use Rattle.witx_ast.specs.declared.types.RecordKind.{RecordKind}
use Rattle.witx_ast.specs.Tree.{Tree, Fields, Arms, Field}
use Rattle.witx_ast.specs.Items.{ItemTree, import_of, func_of}
use Rattle.witx_ast.specs.Definitions.{DefinitionTree, typename_of, module_of, constant_of}

pub record Claims : Type 1 where
  pub name : List ℕ → Type 0
  pub quoted : List ℕ → Type 0
  pub docs : List ℕ → Type 0

abbrev pub FlagTexts : Claims → Fields → Type 0
FlagTexts c Fields.no_fields = Unit {0}
FlagTexts c (Fields.field n t d ms) = c.name n × c.docs d × FlagTexts c ms

abbrev pub RecordTexts : Claims → RecordKind → Fields → Type 0 → Type 0 → Type 0
RecordTexts c RecordKind.Tuple ms types fields = types
RecordTexts c (RecordKind.Bitflags r) ms types fields = FlagTexts c ms
RecordTexts c RecordKind.Other ms types fields = fields

abbrev mutual
  pub TypeTexts : Claims → Tree → Type 0
  TypeTexts c (Tree.named n t d) = c.name n
  TypeTexts c (Tree.builtin b) = Unit {0}
  TypeTexts c Tree.handle = Unit {0}
  TypeTexts c (Tree.list_of t) = TypeTexts c t
  TypeTexts c (Tree.pointer_to t) = TypeTexts c t
  TypeTexts c (Tree.const_pointer_to t) = TypeTexts c t
  TypeTexts c (Tree.record_of kind ms) = RecordTexts c kind ms (TupleTexts c ms) (FieldTexts c ms)
  TypeTexts c (Tree.variant_of r cs) = CaseTexts c cs

  pub TupleTexts : Claims → Fields → Type 0
  TupleTexts c Fields.no_fields = Unit {0}
  TupleTexts c (Fields.field n t d ms) = c.docs d × TypeTexts c t × TupleTexts c ms

  pub FieldTexts : Claims → Fields → Type 0
  FieldTexts c Fields.no_fields = Unit {0}
  FieldTexts c (Fields.field n t d ms) = c.name n × c.docs d × TypeTexts c t × FieldTexts c ms

  pub CaseTexts : Claims → Arms → Type 0
  CaseTexts c Arms.no_arms = Unit {0}
  CaseTexts c (Arms.bare n d cs) = c.name n × c.docs d × CaseTexts c cs
  CaseTexts c (Arms.carries n t d cs) = c.name n × c.docs d × TypeTexts c t × CaseTexts c cs

abbrev pub ParamTexts : Claims → List Field → Type 0
ParamTexts c [] = Unit {0}
ParamTexts c (p ∷ ps) = c.name p.called × c.docs p.comment × TypeTexts c p.tree × ParamTexts c ps

abbrev pub ItemTexts : Claims → ItemTree → Type 0
ItemTexts c (import_of i) = c.quoted i.name × c.docs i.docs
ItemTexts c (func_of f) = c.quoted f.name × c.docs f.comment × ParamTexts c f.params × ParamTexts c f.results

abbrev pub ItemsTexts : Claims → List ItemTree → Type 0
ItemsTexts c [] = Unit {0}
ItemsTexts c (i ∷ is) = ItemTexts c i × ItemsTexts c is

abbrev pub DefinitionTexts : Claims → DefinitionTree → Type 0
DefinitionTexts c (typename_of n t d) = c.name n × c.docs d × TypeTexts c t
DefinitionTexts c (module_of m) = c.name m.name × c.docs m.comment × ItemsTexts c m.items
DefinitionTexts c (constant_of k) = Unit {0}

abbrev pub DocumentTexts : Claims → List DefinitionTree → Type 0
DocumentTexts c [] = Unit {0}
DocumentTexts c (d ∷ ds) = DefinitionTexts c d × DocumentTexts c ds
