-- A plain document that files mean reads back: its declarations are items of documents, whose names are identifiers.
use Rattle.std.proofs.Common.{◌≡◌, ℕ, List, [], ◌∷◌, ◌++◌, map, Option, Some, None, Result, Ok, Err, refl, sym, ap, ◌∙◌, subst, inl, inr}
use Rattle.std.specs.Prelude.{◌⊎◌, IfErr}
use Rattle.std.specs.List.{AllByRecursion}
use Rattle.std.specs.Str.{IsUtf8}
use Rattle.witx_base.specs.Paths.{Path}
use Rattle.witx_ast.specs.declared.types.RecordKind.{RecordKind}
use Rattle.witx_ast.specs.Tree as ast
use Rattle.witx_ast.specs.Tree.{Tree, Field}
use Rattle.witx_ast.specs.Items.{ItemTree, import_of, func_of}
use Rattle.witx_ast.specs.Definitions.{DefinitionTree, typename_of, module_of, constant_of}
use Rattle.witx_syntax_tree.specs.Trees as forms
use Rattle.witx_syntax_tree.specs.Trees.{NotedItem, Document}
use Rattle.witx_syntax.specs.Names.{AllNames, NamesOfItem}
use Rattle.witx_language.specs.FaultPlaces.{Told}
use Rattle.witx_syntax.specs.Reads.{Reads, IsFaultOf}
use Rattle.witx_scope.specs.Faults.{Fault}
use Rattle.witx_order.specs.Items.{TextItem, declaration, use_of, item_at, item_of, items_of, Declared, SyntaxFault}
use Rattle.witx_order.specs.Walks.{World, IsReadDeclaration}
use Rattle.witx_order.specs.Fronts.{AreSound}
use Rattle.witx_walk.specs.Readings.{FileReading, IsReading, syntax_fault}
use Rattle.witx_walk.specs.Meaning.{definitions_of, fault_behind, world, MeansDocument}
use Rattle.witx_read_back.specs.DocumentTexts.{Claims, TypeTexts, TupleTexts, FieldTexts, FlagTexts, RecordTexts, CaseTexts, ParamTexts, ItemTexts, ItemsTexts, DefinitionTexts, DocumentTexts}
use Rattle.witx_read_back.specs.Plain.{IsPlain, plain_texts}
use Rattle.witx_read_back.proofs.Readable.{readable}
use Rattle.witx_read_back.proofs.Named.{well}
use Rattle.witx_read_back.proofs.NamedItems.{AllNamedWell, declared_well}
use Rattle.witx_read_back.proofs.Identifiers.{named_well, read_names, filled_item}
use Rattle.witx_read_back.proofs.Declared.{AllFilled}
use Rattle.witx_order.proofs.Read.{walk-read}
use Rattle.witx_order.specs.Verdicts.{Verdict, fine, refused}
use Rattle.witx_order.specs.Walks.{WalkRefusal}
use Rattle.witx_files.specs.declared.fault.IoFault.TheVariants.{NotFound, LineNotFound, Failed}
use Rattle.witx_walk.specs.Answers.{Answer, AgreesWith, answer_of}
use Rattle.witx_walk.specs.OneFile.{IsOfOneFile, IsSourceAnswer, IsSourceVerdict}
use Rattle.witx_ast.specs.Entries.{Held}
use Rattle.witx_ast.specs.declared.definition.Definition.{Definition}
use Rattle.witx_ast.specs.declared.definition.Entry.{Entry}
use Rattle.witx_render.specs.DocumentTexts.{document_text}
use Rattle.witx_walk.specs.declared.error.WitxError.{WitxError}
use Rattle.witx_walk.specs.declared.error.WitxError.TheVariants.{Io, Parse, Validation, BadPath, TooManyFiles, OutOfMemory}
use Rattle.witx_read_back.specs.SameEntries.{SameEntries}
use Rattle.witx_read_back.specs.ReadBack.{IsMeant, HasPrintedTokens, ReadsAsPrinted, MeansTheSame, IsReadBack, ForPlain}
use Rattle.witx_read_back.proofs.ReadBack.{IsPrepared, declared_prepared, has_tokens, reads_printed, means_same}

-- ---- claims put together

module _ (a b c : Claims) (N : (n : List ℕ) → a.name n → b.name n → c.name n) (Q : (s : List ℕ) → a.quoted s → b.quoted s → c.quoted s) (D : (d : List ℕ) → a.docs d → b.docs d → c.docs d) where
  both_flags : (ms : ast.Fields) → FlagTexts a ms → FlagTexts b ms → FlagTexts c ms
  both_flags ast.no_fields x y = tt
  both_flags (ast.field n t d ms) x y = (N n x.0 y.0, D d x.1 y.1, both_flags ms x.2 y.2)

  mutual
    both_type : (t : Tree) → TypeTexts a t → TypeTexts b t → TypeTexts c t
    both_type (Tree.named n t d) x y = N n x y
    both_type (Tree.builtin k) x y = tt
    both_type Tree.handle x y = tt
    both_type (Tree.list_of t) x y = both_type t x y
    both_type (Tree.pointer_to t) x y = both_type t x y
    both_type (Tree.const_pointer_to t) x y = both_type t x y
    both_type (Tree.record_of RecordKind.Tuple ms) x y = both_tuple ms x y
    both_type (Tree.record_of (RecordKind.Bitflags r) ms) x y = both_flags ms x y
    both_type (Tree.record_of RecordKind.Other ms) x y = both_fields ms x y
    both_type (Tree.variant_of r cs) x y = both_cases cs x y

    both_tuple : (ms : ast.Fields) → TupleTexts a ms → TupleTexts b ms → TupleTexts c ms
    both_tuple ast.no_fields x y = tt
    both_tuple (ast.field n t d ms) x y = (D d x.0 y.0, both_type t x.1 y.1, both_tuple ms x.2 y.2)

    both_fields : (ms : ast.Fields) → FieldTexts a ms → FieldTexts b ms → FieldTexts c ms
    both_fields ast.no_fields x y = tt
    both_fields (ast.field n t d ms) x y = (N n x.0 y.0, D d x.1 y.1, both_type t x.2 y.2, both_fields ms x.3 y.3)

    both_cases : (cs : ast.Arms) → CaseTexts a cs → CaseTexts b cs → CaseTexts c cs
    both_cases ast.no_arms x y = tt
    both_cases (ast.bare n d cs) x y = (N n x.0 y.0, D d x.1 y.1, both_cases cs x.2 y.2)
    both_cases (ast.carries n t d cs) x y = (N n x.0 y.0, D d x.1 y.1, both_type t x.2 y.2, both_cases cs x.3 y.3)

  both_params : (ps : List Field) → ParamTexts a ps → ParamTexts b ps → ParamTexts c ps
  both_params [] x y = tt
  both_params (p ∷ ps) x y = (N p.called x.0 y.0, D p.comment x.1 y.1, both_type p.tree x.2 y.2, both_params ps x.3 y.3)

  both_item : (i : ItemTree) → ItemTexts a i → ItemTexts b i → ItemTexts c i
  both_item (import_of i) x y = (Q i.name x.0 y.0, D i.docs x.1 y.1)
  both_item (func_of f) x y = (Q f.name x.0 y.0, D f.comment x.1 y.1, both_params f.params x.2 y.2, both_params f.results x.3 y.3)

  both_items : (is : List ItemTree) → ItemsTexts a is → ItemsTexts b is → ItemsTexts c is
  both_items [] x y = tt
  both_items (i ∷ is) x y = (both_item i x.0 y.0, both_items is x.1 y.1)

  both_definition : (d : DefinitionTree) → DefinitionTexts a d → DefinitionTexts b d → DefinitionTexts c d
  both_definition (typename_of n t d) x y = (N n x.0 y.0, D d x.1 y.1, both_type t x.2 y.2)
  both_definition (module_of m) x y = (N m.name x.0 y.0, D m.comment x.1 y.1, both_items m.items x.2 y.2)
  both_definition (constant_of k) x y = tt

  both_texts : (ds : List DefinitionTree) → DocumentTexts a ds → DocumentTexts b ds → DocumentTexts c ds
  both_texts [] x y = tt
  both_texts (d ∷ ds) x y = (both_definition d x.0 y.0, both_texts ds x.1 y.1)

readable_texts : (ds : List DefinitionTree) → DocumentTexts well ds → DocumentTexts plain_texts ds → DocumentTexts readable ds
readable_texts = both_texts well plain_texts readable (λ n x y. x) (λ s x y. (y, x)) (λ d x y. y)

-- ---- items of texts that are read

not_nil : {A : Type 0} (x : A) (xs : List A) → x ∷ xs ≡ [] → ⊥
not_nil x xs e = cc

not_behind : {A : Type 0} (xs : List A) (x : A) (ys : List A) → xs ++ x ∷ ys ≡ [] → ⊥
not_behind [] x ys e = not_nil x ys e
not_behind (z ∷ xs) x ys e = not_nil z (xs ++ x ∷ ys) e

first_is : {A : Type 0} (x y : A) (xs ys : List A) → x ∷ xs ≡ y ∷ ys → x ≡ y
first_is x y xs ys e = cc

others_are : {A : Type 0} (x y : A) (xs ys : List A) → x ∷ xs ≡ y ∷ ys → xs ≡ ys
others_are x y xs ys e = cc

no_use : (i : NotedItem) (t : List ℕ) → declaration i ≡ use_of t → ⊥
no_use i t e = cc

one_declaration : (i j : NotedItem) → declaration i ≡ declaration j → j ≡ i
one_declaration i j e = cc

module _ (P : forms.FormTree → Type 0) where
  at_item : (i j : NotedItem) (x : forms.FormTree) → j.item ≡ x → P j.item → declaration i ≡ item_at j x → P i.item
  at_item i j (forms.uses t) q h e = absurd (no_use i t e)
  at_item i j (forms.typename m t) q h e = subst (λ (k : NotedItem). P k.item) (one_declaration i j e) h
  at_item i j (forms.module_of m ds) q h e = subst (λ (k : NotedItem). P k.item) (one_declaration i j e) h
  at_item i j (forms.constant cs t m v) q h e = subst (λ (k : NotedItem). P k.item) (one_declaration i j e) h

in_items : (i : NotedItem) (d : Document) (before behind : List TextItem) → AllNames named_well IsUtf8 d → before ++ declaration i ∷ behind ≡ items_of d → NamesOfItem named_well IsUtf8 i.item
in_items i [] before behind h e = absurd (not_behind before (declaration i) behind e)
in_items i (j ∷ js) [] behind h e = at_item (NamesOfItem named_well IsUtf8) i j j.item refl h.0 (first_is (declaration i) (item_of j) behind (items_of js) e)
in_items i (j ∷ js) (b ∷ bs) behind h e = in_items i js bs behind h.1 (others_are b (item_of j) (bs ++ declaration i ∷ behind) (items_of js) e)

-- ---- a text is a document or has a fault

abbrev pub OneOrOther : Type 0
OneOrOther = (text : List ℕ) → ((d : Document) × Reads text d) ⊎ ((f : Told) × IsFaultOf text f)

same_ok : {A E : Type 0} (x y : A) (r : Result A E) → r ≡ Ok x → r ≡ Ok y → x ≡ y
same_ok x y r e f = cc

not_err : {A E : Type 0} (x : A) (y : E) (r : Result A E) → r ≡ Ok x → r ≡ Err y → ⊥
not_err x y r e f = cc

document_of : OneOrOther → (reading : FileReading) → IsReading reading → (text : List ℕ) (items : List TextItem) → reading text ≡ Ok items → (d : Document) × Reads text d × (items ≡ items_of d)
document_of one reading r text items e = by_cases (one text)
  where
    by_cases : ((d : Document) × Reads text d) ⊎ ((f : Told) × IsFaultOf text f) → (d : Document) × Reads text d × (items ≡ items_of d)
    by_cases (inl d) = (d.0, d.1, same_ok items (items_of d.0) (reading text) e (r.documents text d.0 d.1))
    by_cases (inr f) = absurd (not_err items (syntax_fault f.0) (reading text) e (r.faults text f.0 f.1))

module _ (one : OneOrOther) (reading : FileReading) (r : IsReading reading) (w : World Fault) (same : w.reading ≡ reading) where
  read_well : (δ : Declared) → IsReadDeclaration w δ → NamesOfItem named_well IsUtf8 δ.item.item
  read_well δ q =
      let d = document_of one reading r δ.text (q.1.0 ++ declaration δ.item ∷ q.1.1) (sym (ap (λ (f : FileReading). f δ.text) same) ∙ q.1.2) in
      in_items δ.item d.0 q.1.0 q.1.1 (read_names δ.text d.0 d.1) d.2

  all_well : (δs : List Declared) → AllByRecursion (IsReadDeclaration w) δs → AllNamedWell δs
  all_well [] h = tt
  all_well (δ ∷ δs) h = (read_well δ h.0, all_well δs h.1)

all_filled : (δs : List Declared) → AllNamedWell δs → AllFilled δs
all_filled [] h = tt
all_filled (δ ∷ δs) h = (filled_item named_well IsUtf8 δ.item.item h.0, all_filled δs h.1)

nothing_kept : (n : List ℕ) → Unit {0}
nothing_kept n = tt

-- what declarations without a fault mean that are items of texts
read_prepared : OneOrOther → (reading : FileReading) → IsReading reading → (w : World Fault) → w.reading ≡ reading → w.fault_of ≡ fault_behind → (declared : List Declared)
    → AllByRecursion (IsReadDeclaration w) declared → AreSound w [] declared → IsPlain (definitions_of declared) → IsPrepared (definitions_of declared)
read_prepared one reading r w same faults declared h s p =
    let n = all_well one reading r w same declared h in
    let t = readable_texts (definitions_of declared) (declared_well w faults declared [] nothing_kept s n) p.texts in
    declared_prepared w faults declared s (all_filled declared n) t p

-- ---- a plain document that files mean

prepared : OneOrOther → (ds : List DefinitionTree) → IsMeant ds → IsPlain ds → IsPrepared ds
prepared one ds m p =
    let w = world m.files m.aliases m.reading in
    let d = m.means.0 in
    let walk = m.means.1.0 in
    subst (λ (x : List DefinitionTree). IsPrepared x) (sym m.means.1.1)
    (read_prepared one m.reading m.reads w refl refl d (walk-read w m.handed walk.0 d walk.1.0) walk.1.1 (subst (λ (x : List DefinitionTree). IsPlain x) m.means.1.1 p))

pub plain_has_tokens : OneOrOther → ForPlain HasPrintedTokens
plain_has_tokens one ds m p = has_tokens ds (prepared one ds m p).can

pub plain_reads : OneOrOther → ForPlain ReadsAsPrinted
plain_reads one ds m p = reads_printed ds (prepared one ds m p).can

pub plain_means : OneOrOther → ForPlain MeansTheSame
plain_means one ds m p = means_same ds (prepared one ds m p)

-- ---- the answer to the text

abbrev fine_of : List Declared → Verdict Fault
fine_of δs = fine δs

fine_declared : (δs ηs : List Declared) → fine_of δs ≡ fine_of ηs → δs ≡ ηs
fine_declared δs ηs e = cc

fine_refused : (δs : List Declared) (x : WalkRefusal Fault) → fine_of δs ≡ refused x → ⊥
fine_refused δs x e = cc

-- an answer that is the verdict
pub answer_read_back : (ds : List DefinitionTree) (declared : List Declared) (r : Answer) → SameEntries ds (definitions_of declared) → AgreesWith (fine_of declared) r → IfErr r IsOfOneFile → IsReadBack ds r
answer_read_back ds declared (Ok x) h a o = subst (λ (k : List DefinitionTree). SameEntries ds k) (ap (λ (k : List Declared). definitions_of k) (fine_declared declared a.0 a.1.0) ∙ sym a.1.1) h
answer_read_back ds declared (Err (BadPath p)) h a o = fine_refused declared _ a
answer_read_back ds declared (Err (TooManyFiles p)) h a o = fine_refused declared _ a
answer_read_back ds declared (Err (Io p NotFound)) h a o = fine_refused declared _ a
answer_read_back ds declared (Err (Io p LineNotFound)) h a o = a
answer_read_back ds declared (Err (Io p Failed)) h a o = o
answer_read_back ds declared (Err (Parse e)) h a o = fine_refused declared _ a
answer_read_back ds declared (Err (Validation e)) h a o = fine_refused declared _ a
answer_read_back ds declared (Err OutOfMemory) h a o = tt

pub parse_reads_back : ForPlain MeansTheSame → (ds : List DefinitionTree) (text : List ℕ) (r : Result (Held Definition Entry) WitxError) → text ≡ document_text ds
    → IsSourceVerdict text (answer_of r) → IfErr r IsOfOneFile → IsMeant ds → IsPlain ds → IsReadBack ds (answer_of r)
parse_reads_back same ds text r e v o m p =
    let q = same ds m p m.reading m.reads in
    answer_read_back ds q.0 (answer_of r) q.2
    (subst (λ (t : List ℕ). IsSourceVerdict t (answer_of r)) e v m.reading m.reads (fine q.0) q.1)
    (of_answer r o)
  where
    of_answer : (x : Result (Held Definition Entry) WitxError) → IfErr x IsOfOneFile → IfErr (answer_of x) IsOfOneFile
    of_answer (Ok d) h = h
    of_answer (Err f) h = h

-- the answer and the verdict of a text that is the printed one
pub printed_answer : (ds : List DefinitionTree) (text : List ℕ) (r : Result (Held Definition Entry) WitxError) → text ≡ document_text ds
    → IsSourceAnswer text (answer_of r) → IsSourceAnswer (document_text ds) (answer_of r)
printed_answer ds text r e a = subst (λ (t : List ℕ). IsSourceAnswer t (answer_of r)) e a

pub printed_verdict : (ds : List DefinitionTree) (text : List ℕ) (r : Result (Held Definition Entry) WitxError) → text ≡ document_text ds
    → IsSourceVerdict text (answer_of r) → IsSourceVerdict (document_text ds) (answer_of r)
printed_verdict ds text r e v = subst (λ (t : List ℕ). IsSourceVerdict t (answer_of r)) e v
