-- Read-back: the text of a printed document, as the one file, has the verdict that it means the printed definitions.
use Rattle.std.proofs.Common.{◌≡◌, ℕ, Bool, true, false, List, [], ◌∷◌, ◌++◌, length, map, Option, Some, None, Result, Ok, Err, refl, sym, ap, ◌∙◌, subst}
use Rattle.std.specs.Prelude.{codes}
use Rattle.std.proofs.lemmas.List.{append_assoc, append-nil}
use Rattle.witx_base.specs.Paths.{Path, join, all_but_last, file_name}
use Rattle.witx_files.specs.Files.{same_path, Files, Aliases}
use Rattle.witx_ast.specs.Definitions.{DefinitionTree, typename_of, module_of, constant_of}
use Rattle.witx_lex.specs.Tokens.{Lexed}
use Rattle.witx_syntax_tree.specs.Trees as forms
use Rattle.witx_syntax_tree.specs.Trees.{NotedItem, Document}
use Rattle.witx_syntax.specs.Reads.{Reads}
use Rattle.witx_scope.specs.Faults.{Fault}
use Rattle.witx_scope.specs.Positions.{TakenName}
use Rattle.witx_order.specs.Items.{TextItem, declaration, item_of, item_at, items_of, Declared, SyntaxFault}
use Rattle.witx_order.specs.Walks.{World, Mark, start, decl, end, Place, place, open_file, declared_in, item_wish, met, beginning, folder_of, Next, started}
use Rattle.witx_order.specs.Verdicts.{Verdict, fine, Turn, on, ends, turn, turned, checked, Leads, here, along, Ends, IsVerdict}
use Rattle.witx_order.specs.Fronts.{AreSound}
use Rattle.witx_walk.specs.Readings.{FileReading, IsReading}
use Rattle.witx_walk.specs.Meaning.{definitions_of, fault_behind, world, MeansDocument}
use Rattle.witx_walk.specs.OneFile.{source_path, source_file, source_world}
use Rattle.witx_render.specs.DocumentTexts.{typenames_first, document_exprs, document_text, definition_expr}
use Rattle.witx_read_back.proofs.Printed.{emptied_definition}
use Rattle.witx_read_back.proofs.Stands.{DefinitionsStand}
use Rattle.witx_read_back.specs.Plain.{IsPlain}
use Rattle.witx_read_back.specs.DocumentTexts.{DocumentTexts}
use Rattle.witx_read_back.proofs.Readable.{readable}
use Rattle.witx_read_back.specs.ReadBack.{HasPrintedTokens, ReadsAsPrinted, MeansTheSame}
use Rattle.witx_read_back.proofs.Orders.{AllDiffer}
use Rattle.witx_read_back.proofs.Clean.{clean_lexable}
use Rattle.witx_read_back.specs.Says.{SaysDefinition, SaysDocument}
use Rattle.witx_read_back.proofs.Writable.{DocumentWritable}
use Rattle.witx_read_back.proofs.Lexes.{LinesLexable, lines_have_tokens}
use Rattle.witx_read_back.proofs.DocumentReads.{document_reads}
use Rattle.witx_read_back.proofs.DocumentFine.{definitions_fine, emptied_printed}
use Rattle.witx_read_back.proofs.DocumentGiven.{AllGiven, def_names, AllItemsDiffer, all_stand, all_writable, given_differ, given_items}
use Rattle.witx_read_back.proofs.Declared.{AllFilled, declared_given}
use Rattle.witx_read_back.proofs.Entries.{same_entries}

-- ---- the walk of one file of declarations

abbrev pub AreDeclarations : List NotedItem → Type 0
AreDeclarations [] = Unit {0}
AreDeclarations (i ∷ is) = (item_of i ≡ declaration i) × AreDeclarations is

is_declaration : (d : DefinitionTree) (i : NotedItem) → SaysDefinition d i.item → item_of i ≡ declaration i
is_declaration (typename_of n t d) i q = ap (λ (x : forms.FormTree). item_at i x) q.2
is_declaration (module_of o) i q = ap (λ (x : forms.FormTree). item_at i x) q.2
is_declaration (constant_of c) i q = absurd q

all_declarations : (ds : List DefinitionTree) (is : List NotedItem) → SaysDocument ds is → AreDeclarations is
all_declarations [] is q = subst (λ (x : List NotedItem). AreDeclarations x) (sym q) tt
all_declarations (d ∷ ds) is q = subst (λ (x : List NotedItem). AreDeclarations x) (sym q.2) (is_declaration d q.0 q.3, all_declarations ds q.1 q.4)

module _ {F : Type 0} (w : World F) (path : Path) (text : List ℕ) (folder : Path) (taken : List Path) where
  abbrev pub inside : List TextItem → List Declared → Place
  inside items before = place (open_file path text folder (Ok items) ∷ []) [] taken before

  goes_on : (i : NotedItem) (items : List TextItem) (x : TextItem) (before : List Declared) → x ≡ declaration i → w.fault_of before (declared_in path text i) ≡ None
      → turn w (inside (x ∷ items) before) ≡ on (decl (declared_in path text i)) (inside items (before ++ declared_in path text i ∷ []))
  goes_on i items x before e n =
      ap (λ (y : TextItem). turn w (inside (y ∷ items) before)) e
      ∙ ap (λ (o : Option F). checked o (decl (declared_in path text i)) (inside items (before ++ declared_in path text i ∷ []))) n

  pub ends_fine : (is : List NotedItem) (before : List Declared) → AreDeclarations is → AreSound w before (map (declared_in path text) is)
      → Ends w (inside (items_of is) before) (fine (before ++ map (declared_in path text) is))
  ends_fine [] before a s = record {
    last = place [] [] taken before;
    way = along (inside [] before) (end path) (place [] [] taken before) (place [] [] taken before) refl (here (place [] [] taken before));
    end_is = ap (λ (l : List Declared). ends (fine l)) (sym (append-nil before));
  }
  ends_fine (i ∷ is) before a s =
      let δ = declared_in path text i in
      let more = ends_fine is (before ++ δ ∷ []) a.1 s.1 in
      record {
        last = more.last;
        way = along (inside (item_of i ∷ items_of is) before) (decl δ) (inside (items_of is) (before ++ δ ∷ [])) more.last (goes_on i (items_of is) (item_of i) before a.0 s.0) more.way;
        end_is = more.end_is ∙ ap (λ (l : List Declared). ends (fine l)) (append_assoc before (δ ∷ []) (map (declared_in path text) is));
      }

starts : (text : List ℕ) (reading : FileReading)
    → turn (source_world text reading) (beginning (source_path ∷ [])) ≡ on (start source_path []) (place (open_file source_path text (folder_of source_path []) (reading text) ∷ []) [] (source_path ∷ []) [])
unfolding join
starts text reading = refl

abbrev folder : Path
folder = folder_of source_path []

opened : (text : List ℕ) (reading : FileReading) (is : List NotedItem) → reading text ≡ Ok (items_of is)
    → AreDeclarations is → AreSound (source_world text reading) [] (map (declared_in source_path text) is)
    → Ends (source_world text reading) (place (open_file source_path text folder (reading text) ∷ []) [] (source_path ∷ []) []) (fine (map (declared_in source_path text) is))
opened text reading is e a s =
    subst (λ (r : Result (List TextItem) SyntaxFault). Ends (source_world text reading) (place (open_file source_path text folder r ∷ []) [] (source_path ∷ []) []) (fine (map (declared_in source_path text) is)))
    (sym e) (ends_fine (source_world text reading) source_path text folder (source_path ∷ []) is [] a s)

verdict_of : (text : List ℕ) (reading : FileReading) (is : List NotedItem) → reading text ≡ Ok (items_of is)
    → AreDeclarations is → AreSound (source_world text reading) [] (map (declared_in source_path text) is)
    → IsVerdict (source_world text reading) (source_path ∷ []) (fine (map (declared_in source_path text) is))
verdict_of text reading is e a s =
    let more = opened text reading is e a s in
    record {
      last = more.last;
      way = along (beginning (source_path ∷ [])) (start source_path []) (place (open_file source_path text folder (reading text) ∷ []) [] (source_path ∷ []) []) more.last (starts text reading) more.way;
      end_is = more.end_is;
    }

-- ---- read-back

-- a printed document can be read back where its expressions can be written and read, and its definitions stand behind one another
pub record CanBeRead (ds : List DefinitionTree) : Type 0 where
  pub writable : DocumentWritable (typenames_first ds)
  pub lexable : LinesLexable (document_exprs ds)
  pub stand : DefinitionsStand [] (typenames_first ds)

nothing_tracked : (n : List ℕ) → Unit {0}
nothing_tracked n = tt

-- its text has the tokens of the print, where its expressions can be read
pub has_tokens : (ds : List DefinitionTree) → CanBeRead ds → HasPrintedTokens ds
unfolding document_text
has_tokens ds c = lines_have_tokens (document_exprs ds) c.lexable

pub reads_printed : (ds : List DefinitionTree) → CanBeRead ds → ReadsAsPrinted ds
reads_printed ds c =
    let lexed = has_tokens ds c in
    let read = document_reads lexed.0 (typenames_first ds) c.writable lexed.2 in
    (read.0, record { tokens = lexed.0; lexed = lexed.1; parsed = read.1 }, read.2)

-- it has the verdict that it means declarations, and these define the printed definitions but for documentation
pub record ReadsBack (reading : FileReading) (ds : List DefinitionTree) : Type 0 where
  pub declared : List Declared
  pub verdict : IsVerdict (source_world (document_text ds) reading) (source_path ∷ []) (fine declared)
  pub defined : map emptied_definition (definitions_of declared) ≡ map emptied_printed (typenames_first ds)

pub read_back : (reading : FileReading) (ds : List DefinitionTree) → IsReading reading → CanBeRead ds → ReadsBack reading ds
read_back reading ds r c =
    let text = document_text ds in
    let read = reads_printed ds c in
    let sound = definitions_fine (source_world text reading) refl source_path text (typenames_first ds) read.0 [] [] nothing_tracked c.stand read.2 in
    record {
      declared = map (declared_in source_path text) read.0;
      verdict = verdict_of text reading read.0 (r.documents text read.0 read.1) (all_declarations (typenames_first ds) read.0 read.2) sound.0;
      defined = sound.1;
    }

-- ---- what declarations without a fault mean

-- it can be read back, and its names differ
pub record IsPrepared (ds : List DefinitionTree) : Type 0 where
  pub can : CanBeRead ds
  pub differ : AllDiffer (def_names ds)
  pub items_differ : AllItemsDiffer ds

pub declared_prepared : (w : World Fault) → w.fault_of ≡ fault_behind → (declared : List Declared) → AreSound w [] declared → AllFilled declared
    → DocumentTexts readable (definitions_of declared) → IsPlain (definitions_of declared) → IsPrepared (definitions_of declared)
declared_prepared w v declared s f t p =
    let ds = definitions_of declared in
    let given : AllGiven [] ds = declared_given w v declared [] [] nothing_tracked s f p.types in
    record {
      can = record { writable = all_writable ds given; lexable = clean_lexable ds t p.nests; stand = all_stand ds given };
      differ = given_differ [] ds given;
      items_differ = given_items [] ds given;
    }

pub means_same : (ds : List DefinitionTree) → IsPrepared ds → MeansTheSame ds
means_same ds q reading r =
    let back = read_back reading ds r q.can in
    (back.declared, back.verdict, same_entries ds (definitions_of back.declared) q.differ q.items_differ back.defined)
