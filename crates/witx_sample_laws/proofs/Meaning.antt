-- The bundle of a sample means a document of its definitions.
use Rattle.std.proofs.Common.{◌≡◌, ℕ, zero, suc, ◌+◌, ◌≤◌, List, [], ◌∷◌, map, Option, Some, Result, Ok, refl, sym, ap, ◌∙◌, subst, arith}
use Rattle.witx_base.specs.Paths.{Path, path_of, join, all_but_last}
use Rattle.witx_files.specs.Files.{Files, text_in}
use Rattle.witx_bundle.specs.Bundles.{IsRead}
use Rattle.witx_ast.specs.Definitions.{DefinitionTree, typename_of}
use Rattle.witx_ast.specs.Tree.{Tree}
use Rattle.witx_syntax_tree.specs.Trees as forms
use Rattle.witx_syntax_tree.specs.Trees.{NotedItem}
use Rattle.witx_order.specs.Items.{TextItem, item_at, items_of, SyntaxFault}
use Rattle.witx_order.specs.Walks.{start, place, open_file, declared_in, beginning, folder_of, started}
use Rattle.witx_order.specs.Verdicts.{fine, on, turn, turned, Ends, along, IsVerdict}
use Rattle.witx_order.specs.Fronts.{AreSound}
use Rattle.witx_order.proofs.FinalFronts.{fine-walk}
use Rattle.witx_walk.specs.Readings.{FileReading, IsReading}
use Rattle.witx_walk.specs.Meaning.{definitions_of, world, MeansDocument}
use Rattle.witx_read_back.specs.Says.{SaysDefinition}
use Rattle.witx_read_back.proofs.ReadBack.{AreDeclarations, ends_fine}
use Rattle.witx_sample.specs.Samples.{sample_path, sample_text}
use Rattle.witx_sample_laws.proofs.Documents.{enum_name, the_enum, record_name, the_record, variant_name, the_variant}
use Rattle.witx_sample_laws.proofs.SampleFiles.{body, sample_held}
use Rattle.witx_sample_laws.proofs.Reading.{Front, SaysTypes, SaysModule, IsLast, SaysSample, sample_reads}
use Rattle.witx_sample_laws.proofs.Counts.{IsSample}
use Rattle.witx_sample_laws.proofs.Sound.{sample_sound}

-- ---- all items are declarations

typename_declares : (n : List ℕ) (t : Tree) (Q : List NotedItem → Type 0) → ((js : List NotedItem) → Q js → AreDeclarations js) → (is : List NotedItem) → Front (SaysDefinition (typename_of n t [])) Q is → AreDeclarations is
typename_declares n t Q more is q = subst (λ (x : List NotedItem). AreDeclarations x) (sym q.2) (ap (λ (x : forms.FormTree). item_at q.0 x) q.3.2, more q.1 q.4)

module_declares : (n : ℕ) (is : List NotedItem) → Front (SaysModule n) IsLast is → AreDeclarations is
module_declares n is q = subst (λ (x : List NotedItem). AreDeclarations x) (sym (q.2 ∙ ap (λ (l : List NotedItem). q.0 ∷ l) q.4)) (ap (λ (x : forms.FormTree). item_at q.0 x) q.3.2, tt)

types_declare : (n i k : ℕ) (is : List NotedItem) → SaysTypes i k (Front (SaysModule n) IsLast) is → AreDeclarations is
types_declare n i zero is q = module_declares n is q
types_declare n i (suc k) is q =
    let last = Front (SaysModule n) IsLast in
    let behind = Front (SaysDefinition (typename_of (variant_name i) (the_variant i) [])) (SaysTypes (i + 1) k last) in
    typename_declares (record_name i) the_record behind (λ js p. typename_declares (variant_name i) (the_variant i) (SaysTypes (i + 1) k last) (λ ks r. types_declare n (i + 1) k ks r) js p) is q

sample_declares : (n : ℕ) (is : List NotedItem) → SaysSample n is → AreDeclarations is
sample_declares n is q = typename_declares enum_name the_enum (SaysTypes 0 n (Front (SaysModule n) IsLast)) (λ js p. types_declare n 0 n js p) is q

-- ---- the walk of the one file

abbrev directory : Path
directory = all_but_last sample_path

starts : (files : Files) (reading : FileReading) (text : List ℕ) → text_in files sample_path ≡ Some text
    → turn (world files [] reading) (beginning (sample_path ∷ [])) ≡ on (start sample_path directory) (place (open_file sample_path text (folder_of sample_path directory) (reading text) ∷ []) [] (sample_path ∷ []) [])
unfolding join path_of
starts files reading text e = ap (λ (o : Option (List ℕ)). turned (world files [] reading) [] (started (world files [] reading) (place [] [] [] []) sample_path directory o)) e

verdict_of : (files : Files) (reading : FileReading) (text : List ℕ) (is : List NotedItem) → text_in files sample_path ≡ Some text → reading text ≡ Ok (items_of is)
    → AreDeclarations is → AreSound (world files [] reading) [] (map (declared_in sample_path text) is)
    → IsVerdict (world files [] reading) (sample_path ∷ []) (fine (map (declared_in sample_path text) is))
verdict_of files reading text is h e a s =
    let w = world files [] reading in
    let folder = folder_of sample_path directory in
    let ended = ends_fine w sample_path text folder (sample_path ∷ []) is [] a s in
    let more : Ends w (place (open_file sample_path text folder (reading text) ∷ []) [] (sample_path ∷ []) []) (fine (map (declared_in sample_path text) is))
    = subst (λ (r : Result (List TextItem) SyntaxFault). Ends w (place (open_file sample_path text folder r ∷ []) [] (sample_path ∷ []) []) (fine (map (declared_in sample_path text) is))) (sym e) ended in
    record {
      last = more.last;
      way = along (beginning (sample_path ∷ [])) (start sample_path directory) (place (open_file sample_path text folder (reading text) ∷ []) [] (sample_path ∷ []) []) more.last (starts files reading text h) more.way;
      end_is = more.end_is;
    }

-- ---- what it means

-- the definitions of a sample, which files mean under each reading
pub record SampleMeant (n : ℕ) (files : Files) : Type 0 where
  pub definitions : List DefinitionTree
  pub sample : IsSample n definitions
  pub meant : (reading : FileReading) → IsReading reading → MeansDocument (world files [] reading) (sample_path ∷ []) definitions

pub sample_meant : (n : ℕ) → n ≤ 4096 → (files : Files) → IsRead (sample_text n) (Ok files) → SampleMeant n files
sample_meant n few files r =
    let h = sample_held n few files r in
    let read = sample_reads n (omega (arith, few)) in
    let text = body n in
    let declared = map (declared_in sample_path text) read.0 in
    let sound : (reading : FileReading) → AreSound (world files [] reading) [] declared × IsSample n (definitions_of declared) = λ reading. sample_sound (world files [] reading) refl sample_path text n read.0 (omega (arith, few)) read.2 in
    record {
      definitions = definitions_of declared;
      sample = (sound (λ t. Ok [])).1;
      meant = λ reading is.
          (declared, (fine-walk (world files [] reading) (sample_path ∷ []) declared (verdict_of files reading text read.0 h (is.documents text read.0 read.1) (sample_declares n read.0 read.2) (sound reading).0), refl));
    }
