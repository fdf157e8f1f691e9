-- The forms of a command line, each with what its words say: `adapt`, `print`, `layouts` and `docs` with any number of paths;
-- `polyfill` and `shim` with a new file, an old one, and any number of pairs of names of modules; `sample` with a number from 1 to
-- 4096, written in decimal without a sign and without a zero in front; `verify` and `imports` with a file of their own and any
-- number of paths; and `invoke` with the names of a module and a function before these. The first six are those of `run`.
use Rattle.std.specs.Prelude.{◌==◌, ℕ, ◌≤◌, ◌%◌, List, [], ◌∷◌, map, length, Bool, true, false, ◌&&◌, Option, Some, None, codes, option_map, if◌then◌else◌}
use Rattle.std.specs.Fmt.{decimal}
use Rattle.std.specs.Str.Parse.{digits_value}
use Rattle.witx_base.specs.Paths.{Path, path_of}
use Rattle.witx_base.specs.Texts.{same_text}
use Rattle.witx_sample.specs.declared.sample.TheConstants.{LARGEST_SAMPLE}
use Rattle.witx_sample.specs.Samples.{is_size, sample_path, sample_text}
use Rattle.witx_commands.specs.declared.forms.Forms.{Forms}
use Rattle.witx_commands.specs.declared.forms.Forms.TheVariants as forms
use Rattle.witx_commands.specs.declared.words.Command as declared
use Rattle.witx_commands.specs.declared.words.Command.TheVariants as command
use Rattle.witx_commands.specs.declared.words.OwnFile as declared_own
use Rattle.witx_commands.specs.declared.words.TwoFiles as declared_two

-- ---- what words say

-- a new file and an old one, and names of modules two by two, each a new one and the old one that it stands in for
pub record TwoFiles : Type 0 where
  pub new : List ℕ
  pub old : List ℕ
  pub names : List (List ℕ)

-- a file of the command's own, and the paths behind it
pub record OwnFile : Type 0 where
  pub file : List ℕ
  pub paths : List (List ℕ)

-- a function of a module, by their names
pub record FunctionNames : Type 0 where
  pub owner : List ℕ
  pub function : List ℕ

abbrev pub both_names : (owner function : List ℕ) → FunctionNames
both_names owner function = record { owner = owner; function = function }

-- WHAT WORDS ASK FOR: a command, with what its words say
pub data Asked : Type 0 where
  adapt : (paths : List (List ℕ)) → Asked
  print : (paths : List (List ℕ)) → Asked
  layouts : (paths : List (List ℕ)) → Asked
  docs : (paths : List (List ℕ)) → Asked
  polyfill : (files : TwoFiles) → Asked
  sample : (functions : ℕ) → Asked
  shim : (files : TwoFiles) → Asked
  verify : (listing : OwnFile) → Asked
  invoke : (names : FunctionNames) → (values : OwnFile) → Asked
  imports : (list : OwnFile) → Asked

-- two files as the program has them, a file of a command's own, and a command
abbrev pub two_files : declared_two.TwoFiles → TwoFiles
two_files f = record { new = f.new.now; old = f.old.now; names = f.names.now }

abbrev pub own_file : declared_own.OwnFile → OwnFile
own_file f = record { file = f.file.now; paths = f.paths.now }

abbrev pub asked_by : declared.Command → Asked
asked_by (command.Adapt paths) = adapt paths.now
asked_by (command.Print paths) = print paths.now
asked_by (command.Layouts paths) = layouts paths.now
asked_by (command.Docs paths) = docs paths.now
asked_by (command.Polyfill files) = polyfill (two_files files)
asked_by (command.Sample n) = sample n
asked_by (command.Shim files) = shim (two_files files)
asked_by (command.Verify listing) = verify (own_file listing)
asked_by (command.Invoke owner function values) = invoke (both_names owner.now function.now) (own_file values)
asked_by (command.Imports list) = imports (own_file list)

-- ---- the forms

-- two words, and then words in pairs
abbrev pub two_files_of : List (List ℕ) → Option TwoFiles
two_files_of [] = None
two_files_of (new ∷ []) = None
two_files_of (new ∷ old ∷ names) =
    if length (new ∷ old ∷ names) % 2 == 0 then Some (record { new = new; old = old; names = names }) else None

-- one word, and then any
abbrev pub own_file_of : List (List ℕ) → Option OwnFile
own_file_of [] = None
own_file_of (file ∷ paths) = Some (record { file = file; paths = paths })

-- two names, and behind them a file of its own and any words
abbrev pub invoke_of : List (List ℕ) → Option Asked
invoke_of [] = None
invoke_of (owner ∷ []) = None
invoke_of (owner ∷ function ∷ more) = option_map (invoke (both_names owner function)) (own_file_of more)

-- a word is the number of its digits, as numbers are printed, and a sample can have so many functions
abbrev pub is_printed_size : List ℕ → Bool
is_printed_size word = is_size (digits_value 10 word) && same_text word (decimal (digits_value 10 word))

-- the number that a word says so
abbrev pub sample_size : List ℕ → Option ℕ
sample_size word = if is_printed_size word then Some (digits_value 10 word) else None

-- the sample of the one word behind
abbrev pub sample_of : List (List ℕ) → Option Asked
sample_of [] = None
sample_of (word ∷ []) = option_map sample (sample_size word)
sample_of (word ∷ _ ∷ more) = None

-- what the words behind a command's word ask for: a row for each command
abbrev pub asked_with : List ℕ → List (List ℕ) → Option Asked
asked_with word arguments =
    if same_text word (codes "adapt") then Some (adapt arguments)
    else (if same_text word (codes "print") then Some (print arguments)
    else (if same_text word (codes "layouts") then Some (layouts arguments)
    else (if same_text word (codes "docs") then Some (docs arguments)
    else (if same_text word (codes "polyfill") then option_map polyfill (two_files_of arguments)
    else (if same_text word (codes "sample") then sample_of arguments
    else (if same_text word (codes "shim") then option_map shim (two_files_of arguments)
    else (if same_text word (codes "verify") then option_map verify (own_file_of arguments)
    else (if same_text word (codes "invoke") then invoke_of arguments
    else (if same_text word (codes "imports") then option_map imports (own_file_of arguments) else None)))))))))

-- what words ask for, where they have a form
abbrev pub asked_of : List (List ℕ) → Option Asked
asked_of [] = None
asked_of (word ∷ arguments) = asked_with word arguments

-- the commands of `run`
abbrev pub is_of_run : Asked → Bool
is_of_run (adapt paths) = true
is_of_run (print paths) = true
is_of_run (layouts paths) = true
is_of_run (docs paths) = true
is_of_run (polyfill files) = true
is_of_run (sample n) = true
is_of_run (shim files) = false
is_of_run (verify listing) = false
is_of_run (invoke names values) = false
is_of_run (imports list) = false

-- whether a command has one of the forms that are known
abbrev pub is_known : Forms → Asked → Bool
is_known forms.Commands c = is_of_run c
is_known forms.All c = true

-- a command, where it has one of them
abbrev pub if_known : Forms → Option Asked → Option Asked
if_known known None = None
if_known known (Some c) = if is_known known c then Some c else None

-- THE COMMAND that words ask for, where they have one of the forms that are known
abbrev pub command_of : Forms → List (List ℕ) → Option Asked
command_of known words = if_known known (asked_of words)

-- ---- what each command works on

-- the paths that words spell
abbrev pub paths_of : List (List ℕ) → List Path
paths_of words = map path_of words

-- the sample has a bundle of its own; every other command works on the bundle of its source
abbrev pub reads_source : Asked → Bool
reads_source (sample n) = false
reads_source _ = true

-- the bytes of the bundle that a command works on, where they are told
abbrev pub bundle_bytes : Asked → Option (List ℕ) → Option (List ℕ)
bundle_bytes (sample n) left = Some (sample_text n)
bundle_bytes _ left = left

-- a command that notes on the second sink what its output lacks
abbrev pub is_noting : Asked → Bool
is_noting (docs paths) = true
is_noting _ = false

-- a command that writes what it makes of an adapted document
abbrev pub is_adapting : Asked → Bool
is_adapting (adapt paths) = true
is_adapting (sample n) = true
is_adapting _ = false

-- the paths of the files that such a command adapts
abbrev pub adapted_paths : Asked → List Path
adapted_paths (adapt paths) = paths_of paths
adapted_paths (sample n) = sample_path ∷ []
adapted_paths _ = []

-- a sample is one that can be made
abbrev pub IsBounded : Asked → Type 0
IsBounded (sample n) = n ≤ LARGEST_SAMPLE
IsBounded _ = Unit {0}
