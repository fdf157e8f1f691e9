-- The report of a refusal, byte for byte. That of a fault of a declaration shows the file, where it can be read.
use Rattle.std.specs.Prelude.{◌≡◌, ℕ, List, ◌++◌, codes, Option, Result, Ok, Err}
use Rattle.std.specs.Fmt.{decimal}
use Rattle.witx_base.specs.Paths.{Path, path_text}
use Rattle.witx_base.specs.declared.memory.OutOfMemory as memory
use Rattle.witx_files.specs.Files.{Files}
use Rattle.witx_files.specs.declared.fault.IoFault.{IoFault}
use Rattle.witx_files.specs.declared.fault.IoFault.TheVariants.{NotFound, LineNotFound, Failed}
use Rattle.witx_scope.specs.Blame.{fault_of}
use Rattle.witx_scope.specs.Reports.{IsReport}
use Rattle.witx_language.specs.declared.error.ParseError.{ParseError}
use Rattle.witx_walk.specs.declared.error.WitxError.{WitxError}
use Rattle.witx_walk.specs.declared.error.WitxError.TheVariants.{Io, Parse, Validation, BadPath, TooManyFiles, OutOfMemory}

abbrev pub fault_text : IoFault → List ℕ
fault_text NotFound = codes "file not found"
fault_text LineNotFound = codes "line not found"
fault_text Failed = codes "read failed"

abbrev pub io_report : Path → IoFault → List ℕ
io_report path fault = codes "with file \"" ++ (path_text path ++ (codes "\": " ++ fault_text fault))

-- the message, and below it the place
abbrev pub parse_report : ParseError → List ℕ
parse_report e = e.message.now ++ (codes "\n     --> " ++ (path_text e.path ++ (codes ":" ++ (decimal e.line ++ (codes ":" ++ decimal e.column)))))

abbrev pub bad_path_report : Path → List ℕ
bad_path_report path = codes "path \"" ++ (path_text path ++ codes "\" has no file name")

abbrev pub too_many_report : Path → List ℕ
too_many_report path = codes "more than 1024 files at \"" ++ (path_text path ++ codes "\"")

-- a report that is the same over all files: no call of the reader is made
abbrev pub IsPlainReport : List ℕ → ℕ → ℕ → Result (List ℕ) memory.OutOfMemory → Type 0
IsPlainReport right before now (Ok text) = (text ≡ right) × (now ≡ before)
IsPlainReport right before now (Err refused) = now ≡ before

abbrev pub IsErrorReport : Option Files → WitxError → ℕ → ℕ → Result (List ℕ) memory.OutOfMemory → Type 0
IsErrorReport files (Io path fault) before now r = IsPlainReport (io_report path fault) before now r
IsErrorReport files (Parse e) before now r = IsPlainReport (parse_report e) before now r
IsErrorReport files (Validation e) before now r = IsReport files (fault_of e) before now r
IsErrorReport files (BadPath path) before now r = IsPlainReport (bad_path_report path) before now r
IsErrorReport files (TooManyFiles path) before now r = IsPlainReport (too_many_report path) before now r
IsErrorReport files OutOfMemory before now r = IsPlainReport (codes "out of memory") before now r
