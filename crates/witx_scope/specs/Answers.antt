-- Which of the two answers a refusal is.
use Rattle.witx_scope.specs.declared.error.CheckError.{CheckError}
use Rattle.witx_scope.specs.declared.error.CheckError.TheVariants as check_error

-- a fault of the declaration, and not want of memory
abbrev pub IsCheckFault : CheckError → Type 0
IsCheckFault (check_error.Validation fault) = Unit {0}
IsCheckFault check_error.OutOfMemory = ⊥
