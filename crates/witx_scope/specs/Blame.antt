-- What an error of the code says.
use Rattle.std.specs.Prelude.{◌≡◌, Option, Some, Result, IfErr}
use Rattle.witx_scope.specs.Faults.{Fault}
use Rattle.witx_scope.specs.Faults as fault
use Rattle.witx_scope.specs.declared.error.ValidationError.{ValidationError}
use Rattle.witx_scope.specs.declared.error.ValidationError.TheVariants as error
use Rattle.witx_scope.specs.declared.error.CheckError.{CheckError}
use Rattle.witx_scope.specs.declared.error.CheckError.TheVariants as check_error

abbrev pub fault_of : ValidationError → Fault
fault_of (error.UnknownName n l) = fault.unknown_name n l
fault_of (error.Recursive n l) = fault.recursive n l
fault_of (error.NameAlreadyExists n l e) = fault.name_already_exists n l e
fault_of (error.WrongKindName n e g l) = fault.wrong_kind_name n e.now g.now l
fault_of (error.InvalidRepr r l) = fault.invalid_repr r l
fault_of (error.Abi r l) = fault.abi r.now l
fault_of (error.InvalidUnionTag r l) = fault.invalid_union_tag r.now l
fault_of (error.AnonymousRecord l) = fault.anonymous_record l
fault_of (error.UnionSizeMismatch e f l) = fault.union_size_mismatch e f l
fault_of (error.InvalidUnionField n r l) = fault.invalid_union_field n r.now l
fault_of (error.ConstantTooLarge n v m l) = fault.constant_too_large n v m l

-- the error is want of memory, or it is this fault
abbrev pub Blames : CheckError → Option Fault → Type 0
Blames (check_error.Validation e) f = Some (fault_of e) ≡ f
Blames check_error.OutOfMemory f = Unit {0}

-- so says a refusal
abbrev pub BlamesOnErr : {U : Type 0} → Result U CheckError → Option Fault → Type 0
BlamesOnErr r fault = IfErr r (λ e. Blames e fault)
