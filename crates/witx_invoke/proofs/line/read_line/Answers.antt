use Rattle.std.proofs.Common.{◌≡◌, subst, rules, Err}
use Rattle.std.specs.Prelude.{option_copied}
use Rattle.witx_ast.specs.Plain.{plain}
use Rattle.witx_ast.specs.Views.{tree_of}
use Rattle.witx_bytes.specs.Readings.{ReadAs}
use Rattle.witx_bytes.specs.Seen.{seen}
use Rattle.witx_bytes.specs.declared.read_error.ReadError.{ReadError}
use Rattle.witx_call.specs.Lines.{IsBehindLine, NoLine}
use Rattle.witx_invoke.specs.Reading.{taken, type_at}
use Rattle.witx_invoke.proofs.Lines.{none_read, no-line-other}
use Rattle.witx_invoke.proofs.line.read_line.Goals as goal

pub returns-in_err-value-clause-none : goal.returns-in_err-value-clause-none
returns-in_err-value-clause-none c =
    let refused : (e : ReadError) → ReadAs (taken seen) (type_at (plain (tree_of c.args.ty.now)) c.args.text.now) (Err e) → c.from_residual.result ≡ Err e → c.from_residual.result ≡ Err ReadError.NoValue → NoLine (tree_of c.args.ty.now) c.args.text.now =
    λ e h is n. none_read (tree_of c.args.ty.now) c.args.text.now c.requires e h (cc)
    in
    search (rules, refused)

pub returns-in-None-clause-none : goal.returns-in-None-clause-none
returns-in-None-clause-none c = λ same. no-line-other (tree_of c.args.ty.now) c.args.text.now (seen c.in_ok-value.value) c.in_ok-value._behind.now c.requires c.in_ok-value.ensures
    (subst (λ o. IsBehindLine (tree_of c.args.ty.now) c.args.text.now (seen c.in_ok-value.value) (option_copied o)) c.in-None.is c.in_ok-rest.ensures)
