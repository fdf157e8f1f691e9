use Rattle.std.proofs.Common.{rules}
use Rattle.witx_bundle.proofs.bundle.put_file.Goals as goal

pub returns-in_err-path-in-Some : goal.returns-in_err-path-in-Some
returns-in_err-path-in-Some c = search rules

pub returns-in_err-text-in-Some : goal.returns-in_err-text-in-Some
returns-in_err-text-in-Some c = search rules

pub returns-in_ok-text-in-Some : goal.returns-in_ok-text-in-Some
returns-in_ok-text-in-Some c = search rules

pub returns-in-None : goal.returns-in-None
returns-in-None c = search rules
