use Rattle.std.proofs.Common.{ℕ, List, ap}
use Rattle.witx_values.proofs.Laws.{one_text_fault}
use Rattle.witx_language.specs.declared.nonterminal.Nonterminal.TheVariants.{Text}
use Rattle.witx_language.specs.Actions.{the_language}
use Rattle.witx_language.specs.FaultPlaces.{fault_told_at}
use Rattle.witx_language.proofs.Wording.{same_message}
use Rattle.witx_syntax.specs.Reads.{telling}
use Rattle.witx_syntax.proofs.laws.at_most_one_parse_fault.Goals as goal

pub returns : goal.returns
returns c = one_text_fault the_language Text telling (λ text ks js k offset to from. ap (λ (m : List ℕ). fault_told_at text m offset) (same_message ks js k to from))
