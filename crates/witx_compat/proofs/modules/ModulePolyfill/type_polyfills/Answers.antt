use Rattle.std.proofs.Common.{rules}
use Rattle.witx_compat.proofs.OnceLaws.{once_rules}
use Rattle.witx_compat.proofs.modules.ModulePolyfill.type_polyfills.Goals as goal

pub returns : goal.returns
returns c = search (rules, once_rules)
