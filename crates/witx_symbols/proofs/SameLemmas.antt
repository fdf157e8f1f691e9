-- When two symbols are the same, of which one stands for all its parts.
use Rattle.std.proofs.Common.{◌≡◌, Bool, sym, ◌∙◌}
use Rattle.witx_symbols.specs.Symbols.{Source, Symbol, symbol_from, same_symbol}
use Rattle.witx_ast.specs.Plain.{Plain}
use Rattle.witx_symbols.specs.Wholes.{comes_from}
use Rattle.witx_symbols.specs.declared.wholes.Origin.{Origin}
use Rattle.witx_symbols.proofs.SymbolReads.{symbol_rules}
use Rattle.witx_symbols.proofs.WholeLaws.{turned, made-turned, bare-turned, made-from, bare-from}

-- where one comes from, found of it and the other's type
pub by-origin : (v : Symbol) (t : Plain) (s : Source) (o : Origin) (b : Bool) → ((z : Source) → same_symbol v (symbol_from t z) ≡ comes_from o z) → b ≡ comes_from o s → b ≡ same_symbol v (symbol_from t s)
by-origin v t s o b h e = e ∙ sym (h s)

pub by-other-origin : (v : Symbol) (t : Plain) (s : Source) (o : Origin) (b : Bool) → ((z : Source) → same_symbol v (symbol_from t z) ≡ comes_from o z) → b ≡ comes_from o s → b ≡ same_symbol (symbol_from t s) v
by-other-origin v t s o b h e = by-origin v t s o b h e ∙ turned v (symbol_from t s)

pub ruleset same_rules = (symbol_rules, by-origin, by-other-origin, made-turned, bare-turned, made-from, bare-from)
