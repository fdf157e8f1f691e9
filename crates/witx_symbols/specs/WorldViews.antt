-- How worlds are read, and the world of a case that is known by its payload's type alone.
use Rattle.std.specs.Prelude.{◌≡◌, List, [], ◌∷◌, ◌++◌, map, Bool, Option, Some}
use Rattle.witx_ast.specs.declared.function.Abi.{Abi}
use Rattle.witx_ast.specs.Tree.{Tree}
use Rattle.witx_symbols.specs.Symbols.{Symbol}
use Rattle.witx_symbols.specs.Symbolic.{SymbolWorld, payload_from, world_if}
use Rattle.witx_symbols.specs.WordViews.{world_of}
use Rattle.witx_symbols.specs.declared.world.World as declared_world

abbrev pub worlds_read : List declared_world.World → List SymbolWorld
worlds_read ws = map world_of ws

abbrev pub world_known : Abi → Symbol → Bool → Option Tree → SymbolWorld
world_known abi whole e payload = record { abi = abi; whole = Some whole; error = Some e; load = payload_from payload }

-- the worlds with this one behind them, where it is one
abbrev pub GainWorld : (old new : List declared_world.World) → Bool → SymbolWorld → Type 0
GainWorld old new there w = worlds_read new ≡ worlds_read old ++ world_if there w

-- worlds of this reply
abbrev pub AreOf : Option Symbol → List SymbolWorld → Type 0
AreOf reply [] = Unit {0}
AreOf reply (w ∷ ws) = (w.whole ≡ reply) × AreOf reply ws
