-- A symbol is put at the next address where its type is passed by address.
use Rattle.std.proofs.Common.{◌≡◌, Bool, true, false, sym, ap, ◌∙◌, Option, Some, None, option_map, Ok, Err}
use Rattle.std.specs.Prelude.{Result, IfOk}
use Rattle.witx_base.specs.declared.memory.OutOfMemory.{OutOfMemory}
use Rattle.witx_ast.specs.Tree.{Tree}
use Rattle.witx_ast.specs.Plain.{plain}
use Rattle.witx_machine.specs.Functions.{by_address}
use Rattle.witx_machine.specs.Words.{when}
use Rattle.witx_symbols.specs.Symbols.{Symbol}
use Rattle.witx_symbols.specs.Symbolic.{SymbolMemory, give_symbol}
use Rattle.witx_symbols.specs.Putting.{put_symbol}
use Rattle.witx_symbols.specs.WordViews.{word_seen}
use Rattle.witx_symbols.specs.declared.words.Word as declared_word

pub put-there : (t : Tree) (v : Symbol) (m new : SymbolMemory) (b : Bool) (r : Result (Option declared_word.Word) OutOfMemory) → b ≡ by_address (plain t) → b ≡ true →
    IfOk r (λ word. option_map (λ w. (word_seen w, new)) word ≡ give_symbol t (Some v) m.made m.left) → IfOk r (λ word. option_map (λ w. (word_seen w, new)) word ≡ put_symbol t v m)
put-there t v m new b (Ok word) e h p = p ∙ ap (λ b. when b (give_symbol t (Some v) m.made m.left)) (sym h ∙ e)
put-there t v m new b (Err x) e h p = p

pub put-nowhere : (t : Tree) (v : Symbol) (m : SymbolMemory) (b : Bool) → b ≡ by_address (plain t) → b ≡ false → None ≡ put_symbol t v m
put-nowhere t v m b e h = ap (λ b. when b (give_symbol t (Some v) m.made m.left)) (sym h ∙ e)
