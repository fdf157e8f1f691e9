use Rattle.std.proofs.Common.{◌≡◌, ℕ, List, sym, ◌∙◌, arith}
use Rattle.witx_lex.specs.Meaning.{token}
use Rattle.witx_lex.specs.Tokens.{quoted}
use Rattle.witx_lex.proofs.Spelled.{seen_string, no_fault, first_quote}
use Rattle.witx_lex.proofs.string.string_spelled.Goals as goal

pub read_string-requires : goal.read_string-requires
read_string-requires c = first_quote c.args.spelling.now c.requires.0 c.requires.1

pub string_seen-requires : goal.string_seen-requires
string_seen-requires c =
    let t = c.requires.0 in
    (t, seen_string c.args.spelling.now t c.in-Ok.read c.requires.1 (c.in-Ok.ensures 0 (omega arith)))

pub unreachable-requires : goal.unreachable-requires
unreachable-requires c =
    let f = c.in-Err-Bad.field-0-0 in
    let h = rw c.in-Err-Bad.field-0-is at c.in-Err-Bad.ensures in
    no_fault c.args.spelling.now c.requires.0 f.kind f.at c.requires.1 (h 0 (omega arith))

token_text : (s t : List ℕ) → token (quoted s) ≡ token (quoted t) → s ≡ t
token_text s t e = cc

pub returns-in-Ok : goal.returns-in-Ok
returns-in-Ok c t spells =
    token_text c.string_seen.result t (sym c.string_seen.ensures ∙ seen_string c.args.spelling.now t c.in-Ok.read spells (c.in-Ok.ensures 0 (omega arith)))
