-- The tokens of a list of imports read as the imports, a line a production.
use Rattle.std.proofs.Common.{◌≡◌, List, [], ◌∷◌, ◌++◌, map, inl, inr, refl, sym, ap, subst, ◌∙◌, append-nil}
use Rattle.std.specs.Prelude.{codes}
use Rattle.witx_adapt.specs.Names.{wasm_word}
use Rattle.witx_base.specs.Texts.{same_text}
use Rattle.witx_grammar.specs.declared.table.Symbol.TheVariants.{Nonterminal}
use Rattle.witx_grammar.proofs.Derive.{Written, written_derives}
use Rattle.witx_grammar.proofs.Makes as terms
use Rattle.witx_grammar.proofs.Makes.{Language, silent, telling, inner, outer, by, stop, the_end}
use Rattle.witx_import_list.proofs.Pieces.{type_tokens, group_tokens, line_tokens, list_tokens, list-has-tokens}
use Rattle.witx_import_list.specs.ListTexts.{list_text, AreNames}
use Rattle.witx_imports.specs.declared.import.WasmImport.{WasmImport}
use Rattle.witx_imports.specs.declared.symbols.Nonterminal.{Nonterminal as FormName}
use Rattle.witx_imports.specs.declared.symbols.Nonterminal.TheVariants as n
use Rattle.witx_imports.specs.declared.symbols.ProductionName.{ProductionName}
use Rattle.witx_imports.specs.declared.symbols.ProductionName.TheVariants as p
use Rattle.witx_imports.specs.declared.symbols.TokenKind.{TokenKind}
use Rattle.witx_imports.specs.declared.symbols.TokenKind.TheVariants as kind
use Rattle.witx_imports.specs.Actions.{import_act, words}
use Rattle.witx_imports.specs.Grammar.{import_written, import_grammar}
use Rattle.witx_imports.specs.Reads.{Lists}
use Rattle.witx_imports.specs.TokenKinds.{import_token_kind}
use Rattle.witx_imports.specs.Values.{ImportVal, a_name, a_type, some_types, a_signature, an_import, some_imports, import_token_values, import_leaf}
use Rattle.witx_lex.specs.Tokens.{Token, left, right, word, quoted, Lexed}
use Rattle.witx_values.specs.Language.{production_of}
use Rattle.witx_machine.specs.declared.surface.WasmType.{WasmType}
use Rattle.witx_machine.specs.declared.surface.WasmType.TheVariants as w

abbrev the_terms : Language TokenKind FormName ProductionName Lexed Token ImportVal
the_terms = record { grammar = import_grammar; token = (λ l. l.token); kind = import_token_kind; leaf = import_leaf; act = import_act }

-- the tokens, before whatever ends the text, are the form, and stand for the value
abbrev Are : List TokenKind → List Token → FormName → ImportVal → Type 0
Are last xs f v = terms.Reads the_terms last xs f (Unit {0}) (λ _. v) (λ _. Unit {0})

tells : (x : Token) (l : Lexed) → l.token ≡ x → import_leaf l ≡ import_token_values x
tells x l e = ap import_token_values e

-- ---- types

type-are : (t : WasmType) → Are [] (word (wasm_word t) ∷ []) n.Type (a_type t)
unfolding same_text
type-are w.I32 = by (production_of import_written p.I32) (inr (inr (inr (inr (inr (inr (inr (inr (inr (inr (inr (inr (inr (inr (inl refl)))))))))))))))
    (silent (word (codes "i32")) refl (tells (word (codes "i32"))) (stop (λ ls. (tt, (λ vs. refl), tt))))
type-are w.I64 = by (production_of import_written p.I64) (inr (inr (inr (inr (inr (inr (inr (inr (inr (inr (inr (inr (inr (inr (inr (inl refl))))))))))))))))
    (silent (word (codes "i64")) refl (tells (word (codes "i64"))) (stop (λ ls. (tt, (λ vs. refl), tt))))
type-are w.F32 = by (production_of import_written p.F32) (inr (inr (inr (inr (inr (inr (inr (inr (inr (inr (inr (inr (inr (inr (inr (inr (inl refl)))))))))))))))))
    (silent (word (codes "f32")) refl (tells (word (codes "f32"))) (stop (λ ls. (tt, (λ vs. refl), tt))))
type-are w.F64 = by (production_of import_written p.F64) (inr (inr (inr (inr (inr (inr (inr (inr (inr (inr (inr (inr (inr (inr (inr (inr (inr (inl refl))))))))))))))))))
    (silent (word (codes "f64")) refl (tells (word (codes "f64"))) (stop (λ ls. (tt, (λ vs. refl), tt))))

types-are : (ts : List WasmType) → Are [] (type_tokens ts (right ∷ [])) n.Types (some_types ts)
types-are [] = by (production_of import_written p.NoTypes) (inr (inr (inr (inr (inr (inr (inr (inr (inr (inr (inr (inr (inl refl)))))))))))))
    (silent right refl (tells right) (stop (λ ls. (tt, (λ vs. refl), tt))))
types-are (t ∷ ts) = by (production_of import_written p.MoreTypes) (inr (inr (inr (inr (inr (inr (inr (inr (inr (inr (inr (inr (inr (inl refl))))))))))))))
    (inner (word (wasm_word t) ∷ []) refl (type-are t) (outer (types-are ts) (λ y q y' q' ls. (tt, (λ vs. refl), tt))))

-- what stands behind the end of a group
types-more : (ts : List WasmType) (more : List Token) → type_tokens ts (right ∷ more) ≡ type_tokens ts (right ∷ []) ++ more
types-more [] more = refl
types-more (t ∷ ts) more = ap (λ (l : List Token). word (wasm_word t) ∷ l) (types-more ts more)

-- ---- groups, up to the parenthesis that closes func

abbrev results_tokens : List WasmType → List Token
results_tokens rs = group_tokens (codes "result") rs (right ∷ [])

abbrev groups_tokens : List WasmType → List WasmType → List Token
groups_tokens ps rs = group_tokens (codes "param") ps (results_tokens rs)

no-results : Are [] (right ∷ []) n.Results (a_signature (words [] []))
no-results = by (production_of import_written p.NoResults) (inr (inr (inr (inr (inr (inr (inr (inr (inr (inr (inl refl)))))))))))
    (silent right refl (tells right) (stop (λ ls. (tt, (λ vs. refl), tt))))

results-are : (rs : List WasmType) → Are [] (results_tokens rs) n.Params (a_signature (words [] rs))
unfolding same_text
results-are [] = by (production_of import_written p.NoParams) (inr (inr (inr (inr (inr (inl refl))))))
    (silent right refl (tells right) (stop (λ ls. (tt, (λ vs. refl), tt))))
results-are (t ∷ ts) = by (production_of import_written p.FirstResults) (inr (inr (inr (inr (inr (inr (inr (inl refl))))))))
    (silent left refl (tells left) (silent (word (codes "result")) refl (tells (word (codes "result")))
    (inner (type_tokens (t ∷ ts) (right ∷ [])) (types-more (t ∷ ts) (right ∷ [])) (types-are (t ∷ ts)) (outer no-results
    (λ y q y' q' ls. (tt, (λ vs. ap (λ (x : List WasmType). a_signature (words [] x) ∷ vs) (append-nil (t ∷ ts))), tt))))))

param-are : (ts : List WasmType) → Are [] (type_tokens ts (right ∷ [])) n.Param (some_types ts)
param-are ts = by (production_of import_written p.BareParams) (inr (inr (inr (inr (inr (inr (inr (inr (inr (inl refl))))))))))
    (outer (types-are ts) (λ y q ls. (tt, (λ vs. refl), tt)))

groups-are : (ps rs : List WasmType) → Are [] (groups_tokens ps rs) n.Params (a_signature (words ps rs))
unfolding same_text
groups-are [] rs = results-are rs
groups-are (t ∷ ts) rs = by (production_of import_written p.MoreParams) (inr (inr (inr (inr (inr (inr (inl refl)))))))
    (silent left refl (tells left) (silent (word (codes "param")) refl (tells (word (codes "param")))
    (inner (type_tokens (t ∷ ts) (right ∷ [])) (types-more (t ∷ ts) (results_tokens rs)) (param-are (t ∷ ts)) (outer (results-are rs)
    (λ y q y' q' ls. (tt, (λ vs. ap (λ (x : List WasmType). a_signature (words x rs) ∷ vs) (append-nil (t ∷ ts))), tt))))))

func-are : (ps rs : List WasmType) → Are [] (groups_tokens ps rs) n.Func (a_signature (words ps rs))
func-are ps rs = by (production_of import_written p.BareFunc) (inr (inr (inr (inr (inl refl)))))
    (outer (groups-are ps rs) (λ y q ls. (tt, (λ vs. refl), tt)))

group-more : (head : List _) (ts : List WasmType) (xs more : List Token) → group_tokens head ts (xs ++ more) ≡ group_tokens head ts xs ++ more
group-more head [] xs more = refl
group-more head (t ∷ ts) xs more = ap (λ (l : List Token). left ∷ word head ∷ word (wasm_word t) ∷ l) (behind ts)
  where
    behind : (us : List WasmType) → type_tokens us (right ∷ (xs ++ more)) ≡ type_tokens us (right ∷ xs) ++ more
    behind [] = refl
    behind (u ∷ us) = ap (λ (l : List Token). word (wasm_word u) ∷ l) (behind us)

groups-more : (ps rs : List WasmType) (more : List Token) → group_tokens (codes "param") ps (group_tokens (codes "result") rs (right ∷ more)) ≡ groups_tokens ps rs ++ more
groups-more ps rs more = ap (group_tokens (codes "param") ps) (group-more (codes "result") rs (right ∷ []) more) ∙ group-more (codes "param") ps (results_tokens rs) more

-- ---- imports

import-are : (i : WasmImport) → Are [] (line_tokens i []) n.Import (an_import i)
unfolding same_text
import-are i = by (production_of import_written p.Import) (inr (inr (inl refl)))
    (silent left refl (tells left) (silent (word (codes "import")) refl (tells (word (codes "import")))
    (telling (quoted i.module) (Unit {0}) (λ _. a_name i.module) (λ _. Unit {0}) refl (λ l e. (tt, tells (quoted i.module) l e, tt))
    (telling (quoted i.name) (Unit {0}) (λ _. a_name i.name) (λ _. Unit {0}) refl (λ l e. (tt, tells (quoted i.name) l e, tt))
    (silent left refl (tells left) (silent (word (codes "func")) refl (tells (word (codes "func")))
    (inner (groups_tokens i.params i.results) (groups-more i.params i.results (right ∷ [])) (func-are i.params i.results) (silent right refl (tells right) (stop
    (λ y q y' q' y'' q'' ls. (tt, (λ vs. refl), tt)))))))))))

line-more : (i : WasmImport) (more : List Token) → line_tokens i more ≡ line_tokens i [] ++ more
line-more i more =
    ap (λ (l : List Token). left ∷ word (codes "import") ∷ quoted i.module ∷ quoted i.name ∷ left ∷ word (codes "func") ∷ l)
    (ap (group_tokens (codes "param") i.params) (group-more (codes "result") i.results (right ∷ right ∷ []) more) ∙ group-more (codes "param") i.params (group_tokens (codes "result") i.results (right ∷ right ∷ [])) more)

list-are : (is : List WasmImport) → Are (kind.End ∷ []) (list_tokens is) n.Text (some_imports is)
list-are [] = by (production_of import_written p.NoImports) (inl refl) (the_end (λ ls. (tt, (λ vs. refl), tt)))
list-are (i ∷ is) = by (production_of import_written p.MoreImports) (inr (inl refl))
    (inner (line_tokens i []) (line-more i (list_tokens is)) (import-are i) (outer (list-are is) (λ y q y' q' ls. (tt, (λ vs. refl), tt))))

-- ---- the text

kinds-are : (ls : List Lexed) → map import_token_kind (map (λ l. l.token) ls) ≡ map (λ l. import_token_kind l.token) ls
kinds-are [] = refl
kinds-are (l ∷ ls) = ap (λ (k : List TokenKind). import_token_kind l.token ∷ k) (kinds-are ls)

abbrev kinds : List Lexed → List TokenKind
kinds ls = map (λ l. import_token_kind l.token) ls ++ kind.End ∷ []

-- the list of imports whose names are texts reads as these imports
pub reads-back : (is : List WasmImport) → AreNames is → Lists (list_text is) is
reads-back is h =
    let t = list-has-tokens is h in
    let q = (list-are is).run t.0 [] t.2 refl in
    let same : map import_token_kind (list_tokens is) ++ kind.End ∷ [] ≡ kinds t.0 = ap (λ (ts : List Token). map import_token_kind ts ++ kind.End ∷ []) (sym t.2) ∙ ap (λ (k : List TokenKind). k ++ kind.End ∷ []) (kinds-are t.0) in
    let whole = subst (λ (us : List ImportVal). Written import_grammar import_leaf import_act (kinds t.0) t.0 [] (Nonterminal n.Text ∷ []) us) q.1.1 (subst (λ (ks : List TokenKind). Written import_grammar import_leaf import_act ks t.0 [] (Nonterminal n.Text ∷ []) q.0) same q.2) in
    let r = written_derives import_grammar import_leaf import_act n.Text (kinds t.0) t.0 (some_imports is ∷ []) whole in
    record { tokens = t.0; lexed = t.1; parsed = record { steps = r.0; derives = r.1; meaning = r.2 } }
