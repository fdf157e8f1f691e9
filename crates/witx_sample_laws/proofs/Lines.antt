-- The text of a sample's file has the tokens of the expressions that its lines are.
use Rattle.std.proofs.Common.{◌≡◌, ℕ, zero, suc, ◌+◌, ◌^◌, ◌<◌, ◌≤◌, List, [], ◌∷◌, ◌++◌, flat_map, append_assoc, refl, sym, ap, ◌∙◌, subst, arith, codes, decimal}
use Rattle.std.specs.List.{range_with_len}
use Rattle.witx_lex.specs.Pieces.{Piece, blank, opening, closing, run, Stand, most_open}
use Rattle.witx_lex.specs.Tokens.{Token, left, right, id, word as a_word, Lexed}
use Rattle.witx_lex.specs.Meaning.{tokens_of, HasTokens}
use Rattle.witx_ast.specs.declared.types.IntRepr.{IntRepr}
use Rattle.witx_render.specs.Expressions.{SExpr, vec, word, ident, quote, annot, docs, SExprs, nil, cons, ◌▹◌, text_of, text_of_all, text_behind}
use Rattle.witx_render.specs.TypeExpressions.{width_expr}
use Rattle.witx_render.specs.DocumentTexts.{definition_expr}
use Rattle.witx_read_back.specs.PrintedTokens.{tokens, expr_tokens}
use Rattle.witx_read_back.proofs.Lexes.{Lexable, expr_pieces, piece_tokens, tokens_from_pieces, expr_piece_tokens, expr_stand}
use Rattle.witx_sample.specs.Samples.{each_below, enum_line, record_line, variant_head, record_case, list_case, variant_line, func_head, func_params, func_result, sample_func_line, type_lines, sample_module_text}
use Rattle.witx_sample_laws.proofs.Documents.{enum_name, module_name, record_name, variant_name, function_name, record_definition, variant_definition}
use Rattle.witx_sample_laws.proofs.Names.{run_of, record_run, variant_run, function_raw, function_utf8}
use Rattle.witx_sample_laws.proofs.SampleFiles.{body}

-- ---- the expressions

abbrev pub enum_expr : SExpr
enum_expr = vec (word (codes "typename") ▹ ident enum_name ▹ vec (word (codes "enum") ▹ width_expr (codes "tag") IntRepr.U16 ▹ ident (codes "ok") ▹ ident (codes "bad") ▹ nil) ▹ nil)

abbrev pub record_expr : ℕ → SExpr
record_expr i = definition_expr (record_definition i)

abbrev pub variant_expr : ℕ → SExpr
variant_expr i = definition_expr (variant_definition i)

abbrev pub result_expr : ℕ → SExpr
result_expr i = vec (
    word (codes "expected") ▹ vec (word (codes "tuple") ▹ ident (record_name i) ▹ ident enum_name ▹ nil)
    ▹ vec (word (codes "error") ▹ ident enum_name ▹ nil) ▹ nil)

abbrev pub func_expr : ℕ → SExpr
func_expr i = vec (
    annot (codes "interface") ▹ word (codes "func") ▹ vec (word (codes "export") ▹ quote (function_name i) ▹ nil)
    ▹ vec (word (codes "param") ▹ ident (codes "p") ▹ ident (variant_name i) ▹ nil)
    ▹ vec (word (codes "param") ▹ ident (codes "q") ▹ word (codes "string") ▹ nil)
    ▹ vec (word (codes "result") ▹ ident (codes "s") ▹ result_expr i ▹ nil) ▹ nil)

-- ---- an expression's text in front of another, without a list that ends in between

abbrev mutual
  onto : SExpr → List ℕ → List ℕ
  onto (vec es) more = 40 ∷ all_onto es (41 ∷ more)
  onto (word s) more = s ++ more
  onto (ident s) more = 36 ∷ (s ++ more)
  onto (quote s) more = 34 ∷ (s ++ 34 ∷ more)
  onto (annot s) more = 64 ∷ (s ++ more)
  onto (docs d e) more = text_of (docs d e) ++ more

  all_onto : SExprs → List ℕ → List ℕ
  all_onto nil more = more
  all_onto (cons e es) more = onto e (behind_onto es more)

  behind_onto : SExprs → List ℕ → List ℕ
  behind_onto nil more = more
  behind_onto (cons e es) more = 32 ∷ onto e (behind_onto es more)

mutual
  onto_is : (e : SExpr) (more : List ℕ) → text_of e ++ more ≡ onto e more
  onto_is (vec es) more = ap (λ (l : List ℕ). 40 ∷ l) (append_assoc (text_of_all es) (41 ∷ []) more ∙ all_is es (41 ∷ more))
  onto_is (word s) more = refl
  onto_is (ident s) more = refl
  onto_is (quote s) more = ap (λ (l : List ℕ). 34 ∷ l) (append_assoc s (34 ∷ []) more)
  onto_is (annot s) more = refl
  onto_is (docs d e) more = refl

  all_is : (es : SExprs) (more : List ℕ) → text_of_all es ++ more ≡ all_onto es more
  all_is nil more = refl
  all_is (cons e es) more = append_assoc (text_of e) (text_behind es) more ∙ (ap (λ (l : List ℕ). text_of e ++ l) (behind_is es more) ∙ onto_is e (behind_onto es more))

  behind_is : (es : SExprs) (more : List ℕ) → text_behind es ++ more ≡ behind_onto es more
  behind_is nil more = refl
  behind_is (cons e es) more =
      ap (λ (l : List ℕ). 32 ∷ l) (append_assoc (text_of e) (text_behind es) more ∙ (ap (λ (l : List ℕ). text_of e ++ l) (behind_is es more) ∙ onto_is e (behind_onto es more)))

-- ---- the lines

flat : (a b : List ℕ) (i : ℕ) (rest : List ℕ) → ((a ++ decimal i) ++ b) ++ rest ≡ a ++ (decimal i ++ (b ++ rest))
flat a b i rest = append_assoc (a ++ decimal i) b rest ∙ append_assoc a (decimal i) (b ++ rest)

enum_text : (rest : List ℕ) → enum_line ++ rest ≡ text_of enum_expr ++ 10 ∷ rest
enum_text rest = refl

record_onto : (i : ℕ) (rest : List ℕ)
    → codes "(typename $r" ++ (decimal i ++ (codes " (record (field $a u32) (field $b $e) (field $c u64)))\n" ++ rest)) ≡ onto (record_expr i) (10 ∷ rest)
record_onto i rest = refl

record_text : (i : ℕ) (rest : List ℕ) → record_line i ++ rest ≡ text_of (record_expr i) ++ 10 ∷ rest
unfolding record_line
record_text i rest =
    flat (codes "(typename $r") (codes " (record (field $a u32) (field $b $e) (field $c u64)))\n") i rest
    ∙ (record_onto i rest ∙ sym (onto_is (record_expr i) (10 ∷ rest)))

variant_onto : (i : ℕ) (rest : List ℕ)
    → codes "(typename $v" ++ (decimal i ++ (codes " (variant (@witx tag u8)" ++ (codes " (case $x $r" ++ (decimal i ++ (codes ")" ++ (codes " (case $y (list $r" ++ (decimal i ++ (codes ")) (case $z)))\n" ++ rest))))))))
    ≡ onto (variant_expr i) (10 ∷ rest)
variant_onto i rest = refl

variant_text : (i : ℕ) (rest : List ℕ) → variant_line i ++ rest ≡ text_of (variant_expr i) ++ 10 ∷ rest
unfolding variant_line variant_head record_case list_case
variant_text i rest =
    append_assoc (variant_head i) (record_case i ++ list_case i) rest
    ∙ (ap (λ (l : List ℕ). variant_head i ++ l) (append_assoc (record_case i) (list_case i) rest)
    ∙ (flat (codes "(typename $v") (codes " (variant (@witx tag u8)") i (record_case i ++ (list_case i ++ rest))
    ∙ (ap (λ (l : List ℕ). codes "(typename $v" ++ (decimal i ++ (codes " (variant (@witx tag u8)" ++ l)))
    (flat (codes " (case $x $r") (codes ")") i (list_case i ++ rest)
    ∙ ap (λ (l : List ℕ). codes " (case $x $r" ++ (decimal i ++ (codes ")" ++ l))) (flat (codes " (case $y (list $r") (codes ")) (case $z)))\n") i rest))
    ∙ (variant_onto i rest ∙ sym (onto_is (variant_expr i) (10 ∷ rest))))))

func_onto : (i : ℕ) (rest : List ℕ)
    → codes "(@interface func (export \"f" ++ (decimal i ++ (codes "\")" ++ (codes " (param $p $v" ++ (decimal i ++ (codes ") (param $q string)" ++ (codes " (result $s (expected (tuple $r" ++ (decimal i ++ (codes " $e) (error $e))))\n" ++ rest))))))))
    ≡ onto (func_expr i) (10 ∷ rest)
func_onto i rest = refl

func_text : (i : ℕ) (rest : List ℕ) → sample_func_line i ++ rest ≡ text_of (func_expr i) ++ 10 ∷ rest
unfolding sample_func_line func_head func_params func_result
func_text i rest =
    append_assoc (func_head i) (func_params i ++ func_result i) rest
    ∙ (ap (λ (l : List ℕ). func_head i ++ l) (append_assoc (func_params i) (func_result i) rest)
    ∙ (flat (codes "(@interface func (export \"f") (codes "\")") i (func_params i ++ (func_result i ++ rest))
    ∙ (ap (λ (l : List ℕ). codes "(@interface func (export \"f" ++ (decimal i ++ (codes "\")" ++ l)))
    (flat (codes " (param $p $v") (codes ") (param $q string)") i (func_result i ++ rest)
    ∙ ap (λ (l : List ℕ). codes " (param $p $v" ++ (decimal i ++ (codes ") (param $q string)" ++ l))) (flat (codes " (result $s (expected (tuple $r") (codes " $e) (error $e))))\n") i rest))
    ∙ (func_onto i rest ∙ sym (onto_is (func_expr i) (10 ∷ rest))))))

-- ---- they can be read

enum_lexable : Lexable 0 enum_expr
enum_lexable = (
  omega arith,
  (
    run_of _ _ _ refl,
    (
      run_of _ _ _ refl,
      ((omega arith, (run_of _ _ _ refl, ((omega arith, (run_of _ _ _ refl, (run_of _ _ _ refl, (run_of _ _ _ refl, tt)))), (run_of _ _ _ refl, (run_of _ _ _ refl, tt))))), tt),
    ),
  ),
)

record_lexable : (i : ℕ) → i < 2 ^ 64 → Lexable 0 (record_expr i)
record_lexable i l = (
  omega arith,
  (
    run_of _ _ _ refl,
    (
      record_run i l,
      (
        (
          omega arith,
          (
            run_of _ _ _ refl,
            (
              (omega arith, (run_of _ _ _ refl, (run_of _ _ _ refl, (run_of _ _ _ refl, tt)))),
              (
                (omega arith, (run_of _ _ _ refl, (run_of _ _ _ refl, (run_of _ _ _ refl, tt)))),
                (
                  (omega arith, (run_of _ _ _ refl, (run_of _ _ _ refl, (run_of _ _ _ refl, tt)))),
                  tt,
                ),
              ),
            ),
          ),
        ),
        tt,
      ),
    ),
  ),
)

variant_lexable : (i : ℕ) → i < 2 ^ 64 → Lexable 0 (variant_expr i)
variant_lexable i l = (
  omega arith,
  (
    run_of _ _ _ refl,
    (
      variant_run i l,
      (
        (
          omega arith,
          (
            run_of _ _ _ refl,
            (
              (omega arith, (run_of _ _ _ refl, (run_of _ _ _ refl, (run_of _ _ _ refl, tt)))),
              (
                (omega arith, (run_of _ _ _ refl, (run_of _ _ _ refl, (record_run i l, tt)))),
                (
                  (omega arith, (run_of _ _ _ refl, (run_of _ _ _ refl, ((omega arith, (run_of _ _ _ refl, (record_run i l, tt))), tt)))),
                  (
                    (omega arith, (run_of _ _ _ refl, (run_of _ _ _ refl, tt))),
                    tt,
                  ),
                ),
              ),
            ),
          ),
        ),
        tt,
      ),
    ),
  ),
)

func_lexable : (i : ℕ) → i < 2 ^ 64 → Lexable 1 (func_expr i)
func_lexable i l = (
  omega arith,
  (
    (run_of _ _ _ refl, refl),
    (
      run_of _ _ _ refl,
      (
        (omega arith, (run_of _ _ _ refl, ((function_raw i l, function_utf8 i l), tt))),
        (
          (omega arith, (run_of _ _ _ refl, (run_of _ _ _ refl, (variant_run i l, tt)))),
          (
            (omega arith, (run_of _ _ _ refl, (run_of _ _ _ refl, (run_of _ _ _ refl, tt)))),
            (
              (
                omega arith,
                (
                  run_of _ _ _ refl,
                  (
                    run_of _ _ _ refl,
                    (
                      (
                        omega arith,
                        (
                          run_of _ _ _ refl,
                          (
                            (omega arith, (run_of _ _ _ refl, (record_run i l, (run_of _ _ _ refl, tt)))),
                            (
                              (omega arith, (run_of _ _ _ refl, (run_of _ _ _ refl, tt))),
                              tt,
                            ),
                          ),
                        ),
                      ),
                      tt,
                    ),
                  ),
                ),
              ),
              tt,
            ),
          ),
        ),
      ),
    ),
  ),
)

-- ---- texts and their tokens

-- with n parentheses open, the text has pieces up to its end, and these stand for the tokens
pub record Tells (n : ℕ) (text : List ℕ) (ts : List Token) : Type 0 where
  pub pieces : List Piece
  pub stand : Stand n pieces text []
  pub told : piece_tokens pieces ≡ ts

as_text : (n : ℕ) (text other : List ℕ) (ts : List Token) → text ≡ other → Tells n other ts → Tells n text ts
as_text n text other ts e h = record { pieces = h.pieces; stand = subst (λ (l : List ℕ). Stand n h.pieces l []) (sym e) h.stand; told = h.told }

one_line : (n : ℕ) (e : SExpr) (after : List ℕ) (ts : List Token) → Lexable n e → n ≤ most_open → Tells n after ts → Tells n (text_of e ++ 10 ∷ after) (expr_tokens e ts)
one_line n e after ts h l k = record {
  pieces = expr_pieces e (blank 10 ∷ k.pieces);
  stand = expr_stand n e h l (blank 10 ∷ k.pieces) (10 ∷ after) [] refl (after, record { piece = refl; spelled = refl; ended = tt; depth = l }, k.stand);
  told = expr_piece_tokens n e h (blank 10 ∷ k.pieces) ∙ ap (λ (l : List Token). expr_tokens e l) k.told;
}

-- the tokens of the records and variants of k numbers from i on, and of so many functions, in front of others
abbrev pub types_tokens : (i k : ℕ) → List Token → List Token
types_tokens i zero ts = ts
types_tokens i (suc k) ts = expr_tokens (record_expr i) (expr_tokens (variant_expr i) (types_tokens (i + 1) k ts))

abbrev pub funcs_tokens : (i k : ℕ) → List Token → List Token
funcs_tokens i zero ts = ts
funcs_tokens i (suc k) ts = expr_tokens (func_expr i) (funcs_tokens (i + 1) k ts)

abbrev pub module_tokens : ℕ → List Token → List Token
module_tokens n ts = left ∷ a_word (codes "module") ∷ id module_name ∷ funcs_tokens 0 n (right ∷ ts)

types_told : (i k : ℕ) (after : List ℕ) (ts : List Token) → i + k ≤ 2 ^ 64 → Tells 0 after ts → Tells 0 (flat_map type_lines (range_with_len i k) ++ after) (types_tokens i k ts)
unfolding type_lines
types_told i zero after ts l h = h
types_told i (suc k) after ts l h =
    let rest = flat_map type_lines (range_with_len (i + 1) k) in
    let small : i < 2 ^ 64 = omega (arith, l) in
    as_text 0 (((record_line i ++ variant_line i) ++ rest) ++ after) (text_of (record_expr i) ++ 10 ∷ (text_of (variant_expr i) ++ 10 ∷ (rest ++ after))) (types_tokens i (suc k) ts)
    (append_assoc (record_line i ++ variant_line i) rest after
    ∙ (append_assoc (record_line i) (variant_line i) (rest ++ after)
    ∙ (record_text i (variant_line i ++ (rest ++ after)) ∙ ap (λ (l : List ℕ). text_of (record_expr i) ++ 10 ∷ l) (variant_text i (rest ++ after)))))
    (one_line 0 (record_expr i) (text_of (variant_expr i) ++ 10 ∷ (rest ++ after)) (expr_tokens (variant_expr i) (types_tokens (i + 1) k ts)) (record_lexable i small) (omega arith)
    (one_line 0 (variant_expr i) (rest ++ after) (types_tokens (i + 1) k ts) (variant_lexable i small) (omega arith) (types_told (i + 1) k after ts (omega (arith, l)) h)))

funcs_told : (i k : ℕ) (after : List ℕ) (ts : List Token) → i + k ≤ 2 ^ 64 → Tells 1 after ts → Tells 1 (flat_map sample_func_line (range_with_len i k) ++ after) (funcs_tokens i k ts)
funcs_told i zero after ts l h = h
funcs_told i (suc k) after ts l h =
    let rest = flat_map sample_func_line (range_with_len (i + 1) k) in
    let small : i < 2 ^ 64 = omega (arith, l) in
    as_text 1 ((sample_func_line i ++ rest) ++ after) (text_of (func_expr i) ++ 10 ∷ (rest ++ after)) (funcs_tokens i (suc k) ts)
    (append_assoc (sample_func_line i) rest after ∙ func_text i (rest ++ after))
    (one_line 1 (func_expr i) (rest ++ after) (funcs_tokens (i + 1) k ts) (func_lexable i small) (omega arith) (funcs_told (i + 1) k after ts (omega (arith, l)) h))

end_told : Tells 1 (codes ")\n") (right ∷ [])
end_told = record {
  pieces = closing ∷ blank 10 ∷ [];
  stand = (10 ∷ [], record { piece = tt; spelled = refl; ended = tt; depth = omega arith }, ([], record { piece = refl; spelled = refl; ended = tt; depth = omega arith }, refl));
  told = refl;
}

module_head : (text : List ℕ) (ts : List Token) → Tells 1 text ts → Tells 0 (codes "(module $m\n" ++ text) (left ∷ a_word (codes "module") ∷ id module_name ∷ ts)
module_head text ts h = record {
  pieces = opening ∷ run (codes "module") ∷ blank 32 ∷ run (codes "$m") ∷ blank 10 ∷ h.pieces;
  stand = (
    codes "module $m\n" ++ text,
    record { piece = tt; spelled = refl; ended = refl; depth = omega arith },
    (
      codes " $m\n" ++ text,
      record { piece = run_of _ _ _ refl; spelled = refl; ended = refl; depth = omega arith },
      (
        codes "$m\n" ++ text,
        record { piece = refl; spelled = refl; ended = tt; depth = omega arith },
        (
          codes "\n" ++ text,
          record { piece = run_of _ _ _ refl; spelled = refl; ended = refl; depth = omega arith },
          (text, record { piece = refl; spelled = refl; ended = tt; depth = omega arith }, h.stand),
        ),
      ),
    ),
  );
  told = ap (λ (l : List Token). left ∷ a_word (codes "module") ∷ id module_name ∷ l) h.told;
}

module_told : (n : ℕ) → n ≤ 2 ^ 64 → Tells 0 (sample_module_text n) (module_tokens n [])
unfolding sample_module_text
module_told n l = module_head (each_below sample_func_line n ++ codes ")\n") (funcs_tokens 0 n (right ∷ [])) (funcs_told 0 n (codes ")\n") (right ∷ []) (omega (arith, l)) end_told)

-- the tokens of the file of a sample
abbrev pub sample_tokens : ℕ → List Token
sample_tokens n = expr_tokens enum_expr (types_tokens 0 n (module_tokens n []))

body_told : (n : ℕ) → n ≤ 2 ^ 64 → Tells 0 (body n) (sample_tokens n)
body_told n l =
    let rest = each_below type_lines n ++ sample_module_text n in
    as_text 0 (body n) (text_of enum_expr ++ 10 ∷ rest) (sample_tokens n) (enum_text rest)
    (one_line 0 enum_expr rest (types_tokens 0 n (module_tokens n [])) enum_lexable (omega arith) (types_told 0 n (sample_module_text n) (module_tokens n []) (omega (arith, l)) (module_told n l)))

pub body_tokens : (n : ℕ) → n ≤ 2 ^ 64 → (ts : List Lexed) × HasTokens (body n) ts × (tokens ts ≡ sample_tokens n)
body_tokens n l =
    let h = body_told n l in
    (tokens_of h.pieces, (h.pieces, h.stand, refl), tokens_from_pieces 0 [] h.pieces ∙ h.told)
