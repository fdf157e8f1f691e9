-- What is wanted by the lists on a stack.
use Rattle.std.proofs.Common.{◌≡◌, List, [], ◌∷◌, ◌++◌, reverse, Bor, Some, ap, ◌∙◌}
use Rattle.std.specs.List.{flat_map}
use Rattle.std.proofs.lemmas.List.{reverse-append}
use Rattle.witx_grammar.specs.declared.table.Symbol.{Symbol}
use Rattle.witx_grammar.specs.Grammar.{Wants}
use Rattle.witx_grammar.specs.Choices.{all_wanted, still_wanted}

-- the first symbol comes first
pub first-wanted : {T N : Type 0} (next : Wants T N) (rest : Bor (List (Symbol T N))) (x : Symbol T N) (ls : List (Bor (List (Symbol T N)))) → next ≡ x ∷ rest.now → still_wanted next ls ≡ all_wanted (Some (x, rest)) ls
first-wanted {T} {N} next rest x ls e = ap (λ (w : Wants T N). still_wanted w ls) e

-- the list on top comes next
pub top-wanted : {T N : Type 0} (ls more : List (Bor (List (Symbol T N)))) (l : Bor (List (Symbol T N))) → more ≡ ls ++ l ∷ [] → still_wanted [] more ≡ still_wanted l.now ls
top-wanted {T} {N} ls more l e =
    ap (λ (x : List (Bor (List (Symbol T N)))). flat_map (λ (s : Bor (List (Symbol T N))). s.now) (reverse x)) e
    ∙ ap (λ (x : List (Bor (List (Symbol T N)))). flat_map (λ (s : Bor (List (Symbol T N))). s.now) x) (reverse-append ls (l ∷ []))

pub ruleset stack_rules = (first-wanted, top-wanted)
