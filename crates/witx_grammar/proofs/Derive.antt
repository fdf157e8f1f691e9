-- Derivations put together: which tokens are derived from which symbols, and what they stand for, whatever follows.
use Rattle.std.proofs.Common.{append_assoc, ◌≡◌, List, [], ◌∷◌, ◌++◌, refl, ap, sym, ◌∙◌}
use Rattle.std.proofs.lemmas.List.{append-nil}
use Rattle.witx_grammar.specs.declared.table.Symbol.TheVariants.{Terminal, Nonterminal}
use Rattle.witx_grammar.specs.declared.table.Step.{Step}
use Rattle.witx_grammar.specs.declared.table.Step.TheVariants.{Leaf, Node}
use Rattle.witx_grammar.specs.Grammar.{In, Rewrite, Wants, Reaches, Derives}
use Rattle.witx_grammar.specs.Reading.{values}
use Rattle.witx_grammar.proofs.Steps.{reaches_append}

-- From tokens of the kinds ts, which are the leaves ls, the symbols w are derived, and the derivation stands for the values us, where more follow.
pub record Written {T N P L V : Type 0} (g : List (Rewrite T N P)) (leaf : L → List V) (act : P → List L → List V → List V) (ts : List T) (ls more : List L) (w : Wants T N) (us : List V) : Type 0 where
  pub steps : List (Step P)
  pub reaches : (v : Wants T N) → Reaches g steps (w ++ v) ts v
  pub means : (ns : List (Step P)) → values leaf act (steps ++ ns) (ls ++ more) ≡ us ++ values leaf act ns more

module _ {T N P L V : Type 0} (g : List (Rewrite T N P)) (leaf : L → List V) (act : P → List L → List V → List V) where
  abbrev pub Writes : List T → List L → List L → Wants T N → List V → Type 0
  Writes ts ls more w us = Written g leaf act ts ls more w us

  pub written_none : (more : List L) → Writes [] [] more [] []
  written_none more = record { steps = []; reaches = (λ v. (refl, refl)); means = (λ ns. refl) }

  -- a token, and what follows it
  pub written_leaf : (t : T) (l : L) (zs : List V) (ts : List T) (ls more : List L) (w : Wants T N) (us : List V) → leaf l ≡ zs → Writes ts ls more w us → Writes (t ∷ ts) (l ∷ ls) more (Terminal t ∷ w) (zs ++ us)
  written_leaf t l zs ts ls more w us e h = record {
    steps = Leaf ∷ h.steps;
    reaches = (λ v. (refl, h.reaches v));
    means = (λ ns. ap (λ (x : List V). x ++ values leaf act (h.steps ++ ns) (ls ++ more)) e ∙ ap (λ (x : List V). zs ++ x) (h.means ns)
        ∙ sym (append_assoc zs us (values leaf act ns more)));
  }

  -- the token behind the end of the leaves
  pub written_end : (t : T) → Writes (t ∷ []) [] [] (Terminal t ∷ []) []
  written_end t = record { steps = Leaf ∷ []; reaches = (λ v. (refl, (refl, refl))); means = (λ ns. refl) }

  -- a nonterminal, and what follows it
  pub written_nonterminal : (f : N) (ts us : List T) (ls ks more : List L) (w : Wants T N) (zs bs : List V) → Writes ts ls (ks ++ more) (Nonterminal f ∷ []) zs → Writes us ks more w bs
      → Writes (ts ++ us) (ls ++ ks) more (Nonterminal f ∷ w) (zs ++ bs)
  written_nonterminal f ts us ls ks more w zs bs a b = record {
    steps = a.steps ++ b.steps;
    reaches = (λ v. reaches_append g a.steps b.steps (Nonterminal f ∷ (w ++ v)) (w ++ v) v ts us (a.reaches (w ++ v)) (b.reaches v));
    means = (λ ns. ap (λ (x : List (Step P)). values leaf act x ((ls ++ ks) ++ more)) (append_assoc a.steps b.steps ns)
        ∙ ap (λ (x : List L). values leaf act (a.steps ++ (b.steps ++ ns)) x) (append_assoc ls ks more)
        ∙ a.means (b.steps ++ ns)
        ∙ ap (λ (x : List V). zs ++ x) (b.means ns)
        ∙ sym (append_assoc zs bs (values leaf act ns more)));
  }

  -- a production, whose action makes its values of those of what it is written by
  pub written_production : (x : Rewrite T N P) (ts : List T) (ls more : List L) (us zs : List V) → In x g → ((vs : List V) → act x.name (ls ++ more) (us ++ vs) ≡ zs ++ vs) → Writes ts ls more x.symbols us
      → Writes ts ls more (Nonterminal x.nonterminal ∷ []) zs
  written_production x ts ls more us zs i e h = record {
    steps = Node x.name ∷ h.steps;
    reaches = (λ v. (x, i, refl, refl, h.reaches v));
    means = (λ ns. ap (λ (y : List V). act x.name (ls ++ more) y) (h.means ns) ∙ e (values leaf act ns more));
  }

  -- where nothing follows, that is a derivation, and its values
  pub written_derives : (f : N) (ts : List T) (ls : List L) (us : List V) → Writes ts ls [] (Nonterminal f ∷ []) us
      → (ms : List (Step P)) × Derives g ms (Nonterminal f ∷ []) ts × (values leaf act ms ls ≡ us)
  written_derives f ts ls us h = (
    h.steps,
    h.reaches [],
    ap (λ (x : List (Step P)). values leaf act x ls) (sym (append-nil h.steps))
        ∙ ap (λ (x : List L). values leaf act (h.steps ++ []) x) (sym (append-nil ls))
        ∙ h.means []
        ∙ append-nil us,
  )
