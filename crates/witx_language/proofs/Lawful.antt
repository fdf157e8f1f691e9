-- What a token stands for has the sorts that its kind says, and what a production makes that of its nonterminal.
use Rattle.std.proofs.Common.{◌≡◌, ℕ, Bool, true, false, cond, [], ◌∷◌, map, refl}
use Rattle.witx_lex.specs.Tokens.{Token, word, annot, int}
use Rattle.witx_values.specs.Language.{IsLawful, parts_of, made_sort}
use Rattle.witx_values.proofs.Mute.{no_sorts_spelled}
use Rattle.witx_values.proofs.Parts.{IsHeld, IsSorting, made_fits}
use Rattle.witx_language.specs.declared.sort.Sort.{Sort}
use Rattle.witx_language.specs.declared.sort.Sort.TheVariants as s
use Rattle.witx_language.specs.declared.token_kind.TokenKind.TheVariants.{Integer, BigInteger, Other}
use Rattle.witx_language.specs.Actions.{meaning, the_language}
use Rattle.witx_language.specs.Integers.{is_small, int_value}
use Rattle.witx_language.specs.Sorts.{Of, sort_of, wrap, unwrap, terminal_sorts, sorting}
use Rattle.witx_language.specs.TokenKinds.{the_words, the_annotations, token_kind}
use Rattle.witx_language.specs.Values.{Val, a_name, an_integer, token_values}

int_sorts : (b : Bool) (v : ℕ) → map sort_of (cond b (an_integer v ∷ []) []) ≡ terminal_sorts (cond b Integer BigInteger)
int_sorts true v = refl
int_sorts false v = refl

token_sorts : (t : Token) (start end : ℕ) → map sort_of (token_values t start end) ≡ terminal_sorts (token_kind t)
token_sorts (int t) start end = int_sorts (is_small t) (int_value t)
token_sorts (word t) start end = no_sorts_spelled terminal_sorts Other the_words t refl refl
token_sorts (annot t) start end = no_sorts_spelled terminal_sorts Other the_annotations t refl refl
token_sorts t start end = refl

wraps : (k : Sort) (x : Of k) → sort_of (wrap k x) ≡ k
wraps s.Name x = refl
wraps k x = refl

opens : (v : Val) → IsHeld sorting (sort_of v) v (unwrap (sort_of v) v)
opens (a_name x) = refl
opens v = refl

pub is_sorting : IsSorting sorting
is_sorting = record { wraps = wraps; opens = opens }

pub lawful : IsLawful the_language
lawful = record {
  tokens = (λ l. token_sorts l.token l.start l.end);
  ends = refl;
  productions = (λ x ts ss vs e. made_fits sorting is_sorting (parts_of the_language x) ss (made_sort the_language x) (meaning x ts) vs e);
}
