-- What a token stands for has the sorts that its kind says, and what a production makes that of its nonterminal.
use Rattle.std.proofs.Common.{◌≡◌, map, refl}
use Rattle.witx_lex.specs.Tokens.{Token, word}
use Rattle.witx_values.specs.Language.{IsLawful, parts_of, made_sort}
use Rattle.witx_values.proofs.Mute.{no_sorts_spelled}
use Rattle.witx_values.proofs.Parts.{IsHeld, IsSorting, made_fits}
use Rattle.witx_imports.specs.declared.symbols.TokenKind.TheVariants.{Other}
use Rattle.witx_imports.specs.declared.value.Sort.{Sort}
use Rattle.witx_imports.specs.declared.value.Sort.TheVariants as s
use Rattle.witx_imports.specs.Actions.{import_meaning, import_language}
use Rattle.witx_imports.specs.Sorts.{ImportOf, import_sort_of, import_wrap, import_unwrap, import_terminal_sorts, import_sorting}
use Rattle.witx_imports.specs.TokenKinds.{import_words, import_token_kind}
use Rattle.witx_imports.specs.Values.{ImportVal, a_name, import_token_values}

token_sorts : (t : Token) → map import_sort_of (import_token_values t) ≡ import_terminal_sorts (import_token_kind t)
token_sorts (word t) = no_sorts_spelled import_terminal_sorts Other import_words t refl refl
token_sorts t = refl

wraps : (x : Sort) (y : ImportOf x) → import_sort_of (import_wrap x y) ≡ x
wraps s.Name y = refl
wraps x y = refl

opens : (v : ImportVal) → IsHeld import_sorting (import_sort_of v) v (import_unwrap (import_sort_of v) v)
opens (a_name n) = refl
opens v = refl

pub is_sorting : IsSorting import_sorting
is_sorting = record { wraps = wraps; opens = opens }

pub lawful : IsLawful import_language
lawful = record {
  tokens = (λ l. token_sorts l.token);
  ends = refl;
  productions = (λ x ts ss vs e. made_fits import_sorting is_sorting (parts_of import_language x) ss (made_sort import_language x) (import_meaning x) vs e);
}
