-- The test of two kinds of tokens decides whether they are one; and no two of a list are one where as many are told apart as it has.
use Rattle.std.proofs.Common.{◌≡◌, ◌≢◌, Bool, true, false, List, length, refl, sym, ap}
use Rattle.std.specs.Bool.{Decides}
use Rattle.std.specs.Cmp.{IsEquivalence}
use Rattle.std.specs.List.{AllPairs}
use Rattle.std.specs.Set.{distinct_count}
use Rattle.std.proofs.lemmas.Map.Made.{AllPairs-from_IsDistinct, IsDistinct-from_count}
use Rattle.witx_grammar.specs.Kinds.{enum_exact}
use Rattle.witx_language.specs.contracts.token_kind.TokenKind.{the_type}
use Rattle.witx_language.specs.declared.token_kind.TokenKind.{TokenKind}
use Rattle.witx_language.specs.TokenKinds.{is_kind}

pub is_exact : (x y : TokenKind) → Decides (is_kind x y) (x ≡ y)
is_exact = enum_exact the_type tt

pub same_tests : (a b : Bool) → (a ≡ true → b ≡ true) → (b ≡ true → a ≡ true) → a ≡ b
same_tests true b f g = sym (f refl)
same_tests false true f g = g refl
same_tests false false f g = refl

equivalence : IsEquivalence is_kind
equivalence = record {
  refl = λ x. (is_exact x x).1 refl;
  symm = λ x y. same_tests (is_kind x y) (is_kind y x) (λ e. (is_exact y x).1 (sym ((is_exact x y).0 e))) (λ e. (is_exact x y).1 (sym ((is_exact y x).0 e)));
  congr = λ x y z e. ap (λ (k : TokenKind). is_kind k z) ((is_exact x y).0 e);
}

pub all_apart : (ks : List TokenKind) → distinct_count is_kind ks ≡ length ks → AllPairs (λ x y. x ≢ y) ks
all_apart ks e = AllPairs-from_IsDistinct is_exact ks (IsDistinct-from_count equivalence ks e)
