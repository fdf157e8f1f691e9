-- The paths that a file has used stand for paths that were taken in.
use Rattle.std.proofs.Common.{◌≡◌, [], Bool, true, false, refl, sym, ap, ◌∙◌, cond, Option, Result, Ok, Err}
use Rattle.std.specs.Prelude.{OnOk}
use Rattle.std.specs.Bool.{Decides}
use Rattle.std.proofs.lemmas.Bool.{false≢true}
use Rattle.std.proofs.lemmas.Bool.Decides.{Decides-eqb}
use Rattle.std.proofs.lemmas.Slice.Eq.{slice_eq-Decides}
use Rattle.witx_base.specs.Paths.{Path, join}
use Rattle.witx_base.specs.PathOrder.{same_path}
use Rattle.witx_files.specs.Files.{Aliases, canonical}
use Rattle.witx_files.specs.Answers.{StandsFor}
use Rattle.witx_files.proofs.SamePaths.{same-test}
use Rattle.witx_walk.specs.Steps.{has_path, HasPaths, StayTaken, IsTakenIn, AreTakenIn}
use Rattle.witx_walk.specs.declared.path_set.PathSet.{PathSet}
use Rattle.witx_walk.proofs.Reached.{stands}

same-decides : (p q : Path) → Decides (same_path p q) (p ≡ q)
same-decides p q = slice_eq-Decides (λ a b. slice_eq-Decides Decides-eqb a b _ refl) p q (same_path p q) (sym (same-test p q))

-- ---- one path

pub known-taken : (told : Option Aliases) (j p : Path) (taken : PathSet) → StandsFor told j p → has_path taken.paths p ≡ true → IsTakenIn told j taken
known-taken told j p taken s h = λ links e. ap (has_path taken.paths) (sym (stands told links j p e s)) ∙ h

pub inserted-stay : (a b : PathSet) (p : Path) → ((q : Path) → has_path b.paths q ≡ cond (same_path p q) true (has_path a.paths q)) → StayTaken a b
inserted-stay a b p known = λ q h. known q ∙ here (same_path p q) (has_path a.paths q) h where
  here : (t u : Bool) → u ≡ true → cond t true u ≡ true
  here true u e = refl
  here false u e = e

pub inserted-known : (a b : PathSet) (p : Path) → ((q : Path) → has_path b.paths q ≡ cond (same_path p q) true (has_path a.paths q)) → has_path b.paths p ≡ true
inserted-known a b p known = known p ∙ ap (λ t. cond t true (has_path a.paths p)) ((same-decides p p).1 refl)

-- ---- an answer Ok

module _ {U E : Type 0} where
  pub stay-on : (r : Result U E) (a b c : PathSet) → StayTaken a b → OnOk r (StayTaken b c) → OnOk r (StayTaken a c)
  stay-on (Ok u) a b c f g = λ q h. g q (f q h)
  stay-on (Err e) a b c f g = g

  pub stay-same : (r : Result U E) (a b : PathSet) → b ≡ a → OnOk r (StayTaken a b)
  stay-same (Ok u) a b e = λ q h. ap (λ (s : PathSet). has_path s.paths q) e ∙ h
  stay-same (Err x) a b e = tt

  pub taken-on : (r : Result U E) (told : Option Aliases) (j : Path) (a b : PathSet) → IsTakenIn told j a → OnOk r (StayTaken a b) → OnOk r (IsTakenIn told j b)
  taken-on (Ok u) told j a b f g = λ links e. g (canonical links j) (f links e)
  taken-on (Err x) told j a b f g = g

  pub uses-on : (r : Result U E) (told : Option Aliases) (folder : Path) (uses a b : PathSet) → OnOk r (StayTaken a b) → AreTakenIn told folder uses a → OnOk r (AreTakenIn told folder uses b)
  uses-on (Ok u) told folder uses a b g f = λ q h links e. g (canonical links (join folder q)) (f q h links e)
  uses-on (Err x) told folder uses a b g f = g

-- ---- what a file has used

pub none-used : (told : Option Aliases) (folder : Path) (uses taken : PathSet) → HasPaths uses.paths [] → AreTakenIn told folder uses taken
none-used told folder uses taken h = λ q e. absurd (false≢true (sym (h.known q) ∙ e))

pub uses-as : (told other : Option Aliases) (folder : Path) (uses taken : PathSet) → told ≡ other → AreTakenIn told folder uses taken → AreTakenIn other folder uses taken
uses-as told other folder uses taken e u = λ q h links k. u q h links (e ∙ k)

one-more : (told : Option Aliases) (folder used joined q : Path) (uses taken : PathSet) (t : Bool) → same_path used q ≡ t → joined ≡ join folder used
    → cond t true (has_path uses.paths q) ≡ true → (has_path uses.paths q ≡ true → IsTakenIn told (join folder q) taken) → IsTakenIn told joined taken
    → IsTakenIn told (join folder q) taken
one-more told folder used joined q uses taken true s j h old new = λ links e.
    ap (λ p. has_path taken.paths (canonical links p)) (ap (join folder) (sym ((same-decides used q).0 s)) ∙ sym j) ∙ new links e
one-more told folder used joined q uses taken false s j h old new = old h

pub uses-more : {U E : Type 0} (r : Result U E) (told : Option Aliases) (folder used joined : Path) (uses uses' a b : PathSet)
    → ((q : Path) → has_path uses'.paths q ≡ cond (same_path used q) true (has_path uses.paths q)) → joined ≡ join folder used
    → OnOk r (StayTaken a b) → OnOk r (IsTakenIn told joined b) → AreTakenIn told folder uses a → OnOk r (AreTakenIn told folder uses' b)
uses-more (Ok x) told folder used joined uses uses' a b known j s n u = λ q h.
    one-more told folder used joined q uses b (same_path used q) refl j (sym (known q) ∙ h) (λ k links e. s (canonical links (join folder q)) (u q k links e)) n
uses-more (Err x) told folder used joined uses uses' a b known j s n u = s
