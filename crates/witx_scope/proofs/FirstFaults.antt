-- The first fault of a list of checks, from those of its parts.
use Rattle.std.specs.Prelude.{◌≡◌, List, [], ◌∷◌, ◌++◌, Option, Some, None}
use Rattle.std.proofs.Common.{refl, sym}
use Rattle.witx_scope.specs.declared.error.CheckError.{CheckError}
use Rattle.witx_scope.specs.declared.error.CheckError.TheVariants as check_error
use Rattle.witx_scope.specs.Blame.{Blames, fault_of}
use Rattle.witx_scope.specs.Faults.{Fault, Check, first_fault}

pub fault-past : (c : Check) (cs : List Check) → c ≡ None → first_fault (c ∷ cs) ≡ first_fault cs
fault-past c cs e = rw e refl

pub fault-append : (xs ys : List Check) → first_fault xs ≡ None → first_fault (xs ++ ys) ≡ first_fault ys
fault-append [] ys e = refl
fault-append (None ∷ xs) ys e = fault-append xs ys e
fault-append (Some f ∷ xs) ys e = absurd (cc)

pub fault-stays : (xs ys : List Check) (f : Fault) → first_fault xs ≡ Some f → first_fault (xs ++ ys) ≡ Some f
fault-stays [] ys f e = absurd (cc)
fault-stays (None ∷ xs) ys f e = fault-stays xs ys f e
fault-stays (Some g ∷ xs) ys f e = e

pub blames-head : (e : CheckError) (c : Check) (cs : List Check) → Blames e c → Blames e (first_fault (c ∷ cs))
blames-head (check_error.Validation v) None cs b = absurd (cc)
blames-head (check_error.Validation v) (Some f) cs b = b
blames-head check_error.OutOfMemory c cs b = tt

pub blames-append : (e : CheckError) (xs ys : List Check) → Blames e (first_fault xs) → Blames e (first_fault (xs ++ ys))
blames-append (check_error.Validation v) xs ys b = sym (fault-stays xs ys (fault_of v) (sym b))
blames-append check_error.OutOfMemory xs ys b = tt

pub blames-to : (e : CheckError) (f g : Option Fault) → f ≡ g → Blames e f → Blames e g
blames-to e f g p b = rw p at b

pub blames-past : (e : CheckError) (c : Check) (cs : List Check) → c ≡ None → Blames e (first_fault cs) → Blames e (first_fault (c ∷ cs))
blames-past e c cs n b = blames-to e (first_fault cs) (first_fault (c ∷ cs)) (sym (fault-past c cs n)) b

-- from a list of checks to the whole whose first fault it has
pub step-past : (c : Check) (xs ys : List Check) (x : Option Fault) → first_fault (c ∷ (xs ++ ys)) ≡ x → c ≡ None → first_fault xs ≡ None → first_fault ys ≡ x
step-past c xs ys x e n t = let e1 = rw (fault-past c (xs ++ ys) n, fault-append xs ys t) at e in e1

pub step-head : (e : CheckError) (c : Check) (cs : List Check) (x : Option Fault) → first_fault (c ∷ cs) ≡ x → Blames e c → Blames e x
step-head e c cs x q b = blames-to e (first_fault (c ∷ cs)) x q (blames-head e c cs b)

pub step-wrong : (e : CheckError) (c : Check) (xs ys : List Check) (x : Option Fault) → first_fault (c ∷ (xs ++ ys)) ≡ x → c ≡ None → Blames e (first_fault xs) → Blames e x
step-wrong e c xs ys x q n b = let q1 = rw (fault-past c (xs ++ ys) n) at q in blames-to e (first_fault (xs ++ ys)) x q1 (blames-append e xs ys b)
