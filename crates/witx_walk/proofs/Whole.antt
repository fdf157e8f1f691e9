-- The whole answer: the document that the files mean, or the verdict.
use Rattle.std.proofs.Common.{◌≡◌, ℕ, List, [], refl, sym, ap, ◌∙◌, subst, map, Some, Result, Ok, Err}
use Rattle.witx_base.specs.Paths.{Path}
use Rattle.witx_files.specs.declared.fault.IoFault.TheVariants.{NotFound, LineNotFound, Failed}
use Rattle.witx_ast.specs.Definitions.{DefinitionTree, definition_tree}
use Rattle.witx_scope.specs.Faults.{Fault}
use Rattle.witx_order.specs.Walks.{World, place, beginning, WalkRefusal}
use Rattle.witx_order.specs.Verdicts.{Verdict, fine, refused, IsVerdict}
use Rattle.witx_order.proofs.Steps.{stopped, ends-after}
use Rattle.witx_order.proofs.OnlyOne.{one-verdict}
use Rattle.witx_order.proofs.Ending.{a-verdict}
use Rattle.witx_order.proofs.FinalFronts.{fine-walk, means-fine}
use Rattle.witx_walk.specs.Readings.{FileReading, IsReading}
use Rattle.witx_walk.specs.Meaning.{MeansDocument, definitions_of, world}
use Rattle.witx_walk.specs.Answers.{Answer, Answers, AgreesWith, RefusesFiles, told_by, OneAnswer}
use Rattle.witx_walk.specs.Steps.{ReachesPlace}
use Rattle.witx_walk.specs.declared.error.WitxError.{WitxError}
use Rattle.witx_walk.specs.declared.error.WitxError.TheVariants.{Io, Parse, Validation, BadPath, TooManyFiles, OutOfMemory}
use Rattle.witx_walk.specs.declared.walking.Walking.{Walking}

some-same : {A : Type 0} {a x : A} → Some a ≡ Some x → a ≡ x
some-same e = cc

some-is : {A : Type 0} {a x b : A} → Some a ≡ Some x → a ≡ b → x ≡ b
some-is e f = sym (some-same e) ∙ f

module _ (w : World Fault) (handed : List Path) where
  pub all-mean : (walk : Walking) → ReachesPlace w walk (beginning handed) (place [] []) → MeansDocument w handed (map definition_tree walk.definitions)
  all-mean walk h =
      (h.1.0, (fine-walk w handed h.1.0 (ends-after w h.1.1.1 (stopped w _ _ refl)), h.1.1.0.holding.definitions))

  agrees-err : (e : WitxError) (before now : ℕ) (v : Verdict Fault) → RefusesFiles w (beginning handed) before now e → IsVerdict w handed v → AgreesWith v (Err e)
  agrees-err (BadPath p) before now v h k = one-verdict w handed v _ k h.1
  agrees-err (TooManyFiles p) before now v h k = one-verdict w handed v _ k h.1
  agrees-err (Io p NotFound) before now v h k = one-verdict w handed v _ k h.1
  agrees-err (Io p LineNotFound) before now v h k = h
  agrees-err (Io p Failed) before now v h k = tt
  agrees-err (Parse x) before now v h k = one-verdict w handed v _ k h.1
  agrees-err (Validation x) before now v h k = one-verdict w handed v _ k h.1
  agrees-err OutOfMemory before now v h k = tt

  -- an answer is the verdict
  pub agrees : (r : Answer) (before now : ℕ) (v : Verdict Fault) → Answers w handed before now r → IsVerdict w handed v → AgreesWith v r
  agrees (Ok definitions) before now v h k =
      let m = h.1 in
      (m.0, (one-verdict w handed v (fine m.0) k (means-fine w handed m.0 m.1.0.0 m.1.0.1.0 m.1.0.1.1), m.1.1))
  agrees (Err e) before now v h k = agrees-err e before now v h k

  pub means-as : (ds es : List DefinitionTree) → ds ≡ es → MeansDocument w handed ds → MeansDocument w handed es
  means-as ds es e h = let P : List DefinitionTree → Type 0 = λ x. MeansDocument w handed x in subst P e h

of_verdict : Verdict Fault → Result (List DefinitionTree) (WalkRefusal Fault)
of_verdict (fine declared) = Ok (definitions_of declared)
of_verdict (refused refusal) = Err refusal

-- what an answer tells that is the verdict
told-is : (r : Answer) (v : Verdict Fault) (x : Result (List DefinitionTree) (WalkRefusal Fault)) → AgreesWith v r → told_by r ≡ Some x → x ≡ of_verdict v
unfolding of_verdict
told-is (Ok definitions) v x h e = some-is e (ap (λ y. Ok y) h.1.1 ∙ sym (ap of_verdict h.1.0))
told-is (Err (BadPath p)) v x h e = some-is e (sym (ap of_verdict h))
told-is (Err (TooManyFiles p)) v x h e = some-is e (sym (ap of_verdict h))
told-is (Err (Io p NotFound)) v x h e = some-is e (sym (ap of_verdict h))
told-is (Err (Io p LineNotFound)) v x h e = absurd h
told-is (Err (Io p Failed)) v x h e = absurd (cc)
told-is (Err (Parse f)) v x h e = some-is e (sym (ap of_verdict h))
told-is (Err (Validation f)) v x h e = some-is e (sym (ap of_verdict h))
told-is (Err OutOfMemory) v x h e = absurd (cc)

-- two answers that tell something tell the same
pub one-answer : (reading : FileReading) → IsReading reading → OneAnswer
one-answer reading o files aliases handed before now before' now' r s x y h k e f =
    let v = a-verdict (world files aliases reading) handed in
    told-is r v.0 x (agrees (world files aliases reading) handed r before now v.0 (h files aliases reading refl refl o) v.1) e
    ∙ sym (told-is s v.0 y (agrees (world files aliases reading) handed s before' now' v.0 (k files aliases reading refl refl o) v.1) f)
