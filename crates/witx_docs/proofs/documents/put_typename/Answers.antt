use Rattle.std.proofs.Common.{rules, [], ◌∷◌}
use Rattle.witx_ast.specs.Plain.{plain}
use Rattle.witx_ast.specs.Views.{tree_of}
use Rattle.witx_layout.specs.Numbers.{size_of}
use Rattle.witx_docs.specs.LaidOut.{laid_out, refusal_fits, too_large}
use Rattle.witx_docs.proofs.Judging.{judged-first, judged-then}
use Rattle.witx_docs.proofs.documents.put_typename.Goals as goal

pub returns-in_err-numbers-clause-refusal : goal.returns-in_err-numbers-clause-refusal
returns-in_err-numbers-clause-refusal c =
    let refused : refusal_fits (too_large (size_of (plain (tree_of c.args.named.now.tref)) ∷ laid_out (tree_of c.args.named.now.tref))) c.in_err-numbers.field-0.0 =
    judged-first (size_of (plain (tree_of c.args.named.now.tref)) ∷ []) (laid_out (tree_of c.args.named.now.tref)) c.in_err-numbers.field-0.0 c.in_err-numbers.ensures.refusal in
    search (rules, refused)

pub returns-clause-refusal : goal.returns-clause-refusal
returns-clause-refusal c =
    judged-then (size_of (plain (tree_of c.args.named.now.tref)) ∷ []) (laid_out (tree_of c.args.named.now.tref)) c.put_type.result
    c.in_ok-numbers.ensures.refusal c.put_type.ensures.refusal
