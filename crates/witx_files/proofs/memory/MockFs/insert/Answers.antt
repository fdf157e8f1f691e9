use Rattle.std.proofs.Common.{ap, ◌∙◌, cond, Some}
use Rattle.witx_files.specs.Files.{text_in, same_path}
use Rattle.witx_files.proofs.memory.MockFs.insert.Goals as goal

pub returns-in-Ok-clause-put : goal.returns-in-Ok-clause-put
returns-in-Ok-clause-put c = λ q. c.in-Ok.ensures.updates.0 q
    ∙ ap (λ es. cond (same_path c.args.path q) (Some c.in_ok-shared.shared) (text_in es q)) c.self.view_is
    ∙ ap (λ t. cond (same_path c.args.path q) (Some t) (text_in c.args.self.now q)) c.in_ok-shared.ensures
