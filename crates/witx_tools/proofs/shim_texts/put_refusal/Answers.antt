use Rattle.std.proofs.Common.{◌++◌, string_bytes, ap, ◌∙◌}
use Rattle.witx_tools.proofs.shim_texts.put_refusal.Goals as goal

pub returns-in_ok-push_str-in-Some : goal.returns-in_ok-push_str-in-Some
returns-in_ok-push_str-in-Some c why h =
    let told = c.in-Some.ensures why h in
    (told.0, told.1, c.in_ok-push_str-in-Some.ensures.bytes ∙ ap (λ line. string_bytes c.args.text.now ++ line) told.2)
