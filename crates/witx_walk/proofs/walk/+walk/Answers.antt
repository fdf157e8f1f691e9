use Rattle.std.proofs.Common.{◌≡◌, ◌∙◌, ◌<◌, ◌≤◌, ◌+◌, true, false, refl, sym, ap, arith, ◌∷◌, ◌++◌, [], length, map, drop, Ok}
use Rattle.std.proofs.lemmas.Result.{err_from_is_err_and}
use Rattle.std.proofs.lemmas.List.{drop_all}
use Rattle.witx_base.specs.Paths.{join, path_of}
use Rattle.witx_files.specs.Files.{canonical}
use Rattle.witx_comments.specs.Comments.{comments_view}
use Rattle.witx_syntax_tree.specs.Views.{noted_item, declaration_view}
use Rattle.witx_order.specs.Items.{items_of}
use Rattle.witx_order.specs.Walks.{is_taken, open_file}
use Rattle.witx_order.specs.Verdicts.{here}
use Rattle.witx_walk.specs.Meaning.{world}
use Rattle.witx_language.specs.FaultPlaces.{fault_view}
use Rattle.witx_walk.specs.Readings.{syntax_fault}
use Rattle.witx_walk.specs.Steps.{has_path}
use Rattle.witx_walk.proofs.PathSets.{is-taken, has-more, paths-kept, tracks-more}
use Rattle.witx_walk.proofs.Reached.{stands, holds, lacks, path-refused, path-skipped, too-many, text-refused, parse-refused, parse-fault, took}
use Rattle.witx_walk.proofs.Items.{declaration-is, use-is, items-more, onward-items, items-refused, declared-taken, use-wish, all-taken}
use Rattle.witx_walk.proofs.Uses.{known-taken, inserted-stay, inserted-known, stay-on, stay-same, taken-on, uses-on, none-used, uses-as, uses-more}
use Rattle.witx_walk.proofs.walk.+walk.Goals as goal

pub take_in-returns-in_err-path-clause-told : goal.take_in-returns-in_err-path-clause-told
take_in-returns-in_err-path-clause-told g t c = λ fs links reading ef el er at o h taken ds k e.
    let p = err_from_is_err_and c.from_residual.result c.from_residual.ensures.1 in
    rw (p.1, p.2) (path-refused (world fs links reading) at o h taken ds _ _ e (g.I.WitxIo.aliases c.args.io.now) _ _ _ c.in_err-path.ensures.answer)

pub take_in-returns-then-contains-clause-told : goal.take_in-returns-then-contains-clause-told
take_in-returns-then-contains-clause-told g t c = λ fs links reading ef el er at o h taken ds k e.
    let s : c.in_ok-path.path ≡ canonical links c.args.joined = stands _ links _ _ el c.in_ok-path.ensures.answer.0 in
    let b : is_taken taken c.in_ok-path.path ≡ true = is-taken _ taken k.paths _ _ _ c.contains.ensures c.if-contains.true in
    path-skipped (world fs links reading) at o h taken ds _ _ e _ s c.args.walk.now _ _ k c.in_ok-path.ensures.answer.1 b

pub take_in-returns-then-contains-clause-reached : goal.take_in-returns-then-contains-clause-reached
take_in-returns-then-contains-clause-reached g t c =
    known-taken (g.I.WitxIo.aliases c.args.io.now) c.args.joined c.in_ok-path.path c.args.walk.now.taken c.in_ok-path.ensures.answer.0 (sym c.contains.ensures ∙ c.if-contains.true)

pub take_in-returns-then-len-ge-MOST_FILES-clause-told : goal.take_in-returns-then-len-ge-MOST_FILES-clause-told
take_in-returns-then-len-ge-MOST_FILES-clause-told g t c = λ fs links reading ef el er at o h taken ds k e.
    let s : c.in_ok-path.path ≡ canonical links c.args.joined = stands _ links _ _ el c.in_ok-path.ensures.answer.0 in
    let b : is_taken taken c.in_ok-path.path ≡ false = is-taken _ taken k.paths _ _ _ c.contains.ensures c.if-contains.false in
    let l : 1024 ≤ length taken = omega (arith, k.paths.count) in
    too-many (world fs links reading) at o h taken ds _ _ e _ s b _ _ c.in_ok-path.ensures.answer.1 l

pub take_in-returns-in_err-text-clause-told : goal.take_in-returns-in_err-text-clause-told
take_in-returns-in_err-text-clause-told g t c = λ fs links reading ef el er at o h taken ds k e.
    let s : c.in_ok-path.path ≡ canonical links c.args.joined = stands _ links _ _ el c.in_ok-path.ensures.answer.0 in
    let b : is_taken taken c.in_ok-path.path ≡ false = is-taken _ taken k.paths _ _ _ c.contains.ensures c.if-contains.false in
    let l : length taken < 1024 = omega (arith, k.paths.count) in
    let p = err_from_is_err_and c.from_residual-in_err-text.result c.from_residual-in_err-text.ensures.1 in
    rw (p.1, p.2) (text-refused (world fs links reading) at o h taken ds _ _ e _ s b l _
    (λ q n. lacks _ fs q (c.in_ok-path.ensures.files ∙ ef) n) _ _ c.in_ok-path.ensures.answer.1 _ _ c.in_err-text.ensures.answer)

pub take_in-returns-in_ok-make_room-in-Ok-clause-told : goal.take_in-returns-in_ok-make_room-in-Ok-clause-told
take_in-returns-in_ok-make_room-in-Ok-clause-told g t c = λ fs links reading ef el er at o h taken ds k e.
    let s : c.in_ok-path.path ≡ canonical links c.args.joined = stands _ links _ _ el c.in_ok-path.ensures.answer.0 in
    let n : has_path c.args.walk.now.taken.paths c.in_ok-path.path ≡ false = sym c.contains.ensures ∙ c.if-contains.false in
    let b : is_taken taken c.in_ok-path.path ≡ false = is-taken _ taken k.paths _ _ _ c.contains.ensures c.if-contains.false in
    let l : length taken < 1024 = omega (arith, k.paths.count) in
    let f = c.in_ok-text.ensures.files ∙ (c.in_ok-path.ensures.files ∙ ef) in
    let a = c.in_ok-text.ensures.aliases ∙ (c.in_ok-path.ensures.aliases ∙ el) in
    let i = ap reading (sym c.as_str.ensures) ∙ (er.documents _ _ c.in-Ok.ensures.document ∙ ap (λ xs. Ok (items_of (map noted_item xs))) (sym c.as_slice.ensures)) in
    took (world fs links reading) at o h taken ds _ _ e _ s b l c.in_ok-text.text (holds _ fs _ _ (c.in_ok-path.ensures.files ∙ ef) c.in_ok-text.ensures.answer.0)
    _ _ _ _ _ _ _ _ i c.in_ok-folder.ensures.folder c.as_str-in-Ok.ensures (c.in_ok-text.ensures.answer.1 ∙ c.in_ok-path.ensures.answer.1)
    (rw (c.new-path.ensures ∙ c.in_ok-shared-in-Ok.ensures.path) at c.take_items.ensures.told fs links reading f a er o h (taken ++ c.in_ok-path.path ∷ []) ds
    (c.in_ok-make_room-in-Ok.ensures.tracks (taken ++ c.in_ok-path.path ∷ []) ds (tracks-more c.args.walk.now taken ds c.insert.new.self c.in_ok-path.path k
    (has-more _ taken k.paths c.insert.new.self.paths c.in_ok-path.path n c.in_ok-insert.ensures.known c.in_ok-insert.ensures.count))))

pub take_in-returns-in_ok-make_room-in-Ok-clause-keeps : goal.take_in-returns-in_ok-make_room-in-Ok-clause-keeps
take_in-returns-in_ok-make_room-in-Ok-clause-keeps g t c =
    stay-on c.take_items.result c.args.walk.now.taken c.insert.new.self _ (inserted-stay _ _ _ c.in_ok-insert.ensures.known) (rw c.in_ok-make_room-in-Ok.ensures.taken at c.take_items.ensures.keeps)

pub take_in-returns-in_ok-make_room-in-Ok-clause-reached : goal.take_in-returns-in_ok-make_room-in-Ok-clause-reached
take_in-returns-in_ok-make_room-in-Ok-clause-reached g t c =
    taken-on c.take_items.result (g.I.WitxIo.aliases c.args.io.now) c.args.joined c.insert.new.self _
    (known-taken _ c.args.joined c.in_ok-path.path c.insert.new.self c.in_ok-path.ensures.answer.0 (inserted-known c.args.walk.now.taken c.insert.new.self c.in_ok-path.path c.in_ok-insert.ensures.known))
    (rw c.in_ok-make_room-in-Ok.ensures.taken at c.take_items.ensures.keeps)

pub take_in-returns-in-Err-Parse-clause-told : goal.take_in-returns-in-Err-Parse-clause-told
take_in-returns-in-Err-Parse-clause-told g t c = λ fs links reading ef el er at o h taken ds k e.
    let s : c.in_ok-path.path ≡ canonical links c.args.joined = stands _ links _ _ el c.in_ok-path.ensures.answer.0 in
    let b : is_taken taken c.in_ok-path.path ≡ false = is-taken _ taken k.paths _ _ _ c.contains.ensures c.if-contains.false in
    let l : length taken < 1024 = omega (arith, k.paths.count) in
    parse-refused (world fs links reading) at o h taken ds _ _ e _ s b l c.in_ok-text.text (holds _ fs _ _ (c.in_ok-path.ensures.files ∙ ef) c.in_ok-text.ensures.answer.0)
    _ _ c.unread.result (syntax_fault (fault_view c.in-Err-Parse.fault)) (c.in_ok-text.ensures.answer.1 ∙ c.in_ok-path.ensures.answer.1)
    (ap reading (sym c.as_str.ensures) ∙ er.faults _ _ (parse-fault _ _ _ c.in-Err-Parse.field-0-is c.in-Err-Parse.ensures.fault)) c.unread.ensures.path
    (c.unread.ensures.fault ∙ ap (λ f. syntax_fault (fault_view f)) c.in-Err-Parse.fault-is)

pub take_item-returns-in-Decl-clause-cause : goal.take_item-returns-in-Decl-clause-cause
take_item-returns-in-Decl-clause-cause g t c = c.declare.ensures.cause _ _

pub take_item-returns-in-Decl-clause-keeps : goal.take_item-returns-in-Decl-clause-keeps
take_item-returns-in-Decl-clause-keeps g t c = stay-same c.declare.result _ _ c.declare.ensures.taken

pub take_item-returns-in-Decl-clause-uses : goal.take_item-returns-in-Decl-clause-uses
take_item-returns-in-Decl-clause-uses g t c =
    uses-on c.declare.result (g.I.WitxIo.aliases c.args.io.now) c.args.folder.now c.args.progress.now.uses c.args.walk.now.taken _ (stay-same c.declare.result _ _ c.declare.ensures.taken)

pub take_item-returns-in-Decl-clause-told : goal.take_item-returns-in-Decl-clause-told
take_item-returns-in-Decl-clause-told g t c = λ fs links reading ef el er left o h taken ds k u.
    declared-taken (world fs links reading) _ _ _ o h taken ds _
    (record { comments = comments_view c.args.item.now.comments; item = declaration_view c.in-Decl.declaration }) _ left _ _ _
    refl (declaration-is _ _ c.in-Decl.is) (paths-kept _ _ taken c.declare.ensures.taken k.paths) (c.declare.ensures.declared ds k.holding)

pub take_item-returns-then-contains-clause-told : goal.take_item-returns-then-contains-clause-told
take_item-returns-then-contains-clause-told g t c = λ fs links reading ef el er left o h taken ds k u.
    path-skipped (world fs links reading) _ (open_file c.args.path.now.path.now c.args.progress.now.lines.text.now c.args.folder.now (Ok left) ∷ o) h taken ds _ _
    (use-wish (world fs links reading) _ _ _ o h taken ds c.in-Use.text _ left (join c.args.folder.now c.in_ok-used-in-Use.used) _ (use-is _ _ c.in-Use.is)
    (c.in_ok-used-in-Use.ensures ∙ ap path_of c.as_str.ensures) refl)
    _ refl c.args.walk.now _ _ k refl (sym (k.paths.known _) ∙ u c.in_ok-used-in-Use.used (sym c.contains.ensures ∙ c.if-contains.true) links el)

pub take_item-returns-in_ok-joined-in-Use-clause-uses : goal.take_item-returns-in_ok-joined-in-Use-clause-uses
take_item-returns-in_ok-joined-in-Use-clause-uses g t c =
    uses-more c.take_in.result (g.I.WitxIo.aliases c.args.io.now) c.args.folder.now c.in_ok-used-in-Use.used c.in_ok-joined-in-Use.joined c.args.progress.now.uses c.insert.new.self
    c.args.walk.now.taken _ c.in_ok-insert-in-Use.ensures.known c.in_ok-joined-in-Use.ensures c.take_in.ensures.keeps c.take_in.ensures.reached

pub take_item-returns-in_ok-joined-in-Use-clause-told : goal.take_item-returns-in_ok-joined-in-Use-clause-told
take_item-returns-in_ok-joined-in-Use-clause-told g t c = λ fs links reading ef el er left o h taken ds k u.
    c.take_in.ensures.told fs links reading ef el er _ _ h taken ds k
    (use-wish (world fs links reading) _ _ _ o h taken ds c.in-Use.text _ left _ _ (use-is _ _ c.in-Use.is)
    (c.in_ok-used-in-Use.ensures ∙ ap path_of c.as_str.ensures) c.in_ok-joined-in-Use.ensures)

pub take_items-loop-item-init : goal.take_items-loop-item-init
take_items-loop-item-init g t c = record {
  files = refl;
  aliases = refl;
  grows = omega arith;
  keeps = λ q h. h;
  uses = none-used (g.I.WitxIo.aliases c.args.io.now) c.args.folder.now _ _ c.new-progress.ensures.uses;
  count = refl;
  well = λ h. h;
  text = c.new-progress.ensures.text;
  told = λ fs links reading ef el er o h taken ds k. (taken, (ds, (k, here _)));
}

pub take_items-returns-in_err-take_item-clause-told : goal.take_items-returns-in_err-take_item-clause-told
take_items-returns-in_err-take_item-clause-told g t c = λ fs links reading ef el er o h taken ds k.
    let p = err_from_is_err_and c.from_residual.result c.from_residual.ensures.1 in
    rw (p.1, p.2)
    (items-refused (world fs links reading) _ _ _ o h _ _ _ _ _ _ _ _
    c.loop-item.invariant.count (items-more _ _ _ c.loop-item-test.true c.item-item.is) (c.loop-item.invariant.told fs links reading ef el er o h taken ds k)
    (λ taken' ds' k'. rw c.loop-item.invariant.text at (c.in_err-take_item.ensures.told fs links reading (c.loop-item.invariant.files ∙ ef) (c.loop-item.invariant.aliases ∙ el) er
    (items_of (map noted_item (drop (c.loop-item.item-index + 1) c.args.items.now))) o h taken' ds' k' (uses-as _ _ c.args.folder.now _ _ (sym c.loop-item.invariant.aliases) c.loop-item.invariant.uses))))

pub take_items-loop-item-preserved : goal.take_items-loop-item-preserved
take_items-loop-item-preserved g t c = record {
  files = c.in_ok-take_item.ensures.files ∙ c.loop-item.invariant.files;
  aliases = c.in_ok-take_item.ensures.aliases ∙ c.loop-item.invariant.aliases;
  grows = omega (arith, c.in_ok-take_item.ensures.grows, c.loop-item.invariant.grows);
  keeps = λ q h. c.in_ok-take_item.ensures.keeps q (c.loop-item.invariant.keeps q h);
  uses = uses-as _ _ c.args.folder.now _ _ c.loop-item.invariant.aliases (c.in_ok-take_item.ensures.uses (uses-as _ _ c.args.folder.now _ _ (sym c.loop-item.invariant.aliases) c.loop-item.invariant.uses));
  count = c.in_ok-take_item.ensures.cause ∙ c.loop-item.invariant.count;
  well = λ w. c.in_ok-take_item.ensures.well (c.loop-item.invariant.well w);
  text = c.in_ok-take_item.ensures.text ∙ c.loop-item.invariant.text;
  told = λ fs links reading ef el er o h taken ds k.
      (onward-items (world fs links reading) _ _ _ o h _ _ _ _ _ _ _ _ _ (Ok c.in_ok-take_item.field-0)
      c.loop-item.invariant.count (items-more _ _ _ c.loop-item-test.true c.item-item.is) (c.loop-item.invariant.told fs links reading ef el er o h taken ds k)
      (λ taken' ds' k'. rw c.loop-item.invariant.text at (c.in_ok-take_item.ensures.told fs links reading (c.loop-item.invariant.files ∙ ef) (c.loop-item.invariant.aliases ∙ el) er
      (items_of (map noted_item (drop (c.loop-item.item-index + 1) c.args.items.now))) o h taken' ds' k' (uses-as _ _ c.args.folder.now _ _ (sym c.loop-item.invariant.aliases) c.loop-item.invariant.uses)))).1;
}

pub take_items-returns-clause-told : goal.take_items-returns-clause-told
take_items-returns-clause-told g t c = λ fs links reading ef el er o h taken ds k. (
  c.loop-item.invariant.count,
  all-taken (world fs links reading) _ _ _ o h _ _ _ (ap (λ xs. items_of (map noted_item xs)) (drop_all _ _ c.loop-item-test.false))
      (c.loop-item.invariant.told fs links reading ef el er o h taken ds k),
)
