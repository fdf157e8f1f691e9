use Rattle.std.proofs.Common.{refl}
use Rattle.witx_ast.proofs.HeldCopies.{item-entries-equal, text-equal, both-hold, items-read}
use Rattle.witx_ast.proofs.copy_laws.copied_modules_are_equal.Goals as goal

pub returns-clause-equal : goal.returns-clause-equal
returns-clause-equal c =
    both-hold _ _ (text-equal _ _ c.requires.0)
    (both-hold _ _ (item-entries-equal c.args.original.now.contents.entries c.args.copy.now.contents.entries c.requires.2.entries) (text-equal _ _ c.requires.1))

pub returns-clause-tree : goal.returns-clause-tree
returns-clause-tree c = rw (c.requires.0, c.requires.1, items-read c.args.original.now.contents.definitions c.args.copy.now.contents.definitions c.requires.2.definitions) refl
