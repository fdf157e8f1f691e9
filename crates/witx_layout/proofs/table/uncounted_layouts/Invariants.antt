use Rattle.witx_layout.proofs.table.uncounted_layouts.Given as goal

abbrev pub ghosts-layouts_from : goal.ghosts-layouts_from
ghosts-layouts_from a = record { name = a.blank.name; parts = a.blank.parts }
