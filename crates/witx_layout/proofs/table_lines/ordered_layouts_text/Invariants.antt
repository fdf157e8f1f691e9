use Rattle.witx_layout.proofs.table_lines.ordered_layouts_text.Given as goal

abbrev pub ghosts-text_from : goal.ghosts-text_from
ghosts-text_from a = record { name = a.blank.name; parts = a.blank.parts }
