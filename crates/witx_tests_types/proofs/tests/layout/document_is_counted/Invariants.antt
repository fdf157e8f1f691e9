use Rattle.witx_tests_types.proofs.tests.layout.document_is_counted.Given as goal

abbrev pub ghosts-counted_layouts : goal.ghosts-counted_layouts
ghosts-counted_layouts a = record { name = a.blank.name; parts = a.blank.parts }
