-- The type of each constant of a document that texts mean is a typename of it: a page of such a document is never refused
-- for a constant of an unknown type.
use Rattle.std.specs.Prelude.{◌≡◌, List, None}
use Rattle.witx_base.specs.Paths.{Path}
use Rattle.witx_files.specs.Files.{Aliases, Files}
use Rattle.witx_ast.specs.Definitions.{DefinitionTree}
use Rattle.witx_walk.specs.Readings.{FileReading}
use Rattle.witx_walk.specs.Meaning.{MeansDocument, world}
use Rattle.witx_markdown.specs.Constants.{unknown_type}

abbrev pub ConstantsHaveTypenames : Type 0
ConstantsHaveTypenames =
    (files : Files) (aliases : Aliases) (reading : FileReading) (handed : List Path) (ds : List DefinitionTree)
    → MeansDocument (world files aliases reading) handed ds → unknown_type ds ≡ None
