use Rattle.witx_syntax_tree.proofs.Compared.{comments-compare, constants-compare, declarations-compare, decls-compare, documents-compare, funcs-compare, imports-compare, items-compare, modules-compare, typenames-compare}
use Rattle.witx_syntax_tree.proofs.Decided.{import-types-decide}
use Rattle.witx_syntax_tree.proofs.compare_laws.declarations_are_compared_without_places.Goals as goal

pub returns-clause-comments : goal.returns-clause-comments
returns-clause-comments c = comments-compare

pub returns-clause-import_types : goal.returns-clause-import_types
returns-clause-import_types c = import-types-decide

pub returns-clause-imports : goal.returns-clause-imports
returns-clause-imports c = imports-compare

pub returns-clause-functions : goal.returns-clause-functions
returns-clause-functions c = funcs-compare

pub returns-clause-module_items : goal.returns-clause-module_items
returns-clause-module_items c = decls-compare

pub returns-clause-typenames : goal.returns-clause-typenames
returns-clause-typenames c = typenames-compare

pub returns-clause-modules : goal.returns-clause-modules
returns-clause-modules c = modules-compare

pub returns-clause-constants : goal.returns-clause-constants
returns-clause-constants c = constants-compare

pub returns-clause-declarations : goal.returns-clause-declarations
returns-clause-declarations c = declarations-compare

pub returns-clause-items : goal.returns-clause-items
returns-clause-items c = items-compare

pub returns-clause-documents : goal.returns-clause-documents
returns-clause-documents c = documents-compare
