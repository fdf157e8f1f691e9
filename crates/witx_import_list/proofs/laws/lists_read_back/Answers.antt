use Rattle.witx_import_list.proofs.ListReads.{reads-back}
use Rattle.witx_import_list.proofs.laws.lists_read_back.Goals as goal

pub returns : goal.returns
returns c = reads-back
