use Rattle.vtl_cell.proofs.Hashes.{fed_same}
use Rattle.vtl_cell.proofs.cell.hashes_tell_apart.Goals as goal

pub returns : goal.returns
returns c = fed_same
