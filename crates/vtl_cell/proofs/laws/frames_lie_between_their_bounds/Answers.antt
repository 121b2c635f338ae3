use Rattle.vtl_cell.proofs.Cuts.{frame_is}
use Rattle.vtl_cell.proofs.laws.frames_lie_between_their_bounds.Goals as goal

pub returns : goal.returns
returns g c = λ start end i rows d. frame_is start end i rows d
