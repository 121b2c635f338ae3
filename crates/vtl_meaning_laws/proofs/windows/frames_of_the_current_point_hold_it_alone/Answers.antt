use Rattle.std.proofs.Common.{ap, Ok}
use Rattle.vtl_cell.specs.Frames.{first_cell, last_cell}
use Rattle.vtl_meaning_laws.proofs.Stands.{seen_alone}
use Rattle.vtl_meaning_laws.proofs.windows.frames_of_the_current_point_hold_it_alone.Goals as goal

pub returns-clause-seen : goal.returns-clause-seen
returns-clause-seen c = seen_alone

pub returns-clause-first : goal.returns-clause-first
returns-clause-first c = λ p xs d w at r h k e. ap (λ l. Ok (first_cell l)) (seen_alone d w at r h k e)

pub returns-clause-last : goal.returns-clause-last
returns-clause-last c = λ p xs d w at r h k e. ap (λ l. Ok (last_cell l)) (seen_alone d w at r h k e)
