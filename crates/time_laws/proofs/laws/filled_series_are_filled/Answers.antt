use Rattle.vtl_tree.specs.Columns.{places_in}
use Rattle.vtl_tree.specs.Structure.{columns_of}
use Rattle.vtl_timing.specs.Times.{other_identifiers, time_place}
use Rattle.time_laws.proofs.Filled.{fill_again}
use Rattle.time_laws.proofs.laws.filled_series_are_filled.Goals as goal

pub returns : goal.returns
returns c = λ e d timed h. fill_again e d timed h (c.series_are_whole.ensures.again e (time_place d.structure) (places_in (columns_of d.structure) (other_identifiers d.structure)) d.points)
