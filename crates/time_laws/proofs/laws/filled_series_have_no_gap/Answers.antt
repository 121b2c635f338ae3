use Rattle.vtl_tree.specs.Columns.{places_in}
use Rattle.vtl_tree.specs.Structure.{columns_of}
use Rattle.vtl_timing.specs.Times.{other_identifiers, time_place}
use Rattle.time_laws.proofs.Gaps.{no_gap}
use Rattle.time_laws.proofs.laws.filled_series_have_no_gap.Goals as goal

pub returns : goal.returns
returns c = λ e d key f i j k timed h.
    no_gap e d timed h key f (λ n. c.series_are_whole.ensures.exactly e (time_place d.structure) (places_in (columns_of d.structure) (other_identifiers d.structure)) d.points key f n) i j k
