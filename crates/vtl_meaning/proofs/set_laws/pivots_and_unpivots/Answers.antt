use Rattle.vtl_tree.specs.Columns.{identifiers_of, kind_named, place_of}
use Rattle.vtl_meaning.proofs.Kept.{column_within}
use Rattle.vtl_meaning.proofs.TurnedKept.{pivot_kept, unpivot_kept}
use Rattle.vtl_meaning.proofs.TurnedLooks.{coded_look, pivot_look, unpivoted_look, unpivoted_only}
use Rattle.vtl_meaning.proofs.TurnedOrders.{pivot_order, unpivot_order}
use Rattle.vtl_meaning.proofs.set_laws.pivots_and_unpivots.Goals as goal

pub returns-clause-pivot_kept : goal.returns-clause-pivot_kept
returns-clause-pivot_kept c = pivot_kept

pub returns-clause-unpivot_kept : goal.returns-clause-unpivot_kept
returns-clause-unpivot_kept c = unpivot_kept

pub returns-clause-pivot_order : goal.returns-clause-pivot_order
returns-clause-pivot_order c = λ id m a d e h p. pivot_order a id d h e p m

pub returns-clause-unpivot_order : goal.returns-clause-unpivot_order
returns-clause-unpivot_order c = unpivot_order

pub returns-clause-pivot_at : goal.returns-clause-pivot_at
returns-clause-pivot_at c = λ id m d s k i h. pivot_look id m d s i h k

pub returns-clause-pivot_value : goal.returns-clause-pivot_value
returns-clause-pivot_value c = λ id m d s code j i h. coded_look id m d (column_within (place_of id (identifiers_of d.structure)) id (kind_named id (identifiers_of d.structure)) (identifiers_of d.structure) i.coded) h code j

pub returns-clause-unpivot_at : goal.returns-clause-unpivot_at
returns-clause-unpivot_at c = λ id m d s k name i h. unpivoted_look id m d.structure s i h.well_formed d.points h k name

pub returns-clause-unpivot_only : goal.returns-clause-unpivot_only
returns-clause-unpivot_only c = λ id m d s j q i h. unpivoted_only id m d.structure s i h.well_formed d.points h j q
