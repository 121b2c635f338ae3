-- What a node with a time operator gives: a data set of its structure, of the profile, whatever the order of points.
use Rattle.std.proofs.Common.{◌≡◌, ◌∙◌, List, Ok, sym, subst}
use Rattle.std.specs.Prelude.{IfOk}
use Rattle.vtl_lists.specs.Perm.{Perm}
use Rattle.vtl_decimal.specs.Settings.{Settings}
use Rattle.vtl_cell.specs.Outcome.{Outcome}
use Rattle.vtl_cell.specs.Outcomes.{Same}
use Rattle.vtl_cell.specs.Row.{Row}
use Rattle.vtl_series.proofs.OrderLemmas.{once}
use Rattle.vtl_tree.specs.Columns.{places_in}
use Rattle.vtl_tree.specs.DataSet.{AreOfProfile, IsDataSet}
use Rattle.vtl_tree.specs.Environment.{DataSet}
use Rattle.vtl_tree.specs.declared.calls.TimeOp.{TimeOp}
use Rattle.vtl_tree.specs.declared.calls.TimeOp.TheVariants as op
use Rattle.vtl_tree.specs.Structure.{columns_of}
use Rattle.vtl_tree.specs.declared.structure.Structure.{Structure}
use Rattle.vtl_meaning.specs.Points.{with_points}
use Rattle.vtl_meaning.proofs.Determined.{same_shape}
use Rattle.vtl_timing.specs.Timed.{HasGiven, IsTimed, extent_of, timed_of}
use Rattle.vtl_timing.specs.Times.{fill_of, other_identifiers, time_place}
use Rattle.vtl_timing.proofs.FillOrders.{fill_respects}
use Rattle.vtl_timing.proofs.FillProfiles.{fill_profile}
use Rattle.vtl_timing.proofs.FilledPoints.{fill_kept}
use Rattle.vtl_timing.proofs.FlowOrders.{flows_respect}
use Rattle.vtl_timing.proofs.FlowsKept.{flows_kept, stocks_kept}
use Rattle.vtl_timing.proofs.ShiftKept.{shift_kept}
use Rattle.vtl_timing.proofs.TimeOrders.{shift_respects, stocks_respect}
use Rattle.vtl_timing.proofs.TimeProfiles.{flows_give, shift_gives, stocks_give}

-- the structure is one
pub timed_shape : (o : TimeOp) (a s t : Structure) → HasGiven o a s → HasGiven o a t → s ≡ t
timed_shape (op.Shift n) a s t h k = h ∙ sym k
timed_shape (op.Fill f) a s t h k = h ∙ sym k
timed_shape op.FlowToStock a s t h k = same_shape s t _ h.shape k.shape
timed_shape op.StockToFlow a s t h k = same_shape s t _ h.shape k.shape

ok_is : (x y : List Row) → ◌≡◌ {A = Outcome (List Row)} (Ok x) (Ok y) → x ≡ y
ok_is x y e = cc

pub timed_kept : (p : Settings) (o : TimeOp) (d : DataSet) (s : Structure) (out : List Row) → IsTimed o d.structure s → IsDataSet d.structure d.points → timed_of p o d s ≡ Ok out → IsDataSet s out
timed_kept p (op.Shift n) d s out i h e = subst (λ x. IsDataSet x out) (sym i.given) (shift_kept n d out h e)
timed_kept p (op.Fill f) d s out i h e = subst (λ x. IsDataSet x out) (sym i.given) (subst (IsDataSet d.structure) (ok_is (fill_of (extent_of f) d) out e) (fill_kept (extent_of f) d i.time h (once (extent_of f) (time_place d.structure) (places_in (columns_of d.structure) (other_identifiers d.structure)) d.points)))
timed_kept p op.FlowToStock d s out i h e = subst (λ m. IfOk m (IsDataSet s)) e (stocks_kept p d s i.given.well_formed i.given.numbers i.given.shape h)
timed_kept p op.StockToFlow d s out i h e = subst (λ m. IfOk m (IsDataSet s)) e (flows_kept p d s i.given.well_formed i.given.numbers i.given.shape h)

pub timed_profile : (p : Settings) (o : TimeOp) (d : DataSet) (s : Structure) → IsTimed o d.structure s → AreOfProfile p d.points → IfOk (timed_of p o d s) (AreOfProfile p)
timed_profile p (op.Shift n) d s i h = shift_gives p n d h
timed_profile p (op.Fill f) d s i h = fill_profile p (extent_of f) d h
timed_profile p op.FlowToStock d s i h = stocks_give p d s h
timed_profile p op.StockToFlow d s i h = flows_give p d s h

pub timed_respects : (p : Settings) (o : TimeOp) (a : Structure) (us vs : List Row) (s : Structure) → IsTimed o a s → IsDataSet a us → Perm us vs → Same (timed_of p o (with_points a us) s) (timed_of p o (with_points a vs) s)
timed_respects p (op.Shift n) a us vs s i h q = shift_respects a us vs q n
timed_respects p (op.Fill f) a us vs s i h q = fill_respects a us vs h q (extent_of f)
timed_respects p op.FlowToStock a us vs s i h q = stocks_respect a us vs q p s
timed_respects p op.StockToFlow a us vs s i h q = flows_respect a h.well_formed i.time us vs h q p s
