-- The order of cells is total, and ties equal cells alone.
use Rattle.std.proofs.Common.{◌≡◌, Bool, true, false, refl, ap, subst}
use Rattle.std.specs.declared.cmp.Ordering.{Ordering}
use Rattle.std.specs.declared.cmp.Ordering.TheVariants.{Less, Equal, Greater}
use Rattle.std.specs.Cmp.{IsTotalOrder}
use Rattle.std.specs.FinMap.{nat_cmp-IsAntisymmetric, int_cmp-IsAntisymmetric, slice_cmp-IsAntisymmetric}
use Rattle.std.specs.Ordering.{bool_cmp, nat_cmp, ordering_then}
use Rattle.vtl_time.specs.Days.{CalendarDay, day_cmp}
use Rattle.vtl_time.specs.Periods.{YearPart, period_cmp, frequency_rank}
use Rattle.vtl_time.specs.declared.periods.Frequency.{Frequency}
use Rattle.vtl_cell.proofs.Times.{day_of_parts, period_of_parts, rank_apart}
use Rattle.vtl_cell.specs.Order.{cell_cmp}
use Rattle.vtl_cell.specs.declared.cell.Cell.{Cell}
use Rattle.vtl_cell.specs.declared.cell.Cell.TheVariants as c
use Rattle.vtl_cell.specs.contracts.cell.CellOrd.TheImpl.{cmp-value}
use Rattle.vtl_cell.specs.contracts.cell.CellOrd.TheImpl.Laws.{total-law}

abbrev derived : Cell → Cell → Ordering
derived = cmp-value.it

same_order : (a b : Cell) → derived a b ≡ cell_cmp a b
same_order c.Null c.Null = refl
same_order c.Null (c.Bool y) = refl
same_order c.Null (c.Int y) = refl
same_order c.Null (c.Num y) = refl
same_order c.Null (c.Text y) = refl
same_order c.Null (c.Day y) = refl
same_order c.Null (c.Period y) = refl
same_order (c.Bool x) c.Null = refl
same_order (c.Bool x) (c.Bool y) = refl
same_order (c.Bool x) (c.Int y) = refl
same_order (c.Bool x) (c.Num y) = refl
same_order (c.Bool x) (c.Text y) = refl
same_order (c.Bool x) (c.Day y) = refl
same_order (c.Bool x) (c.Period y) = refl
same_order (c.Int x) c.Null = refl
same_order (c.Int x) (c.Bool y) = refl
same_order (c.Int x) (c.Int y) = refl
same_order (c.Int x) (c.Num y) = refl
same_order (c.Int x) (c.Text y) = refl
same_order (c.Int x) (c.Day y) = refl
same_order (c.Int x) (c.Period y) = refl
same_order (c.Num x) c.Null = refl
same_order (c.Num x) (c.Bool y) = refl
same_order (c.Num x) (c.Int y) = refl
same_order (c.Num x) (c.Num y) = refl
same_order (c.Num x) (c.Text y) = refl
same_order (c.Num x) (c.Day y) = refl
same_order (c.Num x) (c.Period y) = refl
same_order (c.Text x) c.Null = refl
same_order (c.Text x) (c.Bool y) = refl
same_order (c.Text x) (c.Int y) = refl
same_order (c.Text x) (c.Num y) = refl
same_order (c.Text x) (c.Text y) = refl
same_order (c.Text x) (c.Day y) = refl
same_order (c.Text x) (c.Period y) = refl
same_order (c.Day x) c.Null = refl
same_order (c.Day x) (c.Bool y) = refl
same_order (c.Day x) (c.Int y) = refl
same_order (c.Day x) (c.Num y) = refl
same_order (c.Day x) (c.Text y) = refl
same_order (c.Day x) (c.Day y) = refl
same_order (c.Day x) (c.Period y) = refl
same_order (c.Period x) c.Null = refl
same_order (c.Period x) (c.Bool y) = refl
same_order (c.Period x) (c.Int y) = refl
same_order (c.Period x) (c.Num y) = refl
same_order (c.Period x) (c.Text y) = refl
same_order (c.Period x) (c.Day y) = refl
same_order (c.Period x) (c.Period y) = refl

pub cell_cmp_total : IsTotalOrder cell_cmp
cell_cmp_total = subst IsTotalOrder (λ i a b. same_order a b i) total-law

bool_ties : (a b : Bool) → bool_cmp a b ≡ Equal → a ≡ b
bool_ties true true e = refl
bool_ties true false e = cc
bool_ties false true e = cc
bool_ties false false e = refl

pub then_ties : (o p : Ordering) → ordering_then o p ≡ Equal → (o ≡ Equal) × (p ≡ Equal)
then_ties Less p e = cc
then_ties Equal p e = (refl, e)
then_ties Greater p e = cc

day_ties : (x y : CalendarDay) → day_cmp x y ≡ Equal → x ≡ y
day_ties x y e =
    let a = then_ties (nat_cmp x.year y.year) (ordering_then (nat_cmp x.month y.month) (nat_cmp x.day y.day)) e in
    let b = then_ties (nat_cmp x.month y.month) (nat_cmp x.day y.day) a.1 in
    day_of_parts x y (nat_cmp-IsAntisymmetric x.year y.year a.0) (nat_cmp-IsAntisymmetric x.month y.month b.0) (nat_cmp-IsAntisymmetric x.day y.day b.1)

rank_ties : (f g : Frequency) → nat_cmp (frequency_rank f) (frequency_rank g) ≡ Equal → f ≡ g
rank_ties f g e = rank_apart f g (nat_cmp-IsAntisymmetric (frequency_rank f) (frequency_rank g) e)

period_ties : (x y : YearPart) → period_cmp x y ≡ Equal → x ≡ y
period_ties x y e =
    let a = then_ties (nat_cmp (frequency_rank x.frequency) (frequency_rank y.frequency)) (ordering_then (nat_cmp x.year y.year) (nat_cmp x.part y.part)) e in
    let b = then_ties (nat_cmp x.year y.year) (nat_cmp x.part y.part) a.1 in
    period_of_parts x y (rank_ties x.frequency y.frequency a.0) (nat_cmp-IsAntisymmetric x.year y.year b.0) (nat_cmp-IsAntisymmetric x.part y.part b.1)

pub cell_cmp-ties : (a b : Cell) → cell_cmp a b ≡ Equal → a ≡ b
cell_cmp-ties c.Null c.Null e = refl
cell_cmp-ties c.Null (c.Bool y) e = cc
cell_cmp-ties c.Null (c.Int y) e = cc
cell_cmp-ties c.Null (c.Num y) e = cc
cell_cmp-ties c.Null (c.Text y) e = cc
cell_cmp-ties c.Null (c.Day y) e = cc
cell_cmp-ties c.Null (c.Period y) e = cc
cell_cmp-ties (c.Bool x) c.Null e = cc
cell_cmp-ties (c.Bool x) (c.Bool y) e = ap c.Bool (bool_ties x y e)
cell_cmp-ties (c.Bool x) (c.Int y) e = cc
cell_cmp-ties (c.Bool x) (c.Num y) e = cc
cell_cmp-ties (c.Bool x) (c.Text y) e = cc
cell_cmp-ties (c.Bool x) (c.Day y) e = cc
cell_cmp-ties (c.Bool x) (c.Period y) e = cc
cell_cmp-ties (c.Int x) c.Null e = cc
cell_cmp-ties (c.Int x) (c.Bool y) e = cc
cell_cmp-ties (c.Int x) (c.Int y) e = ap c.Int (int_cmp-IsAntisymmetric x y e)
cell_cmp-ties (c.Int x) (c.Num y) e = cc
cell_cmp-ties (c.Int x) (c.Text y) e = cc
cell_cmp-ties (c.Int x) (c.Day y) e = cc
cell_cmp-ties (c.Int x) (c.Period y) e = cc
cell_cmp-ties (c.Num x) c.Null e = cc
cell_cmp-ties (c.Num x) (c.Bool y) e = cc
cell_cmp-ties (c.Num x) (c.Int y) e = cc
cell_cmp-ties (c.Num x) (c.Num y) e = ap c.Num (int_cmp-IsAntisymmetric x y e)
cell_cmp-ties (c.Num x) (c.Text y) e = cc
cell_cmp-ties (c.Num x) (c.Day y) e = cc
cell_cmp-ties (c.Num x) (c.Period y) e = cc
cell_cmp-ties (c.Text x) c.Null e = cc
cell_cmp-ties (c.Text x) (c.Bool y) e = cc
cell_cmp-ties (c.Text x) (c.Int y) e = cc
cell_cmp-ties (c.Text x) (c.Num y) e = cc
cell_cmp-ties (c.Text x) (c.Text y) e = ap c.Text (slice_cmp-IsAntisymmetric nat_cmp-IsAntisymmetric x y e)
cell_cmp-ties (c.Text x) (c.Day y) e = cc
cell_cmp-ties (c.Text x) (c.Period y) e = cc
cell_cmp-ties (c.Day x) c.Null e = cc
cell_cmp-ties (c.Day x) (c.Bool y) e = cc
cell_cmp-ties (c.Day x) (c.Int y) e = cc
cell_cmp-ties (c.Day x) (c.Num y) e = cc
cell_cmp-ties (c.Day x) (c.Text y) e = cc
cell_cmp-ties (c.Day x) (c.Day y) e = ap c.Day (day_ties x y e)
cell_cmp-ties (c.Day x) (c.Period y) e = cc
cell_cmp-ties (c.Period x) c.Null e = cc
cell_cmp-ties (c.Period x) (c.Bool y) e = cc
cell_cmp-ties (c.Period x) (c.Int y) e = cc
cell_cmp-ties (c.Period x) (c.Num y) e = cc
cell_cmp-ties (c.Period x) (c.Text y) e = cc
cell_cmp-ties (c.Period x) (c.Day y) e = cc
cell_cmp-ties (c.Period x) (c.Period y) e = ap c.Period (period_ties x y e)

-- what `cmp` of cells computes is their order
pub derived_is : derived ≡ cell_cmp
derived_is = λ i a b. same_order a b i
