use Rattle.std.proofs.Common.{◌≡◌, ◌<◌, ◌∙◌, ℕ, List, Option, length, true, arith, sym, subst}
use Rattle.std.specs.Prelude.{IfSome}
use Rattle.vtl_decimal.specs.declared.number.Fault.{Fault}
use Rattle.vtl_cell.specs.Row.{Row}
use Rattle.vtl_rows.specs.Tables.{fits}
use Rattle.vtl_rows.specs.declared.column.Column.{Column}
use Rattle.vtl_scalar.specs.Seen.{seen_of}
use Rattle.vtl_rules.specs.SideValues.{checked_at, fault_at}
use Rattle.vtl_rules.proofs.NumberLemmas.{drawn_numbers, number_holds, seen_numbers}
use Rattle.vtl_rules.proofs.hierarchy_checks.push_rule.Goals as goal

pub push_point-requires-clause-fits : goal.push_point-requires-clause-fits
push_point-requires-clause-fits g c =
    let check = c.args.check.now in
    let n = c.loop-number.number in
    let h : ℕ → Option Row = checked_at c.args.p.now check.out check.mode check.kind check.items c.args.x.now in
    let within : n < length check.items.leading = omega (arith, c.len-number-end.ensures, c.loop-number-test.true) in
    subst (λ (l : List Column). IfSome (h n) (λ (q : Row). fits l q ≡ true)) (sym c.loop-number.invariant.columns)
    (number_holds (λ k. IfSome (h k) (λ (q : Row). fits c.args.points.now.table.columns q ≡ true)) (length check.items.leading) n c.requires within)

pub loop-number-preserved : goal.loop-number-preserved
loop-number-preserved g c =
    let check = c.args.check.now in
    let n = c.loop-number.number in
    let h : ℕ → Option Row = checked_at c.args.p.now check.out check.mode check.kind check.items c.args.x.now in
    let f : ℕ → Option Fault = fault_at c.args.p.now check.out check.mode check.kind check.items c.args.x.now in
    record {
      columns = c.push_point.ensures.columns ∙ c.loop-number.invariant.columns;
      rows = drawn_numbers h n c.args.points.now.table.rows c.loop-number.points.table.rows c.push_point.new.points.table.rows c.loop-number.invariant.rows c.in_ok-push_point.ensures.rows;
      seen = seen_numbers f n (seen_of c.args.points.now.seen) (seen_of c.loop-number.points.seen) (seen_of c.push_point.new.points.seen) c.loop-number.invariant.seen c.in_ok-push_point.ensures.seen;
    }
