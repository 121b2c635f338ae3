use Rattle.std.proofs.Common.{◌≡◌, ◌<◌, ◌∙◌, ℕ, List, Option, [], length, true, arith, ap, sym, subst, Some}
use Rattle.std.specs.Prelude.{IfSome}
use Rattle.std.specs.List.{AllByRecursion, filter_map}
use Rattle.std.specs.Map.{lookup}
use Rattle.std.specs.Option.{option_map_or}
use Rattle.vtl_cell.specs.Row.{Row}
use Rattle.vtl_rows.specs.Tables.{fits}
use Rattle.vtl_rows.specs.declared.column.Column.{Column}
use Rattle.vtl_tree.specs.RuleItems.{left_item}
use Rattle.vtl_text.specs.Texts.{same_text}
use Rattle.vtl_rules.specs.ComputedItems.{made_row}
use Rattle.vtl_rules.specs.Itemized.{numbers_of}
use Rattle.vtl_rules.proofs.NumberLemmas.{drawn_hold, drawn_numbers, number_holds}
use Rattle.vtl_rules.proofs.hierarchies.push_rule.Goals as goal

pub push_point-requires-clause-fits : goal.push_point-requires-clause-fits
push_point-requires-clause-fits g c =
    let n = c.loop-number.number in
    let items = c.args.items.now in
    let rule = c.args.rule.now in
    let made = c.args.made.now in
    let columns : List Column = c.args.points.now.table.columns in
    let h : ℕ → Option Row = made_row items rule c.in-Some.column.now in
    let P : Row → Type 0 = λ q. fits columns q ≡ true in
    let found : Some c.in-Some.column.now ≡ lookup (same_text (left_item rule)) made = c.in-Some.ensures ∙ ap (λ item. lookup (same_text item) made) c.left_item.ensures in
    let all : AllByRecursion P (filter_map h (numbers_of items)) = subst (λ o. AllByRecursion P (option_map_or (λ column. filter_map (made_row items rule column) (numbers_of items)) o [])) (sym found) c.requires in
    let within : n < length items.leading = omega (arith, c.len-number-end.ensures, c.loop-number-test.true) in
    subst (λ (l : List Column). IfSome (h n) (λ (q : Row). fits l q ≡ true)) (sym c.loop-number.invariant.columns)
    (number_holds (λ k. IfSome (h k) P) (length items.leading) n (drawn_hold P h (numbers_of items) all) within)

pub loop-number-preserved : goal.loop-number-preserved
loop-number-preserved g c =
    let n = c.loop-number.number in
    let h : ℕ → Option Row = made_row c.args.items.now c.args.rule.now c.in-Some.column.now in
    record {
      columns = c.push_point.ensures.columns ∙ c.loop-number.invariant.columns;
      rows = drawn_numbers h n c.args.points.now.table.rows c.loop-number.points.table.rows c.push_point.new.points.table.rows c.loop-number.invariant.rows c.in_ok-push_point.ensures.rows;
      seen = c.push_point.ensures.seen ∙ c.loop-number.invariant.seen;
    }
