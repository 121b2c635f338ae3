use Rattle.std.proofs.Common.{◌≡◌, ◌∙◌, List, true, sym, subst}
use Rattle.std.specs.List.{AllByRecursion}
use Rattle.vtl_cell.specs.Row.{Row}
use Rattle.vtl_rows.specs.Tables.{fits}
use Rattle.vtl_rows.specs.declared.column.Column.{Column}
use Rattle.vtl_rules.specs.ComputedItems.{made_rows}
use Rattle.vtl_rules.proofs.NumberLemmas.{rule_holds_at}
use Rattle.vtl_rules.proofs.hierarchies.push_rules.Goals as goal

pub push_rule-requires : goal.push_rule-requires
push_rule-requires g c =
    let items = c.args.items.now in
    let made = c.args.made.now in
    let rule = c.index-rules-i.result in
    subst (λ (l : List Column). AllByRecursion (λ (q : Row). fits l q ≡ true) (made_rows items made rule)) (sym c.loop-i.invariant.columns)
    (rule_holds_at (λ (q : Row). fits c.args.points.now.table.columns q ≡ true) (made_rows items made) c.args.rules.now c.loop-i.i rule c.requires c.loop-i-test.true c.index-rules-i.is (sym c.is_equation.ensures ∙ c.if-is_equation.true))
