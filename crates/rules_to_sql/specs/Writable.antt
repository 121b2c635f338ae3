-- What is asked of rules so that they can be written: their texts and constants are values that a program holds, and no condition is
-- too deep.
use Rattle.std.specs.Prelude.{◌≤◌, ◌+◌, ℕ, ℤ, List, Option}
use Rattle.std.specs.Option.{IfSome}
use Rattle.vtl_cell.specs.Held.{IsHeld}
use Rattle.vtl_cell.specs.declared.cell.Cell.TheVariants as c
use Rattle.vtl_tree.specs.CompExp.{CompExp}
use Rattle.vtl_tree.specs.Trees.{PointRuleTree}
use Rattle.vtl_tree.specs.Depths.{comp_depth}
use Rattle.expressions_to_sql.specs.Held.{HoldsValues}
use Rattle.selects_to_sql.specs.Writable.{most_depth}

-- what is made of a condition is so much deeper
abbrev pub added_depth : ℕ
added_depth = 4

pub record CanBeCondition (e : CompExp) : Type 0 where
  pub constants : HoldsValues e
  pub shallow : comp_depth e + added_depth ≤ most_depth

-- the text and the level of an error
pub record AreErrorsHeld (written : Option (List ℕ)) (number : Option ℤ) : Type 0 where
  pub code : IfSome written (λ text. IsHeld (c.Text text))
  pub level : IfSome number (λ n. IsHeld (c.Int n))

pub record CanRuleBeWritten (r : PointRuleTree) : Type 0 where
  pub name : IfSome r.name (λ text. IsHeld (c.Text text))
  pub antecedent : IfSome r.antecedent CanBeCondition
  pub condition : CanBeCondition r.condition
  pub errors : AreErrorsHeld r.errorcode r.errorlevel
