-- The expression that a resolved one stands for.
use Rattle.std.specs.Prelude.{List, [], ◌∷◌}
use Rattle.sql_eval.specs.Placed.{Placed, PlacedBranches, Placeds, aggregate, apply, branch_then, choose, column, const, count_all, membership, no_branches, no_placeds, placed_then, there}
use Rattle.sql_eval.specs.declared.resolved.Resolved.{Resolved, fold-Resolved}
use Rattle.sql_eval.specs.declared.resolved.ResolvedBranch.{ResolvedBranch, fold-ResolvedBranch}
use Rattle.sql_eval.specs.declared.resolved.Resolved.TheOpen.{Resolved-F, ResolvedBranch-F}

abbrev pub placeds_of : List Placed → Placeds
placeds_of [] = no_placeds
placeds_of (e ∷ es) = placed_then e (placeds_of es)

abbrev pub branches_of : List (Placed × Placed) → PlacedBranches
branches_of [] = no_branches
branches_of (b ∷ bs) = branch_then b.0 b.1 (branches_of bs)

-- one level of each type, with each part already seen as its expression
abbrev pub resolved_step : Resolved-F Placed (Placed × Placed) → Placed
resolved_step (Resolved-F.Column place) = column place
resolved_step (Resolved-F.Const v) = const v
resolved_step (Resolved-F.Apply o kind args) = apply o kind (placeds_of args.items)
resolved_step (Resolved-F.Membership operand negated members) = membership operand.value negated members
resolved_step (Resolved-F.Choose kind branches) = choose kind (branches_of branches.items)
resolved_step (Resolved-F.Exists test) = there test.table test.ties.items
resolved_step Resolved-F.CountAll = count_all
resolved_step (Resolved-F.Aggregate f operand) = aggregate f operand.value

abbrev pub branch_step : ResolvedBranch-F Placed (Placed × Placed) → Placed × Placed
branch_step b = (b.condition, b.value)

abbrev pub placed_of : Resolved → Placed
placed_of = fold-Resolved Placed (Placed × Placed) resolved_step branch_step

abbrev pub branch_of : ResolvedBranch → Placed × Placed
branch_of = fold-ResolvedBranch Placed (Placed × Placed) resolved_step branch_step
