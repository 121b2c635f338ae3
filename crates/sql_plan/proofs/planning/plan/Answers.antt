use Rattle.std.proofs.Common.{◌≡◌, ◌∙◌, ◌++◌, map, sym, subst}
use Rattle.sql_tree.specs.View.{query_tree, select_tree}
use Rattle.sql_meaning.specs.Plans.{IsPlan, Ways}
use Rattle.sql_plan.specs.Chosen.{equality_joins}
use Rattle.sql_plan.specs.EarlyChosen.{early_parts}
use Rattle.sql_plan.proofs.Entries.{plan_stands}
use Rattle.sql_plan.proofs.planning.plan.Goals as goal

pub of-requires : goal.of-requires
of-requires c =
    let q = query_tree c.args.query.now in
    let indexed : c.push_indexed.new.indexed.items ≡ equality_joins q = c.in_ok-push_indexed.ensures ∙ (λ i. c.new-indexed.ensures.items i ++ equality_joins (map select_tree (c.as_slice.ensures i))) in
    let early : c.push_early.new.early.items ≡ early_parts q = c.in_ok-push_early.ensures ∙ (λ i. c.new-early.ensures.items i ++ early_parts (map select_tree (c.as_slice-2.ensures i))) in
    let chosen : Ways = record { indexed = equality_joins q; early = early_parts q } in
    let given : Ways = record { indexed = c.push_indexed.new.indexed.items; early = c.push_early.new.early.items } in
    let is : chosen ≡ given = λ i. record { indexed = sym indexed i; early = sym early i } in
    subst (λ (w : Ways). IsPlan q w) is (plan_stands q)
