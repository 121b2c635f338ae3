use Rattle.std.proofs.Common.{◌∙◌, ◌++◌, ℕ, List, Option, map, ap, sym}
use Rattle.std.specs.Prelude.{option_map}
use Rattle.sql_tree.specs.View.{expr_tree, select_tree}
use Rattle.sql_tree.specs.declared.expressions.SqlExpr.{SqlExpr}
use Rattle.sql_meaning.specs.Plans.{conjuncts, conjuncts_of}
use Rattle.sql_plan.specs.EarlyChosen.{first_join}
use Rattle.sql_plan.specs.Reach.{first_join_by}
use Rattle.sql_plan.proofs.early.first_joins.Goals.{in-Some+in_ok-standing+in_ok-push_firsts, in_default}
use Rattle.sql_plan.proofs.early.first_joins.Goals as goal

pub returns : goal.returns
returns c =
    let s = select_tree c.args.select.now in
    elim c.match-select.branch [
      | in-Some+in_ok-standing+in_ok-push_firsts w ↦
          let parts = conjuncts (expr_tree w.in-Some.condition) in
          ap (λ v. v.items) w.firsts-is ∙ w.in_ok-push_firsts.ensures
          ∙ ap (λ (l : List (Option ℕ)). l ++ map (first_join_by w.in_ok-standing.standing) parts) c.new-firsts.ensures.items
          ∙ (λ i. map (λ e. w.in_ok-standing.ensures e i) parts)
          ∙ ap (λ (o : Option SqlExpr). map (first_join s) (conjuncts_of (option_map expr_tree o))) (sym w.in-Some.is)
      | in_default w ↦ ap (λ v. v.items) w.firsts-is ∙ c.new-firsts.ensures.items ∙ ap (λ (o : Option SqlExpr). map (first_join s) (conjuncts_of (option_map expr_tree o))) (sym w.in_default.is)
    ]
