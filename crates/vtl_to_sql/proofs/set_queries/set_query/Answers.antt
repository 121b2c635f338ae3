use Rattle.std.proofs.Common.{None, [], ◌∷◌, ap, false, sym, ◌∙◌}
use Rattle.std.proofs.lemmas.Result.{IfOk-weaker}
use Rattle.sql_tree.specs.Trees.{SelectTree}
use Rattle.sql_tree.specs.View.{select_tree}
use Rattle.vtl_to_sql.specs.Combined.{combined_query}
use Rattle.vtl_to_sql.specs.Sets.{matched_select, shown_select}
use Rattle.vtl_to_sql.specs.declared.set_operators.SetOperator.{SetOperator}
use Rattle.vtl_to_sql.proofs.set_queries.set_query.Goals as goal

pub returns-in_ok-others-in-Union : goal.returns-in_ok-others-in-Union
returns-in_ok-others-in-Union c =
    let p = c.args.writer.now in
    let s = c.args.s.now in
    let x = c.args.first.now in
    let y = c.args.second.now in
    IfOk-weaker c.two_selects.result _ _
    (λ q e a b. e
    ∙ ap (λ (z : SelectTree). z ∷ select_tree c.in_ok-others-in-Union.others ∷ []) (c.in_ok-all-in-Union.ensures a)
    ∙ ap (λ (z : SelectTree). shown_select p a s x None ∷ z ∷ []) (c.in_ok-others-in-Union.ensures b)
    ∙ sym (ap (λ (o : SetOperator). combined_query o p a b s x y) c.in-Union.is)) c.two_selects.ensures

pub returns-in_ok-matched_select-in-Intersection : goal.returns-in_ok-matched_select-in-Intersection
returns-in_ok-matched_select-in-Intersection c =
    let p = c.args.writer.now in
    let s = c.args.s.now in
    let x = c.args.first.now in
    let y = c.args.second.now in
    IfOk-weaker c.one_select.result _ _
    (λ q e a b. e ∙ ap (λ (z : SelectTree). z ∷ []) (c.in_ok-matched_select-in-Intersection.ensures a) ∙ sym (ap (λ (o : SetOperator). combined_query o p a b s x y) c.in-Intersection.is)) c.one_select.ensures

pub returns-in_ok-matched_select-in-Difference : goal.returns-in_ok-matched_select-in-Difference
returns-in_ok-matched_select-in-Difference c =
    let p = c.args.writer.now in
    let s = c.args.s.now in
    let x = c.args.first.now in
    let y = c.args.second.now in
    IfOk-weaker c.one_select-in-Difference.result _ _
    (λ q e a b. e ∙ ap (λ (z : SelectTree). z ∷ []) (c.in_ok-matched_select-in-Difference.ensures a) ∙ sym (ap (λ (o : SetOperator). combined_query o p a b s x y) c.in-Difference.is)) c.one_select-in-Difference.ensures

pub returns-in_ok-theirs-in-SymmetricDifference : goal.returns-in_ok-theirs-in-SymmetricDifference
returns-in_ok-theirs-in-SymmetricDifference c =
    let p = c.args.writer.now in
    let s = c.args.s.now in
    let x = c.args.first.now in
    let y = c.args.second.now in
    IfOk-weaker c.two_selects-in-SymmetricDifference.result _ _
    (λ q e a b. e
    ∙ ap (λ (z : SelectTree). z ∷ select_tree c.in_ok-theirs-in-SymmetricDifference.theirs ∷ []) (c.in_ok-ours-in-SymmetricDifference.ensures a)
    ∙ ap (λ (z : SelectTree). matched_select p false a s x y ∷ z ∷ []) (c.in_ok-theirs-in-SymmetricDifference.ensures b)
    ∙ sym (ap (λ (o : SetOperator). combined_query o p a b s x y) c.in-SymmetricDifference.is)) c.two_selects-in-SymmetricDifference.ensures
