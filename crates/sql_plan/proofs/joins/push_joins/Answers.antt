use Rattle.std.proofs.Common.{◌≡◌, ◌∙◌, ◌++◌, ◌∷◌, [], Bool, List, cond, map, ap, refl, sym}
use Rattle.std.proofs.lemmas.List.{append-nil}
use Rattle.sql_tree.specs.View.{join_tree}
use Rattle.sql_tree.specs.declared.statements.Join.{Join}
use Rattle.sql_meaning.specs.declared.plan.Indexed.{Indexed}
use Rattle.sql_plan.specs.Chosen.{equality_joins_from, is_equality_join}
use Rattle.sql_plan.proofs.Pushed.{pushed_next}
use Rattle.sql_plan.proofs.joins.push_joins.Goals.{then-is_equality_join+in_ok-push, else-is_equality_join}
use Rattle.sql_plan.proofs.joins.push_joins.Goals as goal

pub loop-join-preserved : goal.loop-join-preserved
loop-join-preserved c =
    let items = c.loop-join.indexed.items in
    let x = c.index-joins-join.result in
    let entry : Indexed = record { select = c.args.select; join = c.loop-join.join } in
    let test : c.is_equality_join.result ≡ is_equality_join (join_tree x) = c.is_equality_join.ensures in
    let next : c.if-is_equality_join.indexed.items ≡ items ++ cond (is_equality_join (join_tree x)) (entry ∷ []) [] =
    elim c.if-is_equality_join.branch [
      | then-is_equality_join+in_ok-push w ↦ ap (λ v. v.items) w.indexed-is ∙ w.in_ok-push.ensures.items ∙ ap (λ (b : Bool). items ++ cond b (entry ∷ []) []) (sym w.if-is_equality_join.true ∙ test)
      | else-is_equality_join w ↦ ap (λ v. v.items) w.indexed-is ∙ sym (append-nil items) ∙ ap (λ (b : Bool). items ++ cond b (entry ∷ []) []) (sym w.if-is_equality_join.false ∙ test)
    ] in
    pushed_next (λ n (j : Join). cond (is_equality_join (join_tree j)) (record { select = c.args.select; join = n } ∷ []) []) (λ n (js : List Join). equality_joins_from c.args.select n (map join_tree js)) (λ n j js. refl)
    c.loop-join.join c.args.joins.now x items c.if-is_equality_join.indexed.items (c.args.indexed.now.items ++ equality_joins_from c.args.select 0 (map join_tree c.args.joins.now)) c.loop-join-test.true c.index-joins-join.is c.loop-join.invariant next
