use Rattle.std.proofs.Common.{◌∙◌, List, ap, drop, length, map, sym}
use Rattle.std.proofs.lemmas.List.{length-map}
use Rattle.sql_tree.specs.View.{join_tree, select_tree}
use Rattle.sql_tree.specs.declared.statements.Join.{Join}
use Rattle.sql_plan.specs.EarlyChosen.{is_lasting}
use Rattle.sql_plan.proofs.FirstJoins.{first_same}
use Rattle.sql_plan.proofs.standing.Standing.of.Goals as goal

pub returns : goal.returns
returns c =
    let joins = c.args.select.now.joins in
    first_same (select_tree c.args.select.now) c.in_ok-places.field-0 c.lasting_from.result (length c.as_slice-2.result.now) c.in_ok-places.ensures
    (λ n. ap (λ (l : List Join). is_lasting (drop n (map join_tree l))) (sym c.as_slice.ensures) ∙ c.lasting_from.ensures n)
    (ap (λ (l : List Join). length l) c.as_slice-2.ensures ∙ sym (length-map joins join_tree))
