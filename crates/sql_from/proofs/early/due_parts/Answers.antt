use Rattle.std.proofs.Common.{◌≡◌, ◌∙◌, List, ℕ, ap, length, subst, sym}
use Rattle.std.proofs.lemmas.List.{length-map}
use Rattle.sql_tree.specs.View.{join_tree, select_tree}
use Rattle.sql_tree.specs.declared.statements.Join.{Join}
use Rattle.sql_from.specs.Conditions.{AreDue, parts_at}
use Rattle.sql_from.specs.PlacedLists.{AreLists}
use Rattle.sql_from.proofs.Dues.{all_due}
use Rattle.sql_from.proofs.early.due_parts.Goals as goal

pub returns-clause-due : goal.returns-clause-due
returns-clause-due c =
    let s = select_tree c.args.select.now in
    let joins = c.args.select.now.joins in
    let parts = c.args.parts.now in
    let early = c.args.early.now in
    let lists = c.in_ok-due.due.items in
    let count : length c.as_slice.result.now ≡ length s.joins = ap (λ (l : List Join). length l) c.as_slice.ensures ∙ sym (length-map joins join_tree) in
    let all = subst (λ (n : ℕ). AreLists (parts_at parts early) n lists) count c.in_ok-due.ensures.lists in
    subst (AreDue s early) (sym c.in_ok-push.ensures.items) (all_due s early parts c.requires lists c.in_ok-all_of.field-0 (c.in_ok-due.ensures.many ∙ count) all c.in_ok-all_of.ensures)
