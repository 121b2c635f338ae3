use Rattle.std.proofs.Common.{◌≡◌, ℕ, List, ap, subst, ◌∙◌}
use Rattle.std.specs.Prelude.{IfOk}
use Rattle.vtl_tree.specs.Shown.{shown}
use Rattle.vtl_tree.specs.Structure.{columns_of}
use Rattle.vtl_tree.specs.declared.structure.Component.{Component}
use Rattle.vtl_tree.specs.Columns.{places_in}
use Rattle.vtl_join.proofs.columns.places_of.Goals as goal

pub returns : goal.returns
returns c =
    let s = c.args.structure.now in
    let is = ap (λ (l : List Component). places_in l (shown c.deref-2.result.now)) (ap shown c.deref.ensures.value ∙ c.in_ok-columns.ensures) ∙ ap (places_in (columns_of s)) (ap shown c.deref-2.ensures.value ∙ c.in_ok-of_role.ensures) in
    subst (λ (l : List ℕ). IfOk c.places_in.result (λ v. v.items ≡ l)) is c.places_in.ensures
