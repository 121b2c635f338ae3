use Rattle.std.proofs.Common.{IfOk, map, ap, subst, ◌∙◌}
use Rattle.vtl_rows.specs.Keys.{FindsSame, key_of}
use Rattle.vtl_rows.proofs.Ties.{rising_ties}
use Rattle.vtl_rows.proofs.table.Table.first_repeat.Goals as goal

pub returns : goal.returns
returns c =
    let same = rising_ties c.args.columns.now c.deref.result.now (ap (map key_of) c.deref.ensures.value ∙ c.in_ok-keys.ensures) in
    subst (λ same. IfOk c.repeat_of.result (FindsSame same c.args.self.now.rows)) same c.repeat_of.ensures
