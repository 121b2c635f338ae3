use Rattle.std.proofs.Common.{◌∙◌, ap, length}
use Rattle.std.specs.Prelude.{nat_lt}
use Rattle.vtl_index.specs.RowIndex.{found_rows}
use Rattle.vtl_index.specs.RowKeys.{key_at}
use Rattle.vtl_index.specs.Seekers.{Sought, is_any_meant}
use Rattle.vtl_index.proofs.Seeking.{has_is}
use Rattle.vtl_index.proofs.seeker.Seeker.has.Goals as goal

pub returns-clause-found : goal.returns-clause-found
returns-clause-found g c =
    let x = c.self.inside.index in
    let row = c.args.row.now in
    let asked = c.self.inside.asked.items in
    c.has.ensures.found ∙ ap (λ at. nat_lt 0 (length (found_rows x (key_at x.p at row)))) c.deref.ensures.value
    ∙ has_is x asked row c.self.invariant.0 c.self.invariant.1 c.self.invariant.2 ∙ ap (λ (s : Sought). is_any_meant s row) c.self.view_is
