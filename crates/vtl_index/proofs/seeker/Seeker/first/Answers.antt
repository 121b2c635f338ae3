use Rattle.std.proofs.Common.{◌∙◌, ap, length, sym}
use Rattle.std.specs.Prelude.{slice_get}
use Rattle.std.specs.Option.{unwrap_or}
use Rattle.vtl_index.specs.RowIndex.{found_rows}
use Rattle.vtl_index.specs.RowKeys.{key_at}
use Rattle.vtl_index.specs.Seekers.{Sought, first_meant}
use Rattle.vtl_index.proofs.Seeking.{first_is}
use Rattle.vtl_index.proofs.seeker.Seeker.first.Goals as goal

pub returns-clause-place : goal.returns-clause-place
returns-clause-place g c =
    let x = c.self.inside.index in
    let row = c.args.row.now in
    let asked = c.self.inside.asked.items in
    let rows = c.probe.ensures.rows ∙ ap (λ at. found_rows x (key_at x.p at row)) c.deref.ensures.value in
    let count = c.len.ensures ∙ sym (ap (λ (s : Sought). length s.rows) c.self.view_is) in
    c.unwrap_or.ensures ∙ ap (unwrap_or c.copied.result) count ∙ ap (λ o. unwrap_or o (length x.rows)) (c.copied.ensures ∙ c.first.ensures.value ∙ ap (λ l. slice_get l 0) rows)
    ∙ first_is x asked row c.self.invariant.0 c.self.invariant.1 c.self.invariant.2 ∙ ap (λ (s : Sought). first_meant s row) c.self.view_is
