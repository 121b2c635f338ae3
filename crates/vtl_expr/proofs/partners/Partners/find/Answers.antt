use Rattle.std.proofs.Common.{◌<◌, ◌≤◌, length, get_or, ap, arith, ◌∙◌}
use Rattle.vtl_rows.specs.Tables.{cells_at}
use Rattle.vtl_expr.specs.Partners.{Sought, found}
use Rattle.vtl_expr.proofs.FindingLemmas.{found_nowhere, found_there}
use Rattle.vtl_expr.proofs.partners.Partners.find.Goals as goal

pub returns-then-place-len : goal.returns-then-place-len
returns-then-place-len g c =
    let row = c.args.row.now in
    let x = c.self.inside.seeker in
    let place = c.first-place.result in
    let same = c.self.invariant.0 in
    let within : c.first-place.result < length c.self.inside.seeker.rows = let count = c.len.ensures.rows ∙ ap length same in omega (arith, count, c.if-place-len.true) in
    found_there x.own (length x.asked) (cells_at x.asked row) x.rows c.self.invariant.1 place c.first-place.ensures.place within c.row.result.now
    (c.row.ensures.row ∙ ap (λ l. get_or l place c.row.result.now) same)
    ∙ ap (λ (s : Sought). found s row) c.self.view_is

pub returns-else-place-len : goal.returns-else-place-len
returns-else-place-len g c =
    let row = c.args.row.now in
    let x = c.self.inside.seeker in
    let past : length c.self.inside.seeker.rows ≤ c.first-place.result = let count = c.len.ensures.rows ∙ ap length c.self.invariant.0 in omega (arith, count, c.if-place-len.false) in
    found_nowhere x.own (length x.asked) (cells_at x.asked row) x.rows c.self.invariant.1 c.first-place.result c.first-place.ensures.place past ∙ ap (λ (s : Sought). found s row) c.self.view_is
