use Rattle.std.proofs.Common.{◌≡◌, ◌+◌, ◌-◌, ◌*◌, ◌%◌, ◌∙◌, pos, ap, arith, get_or}
use Rattle.std.proofs.lemmas.List.FromFn.{get_or-map-range_with_len}
use Rattle.vtl_cell.specs.declared.cell.Cell.TheVariants as cell
use Rattle.vtl_demo.specs.DataSets.{first_factor, group_at, group_name}
use Rattle.vtl_demo.specs.Draws.{draw, drawn, next_state, state}
use Rattle.vtl_demo.proofs.Drawn.{next, small-cell, third-cell, two-cells}
use Rattle.vtl_demo.proofs.data_sets.fill_left.Goals as goal

pub returns-clause-point : goal.returns-clause-point
returns-clause-point c =
    let before = c.args.before in
    let number = before + 1 in
    let first : c.draw-group.new.self.state ≡ state (3 * number - 2) = c.draw-group.ensures.state ∙ ap next_state c.requires.state ∙ next (3 * before) (3 * number - 2) (omega arith) in
    let second : c.draw-factor.new.self.state ≡ state (3 * number - 1) = c.draw-factor.ensures.state ∙ ap next_state first ∙ next (3 * number - 2) (3 * number - 1) (omega arith) in
    let first_draw : c.draw-group.result ≡ draw (3 * number - 2) = c.draw-group.ensures.drawn ∙ ap drawn first in
    let second_draw : c.draw-factor.result ≡ draw (3 * number - 1) = c.draw-factor.ensures.drawn ∙ ap drawn second in
    let place = c.draw-group.result % 10 in
    let group : c.in_ok-share.field-0 ≡ group_at number =
    c.in_ok-share.ensures ∙ c.index-groups-group.is ∙ ap (λ l. get_or l place c.index-groups-group.result) c.requires.names
    ∙ get_or-map-range_with_len group_name 0 10 place place c.index-groups-group.result (omega arith) (omega arith) ∙ ap (λ d. group_name (d % 10)) first_draw in
    let two = two-cells c.args.row.now.items c.push.new.self.items c.push-2.new.self.items _ _ (cell.Int (pos number)) (cell.Text (group_at number)) c.requires.empty c.in_ok-push.ensures.items c.in_ok-push-2.ensures.items
    (small-cell number (omega (arith, c.requires.few))) (ap cell.Text group) in
    third-cell c.push-2.new.self.items c.push-3.new.self.items (cell.Int (pos number)) (cell.Text (group_at number)) _ (cell.Int (pos (first_factor number))) two c.in_ok-push-3.ensures.items
    (small-cell (c.draw-factor.result % 1000) (omega arith) ∙ ap (λ d. cell.Int (pos (d % 1000))) second_draw)
