use Rattle.std.proofs.Common.{◌≡◌, ◌+◌, ◌*◌, ◌%◌, ◌∙◌, pos, ap, arith}
use Rattle.vtl_cell.specs.declared.cell.Cell.TheVariants as cell
use Rattle.vtl_demo.specs.DataSets.{second_factor}
use Rattle.vtl_demo.specs.Draws.{drawn, next_state, state}
use Rattle.vtl_demo.proofs.Drawn.{next, small-cell, two-cells}
use Rattle.vtl_demo.proofs.data_sets.fill_right.Goals as goal
use Rattle.vtl_demo.proofs.data_sets.fill_right.Goals.{After-draw-factor}

third : (c : After-draw-factor) → c.draw-factor.new.self.state ≡ state (3 * (c.args.before + 1))
third c = c.draw-factor.ensures.state ∙ ap next_state c.requires.state ∙ next (3 * c.args.before + 2) (3 * (c.args.before + 1)) (omega arith)

pub returns-in_err-push-clause-state : goal.returns-in_err-push-clause-state
returns-in_err-push-clause-state c = third (goal.at.returns-in_err-push-clause-state c).After-draw-factor

pub returns-in_err-push-2-clause-state : goal.returns-in_err-push-2-clause-state
returns-in_err-push-2-clause-state c = third (goal.at.returns-in_err-push-2-clause-state c).After-draw-factor

pub returns-clause-state : goal.returns-clause-state
returns-clause-state c = third (goal.at.returns-clause-state c).After-draw-factor

pub returns-clause-point : goal.returns-clause-point
returns-clause-point c =
    let number = c.args.before + 1 in
    let draw_is = c.draw-factor.ensures.drawn ∙ ap drawn (third (goal.at.returns-clause-point c).After-draw-factor) in
    two-cells c.args.row.now.items c.push.new.self.items c.push-2.new.self.items _ _ (cell.Int (pos number)) (cell.Int (pos (second_factor number))) c.requires.empty c.in_ok-push.ensures.items c.in_ok-push-2.ensures.items
    (small-cell number (omega (arith, c.requires.few)))
    (small-cell (c.draw-factor.result % 1000) (omega arith) ∙ ap (λ d. cell.Int (pos (d % 1000))) draw_is)
