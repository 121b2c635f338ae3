use Rattle.std.proofs.Common.{◌+◌, ◌*◌, ◌≤◌, length, take, drop, sym, ap, ◌∙◌, subst}
use Rattle.vtl_pages.specs.Places.{IsRun}
use Rattle.vtl_pages.proofs.Lays.{run_is, run_there}
use Rattle.vtl_pages.proofs.Runs.{spot_same}
use Rattle.vtl_pages.proofs.pages.Pages.run.Goals as goal

pub run-requires-clause-filled : goal.run-requires-clause-filled
run-requires-clause-filled g c =
    let p = c.self.inside in let found = c.find_run-block.result in
    let there = subst (λ q. c.args.r * q.width + q.width ≤ length q.items) (sym c.self.view_is) c.requires in
    let spot = spot_same p.store p.room p.width p.front p.runs p.shift c.self.invariant.1 found.0 found.1 (c.args.r * p.width) c.find_run-block.ensures.spot in
    subst (λ i. IsRun p.store.places i p.width) (sym spot) (run_there p.store.places p.len p.room c.self.invariant.0 (c.args.r * p.width) p.width there)

pub returns : goal.returns
returns g c =
    let p = c.self.inside in let found = c.find_run-block.result in
    let there = subst (λ q. c.args.r * q.width + q.width ≤ length q.items) (sym c.self.view_is) c.requires in
    let spot = spot_same p.store p.room p.width p.front p.runs p.shift c.self.invariant.1 found.0 found.1 (c.args.r * p.width) c.find_run-block.ensures.spot in
    run_is p.store.places p.len p.room c.self.invariant.0 (c.args.r * p.width) p.width c.run.result.now there (ap (λ i. take p.width (drop i p.store.places)) (sym spot) ∙ c.run.ensures)
    ∙ ap (λ q. take q.width (drop (c.args.r * q.width) q.items)) c.self.view_is
