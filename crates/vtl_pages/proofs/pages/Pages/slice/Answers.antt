use Rattle.std.proofs.Common.{◌+◌, ◌%◌, ◌≤◌, length, take, drop, sym, ap, ◌∙◌, subst}
use Rattle.vtl_pages.proofs.Lays.{items_seen, run_is, run_there, width_seen}
use Rattle.vtl_pages.proofs.Runs.{in_one_block}
use Rattle.vtl_pages.proofs.pages.Pages.slice.Goals as goal

pub run_at-requires-clause-filled : goal.run_at-requires-clause-filled
run_at-requires-clause-filled g c =
    let p = c.self.inside in
    run_there p.store.places p.len p.room c.self.invariant.0 c.args.i c.args.n (subst (λ l. c.args.i + c.args.n ≤ length l) (sym (items_seen c.self.view_is)) c.requires.there)

pub run_at-requires-clause-one_block : goal.run_at-requires-clause-one_block
run_at-requires-clause-one_block g c block place at lt =
    let p = c.self.inside in
    in_one_block p.store p.room p.width p.front p.runs p.shift c.self.invariant.1 c.args.i c.args.n block place (subst (λ w. c.args.i % w + c.args.n ≤ w) (sym (width_seen c.self.view_is)) c.requires.one_run) at lt

pub returns : goal.returns
returns g c =
    let p = c.self.inside in let items = items_seen c.self.view_is in
    run_is p.store.places p.len p.room c.self.invariant.0 c.args.i c.args.n c.run_at.result.now (subst (λ l. c.args.i + c.args.n ≤ length l) (sym items) c.requires.there) c.run_at.ensures
    ∙ ap (λ l. take c.args.n (drop c.args.i l)) items
