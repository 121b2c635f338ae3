use Rattle.std.proofs.Common.{◌≡◌, ◌++◌, ◌*◌, ◌/◌, ◌%◌, ◌<◌, length, get_or, sym, ap, ◌∙◌, subst, arith}
use Rattle.std.proofs.Math.Nat.{mul-mod_left}
use Rattle.std.specs.List.{flat_map}
use Rattle.vtl_pages.specs.Chosen.{items_at, runs}
use Rattle.vtl_pages.proofs.Lays.{items_seen, width_seen}
use Rattle.vtl_pages.proofs.Narrows.{narrowed_all, next_run, run_left}
use Rattle.vtl_pages.proofs.pages.Pages.narrowed.Goals as goal

pub keep-requires-clause-run : goal.keep-requires-clause-run
keep-requires-clause-run g c =
    let l = c.loop-run in let w = c.width-width in let xs = c.args.self.items in
    run_left c.args.places.now w.result xs l.items l.narrow.items l._run l.invariant.way ((λ i. length xs % w.ensures i) ∙ c.requires.whole) (subst (λ k. l._run < k / w.result) c.len.ensures.items c.loop-run-test.true)

pub keep-requires-clause-none : goal.keep-requires-clause-none
keep-requires-clause-none g c = c.loop-run.invariant.empty

pub push_run-requires-clause-whole_runs : goal.push_run-requires-clause-whole_runs
push_run-requires-clause-whole_runs g c =
    let l = c.loop-run in let r = c.reserve.ensures in let k = length c.args.places.now in
    (λ i. (ap length r.items ∙ l.invariant.way.count) i % (r.width ∙ l.invariant.width) i) ∙ mul-mod_left l._run k

pub loop-run-preserved : goal.loop-run-preserved
loop-run-preserved g c =
    let l = c.loop-run in let kept = c.in_ok-keep.ensures in let pushed = c.push_run.ensures in let r = c.reserve.ensures in
    record {
      way = next_run c.args.places.now c.width-width.result c.args.self.items l.items l.narrow.items l._run l.invariant.way c.keep.new.items c.push_run.new.self.items c.keep.new.kept.items kept.items kept.count kept.kept
          (items_seen pushed.pages ∙ ap (λ v. v ++ c.keep.new.kept.items) r.items);
      width = width_seen pushed.pages ∙ r.width ∙ l.invariant.width;
      empty = pushed.run;
    }

pub returns-clause-items : goal.returns-clause-items
returns-clause-items g c d n long =
    let l = c.loop-run in let w = c.width-width in let xs = c.args.self.items in let ps = c.args.places.now in
    let first : get_or ps 0 0 < c.args.self.width = c.requires.within 0 0 c.requires.some in
    let some : 0 < w.result = omega (arith, w.ensures) in
    let end : l._run ≡ c.len.result / w.result = omega (arith, l.auto, c.loop-run-test.false) in
    narrowed_all ps w.result xs l.items l.narrow.items l._run l.invariant.way some (end ∙ ap (λ k. k / w.result) c.len.ensures.items) d n (long ∙ ap (λ k. n * k) (sym w.ensures))
    ∙ ap (λ k. flat_map (items_at d ps) (runs k n xs)) w.ensures
