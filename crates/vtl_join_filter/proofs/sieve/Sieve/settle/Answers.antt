use Rattle.std.proofs.Common.{ap, sym, ◌∙◌}
use Rattle.vtl_join.specs.Gatherings.{points_of}
use Rattle.vtl_join_filter.specs.declared.sieve.Sieve.{Sieve}
use Rattle.vtl_join_filter.proofs.Sifts.{ready_settled, settled}
use Rattle.vtl_join_filter.proofs.sieve.Sieve.settle.Goals as goal

pub keep_rows-requires : goal.keep_rows-requires
keep_rows-requires c = c.in_ok-points.ensures.columns ∙ sym c.requires.columns

pub returns-clause-ready : goal.returns-clause-ready
returns-clause-ready c =
    let new : Sieve = record { kept = c.keep_rows.new.kept; seen = c.in_ok-seen.seen; waiting = c.clear.new.self } in
    ready_settled c.args.asked.now c.args.self.now new c.requires c.keep_rows.ensures.columns c.clear.ensures.items

pub returns-clause-found : goal.returns-clause-found
returns-clause-found c =
    let a = c.args.asked.now in
    let new : Sieve = record { kept = c.keep_rows.new.kept; seen = c.in_ok-seen.seen; waiting = c.clear.new.self } in
    let points = c.in_ok-points.ensures.rows ∙ ap (points_of a.gathering) c.deref.ensures.value in
    settled a c.args.self.now new c.in_ok-points.points.rows c.requires.some points c.in_ok-seen.ensures.rows c.in_ok-seen.ensures.seen c.clear.ensures.items
