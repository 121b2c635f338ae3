use Rattle.std.proofs.Common.{◌≡◌, refl, subst}
use Rattle.std.specs.Prelude.{OnOk}
use Rattle.vtl_join_filter.specs.Sifting.{Sifted, so_far}
use Rattle.vtl_join_filter.specs.declared.sieve.Sieve.{Sieve}
use Rattle.vtl_join_filter.proofs.Sifts.{added, ready_more}
use Rattle.vtl_join_filter.proofs.sieve.Sieve.add.Goals as goal

pub settle-requires : goal.settle-requires
settle-requires c =
    let old = c.args.self.now in
    let now : Sieve = record { kept = old.kept; seen = old.seen; waiting = c.extend_from_slice.new.self } in
    ready_more c.args.asked.now old now c.args.tuple.now c.requires.ready c.requires.wide refl c.in_ok-extend_from_slice.ensures.items

pub returns-clause-found : goal.returns-clause-found
returns-clause-found c =
    let a = c.args.asked.now in
    let old = c.args.self.now in
    let now : Sieve = record { kept = old.kept; seen = old.seen; waiting = c.extend_from_slice.new.self } in
    subst (λ (s : Sifted). OnOk c.settle.result (so_far a c.settle.new.self ≡ s))
    (added a old now c.args.tuple.now c.requires.ready c.requires.wide refl refl c.in_ok-extend_from_slice.ensures.items) c.settle.ensures.found

pub returns-then-len-saturating_mul-clause-found : goal.returns-then-len-saturating_mul-clause-found
returns-then-len-saturating_mul-clause-found c =
    let old = c.args.self.now in
    let now : Sieve = record { kept = old.kept; seen = old.seen; waiting = c.extend_from_slice.new.self } in
    added c.args.asked.now old now c.args.tuple.now c.requires.ready c.requires.wide refl refl c.in_ok-extend_from_slice.ensures.items
