use Rattle.std.proofs.Common.{Global, Vec, ℕ, ◌<◌, ap, sym, arith, ◌∙◌}
use Rattle.vtl_tree.specs.View.{comp_exp_of}
use Rattle.vtl_meaning.specs.Joined.{join_of}
use Rattle.vtl_join.specs.Gatherings.{Gathers, points_of, width_of}
use Rattle.vtl_join.specs.Joining.{sets_of}
use Rattle.vtl_join_filter.specs.Sifting.{asked_of, so_far}
use Rattle.vtl_join_filter.specs.declared.sieve.Asked.{Asked}
use Rattle.vtl_join_filter.proofs.Sifts.{answered, answered_table, ready_empty}
use Rattle.vtl_join_filter.proofs.filtering.beside_table.Goals as goal

pub add_each-requires : goal.add_each-requires
add_each-requires c =
    let gathering = c.into_parts-gathering.ensures.gathering in
    let a : Asked = record { gathering = c.into_parts-gathering.result.0; condition = c.in_ok-prepare.field-0; profile = c.args.p } in
    let width = ap width_of gathering ∙ c.in_ok-parts.ensures.width in
    let some : 0 < width_of a.gathering = omega (arith, width) in
    ready_empty a c.in_ok-sieve.sieve some (c.in_ok-sieve.ensures.columns ∙ sym (ap (λ (x : Gathers). x.columns) gathering ∙ c.in_ok-parts.ensures.columns)) c.in_ok-sieve.ensures.empty

pub returns-clause-rows : goal.returns-clause-rows
returns-clause-rows c =
    let gathering = c.into_parts-gathering.ensures.gathering in
    let a : Asked = record { gathering = c.into_parts-gathering.result.0; condition = c.in_ok-prepare.field-0; profile = c.args.p } in
    let width = ap width_of gathering ∙ c.in_ok-parts.ensures.width in
    let some : 0 < width_of a.gathering = omega (arith, width) in
    let points = ap (points_of a.gathering) (c.deref.ensures.value ∙ ap (λ (v : Vec ℕ Global). v.items) c.into_parts-gathering.ensures.tuples) ∙ ap (λ (x : Gathers). points_of x c.in_ok-parts.parts.tuples.items) gathering ∙ c.in_ok-parts.ensures.points in
    answered a c.in_ok-sieve.sieve c.add_each.new.self (comp_exp_of c.args.condition.now) (join_of c.args.kind (sets_of c.args.j.now.operands)) c.in_ok-prepare.ensures some c.in_ok-sieve.ensures.empty
    (c.in_ok-add_each.ensures.found ∙ ap (asked_of a (so_far a c.in_ok-sieve.sieve)) points) c.finish.result c.finish.ensures.rows

pub returns-clause-table : goal.returns-clause-table
returns-clause-table c =
    let gathering = c.into_parts-gathering.ensures.gathering in
    let a : Asked = record { gathering = c.into_parts-gathering.result.0; condition = c.in_ok-prepare.field-0; profile = c.args.p } in
    let width = ap width_of gathering ∙ c.in_ok-parts.ensures.width in
    let some : 0 < width_of a.gathering = omega (arith, width) in
    let points = ap (points_of a.gathering) (c.deref.ensures.value ∙ ap (λ (v : Vec ℕ Global). v.items) c.into_parts-gathering.ensures.tuples) ∙ ap (λ (x : Gathers). points_of x c.in_ok-parts.parts.tuples.items) gathering ∙ c.in_ok-parts.ensures.points in
    answered_table a c.in_ok-sieve.sieve c.add_each.new.self (comp_exp_of c.args.condition.now) (join_of c.args.kind (sets_of c.args.j.now.operands)) c.in_ok-prepare.ensures some c.in_ok-sieve.ensures.empty
    (c.in_ok-add_each.ensures.found ∙ ap (asked_of a (so_far a c.in_ok-sieve.sieve)) points) c.finish.result c.args.made.now c.args.filtered.now c.requires.filtered c.parts_beside.ensures.set (ap (λ (x : Gathers). x.columns) gathering ∙ c.in_ok-parts.ensures.columns) c.finish.ensures.rows c.finish.ensures.columns
