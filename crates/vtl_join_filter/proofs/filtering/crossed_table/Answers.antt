use Rattle.std.proofs.Common.{ℕ, ◌+◌, ◌<◌, ◌∷◌, [], List, length, map, ap, sym, arith, ◌∙◌}
use Rattle.std.proofs.lemmas.List.{length-map}
use Rattle.vtl_syntax.specs.declared.word_groups.JoinKind.TheVariants as join
use Rattle.vtl_tree.specs.Environment.{DataSet}
use Rattle.vtl_tree.specs.View.{comp_exp_of}
use Rattle.vtl_meaning.specs.Joined.{join_of}
use Rattle.vtl_join.specs.Crossing.{tuples_behind}
use Rattle.vtl_join.specs.Gatherings.{point_of, width_of}
use Rattle.vtl_join.specs.Joining.{sets_of}
use Rattle.vtl_join.specs.declared.joined.Operand.{Operand}
use Rattle.vtl_join_filter.specs.Sifting.{asked_of, so_far}
use Rattle.vtl_join_filter.specs.declared.sieve.Asked.{Asked}
use Rattle.vtl_join_filter.proofs.Sifts.{answered, answered_table, ready_empty}
use Rattle.vtl_join_filter.proofs.filtering.crossed_table.Goals as goal

pub add_all-requires-clause-ready : goal.add_all-requires-clause-ready
add_all-requires-clause-ready c =
    let a : Asked = record { gathering = c.in_ok-product.field-0; condition = c.in_ok-prepare.field-0; profile = c.args.p } in
    let some : 0 < width_of a.gathering = omega (arith, c.in_ok-product.ensures.width) in
    ready_empty a c.in_ok-sieve.sieve some (c.in_ok-sieve.ensures.columns ∙ sym c.in_ok-product.ensures.columns) c.in_ok-sieve.ensures.empty

pub add_all-requires-clause-wide : goal.add_all-requires-clause-wide
add_all-requires-clause-wide c =
    let os = c.args.j.now.operands in
    ap (λ (ns : List ℕ). length ns + 1) (c.deref-2.ensures.value ∙ c.in_ok-counts.ensures)
    ∙ ap (λ n. n + 1) (length-map (sets_of os) (λ (d : DataSet). length d.points) ∙ length-map os (λ (o : Operand). o.set))
    ∙ sym c.in_ok-product.ensures.width

pub returns-clause-rows : goal.returns-clause-rows
returns-clause-rows c =
    let a : Asked = record { gathering = c.in_ok-product.field-0; condition = c.in_ok-prepare.field-0; profile = c.args.p } in
    let some : 0 < width_of a.gathering = omega (arith, c.in_ok-product.ensures.width) in
    let points = ap (λ (ns : List ℕ). map (point_of a.gathering) (tuples_behind (0 ∷ []) ns)) (c.deref-2.ensures.value ∙ c.in_ok-counts.ensures) ∙ c.in_ok-product.ensures.points in
    answered a c.in_ok-sieve.sieve c.add_all.new.sieve (comp_exp_of c.args.condition.now) (join_of join.Cross (sets_of c.args.j.now.operands)) c.in_ok-prepare.ensures some c.in_ok-sieve.ensures.empty
    (c.in_ok-add_all.ensures.found ∙ ap (asked_of a (so_far a c.in_ok-sieve.sieve)) points) c.finish.result c.finish.ensures.rows

pub returns-clause-table : goal.returns-clause-table
returns-clause-table c =
    let a : Asked = record { gathering = c.in_ok-product.field-0; condition = c.in_ok-prepare.field-0; profile = c.args.p } in
    let some : 0 < width_of a.gathering = omega (arith, c.in_ok-product.ensures.width) in
    let points = ap (λ (ns : List ℕ). map (point_of a.gathering) (tuples_behind (0 ∷ []) ns)) (c.deref-2.ensures.value ∙ c.in_ok-counts.ensures) ∙ c.in_ok-product.ensures.points in
    answered_table a c.in_ok-sieve.sieve c.add_all.new.sieve (comp_exp_of c.args.condition.now) (join_of join.Cross (sets_of c.args.j.now.operands)) c.in_ok-prepare.ensures some c.in_ok-sieve.ensures.empty
    (c.in_ok-add_all.ensures.found ∙ ap (asked_of a (so_far a c.in_ok-sieve.sieve)) points) c.finish.result c.args.made.now c.args.filtered.now c.requires.filtered c.product.ensures.set c.in_ok-product.ensures.columns c.finish.ensures.rows c.finish.ensures.columns
