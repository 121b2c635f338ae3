use Rattle.std.proofs.Common.{◌≡◌, ◌∙◌, ◌++◌, ◌∷◌, [], ap, arith, sym}
use Rattle.vtl_rows.specs.Gathered.{pieces}
use Rattle.sql_from.specs.Joins.{numbers_to}
use Rattle.sql_from.proofs.Flats.{alone_flat, each_alone}
use Rattle.sql_from.proofs.Walks.{one_number}
use Rattle.sql_from.proofs.tuples.Tuples.singles.Goals as goal

pub loop-number-preserved : goal.loop-number-preserved
loop-number-preserved c =
    let n = c.loop-number.number in
    c.in_ok-push.ensures.items ∙ ap (λ l. l ++ n ∷ []) c.loop-number.invariant ∙ sym (one_number n)

pub invariant_of-result : goal.invariant_of-result
invariant_of-result c =
    let n : c.loop-number.number ≡ c.args.count = omega (arith, c.loop-number-test.false, c.loop-number.auto) in
    alone_flat c.args.count c.loop-number.numbers.items (c.loop-number.invariant ∙ ap numbers_to n)

pub returns-clause-tuples : goal.returns-clause-tuples
returns-clause-tuples c =
    let n : c.loop-number.number ≡ c.args.count = omega (arith, c.loop-number-test.false, c.loop-number.auto) in
    ap (pieces 1) (c.loop-number.invariant ∙ ap numbers_to n) ∙ each_alone (numbers_to c.args.count)
