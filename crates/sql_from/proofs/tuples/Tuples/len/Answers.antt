use Rattle.std.proofs.Common.{ap, arith}
use Rattle.sql_from.proofs.Flats.{tuples_counted, tuples_few}
use Rattle.sql_from.proofs.tuples.Tuples.len.Goals as goal

pub returns-clause-tuples : goal.returns-clause-tuples
returns-clause-tuples c = tuples_counted c.self.inside.width c.self.inside.count c.self.inside.numbers.items c.args.self.now.tuples c.self.invariant (ap (λ t. t.tuples) c.self.view_is)

pub returns-clause-few : goal.returns-clause-few
returns-clause-few c =
    let n = tuples_few c.self.inside.width c.self.inside.count c.self.inside.numbers.items c.args.self.now.tuples c.self.invariant (ap (λ t. t.tuples) c.self.view_is) in
    omega (arith, n, c.self.inside.numbers.ok, c.self.inside.numbers.small)
