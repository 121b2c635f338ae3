use Rattle.std.proofs.Common.{◌≡◌, ap, length, subst}
use Rattle.std.specs.List.{AllByRecursion}
use Rattle.sql_from.proofs.Flats.{all_wide}
use Rattle.sql_from.proofs.tuples.Tuples.numbers.Goals as goal

pub returns-clause-wide : goal.returns-clause-wide
returns-clause-wide c =
    subst (λ n. AllByRecursion (λ x. length x ≡ n) c.args.self.now.tuples) (ap (λ t. t.width) c.self.view_is)
    (all_wide c.self.inside.width c.self.inside.count c.self.inside.numbers.items c.args.self.now.tuples c.self.invariant (ap (λ t. t.tuples) c.self.view_is))
