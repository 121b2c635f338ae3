use Rattle.std.specs.List.{AllByRecursion}
use Rattle.sql_from.specs.Partners.{Answers}
use Rattle.sql_from.proofs.partners.+indexed.Given as goal

abbrev pub invariant-loop-arg : goal.invariant-loop-arg
invariant-loop-arg g l = AllByRecursion (Answers l.sources) l.indexes.items

abbrev pub invariant-loop-branch : goal.invariant-loop-branch
invariant-loop-branch g l = AllByRecursion (Answers l.sources) l.indexes.items
