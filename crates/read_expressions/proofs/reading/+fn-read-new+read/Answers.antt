use Rattle.std.proofs.Common.{◌-◌, sym, arith}
use Rattle.vtl_grammar.specs.Faults.{kinds}
use Rattle.read_expressions.proofs.ReadLemmas.{read-nothing, read-at}
use Rattle.read_expressions.proofs.reading.+fn-read-new+read.Goals as goal

pub returns-then-budget-eq0 : goal.returns-then-budget-eq0
returns-then-budget-eq0 t c = read-nothing c.args.budget c.args.level (kinds c.args.tokens.now) c.if-budget-eq0.true

pub level-requires : goal.level-requires
level-requires t c =
    let budget = c.new-grammar.ensures.budget in
    let read = c.new-grammar.ensures.read in
    let measure = c.decreases in
    record { callable = λ l ts. rw read (omega (arith, measure, c.if-budget-eq0.false), tt); reads = λ l ts r p. rw budget (rw read at p.1) }

pub returns : goal.returns
returns t c = rw (read-at c.args.budget (c.args.budget - 1) c.args.level (kinds c.args.tokens.now) (omega (arith, c.if-budget-eq0.false)), sym c.new-grammar.ensures.budget) c.level.ensures
