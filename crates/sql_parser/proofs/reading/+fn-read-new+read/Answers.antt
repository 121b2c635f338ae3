use Rattle.std.proofs.Common.{◌-◌, sym, arith}
use Rattle.sql_parser_parts.specs.Answers.{kinds}
use Rattle.sql_parser.specs.Depths.{place_of}
use Rattle.sql_parser.proofs.ReadingAt.{read-at, read-nothing}
use Rattle.sql_parser.proofs.reading.+fn-read-new+read.Goals as goal

pub returns-then-budget-eq0 : goal.returns-then-budget-eq0
returns-then-budget-eq0 t c = read-nothing c.args.budget (place_of c.args.place) (kinds c.args.tokens.now) c.if-budget-eq0.true

pub at-requires : goal.at-requires
at-requires t c =
    let budget = c.new-grammar.ensures.budget in
    let read = c.new-grammar.ensures.read in
    let measure = c.decreases in
    record { small = rw budget (omega (arith, c.requires)); callable = λ l ts. rw read (omega (arith, measure, c.if-budget-eq0.false), omega (arith, c.requires)); reads = λ l ts r p. rw budget (rw read at p.1) }

pub returns : goal.returns
returns t c = rw (read-at c.args.budget (c.args.budget - 1) (place_of c.args.place) (kinds c.args.tokens.now) (omega (arith, c.if-budget-eq0.false)), sym c.new-grammar.ensures.budget) c.at.ensures
