use Rattle.sql_print.proofs.GapLaws.{clause-fits, item-fits, space-fits, statement-fits}
use Rattle.sql_print.proofs.layout.gap_behind.Goals as goal

pub returns-then-is_word : goal.returns-then-is_word
returns-then-is_word c = statement-fits c.args.done.now c.args.kind.now

pub returns-then-starts_clause : goal.returns-then-starts_clause
returns-then-starts_clause c = clause-fits c.args.done.now c.args.kind.now

pub returns-then-not-has_room : goal.returns-then-not-has_room
returns-then-not-has_room c = item-fits c.args.done.now c.args.kind.now

pub returns : goal.returns
returns c = space-fits c.args.done.now c.args.kind.now
