use Rattle.sql_engine.specs.LastReads.{is_read_from}
use Rattle.sql_engine.proofs.LettingGo.{none_let_go}
use Rattle.sql_engine.proofs.letting_go.let_go_made.Goals as goal

pub returns-in-Export : goal.returns-in-Export
returns-in-Export c = none_let_go (is_read_from c.args.place c.args.last.now) c.args.tables.now
