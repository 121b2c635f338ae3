use Rattle.sql_engine.specs.LastReads.{is_read_from}
use Rattle.sql_engine.proofs.LettingGo.{let_go_both, none_let_go}
use Rattle.sql_engine.proofs.letting_go.let_go_each.Goals as goal

pub loop-name-init : goal.loop-name-init
loop-name-init c = none_let_go (is_read_from c.args.place c.args.last.now) c.args.tables.now

pub loop-name-preserved : goal.loop-name-preserved
loop-name-preserved c =
    let_go_both (is_read_from c.args.place c.args.last.now) c.args.tables.now c.loop-name.tables c.let_go_of.new.tables c.loop-name.invariant c.in_ok-let_go_of.ensures
