use Rattle.sql_engine.specs.Held.{MayLetGo}
use Rattle.sql_engine.specs.LastReads.{is_read_from}
use Rattle.sql_engine.proofs.LettingGo.{let_go_both}
use Rattle.sql_engine.proofs.Noting.{on_ok}
use Rattle.sql_engine.proofs.letting_go.let_go_behind.Goals as goal

pub returns : goal.returns
returns c =
    let is_kept = is_read_from c.args.place c.args.last.now in
    let first = c.let_go_made.new.tables in
    let now = c.let_go_each.new.tables in
    on_ok c.let_go_each.result (MayLetGo is_kept first now) (MayLetGo is_kept c.args.tables.now now)
    (let_go_both is_kept c.args.tables.now first now c.in_ok-let_go_made.ensures) c.let_go_each.ensures
