use Rattle.sql_from.proofs.SeriesNames.{numbers_more}
use Rattle.sql_from.proofs.series_names.numbered_names.Goals as goal

pub loop-name-preserved : goal.loop-name-preserved
loop-name-preserved c = numbers_more c.args.names.now c.loop-name.name-index c.name-item.result c.loop-name.numbers c.put_once.new.names c.loop-name-test.true c.name-item.is c.loop-name.invariant c.in_ok-put_once.ensures
