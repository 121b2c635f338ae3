use Rattle.sql_check.specs.Answers.{given_view}
use Rattle.sql_check.proofs.Settled.{input_may, input_step}
use Rattle.sql_check.proofs.statements.input.Goals as goal

pub settle-requires : goal.settle-requires
settle-requires c = input_may c.args.given.now.tables c.args.input.now c.in_ok-columns.columns c.in_ok-fault.fault c.in_ok-columns.ensures c.in_ok-fault.ensures

pub returns : goal.returns
returns c =
    input_step c.args.profile.now (given_view c.args.given.now) (given_view c.settle.new.given) c.args.input.now c.in_ok-columns.columns c.in_ok-fault.fault c.settle.result c.in_ok-columns.ensures c.in_ok-fault.ensures c.settle.ensures
