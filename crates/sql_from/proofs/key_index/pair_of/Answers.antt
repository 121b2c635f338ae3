use Rattle.sql_from.proofs.KeyFound.{inner_before, inner_behind}
use Rattle.sql_from.proofs.key_index.pair_of.Goals as goal

pub returns : goal.returns
returns c = record {
  inner = inner_before c.args.own c.args.asked;
  outer = inner_behind c.args.own c.args.asked;
}
