use Rattle.vtl_csv.proofs.TableTextLemmas.{keys_behind}
use Rattle.vtl_csv.proofs.table_text.keys_of.Goals as goal

pub returns : goal.returns
returns c = keys_behind _ _ _ _ _ c.new-keys.ensures.items c.in_ok-push_listed.ensures c.in_ok-push_first.ensures
