use Rattle.check_laws.proofs.NamesRead.{data_set_same}
use Rattle.rerun_laws.proofs.laws.what_is_read_suffices.Goals as goal

pub returns : goal.returns
returns c = data_set_same
