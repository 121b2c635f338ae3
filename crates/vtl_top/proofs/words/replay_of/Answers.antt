use Rattle.vtl_top.proofs.WordLemmas.{too_few_for_replay}
use Rattle.vtl_top.proofs.words.replay_of.Goals as goal

pub returns-in_default : goal.returns-in_default
returns-in_default c = too_few_for_replay _ c.args.words.now c.in_default.len_below
