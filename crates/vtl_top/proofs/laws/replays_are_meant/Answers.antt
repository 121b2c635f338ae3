use Rattle.vtl_top.proofs.ReplayMeantLemmas.{replay_always, replay_only}
use Rattle.vtl_top.proofs.laws.replays_are_meant.Goals as goal

pub returns : goal.returns
returns c = record { only = replay_only; always = replay_always }
