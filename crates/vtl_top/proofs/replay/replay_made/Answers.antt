use Rattle.vtl_top.proofs.replay.replay_made.Goals as goal
