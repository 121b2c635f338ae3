use Rattle.vtl_top.proofs.edits.read_edited.Goals as goal
