use Rattle.std.proofs.Common.{◌∙◌, Some, cond, ap}
use Rattle.std.specs.Map.{lookup}
use Rattle.vtl_tree.specs.Structure.{same_name}
use Rattle.vtl_interp.proofs.PlacesRead.{held_in_front}
use Rattle.vtl_interp.proofs.statements.hold.Goals as goal

pub returns : goal.returns
returns c =
    held_in_front c.args.known.now.entries c.insert.new.self.entries c.args.name.now c.args.made
    (λ q. c.in_ok-insert.ensures.updates.0 q ∙ ap (λ n. cond (same_name n q) (Some c.args.made) (lookup (same_name q) c.args.known.now.entries)) c.in_ok-share.ensures)
