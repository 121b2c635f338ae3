use Rattle.vtl_lists.proofs.Perms.{Perm-refl}
use Rattle.vtl_scalar.proofs.members.Run.of.Goals as goal

pub returns : goal.returns
returns c = Perm-refl c.args.members.items
