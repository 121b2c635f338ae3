use Rattle.std.proofs.Common.{subst}
use Rattle.vtl_tree.specs.NotNull.{Declared, HaveLists}
use Rattle.vtl_tree.proofs.DeclarationLemmas.{have_lists}
use Rattle.vtl_tree.proofs.structures.Structures.share_lists.Goals as goal

pub returns-clause-fit : goal.returns-clause-fit
returns-clause-fit c = subst (λ (d : Declared). HaveLists d.sets d.not_null) c.self.view_is (have_lists c.self.inside.by_name c.self.invariant)
