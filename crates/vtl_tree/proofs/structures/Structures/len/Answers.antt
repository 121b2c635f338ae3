use Rattle.std.proofs.Common.{subst}
use Rattle.vtl_tree.specs.NotNull.{Declared}
use Rattle.vtl_tree.specs.Structures.{AreStructures}
use Rattle.vtl_tree.proofs.DeclarationLemmas.{sets_are}
use Rattle.vtl_tree.proofs.structures.Structures.len.Goals as goal

pub returns-clause-structures : goal.returns-clause-structures
returns-clause-structures c = subst (λ (d : Declared). AreStructures d.sets) c.self.view_is (sets_are c.self.inside.by_name c.self.invariant)
