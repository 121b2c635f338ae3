use Rattle.std.proofs.lemmas.Bool.{and_parts}
use Rattle.vtl_tree.specs.Declarations.{is_declaration}
use Rattle.vtl_tree.specs.NotNull.{are_not_null}
use Rattle.vtl_tree.specs.Structures.{is_declarable}
use Rattle.vtl_tree.proofs.StructuresLemmas.{all_at}
use Rattle.vtl_tree.proofs.structures.Structures.at.Goals as goal

pub returns-clause-declarable : goal.returns-clause-declarable
returns-clause-declarable c =
    let d = c.at.result.1.now in
    (and_parts (is_declarable d.structure) (are_not_null d.structure d.not_null) (all_at is_declaration c.self.inside.by_name c.args.i (c.at.result.0.now, d) c.self.invariant.all c.at.ensures)).0
