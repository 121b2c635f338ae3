use Rattle.std.proofs.Common.{◌∙◌, ap}
use Rattle.vtl_tree.specs.Structures.{is_declarable}
use Rattle.vtl_demo.proofs.Declarable.{left_declarable, right_declarable}
use Rattle.vtl_demo.proofs.structures.structures.Goals as goal

pub put-requires-clause-declarable : goal.put-requires-clause-declarable
put-requires-clause-declarable c = ap is_declarable c.in_ok-left_structure.ensures ∙ left_declarable

pub put-requires-2-clause-declarable : goal.put-requires-2-clause-declarable
put-requires-2-clause-declarable c = ap is_declarable c.in_ok-right_structure.ensures ∙ right_declarable
