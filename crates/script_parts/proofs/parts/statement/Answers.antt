use Rattle.std.proofs.Common.{◌≡◌, List, map, Ok, ap, ◌∙◌}
use Rattle.vtl_syntax.specs.View.{script_tree, statement_tree}
use Rattle.vtl_syntax.specs.declared.statements.Statement.{Statement}
use Rattle.vtl_check.specs.Checked.{env_over, nodes_of, tree_of}
use Rattle.vtl_check.specs.Script.{script_typed}
use Rattle.vtl_check.specs.Transformations.{transformations}
use Rattle.rerun_laws.specs.Parts.{nodes_at}
use Rattle.script_parts.proofs.Typing.{not-both, part-typing, same-ok}
use Rattle.script_parts.proofs.parts.statement.Goals as goal

pub returns-in-Ok-clause-part : goal.returns-in-Ok-clause-part
returns-in-Ok-clause-part c =
    let t = c.args.script.now in
    let part = c.in_ok-part.part in
    let sets = c.in_ok-structures.structures.sets in
    let checked = c.in-Ok.ensures in
    let typing : script_typed (env_over c.profile.result.now sets) (script_tree part) ≡ Ok (nodes_at c.args.number (transformations (tree_of t)) (nodes_of t)) =
    part-typing t c.args.number c.profile.result.now sets (script_tree part) c.nodes-nodes.ensures.typed c.requires c.profile.ensures c.in_ok-structures.ensures.sets c.in_ok-part.ensures.tree in
    record {
      tree = ap (λ (l : List Statement). map statement_tree l) checked.script ∙ c.in_ok-part.ensures.tree;
      declared = checked.declared ∙ c.in_ok-structures.ensures.sets;
      not_null = checked.lists ∙ c.in_ok-structures.ensures.lists;
      settings = checked.settings ∙ c.profile.ensures;
      nodes = same-ok (nodes_of c.in-Ok.part) (nodes_at c.args.number (transformations (tree_of t)) (nodes_of t)) (script_typed (env_over c.profile.result.now sets) (script_tree part)) checked.typing typing;
    }

-- what is typed as a part of the whole has no fault
pub unreachable-requires : goal.unreachable-requires
unreachable-requires c =
    let t = c.args.script.now in
    let part = c.in_ok-part.part in
    let sets = c.in_ok-structures.structures.sets in
    let typing : script_typed (env_over c.profile.result.now sets) (script_tree part) ≡ Ok (nodes_at c.args.number (transformations (tree_of t)) (nodes_of t)) =
    part-typing t c.args.number c.profile.result.now sets (script_tree part) c.nodes-nodes.ensures.typed c.requires c.profile.ensures c.in_ok-structures.ensures.sets c.in_ok-part.ensures.tree in
    not-both (nodes_at c.args.number (transformations (tree_of t)) (nodes_of t)) (c.in-Err-Mistyped.field-0-0, c.in-Err-Mistyped.field-0-1) (script_typed (env_over c.profile.result.now sets) (script_tree part))
    typing (rw c.in-Err-Mistyped.field-0-is at c.in-Err-Mistyped.ensures.typing)
