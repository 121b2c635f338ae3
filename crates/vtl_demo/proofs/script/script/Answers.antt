use Rattle.std.proofs.Common.{◌∙◌, ap, map}
use Rattle.vtl_syntax.specs.View.{script_tree, statement_tree}
use Rattle.vtl_check.specs.Checked.{env_over, nodes_of}
use Rattle.vtl_check.specs.Script.{script_typed}
use Rattle.vtl_demo.proofs.Accepted.{accepted, never-mistyped, typed_so}
use Rattle.vtl_demo.proofs.script.script.Goals as goal

pub returns-in-Ok : goal.returns-in-Ok
returns-in-Ok c =
    let p = c.profile.result in
    let s = c.in_ok-structures.structures.sets in
    let t = script_tree c.in_ok-script.script in
    record {
      spells = ap (map statement_tree) c.in-Ok.ensures.script ∙ c.in_ok-script.ensures.tree;
      over = c.in-Ok.ensures.declared ∙ c.in_ok-structures.ensures.sets;
      lists = c.in-Ok.ensures.lists ∙ c.in_ok-structures.ensures.lists;
      by = c.in-Ok.ensures.settings ∙ c.profile.ensures;
      gives = typed_so (script_typed (env_over p s) t) (nodes_of c.in-Ok.checked) (accepted p s t c.profile.ensures c.in_ok-structures.ensures.sets c.in_ok-script.ensures.tree) c.in-Ok.ensures.typing;
    }

pub unreachable-requires : goal.unreachable-requires
unreachable-requires c =
    let p = c.profile.result in
    let s = c.in_ok-structures.structures.sets in
    let t = script_tree c.in_ok-script.script in
    never-mistyped (script_typed (env_over p s) t) c.in-Err-Mistyped.field-0 _ _ (accepted p s t c.profile.ensures c.in_ok-structures.ensures.sets c.in_ok-script.ensures.tree) c.in-Err-Mistyped.field-0-is c.in-Err-Mistyped.ensures.typing
