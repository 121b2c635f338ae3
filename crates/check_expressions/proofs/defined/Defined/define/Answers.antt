use Rattle.std.proofs.Common.{◌∙◌, ap, sym}
use Rattle.std.specs.List.{list_any}
use Rattle.std.specs.Map.{keys_of}
use Rattle.std.proofs.lemmas.Map.Made.{keys_of-map_values}
use Rattle.vtl_syntax.specs.View.{statement_tree}
use Rattle.vtl_tree.specs.Structure.{same_name}
use Rattle.check_expressions.proofs.defined.Defined.define.Goals as goal

pub put-requires : goal.put-requires
put-requires c = ap (λ n. list_any (same_name n) (keys_of c.args.self.now.statements)) c.in_ok-share.ensures ∙ ap (list_any (same_name c.args.name.now)) (sym (keys_of-map_values (λ s. statement_tree s.now) c.args.self.now.statements)) ∙ c.requires
