use Rattle.std.proofs.Common.{◌∙◌, ap, sym}
use Rattle.std.specs.Option.{option_map}
use Rattle.std.proofs.lemmas.Map.Made.{lookup-map_values}
use Rattle.vtl_syntax.specs.View.{statement_tree}
use Rattle.vtl_tree.specs.Structure.{same_name}
use Rattle.check_expressions.proofs.defined.Defined.named.Goals as goal

pub returns : goal.returns
returns c = ap (option_map (λ s. statement_tree s.now)) (c.copied.ensures ∙ c.get.ensures) ∙ sym (lookup-map_values (λ s. statement_tree s.now) (same_name c.args.name.now) c.args.self.now.statements)
