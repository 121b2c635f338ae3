use Rattle.std.proofs.Common.{◌≡◌, Option, option_map, sym, ap, ◌∙◌}
use Rattle.std.specs.Map.{lookup}
use Rattle.vtl_tree.specs.NotNull.{Declared}
use Rattle.vtl_tree.specs.Structure.{same_name}
use Rattle.vtl_tree.specs.declared.structures.Declaration.{Declaration}
use Rattle.vtl_tree.proofs.DeclarationLemmas.{declaration_found, lookup_seen}
use Rattle.vtl_tree.proofs.structures.Structures.get.Goals as goal

pub returns-in-Some-clause-found : goal.returns-in-Some-clause-found
returns-in-Some-clause-found c =
    ap (option_map (λ (d : Declaration). d.structure)) c.in-Some.ensures ∙ sym (lookup_seen (same_name c.args.name.now) c.self.inside.by_name)
    ∙ ap (λ (d : Declared). lookup (same_name c.args.name.now) d.sets) c.self.view_is

pub returns-in-Some-clause-declarable : goal.returns-in-Some-clause-declarable
returns-in-Some-clause-declarable c = (declaration_found (same_name c.args.name.now) c.self.inside.by_name c.in-Some.declaration.now c.self.invariant.all (sym c.in-Some.ensures)).0

pub returns-in-None-clause-found : goal.returns-in-None-clause-found
returns-in-None-clause-found c =
    ap (option_map (λ (d : Declaration). d.structure)) c.in-None.ensures ∙ sym (lookup_seen (same_name c.args.name.now) c.self.inside.by_name)
    ∙ ap (λ (d : Declared). lookup (same_name c.args.name.now) d.sets) c.self.view_is
