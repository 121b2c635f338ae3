use Rattle.std.proofs.Common.{◌≡◌, false, sym, ap, ◌∙◌}
use Rattle.std.specs.List.{list_any}
use Rattle.vtl_tree.specs.NotNull.{Declared, are_not_null}
use Rattle.vtl_tree.specs.Structure.{same_name}
use Rattle.vtl_tree.specs.Structures.{has_name}
use Rattle.vtl_tree.proofs.DeclarationLemmas.{keys_seen, put_leaves}
use Rattle.vtl_tree.proofs.structures.Structures.put_with.Goals as goal

pub put-requires : goal.put-requires
put-requires c =
    ap (list_any (same_name c.args.name)) (sym (keys_seen c.self.inside.by_name)) ∙ ap (λ (d : Declared). has_name c.args.name d.sets) c.self.view_is ∙ c.requires.new_name

pub invariant_of-self : goal.invariant_of-self
invariant_of-self c =
    put_leaves c.self.inside.by_name c.put.new.self c.args.name (record { structure = c.args.structure; not_null = c.of-not_null.result }) c.put.result c.self.invariant
    (ap (λ (d : Declared). has_name c.args.name d.sets) c.self.view_is ∙ c.requires.new_name) c.requires.declarable
    (ap (are_not_null c.args.structure) c.of-not_null.ensures ∙ c.requires.not_null) c.put.ensures.put c.put.ensures.err
