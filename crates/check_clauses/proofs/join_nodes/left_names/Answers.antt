use Rattle.std.proofs.Common.{◌≡◌, ◌∙◌, ap, rules}
use Rattle.std.specs.Prelude.{filter}
use Rattle.std.proofs.lemmas.Fn.{filter_same}
use Rattle.check_clauses.specs.JoinOperands.{is_left}
use Rattle.check_clauses.proofs.join_nodes.left_names.Goals as goal

pub returns : goal.returns
returns c =
    let kept : c.retain.new.self.items ≡ filter (is_left c.args.components.now) c.in_ok-renamings.renamings.items = filter_same _ _ _ (λ x b f' k. search rules) _ _ c.retain.ensures.filtered in
    kept ∙ ap (filter (is_left c.args.components.now)) (search rules)
