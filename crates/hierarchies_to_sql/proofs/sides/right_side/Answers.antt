use Rattle.std.proofs.Common.{◌-◌, ◌∷◌, List, ap, drop, length, map, take, ◌∙◌}
use Rattle.std.proofs.lemmas.Result.{IfOk-weaker}
use Rattle.vtl_syntax.specs.declared.parts.SignedComp.{SignedComp}
use Rattle.sql_tree.specs.Trees.{Exp, Text}
use Rattle.hierarchies_to_sql.specs.RuleItems.{leaf_of}
use Rattle.hierarchies_to_sql.specs.SideItems.{counted_as, first_as, next_as, sum_as}
use Rattle.hierarchies_to_sql.proofs.NextSides.{each_of, parted}
use Rattle.hierarchies_to_sql.proofs.sides.right_side.Goals as goal

pub returns-in_ok-total-in-len1-up : goal.returns-in_ok-total-in-len1-up
returns-in_ok-total-in-len1-up c =
    let rule = c.args.rule.now in
    let ys = c.args.aliases.now in
    let first = c.first-item.result in
    let rest = take (length ys - 1) (drop 1 ys) in
    let leaf = leaf_of c.args.measured.now in
    let counted = counted_as c.args.writer.now c.args.mode c.args.measured.now.kind in
    let f = λ (alias : Text). counted (leaf alias) in
    IfOk-weaker c.with_next.result _ _
    (λ e h.
    h
    ∙ ap (λ (t : Exp). next_as t c.as_slice-signed.result.now (map f rest)) (c.in_ok-total-in-len1-up.ensures ∙ ap (first_as rule.sign) c.in_ok-value-in-len1-up.ensures)
    ∙ ap (λ (l : List SignedComp). next_as (first_as rule.sign (f first)) l (map f rest)) c.as_slice-signed.ensures
    ∙ ap (λ (l : List Text). sum_as rule (map f l)) (parted ys first c.in-len1-up.len_at_least c.first-item.is)
    ∙ ap (sum_as rule) (each_of counted leaf ys)) c.with_next.ensures
