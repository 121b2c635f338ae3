use Rattle.std.proofs.Common.{◌≡◌, ◌+◌, ◌++◌, suc, [], ◌∷◌, List, sym, ap, ◌∙◌, arith}
use Rattle.sql_tree.specs.Trees.{Text}
use Rattle.selects_to_sql.specs.Queries.{alias_of}
use Rattle.hierarchies_to_sql.specs.RuleItems.{aliases_from}
use Rattle.hierarchies_to_sql.proofs.Beside.{aliases_more}
use Rattle.hierarchies_to_sql.proofs.rule_selects.aliases.Goals as goal

pub loop-i-preserved : goal.loop-i-preserved
loop-i-preserved c =
    let i = c.loop-i.i in
    let same : i + 1 ≡ 1 + i = omega arith in
    let next : suc i ≡ i + 1 = omega arith in
    c.in_ok-push.ensures.items
    ∙ ap (λ (l : List Text). l ++ c.in_ok-alias.field-0 ∷ []) c.loop-i.invariant
    ∙ ap (λ (t : Text). aliases_from 1 i ++ t ∷ []) (c.in_ok-alias.ensures ∙ ap alias_of same)
    ∙ sym (aliases_more i 1)
    ∙ ap (aliases_from 1) next
