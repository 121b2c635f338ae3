-- Rules are numbered one by one.
use Rattle.std.proofs.Common.{◌≡◌, ℕ, zero, suc, ◌+◌, ◌<◌, List, [], ◌∷◌, ◌++◌, length, map, get_or, take, sym, ap, ◌∙◌, arith}
use Rattle.std.proofs.lemmas.List.{map-append}
use Rattle.vtl_decimal.specs.Settings.{Settings}
use Rattle.vtl_syntax.specs.declared.word_groups.CheckOut.{CheckOut}
use Rattle.vtl_tree.specs.NodeView.{point_rule_tree}
use Rattle.vtl_tree.specs.declared.rules.DatapointRule.{DatapointRule}
use Rattle.vtl_tree.specs.declared.structure.Component.{Component}
use Rattle.vtl_tree.specs.Checks.{rule_id, with_ids}
use Rattle.vtl_rulings.specs.PointChecks.{PointRule}
use Rattle.sql_tree.specs.Trees.{Text}
use Rattle.rules_to_sql.specs.Items.{ruled_select_as, ruled_selects_as}

abbrev numbered : ℕ → List DatapointRule → List PointRule
numbered n rules = with_ids (λ r. r.name) n (map point_rule_tree rules)

abbrev with_number : ℕ → DatapointRule → PointRule
with_number n rule = (rule_id n rule.name, point_rule_tree rule)

one_more : (n : ℕ) (rules : List DatapointRule) (i : ℕ) (rule : DatapointRule) → i < length rules → rule ≡ get_or rules i rule → numbered n (take (suc i) rules) ≡ numbered n (take i rules) ++ with_number (n + i) rule ∷ []
one_more n [] i rule h at = absurd (omega (arith, h))
one_more n (r ∷ rules) zero rule h at =
    let number : n ≡ n + zero = omega arith in
    ap (λ z. with_number n z ∷ []) (sym at) ∙ ap (λ m. with_number m rule ∷ []) number
one_more n (r ∷ rules) (suc i) rule h at =
    let number : suc n + i ≡ n + suc i = omega arith in
    ap (λ l. with_number n r ∷ l) (one_more (suc n) rules i rule (omega (arith, h)) at)
    ∙ ap (λ m. (with_number n r ∷ numbered (suc n) (take i rules)) ++ with_number m rule ∷ []) number

pub selects_more : (p : Settings) (o : CheckOut) (ids ms ys : List Component) (table : Text) (rules : List DatapointRule) (i : ℕ) (rule : DatapointRule) → i < length rules → rule ≡ get_or rules i rule
    → ruled_selects_as p o ids ms ys table 1 (map point_rule_tree (take (i + 1) rules)) ≡ ruled_selects_as p o ids ms ys table 1 (map point_rule_tree (take i rules)) ++ ruled_select_as p o ids ms ys table (with_number (i + 1) rule) ∷ []
selects_more p o ids ms ys table rules i rule h at =
    let next : i + 1 ≡ suc i = omega arith in
    let number : 1 + i ≡ i + 1 = omega arith in
    let f = ruled_select_as p o ids ms ys table in
    ap (λ n. map f (numbered 1 (take n rules))) next
    ∙ ap (map f) (one_more 1 rules i rule h at)
    ∙ map-append f (numbered 1 (take i rules)) (with_number (1 + i) rule ∷ [])
    ∙ ap (λ n. map f (numbered 1 (take i rules)) ++ f (with_number n rule) ∷ []) number
