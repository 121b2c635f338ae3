use Rattle.std.proofs.Common.{◌≡◌, ℕ, Some, length, map, min, option_map, take, sym, ap, ◌∙◌, arith}
use Rattle.std.proofs.lemmas.List.{length-map}
use Rattle.vtl_decimal.specs.Settings.{Settings}
use Rattle.vtl_tree.specs.Structure.{columns_of}
use Rattle.vtl_tree.specs.View.{comp_exp_of}
use Rattle.expressions_to_sql.specs.Aliases.{column_at}
use Rattle.expressions_to_sql.specs.ToSql.{to_sql}
use Rattle.selects_to_sql.specs.Queries.{items_as}
use Rattle.joins_to_sql.specs.FilteredJoins.{condition_of, shown_by, shown_column}
use Rattle.joins_to_sql.specs.JoinItems.{column_picked, picked_column}
use Rattle.joins_to_sql.proofs.FilteredForms.{picked_shown}
use Rattle.joins_to_sql.proofs.join_items.condition_over.Goals as goal

pub returns : goal.returns
returns c =
    let p = c.args.writer.now in
    let ps = c.args.picked.now in
    let ys = columns_of c.args.s.now in
    let names = c.in_ok-names.names.items in
    let e = comp_exp_of c.in-Some.condition.now in
    let at = shown_by (items_as (map picked_column ps) ys) in
    let wide : length names ≡ length ys = sym (length-map names (λ b. b.now)) ∙ ap length c.in_ok-names.ensures in
    let counted : c.len.result ≡ length ys = omega (arith, c.len.ensures, c.in_ok-names.names.ok, wide) in
    let many : c.min-many.result ≡ min (length ps) (length ys) = c.min-many.ensures ∙ ap (min (length ps)) counted in
    let columns : c.deref.result.now ≡ map shown_column (items_as (map picked_column ps) ys) = c.deref.ensures.value ∙ c.in_ok-columns.ensures ∙ ap (λ (n : ℕ). map column_picked (take n ps)) many ∙ sym (picked_shown ps ys) in
    ap Some (c.in_ok-comp_to_sql.ensures.exp ∙ ap (λ (q : Settings). to_sql q (column_at c.deref.result.now) e) c.profile.ensures ∙ ap (λ l. to_sql p (column_at l) e) columns)
    ∙ sym (ap (λ o. option_map (to_sql p at) (condition_of o)) c.in-Some.is)
