use Rattle.std.proofs.Common.{◌≡◌, ℕ, length, map, ap, sym, ◌∙◌}
use Rattle.std.proofs.lemmas.List.{length-map}
use Rattle.std.proofs.lemmas.Result.{IfOk-weaker}
use Rattle.vtl_tree.specs.Shown.{shown}
use Rattle.vtl_tree.specs.declared.structure.Structure.{Structure}
use Rattle.sql_tree.specs.Trees.{Text}
use Rattle.joins_to_sql.specs.FilteredJoins.{condition_of, filtered_by}
use Rattle.joins_to_sql.specs.JoinItems.{Aliased, aliased, aliased_around, aliased_of, keyed_query}
use Rattle.selects_to_sql.specs.Queries.{alias_of}
use Rattle.joins_to_sql.proofs.JoinForms.{full_written}
use Rattle.joins_to_sql.proofs.full_joins.full_query.Goals as goal

abbrev operand : (alias table : Text) → Structure → Aliased
operand alias table a = record { alias = alias; table = table; structure = a }

first_is : (alias table x : Text) (a t : Structure) → alias ≡ alias_of 0 → table ≡ x → a ≡ t → operand alias table a ≡ aliased 0 t x
first_is alias table x a t named same keys = ap (λ (z : Text). operand z table a) named ∙ ap (λ (z : Text). operand (alias_of 0) z a) same ∙ ap (operand (alias_of 0) x) keys

pub returns : goal.returns
returns c =
    let bs = c.args.structures.now in
    let s = c.args.s.now in
    let xs = c.args.tables.now in
    let many = length-map bs (λ b. b.now) in
    let alias = c.in_ok-alias.field-0 in
    let table = c.in_ok-share.field-0 in
    let keys = c.args.keys.now in
    let around = aliased_around (length (shown bs)) 0 (shown bs) xs in
    IfOk-weaker c.keyed_query.result _ _
    (λ q e r is. e ∙ ap (filtered_by c.args.writer.now (condition_of c.args.condition))
    (ap (λ l. keyed_query (operand alias table keys) l s) (ap (map aliased_of) c.deref.ensures.value ∙ c.in_ok-operands.ensures ∙ ap (λ (n : ℕ). aliased_around n 0 (shown bs) xs) (sym many))
    ∙ ap (λ (k : Aliased). keyed_query k around s) (first_is alias table c.args.table.now keys _ c.in_ok-alias.ensures c.in_ok-share.ensures is)
    ∙ sym (full_written c.args.writer.now r (shown bs) s xs c.args.table.now (c.requires ∙ sym many)))) c.keyed_query.ensures
