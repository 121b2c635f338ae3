use Rattle.std.proofs.Common.{◌≡◌, ◌≤◌, ◌++◌, ◌∷◌, [], ◌∙◌, length, ap, sym, subst}
use Rattle.std.specs.List.{AllByRecursion}
use Rattle.std.proofs.lemmas.Result.{IfOk-weaker}
use Rattle.vtl_cell.specs.Row.{Row, same_key}
use Rattle.vtl_rows.specs.Tables.{Tabled, column_kinds}
use Rattle.vtl_tree.specs.Structure.{key_width}
use Rattle.vtl_tuples.specs.Keys.{each_once}
use Rattle.vtl_sets.specs.TableOf.{table_columns}
use Rattle.vtl_meaning.specs.Operators.{left_of}
use Rattle.vtl_meaning.specs.Sets.{united}
use Rattle.vtl_rules.proofs.HierarchyLemmas.{all_wide, united_is}
use Rattle.vtl_rules.proofs.hierarchies.with_others.Goals as goal

pub append-requires : goal.append-requires
append-requires c = ap column_kinds (c.in_ok-operand_rows.ensures.columns ∙ sym c.requires.computed.columns)

pub once_by_key-requires : goal.once_by_key-requires
once_by_key-requires c =
    let s = c.args.made.now in
    let a = c.args.a.now in
    let all = c.append.new.self.rows in
    subst (λ n. AllByRecursion (λ (r : Row). n ≤ length r) all) (sym c.key_width.ensures)
    (all_wide s a c.args.computed.rows all c.requires.computed.points (c.in_ok-append.ensures.rows ∙ ap (λ l. c.args.computed.rows ++ l) c.in_ok-operand_rows.ensures.rows))

pub returns-clause-rows : goal.returns-clause-rows
returns-clause-rows c =
    let s = c.args.made.now in
    let a = c.args.a.now in
    let all = c.append.new.self.rows in
    IfOk-weaker c.once_by_key.result (λ (t : Tabled). t.rows ≡ each_once (same_key c.key_width.result) all) (λ (t : Tabled). t.rows ≡ united (key_width s) (c.args.computed.rows ∷ left_of a s ∷ []))
    (λ t e. e ∙ ap (λ n. each_once (same_key n) all) c.key_width.ensures ∙ united_is (key_width s) c.args.computed.rows (left_of a s) all (c.in_ok-append.ensures.rows ∙ ap (λ l. c.args.computed.rows ++ l) c.in_ok-operand_rows.ensures.rows)) c.once_by_key.ensures.rows

pub returns-clause-columns : goal.returns-clause-columns
returns-clause-columns c =
    let s = c.args.made.now in
    IfOk-weaker c.once_by_key.result (λ (t : Tabled). t.columns ≡ c.append.new.self.columns) (λ (t : Tabled). t.columns ≡ table_columns s) (λ t e. e ∙ c.append.ensures.columns ∙ c.requires.computed.columns) c.once_by_key.ensures.columns
