use Rattle.std.proofs.Common.{◌≡◌, ◌∷◌, ◌∙◌, ap, map, arith}
use Rattle.std.proofs.lemmas.Result.{IfOk-weaker}
use Rattle.vtl_rows.specs.Tables.{Tabled}
use Rattle.vtl_tree.specs.Shown.{shown}
use Rattle.vtl_sets.proofs.TableLemmas.{made_is_table}
use Rattle.vtl_meaning.specs.Joined.{structures_of}
use Rattle.vtl_meaning.specs.Sets.{intersection_of}
use Rattle.vtl_meaning.proofs.SetsKept.{combined_is, intersection_kept}
use Rattle.vtl_combine.specs.Operands.{left_at}
use Rattle.vtl_combine.proofs.OperandLemmas.{all_are_sets, chosen_by_all, has_columns}
use Rattle.vtl_combine.proofs.intersections.intersection_table.Goals as goal

pub chosen_rows-requires : goal.chosen_rows-requires
chosen_rows-requires c =
    let a = c.args.operand.now.structure in
    has_columns c.args.made.now a (combined_is a (structures_of (shown c.args.others.now)) c.args.made.now c.requires) c.requires.operands.0

pub returns-clause-rows : goal.returns-clause-rows
returns-clause-rows c =
    let d = c.args.operand.now in
    let s = c.args.made.now in
    let others = c.args.others.now in
    IfOk-weaker c.chosen_rows.result (λ (t : Tabled). t.rows ≡ map (left_at d s) c.deref.result.now) (λ (t : Tabled). t.rows ≡ intersection_of (d ∷ shown others) s)
    (λ t e. e ∙ ap (map (left_at d s)) (c.deref.ensures.value ∙ c.in_ok-rows.ensures) ∙ chosen_by_all d (shown others) s) c.chosen_rows.ensures.rows

pub returns-clause-table : goal.returns-clause-table
returns-clause-table c =
    let d = c.args.operand.now in
    let s = c.args.made.now in
    let others = c.args.others.now in
    made_is_table s c.chosen_rows.result (intersection_of (d ∷ shown others) s) c.chosen_rows.ensures.columns (returns-clause-rows c)
    (intersection_kept (d ∷ shown others) s c.requires (c.are_data_sets.ensures 0 c.args.operand (omega arith), all_are_sets others c.are_data_sets-2.ensures))
