use Rattle.std.proofs.Common.{◌∷◌, [], arith}
use Rattle.vtl_sets.proofs.TableLemmas.{made_is_table}
use Rattle.vtl_meaning.specs.Sets.{difference_of}
use Rattle.vtl_meaning.proofs.SetsKept.{combined_is, difference_kept}
use Rattle.vtl_combine.proofs.OperandLemmas.{has_columns}
use Rattle.vtl_combine.proofs.differences.difference_table.Goals as goal

pub reduced_rows-requires : goal.reduced_rows-requires
reduced_rows-requires c =
    let a = c.args.a.now.structure in
    has_columns c.args.made.now a (combined_is a (c.args.b.now.structure ∷ []) c.args.made.now c.requires) c.requires.operands.0

pub returns-clause-table : goal.returns-clause-table
returns-clause-table c =
    let a = c.args.a.now in
    let b = c.args.b.now in
    let s = c.args.made.now in
    made_is_table s c.reduced_rows.result (difference_of a b s) c.reduced_rows.ensures.columns c.reduced_rows.ensures.rows
    (difference_kept a b s c.requires (c.are_data_sets.ensures 0 c.args.a (omega arith)) (c.are_data_sets.ensures 1 c.args.b (omega arith)))
