use Rattle.std.proofs.Common.{◌∷◌, [], ◌++◌, ◌∙◌, ap, sym, subst, arith}
use Rattle.vtl_tree.specs.DataSet.{IsDataSet}
use Rattle.vtl_meaning.specs.Sets.{difference_of}
use Rattle.vtl_meaning.proofs.SetsKept.{combined_is, symmetric_difference_kept}
use Rattle.vtl_combine.proofs.OperandLemmas.{has_columns}
use Rattle.vtl_combine.proofs.differences.symmetric_difference_table.Goals as goal

pub reduced_rows-requires : goal.reduced_rows-requires
reduced_rows-requires c =
    let a = c.args.a.now.structure in
    has_columns c.args.made.now a (combined_is a (c.args.b.now.structure ∷ []) c.args.made.now c.requires) c.requires.operands.0

pub reduced_rows-requires-2 : goal.reduced_rows-requires-2
reduced_rows-requires-2 c =
    let b = c.args.b.now.structure in
    has_columns c.args.made.now b (combined_is c.args.a.now.structure (b ∷ []) c.args.made.now c.requires) c.requires.operands.1.0

pub returns-clause-table : goal.returns-clause-table
returns-clause-table c =
    let a = c.args.a.now in
    let b = c.args.b.now in
    let s = c.args.made.now in
    let rows = c.in_ok-append.ensures.rows ∙ ap (λ l. l ++ c.in_ok-reduced_rows.field-0.rows) c.in_ok-table.ensures.rows ∙ ap (λ l. difference_of a b s ++ l) c.in_ok-reduced_rows.ensures.rows in
    record {
      columns = c.in_ok-append.ensures.columns ∙ c.in_ok-table.ensures.columns;
      points = subst (λ l. IsDataSet s l) (sym rows) (symmetric_difference_kept a b s c.requires (c.are_data_sets.ensures 0 c.args.a (omega arith)) (c.are_data_sets.ensures 1 c.args.b (omega arith)));
    }
