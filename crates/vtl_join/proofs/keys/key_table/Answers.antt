use Rattle.std.proofs.Common.{◌<◌, ◌++◌, length, ap, ◌∙◌, arith}
use Rattle.vtl_rows.specs.Tables.{column_kinds}
use Rattle.vtl_tree.specs.Shown.{shown}
use Rattle.vtl_tree.specs.Structure.{columns_of}
use Rattle.vtl_meaning.specs.Made.{AreAmong}
use Rattle.vtl_join.proofs.KeyTables.{keys_more, set_at}
use Rattle.vtl_join.proofs.keys.key_table.Goals as goal

pub keys_of-requires : goal.keys_of-requires
keys_of-requires c =
    let within : c.loop-operand.operand-index < length c.args.operands.now = omega arith in
    set_at (λ d. AreAmong (shown c.args.identifiers.now) (columns_of d.structure)) c.args.operands.now c.loop-operand.operand-index c.operand-item.result c.requires within c.operand-item.is

pub loop-operand-preserved : goal.loop-operand-preserved
loop-operand-preserved c =
    let within : c.loop-operand.operand-index < length c.args.operands.now = omega arith in
    let now = c.loop-operand.invariant in
    record {
      columns = ap column_kinds c.append.ensures.columns ∙ now.columns;
      rows = keys_more (shown c.args.identifiers.now) c.args.operands.now c.loop-operand.operand-index c.operand-item.result c.loop-operand.keys.rows c.append.new.self.rows within c.operand-item.is now.rows
          (c.in_ok-append.ensures.rows ∙ ap (λ l. c.loop-operand.keys.rows ++ l) c.in_ok-keys_of.ensures.rows);
    }
