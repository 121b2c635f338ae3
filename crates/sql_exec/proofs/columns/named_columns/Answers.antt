use Rattle.std.proofs.Common.{◌<◌, ◌∙◌, length, get_or, ap, arith}
use Rattle.std.proofs.lemmas.List.{get_or_default}
use Rattle.sql_tree.specs.declared.statements.Item.{Item}
use Rattle.sql_exec.proofs.QueryColumns.{columns_more}
use Rattle.sql_exec.proofs.Steps.{zipped_all}
use Rattle.sql_exec.proofs.columns.named_columns.Goals as goal

pub loop-i-preserved : goal.loop-i-preserved
loop-i-preserved c =
    let items = c.args.items.now in
    let h : c.loop-i.i < length items = omega (arith, c.loop-i-test.true) in
    let l : c.loop-i.i < length c.args.kinds.now = omega (arith, c.requires) in
    let item = get_or items c.loop-i.i c.index-items-i.result in
    columns_more items c.args.kinds.now c.loop-i.i item c.in_ok-share.field-0 _ c.loop-i.columns.items c.push.new.self.items h l (ap (get_or items c.loop-i.i) c.index-items-i.is) (get_or_default _ _ _ _ l) c.in_ok-share.ensures c.loop-i.invariant c.in_ok-push.ensures.items

pub returns : goal.returns
returns c = c.loop-i.invariant ∙ zipped_all (λ (x : Item). x.name) c.args.items.now c.args.kinds.now c.loop-i.i c.loop-i-test.false
