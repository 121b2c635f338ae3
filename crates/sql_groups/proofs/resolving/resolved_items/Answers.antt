use Rattle.std.proofs.Common.{◌<◌, get_or, length, arith}
use Rattle.std.proofs.lemmas.List.{get_or_default}
use Rattle.vtl_cell.specs.declared.kind.Kind.{Kind}
use Rattle.vtl_cell.specs.declared.kind.Kind.TheVariants as k
use Rattle.sql_groups.specs.Resolved.{group_sight}
use Rattle.sql_groups.proofs.ResolvedLemmas.{items_done, items_more}
use Rattle.sql_groups.proofs.resolving.resolved_items.Goals as goal

pub loop-i-preserved : goal.loop-i-preserved
loop-i-preserved g c =
    let kinds = c.args.kinds.now in
    let i = c.loop-i.i in
    let kind : Kind = get_or kinds i k.Null in
    let within : i < length kinds = omega (arith, c.requires, c.loop-i-test.true) in
    items_more (group_sight c.args.p.now (g.N.Names.tables c.args.names.now) (g.N.Names.scope c.args.names.now) c.args.group.now) c.args.items.now kinds i c.index-items-i.result kind c.in_ok-resolved_item.field-0 c.loop-i.resolved.items c.push.new.self.items
    c.requires c.loop-i-test.true c.index-items-i.is (get_or_default kinds i k.Null kind within) c.in_ok-resolved_item.ensures c.in_ok-push.ensures.items c.loop-i.invariant

pub returns : goal.returns
returns g c =
    items_done (group_sight c.args.p.now (g.N.Names.tables c.args.names.now) (g.N.Names.scope c.args.names.now) c.args.group.now) c.args.items.now c.args.kinds.now c.loop-i.i c.loop-i.resolved.items c.requires c.loop-i-test.false c.loop-i.invariant
