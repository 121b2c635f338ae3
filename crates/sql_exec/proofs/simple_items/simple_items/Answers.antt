use Rattle.std.proofs.Common.{◌<◌, List, [], length, get_or, sym, subst, arith}
use Rattle.std.proofs.lemmas.List.{get_or_default}
use Rattle.vtl_cell.specs.declared.kind.Kind.TheVariants as k
use Rattle.sql_tree.specs.View.{item_tree}
use Rattle.sql_meaning.specs.Selects.{Wanted}
use Rattle.sql_exec.specs.SimpleItems.{AreSimple}
use Rattle.sql_exec.proofs.SimpleRows.{simple_more}
use Rattle.sql_exec.proofs.Steps.{zipped_all}
use Rattle.sql_exec.proofs.simple_items.simple_items.Goals as goal

pub loop-i-init : goal.loop-i-init
loop-i-init g c = subst (AreSimple (g.N.Names.scope c.args.names.now) []) (sym c.in_ok-simple.ensures.items) tt

pub loop-i-preserved : goal.loop-i-preserved
loop-i-preserved g c =
    let items = c.args.items.now in
    let h : c.loop-i.i < length items = omega (arith, c.loop-i-test.true) in
    let l : c.loop-i.i < length c.args.kinds.now = omega (arith, c.requires) in
    let item = c.index-items-i.result in
    simple_more (g.N.Names.scope c.args.names.now) items c.args.kinds.now c.loop-i.i item (get_or c.args.kinds.now c.loop-i.i k.Null) c.in-Some.item c.loop-i.simple.items c.push.new.self.items h l c.index-items-i.is (get_or_default _ _ _ _ l) c.loop-i.invariant c.in-Some.ensures c.in_ok-push.ensures.items

pub returns : goal.returns
returns g c =
    subst (λ (w : List Wanted). AreSimple (g.N.Names.scope c.args.names.now) w c.loop-i.simple.items) (zipped_all item_tree c.args.items.now c.args.kinds.now c.loop-i.i (omega (arith, c.loop-i-test.false))) c.loop-i.invariant
