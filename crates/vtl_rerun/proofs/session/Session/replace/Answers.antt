use Rattle.std.proofs.Common.{◌∙◌, ◌++◌, ap, drop, length, take}
use Rattle.vtl_rows.specs.Tables.{listed}
use Rattle.rerun_laws.specs.Refreshes.{fresh_without}
use Rattle.vtl_rerun.specs.Kept.{Kept}
use Rattle.vtl_rerun.proofs.States.{fresh_put, put_in, spliced}
use Rattle.vtl_rerun.proofs.session.Session.replace.Goals as goal

pub invariant_of-self : goal.invariant_of-self
invariant_of-self g c =
    let is = c.self.inside in
    let kept = take is.results.len (c.let_go.new.results ++ drop (length c.let_go.new.results) is.results.items) in
    put_in is.script c.args.self.now.script is.parts.items c.deref.result.now is.inputs c.set.new.self is.results.items c.deref_mut.result.now c.let_go.new.results kept c.args.name.now (listed c.args.table) (listed c.in_ok-table.table)
    (ap (λ (k : Kept). k.script) c.self.view_is) c.self.invariant.running c.requires.input c.requires.range c.in_ok-table.ensures c.set.ensures c.deref.ensures.value c.deref_mut.ensures.value c.let_go.ensures
    (spliced is.results.len c.let_go.new.results is.results.items (c.let_go.auto.results ∙ ap length c.deref_mut.ensures.value) is.results.ok.0) c.new.result

pub returns-clause-fresh : goal.returns-clause-fresh
returns-clause-fresh g c =
    let is = c.self.inside in
    let kept = take is.results.len (c.let_go.new.results ++ drop (length c.let_go.new.results) is.results.items) in
    fresh_put is.script c.args.self.now.script is.parts.items c.deref.result.now is.inputs c.set.new.self is.results.items c.deref_mut.result.now c.let_go.new.results kept c.args.name.now (listed c.args.table) (listed c.in_ok-table.table)
    (ap (λ (k : Kept). k.script) c.self.view_is) c.self.invariant.running c.requires.input c.requires.range c.in_ok-table.ensures c.set.ensures c.deref.ensures.value c.deref_mut.ensures.value c.let_go.ensures
    (spliced is.results.len c.let_go.new.results is.results.items (c.let_go.auto.results ∙ ap length c.deref_mut.ensures.value) is.results.ok.0)
    ∙ ap (λ (k : Kept). fresh_without c.args.name.now k.script k.fresh) c.self.view_is
