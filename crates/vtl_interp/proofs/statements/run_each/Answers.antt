use Rattle.std.proofs.Common.{rules, ◌≡◌, ◌≤◌, ◌+◌, ◌∷◌, List, Err, drop, length, map, ap, subst, sym, arith}
use Rattle.std.specs.Map.{keys_of}
use Rattle.std.proofs.lemmas.List.{drop_all}
use Rattle.vtl_rows.specs.Named.{NamedTables}
use Rattle.vtl_syntax.specs.View.{statement_tree}
use Rattle.vtl_syntax.specs.declared.statements.Statement.{Statement}
use Rattle.vtl_tree.specs.NodeView.{node_tree}
use Rattle.vtl_scripts.specs.Meaning.{meaning}
use Rattle.vtl_backend.specs.Statements.{with_nodes}
use Rattle.vtl_check.specs.Transformations.{transformations_from}
use Rattle.vtl_check.proofs.LeftLemmas.{assigned_at, left, one_left}
use Rattle.vtl_interp.specs.Results.{AreReady}
use Rattle.vtl_interp.proofs.Steps.{meaning_begins, meaning_ends}
use Rattle.vtl_interp.proofs.Turns.{fault_told, left_from, ready_now, still_many, still_meant, still_ready, still_reads}
use Rattle.vtl_interp.proofs.Writes.{no_table}
use Rattle.vtl_interp.proofs.statements.run_each.Goals as goal

pub loop-statement-init : goal.loop-statement-init
loop-statement-init c =
    let ss = c.args.statements.now in
    let ns = c.args.nodes.now in
    record {
      many = omega (arith, c.requires.many);
      reads = c.requires.reads;
      ready = subst (λ (l : NamedTables). AreReady c.args.p.now c.args.known.entries (keys_of l) (left_from ss ns 0 0)) (sym c.new.ensures) c.requires.ready;
      meant = meaning_begins (meaning c.args.p.now (left_from ss ns 0 0) c.args.known.entries) c.new.result c.new.ensures;
    }

pub add_result-requires-clause-made : goal.add_result-requires-clause-made
add_result-requires-clause-made c =
    let ss = c.args.statements.now in
    let i = c.loop-statement.statement-index in
    let here : left ss i ≡ assigned_at i c.in-Assignment.name c.in-Assignment.kind c.in-Assignment.value ∷ left ss (i + 1) =
    one_left ss i c.statement-item.result c.loop-statement-test.true c.statement-item.is c.in-Assignment.name c.in-Assignment.kind c.in-Assignment.value c.in-Assignment.is in
    (ready_now c.args.p.now ss c.args.nodes.now i c.loop-statement.place c.in-Assignment.name c.in-Assignment.kind c.in-Assignment.value c.index-nodes-place.result here c.loop-statement.invariant.many c.index-nodes-place.is
    c.loop-statement.held.known.entries (keys_of c.loop-statement.held.outputs) c.loop-statement.invariant.ready).made.0

pub add_result-requires-clause-new_name : goal.add_result-requires-clause-new_name
add_result-requires-clause-new_name c =
    let ss = c.args.statements.now in
    let i = c.loop-statement.statement-index in
    let here : left ss i ≡ assigned_at i c.in-Assignment.name c.in-Assignment.kind c.in-Assignment.value ∷ left ss (i + 1) =
    one_left ss i c.statement-item.result c.loop-statement-test.true c.statement-item.is c.in-Assignment.name c.in-Assignment.kind c.in-Assignment.value c.in-Assignment.is in
    no_table c.in-Assignment.name c.loop-statement.held.outputs
    (ready_now c.args.p.now ss c.args.nodes.now i c.loop-statement.place c.in-Assignment.name c.in-Assignment.kind c.in-Assignment.value c.index-nodes-place.result here c.loop-statement.invariant.many c.index-nodes-place.is
    c.loop-statement.held.known.entries (keys_of c.loop-statement.held.outputs) c.loop-statement.invariant.ready).new_names.0

pub loop-statement-preserved : goal.loop-statement-preserved
loop-statement-preserved c =
    let p = c.args.p.now in
    let ss = c.args.statements.now in
    let ns = c.args.nodes.now in
    let i = c.loop-statement.statement-index in
    let j = c.loop-statement.place in
    let n = c.index-nodes-place.result in
    let name = c.in-Assignment.name in
    let kind = c.in-Assignment.kind in
    let value = c.in-Assignment.value in
    let here : left ss i ≡ assigned_at i name kind value ∷ left ss (i + 1) =
    one_left ss i c.statement-item.result c.loop-statement-test.true c.statement-item.is name kind value c.in-Assignment.is in
    let many = c.loop-statement.invariant.many in
    let n_is = c.index-nodes-place.is in
    let last = c.args.last.now.entries in
    let before = c.loop-statement.held in
    let held = c.add_result.new.held in
    let now = c.let_go.new.known.entries in
    let added = c.in_ok-add_result.ensures in
    let kept = c.in_ok-let_go.ensures.kept in
    let whole = meaning p (left_from ss ns 0 0) c.args.known.entries in
    record {
      many = still_many p ss ns i j name kind value n here many n_is;
      reads = still_reads p ss ns i j name kind value n here many n_is last c.loop-statement.invariant.reads;
      ready = still_ready p ss ns i j name kind value n here many n_is last before.known.entries held.known.entries now before.outputs held.outputs added kept c.loop-statement.invariant.reads c.loop-statement.invariant.ready;
      meant = still_meant p ss ns i j name kind value n here many n_is last before.known.entries held.known.entries now before.outputs held.outputs added kept c.loop-statement.invariant.reads whole c.loop-statement.invariant.meant;
    }

pub returns-in_err-add_result : goal.returns-in_err-add_result
returns-in_err-add_result c =
    let ss = c.args.statements.now in
    let ns = c.args.nodes.now in
    let i = c.loop-statement.statement-index in
    let here : left ss i ≡ assigned_at i c.in-Assignment.name c.in-Assignment.kind c.in-Assignment.value ∷ left ss (i + 1) =
    one_left ss i c.statement-item.result c.loop-statement-test.true c.statement-item.is c.in-Assignment.name c.in-Assignment.kind c.in-Assignment.value c.in-Assignment.is in
    let passed : c.from_residual.result ≡ Err c.in_err-add_result.field-0.0 = search rules in
    rw passed
    (fault_told c.args.p.now ss ns i c.loop-statement.place c.in-Assignment.name c.in-Assignment.kind c.in-Assignment.value c.index-nodes-place.result here c.loop-statement.invariant.many c.index-nodes-place.is
    c.loop-statement.held c.add_result.new.held (meaning c.args.p.now (left_from ss ns 0 0) c.args.known.entries) c.in_err-add_result.field-0.0 c.in_err-add_result.ensures c.loop-statement.invariant.meant)

pub returns : goal.returns
returns c =
    let ss = c.args.statements.now in
    let ns = c.args.nodes.now in
    let i = c.loop-statement.statement-index in
    let j = c.loop-statement.place in
    let env = c.loop-statement.held.known.entries in
    let past : length ss ≤ i = omega (arith, c.loop-statement-test.false) in
    meaning_ends (meaning c.args.p.now (left_from ss ns 0 0) c.args.known.entries) (meaning c.args.p.now (left_from ss ns i j) env) c.loop-statement.held.outputs
    (ap (λ (l : List Statement). meaning c.args.p.now (with_nodes (transformations_from (i + 1) (map statement_tree l)) (map node_tree (drop j ns))) env) (drop_all i ss past)) c.loop-statement.invariant.meant
