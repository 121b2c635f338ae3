use Rattle.std.proofs.Common.{◌≡◌, ◌+◌, ◌≤◌, List, Err, drop, length, map, ap, subst, arith, rules}
use Rattle.std.specs.Prelude.{fold}
use Rattle.std.proofs.lemmas.List.{drop_all}
use Rattle.sql_tree.specs.Trees.{StatementTree}
use Rattle.sql_tree.specs.View.{statement_tree}
use Rattle.sql_check_parts.specs.Statements.{after, nothing}
use Rattle.sql_engine.specs.LastReads.{EachExported, IsReadFrom}
use Rattle.sql_engine.proofs.Exporting.{one_left}
use Rattle.sql_engine.proofs.Running.{Running, Whole, has_fault, has_run, let_go_running, may_run, run_begins, run_ends}
use Rattle.sql_engine.proofs.made_tables.run_each.Goals as goal

pub loop-place-init : goal.loop-place-init
loop-place-init g c =
    run_begins c.args.p.now c.args.inputs.now c.args.last.now (map statement_tree c.args.statements.now) c.new-tables.result c.new-tables.ensures
    c.requires.typed c.requires.formed c.requires.there c.requires.in_range c.requires.created

pub run_statement-requires : goal.run_statement-requires
run_statement-requires g c =
    let p = c.args.p.now in
    let inputs = c.args.inputs.now in
    let last = c.args.last.now in
    let ss = c.args.statements.now in
    let trees = map statement_tree ss in
    let i = c.loop-place.place in
    let x = c.index-statements-place.result in
    let rest = map statement_tree (drop (i + 1) ss) in
    let before = subst (λ (l : List StatementTree). Running p inputs last (fold after nothing trees) (Whole p inputs last trees) i l c.loop-place.tables) (one_left ss i x c.loop-place-test.true c.index-statements-place.is) c.loop-place.invariant in
    may_run p inputs last (fold after nothing trees) (Whole p inputs last trees) i rest c.loop-place.tables (statement_tree x) c.requires.scale before

pub returns-in_err-run_statement : goal.returns-in_err-run_statement
returns-in_err-run_statement g c =
    let p = c.args.p.now in
    let inputs = c.args.inputs.now in
    let last = c.args.last.now in
    let ss = c.args.statements.now in
    let trees = map statement_tree ss in
    let i = c.loop-place.place in
    let x = c.index-statements-place.result in
    let rest = map statement_tree (drop (i + 1) ss) in
    let before = subst (λ (l : List StatementTree). Running p inputs last (fold after nothing trees) (Whole p inputs last trees) i l c.loop-place.tables) (one_left ss i x c.loop-place-test.true c.index-statements-place.is) c.loop-place.invariant in
    let passed : c.from_residual-in_err-run_statement.result ≡ Err c.in_err-run_statement.field-0.0 = search rules in
    rw passed (has_fault p inputs last (fold after nothing trees) (Whole p inputs last trees) i rest c.loop-place.tables (statement_tree x) c.in_err-run_statement.field-0.0 before c.in_err-run_statement.ensures)

pub loop-place-preserved : goal.loop-place-preserved
loop-place-preserved g c =
    let p = c.args.p.now in
    let inputs = c.args.inputs.now in
    let last = c.args.last.now in
    let ss = c.args.statements.now in
    let trees = map statement_tree ss in
    let i = c.loop-place.place in
    let x = c.index-statements-place.result in
    let rest = map statement_tree (drop (i + 1) ss) in
    let before = subst (λ (l : List StatementTree). Running p inputs last (fold after nothing trees) (Whole p inputs last trees) i l c.loop-place.tables) (one_left ss i x c.loop-place-test.true c.index-statements-place.is) c.loop-place.invariant in
    let behind = has_run p inputs last (fold after nothing trees) (Whole p inputs last trees) i rest c.loop-place.tables (statement_tree x) c.run_statement.new.tables c.requires.scale before c.in_ok-run_statement.ensures in
    let_go_running p inputs last (fold after nothing trees) (Whole p inputs last trees) (i + 1) rest c.run_statement.new.tables c.let_go_behind.new.tables c.in_ok-let_go_behind.ensures behind

pub returns : goal.returns
returns g c =
    let last = c.args.last.now in
    let ss = c.args.statements.now in
    let i = c.loop-place.place in
    let past : length ss ≤ i = omega (arith, c.loop-place-test.false) in
    let at_end : length ss ≡ i = omega (arith, c.loop-place-test.false, c.loop-place.auto.place-end) in
    run_ends c.args.p.now c.args.inputs.now last (map statement_tree ss) i (map statement_tree (drop i ss)) c.loop-place.tables (ap (map statement_tree) (drop_all i ss past))
    (subst (λ n. EachExported (IsReadFrom n last) (map statement_tree ss)) at_end c.requires.exported) c.loop-place.invariant
