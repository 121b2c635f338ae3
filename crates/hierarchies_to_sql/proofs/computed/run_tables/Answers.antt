use Rattle.std.proofs.Common.{◌≡◌, ◌+◌, ◌++◌, ◌∷◌, [], ℕ, List, ap, arith, drop, length, length-append, map, refl, subst, sym, ◌∙◌}
use Rattle.vtl_syntax.specs.declared.statements.HierRule.{HierRule}
use Rattle.vtl_tree.specs.RuleItems.{left_item}
use Rattle.vtl_tree.specs.Shown.{shown}
use Rattle.vtl_tree.specs.declared.structure.Component.{Component}
use Rattle.vtl_meaning.specs.Turned.{other_identifiers}
use Rattle.sql_tree.specs.Trees.{Text}
use Rattle.sql_tree.specs.View.{query_tree, statement_tree}
use Rattle.selects_to_sql.specs.Queries.{alias_of}
use Rattle.selects_to_sql.specs.Tables.{create_for}
use Rattle.hierarchies_to_sql.specs.ComputedTables.{first_name, run_tables, taken_table}
use Rattle.hierarchies_to_sql.specs.ItemTables.{with_table}
use Rattle.hierarchies_to_sql.specs.RuleItems.{computed_as, ruled_of, tables_in}
use Rattle.hierarchies_to_sql.proofs.BesideForms.{computed_written}
use Rattle.hierarchies_to_sql.proofs.RunForms.{Continues, ended, next_rule, no_rule, run_next}
use Rattle.hierarchies_to_sql.proofs.computed.run_tables.Goals as goal

pub loop-rule-init : goal.loop-rule-init
loop-rule-init c =
    let shape = c.args.shape.now in
    record {
      many = ap length c.in_ok-names.ensures.items;
      gives = λ a items e.
          let all = run_tables c.args.writer.now c.args.target.now (ruled_of shape.measured.now) c.args.mode c.args.input a shape.keys.now items (tables_in c.args.tables) (shown c.args.rules.now) c.args.draft.now.next in
          record { names = ap (λ (l : List Text). l ++ all.names) c.in_ok-names.ensures.items; tables = refl; next = refl };
    }

pub loop-rule-preserved : goal.loop-rule-preserved
loop-rule-preserved c =
    let p = c.args.writer.now in
    let r = c.args.target.now in
    let shape = c.args.shape.now in
    let h = ruled_of shape.measured.now in
    let m = c.args.mode in
    let i = c.args.input in
    let keys = shape.keys.now in
    let n = c.loop-rule.draft.next in
    let names = c.loop-rule.names.items in
    let rule = c.rule-item.result in
    let T = tables_in c.loop-rule.tables in
    let U = tables_in c.set_table.new.tables in
    let behind = shown (drop (c.loop-rule.rule-index + 1) c.args.rules.now) in
    let made = c.in_ok-made.made in
    let old = map statement_tree c.args.draft.now.statements.items in
    let so = map statement_tree c.loop-rule.draft.statements.items in
    let mid = map statement_tree c.store.new.self.statements.items in
    let new = map statement_tree c.taken.new.draft.statements.items in
    let q = query_tree c.in_ok-query.query in
    record {
      many = ap length c.in_ok-push.ensures.items ∙ length-append names (made ∷ []) ∙ ap (λ (j : ℕ). j + 1) c.loop-rule.invariant.many;
      gives = λ a items e.
          let all = run_tables p r h m i a keys items (tables_in c.args.tables) (shown c.args.rules.now) c.args.draft.now.next in
          let taken = λ (j : ℕ). taken_table p r h m i a keys items i T rule.now made j in
          let later = c.in_ok-made.ensures.next in
          let before =
          subst (λ (l : List HierRule). Continues p r h m i a keys items (run_tables p r h m i a keys items T l n) all names old so) (next_rule c.args.rules.now c.loop-rule.rule-index rule c.loop-rule-test.true c.rule-item.is) (c.loop-rule.invariant.gives a items e)
          in
          subst (λ (l : List Text). Continues p r h m i a keys items (run_tables p r h m i a keys items U behind c.taken.new.draft.next) all l old new) (sym c.in_ok-push.ensures.items)
          (run_next p r h m i a keys items T U rule.now behind n c.taken.new.draft.next names made old so mid new q all before c.in_ok-made.ensures.name
          (c.in_ok-query.ensures
          ∙ ap (λ (ys : List Component). computed_as p h m (alias_of 0) keys ys T (shown shape.columns.now) rule.now ∷ []) e.others
          ∙ ap (λ (ys : List Component). computed_as p h m (alias_of 0) keys (other_identifiers h.id a) T ys rule.now ∷ []) e.columns
          ∙ sym (computed_written h a p m keys T rule.now))
          c.in_ok-made.ensures.statements
          (c.in_ok-taken.ensures.tables m a items e ∙ ap (λ (j : ℕ). mid ++ map create_for (taken j).tables) later)
          (c.in_ok-taken.ensures.next m a items e ∙ ap (λ (j : ℕ). (taken j).next) later)
          (λ item.
          c.in_ok-set_table.ensures item
          ∙ ap (λ (z : Text). with_table z c.in_ok-taken.taken T item) c.left_item.ensures
          ∙ ap (λ (x : Text). with_table (left_item rule.now) x T item) (c.in_ok-taken.ensures.name m a items e ∙ ap (λ (j : ℕ). first_name (taken j).names) later)));
    }

pub returns-clause-names : goal.returns-clause-names
returns-clause-names c = λ a items e.
    let p = c.args.writer.now in
    let r = c.args.target.now in
    let shape = c.args.shape.now in
    let h = ruled_of shape.measured.now in
    let keys = shape.keys.now in
    let n = c.loop-rule.draft.next in
    let T = tables_in c.loop-rule.tables in
    let all = run_tables p r h c.args.mode c.args.input a keys items (tables_in c.args.tables) (shown c.args.rules.now) c.args.draft.now.next in
    let old = map statement_tree c.args.draft.now.statements.items in
    let so = map statement_tree c.loop-rule.draft.statements.items in
    (ended p r h c.args.mode c.args.input a keys items T n c.loop-rule.names.items old so all
    (subst (λ (l : List HierRule). Continues p r h c.args.mode c.args.input a keys items (run_tables p r h c.args.mode c.args.input a keys items T l n) all c.loop-rule.names.items old so) (no_rule c.args.rules.now c.loop-rule.rule-index c.loop-rule-test.false) (c.loop-rule.invariant.gives a items e))).0

pub returns-clause-tables : goal.returns-clause-tables
returns-clause-tables c = λ a items e.
    let p = c.args.writer.now in
    let r = c.args.target.now in
    let shape = c.args.shape.now in
    let h = ruled_of shape.measured.now in
    let keys = shape.keys.now in
    let n = c.loop-rule.draft.next in
    let T = tables_in c.loop-rule.tables in
    let all = run_tables p r h c.args.mode c.args.input a keys items (tables_in c.args.tables) (shown c.args.rules.now) c.args.draft.now.next in
    let old = map statement_tree c.args.draft.now.statements.items in
    let so = map statement_tree c.loop-rule.draft.statements.items in
    (ended p r h c.args.mode c.args.input a keys items T n c.loop-rule.names.items old so all
    (subst (λ (l : List HierRule). Continues p r h c.args.mode c.args.input a keys items (run_tables p r h c.args.mode c.args.input a keys items T l n) all c.loop-rule.names.items old so) (no_rule c.args.rules.now c.loop-rule.rule-index c.loop-rule-test.false) (c.loop-rule.invariant.gives a items e))).1

pub returns-clause-next : goal.returns-clause-next
returns-clause-next c = λ a items e.
    let p = c.args.writer.now in
    let r = c.args.target.now in
    let shape = c.args.shape.now in
    let h = ruled_of shape.measured.now in
    let keys = shape.keys.now in
    let n = c.loop-rule.draft.next in
    let T = tables_in c.loop-rule.tables in
    let all = run_tables p r h c.args.mode c.args.input a keys items (tables_in c.args.tables) (shown c.args.rules.now) c.args.draft.now.next in
    let old = map statement_tree c.args.draft.now.statements.items in
    let so = map statement_tree c.loop-rule.draft.statements.items in
    (ended p r h c.args.mode c.args.input a keys items T n c.loop-rule.names.items old so all
    (subst (λ (l : List HierRule). Continues p r h c.args.mode c.args.input a keys items (run_tables p r h c.args.mode c.args.input a keys items T l n) all c.loop-rule.names.items old so) (no_rule c.args.rules.now c.loop-rule.rule-index c.loop-rule-test.false) (c.loop-rule.invariant.gives a items e))).2
