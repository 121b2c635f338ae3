use Rattle.std.proofs.Common.{◌≡◌, ◌+◌, ◌++◌, ◌∷◌, [], ℕ, List, append-nil, ap, arith, length, map, refl, subst, sym, take, ◌∙◌}
use Rattle.std.proofs.lemmas.List.{take_all}
use Rattle.std.specs.Map.{lookup}
use Rattle.vtl_text.specs.Texts.{same_text}
use Rattle.vtl_tree.specs.Shown.{shown}
use Rattle.vtl_tree.specs.declared.structure.Component.{Component}
use Rattle.vtl_meaning.specs.Turned.{other_identifiers}
use Rattle.sql_tree.specs.Trees.{Text}
use Rattle.sql_tree.specs.View.{query_tree, statement_tree}
use Rattle.selects_to_sql.specs.Tables.{create_for}
use Rattle.hierarchies_to_sql.specs.ItemTables.{item_tables}
use Rattle.hierarchies_to_sql.specs.RuleItems.{found_by, item_as, numbered_from, ruled_of}
use Rattle.hierarchies_to_sql.proofs.ItemForms.{item_written}
use Rattle.hierarchies_to_sql.proofs.ItemTableForms.{named_next, statements_next}
use Rattle.hierarchies_to_sql.proofs.item_tables.named_tables.Goals as goal

pub loop-item-init : goal.loop-item-init
loop-item-init c = record {
  next = omega arith;
  found = λ q. ap (lookup (same_text q)) c.new-tables.ensures;
  made = λ a e f. sym (append-nil (map statement_tree c.args.draft.now.statements.items));
}

pub loop-item-preserved : goal.loop-item-preserved
loop-item-preserved c =
    let p = c.args.writer.now in
    let r = c.args.target.now in
    let h = ruled_of c.args.measured.now in
    let items = c.args.items.now in
    let x = c.args.table.now in
    let n = c.args.draft.now.next in
    let i = c.loop-item.item-index in
    let item = c.item-item.result in
    let before = c.loop-item.invariant in
    let so = c.loop-item.draft in
    let within = c.loop-item-test.true in
    let same : (n + i) + 1 ≡ n + (i + 1) = omega arith in
    record {
      next = c.in_ok-name.ensures.next ∙ ap (λ (m : ℕ). m + 1) before.next ∙ same;
      found = λ q. named_next p r h (record { components = [] }) x n items i item within c.item-item.is c.loop-item.tables c.put_first.new.tables c.in_ok-name.name so.next before.next c.in_ok-name.ensures.name before.found c.in_ok-put_first.ensures q;
      made = λ a e f.
          statements_next p r h a x n items i item within c.item-item.is (map statement_tree c.args.draft.now.statements.items) (map statement_tree so.statements.items) (map statement_tree c.store.new.self.statements.items) so.next (query_tree c.in_ok-query.query) before.next
          (c.in_ok-query.ensures
          ∙ ap (λ (ys : List Component). item_as h ys (shown c.args.columns.now) item x ∷ []) e
          ∙ ap (λ (ys : List Component). item_as h (other_identifiers h.id a) ys item x ∷ []) f
          ∙ sym (item_written p h a item x))
          (before.made a e f) c.in_ok-name.ensures.statements;
    }

pub returns-clause-names : goal.returns-clause-names
returns-clause-names c = λ q.
    let r = c.args.target.now in
    let n = c.args.draft.now.next in
    c.loop-item.invariant.found q ∙ ap (λ (l : List Text). found_by l (numbered_from r n l) q) (take_all c.loop-item.item-index c.args.items.now c.loop-item-test.false)

pub returns-clause-tables : goal.returns-clause-tables
returns-clause-tables c = λ a e f.
    let old = map statement_tree c.args.draft.now.statements.items in
    c.loop-item.invariant.made a e f
    ∙ ap (λ (l : List Text). old ++ map create_for (item_tables c.args.writer.now c.args.target.now (ruled_of c.args.measured.now) a (c.args.table.now ∷ []) l c.args.draft.now.next).tables)
    (take_all c.loop-item.item-index c.args.items.now c.loop-item-test.false)
