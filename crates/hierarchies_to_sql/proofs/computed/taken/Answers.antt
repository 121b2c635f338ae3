use Rattle.std.proofs.Common.{◌++◌, ap, append-nil, map, sym, ◌∙◌}
use Rattle.std.specs.List.{list_any}
use Rattle.std.specs.Map.{keys_of}
use Rattle.std.proofs.lemmas.Result.{IfOk-weaker}
use Rattle.vtl_text.specs.Texts.{same_text}
use Rattle.vtl_syntax.specs.declared.word_groups.HierInput.{HierInput}
use Rattle.vtl_tree.specs.RuleItems.{left_item}
use Rattle.sql_tree.specs.Trees.{Text}
use Rattle.sql_tree.specs.View.{statement_tree}
use Rattle.selects_to_sql.specs.Tables.{Sources, create_for}
use Rattle.hierarchies_to_sql.specs.ComputedTables.{first_name}
use Rattle.hierarchies_to_sql.specs.RuleItems.{ruled_of, tables_in}
use Rattle.hierarchies_to_sql.proofs.TakenForms.{kept_is, merged_is, merged_tables, taken_by}
use Rattle.hierarchies_to_sql.proofs.computed.taken.Goals as goal

pub returns-in-Dataset-clause-name : goal.returns-in-Dataset-clause-name
returns-in-Dataset-clause-name c =
    let h = ruled_of c.args.shape.now.measured.now in
    let keys = c.args.shape.now.keys.now in
    let T = tables_in c.args.tables.now in
    IfOk-weaker c.table_of.result _ _
    (λ t e m a items s. e ∙ ap T c.left_item-item.ensures ∙ ap (λ (i : HierInput). first_name (taken_by c.args.writer.now c.args.target.now h m a keys items T c.args.rule.now c.args.made.now c.args.draft.now.next i).names) (sym c.in-Dataset.is)) c.table_of.ensures

pub returns-in-Dataset-clause-tables : goal.returns-in-Dataset-clause-tables
returns-in-Dataset-clause-tables c =
    let h = ruled_of c.args.shape.now.measured.now in
    let keys = c.args.shape.now.keys.now in
    let T = tables_in c.args.tables.now in
    let old = map statement_tree c.args.draft.now.statements.items in
    IfOk-weaker c.table_of.result _ _
    (λ t e m a items s. sym (append-nil old) ∙ ap (λ (i : HierInput). old ++ map create_for (taken_by c.args.writer.now c.args.target.now h m a keys items T c.args.rule.now c.args.made.now c.args.draft.now.next i).tables) (sym c.in-Dataset.is)) c.table_of.ensures

pub returns-in-Dataset-clause-next : goal.returns-in-Dataset-clause-next
returns-in-Dataset-clause-next c =
    let h = ruled_of c.args.shape.now.measured.now in
    let keys = c.args.shape.now.keys.now in
    let T = tables_in c.args.tables.now in
    IfOk-weaker c.table_of.result _ _
    (λ t e m a items s. ap (λ (i : HierInput). (taken_by c.args.writer.now c.args.target.now h m a keys items T c.args.rule.now c.args.made.now c.args.draft.now.next i).next) (sym c.in-Dataset.is)) c.table_of.ensures

pub returns-in-Rule-clause-name : goal.returns-in-Rule-clause-name
returns-in-Rule-clause-name c =
    let h = ruled_of c.args.shape.now.measured.now in
    let keys = c.args.shape.now.keys.now in
    let T = tables_in c.args.tables.now in
    IfOk-weaker c.share.result _ _
    (λ t e m a items s. e ∙ ap (λ (i : HierInput). first_name (taken_by c.args.writer.now c.args.target.now h m a keys items T c.args.rule.now c.args.made.now c.args.draft.now.next i).names) (sym c.in-Rule.is)) c.share.ensures

pub returns-in-Rule-clause-tables : goal.returns-in-Rule-clause-tables
returns-in-Rule-clause-tables c =
    let h = ruled_of c.args.shape.now.measured.now in
    let keys = c.args.shape.now.keys.now in
    let T = tables_in c.args.tables.now in
    let old = map statement_tree c.args.draft.now.statements.items in
    IfOk-weaker c.share.result _ _
    (λ t e m a items s. sym (append-nil old) ∙ ap (λ (i : HierInput). old ++ map create_for (taken_by c.args.writer.now c.args.target.now h m a keys items T c.args.rule.now c.args.made.now c.args.draft.now.next i).tables) (sym c.in-Rule.is)) c.share.ensures

pub returns-in-Rule-clause-next : goal.returns-in-Rule-clause-next
returns-in-Rule-clause-next c =
    let h = ruled_of c.args.shape.now.measured.now in
    let keys = c.args.shape.now.keys.now in
    let T = tables_in c.args.tables.now in
    IfOk-weaker c.share.result _ _
    (λ t e m a items s. ap (λ (i : HierInput). (taken_by c.args.writer.now c.args.target.now h m a keys items T c.args.rule.now c.args.made.now c.args.draft.now.next i).next) (sym c.in-Rule.is)) c.share.ensures

pub returns-then-has-clause-name : goal.returns-then-has-clause-name
returns-then-has-clause-name c =
    let h = ruled_of c.args.shape.now.measured.now in
    let keys = c.args.shape.now.keys.now in
    let T = tables_in c.args.tables.now in
    IfOk-weaker c.merge.result _ _
    (λ t e m a items s.
    let known = sym (s.given (left_item c.args.rule.now)) ∙ ap (λ (q : Text). list_any (same_text q) (keys_of c.args.given.now)) (sym c.left_item-item.ensures) ∙ sym c.has.ensures ∙ c.if-has.true in
    let same = merged_is c.args.writer.now c.args.target.now h m a keys items T c.args.rule.now c.args.made.now c.args.draft.now.next known ∙ ap (λ (i : HierInput). taken_by c.args.writer.now c.args.target.now h m a keys items T c.args.rule.now c.args.made.now c.args.draft.now.next i) (sym c.in-RulePriority.is) in
    e ∙ ap (λ (z : Sources). first_name z.names) same) c.merge.ensures.name

pub returns-then-has-clause-tables : goal.returns-then-has-clause-tables
returns-then-has-clause-tables c =
    let h = ruled_of c.args.shape.now.measured.now in
    let keys = c.args.shape.now.keys.now in
    let T = tables_in c.args.tables.now in
    let old = map statement_tree c.args.draft.now.statements.items in
    let new = map statement_tree c.merge.new.draft.statements.items in
    IfOk-weaker c.merge.result _ _
    (λ t e m a items s.
    let known = sym (s.given (left_item c.args.rule.now)) ∙ ap (λ (q : Text). list_any (same_text q) (keys_of c.args.given.now)) (sym c.left_item-item.ensures) ∙ sym c.has.ensures ∙ c.if-has.true in
    let same = merged_is c.args.writer.now c.args.target.now h m a keys items T c.args.rule.now c.args.made.now c.args.draft.now.next known ∙ ap (λ (i : HierInput). taken_by c.args.writer.now c.args.target.now h m a keys items T c.args.rule.now c.args.made.now c.args.draft.now.next i) (sym c.in-RulePriority.is) in
    merged_tables c.args.writer.now c.args.target.now h m a keys items T c.args.rule.now c.args.made.now c.args.draft.now.next _ _ c.left_item-item.result.now old new s.others s.columns c.left_item-item.ensures e ∙ ap (λ (z : Sources). old ++ map create_for z.tables) same) c.merge.ensures.tables

pub returns-then-has-clause-next : goal.returns-then-has-clause-next
returns-then-has-clause-next c =
    let h = ruled_of c.args.shape.now.measured.now in
    let keys = c.args.shape.now.keys.now in
    let T = tables_in c.args.tables.now in
    IfOk-weaker c.merge.result _ _
    (λ t e m a items s.
    let known = sym (s.given (left_item c.args.rule.now)) ∙ ap (λ (q : Text). list_any (same_text q) (keys_of c.args.given.now)) (sym c.left_item-item.ensures) ∙ sym c.has.ensures ∙ c.if-has.true in
    let same = merged_is c.args.writer.now c.args.target.now h m a keys items T c.args.rule.now c.args.made.now c.args.draft.now.next known ∙ ap (λ (i : HierInput). taken_by c.args.writer.now c.args.target.now h m a keys items T c.args.rule.now c.args.made.now c.args.draft.now.next i) (sym c.in-RulePriority.is) in
    e ∙ ap (λ (z : Sources). z.next) same) c.merge.ensures.next

pub returns-else-has-clause-name : goal.returns-else-has-clause-name
returns-else-has-clause-name c =
    let h = ruled_of c.args.shape.now.measured.now in
    let keys = c.args.shape.now.keys.now in
    let T = tables_in c.args.tables.now in
    IfOk-weaker c.share-else-has.result _ _
    (λ t e m a items s.
    let known = sym (s.given (left_item c.args.rule.now)) ∙ ap (λ (q : Text). list_any (same_text q) (keys_of c.args.given.now)) (sym c.left_item-item.ensures) ∙ sym c.has.ensures ∙ c.if-has.false in
    let same = kept_is c.args.writer.now c.args.target.now h m a keys items T c.args.rule.now c.args.made.now c.args.draft.now.next known ∙ ap (λ (i : HierInput). taken_by c.args.writer.now c.args.target.now h m a keys items T c.args.rule.now c.args.made.now c.args.draft.now.next i) (sym c.in-RulePriority.is) in
    e ∙ ap (λ (z : Sources). first_name z.names) same) c.share-else-has.ensures

pub returns-else-has-clause-tables : goal.returns-else-has-clause-tables
returns-else-has-clause-tables c =
    let h = ruled_of c.args.shape.now.measured.now in
    let keys = c.args.shape.now.keys.now in
    let T = tables_in c.args.tables.now in
    let old = map statement_tree c.args.draft.now.statements.items in
    IfOk-weaker c.share-else-has.result _ _
    (λ t e m a items s.
    let known = sym (s.given (left_item c.args.rule.now)) ∙ ap (λ (q : Text). list_any (same_text q) (keys_of c.args.given.now)) (sym c.left_item-item.ensures) ∙ sym c.has.ensures ∙ c.if-has.false in
    let same = kept_is c.args.writer.now c.args.target.now h m a keys items T c.args.rule.now c.args.made.now c.args.draft.now.next known ∙ ap (λ (i : HierInput). taken_by c.args.writer.now c.args.target.now h m a keys items T c.args.rule.now c.args.made.now c.args.draft.now.next i) (sym c.in-RulePriority.is) in
    sym (append-nil old) ∙ ap (λ (z : Sources). old ++ map create_for z.tables) same) c.share-else-has.ensures

pub returns-else-has-clause-next : goal.returns-else-has-clause-next
returns-else-has-clause-next c =
    let h = ruled_of c.args.shape.now.measured.now in
    let keys = c.args.shape.now.keys.now in
    let T = tables_in c.args.tables.now in
    IfOk-weaker c.share-else-has.result _ _
    (λ t e m a items s.
    let known = sym (s.given (left_item c.args.rule.now)) ∙ ap (λ (q : Text). list_any (same_text q) (keys_of c.args.given.now)) (sym c.left_item-item.ensures) ∙ sym c.has.ensures ∙ c.if-has.false in
    let same = kept_is c.args.writer.now c.args.target.now h m a keys items T c.args.rule.now c.args.made.now c.args.draft.now.next known ∙ ap (λ (i : HierInput). taken_by c.args.writer.now c.args.target.now h m a keys items T c.args.rule.now c.args.made.now c.args.draft.now.next i) (sym c.in-RulePriority.is) in
    ap (λ (z : Sources). z.next) same) c.share-else-has.ensures
