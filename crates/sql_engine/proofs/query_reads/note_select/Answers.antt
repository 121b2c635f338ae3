use Rattle.std.proofs.Common.{map, subst}
use Rattle.std.specs.Prelude.{List}
use Rattle.std.specs.List.{AllByRecursion}
use Rattle.std.specs.Option.{option_map}
use Rattle.sql_tree.specs.View.{expr_tree, item_tree, join_tree, select_tree}
use Rattle.sql_tree.specs.declared.statements.Item.{Item}
use Rattle.sql_tree.specs.declared.statements.Join.{Join}
use Rattle.sql_engine.specs.LastReads.{IsNoted}
use Rattle.sql_engine.specs.Reads.{EachOfItem, EachOfJoin, EachOfMaybe, EachOfSelect}
use Rattle.sql_engine.proofs.Noting.{both_noted, noted_as, on_ok}
use Rattle.sql_engine.proofs.query_reads.note_select.Goals as goal

pub returns : goal.returns
returns c =
    let p = c.args.place in
    let s = c.args.select.now in
    let a = c.args.last.now in
    let b1 = c.note.new.last in
    let b2 = c.note_joins.new.last in
    let b3 = c.note_maybe.new.last in
    let b4 = c.note_maybe-2.new.last in
    let b5 = c.note_items.new.last in
    let joins = subst (λ (l : List Join). IsNoted p b1 b2 (λ P. AllByRecursion (EachOfJoin P) (map join_tree l))) c.as_slice.ensures c.in_ok-note_joins.ensures in
    let one = both_noted p a b1 b2 (λ P. P s.from.table) (λ P. AllByRecursion (EachOfJoin P) (map join_tree s.joins)) c.in_ok-note.ensures joins in
    let two = both_noted p a b2 b3 (λ P. P s.from.table × AllByRecursion (EachOfJoin P) (map join_tree s.joins)) (λ P. EachOfMaybe P (option_map expr_tree s.condition)) one c.in_ok-note_maybe.ensures in
    let three = both_noted p a b3 b4 (λ P. (P s.from.table × AllByRecursion (EachOfJoin P) (map join_tree s.joins)) × EachOfMaybe P (option_map expr_tree s.condition)) (λ P. EachOfMaybe P (option_map expr_tree s.having)) two c.in_ok-note_maybe-2.ensures in
    on_ok c.note_items.result (IsNoted p b4 b5 (λ P. AllByRecursion (EachOfItem P) (map item_tree c.as_slice-2.result.now))) (IsNoted p a b5 (λ P. EachOfSelect P (select_tree s)))
    (λ last.
    let items = subst (λ (l : List Item). IsNoted p b4 b5 (λ P. AllByRecursion (EachOfItem P) (map item_tree l))) c.as_slice-2.ensures last in
    noted_as p a b5
    (λ P. ((((P s.from.table × AllByRecursion (EachOfJoin P) (map join_tree s.joins)) × EachOfMaybe P (option_map expr_tree s.condition)) × EachOfMaybe P (option_map expr_tree s.having)) × AllByRecursion (EachOfItem P) (map item_tree s.items)))
    (λ P. EachOfSelect P (select_tree s))
    (both_noted p a b4 b5 (λ P. ((P s.from.table × AllByRecursion (EachOfJoin P) (map join_tree s.joins)) × EachOfMaybe P (option_map expr_tree s.condition)) × EachOfMaybe P (option_map expr_tree s.having)) (λ P. AllByRecursion (EachOfItem P) (map item_tree s.items)) three items)
    (λ P h. record { source = h.0.0.0.0; joins = h.0.0.0.1; condition = h.0.0.1; having = h.0.1; items = h.1 }))
    c.note_items.ensures
