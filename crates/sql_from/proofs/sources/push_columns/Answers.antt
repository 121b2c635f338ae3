use Rattle.std.proofs.Common.{◌≡◌, ◌∙◌, ◌++◌, ◌∷◌, [], ap, append_assoc}
use Rattle.sql_from.specs.Columns.{line_feed}
use Rattle.sql_from.proofs.Tabled.{below_more}
use Rattle.sql_from.proofs.sources.push_columns.Goals as goal

pub loop-column-preserved : goal.loop-column-preserved
loop-column-preserved c =
    let alias = c.args.alias.now in
    let x = c.column-item.result in
    let above : c.in_ok-above.above ≡ alias ++ line_feed ∷ [] = c.in_ok-above.ensures in
    let name : c.in_ok-concat.field-0 ≡ alias ++ line_feed ∷ x.name =
    c.in_ok-concat.ensures ∙ (λ n. c.as_str.ensures.characters n ++ c.as_str-in-loop-column.ensures.characters n) ∙ ap (λ l. l ++ x.name) above ∙ append_assoc alias (line_feed ∷ []) x.name in
    below_more alias c.args.own.now c.loop-column.column-index x c.args.columns.now.items c.loop-column.columns.items c.push.new.self.items c.in_ok-concat.field-0
    c.loop-column-test.true c.column-item.is name c.loop-column.invariant c.in_ok-push.ensures.items
