use Rattle.std.proofs.Common.{sym, subst}
use Rattle.sql_tree.specs.View.{expr_tree, join_tree}
use Rattle.sql_tree.specs.declared.statements.Join.{Join}
use Rattle.sql_engine.specs.LastReads.{IsNoted}
use Rattle.sql_engine.specs.Reads.{EachOfJoin, EachRead}
use Rattle.sql_engine.proofs.Noting.{both_noted, on_ok}
use Rattle.sql_engine.proofs.query_reads.note_join.Goals as goal

pub returns-in_ok-note-in-On : goal.returns-in_ok-note-in-On
returns-in_ok-note-in-On c =
    let p = c.args.place in
    let a = c.args.last.now in
    let b = c.note.new.last in
    let d = c.note_expression.new.last in
    on_ok c.note_expression.result (IsNoted p b d (λ P. EachRead P (expr_tree c.in-On.condition))) (IsNoted p a d (λ P. EachOfJoin P (join_tree c.args.join.now)))
    (λ two. subst (λ (x : Join). IsNoted p a d (λ P. EachOfJoin P (join_tree x))) (sym c.in-On.is) (both_noted p a b d (λ P. P c.in-On.source.table) (λ P. EachRead P (expr_tree c.in-On.condition)) c.in_ok-note-in-On.ensures two))
    c.note_expression.ensures
