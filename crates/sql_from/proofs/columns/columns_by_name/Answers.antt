use Rattle.std.proofs.Common.{◌∙◌, ◌++◌, ◌∷◌, [], map, take, arith, ap, sym, subst}
use Rattle.std.proofs.lemmas.List.{length-map, length-take-le}
use Rattle.sql_tree.specs.Trees.{Text}
use Rattle.sql_meaning.specs.Tables.{column_entry}
use Rattle.sql_from.specs.Columns.{AreFound}
use Rattle.sql_from.proofs.Named.{columns_more, put_found, skip_found}
use Rattle.sql_from.proofs.columns.columns_by_name.Goals.{then-not-has+in_ok-share+in_ok-put, else-not-has}
use Rattle.sql_from.proofs.columns.columns_by_name.Goals as goal

pub loop-place-preserved : goal.loop-place-preserved
loop-place-preserved c =
    let columns = c.args.columns.now in
    let i = c.loop-place.place in
    let x = c.index-columns-place.result in
    let es = map column_entry (take i columns) in
    let many = length-take-le i columns (omega arith) in
    let mapped = length-map (take i columns) column_entry in
    let next : AreFound (es ++ (x.name, x.kind) ∷ []) c.if-not-has.named =
    elim c.if-not-has.branch [
      | then-not-has+in_ok-share+in_ok-put w ↦ put_found es c.loop-place.named x.name x.kind c.loop-place.invariant i c.if-not-has.named (omega (arith, many, mapped)) (w.named-is ∙ w.in_ok-put.ensures.put ∙ ap (λ (n : Text). c.loop-place.named ++ (n, record { place = i; kind = x.kind }) ∷ []) w.in_ok-share.ensures)
      | else-not-has w ↦ subst (AreFound (es ++ (x.name, x.kind) ∷ [])) (sym w.named-is) (skip_found es c.loop-place.named x.name x.kind c.loop-place.invariant (sym c.has.ensures ∙ w.if-not-has.false))
    ] in
    columns_more columns i x c.loop-place.named c.if-not-has.named c.loop-place-test.true c.index-columns-place.is next
