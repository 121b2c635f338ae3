use Rattle.std.proofs.Common.{◌≡◌, ◌+◌, ◌++◌, ◌∷◌, [], map, append_assoc, arith, ap, sym, ◌∙◌}
use Rattle.std.specs.List.{range_with_len}
use Rattle.std.proofs.lemmas.List.FromFn.{map-range_with_len_more}
use Rattle.vtl_cell.specs.Sorted.{rising}
use Rattle.vtl_rows.specs.Keys.{key_of}
use Rattle.sql_engine.proofs.orders.push_first.Goals as goal

pub loop-column-preserved : goal.loop-column-preserved
loop-column-preserved c =
    let i = c.loop-column.column in
    let z : 0 + i ≡ i = omega arith in
    let before = map key_of c.args.keys.now.items in
    c.in_ok-push_rising.ensures ∙ ap (λ l. l ++ map rising (i ∷ [])) c.loop-column.invariant
    ∙ append_assoc before (map rising (range_with_len 0 i)) (map rising (i ∷ [])) ∙ ap (λ l. before ++ l) (sym (map-range_with_len_more rising 0 i i z))
