use Rattle.std.proofs.Common.{◌≡◌, ℕ, ◌<◌, List, [], ◌∷◌, ◌++◌, map, sym, ap, subst, All, ◌∙◌}
use Rattle.std.specs.Prelude.{IfOk}
use Rattle.std.specs.List.{range_with_len}
use Rattle.vtl_cell.specs.Row.{Row}
use Rattle.vtl_rows.specs.Gathered.{picked, picked_kind, pieces}
use Rattle.vtl_rows.specs.Tables.{cells_at, listed}
use Rattle.vtl_rows.specs.declared.gather.Pick.{Pick}
use Rattle.vtl_tree.specs.Shown.{shown}
use Rattle.vtl_join.specs.Keys.{key_places}
use Rattle.vtl_join.specs.Picks.{picks_at}
use Rattle.vtl_join.proofs.KeyTables.{key_kinds_are, part_below, rows_of_part}
use Rattle.vtl_join.proofs.keys.keys_of.Goals as goal

pub gather_beside-requires-clause-within : goal.gather_beside-requires-clause-within
gather_beside-requires-clause-within c =
    let ids = shown c.args.identifiers.now in
    let picks : c.deref-3.result.now ≡ picks_at 0 (key_places ids c.args.operand.now.structure) =
    c.deref-3.ensures.value ∙ c.in_ok-push_picks.ensures ∙ ap (λ l. l ++ picks_at 0 c.deref.result.now) c.in_ok-picks.ensures.items ∙ ap (picks_at 0) (c.deref.ensures.value ∙ c.in_ok-places.ensures ∙ ap (key_places ids) c.structure.ensures.structure) in
    subst (λ (ps : List Pick). All (λ p. p.part < 1) ps) (sym picks) (part_below (key_places ids c.args.operand.now.structure))

pub gather_beside-requires-clause-kinds : goal.gather_beside-requires-clause-kinds
gather_beside-requires-clause-kinds c =
    let ids = shown c.args.identifiers.now in
    let t = listed c.table-table.result.now in
    let picks : c.deref-3.result.now ≡ picks_at 0 (key_places ids c.args.operand.now.structure) =
    c.deref-3.ensures.value ∙ c.in_ok-push_picks.ensures ∙ ap (λ l. l ++ picks_at 0 c.deref.result.now) c.in_ok-picks.ensures.items ∙ ap (picks_at 0) (c.deref.ensures.value ∙ c.in_ok-places.ensures ∙ ap (key_places ids) c.structure.ensures.structure) in
    c.in_ok-key_columns.ensures ∙ key_kinds_are ids c.args.operand.now t c.table-table.ensures.table.columns c.requires ∙ ap (λ (ps : List Pick). map (picked_kind (t ∷ [])) ps) (sym picks)

pub returns-clause-rows : goal.returns-clause-rows
returns-clause-rows c =
    let ids = shown c.args.identifiers.now in
    let d = c.args.operand.now in
    let t = listed c.table-table.result.now in
    let picks : c.deref-3.result.now ≡ picks_at 0 (key_places ids d.structure) =
    c.deref-3.ensures.value ∙ c.in_ok-push_picks.ensures ∙ ap (λ l. l ++ picks_at 0 c.deref.result.now) c.in_ok-picks.ensures.items ∙ ap (picks_at 0) (c.deref.ensures.value ∙ c.in_ok-places.ensures ∙ ap (key_places ids) c.structure.ensures.structure) in
    let numbers = c.deref-2.ensures.value ∙ c.in_ok-rows.ensures ∙ ap (range_with_len 0) c.len-2.ensures.rows in
    let rows = ap (λ (ps : List Pick). map (picked (t ∷ []) ps) (pieces 1 c.deref-2.result.now)) picks ∙ ap (λ (ns : List ℕ). map (picked (t ∷ []) (picks_at 0 (key_places ids d.structure))) (pieces 1 ns)) numbers
    ∙ rows_of_part t (key_places ids d.structure) ∙ ap (map (cells_at (key_places ids d.structure))) c.table-table.ensures.points in
    subst (λ (l : List Row). IfOk c.gather_beside.result (λ u. u.rows ≡ l)) rows c.gather_beside.ensures.rows
