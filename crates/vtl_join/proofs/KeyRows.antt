-- A full join is led by the tuples of identifiers that operands have, all_each once.
use Rattle.std.proofs.Common.{◌≡◌, ℕ, ◌+◌, false, not, List, [], ◌∷◌, ◌++◌, length, length-append, get_or, map, Option, Some, refl, sym, ap, ◌∙◌, append_assoc, arith}
use Rattle.std.specs.List.{filter, find, flat_map, range_with_len}
use Rattle.std.proofs.lemmas.List.{length-map, map-append}
use Rattle.vtl_lists.proofs.Alls.{all_each}
use Rattle.vtl_cell.specs.Row.{Row, column_of, same_row}
use Rattle.vtl_cell.specs.declared.cell.Cell.{Cell}
use Rattle.vtl_rows.specs.Places.{row_at}
use Rattle.vtl_rows.specs.Tables.{Listed, cells_at}
use Rattle.vtl_index.specs.Groups.{each_once, firsts}
use Rattle.vtl_index.specs.Leads.{leads_of}
use Rattle.vtl_index.specs.Seekers.{Sought, is_meant}
use Rattle.vtl_index.proofs.KeyGroups.{keys_once}
use Rattle.vtl_tree.specs.Environment.{DataSet}
use Rattle.vtl_tree.specs.Structure.{columns_of}
use Rattle.vtl_tree.specs.declared.structure.Component.{Component}
use Rattle.vtl_tree.specs.declared.structure.Structure.{Structure}
use Rattle.vtl_tuples.specs.Keys as tuples
use Rattle.vtl_tuples.proofs.Lists.{map-flat_map, map-map, flat_map_each, map_each}
use Rattle.vtl_meaning.specs.Agreement.{values_in}
use Rattle.vtl_tree.specs.Columns.{identifiers_of, places_in}
use Rattle.vtl_meaning.specs.Joined.{all_keys, full_tuples, is_whole, keys_in, tuple_at, tuple_point}
use Rattle.vtl_meaning.specs.LookUps.{value_named}
use Rattle.vtl_meaning.proofs.LookUps.{named_cells}
use Rattle.vtl_join.specs.Finding.{all_numbers, sought_at}
use Rattle.vtl_join.specs.Keys.{all_key_rows, key_cells, key_places, key_rows}
use Rattle.vtl_join.specs.Picks.{joined_rows, picks_at}
use Rattle.vtl_join.proofs.Beside.{all_rows, rows_by_lead, tuple_by}
use Rattle.vtl_join.proofs.Found.{Finds, find_each, sought_finds}

-- ---- the identifiers of a row of keys
cell_behind : (before : Row) (v : Cell) (more : Row) → column_of (length before) (before ++ v ∷ more) ≡ v
cell_behind [] v more = refl
cell_behind (u ∷ before) v more = cell_behind before v more

cells_behind : (at : ℕ) (before cells more : Row) → length before ≡ at → cells_at (range_with_len at (length cells)) (before ++ (cells ++ more)) ≡ cells
cells_behind at before [] more e = refl
cells_behind at before (v ∷ cells) more e =
    let next : length (before ++ v ∷ []) ≡ at + 1 = let l = length-append before (v ∷ []) in omega (arith, l, e) in
    ap (λ x. x ∷ cells_at (range_with_len (at + 1) (length cells)) (before ++ (v ∷ cells ++ more))) (ap (λ i. column_of i (before ++ (v ∷ cells ++ more))) (sym e) ∙ cell_behind before v (cells ++ more))
    ∙ ap (λ l. v ∷ l) (ap (cells_at (range_with_len (at + 1) (length cells))) (sym (append_assoc before (v ∷ []) (cells ++ more))) ∙ cells_behind (at + 1) (before ++ v ∷ []) cells more next)

key_of_row : (ids : List Component) (a : Structure) (q : Row) → key_cells ids (cells_at (key_places ids a) q) ≡ values_in a ids q
key_of_row ids a q =
    let vs = values_in a ids q in
    let row : cells_at (key_places ids a) q ≡ vs ++ column_of (length (columns_of a)) q ∷ [] =
    map-append (λ i. column_of i q) (places_in (columns_of a) ids) (length (columns_of a) ∷ []) ∙ ap (λ l. l ++ column_of (length (columns_of a)) q ∷ []) (named_cells (columns_of a) ids q) in
    ap (key_cells ids) row ∙ ap (λ n. cells_at (range_with_len 0 n) (vs ++ column_of (length (columns_of a)) q ∷ [])) (sym (length-map ids (λ y. value_named (columns_of a) q y.name)))
    ∙ cells_behind 0 [] vs (column_of (length (columns_of a)) q ∷ []) refl

keys_of_rows : (ids : List Component) (ds : List DataSet) → map (key_cells ids) (all_key_rows ids ds) ≡ flat_map (keys_in ids) ds
keys_of_rows ids ds =
    map-flat_map (key_cells ids) (key_rows ids) ds
    ∙ flat_map_each (λ d. map (key_cells ids) (key_rows ids d)) (keys_in ids)
    (λ d. map-map (key_cells ids) (cells_at (key_places ids d.structure)) d.points ∙ map_each (λ q. key_cells ids (cells_at (key_places ids d.structure) q)) (values_in d.structure ids) (key_of_row ids d.structure) d.points) ds

same_once : (rows : List Row) → each_once same_row rows ≡ tuples.each_once same_row rows
same_once [] = refl
same_once (r ∷ rows) = ap (λ l. r ∷ filter (λ y. not (same_row r y)) l) (same_once rows)

-- the first rows of the groups by identifiers have all_each tuple of identifiers once
pub lead_keys : (ids : List Component) (ds : List DataSet) → map (key_cells ids) (map (row_at (all_key_rows ids ds)) (firsts (leads_of (key_cells ids) (all_key_rows ids ds)))) ≡ all_keys ids ds
lead_keys ids ds =
    let rows = all_key_rows ids ds in
    map-map (key_cells ids) (row_at rows) (firsts (leads_of (key_cells ids) rows)) ∙ keys_once (key_cells ids) rows ∙ ap (each_once same_row) (keys_of_rows ids ds) ∙ same_once (flat_map (keys_in ids) ds)

-- ---- the rows that are joined
abbrev part_at_key : List Component → Row → DataSet → Option Row
part_at_key ids r d = tuples.item_at same_row (values_in d.structure ids) d.points (key_cells ids r)

at_key_finds : (ids : List Component) (i : ℕ) (r : Row) (d : DataSet) → Finds i r (part_at_key ids r) (Some (sought_at ids d)) d
at_key_finds ids i r d =
    let test : is_meant (sought_at ids d) r ≡ (λ q. same_row (values_in d.structure ids q) (key_cells ids r)) = λ j q. same_row (named_cells (columns_of d.structure) ids q j) (key_cells ids r) in
    sought_finds i r (part_at_key ids r) (sought_at ids d) d refl (ap (λ p. find p d.points) test)

pub full_rows : (lead : Listed) (r : DataSet) (ds : List DataSet) → map (key_cells (identifiers_of r.structure)) lead.rows ≡ all_keys (identifiers_of r.structure) ds
    → joined_rows lead ds (picks_at 0 (range_with_len 0 (length (identifiers_of r.structure)))) (all_numbers false (map (λ d. Some (sought_at (identifiers_of r.structure) d)) ds) lead.rows (range_with_len 0 (length lead.rows))) ≡ map tuple_point (full_tuples r ds)
full_rows lead r ds keys =
    let ids = identifiers_of r.structure in
    let f : DataSet → Option Sought = λ d. Some (sought_at ids d) in
    rows_by_lead lead ds (map f ds) (range_with_len 0 (length ids)) (part_at_key ids)
    (λ i h. find_each i (get_or lead.rows i []) (part_at_key ids (get_or lead.rows i [])) f ds (all_each (λ d. Finds i (get_or lead.rows i []) (part_at_key ids (get_or lead.rows i [])) (f d) d) (at_key_finds ids i (get_or lead.rows i [])) ds))
    (length-map ds f) false
    ∙ all_rows (λ k. tuple_point (tuple_by (key_cells ids) (part_at_key ids) ds k)) (λ k. is_whole (tuple_by (key_cells ids) (part_at_key ids) ds k)) lead.rows
    ∙ sym (map-map (λ k. tuple_point (tuple_at ids ds k)) (key_cells ids) lead.rows) ∙ ap (map (λ k. tuple_point (tuple_at ids ds k))) keys
    ∙ sym (map-map tuple_point (tuple_at ids ds) (all_keys ids ds))
