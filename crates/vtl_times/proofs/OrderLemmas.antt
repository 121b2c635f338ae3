-- Points by series, in the order of their times.
use Rattle.std.proofs.Common.{◌≡◌, ℕ, zero, suc, ◌<◌, List, [], ◌∷◌, ◌++◌, length, map, ap, arith}
use Rattle.std.specs.List.{AllByRecursion}
use Rattle.std.proofs.lemmas.List.{length-append}
use Rattle.vtl_lists.proofs.Alls.{all_append}
use Rattle.vtl_rows.specs.declared.column.SortKey.{SortKey}
use Rattle.vtl_tree.specs.Columns.{identifiers_of, others_of, place_of}
use Rattle.vtl_tree.specs.Structure.{IsStructure, columns_of}
use Rattle.vtl_tree.specs.declared.structure.Component.{Component}
use Rattle.vtl_tree.specs.declared.structure.Structure.{Structure}
use Rattle.vtl_meaning.specs.Made.{AreAmong}
use Rattle.vtl_meaning.proofs.Kept.{column_within}
use Rattle.vtl_meaning.proofs.Places.{columns_split}
use Rattle.vtl_timing.specs.Times.{HasTime, other_identifiers, time_place}
use Rattle.vtl_timing.proofs.SeriesColumns.{others_among, time_only}
use Rattle.vtl_times.specs.InOrder.{group_keys, rising_key, time_keys}

-- ---- the keys of the sort are columns
keys_within : (xs ys : List Component) → AreAmong ys xs → AllByRecursion (λ (k : SortKey). k.column < length xs) (map (λ y. rising_key (place_of y.name xs)) ys)
keys_within xs [] all = tt
keys_within xs (y ∷ ys) all = (column_within (place_of y.name xs) y.name y.kind xs all.0, keys_within xs ys all.1)

pub time_keys_within : (a : Structure) → IsStructure a → HasTime a → AllByRecursion (λ (k : SortKey). k.column < length (columns_of a)) (time_keys a)
time_keys_within a well h =
    let xs = columns_of a in
    let one = time_only a h in
    let wide : length xs ≡ length (identifiers_of a ++ others_of a) = ap length (columns_split a) in
    let many = length-append (identifiers_of a) (others_of a) in
    let last : time_place a < length xs = omega (arith, wide, many, one.within) in
    all_append (λ (k : SortKey). k.column < length xs) (group_keys a) (rising_key (time_place a) ∷ []) (keys_within xs (other_identifiers a) (others_among a well)) (last, tt)
