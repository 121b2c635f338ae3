use Rattle.std.proofs.Common.{◌≡◌, ◌<◌, ◌++◌, [], ◌∷◌, length, ap, sym, subst, ◌∙◌}
use Rattle.std.specs.List.{AllByRecursion}
use Rattle.std.proofs.lemmas.List.{length-map}
use Rattle.std.proofs.lemmas.List.Elements.{All-from_recursion}
use Rattle.vtl_rows.specs.declared.column.SortKey.{SortKey}
use Rattle.vtl_sets.specs.TableOf.{column_for}
use Rattle.vtl_tree.specs.Structure.{columns_of}
use Rattle.vtl_times.specs.InOrder.{group_keys, rising_key, time_keys}
use Rattle.vtl_times.proofs.OrderLemmas.{time_keys_within}
use Rattle.vtl_times.proofs.order.sorted_places.Goals as goal

pub places_by_columns-requires : goal.places_by_columns-requires
places_by_columns-requires c =
    let s = c.args.a.now.structure in
    let keys : c.deref.result.now ≡ time_keys s
    = c.deref.ensures.value ∙ c.in_ok-push.ensures.items
    ∙ (λ i. (c.in_ok-keys.ensures ∙ ap group_keys c.structure.ensures.structure) i ++ (c.rising.ensures ∙ ap rising_key c.requires.time) i ∷ []) in
    let many : length c.table.result.now.columns ≡ length (columns_of s) = ap length c.table.ensures.table.columns ∙ length-map (columns_of s) column_for in
    let within = subst (λ n. AllByRecursion (λ (k : SortKey). k.column < n) (time_keys s)) (sym many) (time_keys_within s c.structure.ensures.points.well_formed c.requires.one) in
    All-from_recursion (λ (k : SortKey). k.column < length c.table.result.now.columns) c.deref.result.now
    (subst (AllByRecursion (λ (k : SortKey). k.column < length c.table.result.now.columns)) (sym keys) within)
