use Rattle.std.proofs.Common.{◌≡◌, ◌<◌, length, All, sym, ap, ◌∙◌, subst}
use Rattle.std.proofs.lemmas.List.{length-map}
use Rattle.vtl_rows.specs.Places.{IsOrderOf}
use Rattle.vtl_tree.specs.Shown.{shown}
use Rattle.vtl_tree.specs.Structure.{columns_of}
use Rattle.vtl_tree.specs.Columns.{identifiers_of}
use Rattle.vtl_sets.specs.TableOf.{column_for}
use Rattle.vtl_window.specs.Sorted.{sort_keys, tie_breakers}
use Rattle.vtl_window.proofs.SortLemmas.{keys_within}
use Rattle.vtl_window.proofs.values.sorted_places.Goals as goal

pub places_by_columns-requires : goal.places_by_columns-requires
places_by_columns-requires c =
    let a = c.args.a.now.structure in
    let o = c.args.call.op.now in
    let w = c.args.call.window.now in
    let xs = columns_of a in
    let ids : shown c.deref.result.now ≡ tie_breakers o (identifiers_of a) = ap shown c.deref.ensures.value ∙ c.in_ok-identifiers.ensures ∙ ap (λ b. tie_breakers o (identifiers_of b)) c.structure.ensures.structure in
    let keys : c.deref-2.result.now ≡ sort_keys xs (tie_breakers o (identifiers_of a)) w = c.deref-2.ensures.value ∙ c.in_ok-keys.ensures ∙ (λ j. sort_keys (c.requires.columns j) (ids j) w) in
    let columns : length c.table.result.now.columns ≡ length xs = ap length c.table.ensures.table.columns ∙ length-map xs column_for in
    subst (λ n. All (λ k. k.column < n) c.deref-2.result.now) (sym columns)
    (subst (All (λ k. k.column < length xs)) (sym keys) (keys_within a o w c.requires.partition c.requires.order))

pub returns-clause-within : goal.returns-clause-within
returns-clause-within c = subst (λ rows. All (λ i. i < length rows) c.in_ok-places.places.items) c.table.ensures.points c.in_ok-places.ensures.within

pub returns-clause-order : goal.returns-clause-order
returns-clause-order c =
    let a = c.args.a.now.structure in
    let o = c.args.call.op.now in
    let w = c.args.call.window.now in
    let xs = columns_of a in
    let places = c.in_ok-places.places.items in
    let ids : shown c.deref.result.now ≡ tie_breakers o (identifiers_of a) = ap shown c.deref.ensures.value ∙ c.in_ok-identifiers.ensures ∙ ap (λ b. tie_breakers o (identifiers_of b)) c.structure.ensures.structure in
    let keys : c.deref-2.result.now ≡ sort_keys xs (tie_breakers o (identifiers_of a)) w = c.deref-2.ensures.value ∙ c.in_ok-keys.ensures ∙ (λ j. sort_keys (c.requires.columns j) (ids j) w) in
    subst (λ ks. IsOrderOf ks c.args.a.now.points places) keys (subst (λ rows. IsOrderOf c.deref-2.result.now rows places) c.table.ensures.points c.in_ok-places.ensures.order)
