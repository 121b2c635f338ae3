-- Filled series do not see the order of points: a key has one point at most.
use Rattle.std.proofs.Common.{◌≡◌, List, [], ◌∷◌, map, take, true, refl, sym, ap, ◌∙◌, subst}
use Rattle.std.specs.Prelude.{find, option_to_list}
use Rattle.std.specs.List.{filter}
use Rattle.vtl_lists.specs.Perm.{Perm}
use Rattle.vtl_lists.proofs.Perms.{Perm-map}
use Rattle.vtl_cell.specs.Row.{Row, same_key, same_row}
use Rattle.vtl_cell.proofs.Rows.{same_row-is, same_row-refl}
use Rattle.vtl_series.proofs.OrderLemmas.{in_no_order}
use Rattle.vtl_series.specs.declared.extent.Extent.{Extent}
use Rattle.vtl_tree.specs.Columns.{identifiers_of, places_in}
use Rattle.vtl_tree.specs.DataSet.{IsDataSet, is_point}
use Rattle.vtl_tree.specs.Environment.{DataSet}
use Rattle.vtl_tree.specs.Structure.{columns_of, key_width}
use Rattle.vtl_tree.specs.declared.structure.Component.{Component}
use Rattle.vtl_tree.specs.declared.structure.Structure.{Structure}
use Rattle.vtl_meaning.specs.Agreement.{values_in}
use Rattle.vtl_meaning.specs.Joined.{tuple_at, tuple_point}
use Rattle.vtl_meaning.proofs.AnalyticColumns.{identifier_cells}
use Rattle.vtl_meaning.proofs.JoinAgreements.{only_one}
use Rattle.vtl_meaning.proofs.JoinOrders.{find_respects}
use Rattle.vtl_timing.specs.Times.{fill_of, filled_keys, in_order, other_identifiers, time_place}
use Rattle.vtl_timing.proofs.FlowOrders.{cells_are_values}

module _ (a : Structure) (us vs : List Row) (h : IsDataSet a us) (q : Perm us vs) where
  abbrev first : DataSet
  first = record { structure = a; points = us }

  abbrev second : DataSet
  second = record { structure = a; points = vs }

  abbrev ids : List Component
  ids = identifiers_of a

  abbrev has_key : Row → Row → Row → Type 0
  has_key k x y = (same_row (values_in a ids x) k ≡ true) × (same_row (values_in a ids y) k ≡ true)

  keys_same : (k x y : Row) → is_point (columns_of a) x ≡ true → is_point (columns_of a) y ≡ true → same_row (values_in a ids x) k ≡ true → same_row (values_in a ids y) k ≡ true → same_key (key_width a) x y ≡ true
  keys_same k x y hx hy e f =
      let whole : (r : Row) → is_point (columns_of a) r ≡ true → values_in a ids r ≡ take (key_width a) r = λ r t. sym (cells_are_values (columns_of a) ids r) ∙ identifier_cells a r h.well_formed t in
      let same = sym (whole x hx) ∙ same_row-is (values_in a ids x) k e ∙ sym (same_row-is (values_in a ids y) k f) ∙ whole y hy in
      ap (λ z. same_row z (take (key_width a) y)) same ∙ same_row-refl (take (key_width a) y)

  point_alone : (k : Row) → filter (λ x. same_row (values_in a ids x) k) us ≡ option_to_list (find (λ x. same_row (values_in a ids x) k) us)
  point_alone k =
      only_one (λ x. is_point (columns_of a) x ≡ true) (same_key (key_width a)) (λ x. same_row (values_in a ids x) k) us h.typed h.distinct (λ x y i j e f. keys_same k x y i j e f)

  point_same : (k : Row) → tuple_point (tuple_at ids (first ∷ []) k) ≡ tuple_point (tuple_at ids (second ∷ []) k)
  point_same k =
      ap (λ o. tuple_point (record { identifiers = k; parts = record { structure = a; point = o } ∷ [] }))
      (find_respects (λ x. same_row (values_in a ids x) k) us vs q (point_alone k))

  pub fill_respects : (e : Extent) → Perm (fill_of e first) (fill_of e second)
  fill_respects e =
      let series = in_no_order e (time_place a) (places_in (columns_of a) (other_identifiers a)) q in
      subst (λ f. Perm (map (λ k. tuple_point (tuple_at ids (first ∷ []) k)) (filled_keys e first)) (map f (filled_keys e second))) (λ i k. point_same k i)
      (Perm-map (λ k. tuple_point (tuple_at ids (first ∷ []) k)) (Perm-map (in_order a) series))
