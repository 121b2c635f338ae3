-- An aggregate of an aggregate: over coarser groups it gives what the first gives of them.
use Rattle.std.proofs.Common.{◌≡◌, ℕ, Bool, true, false, ◌||◌, cond, List, [], ◌∷◌, ◌++◌, map, length, Ok, Err, Option, Some, None, refl, sym, ap, ◌∙◌, subst, true≢false}
use Rattle.std.specs.Prelude.{IfOk}
use Rattle.std.specs.List.{AllByRecursion, filter, flat_map, list_any}
use Rattle.std.proofs.lemmas.List.{append-nil, length-map}
use Rattle.vtl_cell.specs.Groups.{group_value}
use Rattle.vtl_cell.specs.Outcome.{Outcome}
use Rattle.vtl_cell.specs.Outcomes.{all_of}
use Rattle.vtl_lists.specs.Perm.{Perm}
use Rattle.vtl_cell.specs.Row.{Row, column_of, same_row}
use Rattle.vtl_decimal.specs.Settings.{Settings}
use Rattle.vtl_cell.specs.declared.cell.Cell.{Cell}
use Rattle.vtl_cell.specs.declared.operator.AggKind.{AggKind}
use Rattle.vtl_cell.specs.declared.operator.AggKind.TheVariants as agg
use Rattle.vtl_cell.proofs.Aggregates.{count-Perm, group-Perm}
use Rattle.vtl_lists.proofs.Perms.{Perm-map}
use Rattle.vtl_lists.proofs.Sorts.{AllByRecursion-filter}
use Rattle.vtl_lists.proofs.Alls.{all_more}
use Rattle.vtl_rows.specs.Tables.{cells_at}
use Rattle.vtl_tree.specs.Environment.{DataSet}
use Rattle.vtl_tree.specs.Structure.{columns_of, names_of}
use Rattle.vtl_tree.specs.declared.expression.AggCall.{AggCall}
use Rattle.vtl_tree.specs.declared.structure.Component.{Component}
use Rattle.vtl_tree.specs.declared.structure.Structure.{Structure}
use Rattle.vtl_tree.specs.declared.specifications.AggItems.TheVariants as items
use Rattle.vtl_tuples.specs.Keys.{each_once}
use Rattle.vtl_tuples.proofs.Lists.{filter-map, filter_each, map-map, map_each, map_same}
use Rattle.vtl_tree.specs.Columns.{identifiers_of, others_of, place_of}
use Rattle.vtl_tree.specs.Measures.{given_measure, measures}
use Rattle.vtl_tree.specs.Names.{is_among}
use Rattle.vtl_meaning.specs.Aggregates.{Made, aggregate_of, condition_of, each_group, made_of, measure_call}
use Rattle.vtl_meaning.specs.Points.{cell_or_null}
use Rattle.vtl_meaning.specs.GroupExpressions.{aggregated}
use Rattle.vtl_meaning.specs.Groups.{keys_by, places_named, points_with}
use Rattle.vtl_meaning.specs.AggregateShapes.{IsAggregated, made_components, of_measure}
use Rattle.vtl_meaning.proofs.GroupPoints.{all_once}
use Rattle.vtl_meaning.proofs.Places.{columns_split}
use Rattle.vtl_aggregate_laws.specs.Parts.{gathered_by, grouped}
use Rattle.vtl_aggregate_laws.proofs.ColumnCells.{behind, by_name, key_is}
use Rattle.vtl_aggregate_laws.proofs.Counts.{count_of_parts}
use Rattle.vtl_aggregate_laws.proofs.Evaluated.{IsValue, Are, all_values, made_are, made_same}
use Rattle.vtl_aggregate_laws.proofs.Firsts.{greatest_of_parts, least_of_parts}
use Rattle.vtl_aggregate_laws.proofs.Pieces.{each_among, passing_parts}
use Rattle.vtl_aggregate_laws.proofs.Structures.{IsMeasureOf, coarse_known, columns_known}
use Rattle.vtl_aggregate_laws.proofs.Sums.{sum_of_sums}
use Rattle.vtl_aggregate_laws.proofs.Twice.{once_of_once}
use Rattle.vtl_aggregate_laws.proofs.Having.{at_name}

-- ---- what gathers
-- of each measure, in its order
module _ (g : AggKind) where
  pub record Gathers : Type 0 where
    pub call : (name : List ℕ) → measure_call g name ≡ record { kind = g; component = Some name }
    pub shape : (xs : List Component) → made_components (items.Measures g) xs ≡ map (given_measure (of_measure g) None) (measures xs)

pub gathers : (f g : AggKind) → gathered_by f ≡ Some g → Gathers g
gathers agg.Sum g e = let same : agg.Sum ≡ g = cc in subst Gathers same (record { call = λ name. refl; shape = λ xs. refl })
gathers agg.Count g e = let same : agg.Sum ≡ g = cc in subst Gathers same (record { call = λ name. refl; shape = λ xs. refl })
gathers agg.Min g e = let same : agg.Min ≡ g = cc in subst Gathers same (record { call = λ name. refl; shape = λ xs. refl })
gathers agg.Max g e = let same : agg.Max ≡ g = cc in subst Gathers same (record { call = λ name. refl; shape = λ xs. refl })
gathers agg.Avg g e = cc
gathers agg.Median g e = cc

-- the value of a measure's aggregate over points
abbrev value : Settings → List Component → AggKind → List ℕ → List Row → Outcome Cell
value p xs f name points = aggregated p xs (measure_call f name).kind (measure_call f name).component points

module _ (p : Settings) (xs : List Component) where
  call-Perm : (a : AggCall) (us vs : List Row) → Perm us vs → aggregated p xs a.kind a.component us ≡ aggregated p xs a.kind a.component vs
  call-Perm a us vs q = go a.component
    where
      go : (o : Option (List ℕ)) → aggregated p xs a.kind o us ≡ aggregated p xs a.kind o vs
      go None = count-Perm p us vs q
      go (Some name) = group-Perm p a.kind (map (column_of (place_of name xs)) us) (map (column_of (place_of name xs)) vs) (Perm-map (column_of (place_of name xs)) q)

  -- the values of parts, one at least, gathered
  gathered : (f g : AggKind) → gathered_by f ≡ Some g → (name : List ℕ) (points : Row → List Row) (k : Row) (ks : List Row) (vs : List Cell)
      → all_of (map (λ j. value p xs f name (points j)) (k ∷ ks)) ≡ Ok vs → group_value p g vs ≡ value p xs f name (flat_map points (k ∷ ks))
  gathered agg.Sum g e name points k ks vs h =
      let same : agg.Sum ≡ g = cc in
      ap (λ z. group_value p z vs) (sym same) ∙ sum_of_sums p (place_of name xs) points (k ∷ ks) vs h
  gathered agg.Count g e name points k ks vs h =
      let same : agg.Sum ≡ g = cc in
      ap (λ z. group_value p z vs) (sym same) ∙ count_of_parts p points k ks vs h
  gathered agg.Min g e name points k ks vs h =
      let same : agg.Min ≡ g = cc in
      ap (λ z. group_value p z vs) (sym same) ∙ least_of_parts p (place_of name xs) points (k ∷ ks) vs h
  gathered agg.Max g e name points k ks vs h =
      let same : agg.Max ≡ g = cc in
      ap (λ z. group_value p z vs) (sym same) ∙ greatest_of_parts p (place_of name xs) points (k ∷ ks) vs h
  gathered agg.Avg g e name points k ks vs h = cc
  gathered agg.Median g e name points k ks vs h = cc

-- ---- lists
-- where some row of a list passes, some is left
record SomeLeft (rows : List Row) : Type 0 where
  first : Row
  later : List Row
  is : rows ≡ first ∷ later

some_left : (t : Row → Bool) (f : Row → Row) (ks : List Row) → list_any t (map f ks) ≡ true → SomeLeft (filter (λ k. t (f k)) ks)
some_left t f [] e = absurd (true≢false (sym e))
some_left t f (k ∷ ks) e = go (t (f k)) e (some_left t f ks)
  where
    go : (b : Bool) → (b || list_any t (map f ks)) ≡ true → (list_any t (map f ks) ≡ true → SomeLeft (filter (λ j. t (f j)) ks)) → SomeLeft (cond b (k ∷ filter (λ j. t (f j)) ks) (filter (λ j. t (f j)) ks))
    go true h ih = record { first = k; later = filter (λ j. t (f j)) ks; is = refl }
    go false h ih = ih h

all_mapped : (f : Row → Row) (P : Row → Type 0) → ((r : Row) → P (f r)) → (rows : List Row) → AllByRecursion P (map f rows)
all_mapped f P h [] = tt
all_mapped f P h (r ∷ rows) = (h r, all_mapped f P h rows)

-- ---- one aggregate over the other
module _ (p : Settings) (f g : AggKind) (fine coarse : List (List ℕ)) (d : DataSet) (middle s : Structure) (i : IsAggregated (grouped f fine) d.structure middle) (j : IsAggregated (grouped g coarse) middle s) where
  abbrev columns : List Component
  columns = columns_of d.structure

  abbrev ids : List Component
  ids = identifiers_of middle

  abbrev others : List Component
  others = others_of middle

  abbrev finely : List ℕ
  finely = places_named fine columns

  abbrev coarsely : List ℕ
  coarsely = places_named coarse columns

  abbrev again : List ℕ
  again = places_named coarse (columns_of middle)

  abbrev keys : List Row
  keys = keys_by finely d.points

  abbrev in_group : Row → List Row
  in_group k = points_with finely d.points k

  -- the cell of a name in the point of a group, and that point
  abbrev cell : Row → List ℕ → Cell
  cell k name = cell_or_null (value p columns f name (in_group k))

  abbrev point : Row → Row
  point k = k ++ map (λ y. cell k y.name) others

  -- the coarser key of a point that was made
  abbrev up : Row → Row
  up k = cells_at again (point k)

  key_of : (r : Row) → cells_at finely r ≡ map (λ x. column_of (place_of x.name columns) r) ids
  key_of r = ap (λ names. cells_at (places_named names columns) r) (sym i.grouping) ∙ key_is ids columns r

  up_is : (r : Row) → up (cells_at finely r) ≡ cells_at coarsely r
  up_is r = walk coarse (coarse_known g coarse middle s j)
    where
      rest : Row
      rest = map (λ y. cell (cells_at finely r) y.name) others

      walk : (names : List (List ℕ)) → AllByRecursion (λ name. is_among name (names_of ids) ≡ true) names → cells_at (places_named names (columns_of middle)) (cells_at finely r ++ rest) ≡ cells_at (places_named names columns) r
      walk [] all = refl
      walk (name ∷ names) all =
          let at : column_of (place_of name (columns_of middle)) (cells_at finely r ++ rest) ≡ column_of (place_of name columns) r =
          ap (λ zs. column_of (place_of name zs) (cells_at finely r ++ rest)) (columns_split middle)
          ∙ ap (λ k. column_of (place_of name (ids ++ others)) (k ++ rest)) (key_of r)
          ∙ by_name (λ n. column_of (place_of n columns) r) name ids others rest all.0 in
          λ n. at n ∷ walk names all.1 n

  -- the keys are those of all points
  keys_are : keys_by again (map point keys) ≡ keys_by coarsely d.points
  keys_are =
      ap (each_once same_row) (map-map (cells_at again) point keys)
      ∙ once_of_once up (map (cells_at finely) d.points)
      ∙ ap (each_once same_row) (map-map up (cells_at finely) d.points ∙ map_each (λ r. up (cells_at finely r)) (cells_at coarsely) up_is d.points)

  abbrev IsKey : Row → Type 0
  IsKey k = length k ≡ length ids

  keys_wide : AllByRecursion IsKey keys
  keys_wide = all_once IsKey (map (cells_at finely) d.points) (all_mapped (cells_at finely) IsKey (λ r. ap length (key_of r) ∙ length-map ids (λ (x : Component). column_of (place_of x.name columns) r)) d.points)

  cell_there : (name : List ℕ) (k : Row) → IsMeasureOf g coarse middle s j name → IsKey k → column_of (place_of name (columns_of middle)) (point k) ≡ cell k name
  cell_there name k m w =
      let made = map (λ y. cell k y.name) others in
      ap (λ zs. column_of (place_of name zs) (point k)) (columns_split middle)
      ∙ behind name ids others k made w m.no_identifier
      ∙ (λ n. column_of (place_of name (sym (append-nil others) n)) (sym (append-nil made) n))
      ∙ by_name (cell k) name others [] [] m.measure

  module _ (e : gathered_by f ≡ Some g) (no_fault : AllByRecursion (λ k. AllByRecursion (λ y. IsValue (value p columns f y.name (in_group k))) others) keys) where
    values_there : (name : List ℕ) → IsMeasureOf g coarse middle s j name → AllByRecursion (λ k. IsValue (value p columns f name (in_group k))) keys
    values_there name m = walk keys no_fault
      where
        walk : (ks : List Row) → AllByRecursion (λ k. AllByRecursion (λ y. IsValue (value p columns f y.name (in_group k))) others) ks → AllByRecursion (λ k. IsValue (value p columns f name (in_group k))) ks
        walk [] all = tt
        walk (k ∷ ks) all = (at_name (λ n. IsValue (value p columns f n (in_group k))) name others all.0 m.measure, walk ks all.1)

    cells_there : (name : List ℕ) → IsMeasureOf g coarse middle s j name → AllByRecursion (λ k. column_of (place_of name (columns_of middle)) (point k) ≡ cell k name) keys
    cells_there name m = all_more IsKey (λ k. column_of (place_of name (columns_of middle)) (point k) ≡ cell k name) (λ k w. cell_there name k m w) keys keys_wide

    -- over the finer groups of a coarser one, what they gave is gathered to what all its points give
    gathered_again : (name : List ℕ) → IsMeasureOf g coarse middle s j name → (key : Row) → list_any (λ k. same_row k key) (map up keys) ≡ true
        → group_value p g (map (column_of (place_of name (columns_of middle))) (points_with again (map point keys) key)) ≡ value p columns f name (points_with coarsely d.points key)
    gathered_again name m key h =
        let t : Row → Bool = λ k. same_row (up k) key in
        let at : Row → Cell = column_of (place_of name (columns_of middle)) in
        let of : Row → Outcome Cell = λ k. value p columns f name (in_group k) in
        let left : List Row = filter t keys in
        let some : SomeLeft left = some_left (λ k. same_row k key) up keys h in
        let cells : map at (points_with again (map point keys) key) ≡ map (λ k. cell k name) left =
        ap (map at) (filter-map (λ q. same_row (cells_at again q) key) point keys)
        ∙ map-map at point left
        ∙ map_same (λ k. at (point k)) (λ k. cell k name) left (AllByRecursion-filter (λ k. at (point k) ≡ cell k name) t keys (cells_there name m)) in
        let all : all_of (map of left) ≡ Ok (map (λ k. cell k name) left) = all_values of left (AllByRecursion-filter (λ k. IsValue (of k)) t keys (values_there name m)) in
        let whole : group_value p g (map (λ k. cell k name) left) ≡ value p columns f name (flat_map in_group left) =
        subst (λ (ks : List Row). all_of (map of ks) ≡ Ok (map (λ k. cell k name) ks) → group_value p g (map (λ k. cell k name) ks) ≡ value p columns f name (flat_map in_group ks)) (sym some.is)
        (λ a. gathered p columns f g e name in_group some.first some.later (map (λ k. cell k name) (some.first ∷ some.later)) a) all in
        ap (group_value p g) cells
        ∙ whole
        ∙ call-Perm p columns (measure_call f name) (flat_map in_group left) (filter (λ r. t (cells_at finely r)) d.points) (passing_parts finely t d.points)
        ∙ ap (value p columns f name) (filter_each (λ r. t (cells_at finely r)) (λ r. same_row (cells_at coarsely r) key) (λ r. ap (λ k. same_row k key) (up_is r)) d.points)

    abbrev made_again : Made
    made_again = made_of p (grouped g coarse) (columns_of middle) (map point keys)

    abbrev made_at_once : Made
    made_at_once = made_of p (grouped f coarse) columns d.points

    abbrev IsUp : Row → Type 0
    IsUp key = list_any (λ k. same_row k key) (map up keys) ≡ true

    same_at : (key : Row) → IsUp key → AllByRecursion (λ y. made_again y key ≡ made_at_once y key) (others_of s)
    same_at key h = walk (others_of s) (columns_known g coarse middle s j i.well_formed ((gathers f g e).shape middle.components))
      where
        walk : (ys : List Component) → AllByRecursion (λ y. IsMeasureOf g coarse middle s j y.name) ys → AllByRecursion (λ y. made_again y key ≡ made_at_once y key) ys
        walk [] all = tt
        walk (y ∷ ys) all = (
          ap (λ (a : AggCall). aggregated p (columns_of middle) a.kind a.component (points_with again (map point keys) key)) ((gathers f g e).call y.name) ∙ gathered_again y.name all.0 key h,
          walk ys all.1,
        )

    ups : AllByRecursion IsUp (keys_by again (map point keys))
    ups = all_once IsUp (map (cells_at again) (map point keys)) (subst (AllByRecursion IsUp) (sym (map-map (cells_at again) point keys)) (each_among (map up keys)))

    pub gathers_all : aggregate_of p (grouped g coarse) (record { structure = middle; points = map point keys }) s ≡ aggregate_of p (grouped f coarse) d s
    gathers_all =
        made_same (condition_of p (grouped g coarse) (columns_of middle) (map point keys)) (condition_of p (grouped f coarse) columns d.points) made_again made_at_once (others_of s) (keys_by again (map point keys))
        (all_more IsUp (λ key. AllByRecursion (λ y. made_again y key ≡ made_at_once y key) (others_of s)) same_at (keys_by again (map point keys)) ups)
        ∙ ap (each_group (condition_of p (grouped f coarse) columns d.points) None made_at_once (others_of s)) keys_are

pub aggregate_of_aggregate : (p : Settings) (f g : AggKind) (fine coarse : List (List ℕ)) (d : DataSet) (middle s : Structure) → gathered_by f ≡ Some g → IsAggregated (grouped f fine) d.structure middle → IsAggregated (grouped g coarse) middle s
    → IfOk (aggregate_of p (grouped f fine) d middle) (λ points. aggregate_of p (grouped g coarse) (record { structure = middle; points = points }) s ≡ aggregate_of p (grouped f coarse) d s)
aggregate_of_aggregate p f g fine coarse d middle s e i j = go (aggregate_of p (grouped f fine) d middle) refl
  where
    go : (m : Outcome (List Row)) → aggregate_of p (grouped f fine) d middle ≡ m → IfOk m (λ points. aggregate_of p (grouped g coarse) (record { structure = middle; points = points }) s ≡ aggregate_of p (grouped f coarse) d s)
    go (Ok out) h =
        let xs = columns_of d.structure in
        let at = condition_of p (grouped f fine) xs d.points in
        let made = made_of p (grouped f fine) xs d.points in
        let are : Are at made (others_of middle) (keys_by (places_named fine xs) d.points) out = made_are at made (others_of middle) (keys_by (places_named fine xs) d.points) out h in
        subst (λ points. aggregate_of p (grouped g coarse) (record { structure = middle; points = points }) s ≡ aggregate_of p (grouped f coarse) d s) are.points
        (gathers_all p f g fine coarse d middle s i j e are.values)
    go (Err x) h = tt
