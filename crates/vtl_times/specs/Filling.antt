-- What a filled data set is gathered from: a row of a series, and the point with its identifiers.
use Rattle.std.specs.Prelude.{ℕ, List, [], ◌∷◌, ◌++◌, length, map}
use Rattle.std.specs.List.{range_with_len}
use Rattle.vtl_index.specs.Seekers.{Sought}
use Rattle.vtl_rows.specs.declared.gather.Pick.{Pick}
use Rattle.vtl_tree.specs.Columns.{identifiers_of, others_of, places_in}
use Rattle.vtl_tree.specs.Environment.{DataSet}
use Rattle.vtl_tree.specs.Structure.{columns_of}
use Rattle.vtl_tree.specs.declared.structure.Structure.{Structure}
use Rattle.vtl_timing.specs.Times.{series_columns}

-- the points of a data set, as rows of its series ask for them
abbrev pub sought_in : DataSet → Sought
sought_in d = record {
  own = places_in (columns_of d.structure) (identifiers_of d.structure);
  asked = places_in (series_columns d.structure) (identifiers_of d.structure);
  rows = d.points;
}

-- each place with the number that stands there
abbrev pub beside_each : List ℕ → List ℕ → List ℕ
beside_each (i ∷ is) (n ∷ ns) = i ∷ n ∷ beside_each is ns
beside_each is ns = []

abbrev pub numbered : List ℕ → List ℕ
numbered ns = beside_each (range_with_len 0 (length ns)) ns

-- the cells at places of a part
abbrev pub picks_of : ℕ → List ℕ → List Pick
picks_of part places = map (λ place. record { part = part; column = place }) places

-- the identifiers of the row of a series, and the other cells of the point
abbrev pub filled_picks : Structure → List Pick
filled_picks a = picks_of 0 (places_in (series_columns a) (identifiers_of a)) ++ picks_of 1 (places_in (columns_of a) (others_of a))
