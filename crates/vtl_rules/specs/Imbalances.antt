-- The imbalance of a check by a look-up of the identifiers.
use Rattle.std.specs.Prelude.{ℕ, cond, List, ◌∷◌, ◌++◌, Option, None, Some, option_map}
use Rattle.std.specs.Borrow.{Bor}
use Rattle.std.specs.Option.{option_map_or}
use Rattle.vtl_decimal.specs.Settings.{Settings}
use Rattle.vtl_cell.specs.Conversion.{as_kind}
use Rattle.vtl_cell.specs.Row.{Row, column_of}
use Rattle.vtl_cell.specs.declared.cell.Cell.{Cell}
use Rattle.vtl_cell.specs.declared.cell.Cell.TheVariants as c
use Rattle.vtl_cell.specs.declared.kind.Kind.TheVariants as k
use Rattle.vtl_rows.specs.Places.{row_at}
use Rattle.vtl_rows.specs.Tables.{cells_at}
use Rattle.vtl_index.specs.Seekers.{Sought, first_meant}
use Rattle.vtl_syntax.specs.declared.word_groups.BasicOut.{BasicOut}
use Rattle.vtl_tree.specs.Columns.{common_identifiers, identifiers_of, places_in}
use Rattle.vtl_tree.specs.Environment.{DataSet}
use Rattle.vtl_tree.specs.Structure.{columns_of, key_width}
use Rattle.vtl_tree.specs.declared.specifications.CheckSpec.{CheckSpec}
use Rattle.vtl_tree.specs.declared.structure.Structure.{Structure}
use Rattle.vtl_meaning.specs.Points.{cell_or_null}
use Rattle.vtl_rulings.specs.Outputs.{code_cell, errors_at, is_basic_shown, level_cell}

-- points as rows ask for them, and the place of their measure
pub record Measured : Type 0 where
  pub sought : Sought
  pub place : ℕ

-- the number that belongs to a row
abbrev pub number_for : Settings → Measured → Row → Cell
number_for p m r = cell_or_null (as_kind p k.Num (column_of m.place (row_at m.sought.rows (first_meant m.sought r))))

-- the points of an imbalance, as points of a structure ask for those that agree with them
abbrev pub measured_by : Structure → DataSet → Measured
measured_by a d = record {
  sought = record {
    own = places_in (columns_of d.structure) (common_identifiers a d.structure);
    asked = places_in (columns_of a) (common_identifiers a d.structure);
    rows = d.points;
  };
  place = key_width d.structure;
}

-- what a check shows, and of what it is made
pub record Checking : Type 0 where
  pub out : BasicOut
  pub identifiers : List ℕ
  pub truth : ℕ
  pub imbalance : Option Measured
  pub code : Cell
  pub level : Cell

abbrev pub checking_of : CheckSpec → Structure → Option DataSet → Checking
checking_of spec a imbalance = record {
  out = spec.output;
  identifiers = places_in (columns_of a) (identifiers_of a);
  truth = key_width a;
  imbalance = option_map (measured_by a) imbalance;
  code = code_cell spec.errorcode;
  level = level_cell spec.errorlevel;
}

-- what is shown of a row with this truth value
abbrev pub checked_row : Settings → Checking → Row → (truth : Cell) → Option Row
checked_row p x r truth = cond (is_basic_shown x.out truth) (Some (cells_at x.identifiers r ++ (truth ∷ option_map_or (λ m. number_for p m r) x.imbalance c.Null ∷ errors_at x.code x.level truth))) None

abbrev pub checked_by : Settings → Checking → Row → Option Row
checked_by p x r = checked_row p x r (column_of x.truth r)

-- what a reference that may be absent shows
abbrev pub lent : {X : Type 0} → Option (Bor X) → Option X
lent o = option_map (λ b. b.now) o
