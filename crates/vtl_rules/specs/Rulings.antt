-- Rules of a datapoint ruleset as they are evaluated, and what is shown of a row.
use Rattle.std.specs.Prelude.{ℕ, cond, List, ◌∷◌, ◌++◌, Option, None, Some, option_map}
use Rattle.vtl_decimal.specs.Settings.{Settings}
use Rattle.vtl_cell.specs.Outcome.{Outcome}
use Rattle.vtl_cell.specs.Row.{Row}
use Rattle.vtl_cell.specs.declared.cell.Cell.{Cell}
use Rattle.vtl_cell.specs.declared.cell.Cell.TheVariants as c
use Rattle.vtl_rows.specs.Tables.{cells_at}
use Rattle.vtl_syntax.specs.declared.word_groups.CheckOut.{CheckOut}
use Rattle.vtl_tree.specs.Columns.{identifiers_of, measures_of, places_in}
use Rattle.vtl_tree.specs.CompExp.{CompExp}
use Rattle.vtl_tree.specs.Structure.{columns_of}
use Rattle.vtl_tree.specs.declared.structure.Structure.{Structure}
use Rattle.vtl_meaning.specs.Points.{cell_or_null}
use Rattle.vtl_expr.specs.Prepared.{SameValue, prepared_exp}
use Rattle.vtl_rulings.specs.Outputs.{code_cell, errors_at, is_shown, level_cell}
use Rattle.vtl_tree.specs.Checks.{output_parts}
use Rattle.vtl_rulings.specs.PointChecks.{PointRule, held, truth_of}
use Rattle.vtl_rules.specs.declared.rulings.Rule.{Rule}

-- a rule by what it gives: its identifier, a truth value at each point, and the text and the level of an error
pub record Ruling : Type 0 where
  pub id : List ℕ
  pub truth : Settings → Row → Outcome Cell
  pub code : Cell
  pub level : Cell

abbrev pub ruling_of : PointRule → Ruling
ruling_of rule = record { id = rule.0; truth = λ p r. truth_of p rule.1 r; code = code_cell rule.1.errorcode; level = level_cell rule.1.errorlevel }

-- what a prepared rule gives
abbrev pub ruling : Rule → Ruling
ruling x = record { id = x.id; truth = λ p r. held p (option_map prepared_exp x.antecedent) (prepared_exp x.condition) r; code = x.errors.code; level = x.errors.level }

-- an output, and the places of the identifiers and the measures
pub record Wanted : Type 0 where
  pub out : CheckOut
  pub identifiers : List ℕ
  pub measures : List ℕ

-- of points of a structure
abbrev pub wanted_of : CheckOut → Structure → Wanted
wanted_of o a = record { out = o; identifiers = places_in (columns_of a) (identifiers_of a); measures = places_in (columns_of a) (measures_of a) }

-- what is shown of a row where a rule has this truth value
abbrev pub shown_row : Wanted → Ruling → Row → (truth : Cell) → Option Row
shown_row w x r truth = cond (is_shown w.out truth) (Some (cells_at w.identifiers r ++ (c.Text x.id ∷ output_parts w.out (cells_at w.measures r) truth (errors_at x.code x.level truth)))) None

abbrev pub shown_by : Settings → Wanted → Ruling → Row → Option Row
shown_by p w x r = shown_row w x r (cell_or_null (x.truth p r))

-- both are absent, or have the same values
abbrev pub AreSame : Option CompExp → Option CompExp → Type 0
AreSame None None = Unit {0}
AreSame (Some e) (Some f) = SameValue e f
AreSame _ _ = ⊥
