-- The groups that are found, one by one, and what is made of each.
use Rattle.std.proofs.Common.{◌≡◌, ℕ, ◌<◌, ◌∷◌, Bool, cond, List, length, get_or, map, None, Option, sym, ap, ◌∙◌, subst, arith}
use Rattle.std.specs.Prelude.{option_map}
use Rattle.vtl_decimal.specs.declared.number.Fault.{Fault}
use Rattle.vtl_cell.specs.Outcome.{fault_in, join}
use Rattle.vtl_cell.specs.Row.{Row}
use Rattle.vtl_decimal.specs.Settings.{Settings}
use Rattle.vtl_rows.specs.Places.{row_at}
use Rattle.vtl_rows.specs.Tables.{Tabled, cells_at}
use Rattle.vtl_tree.specs.CompExp.{CompExp}
use Rattle.vtl_tree.specs.declared.structure.Component.{Component}
use Rattle.vtl_tree.specs.Trees.{AggTree}
use Rattle.vtl_index.specs.Groups.{firsts, rows_led}
use Rattle.vtl_index.specs.Leads.{leads_of}
use Rattle.vtl_meaning.specs.Groups.{keys_by, places_named, points_with}
use Rattle.vtl_group.specs.Calls.{AreWithin, column_place, placed_for, rows_at}
use Rattle.vtl_expr.specs.Prepared.{prepared_exp}
use Rattle.vtl_group.specs.Points.{SameCondition, fault_for, faults_of_calls, passes, row_for, tested}
use Rattle.vtl_group.specs.Walks.{first_of, group_in}
use Rattle.vtl_group.specs.declared.calls.Call.{Call}
use Rattle.vtl_group.specs.declared.recipe.Recipe.{Recipe}
use Rattle.vtl_group.proofs.KeyedGroups.{all_within, key_of_first, many_keys, numbers, rows_are, some_numbers}
use Rattle.vtl_group.proofs.Recipes.{at_key, columns_for, fault_at, fault_at_is, kept, kept_is, places_are, point, row_is}

abbrev pub calls_by : AggTree → List Component → List Component → List Call
calls_by spec xs ys = map (λ y. placed_for (columns_for xs) spec.items y.name) ys

-- a recipe is made for these columns and points, and the groups are those of its places
pub record Stands (spec : AggTree) (xs ys : List Component) (d : List Row) (r : Recipe) (g : List ℕ) : Type 0 where
  pub rows : r.table.now.rows ≡ d
  pub columns : r.table.now.columns ≡ columns_for xs
  pub names : r.names.now ≡ spec.grouping
  pub places : r.places.items ≡ places_named spec.grouping xs
  pub having : SameCondition (option_map prepared_exp r.having) spec.having
  pub calls : r.calls.items ≡ calls_by spec xs ys
  pub led : g ≡ leads_of (cells_at (places_named spec.grouping xs)) d

-- as it is found
pub stands_by : (spec : AggTree) (xs ys : List Component) (d : List Row) (r : Recipe) (g : List ℕ) (t : Tabled) (lent : List ℕ) → r.table.now ≡ t → t.rows ≡ d → t.columns ≡ columns_for xs → r.names.now ≡ spec.grouping
    → r.places.items ≡ map (λ name. column_place name t.columns) spec.grouping → SameCondition (option_map prepared_exp r.having) spec.having → r.calls.items ≡ map (λ y. placed_for t.columns spec.items y.name) ys
    → lent ≡ r.places.items → g ≡ leads_of (cells_at lent) t.rows → Stands spec xs ys d r g
stands_by spec xs ys d r g t lent table rows columns names places having calls deref led =
    let placed : r.places.items ≡ places_named spec.grouping xs = places ∙ ap (λ cs. map (λ name. column_place name cs) spec.grouping) columns ∙ places_are xs spec.grouping in
    record {
      rows = ap (λ (l : Tabled). l.rows) table ∙ rows;
      columns = ap (λ (l : Tabled). l.columns) table ∙ columns;
      names = names;
      places = placed;
      having = having;
      calls = calls ∙ ap (λ cs. map (λ (y : Component). placed_for cs spec.items y.name) ys) columns;
      led = led ∙ (λ n. leads_of (cells_at ((deref ∙ placed) n)) (rows n));
    }

module _ (p : Settings) (spec : AggTree) (xs ys : List Component) (d : List Row) (r : Recipe) (g : List ℕ) (s : Stands spec xs ys d r g) where
  abbrev places : List ℕ
  places = places_named spec.grouping xs

  pub many_groups : length (firsts g) ≡ length (keys_by places d)
  many_groups = ap (λ l. length (firsts l)) s.led ∙ many_keys places d

  module _ (i : ℕ) (h : i < length (firsts g)) (found : List ℕ) (is : found ≡ rows_led g (get_or (firsts g) i 0)) where
    inside : i < length (firsts (leads_of (cells_at places) d))
    inside = subst (λ l. i < length (firsts l)) s.led h

    found_is : found ≡ numbers places d i inside
    found_is = is ∙ ap (λ l. rows_led l (get_or (firsts l) i 0)) s.led

    pub some_found : 0 < length found
    some_found = subst (λ l. 0 < length l) (sym found_is) (some_numbers places d i inside)

    pub found_within : AreWithin r.table.now.rows found
    found_within = subst (λ rows. AreWithin rows found) (sym s.rows) (subst (AreWithin d) (sym found_is) (all_within places d i inside))

    abbrev key : Row
    key = row_at (keys_by places d) i

    key_found : cells_at r.places.items (row_at r.table.now.rows (first_of found)) ≡ key
    key_found = (λ n. cells_at (s.places n) (row_at (s.rows n) (first_of (found_is n)))) ∙ key_of_first places d i inside

    points_found : rows_at r.table.now.rows found ≡ points_with places d key
    points_found = (λ n. rows_at (s.rows n) (found_is n)) ∙ rows_are places d i inside

    group_found : group_in r found ≡ at_key p spec xs ys d key
    group_found = λ n. record { names = s.names n; key = key_found n; columns = s.columns n; points = points_found n }

    -- what is made of it
    pub row_found : row_for p r.calls.items (group_in r found) ≡ point p spec xs ys d key
    row_found = (λ n. row_for p (s.calls n) (group_found n)) ∙ row_is p spec xs ys d key

    pub kept_found : passes (tested p (group_in r found) (option_map prepared_exp r.having)) ≡ kept p spec xs ys d key
    kept_found = ap passes (s.having p (group_in r found)) ∙ (λ n. passes (tested p (group_found n) spec.having)) ∙ kept_is p spec xs ys d spec.having key

    pub fault_found : fault_for p (option_map prepared_exp r.having) r.calls.items (group_in r found) ≡ fault_at p spec xs ys d key
    fault_found =
        ap (λ test. join (fault_in test) (cond (passes test) (faults_of_calls p r.calls.items (rows_at r.table.now.rows found)) None)) (s.having p (group_in r found))
        ∙ (λ n. fault_for p spec.having (s.calls n) (group_found n)) ∙ fault_at_is p spec xs ys d key
