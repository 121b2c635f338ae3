-- Points beside their partners.
use Rattle.std.proofs.Common.{◌≡◌, ℕ, ◌+◌, Bool, List, ◌++◌, true, false, cond, length, Some, refl, sym, ap, subst, ◌∙◌, arith}
use Rattle.std.specs.List.{flat_map}
use Rattle.std.specs.Option.{option_map, option_to_list}
use Rattle.std.proofs.lemmas.List.{length-map}
use Rattle.vtl_lists.proofs.Alls.{all_more}
use Rattle.vtl_decimal.specs.Settings.{Settings}
use Rattle.vtl_cell.specs.Row.{Row}
use Rattle.vtl_cell.specs.declared.operator.ScalarOp.{ScalarOp}
use Rattle.vtl_rows.specs.Tables.{cells_at, fits}
use Rattle.vtl_tree.specs.CompExp.{CompExp, column}
use Rattle.vtl_tree.specs.DataSet.{IsDataSet, is_point, look}
use Rattle.vtl_tree.specs.Environment.{DataSet}
use Rattle.vtl_tree.specs.Shown.{shown}
use Rattle.vtl_tree.specs.Structure.{columns_of}
use Rattle.vtl_tree.specs.declared.structure.Component.{Component}
use Rattle.vtl_tree.specs.declared.structure.Structure.{Structure}
use Rattle.vtl_tree.specs.Pairs.{contains}
use Rattle.vtl_sets.specs.TableOf.{table_columns}
use Rattle.vtl_tree.specs.Columns.{column_behind, column_named, columns_named, identifiers_of, kind_named, measures_of, place_of, places_in}
use Rattle.vtl_meaning.specs.Made.{AreFor}
use Rattle.vtl_meaning.specs.Operators.{for_measures, pair_columns, pair_exps, pairs_of, with_namesake}
use Rattle.vtl_meaning.specs.Points.{beside, paired, point_of}
use Rattle.vtl_meaning.proofs.Kept.{look_is}
use Rattle.vtl_meaning.proofs.Places.{point_append}
use Rattle.vtl_expr.specs.Partners.{AllFit, Sought, found, sought_by, with_found}
use Rattle.vtl_expr.specs.Sides.{left_column, right_column, side_column}
use Rattle.vtl_expr.specs.declared.namesakes.Side.{Side}
use Rattle.vtl_expr.proofs.PointLemmas.{fitting}

-- ---- what is found is the partner
partner_at : (s : Structure) (other : DataSet) (r : Row) → with_found (λ r q. r ++ q) (sought_by s other) r ≡ beside s other r
partner_at s other r =
    ap (λ n. option_to_list (option_map (λ q. r ++ q) (look n other.points (cells_at (places_in (columns_of s) (identifiers_of other.structure)) r)))) (length-map (identifiers_of other.structure) (λ y. place_of y.name (columns_of s)))

found_is_partner : (s : Structure) (other : DataSet) → with_found (λ r q. r ++ q) (sought_by s other) ≡ beside s other
found_is_partner s other = λ i r. partner_at s other r i

pub all_paired : (a b : DataSet) (sought : Sought) → sought ≡ sought_by a.structure b → flat_map (with_found (λ r q. r ++ q) sought) a.points ≡ paired a b
all_paired a b sought is = ap (λ x. flat_map (with_found (λ r q. r ++ q) x) a.points) is ∙ ap (λ g. flat_map g a.points) (found_is_partner a.structure b)

-- what a pair of points gives fits the columns
pair_fits : (p : Settings) (a : Structure) (b : DataSet) (s : Structure) (es : List CompExp) (sought : Sought) (r : Row) → AreFor p (columns_of a ++ columns_of b.structure) es (columns_of s) → IsDataSet b.structure b.points → sought ≡ sought_by a b
    → is_point (columns_of a) r ≡ true → (q : Row) → found sought r ≡ Some q → fits (table_columns s) (point_of p es (r ++ q)) ≡ true
pair_fits p a b s es sought r f k is own q at =
    let theirs = columns_of b.structure in
    let places = places_in (columns_of a) (identifiers_of b.structure) in
    let looked : look (length places) b.points (cells_at places r) ≡ Some q = ap (λ x. found x r) (sym is) ∙ at in
    let other = look_is (λ x. is_point theirs x ≡ true) (length places) b.points (cells_at places r) q k.typed looked in
    fitting p (columns_of a ++ theirs) es (columns_of s) (r ++ q) f (point_append (columns_of a) theirs r q own other)

pub all_fit : (p : Settings) (a b : DataSet) (s : Structure) (es : List CompExp) (sought : Sought) → AreFor p (columns_of a.structure ++ columns_of b.structure) es (columns_of s) → IsDataSet a.structure a.points → IsDataSet b.structure b.points → sought ≡ sought_by a.structure b → AllFit (point_of p es) (table_columns s) sought a.points
all_fit p a b s es sought f h k is =
    all_more (λ r. is_point (columns_of a.structure) r ≡ true) (λ r. (q : Row) → found sought r ≡ Some q → fits (table_columns s) (point_of p es (r ++ q)) ≡ true) (λ r own q at. pair_fits p a.structure b s es sought r f k is own q at) a.points h.typed

-- ---- the columns of both operands
leading_at : (side : Side) (xs : List Component) (name : List ℕ) → length side.before.items ≡ 0 → shown side.columns.items ≡ xs → side_column side name ≡ column_named xs name
leading_at side xs name z e =
    let none : 0 + place_of name xs ≡ place_of name xs = omega arith in
    ap (λ n. column_behind n (shown side.columns.items) name) z ∙ ap (λ l. column_behind 0 l name) e ∙ ap (λ k. column k name (kind_named name xs)) none

leading : (side : Side) (xs : List Component) → length side.before.items ≡ 0 → shown side.columns.items ≡ xs → side_column side ≡ column_named xs
leading side xs z e = λ i name. leading_at side xs name z e i

behind_at : (side : Side) (n : ℕ) (xs : List Component) (name : List ℕ) → length side.before.items ≡ n → shown side.columns.items ≡ xs → side_column side name ≡ column_behind n xs name
behind_at side n xs name z e = ap (λ m. column_behind m (shown side.columns.items) name) z ∙ ap (λ l. column_behind n l name) e

behind : (side : Side) (n : ℕ) (xs : List Component) → length side.before.items ≡ n → shown side.columns.items ≡ xs → side_column side ≡ column_behind n xs
behind side n xs z e = λ i name. behind_at side n xs name z e i

-- where the left operand leads
pub left_leads : (a b ours theirs : Structure) (left right : Side) → contains a b ≡ true → ours ≡ a → theirs ≡ b
    → length left.before.items ≡ 0 → shown left.columns.items ≡ columns_of ours → length right.before.items ≡ length (columns_of ours) → shown right.columns.items ≡ columns_of theirs
    → (side_column left ≡ left_column a b) × (side_column right ≡ right_column a b)
left_leads a b ours theirs left right t ea eb lz lc rz rc =
    let first = leading left (columns_of a) lz (lc ∙ ap columns_of ea) in
    let second = behind right (length (columns_of a)) (columns_of b) (rz ∙ ap (λ (x : Structure). length (columns_of x)) ea) (rc ∙ ap columns_of eb) in (
      first ∙ sym (ap (λ x. cond x (column_named (columns_of a)) (column_behind (length (columns_of b)) (columns_of a))) t),
      second ∙ sym (ap (λ x. cond x (column_behind (length (columns_of a)) (columns_of b)) (column_named (columns_of b))) t),
    )

-- where the right operand leads
pub right_leads : (a b ours theirs : Structure) (left right : Side) → contains a b ≡ false → ours ≡ a → theirs ≡ b
    → length left.before.items ≡ length (columns_of theirs) → shown left.columns.items ≡ columns_of ours → length right.before.items ≡ 0 → shown right.columns.items ≡ columns_of theirs
    → (side_column left ≡ left_column a b) × (side_column right ≡ right_column a b)
right_leads a b ours theirs left right t ea eb lz lc rz rc =
    let first = behind left (length (columns_of b)) (columns_of a) (lz ∙ ap (λ (x : Structure). length (columns_of x)) eb) (lc ∙ ap columns_of ea) in
    let second = leading right (columns_of b) rz (rc ∙ ap columns_of eb) in (
      first ∙ sym (ap (λ x. cond x (column_named (columns_of a)) (column_behind (length (columns_of b)) (columns_of a))) t),
      second ∙ sym (ap (λ x. cond x (column_behind (length (columns_of a)) (columns_of b)) (column_named (columns_of b))) t),
    )

-- ---- what the operand that leads decides
-- the expressions of a pair, by the columns of the operand that leads, and of both sides
abbrev exps_by : ScalarOp → Structure → Structure → Structure → (List ℕ → CompExp) → (List ℕ → CompExp) → List CompExp
exps_by o lead a s left right = columns_named (columns_of lead) (identifiers_of s) ++ for_measures (with_namesake o left right) (measures_of a) (measures_of s)

exps_of_lead : (t : Bool) (o : ScalarOp) (a b : DataSet) (s : Structure) (f g h i : List ℕ → CompExp) → exps_by o (cond t a b).structure a.structure s (cond t f g) (cond t h i) ≡ cond t (exps_by o a.structure a.structure s f h) (exps_by o b.structure a.structure s g i)
exps_of_lead true o a b s f g h i = refl
exps_of_lead false o a b s f g h i = refl

columns_of_lead : (t : Bool) (a b : DataSet) → columns_of (cond t a b).structure ++ columns_of (cond t b a).structure ≡ cond t (columns_of a.structure ++ columns_of b.structure) (columns_of b.structure ++ columns_of a.structure)
columns_of_lead true a b = refl
columns_of_lead false a b = refl

pairs_of_lead : (t : Bool) (a b : DataSet) → paired (cond t a b) (cond t b a) ≡ cond t (paired a b) (paired b a)
pairs_of_lead true a b = refl
pairs_of_lead false a b = refl

abbrev IsData : DataSet → Type 0
IsData d = IsDataSet d.structure d.points

data_of_lead : (t : Bool) (a b : DataSet) → IsData (cond t a b) → IsData (cond t b a) → IsData a × IsData b
data_of_lead true a b h k = (h, k)
data_of_lead false a b h k = (k, h)

module _ (a b lead other : DataSet) (is_lead : lead ≡ cond (contains a.structure b.structure) a b) (is_other : other ≡ cond (contains a.structure b.structure) b a) where
  pub lead_columns : columns_of lead.structure ++ columns_of other.structure ≡ pair_columns a.structure b.structure
  lead_columns =
      ap (λ (x : DataSet). columns_of x.structure ++ columns_of other.structure) is_lead
      ∙ ap (λ (x : DataSet). columns_of (cond (contains a.structure b.structure) a b).structure ++ columns_of x.structure) is_other
      ∙ columns_of_lead (contains a.structure b.structure) a b

  pub lead_data : IsData lead → IsData other → IsData a × IsData b
  lead_data h k = data_of_lead (contains a.structure b.structure) a b (subst IsData is_lead h) (subst IsData is_other k)

  pub lead_pairs : paired lead other ≡ pairs_of a b
  lead_pairs =
      ap (λ (x : DataSet). paired x other) is_lead
      ∙ ap (paired (cond (contains a.structure b.structure) a b)) is_other
      ∙ pairs_of_lead (contains a.structure b.structure) a b

  pub lead_exps : (o : ScalarOp) (s leads ours : Structure) (left right : Side) (es : List CompExp) → leads ≡ lead.structure → ours ≡ a.structure
      → side_column left ≡ left_column a.structure b.structure → side_column right ≡ right_column a.structure b.structure
      → es ≡ columns_named (columns_of leads) (identifiers_of s) ++ for_measures (with_namesake o (side_column left) (side_column right)) (measures_of ours) (measures_of s) → es ≡ pair_exps o a.structure b.structure s
  lead_exps o s leads ours left right es el eo ef eg e =
      e ∙ ap (λ (x : Structure). exps_by o x ours s (side_column left) (side_column right)) (el ∙ ap (λ (x : DataSet). x.structure) is_lead)
      ∙ ap (λ (x : Structure). exps_by o (cond (contains a.structure b.structure) a b).structure x s (side_column left) (side_column right)) eo
      ∙ ap (λ f. exps_by o (cond (contains a.structure b.structure) a b).structure a.structure s f (side_column right)) ef
      ∙ ap (exps_by o (cond (contains a.structure b.structure) a b).structure a.structure s (left_column a.structure b.structure)) eg
      ∙ exps_of_lead (contains a.structure b.structure) o a b s (column_named (columns_of a.structure)) (column_behind (length (columns_of b.structure)) (columns_of a.structure)) (column_behind (length (columns_of a.structure)) (columns_of b.structure)) (column_named (columns_of b.structure))
