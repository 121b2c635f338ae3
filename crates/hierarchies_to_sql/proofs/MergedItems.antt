-- A computed item's table and the operand's as one: the computed value where it is not null, and otherwise the operand's.
use Rattle.std.proofs.Common.{◌≡◌, ◌<◌, ◌+◌, ◌^◌, ℕ, Bool, true, false, ◌||◌, cond, List, [], ◌∷◌, ◌++◌, length, map, Option, Some, None, Ok, refl, sym, ap, ◌∙◌, subst, arith}
use Rattle.std.specs.Prelude.{option_map}
use Rattle.std.specs.List.{AllByRecursion, filter_map, flat_map}
use Rattle.std.specs.Option.{IfSome, option_map_or}
use Rattle.vtl_lists.proofs.Alls.{all_append, all_more}
use Rattle.vtl_lists.proofs.Filters.{filter_map-map}
use Rattle.vtl_decimal.specs.Settings.{Settings}
use Rattle.vtl_decimal.specs.declared.number.Fault.{Fault}
use Rattle.vtl_cell.specs.Kinds.{is_null}
use Rattle.vtl_cell.specs.Literals.{is_null_kind}
use Rattle.vtl_cell.specs.Outcome.{Outcome, after, fault_in, faults_by, join, unless}
use Rattle.vtl_cell.specs.Row.{Row}
use Rattle.vtl_cell.specs.ScalarKinds.{meets}
use Rattle.vtl_cell.specs.declared.cell.Cell.{Cell}
use Rattle.vtl_cell.specs.declared.cell.Cell.TheVariants as c
use Rattle.vtl_cell.specs.declared.kind.Kind.{Kind}
use Rattle.vtl_cell.specs.declared.kind.Kind.TheVariants as k
use Rattle.vtl_syntax.specs.declared.word_groups.HierInput.TheVariants as input
use Rattle.vtl_tree.specs.Columns.{columns_named, identifiers_of, place_of}
use Rattle.vtl_tree.specs.CompExp.{CompExp, const}
use Rattle.vtl_tree.specs.Structure.{columns_of}
use Rattle.vtl_tree.specs.Value.{value}
use Rattle.vtl_tree.specs.declared.structure.Component.{Component}
use Rattle.vtl_tree.specs.declared.structure.Structure.{Structure}
use Rattle.vtl_meaning.specs.Made.{AreFor, IsColumnAt}
use Rattle.vtl_meaning.specs.Points.{cell_or_null, each_point, point_fault, point_of, with_points}
use Rattle.vtl_meaning.proofs.ValueKinds.{IsOf}
use Rattle.vtl_rulings.specs.Hierarchies.{taken}
use Rattle.vtl_rulings.specs.HierarchyChecks.{Ruled}
use Rattle.vtl_rulings.specs.Modes.{Found, is_filled}
use Rattle.sql_tree.specs.Trees.{Text}
use Rattle.sql_meaning.specs.Scripts.{Data}
use Rattle.joins_to_sql.specs.Joins.{placed_at, where_of, width_of}
use Rattle.joins_to_sql.proofs.HeldOperands.{IsHeld}
use Rattle.selects_to_sql.specs.Writable.{CanBeWritten, HaveNames}
use Rattle.selects_to_sql.proofs.Exact.{IsExactly, exactly_same}
use Rattle.selects_to_sql.proofs.Expressions.{Translates}
use Rattle.selects_to_sql.proofs.OneOperand.{columns_written, same_functions}
use Rattle.selects_to_sql.proofs.Unions.{one_exactly}
use Rattle.rules_to_sql.proofs.Columns.{columns_sure, for_append, points_append}
use Rattle.rules_to_sql.proofs.Lists.{no_faults}
use Rattle.hierarchies_to_sql.specs.ComputedTables.{merged_exps, merged_query, one_there, value_of_two}
use Rattle.hierarchies_to_sql.specs.ItemTables.{leaf_at, structures_for}
use Rattle.hierarchies_to_sql.specs.SideExps.{Leaf}
use Rattle.hierarchies_to_sql.proofs.ChainRows.{AllKnown, IsLead, ItemsAt, all_columns, beside_give, combination, facts, first, items_show, lead_cells, row_of}
use Rattle.hierarchies_to_sql.proofs.ComputedRules.{found_rows}
use Rattle.hierarchies_to_sql.proofs.ItemColumns.{IsSided, behind, item_columns, item_given, keys, others, t}
use Rattle.hierarchies_to_sql.proofs.ItemTables.{item_row}
use Rattle.hierarchies_to_sql.proofs.KeptRows.{IsMade, kept_sure}
use Rattle.hierarchies_to_sql.proofs.RuleSelects.{sure_tells}
use Rattle.hierarchies_to_sql.proofs.SideColumns.{IsKept, leaves_typed, others_for, others_kept}
use Rattle.hierarchies_to_sql.proofs.SideExps as sides
use Rattle.hierarchies_to_sql.proofs.TypedSides.{as_written, one_there_sound, two_sound}

-- what is taken of a computed item and the operand's
abbrev pub of_both : (made given : Found) → Found
of_both made given = option_map_or (λ v. cond (is_null v) given (Some v)) made given

pub taken_is : (given : Found) (made : Option (Outcome Cell)) → taken input.RulePriority given made ≡ of_both (option_map cell_or_null made) given
taken_is given None = refl
taken_is given (Some v) = refl

pub both_fit : (kind : Kind) (made given : Found) → IfSome made (IsOf kind) → IfSome given (IsOf kind) → IfSome (of_both made given) (IsOf kind)
both_fit kind None given h i = i
both_fit kind (Some v) given h i = go (is_null v)
  where
    go : (b : Bool) → IfSome (cond b given (Some v)) (IsOf kind)
    go true = i
    go false = h

-- its value
abbrev value_of_both : (made given : Found) → Cell
value_of_both made given = option_map_or (λ v. cond (is_null v) (option_map_or (λ w. w) given c.Null) v) made (option_map_or (λ w. w) given c.Null)

abbrev is_there : Found → Bool
is_there x = option_map_or (λ v. true) x false

both_rows : (k : Row) (x y : Found) → cond (is_filled x || is_there y) (Some (item_row k (value_of_both x y))) None ≡ option_map (item_row k) (of_both x y)
both_rows k None None = refl
both_rows k None (Some w) = refl
both_rows k (Some v) y = go (is_null v) refl y
  where
    go : (b : Bool) → is_null v ≡ b → (z : Found) → cond (is_filled (Some v) || is_there z) (Some (item_row k (value_of_both (Some v) z))) None ≡ option_map (item_row k) (of_both (Some v) z)
    go true e None = rw e refl
    go true e (Some w) = rw e refl
    go false e z = rw e refl

module _ (p : Settings) (law : Translates p) (now : Data) (h : Ruled) (a : Structure) (is : IsSided h a) (na : HaveNames (columns_of a)) (kinds : AllByRecursion (λ y. is_null_kind y.kind ≡ false) (identifiers_of a)) (qs : List Row) (x : Text) (here : IsHeld now x (with_points (keys h a is) qs)) (typed : AllByRecursion (IsLead h a is) qs)
    (made given : Text) (f g : Row → Found) (known : AllKnown h a is now (map (combination h a is) qs) (made ∷ given ∷ []) (f ∷ g ∷ [])) where
  abbrev S : Structure
  S = t h a is

  abbrev os : List Component
  os = others h a is

  abbrev F : List Component
  F = first h a is

  abbrev at : Row → Row
  at q = combination h a is q

  abbrev both : List Text
  both = made ∷ given ∷ []

  abbrev founds : List (Row → Found)
  founds = f ∷ g ∷ []

  few : 1 + length both < 2 ^ 64
  few = omega arith

  abbrev R : Row → Row
  R q = row_of h a is p law now na kinds qs x here typed both founds known few q

  abbrev Here : Row → Type 0
  Here q = IsLead h a is q × ItemsAt h a is now (map at qs) (at q) both founds known

  abbrev n : ℕ
  n = width_of (keys h a is)

  abbrev one : Leaf
  one = leaf_at h (placed_at n S)

  abbrev two : Leaf
  two = leaf_at h (placed_at (n + width_of S) S)

  abbrev es : List CompExp
  es = merged_exps h a (one ∷ two ∷ [])

  abbrev condition : CompExp
  condition = one_there (one ∷ two ∷ [])

  abbrev chosen : CompExp
  chosen = value_of_two h one two

  abbrev kept : Row → Bool
  kept q = is_filled (f (at q)) || is_there (g (at q))

  abbrev point : Row → Row
  point q = item_row (at q) (value_of_both (f (at q)) (g (at q)))

  shows : (q : Row) → Here q → sides.AllShow p h.kind is.itemized.numeric (R q) (one ∷ two ∷ []) (f (at q) ∷ g (at q) ∷ [])
  shows q i = items_show h a is p law now na kinds qs x here typed both founds known few is.itemized.numeric q i.0 i.1

  value_is : (q : Row) → Here q → value p chosen (R q) ≡ Ok (value_of_both (f (at q)) (g (at q)))
  value_is q i = let s = shows q i in sides.two_is p h.kind is.itemized.numeric (R q) one two (f (at q)) (g (at q)) s.0 s.1.0

  told : (q : Row) → Here q → sides.IsSure p h.kind is.itemized.numeric (R q) condition (kept q)
  told q i =
      let s = shows q i in
      sides.or_sure p h.kind is.itemized.numeric (R q) _ two.there (is_filled (f (at q))) (is_there (g (at q))) (sides.filled_sure p h.kind is.itemized.numeric (R q) one (f (at q)) s.0) (sides.there_sure p h.kind is.itemized.numeric (R q) two (g (at q)) s.1.0)

  places : AllByRecursion (λ y. IsColumnAt (place_of y.name F) y.name y.kind F) os
  places = all_more (IsKept p h a is) (λ y. IsColumnAt (place_of y.name F) y.name y.kind F) (λ y i. i.1) os (others_kept p h a is)

  point_is : (q : Row) → Here q → point_of p es (R q) ≡ point q
  point_is q i =
      points_append p (columns_named F os) (chosen ∷ const (c.Bool true) ∷ []) (R q)
      ∙ ap (λ l. l ++ (cell_or_null (value p chosen (R q)) ∷ c.Bool true ∷ [])) (lead_cells h a is p law now na kinds qs x here typed both founds known few q i.0 os places)
      ∙ ap (λ v. item_row (at q) (cell_or_null v)) (value_is q i)

  fault_is : (q : Row) → Here q → point_fault p es (R q) ≡ None
  fault_is q i = columns_sure p F os (chosen ∷ const (c.Bool true) ∷ []) (R q) ∙ ap (λ v. join (fault_in v) None) (value_is q i)

  abbrev Made : Row → Type 0
  Made q = IsMade p (Some condition) es R (λ z. None) kept (λ z. None) point q

  are_made : (q : Row) → Here q → Made q
  are_made q i = record { told = sure_tells p h.kind is.itemized.numeric (R q) (Some condition) (kept q) (told q i); fault = λ u e. fault_is q i; point = λ u e. point_is q i }

  rows_are : after (where_of p (Some condition) (map R qs)) (each_point p es) ≡ Ok (found_rows h a is (λ k. of_both (f k) (g k)) (map at qs))
  rows_are =
      kept_sure p (Some condition) es R (λ z. None) kept (λ z. None) point (λ z. refl) qs (all_more Here Made are_made qs (facts h a is p law now na kinds qs x here typed both founds known few))
      ∙ ap (λ u. unless (faults_by u qs) (filter_map (λ q. cond (kept q) (Some (point q)) None) qs)) (same_functions (λ q. cond (kept q) None None) (λ q. None) (λ q. nothing (kept q)))
      ∙ ap (λ o. unless o (filter_map (λ q. cond (kept q) (Some (point q)) None) qs)) (no_faults qs)
      ∙ ap (λ u. Ok (filter_map u qs)) (same_functions (λ q. cond (kept q) (Some (point q)) None) (λ q. option_map (item_row (at q)) (of_both (f (at q)) (g (at q)))) (λ q. both_rows (at q) (f (at q)) (g (at q))))
      ∙ ap Ok (sym (filter_map-map (λ k. option_map (item_row k) (of_both (f k) (g k))) at qs))
    where
      none : Option Fault
      none = None

      nothing : (b : Bool) → cond b none none ≡ none
      nothing true = refl
      nothing false = refl

  pub merged_exactly : IsExactly p now (merged_query p h a x made given) S (Ok (found_rows h a is (λ k. of_both (f k) (g k)) (map at qs)))
  merged_exactly =
      let ws = all_columns h a is both in
      let leaves = leaves_typed p h a is both in
      let sound = two_sound p ws h.kind is.itemized.numeric one two leaves.0 leaves.1.0 in
      let truth = one_there_sound p ws h.kind is.itemized.numeric one two leaves.0 leaves.1.0 in
      exactly_same p now (merged_query p h a x made given) S (after (where_of p (Some condition) (map R qs)) (each_point p es)) (Ok (found_rows h a is (λ k. of_both (f k) (g k)) (map at qs))) rows_are
      (one_exactly p now S (item_given h a is na kinds) _ (after (where_of p (Some condition) (map R qs)) (each_point p es))
      (beside_give h a is p law now na kinds qs x here typed both founds known few es S (Some condition)
      (subst (AreFor p ws es) (sym (item_columns h a is)) (for_append p ws (columns_named F os) (chosen ∷ const (c.Bool true) ∷ []) os (behind h a is) (others_for p h a is (flat_map columns_of (structures_for h a both))) (sound.typed, sound.kind, (tt, refl, tt))))
      (all_append CanBeWritten (columns_named F os) (chosen ∷ const (c.Bool true) ∷ []) (columns_written F os) (as_written p ws h.kind 2 chosen (omega arith) sound, (record { constants = tt; shallow = omega arith }, tt)))
      (item_given h a is na kinds) (truth.typed, ap (meets k.Bool) truth.kind, as_written p ws k.Bool 4 condition (omega arith) truth)))
