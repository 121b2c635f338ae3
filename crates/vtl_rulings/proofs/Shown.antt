-- What one output shows, told from another: `invalid` shows what is false among all.
use Rattle.std.proofs.Common.{◌≡◌, ℕ, suc, ◌+◌, Bool, true, false, cond, List, [], ◌∷◌, ◌++◌, length, length-append, drop, filter, take, Option, Some, None, Ok, refl, sym, ap, ◌∙◌, append_assoc}
use Rattle.std.proofs.Math.Seq.{take-append_seam}
use Rattle.std.proofs.lemmas.List.{length-map, length-take-le}
use Rattle.std.proofs.lemmas.List.Elements.{filter_map-append}
use Rattle.std.specs.List.{AllByRecursion, cons_option, filter_map, flat_map}
use Rattle.vtl_decimal.specs.Settings.{Settings}
use Rattle.vtl_decimal.specs.declared.number.Fault.{Fault}
use Rattle.vtl_cell.specs.Outcome.{after, faults_by, unless}
use Rattle.vtl_cell.specs.Row.{Row, column_of}
use Rattle.vtl_cell.specs.declared.cell.Cell.{Cell}
use Rattle.vtl_cell.specs.declared.cell.Cell.TheVariants as c
use Rattle.vtl_syntax.specs.declared.word_groups.BasicOut.TheVariants as basic
use Rattle.vtl_syntax.specs.declared.word_groups.CheckOut.TheVariants as out
use Rattle.vtl_tree.specs.Columns.{measures_of, place_of}
use Rattle.vtl_tree.specs.DataSet.{IsDataSet, is_point}
use Rattle.vtl_tree.specs.Environment.{DataSet}
use Rattle.vtl_tree.specs.Structure.{columns_of, key_width}
use Rattle.vtl_tree.specs.Trees.{PointRuleTree}
use Rattle.vtl_tree.specs.declared.specifications.CheckSpec.{CheckSpec}
use Rattle.vtl_tree.specs.declared.structure.Structure.{Structure}
use Rattle.vtl_meaning.specs.Agreement.{key_of, values_in}
use Rattle.vtl_meaning.specs.Points.{cell_or_null}
use Rattle.vtl_meaning.proofs.Places.{key_within}
use Rattle.vtl_rulings.specs.Outputs.{code_cell, errors_at, is_false, level_cell}
use Rattle.vtl_rulings.specs.PointChecks.{PointRule, check_of, checked_point, datapoint_of, errors_of, false_without, imbalance_at, point_rules, rule_fault, rule_points, ruled_point, truth_of, truth_place}

-- ---- a cell between others
cell_between : (front : Row) (v : Cell) (rest : Row) → column_of (length front) (front ++ v ∷ rest) ≡ v
cell_between [] v rest = refl
cell_between (w ∷ front) v rest = cell_between front v rest

behind_it : (front : Row) (v : Cell) (rest : Row) → drop (suc (length front)) (front ++ v ∷ rest) ≡ rest
behind_it [] v rest = refl
behind_it (w ∷ front) v rest = behind_it front v rest

without_between : (front : Row) (v : Cell) (rest : Row) → false_without (length front) (front ++ v ∷ rest) ≡ cond (is_false v) (Some (front ++ rest)) None
without_between front v rest =
    ap (λ x. cond (is_false x) (Some (take (length front) (front ++ v ∷ rest) ++ drop (suc (length front)) (front ++ v ∷ rest))) None) (cell_between front v rest)
    ∙ ap (λ l. cond (is_false v) (Some (l ++ drop (suc (length front)) (front ++ v ∷ rest))) None) (take-append_seam front (v ∷ rest))
    ∙ ap (λ l. cond (is_false v) (Some (front ++ l)) None) (behind_it front v rest)

-- ---- `check_datapoint`
-- cells behind an identifier, measures, and what follows
module _ (key : Row) (id : Cell) (measures : Row) (place : ℕ) (at : length key + suc (length measures) ≡ place) where
  abbrev front : Row
  front = key ++ (id ∷ measures)

  place_is : length front ≡ place
  place_is = length-append key (id ∷ measures) ∙ at

  pub invalid_from_all : (truth : Cell) (errors : Row) → false_without place (key ++ (id ∷ (measures ++ (truth ∷ errors)))) ≡ cond (is_false truth) (Some (key ++ (id ∷ (measures ++ errors)))) None
  invalid_from_all truth errors =
      ap (λ l. false_without place l) (sym (append_assoc key (id ∷ measures) (truth ∷ errors)))
      ∙ ap (λ n. false_without n (front ++ truth ∷ errors)) (sym place_is)
      ∙ without_between front truth errors
      ∙ ap (λ l. cond (is_false truth) (Some l) None) (append_assoc key (id ∷ measures) errors)

-- of each item that is drawn, what is drawn of it
drawn_again : {X Y : Type 0} (g : Y → Option Y) (h f : X → Option Y) (P : X → Type 0) → ((x : X) → P x → filter_map g (cons_option (h x) []) ≡ cons_option (f x) []) → (xs : List X) → AllByRecursion P xs → filter_map g (filter_map h xs) ≡ filter_map f xs
drawn_again g h f P each [] all = refl
drawn_again {X = X} {Y = Y} g h f P each (x ∷ xs) all =
    ap (filter_map g) (onto (h x) (filter_map h xs)) ∙ filter_map-append g (cons_option (h x) []) (filter_map h xs)
    ∙ ap (λ l. l ++ filter_map g (filter_map h xs)) (each x all.0) ∙ ap (λ l. cons_option (f x) [] ++ l) (drawn_again g h f P each xs all.1) ∙ sym (onto (f x) (filter_map f xs))
  where
    onto : (o : Option Y) (l : List Y) → cons_option o l ≡ cons_option o [] ++ l
    onto None l = refl
    onto (Some y) l = refl

flat_drawn : {X Y : Type 0} (g : Y → Option Y) (h f : X → List Y) → ((x : X) → filter_map g (h x) ≡ f x) → (xs : List X) → filter_map g (flat_map h xs) ≡ flat_map f xs
flat_drawn g h f each [] = refl
flat_drawn g h f each (x ∷ xs) = filter_map-append g (h x) (flat_map h xs) ∙ ap (λ l. l ++ filter_map g (flat_map h xs)) (each x) ∙ ap (λ l. f x ++ l) (flat_drawn g h f each xs)

unless_map : {A B : Type 0} (f : Option Fault) (g : A → B) (x : A) (y : B) → g x ≡ y → unless f y ≡ after (unless f x) (λ z. Ok (g z))
unless_map None g x y e = ap Ok (sym e)
unless_map (Some t) g x y e = refl

module _ (p : Settings) (rules : List PointRuleTree) (d : DataSet) (h : IsDataSet d.structure d.points) where
  abbrev a : Structure
  a = d.structure

  abbrev IsPoint : Row → Type 0
  IsPoint r = is_point (columns_of a) r ≡ true

  abbrev truth_at : PointRule → Row → Cell
  truth_at x r = cell_or_null (truth_of p x.1 r)

  point_shown : (x : PointRule) (r : Row) → IsPoint r → filter_map (false_without (truth_place a)) (cons_option (ruled_point out.AllMeasures a x r (truth_at x r)) []) ≡ cons_option (ruled_point out.Invalid a x r (truth_at x r)) []
  point_shown x r t =
      let measures = values_in a (measures_of a) r in
      let widths : length (key_of a r) + suc (length measures) ≡ truth_place a = ap (λ n. n + suc (length measures)) (length-take-le (key_width a) r (key_within a r t)) ∙ ap (λ n. key_width a + suc n) (length-map (measures_of a) (λ y. column_of (place_of y.name (columns_of a)) r)) in
      ap (λ o. cons_option o []) (invalid_from_all (key_of a r) (c.Text x.0) measures (truth_place a) widths (truth_at x r) (errors_of x.1 (truth_at x r)))

  rule_shown : (x : PointRule) → filter_map (false_without (truth_place a)) (rule_points p out.AllMeasures d x) ≡ rule_points p out.Invalid d x
  rule_shown x = drawn_again (false_without (truth_place a)) (λ r. ruled_point out.AllMeasures a x r (truth_at x r)) (λ r. ruled_point out.Invalid a x r (truth_at x r)) IsPoint (point_shown x) d.points h.typed

  pub invalid_shows : datapoint_of p out.Invalid rules d ≡ after (datapoint_of p out.AllMeasures rules d) (λ points. Ok (filter_map (false_without (truth_place a)) points))
  invalid_shows =
      let all = point_rules rules in
      let drawn : List Row → List Row = filter_map (false_without (truth_place a)) in
      unless_map (faults_by (rule_fault p d) all) drawn (flat_map (rule_points p out.AllMeasures d) all) (flat_map (rule_points p out.Invalid d) all)
      (flat_drawn (false_without (truth_place a)) (rule_points p out.AllMeasures d) (rule_points p out.Invalid d) rule_shown all)

-- ---- `check`
-- the spec with another output
abbrev pub with_all : CheckSpec → CheckSpec
with_all spec = record spec { output = basic.All }

abbrev pub with_invalid : CheckSpec → CheckSpec
with_invalid spec = record spec { output = basic.Invalid }

module _ (p : Settings) (spec : CheckSpec) (d : DataSet) (imbalance : Option DataSet) (h : IsDataSet d.structure d.points) where
  abbrev ours : Structure
  ours = d.structure

  abbrev truth : Row → Cell
  truth r = column_of (key_width ours) r

  abbrev at : CheckSpec → Row → Option Row
  at which r = checked_point p which ours imbalance r (truth r)

  -- the truth value stands where the operand has it
  truth_kept : (r rest : Row) → is_point (columns_of ours) r ≡ true → column_of (key_width ours) (key_of ours r ++ truth r ∷ rest) ≡ truth r
  truth_kept r rest t = ap (λ n. column_of n (key_of ours r ++ truth r ∷ rest)) (sym (length-take-le (key_width ours) r (key_within ours r t))) ∙ cell_between (key_of ours r) (truth r) rest

  shown_from : (rs : List Row) → AllByRecursion (λ r. is_point (columns_of ours) r ≡ true) rs → filter (λ q. is_false (column_of (key_width ours) q)) (filter_map (at (with_all spec)) rs) ≡ filter_map (at (with_invalid spec)) rs
  shown_from [] all = refl
  shown_from (r ∷ rs) all =
      let rest = imbalance_at p ours imbalance r ∷ errors_at (code_cell spec.errorcode) (level_cell spec.errorlevel) (truth r) in
      let q = key_of ours r ++ truth r ∷ rest in
      ap (λ v. cond (is_false v) (q ∷ filter (λ z. is_false (column_of (key_width ours) z)) (filter_map (at (with_all spec)) rs)) (filter (λ z. is_false (column_of (key_width ours) z)) (filter_map (at (with_all spec)) rs))) (truth_kept r rest all.0)
      ∙ go (is_false (truth r)) q (shown_from rs all.1)
    where
      go : (b : Bool) (q : Row) → {l m : List Row} → l ≡ m → cond b (q ∷ l) l ≡ cons_option (cond b (Some q) None) m
      go true q e = ap (λ l. q ∷ l) e
      go false q e = e

  pub check_shows : check_of p (with_invalid spec) d imbalance ≡ filter (λ q. is_false (column_of (key_width ours) q)) (check_of p (with_all spec) d imbalance)
  check_shows = sym (shown_from d.points h.typed)
