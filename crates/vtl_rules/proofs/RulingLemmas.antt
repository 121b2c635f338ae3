-- What rules make of rows.
use Rattle.std.proofs.Common.{◌≡◌, ℕ, zero, suc, ◌+◌, ◌<◌, ◌≤◌, true, cond, List, [], ◌∷◌, ◌++◌, length, map, take, get_or, Option, Some, None, refl, sym, ap, ◌∙◌, subst, arith, append_assoc}
use Rattle.std.specs.Prelude.{IfSome}
use Rattle.std.specs.List.{AllByRecursion, cons_option, filter_map, flat_map}
use Rattle.std.specs.Option.{option_to_list}
use Rattle.std.proofs.lemmas.Grind.{flat_map-append}
use Rattle.std.proofs.lemmas.List.{append-nil, take_all, take_more}
use Rattle.std.proofs.lemmas.List.Elements.{filter_map-append}
use Rattle.vtl_decimal.specs.Settings.{Settings}
use Rattle.vtl_decimal.specs.declared.number.Fault.{Fault}
use Rattle.vtl_cell.specs.Outcome.{after, fault_in, faults_by, join}
use Rattle.vtl_cell.specs.Row.{Row}
use Rattle.vtl_cell.specs.declared.cell.Cell.TheVariants as c
use Rattle.vtl_rows.specs.Tables.{cells_at, fits}
use Rattle.vtl_rows.specs.declared.column.Column.{Column}
use Rattle.vtl_syntax.specs.declared.word_groups.CheckOut.{CheckOut}
use Rattle.vtl_tree.specs.CompExp.{CompExp}
use Rattle.vtl_tree.specs.Value.{value}
use Rattle.vtl_expr.specs.Prepared.{SameValue}
use Rattle.vtl_expr.proofs.PointValues.{same_at}
use Rattle.vtl_tree.specs.Columns.{identifiers_of, measures_of, places_in}
use Rattle.vtl_tree.specs.DataSet.{IsDataSet, is_point}
use Rattle.vtl_tree.specs.Environment.{DataSet}
use Rattle.vtl_tree.specs.NodeView.{point_rule_tree}
use Rattle.vtl_tree.specs.Structure.{IsStructure, columns_of}
use Rattle.vtl_tree.specs.Trees.{PointRuleTree}
use Rattle.vtl_tree.specs.declared.rules.DatapointRule.{DatapointRule}
use Rattle.vtl_tree.specs.declared.structure.Structure.{Structure}
use Rattle.vtl_tree.proofs.Faults.{faults_by_more, join_assoc}
use Rattle.vtl_sets.specs.TableOf.{table_columns}
use Rattle.vtl_sets.proofs.TableLemmas.{point_fits}
use Rattle.vtl_meaning.specs.Points.{cell_or_null}
use Rattle.vtl_meaning.proofs.Drawn.{AtMostOne}
use Rattle.vtl_meaning.proofs.LookUps.{named_cells}
use Rattle.vtl_meaning.proofs.Places.{key_cells, key_within}
use Rattle.vtl_rulings.specs.Outputs.{is_shown}
use Rattle.vtl_tree.specs.Checks.{output_parts, rule_id, with_ids}
use Rattle.vtl_rulings.specs.PointChecks.{PointRule, errors_of, held, point_rules, rule_fault, rule_points, ruled_point, truth_of, under}
use Rattle.vtl_rulings.specs.Shaped.{IsPointChecked, IsPointRuleOver}
use Rattle.vtl_rulings.proofs.Checked.{all_with_ids}
use Rattle.vtl_rulings.proofs.PointsKept.{IsRuled, at_each, point_at}
use Rattle.vtl_rules.specs.Rulings.{AreSame, Ruling, Wanted, ruling_of, shown_by, wanted_of}

-- ---- one row more
pub drawn_more : {X Y : Type 0} (h : X → Option Y) (xs : List X) (i : ℕ) (x : X) (front old new : List Y) → i < length xs → x ≡ get_or xs i x → old ≡ front ++ filter_map h (take i xs) → new ≡ old ++ option_to_list (h x) → new ≡ front ++ filter_map h (take (i + 1) xs)
drawn_more {Y = Y} h xs i x front old new l at o n =
    n ∙ ap (λ r. r ++ option_to_list (h x)) o ∙ append_assoc front (filter_map h (take i xs)) (option_to_list (h x)) ∙ ap (λ r. front ++ r) (sym next)
  where
    one : (y : Option Y) → cons_option y [] ≡ option_to_list y
    one None = refl
    one (Some y) = refl

    next : filter_map h (take (i + 1) xs) ≡ filter_map h (take i xs) ++ option_to_list (h x)
    next =
        ap (filter_map h) (take_more xs i x l) ∙ filter_map-append h (take i xs) (get_or xs i x ∷ [])
        ∙ ap (λ z. filter_map h (take i xs) ++ cons_option (h z) []) (sym at) ∙ ap (λ r. filter_map h (take i xs) ++ r) (one (h x))

pub seen_more : {X : Type 0} (f : X → Option Fault) (xs : List X) (i : ℕ) (x : X) (before old new : Option Fault) → i < length xs → x ≡ get_or xs i x → old ≡ join before (faults_by f (take i xs)) → new ≡ join old (f x) → new ≡ join before (faults_by f (take (i + 1) xs))
seen_more f xs i x before old new l at o n =
    n ∙ ap (λ s. join s (f x)) o ∙ join_assoc before (faults_by f (take i xs)) (f x) ∙ ap (λ y. join before (join (faults_by f (take i xs)) (f y))) at ∙ ap (join before) (sym (faults_by_more f xs i x l))

-- rules that give the same
pub rulings_same : (x y : Ruling) → x.id ≡ y.id → ((p : Settings) (r : Row) → x.truth p r ≡ y.truth p r) → x.code ≡ y.code → x.level ≡ y.level → x ≡ y
rulings_same x y id truth code level = λ i. record { id = id i; truth = λ p r. truth p r i; code = code i; level = level i }

-- ---- prepared conditions
-- a rule whose antecedent and condition have the same values
pub truth_same : (antecedent written : Option CompExp) (condition e : CompExp) → AreSame antecedent written → SameValue condition e → (p : Settings) (r : Row) → held p antecedent condition r ≡ held p written e r
truth_same None None condition e h same p r = same_at condition e same p r
truth_same None (Some w) condition e h same p r = absurd h
truth_same (Some w) None condition e h same p r = absurd h
truth_same (Some v) (Some w) condition e h same p r =
    ap (λ m. after m (λ t. under t (value p condition r))) (same_at v w h p r) ∙ ap (λ m. after (value p w r) (λ t. under t m)) (same_at condition e same p r)

-- ---- rules by their numbers
abbrev name_of : PointRuleTree → Option (List ℕ)
name_of r = r.name

abbrev pub rule_at : ℕ → DatapointRule → PointRule
rule_at i x = (rule_id (i + 1) x.name, point_rule_tree x)

ids_length : (n : ℕ) (rules : List DatapointRule) → length (with_ids name_of n (map point_rule_tree rules)) ≡ length rules
ids_length n [] = refl
ids_length n (r ∷ rs) = ap suc (ids_length (suc n) rs)

numbered_at : (n : ℕ) (rules : List DatapointRule) (i : ℕ) (x : DatapointRule) (d : PointRule) → i < length rules → x ≡ get_or rules i x → get_or (with_ids name_of n (map point_rule_tree rules)) i d ≡ (rule_id (n + i) x.name, point_rule_tree x)
numbered_at n [] i x d h at = absurd (omega (arith, h))
numbered_at n (r ∷ rs) zero x d h at =
    let same : n ≡ n + 0 = omega arith in
    ap (λ y. (rule_id n y.name, point_rule_tree y)) (sym at) ∙ ap (λ k. (rule_id k x.name, point_rule_tree x)) same
numbered_at n (r ∷ rs) (suc i) x d h at =
    let same : suc n + i ≡ n + suc i = omega arith in
    numbered_at (suc n) rs i x d (omega (arith, h)) at ∙ ap (λ k. (rule_id k x.name, point_rule_tree x)) same

module _ (rules : List DatapointRule) (i : ℕ) (x : DatapointRule) (h : i < length rules) (at : x ≡ get_or rules i x) where
  abbrev all : List PointRule
  all = point_rules (map point_rule_tree rules)

  within : i < length all
  within = let same = ids_length 1 rules in omega (arith, same, h)

  here : get_or all i (rule_at i x) ≡ rule_at i x
  here = let same : 1 + i ≡ i + 1 = omega arith in numbered_at 1 rules i x (rule_at i x) h at ∙ ap (λ k. (rule_id k x.name, point_rule_tree x)) same

  -- one rule more
  pub points_more : (g : PointRule → List Row) → flat_map g (take (i + 1) all) ≡ flat_map g (take i all) ++ g (rule_at i x)
  points_more g =
      ap (flat_map g) (take_more all i (rule_at i x) within) ∙ flat_map-append g (take i all) (get_or all i (rule_at i x) ∷ []) ∙ ap (λ l. flat_map g (take i all) ++ l) (append-nil (g (get_or all i (rule_at i x))))
      ∙ ap (λ y. flat_map g (take i all) ++ g y) here

  pub faults_more : (f : PointRule → Option Fault) → faults_by f (take (i + 1) all) ≡ join (faults_by f (take i all)) (f (rule_at i x))
  faults_more f = faults_by_more f all i (rule_at i x) within ∙ ap (λ y. join (faults_by f (take i all)) (f y)) here

  -- what holds of all rules holds of this one
  pub rule_holds : (P : PointRule → Type 0) → AllByRecursion P all → P (rule_at i x)
  rule_holds P every = subst P here (go all i within every)
    where
      go : (l : List PointRule) (j : ℕ) → j < length l → AllByRecursion P l → P (get_or l j (rule_at i x))
      go [] j k e = absurd (omega (arith, k))
      go (y ∷ l) zero k e = e.0
      go (y ∷ l) (suc j) k e = go l j (omega (arith, k)) e.1

-- all of them
pub all_taken : (rules : List DatapointRule) (i : ℕ) → length rules ≤ i → take i (point_rules (map point_rule_tree rules)) ≡ point_rules (map point_rule_tree rules)
all_taken rules i h = let same = ids_length 1 rules in take_all i (point_rules (map point_rule_tree rules)) (omega (arith, same, h))

-- ---- what is shown of rows
pub filter_map_where : {X Y : Type 0} (P : X → Type 0) (f g : X → Option Y) → ((x : X) → P x → f x ≡ g x) → (xs : List X) → AllByRecursion P xs → filter_map f xs ≡ filter_map g xs
filter_map_where P f g same [] h = refl
filter_map_where P f g same (x ∷ xs) h = ap (λ o. cons_option o (filter_map f xs)) (same x h.0) ∙ ap (cons_option (g x)) (filter_map_where P f g same xs h.1)

module _ (p : Settings) (o : CheckOut) (a : Structure) (w : IsStructure a) where
  pub shown_is : (rule : PointRule) (r : Row) → is_point (columns_of a) r ≡ true → shown_by p (wanted_of o a) (ruling_of rule) r ≡ ruled_point o a rule r (cell_or_null (truth_of p rule.1 r))
  shown_is rule r h =
      let truth = cell_or_null (truth_of p rule.1 r) in
      let xs = columns_of a in
      ap (λ k. cond (is_shown o truth) (Some (k ++ (c.Text rule.0 ∷ output_parts o (cells_at (places_in xs (measures_of a)) r) truth (errors_of rule.1 truth)))) None) (key_cells a a r w (refl, refl) (key_within a r h))
      ∙ ap (λ ms. cond (is_shown o truth) (Some (take (length (identifiers_of a)) r ++ (c.Text rule.0 ∷ output_parts o ms truth (errors_of rule.1 truth)))) None) (named_cells xs (measures_of a) r)

  pub rows_shown : (rule : PointRule) (d : List Row) → AllByRecursion (λ r. is_point (columns_of a) r ≡ true) d → filter_map (shown_by p (wanted_of o a) (ruling_of rule)) d ≡ filter_map (λ r. ruled_point o a rule r (cell_or_null (truth_of p rule.1 r))) d
  rows_shown rule d typed = filter_map_where (λ r. is_point (columns_of a) r ≡ true) (shown_by p (wanted_of o a) (ruling_of rule)) (λ r. ruled_point o a rule r (cell_or_null (truth_of p rule.1 r))) (shown_is rule) d typed

-- what is shown fits the columns
one_fits : (s : Structure) (id : List ℕ) (P : Row → Type 0) (option : Option Row) → ((q : Row) → P q → is_point (columns_of s) q ≡ true) → AtMostOne P (option_to_list option) → IfSome option (λ q. fits (table_columns s) q ≡ true)
one_fits s id P None f h = tt
one_fits s id P (Some q) f h = point_fits (columns_of s) q (f q h)

pub shown_fit : (p : Settings) (o : CheckOut) (rules : List PointRuleTree) (a s : Structure) (d : List Row) (i : IsPointChecked p o rules a s) (h : IsDataSet a d) (x : PointRule) → IsPointRuleOver p (columns_of a) x.1
    → AllByRecursion (λ r. IfSome (shown_by p (wanted_of o a) (ruling_of x) r) (λ q. fits (table_columns s) q ≡ true)) d
shown_fit p o rules a s d i h x f = go d h.typed (at_each p o rules a s d i h x f)
  where
    go : (l : List Row) → AllByRecursion (λ r. is_point (columns_of a) r ≡ true) l → AllByRecursion (λ r. AtMostOne (IsRuled p o rules a s d i h x.0 r) (option_to_list (point_at p o rules a s d i h x r))) l → AllByRecursion (λ r. IfSome (shown_by p (wanted_of o a) (ruling_of x) r) (λ q. fits (table_columns s) q ≡ true)) l
    go [] typed drawn = tt
    go (r ∷ l) typed drawn = (
      subst (λ q. IfSome q (λ z. fits (table_columns s) z ≡ true)) (sym (shown_is p o a h.well_formed x r typed.0))
          (one_fits s x.0 (IsRuled p o rules a s d i h x.0 r) (point_at p o rules a s d i h x r) (λ q t. t.0) drawn.0),
      go l typed.1 drawn.1,
    )

-- ---- a rule of the walk
-- the written rules are those of the ruleset, the rows those of the operand, and a rule is the one of its number
module _ (p : Settings) (o : CheckOut) (rules : List DatapointRule) (a : DataSet) (s : Structure) (i : IsPointChecked p o (map point_rule_tree rules) a.structure s) (h : IsDataSet a.structure a.points)
    (written : List DatapointRule) (rows : List Row) (n : ℕ) (x : DatapointRule) (wanted : Wanted) (ruling : Ruling) (all_written : written ≡ rules) (all_rows : rows ≡ a.points) (within : n < length written) (at : x ≡ get_or written n x)
    (is_wanted : wanted ≡ wanted_of o a.structure) (is_ruling : ruling ≡ ruling_of (rule_at n x)) where
  typed : IsPointRuleOver p (columns_of a.structure) (point_rule_tree x)
  typed =
      let over : PointRuleTree → Type 0 = IsPointRuleOver p (columns_of a.structure) in
      rule_holds written n x within at (λ y. over y.1) (all_with_ids over name_of 1 (map point_rule_tree written) (subst (λ l. AllByRecursion over (map point_rule_tree l)) (sym all_written) i.typed))

  pub rule_fits : (columns : List Column) → columns ≡ table_columns s → AllByRecursion (λ r. IfSome (shown_by p wanted ruling r) (λ q. fits columns q ≡ true)) rows
  rule_fits columns e =
      subst (λ cs. AllByRecursion (λ r. IfSome (shown_by p wanted ruling r) (λ q. fits cs q ≡ true)) rows) (sym e)
      (subst (λ l. AllByRecursion (λ r. IfSome (shown_by p wanted ruling r) (λ q. fits (table_columns s) q ≡ true)) l) (sym all_rows)
      (subst (λ w. AllByRecursion (λ r. IfSome (shown_by p w ruling r) (λ q. fits (table_columns s) q ≡ true)) a.points) (sym is_wanted)
      (subst (λ y. AllByRecursion (λ r. IfSome (shown_by p (wanted_of o a.structure) y r) (λ q. fits (table_columns s) q ≡ true)) a.points) (sym is_ruling)
      (shown_fit p o (map point_rule_tree rules) a.structure s a.points i h (rule_at n x) typed))))

  rule_rows : filter_map (shown_by p wanted ruling) rows ≡ rule_points p o a (rule_at n x)
  rule_rows =
      ap (λ l. filter_map (shown_by p wanted ruling) l) all_rows ∙ ap (λ w. filter_map (shown_by p w ruling) a.points) is_wanted ∙ ap (λ y. filter_map (shown_by p (wanted_of o a.structure) y) a.points) is_ruling
      ∙ rows_shown p o a.structure h.well_formed (rule_at n x) a.points h.typed

  rule_faults : faults_by (λ r. fault_in (ruling.truth p r)) rows ≡ rule_fault p a (rule_at n x)
  rule_faults = ap (λ l. faults_by (λ r. fault_in (ruling.truth p r)) l) all_rows ∙ ap (λ (y : Ruling). faults_by (λ r. fault_in (y.truth p r)) a.points) is_ruling

  abbrev all_of : List PointRule
  all_of = point_rules (map point_rule_tree written)

  pub next_rows : (old new : List Row) → old ≡ flat_map (rule_points p o a) (take n all_of) → new ≡ old ++ filter_map (shown_by p wanted ruling) rows → new ≡ flat_map (rule_points p o a) (take (n + 1) all_of)
  next_rows old new e f = f ∙ ap (λ l. l ++ filter_map (shown_by p wanted ruling) rows) e ∙ ap (λ l. flat_map (rule_points p o a) (take n all_of) ++ l) rule_rows ∙ sym (points_more written n x within at (rule_points p o a))

  pub next_faults : (old new : Option Fault) → old ≡ faults_by (rule_fault p a) (take n all_of) → new ≡ join old (faults_by (λ r. fault_in (ruling.truth p r)) rows) → new ≡ faults_by (rule_fault p a) (take (n + 1) all_of)
  next_faults old new e f = f ∙ ap (λ s. join s (faults_by (λ r. fault_in (ruling.truth p r)) rows)) e ∙ ap (join (faults_by (rule_fault p a) (take n all_of))) rule_faults ∙ sym (faults_more written n x within at (rule_fault p a))
