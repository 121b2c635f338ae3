-- What holds of null, of 0 and of what operators make of its like holds of the right sides of rules and of the items that they compute.
use Rattle.std.proofs.Common.{ℕ, zero, suc, Bool, true, false, cond, List, [], ◌∷◌, map, Option, Some, None}
use Rattle.std.specs.Prelude.{IfOk, IfSome}
use Rattle.std.specs.List.{AllByRecursion, find}
use Rattle.std.specs.Option.{option_map_or}
use Rattle.vtl_lists.proofs.Sorts.{AllByRecursion-map}
use Rattle.vtl_lists.proofs.Alls.{all_each}
use Rattle.vtl_decimal.specs.Settings.{Settings}
use Rattle.vtl_cell.specs.Kinds.{is_null}
use Rattle.vtl_cell.specs.Outcome.{Outcome, after}
use Rattle.vtl_cell.specs.Outcomes.{result_of}
use Rattle.vtl_cell.specs.Row.{Row}
use Rattle.vtl_cell.specs.declared.cell.Cell.{Cell}
use Rattle.vtl_cell.specs.declared.cell.Cell.TheVariants as c
use Rattle.vtl_cell.specs.declared.kind.Kind.{Kind}
use Rattle.vtl_syntax.specs.declared.parts.SignedComp.{SignedComp}
use Rattle.vtl_syntax.specs.declared.statements.HierRule.{HierRule}
use Rattle.vtl_syntax.specs.declared.word_groups.Addition.{Addition}
use Rattle.vtl_syntax.specs.declared.word_groups.HierInput.{HierInput}
use Rattle.vtl_syntax.specs.declared.word_groups.HierInput.TheVariants as input
use Rattle.vtl_syntax.specs.declared.word_groups.Mode.{Mode}
use Rattle.vtl_syntax.specs.declared.word_groups.Mode.TheVariants as mode
use Rattle.vtl_tree.specs.RuleItems.{left_item, right_items}
use Rattle.vtl_meaning.specs.Points.{cell_or_null}
use Rattle.vtl_meaning.proofs.ValueKinds.{after_if}
use Rattle.vtl_rulings.specs.Hierarchies.{computed, defines, items_of, items_within, taken}
use Rattle.vtl_rulings.specs.Modes.{Found, Items, appears, counted, missing_as, zero_of}
use Rattle.vtl_rulings.specs.Sides.{first_value, left_side, next_values, right_side, sign_op, sum_of}
use Rattle.vtl_rulings.proofs.Checked.{given_or_null}

-- it holds of what a sign and a sum make of cells of which it holds
pub record IsKept (p : Settings) (kind : Kind) (P : Cell → Type 0) : Type 0 where
  pub null : P c.Null
  pub nothing : P (zero_of kind)
  pub signed : (s : Addition) (v : Cell) → P v → IfOk (first_value p kind (Some s) v) P
  pub added : (s : Addition) (u v : Cell) → P u → P v → IfOk (result_of p (sign_op s) kind (u ∷ v ∷ [])) P

-- it holds of what there is of all_each item
abbrev pub AllHave : (P : Cell → Type 0) → Items → Type 0
AllHave P items = (name : List ℕ) → IfSome (items name) P

module _ (p : Settings) (kind : Kind) (P : Cell → Type 0) (kept : IsKept p kind P) where
  -- ---- sides
  missing_holds : (m : Mode) → P (missing_as m kind)
  missing_holds mode.NonNull = kept.null
  missing_holds mode.NonZero = kept.nothing
  missing_holds mode.PartialNull = kept.null
  missing_holds mode.PartialZero = kept.nothing
  missing_holds mode.AlwaysNull = kept.null
  missing_holds mode.AlwaysZero = kept.nothing

  counted_holds : (m : Mode) (x : Found) → IfSome x P → P (counted m kind x)
  counted_holds m None h = missing_holds m
  counted_holds m (Some v) h = h

  first_holds : (s : Option Addition) (v : Cell) → P v → IfOk (first_value p kind s v) P
  first_holds None v h = h
  first_holds (Some s) v h = kept.signed s v h

  next_holds : (total : Outcome Cell) (xs : List SignedComp) (vs : Row) → IfOk total P → AllByRecursion P vs → IfOk (next_values p kind total xs vs) P
  next_holds total [] vs h all = h
  next_holds total (x ∷ xs) [] h all = h
  next_holds total (x ∷ xs) (v ∷ vs) h all =
      let more : Cell → Outcome Cell = λ u. result_of p (sign_op x.sign) kind (u ∷ v ∷ []) in
      next_holds (after total more) xs vs (after_if total more P P h (λ u i. kept.added x.sign u v i all.0)) all.1

  sum_holds : (r : HierRule) (vs : Row) → AllByRecursion P vs → IfOk (sum_of p kind r vs) P
  sum_holds r [] all = kept.null
  sum_holds r (v ∷ vs) all = next_holds (first_value p kind r.sign v) r.others vs (first_holds r.sign v all.0) all.1

  module _ (m : Mode) where
    pub left_holds : (items : Items) → AllHave P items → (r : HierRule) → P (left_side m kind items r)
    left_holds items have r = counted_holds m (items (left_item r)) (have (left_item r))

    pub right_holds : (items : Items) → AllHave P items → (r : HierRule) → IfOk (right_side p m kind items r) P
    right_holds items have r =
        let f : List ℕ → Cell = λ name. counted m kind (items name) in
        sum_holds r (map f (right_items r)) (AllByRecursion-map f P (right_items r) (all_each (λ name. P (f name)) (λ name. counted_holds m (items name) (have name)) (right_items r)))

    -- ---- items
    abbrev Gives : Outcome Cell → Type 0
    Gives v = IfOk v P

    taken_holds : (i : HierInput) (given : Found) (made : Option (Outcome Cell)) → IfSome given P → IfSome made Gives → IfSome (taken i given made) P
    taken_holds input.Dataset given made g f = g
    taken_holds input.Rule given None g f = tt
    taken_holds input.Rule given (Some v) g f = given_or_null P v kept.null f
    taken_holds input.RulePriority given None g f = g
    taken_holds input.RulePriority given (Some v) g f = go (is_null (cell_or_null v))
      where
        go : (b : Bool) → IfSome (cond b given (Some (cell_or_null v))) P
        go true = g
        go false = given_or_null P v kept.null f

    computed_holds : (items : Items) → AllHave P items → (r : HierRule) → IfSome (computed p m kind items r) Gives
    computed_holds items have r = go (appears m (map items (right_items r)))
      where
        go : (b : Bool) → IfSome (cond b (Some (right_side p m kind items r)) None) Gives
        go true = right_holds items have r
        go false = tt

    module _ (i : HierInput) (rules : List HierRule) (given : Items) (have : AllHave P given) where
      within_hold : (depth : ℕ) → AllHave P (items_within p m kind i rules given depth)
      within_hold zero name = have name
      within_hold (suc depth) name = go (find (defines name) rules) (within_hold depth)
        where
          go : (found : Option HierRule) → AllHave P (items_within p m kind i rules given depth) → IfSome (option_map_or (λ r. taken i (given name) (computed p m kind (items_within p m kind i rules given depth) r)) found (given name)) P
          go None below = have name
          go (Some r) below = taken_holds i (given name) (computed p m kind (items_within p m kind i rules given depth) r) (have name) (computed_holds (items_within p m kind i rules given depth) below r)

      -- what a rule computes of the items behind all rules
      pub made_holds : (r : HierRule) → IfSome (computed p m kind (items_of p m kind i rules given) r) Gives
      made_holds r = computed_holds (items_of p m kind i rules given) (λ name. within_hold _ name) r
