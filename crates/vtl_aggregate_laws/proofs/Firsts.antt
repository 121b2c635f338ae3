-- The least of the least values of parts is the least of all, and likewise the greatest.
use Rattle.std.proofs.Common.{◌≡◌, ℕ, Bool, true, false, not, cond, List, [], ◌∷◌, ◌++◌, map, Ok, refl, sym, ap, ◌∙◌, true≢false, ⊎_elim}
use Rattle.std.specs.List.{AllByRecursion, flat_map}
use Rattle.std.proofs.lemmas.List.{map-append}
use Rattle.vtl_cell.specs.Groups.{aggregate, greatest, group_value, least, values_of}
use Rattle.vtl_cell.specs.Kinds.{is_null}
use Rattle.vtl_cell.specs.Outcome.{after}
use Rattle.vtl_cell.specs.Outcomes.{all_of}
use Rattle.vtl_cell.specs.Row.{Row, column_of}
use Rattle.vtl_decimal.specs.Settings.{Settings}
use Rattle.vtl_lists.specs.Sorting.{IsOrder, insert_by, sorted_by}
use Rattle.vtl_cell.specs.declared.cell.Cell.{Cell}
use Rattle.vtl_cell.specs.declared.cell.Cell.TheVariants as c
use Rattle.vtl_cell.specs.declared.operator.AggKind.{AggKind}
use Rattle.vtl_cell.specs.declared.operator.AggKind.TheVariants.{Max, Min}
use Rattle.vtl_cell.proofs.Aggregates.{falling_order, group-Perm, rising_order}
use Rattle.vtl_lists.proofs.Perms.{AllByRecursion-Perm, Perm-map, Perm-sym}
use Rattle.vtl_lists.proofs.Sorts.{Perm-sorted_by}
use Rattle.vtl_meaning.specs.Groups.{keys_by, points_with}
use Rattle.vtl_aggregate_laws.specs.Parts.{of_column, of_groups, values_at}
use Rattle.vtl_aggregate_laws.proofs.Pieces.{parts}
use Rattle.vtl_aggregate_laws.proofs.Told.{Tells, told}

module _ {le : Cell → Cell → Bool} (o : IsOrder le) where
  -- the first in order of two cells, of which null is none
  abbrev first_of : Cell → Cell → Cell
  first_of x y = cond (is_null x) y (cond (is_null y) x (cond (le x y) x y))

  -- the first in order of the values of a list, or null
  abbrev first : List Cell → Cell
  first xs = column_of 0 (sorted_by le (values_of xs))

  values_there : (xs : List Cell) → AllByRecursion (λ x. is_null x ≡ false) (values_of xs)
  values_there [] = tt
  values_there (x ∷ xs) = go (is_null x) refl (values_there xs)
    where
      go : (b : Bool) → is_null x ≡ b → AllByRecursion (λ y. is_null y ≡ false) (values_of xs) → AllByRecursion (λ y. is_null y ≡ false) (cond (not b) (x ∷ values_of xs) (values_of xs))
      go true e ih = ih
      go false e ih = (e, ih)

  -- null goes, and of two values the first in order stays
  left_null : (x y : Cell) → is_null x ≡ true → first_of x y ≡ y
  left_null x y e = ap (λ b. cond b y (cond (is_null y) x (cond (le x y) x y))) e

  of_value : (x y : Cell) → is_null x ≡ false → first_of x y ≡ cond (is_null y) x (cond (le x y) x y)
  of_value x y e = ap (λ b. cond b y (cond (is_null y) x (cond (le x y) x y))) e

  right_null : (x y : Cell) → is_null x ≡ false → is_null y ≡ true → first_of x y ≡ x
  right_null x y e f = of_value x y e ∙ ap (λ b. cond b x (cond (le x y) x y)) f

  of_values : (x y : Cell) → is_null x ≡ false → is_null y ≡ false → first_of x y ≡ cond (le x y) x y
  of_values x y e f = of_value x y e ∙ ap (λ b. cond b x (cond (le x y) x y)) f

  alone : (x : Cell) → first_of x c.Null ≡ x
  alone c.Null = refl
  alone (c.Bool b) = refl
  alone (c.Int n) = refl
  alone (c.Num k) = refl
  alone (c.Text t) = refl
  alone (c.Day d) = refl
  alone (c.Period q) = refl

  -- a value before others
  first_inserted : (x : Cell) (ys : List Cell) → is_null x ≡ false → AllByRecursion (λ y. is_null y ≡ false) ys → column_of 0 (insert_by le x ys) ≡ first_of x (column_of 0 ys)
  first_inserted x [] e all = sym (right_null x c.Null e refl)
  first_inserted x (y ∷ ys) e all = go (le x y) refl
    where
      go : (b : Bool) → le x y ≡ b → column_of 0 (cond b (x ∷ y ∷ ys) (y ∷ insert_by le x ys)) ≡ first_of x y
      go true h = sym (of_values x y e all.0 ∙ ap (λ b. cond b x y) h)
      go false h = sym (of_values x y e all.0 ∙ ap (λ b. cond b x y) h)

  first-cons : (x : Cell) (xs : List Cell) → first (x ∷ xs) ≡ first_of x (first xs)
  first-cons x xs = go (is_null x) refl
    where
      go : (b : Bool) → is_null x ≡ b → column_of 0 (sorted_by le (cond (not b) (x ∷ values_of xs) (values_of xs))) ≡ first_of x (first xs)
      go true e = sym (left_null x (first xs) e)
      go false e = first_inserted x (sorted_by le (values_of xs)) e (AllByRecursion-Perm (λ y. is_null y ≡ false) (Perm-sym (Perm-sorted_by o (values_of xs))) (values_there xs))

  -- of three values
  three : (x y z : Cell) (xy yz xz : Bool) → le x y ≡ xy → le y z ≡ yz → le x z ≡ xz → cond (le x (cond yz y z)) x (cond yz y z) ≡ cond (le (cond xy x y) z) (cond xy x y) z
  three x y z true true true a b d = ap (λ t. cond t x y) a ∙ sym (ap (λ t. cond t x z) d)
  three x y z true true false a b d = absurd (true≢false (sym (o.trans x y z a b) ∙ d))
  three x y z true false xz a b d = refl
  three x y z false true xz a b d = ap (λ t. cond t x y) a ∙ sym (ap (λ t. cond t y z) b)
  three x y z false false false a b d = ap (λ t. cond t x z) d ∙ sym (ap (λ t. cond t y z) b)
  three x y z false false true a b d =
      let back : le y x ≡ true = ⊎_elim (λ h. absurd (true≢false (sym h ∙ a))) (λ h. h) (o.total x y) in
      absurd (true≢false (sym (o.trans y x z back d) ∙ b))

  one_there : (b : Bool) (x y : Cell) → is_null x ≡ false → is_null y ≡ false → is_null (cond b x y) ≡ false
  one_there true x y e f = e
  one_there false x y e f = f

  of_three : (x y z : Cell) → first_of x (first_of y z) ≡ first_of (first_of x y) z
  of_three x y z = go (is_null x) refl (is_null y) refl (is_null z) refl
    where
      go : (a : Bool) → is_null x ≡ a → (b : Bool) → is_null y ≡ b → (d : Bool) → is_null z ≡ d → first_of x (first_of y z) ≡ first_of (first_of x y) z
      go true e b f d g = left_null x (first_of y z) e ∙ ap (λ w. first_of w z) (sym (left_null x y e))
      go false e true f d g = ap (first_of x) (left_null y z f) ∙ ap (λ w. first_of w z) (sym (right_null x y e f))
      go false e false f true g =
          let there : is_null (first_of x y) ≡ false = ap is_null (of_values x y e f) ∙ one_there (le x y) x y e f in
          ap (first_of x) (right_null y z f g) ∙ sym (right_null (first_of x y) z there g)
      go false e false f false g =
          ap (first_of x) (of_values y z f g)
          ∙ of_values x (cond (le y z) y z) e (one_there (le y z) y z f g)
          ∙ three x y z (le x y) (le y z) (le x z) refl refl refl
          ∙ sym (of_values (cond (le x y) x y) z (one_there (le x y) x y e f) g)
          ∙ ap (λ w. first_of w z) (sym (of_values x y e f))

  first-append : (xs ys : List Cell) → first (xs ++ ys) ≡ first_of (first xs) (first ys)
  first-append [] ys = refl
  first-append (x ∷ xs) ys = first-cons x (xs ++ ys) ∙ ap (first_of x) (first-append xs ys) ∙ of_three x (first xs) (first ys) ∙ ap (λ w. first_of w (first ys)) (sym (first-cons x xs))

  -- where an aggregate is the first value in order, it is so of its values of parts
  module _ (p : Settings) (f : AggKind) (is_first : (xs : List Cell) → group_value p f xs ≡ Ok (first xs)) where
    all_first : (i : ℕ) (points : Row → List Row) (ks : List Row) → all_of (map (λ k. of_column p f i (points k)) ks) ≡ Ok (map (λ k. first (values_at i (points k))) ks)
    all_first i points [] = refl
    all_first i points (k ∷ ks) = ap (λ m. after m (λ v. after (all_of (map (λ j. of_column p f i (points j)) ks)) (λ ws. Ok (v ∷ ws)))) (is_first (values_at i (points k))) ∙ ap (λ m. after m (λ ws. Ok (first (values_at i (points k)) ∷ ws))) (all_first i points ks)

    pub first_of_firsts : (i : ℕ) (points : Row → List Row) (ks : List Row) (vs : List Cell) → all_of (map (λ k. of_column p f i (points k)) ks) ≡ Ok vs → group_value p f vs ≡ of_column p f i (flat_map points ks)
    first_of_firsts i points ks vs e =
        let tells : Tells first_of first (λ rows. first (values_at i rows)) (of_column p f i) = record {
          none = refl;
          more = λ w ws. first-append (w ∷ []) ws;
          both = λ rows others. ap first (map-append (column_of i) rows others) ∙ first-append (values_at i rows) (values_at i others);
          own = λ rows w h. first-cons w [] ∙ alone w ∙ given (values_at i rows) w h;
        } in
        is_first vs ∙ ap Ok (told first_of first (λ rows. first (values_at i rows)) (of_column p f i) tells points ks vs e) ∙ sym (is_first (values_at i (flat_map points ks)))
      where
        given : (xs : List Cell) (w : Cell) → group_value p f xs ≡ Ok w → w ≡ first xs
        given xs w h =
            let same : Ok (first xs) ≡ Ok w = sym (is_first xs) ∙ h in
            cc

    pub firsts_are_first : (places : List ℕ) (i : ℕ) (d : List Row) → after (of_groups (of_column p f i) places d) (group_value p f) ≡ of_column p f i d
    firsts_are_first places i d =
        let points = points_with places d in
        let ks = keys_by places d in
        ap (λ m. after m (group_value p f)) (all_first i points ks)
        ∙ first_of_firsts i points ks (map (λ k. first (values_at i (points k))) ks) (all_first i points ks)
        ∙ group-Perm p f (values_at i (flat_map points ks)) (values_at i d) (Perm-map (column_of i) (parts places d))

least_is : (p : Settings) (xs : List Cell) → group_value p Min xs ≡ Ok (least (values_of xs))
least_is p xs = go (values_of xs)
  where
    go : (vs : List Cell) → aggregate p Min vs ≡ Ok (least vs)
    go [] = refl
    go (v ∷ vs) = refl

greatest_is : (p : Settings) (xs : List Cell) → group_value p Max xs ≡ Ok (greatest (values_of xs))
greatest_is p xs = go (values_of xs)
  where
    go : (vs : List Cell) → aggregate p Max vs ≡ Ok (greatest vs)
    go [] = refl
    go (v ∷ vs) = refl

pub least_of_parts : (p : Settings) (i : ℕ) (points : Row → List Row) (ks : List Row) (vs : List Cell) → all_of (map (λ k. of_column p Min i (points k)) ks) ≡ Ok vs → group_value p Min vs ≡ of_column p Min i (flat_map points ks)
least_of_parts p = first_of_firsts rising_order p Min (least_is p)

pub greatest_of_parts : (p : Settings) (i : ℕ) (points : Row → List Row) (ks : List Row) (vs : List Cell) → all_of (map (λ k. of_column p Max i (points k)) ks) ≡ Ok vs → group_value p Max vs ≡ of_column p Max i (flat_map points ks)
greatest_of_parts p = first_of_firsts falling_order p Max (greatest_is p)

pub least_is_least : (p : Settings) (places : List ℕ) (i : ℕ) (d : List Row) → after (of_groups (of_column p Min i) places d) (group_value p Min) ≡ of_column p Min i d
least_is_least p = firsts_are_first rising_order p Min (least_is p)

pub greatest_is_greatest : (p : Settings) (places : List ℕ) (i : ℕ) (d : List Row) → after (of_groups (of_column p Max i) places d) (group_value p Max) ≡ of_column p Max i d
greatest_is_greatest p = firsts_are_first falling_order p Max (greatest_is p)
