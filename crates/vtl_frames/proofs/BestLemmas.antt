-- The queue of places holds the best cell first, as places come and go.
use Rattle.std.proofs.Common.{◌≡◌, ℕ, suc, ◌+◌, ◌-◌, ◌<◌, List, [], ◌∷◌, ◌++◌, length, get_or, map, Bool, true, false, not, cond, ◌&&◌, refl, sym, ap, ◌∙◌, arith, ⊎_elim, true≢false}
use Rattle.std.specs.Prelude.{◌==◌, ◌||◌, MatchOption, None, Ok, Option, Some}
use Rattle.std.specs.List.{All, AllByRecursion, list_any}
use Rattle.vtl_lists.specs.Sorting.{IsOrder, insert_by, le_by, sorted_by}
use Rattle.vtl_cell.specs.Groups.{aggregate, group_value, values_of}
use Rattle.vtl_cell.specs.Kinds.{is_null}
use Rattle.vtl_cell.specs.Order.{cell_cmp}
use Rattle.vtl_cell.specs.Row.{column_of}
use Rattle.vtl_decimal.specs.Settings.{Settings}
use Rattle.vtl_cell.specs.declared.cell.Cell.{Cell}
use Rattle.vtl_cell.specs.declared.cell.Cell.TheVariants as c
use Rattle.vtl_cell.specs.declared.operator.AggKind.{AggKind}
use Rattle.vtl_cell.specs.declared.operator.AggKind.TheVariants as kinds
use Rattle.vtl_cell.proofs.Aggregates.{falling_order, rising_order}
use Rattle.vtl_frames.specs.Best.{before_rest, best_places, cell_in, first_of, is_beaten, is_last_beaten, le_of, with_place, without_beaten, without_place}
use Rattle.vtl_frames.specs.Picks.{cell_or}
use Rattle.std.specs.Option.{option_to_list}
use Rattle.std.proofs.lemmas.List.{append-nil, length_push}
use Rattle.std.proofs.lemmas.List.Elements.{All-pop}
use Rattle.vtl_lists.proofs.Tests.{or_false}

-- ---- the end of a queue
last_more : (beaten : ℕ → Bool) (ks : List ℕ) (k : ℕ) → is_last_beaten beaten (ks ++ k ∷ []) ≡ beaten k
last_more beaten [] k = refl
last_more beaten (i ∷ []) k = refl
last_more beaten (i ∷ j ∷ ks) k = last_more beaten (j ∷ ks) k

pub last_is : (beaten : ℕ → Bool) (ks : List ℕ) (d : ℕ) → 0 < length ks → is_last_beaten beaten ks ≡ beaten (get_or ks (length ks - 1) d)
last_is beaten [] d h = absurd (omega (arith, h))
last_is beaten (k ∷ []) d h = refl
last_is beaten (k ∷ j ∷ ks) d h =
    let at : length (k ∷ j ∷ ks) - 1 ≡ suc (length (j ∷ ks) - 1) = omega arith in
    last_is beaten (j ∷ ks) d (omega arith) ∙ ap (λ i. beaten (get_or (k ∷ j ∷ ks) i d)) (sym at)

pub beaten_goes : (beaten : ℕ → Bool) (ks : List ℕ) (k : ℕ) → beaten k ≡ true → without_beaten beaten (ks ++ k ∷ []) ≡ without_beaten beaten ks
beaten_goes beaten [] k h = ap (λ b. before_rest b k []) h
beaten_goes beaten (j ∷ ks) k h = ap (before_rest (beaten j) j) (beaten_goes beaten ks k h)

some_stays : (b : Bool) (j k : ℕ) (ks : List ℕ) → before_rest b j (ks ++ k ∷ []) ≡ j ∷ (ks ++ k ∷ [])
some_stays true j k [] = refl
some_stays true j k (i ∷ ks) = refl
some_stays false j k ks = refl

unbeaten_stays : (beaten : ℕ → Bool) (ks : List ℕ) (k : ℕ) → beaten k ≡ false → without_beaten beaten (ks ++ k ∷ []) ≡ ks ++ k ∷ []
unbeaten_stays beaten [] k h = ap (λ b. before_rest b k []) h
unbeaten_stays beaten (j ∷ ks) k h = ap (before_rest (beaten j) j) (unbeaten_stays beaten ks k h) ∙ some_stays (beaten j) j k ks

-- the list is empty, or has a last item
pub data Ended : List ℕ → Type 0 where
  nothing : Ended []
  behind : (ks : List ℕ) (k : ℕ) → Ended (ks ++ k ∷ [])

pub ended : (ks : List ℕ) → Ended ks
ended [] = nothing
ended (k ∷ ks) = go ks (ended ks)
  where
    go : (js : List ℕ) → Ended js → Ended (k ∷ js)
    go [] nothing = behind [] k
    go _ (behind js j) = behind (k ∷ js) j

pub rest_stays : (beaten : ℕ → Bool) (ks : List ℕ) → is_last_beaten beaten ks ≡ false → without_beaten beaten ks ≡ ks
rest_stays beaten ks = go ks (ended ks)
  where
    go : (js : List ℕ) → Ended js → is_last_beaten beaten js ≡ false → without_beaten beaten js ≡ js
    go [] nothing h = refl
    go _ (behind js j) h = unbeaten_stays beaten js j (sym (last_more beaten js j) ∙ h)

pub last_goes : (beaten : ℕ → Bool) (ks : List ℕ) (k : ℕ) → is_last_beaten beaten (ks ++ k ∷ []) ≡ true → without_beaten beaten (ks ++ k ∷ []) ≡ without_beaten beaten ks
last_goes beaten ks k h = beaten_goes beaten ks k (sym (last_more beaten ks k) ∙ h)

-- ---- parts of a queue
module _ (P : ℕ → Type 0) where
  pub best_all : (le : Cell → Cell → Bool) (at : ℕ → Cell) (ks : List ℕ) → AllByRecursion P ks → AllByRecursion P (best_places le at ks)
  best_all le at [] all = tt
  best_all le at (k ∷ ks) all = go (not (is_null (at k)) && not (is_beaten le at ks (at k))) (best_all le at ks all.1)
    where
      go : (b : Bool) → AllByRecursion P (best_places le at ks) → AllByRecursion P (cond b (k ∷ best_places le at ks) (best_places le at ks))
      go true h = (all.0, h)
      go false h = h

-- ---- one place less
other_stays : (place : ℕ) (ks : List ℕ) → AllByRecursion (λ k. place < k) ks → without_place place ks ≡ ks
other_stays place [] all = refl
other_stays place (k ∷ ks) all =
    let other : (k == place) ≡ false = grind (arith, all.0) in
    ap (λ b. cond b ks (k ∷ ks)) other

pub without_front : (le : Cell → Cell → Bool) (at : ℕ → Cell) (place : ℕ) (ks : List ℕ) → AllByRecursion (λ k. place < k) ks → without_place place (best_places le at (place ∷ ks)) ≡ best_places le at ks
without_front le at place ks all = go (not (is_null (at place)) && not (is_beaten le at ks (at place)))
  where
    same : (place == place) ≡ true
    same = grind arith

    go : (b : Bool) → without_place place (cond b (place ∷ best_places le at ks) (best_places le at ks)) ≡ best_places le at ks
    go true = ap (λ b. cond b (best_places le at ks) (place ∷ best_places le at ks)) same
    go false = other_stays place (best_places le at ks) (best_all (λ k. place < k) le at ks all)

-- ---- one place more
or_assoc : (a b d : Bool) → (a || (b || d)) ≡ ((a || b) || d)
or_assoc true b d = refl
or_assoc false b d = refl

any_more : {X : Type 0} (p : X → Bool) (xs : List X) (x : X) → list_any p (xs ++ x ∷ []) ≡ (list_any p xs || p x)
any_more p [] x = or_false (p x)
any_more p (y ∷ xs) x = ap (λ b. p y || b) (any_more p xs x) ∙ or_assoc (p y) (list_any p xs) (p x)

-- the cell at the first place
abbrev pub first_cell_of : (ℕ → Cell) → List ℕ → Cell
first_cell_of at [] = c.Null
first_cell_of at (k ∷ ks) = at k

module _ {le : Cell → Cell → Bool} (o : IsOrder le) (at : ℕ → Cell) where
  other_way : (x y : Cell) → le x y ≡ false → le y x ≡ true
  other_way x y e = ⊎_elim (λ t. absurd (true≢false (sym t ∙ e))) (λ t. t) (o.total x y)

  null_beats_none : (ks : List ℕ) (k : ℕ) (x : Cell) → is_null (at k) ≡ true → is_beaten le at (ks ++ k ∷ []) x ≡ is_beaten le at ks x
  null_beats_none ks k x null =
      any_more (λ j. not (is_null (at j)) && le (at j) x) ks k ∙ ap (λ b. is_beaten le at ks x || (not b && le (at k) x)) null ∙ or_false (is_beaten le at ks x)

  value_beats : (ks : List ℕ) (k : ℕ) (x : Cell) → is_null (at k) ≡ false → is_beaten le at (ks ++ k ∷ []) x ≡ (is_beaten le at ks x || le (at k) x)
  value_beats ks k x value =
      any_more (λ j. not (is_null (at j)) && le (at j) x) ks k ∙ ap (λ b. is_beaten le at ks x || (not b && le (at k) x)) value

  null_more : (ks : List ℕ) (k : ℕ) → is_null (at k) ≡ true → best_places le at (ks ++ k ∷ []) ≡ best_places le at ks
  null_more [] k null = ap (λ b. cond (not b && true) (k ∷ []) []) null
  null_more (j ∷ ks) k null =
      ap (λ b. cond (not (is_null (at j)) && not b) (j ∷ best_places le at (ks ++ k ∷ [])) (best_places le at (ks ++ k ∷ []))) (null_beats_none ks k (at j) null)
      ∙ ap (λ l. cond (not (is_null (at j)) && not (is_beaten le at ks (at j))) (j ∷ l) l) (null_more ks k null)

  -- what beats a cell that none of these beats, beats all of these
  all_beaten : (ks : List ℕ) (x y : Cell) → is_beaten le at ks x ≡ false → le y x ≡ true → AllByRecursion (λ k. le y (at k) ≡ true) (best_places le at ks)
  all_beaten [] x y none h = tt
  all_beaten (k ∷ ks) x y none h = go (λ e. all_beaten ks x y e h) (is_null (at k)) (le (at k) x) refl refl none
    where
      kept : (b : Bool) → le y (at k) ≡ true → AllByRecursion (λ j. le y (at j) ≡ true) (best_places le at ks) → AllByRecursion (λ j. le y (at j) ≡ true) (cond b (k ∷ best_places le at ks) (best_places le at ks))
      kept true e rest = (e, rest)
      kept false e rest = rest

      go : (is_beaten le at ks x ≡ false → AllByRecursion (λ j. le y (at j) ≡ true) (best_places le at ks)) → (n l : Bool) → is_null (at k) ≡ n → le (at k) x ≡ l → ((not n && l) || is_beaten le at ks x) ≡ false
          → AllByRecursion (λ j. le y (at j) ≡ true) (cond (not n && not (is_beaten le at ks (at k))) (k ∷ best_places le at ks) (best_places le at ks))
      go rest true l e f none' = rest none'
      go rest false true e f none' = absurd (true≢false none')
      go rest false false e f none' = kept (not (is_beaten le at ks (at k))) (o.trans y x (at k) h (other_way (at k) x f)) (rest none')

  none_left : (beaten : ℕ → Bool) (ks : List ℕ) → AllByRecursion (λ k. beaten k ≡ true) ks → without_beaten beaten ks ≡ []
  none_left beaten [] all = refl
  none_left beaten (k ∷ ks) all = ap (before_rest (beaten k) k) (none_left beaten ks all.1) ∙ ap (λ b. before_rest b k []) all.0

  value_more : (ks : List ℕ) (k : ℕ) → is_null (at k) ≡ false → without_beaten (λ j. le (at k) (at j)) (best_places le at ks) ++ k ∷ [] ≡ best_places le at (ks ++ k ∷ [])
  value_more [] k value = sym (ap (λ b. cond (not b && true) (k ∷ []) []) value)
  value_more (j ∷ ks) k value =
      go (value_more ks k value) (is_null (at j)) (is_beaten le at ks (at j)) (le (at k) (at j)) refl refl
      ∙ ap (λ b. cond (not (is_null (at j)) && not b) (j ∷ best_places le at (ks ++ k ∷ [])) (best_places le at (ks ++ k ∷ []))) (sym (value_beats ks k (at j) value))
    where
      none : is_beaten le at ks (at j) ≡ false → le (at k) (at j) ≡ true → without_beaten (λ i. le (at k) (at i)) (best_places le at ks) ≡ []
      none e f = none_left (λ i. le (at k) (at i)) (best_places le at ks) (all_beaten ks (at j) (at k) e f)

      go : without_beaten (λ i. le (at k) (at i)) (best_places le at ks) ++ k ∷ [] ≡ best_places le at (ks ++ k ∷ []) → (n b l : Bool) → is_beaten le at ks (at j) ≡ b → le (at k) (at j) ≡ l
          → without_beaten (λ i. le (at k) (at i)) (cond (not n && not b) (j ∷ best_places le at ks) (best_places le at ks)) ++ k ∷ []
          ≡ cond (not n && not (b || l)) (j ∷ best_places le at (ks ++ k ∷ [])) (best_places le at (ks ++ k ∷ []))
      go ih true b l e f = ih
      go ih false true l e f = ih
      go ih false false true e f = ap (λ d. before_rest d j (without_beaten (λ i. le (at k) (at i)) (best_places le at ks)) ++ k ∷ []) f ∙ ap (λ ls. before_rest true j ls ++ k ∷ []) (none e f) ∙ sym (ap (λ ls. ls ++ k ∷ []) (none e f)) ∙ ih
      go ih false false false e f = ap (λ d. before_rest d j (without_beaten (λ i. le (at k) (at i)) (best_places le at ks)) ++ k ∷ []) f ∙ ap (λ l. j ∷ l) ih

  pub with_place_is : (ks : List ℕ) (k : ℕ) → with_place le at (best_places le at ks) k ≡ best_places le at (ks ++ k ∷ [])
  with_place_is ks k = go (is_null (at k)) refl
    where
      go : (n : Bool) → is_null (at k) ≡ n → cond n (best_places le at ks) (without_beaten (λ j. le (at k) (at j)) (best_places le at ks) ++ k ∷ []) ≡ best_places le at (ks ++ k ∷ [])
      go true e = sym (null_more ks k e)
      go false e = value_more ks k e

  -- ---- the first place
  abbrev first_in : List Cell → Cell
  first_in vs = column_of 0 (sorted_by le vs)

  beaten_values : (ks : List ℕ) (x : Cell) → is_beaten le at ks x ≡ list_any (λ v. le v x) (values_of (map at ks))
  beaten_values [] x = refl
  beaten_values (k ∷ ks) x = go (is_null (at k)) (beaten_values ks x)
    where
      go : (n : Bool) → is_beaten le at ks x ≡ list_any (λ v. le v x) (values_of (map at ks)) → ((not n && le (at k) x) || is_beaten le at ks x) ≡ list_any (λ v. le v x) (cond (not n) (at k ∷ values_of (map at ks)) (values_of (map at ks)))
      go true ih = ih
      go false ih = ap (λ b. le (at k) x || b) ih

  some_inserted : (x : Cell) (ys : List Cell) → 0 < length (insert_by le x ys)
  some_inserted x [] = omega arith
  some_inserted x (y ∷ ys) = go (le x y)
    where
      go : (b : Bool) → 0 < length (cond b (x ∷ y ∷ ys) (y ∷ insert_by le x ys))
      go true = omega arith
      go false = omega arith

  first_inserted : (x : Cell) (ys : List Cell) → 0 < length ys → column_of 0 (insert_by le x ys) ≡ cond (le x (column_of 0 ys)) x (column_of 0 ys)
  first_inserted x [] h = absurd (omega (arith, h))
  first_inserted x (y ∷ ys) h = go (le x y)
    where
      go : (b : Bool) → column_of 0 (cond b (x ∷ y ∷ ys) (y ∷ insert_by le x ys)) ≡ cond b x y
      go true = refl
      go false = refl

  first_more : (x v : Cell) (vs : List Cell) → first_in (x ∷ v ∷ vs) ≡ cond (le x (first_in (v ∷ vs))) x (first_in (v ∷ vs))
  first_more x v vs = first_inserted x (sorted_by le (v ∷ vs)) (some_inserted v (sorted_by le vs))

  any_first : (v : Cell) (vs : List Cell) (x : Cell) → list_any (λ w. le w x) (v ∷ vs) ≡ le (first_in (v ∷ vs)) x
  any_first v [] x = or_false (le v x)
  any_first v (w ∷ ws) x =
      let z = first_in (w ∷ ws) in
      ap (λ b. le v x || b) (any_first w ws x) ∙ go z (le v z) (le v x) (le z x) refl refl refl ∙ ap (λ y. le y x) (sym (first_more v w ws))
    where
      go : (z : Cell) (a b d : Bool) → le v z ≡ a → le v x ≡ b → le z x ≡ d → (b || d) ≡ le (cond a v z) x
      go z true true d e f g = sym f
      go z true false true e f g = absurd (true≢false (sym (o.trans v z x e g) ∙ f))
      go z true false false e f g = sym f
      go z false true d e f g = sym (o.trans z v x (other_way v z e) f)
      go z false false d e f g = sym g

  pub best_first : (ks : List ℕ) → first_cell_of at (best_places le at ks) ≡ first_in (values_of (map at ks))
  best_first [] = refl
  best_first (k ∷ ks) =
      ap (λ b. first_cell_of at (cond (not (is_null (at k)) && not b) (k ∷ best_places le at ks) (best_places le at ks))) (beaten_values ks (at k))
      ∙ go (is_null (at k)) (values_of (map at ks)) (best_first ks)
    where
      beats : (b l : Bool) (z : Cell) → le z (at k) ≡ b → le (at k) z ≡ l → first_cell_of at (best_places le at ks) ≡ z → first_cell_of at (cond (not b) (k ∷ best_places le at ks) (best_places le at ks)) ≡ cond l (at k) z
      beats true true z e f ih = ih ∙ sym (o.antisym (at k) z f e)
      beats true false z e f ih = ih
      beats false true z e f ih = refl
      beats false false z e f ih = absurd (true≢false (sym (other_way z (at k) e) ∙ f))

      go : (n : Bool) (vs : List Cell) → first_cell_of at (best_places le at ks) ≡ first_in vs
          → first_cell_of at (cond (not n && not (list_any (λ v. le v (at k)) vs)) (k ∷ best_places le at ks) (best_places le at ks)) ≡ first_in (cond (not n) (at k ∷ vs) vs)
      go true vs ih = ih
      go false [] ih = refl
      go false (v ∷ vs) ih =
          ap (λ b. first_cell_of at (cond (not b) (k ∷ best_places le at ks) (best_places le at ks))) (any_first v vs (at k))
          ∙ beats (le (first_in (v ∷ vs)) (at k)) (le (at k) (first_in (v ∷ vs))) (first_in (v ∷ vs)) refl refl ih ∙ sym (first_more (at k) v vs)

-- ---- the least and the greatest
pub order_of : (kind : AggKind) → IsOrder (le_of kind)
order_of kinds.Max = falling_order
order_of other = rising_order

pub cell_is : (cells : List Cell) (ks : List ℕ) → cell_or c.Null cells (first_of ks) ≡ first_cell_of (cell_in cells) ks
cell_is cells [] = refl
cell_is cells (k ∷ ks) = refl

pub least_value : (p : Settings) (vs : List Cell) (cells : List Cell) → values_of cells ≡ vs → Ok (column_of 0 (sorted_by (le_by cell_cmp) vs)) ≡ group_value p kinds.Min cells
least_value p [] cells e = sym (ap (λ vs. aggregate p kinds.Min vs) e)
least_value p (v ∷ vs) cells e = sym (ap (λ vs. aggregate p kinds.Min vs) e)

pub greatest_value : (p : Settings) (vs : List Cell) (cells : List Cell) → values_of cells ≡ vs → Ok (column_of 0 (sorted_by (λ x y. le_by cell_cmp y x) vs)) ≡ group_value p kinds.Max cells
greatest_value p [] cells e = sym (ap (λ vs. aggregate p kinds.Max vs) e)
greatest_value p (v ∷ vs) cells e = sym (ap (λ vs. aggregate p kinds.Max vs) e)

-- ---- the last place goes
pub popped : (beaten : ℕ → Bool) (ks js : List ℕ) (r : Option ℕ) → ks ≡ js ++ option_to_list r → is_last_beaten beaten ks ≡ true → without_beaten beaten js ≡ without_beaten beaten ks
popped beaten ks js None e h = ap (without_beaten beaten) (sym (e ∙ append-nil js))
popped beaten ks js (Some k) e h = sym (ap (without_beaten beaten) e ∙ last_goes beaten js k (sym (ap (is_last_beaten beaten) e) ∙ h))

pub all_popped : (P : ℕ → Type 0) (ks js : List ℕ) (r : Option ℕ) → ks ≡ js ++ option_to_list r → All P ks → All P js
all_popped P ks js r e all = (All-pop P ks js r e all).0

some_last : (beaten : ℕ → Bool) (ks : List ℕ) → is_last_beaten beaten ks ≡ true → 0 < length ks
some_last beaten [] h = absurd (true≢false (sym h))
some_last beaten (k ∷ ks) h = omega arith

pub shorter : (beaten : ℕ → Bool) (ks js : List ℕ) (r : Option ℕ) (n m : ℕ) → ks ≡ js ++ option_to_list r → n ≡ length ks → MatchOption r ((n ≡ 0) × (m ≡ 0)) (λ _. m + 1 ≡ n) → is_last_beaten beaten ks ≡ true → length js < length ks
shorter beaten ks js None n m e many none h = absurd (omega (arith, some_last beaten ks h, many, none.0))
shorter beaten ks js (Some k) n m e many some h = omega (arith, ap length e, length_push js k)
