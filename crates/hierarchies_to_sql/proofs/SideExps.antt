-- The expressions of the sides of a rule have the values of the sides.
use Rattle.std.proofs.Common.{◌≡◌, ℕ, ℤ, pos, Bool, true, false, not, cond, fold, ◌&&◌, ◌||◌, List, [], ◌∷◌, map, Option, Some, None, Ok, Err, refl, sym, ap, ◌∙◌, subst}
use Rattle.std.specs.List.{AllByRecursion, list_all, list_any, zip}
use Rattle.std.specs.Option.{option_map_or}
use Rattle.vtl_lists.proofs.Tests.{or_false}
use Rattle.vtl_decimal.specs.Settings.{Settings}
use Rattle.vtl_decimal.specs.Range.{fit_number}
use Rattle.vtl_decimal.specs.declared.number.Fault.{Fault}
use Rattle.vtl_cell.specs.Conversion.{as_kind}
use Rattle.vtl_cell.specs.Kinds.{is_null, is_of}
use Rattle.vtl_cell.specs.Order.{same_cell}
use Rattle.vtl_cell.specs.Outcome.{Outcome, after, fault_in, join}
use Rattle.vtl_cell.specs.Outcomes.{all_of, is_true, result_of}
use Rattle.vtl_cell.specs.Row.{Row}
use Rattle.vtl_cell.specs.ScalarArithmetic.{number, units}
use Rattle.vtl_cell.specs.Scalars.{scalar_of}
use Rattle.vtl_cell.specs.declared.cell.Cell.{Cell}
use Rattle.vtl_cell.specs.declared.cell.Cell.TheVariants as c
use Rattle.vtl_cell.specs.declared.kind.Kind.{Kind}
use Rattle.vtl_cell.specs.declared.kind.Kind.TheVariants as k
use Rattle.vtl_cell.specs.declared.operator.ScalarOp.{ScalarOp}
use Rattle.vtl_cell.specs.declared.operator.ScalarOp.TheVariants as op
use Rattle.vtl_syntax.specs.declared.parts.SignedComp.{SignedComp}
use Rattle.vtl_syntax.specs.declared.statements.HierRule.{HierRule}
use Rattle.vtl_syntax.specs.declared.word_groups.Addition.{Addition}
use Rattle.vtl_syntax.specs.declared.word_groups.Addition.TheVariants as sign
use Rattle.vtl_syntax.specs.declared.word_groups.Comparison.{Comparison}
use Rattle.vtl_syntax.specs.declared.word_groups.Comparison.TheVariants as compared
use Rattle.vtl_syntax.specs.declared.word_groups.Mode.{Mode}
use Rattle.vtl_syntax.specs.declared.word_groups.Mode.TheVariants as mode
use Rattle.vtl_tree.specs.CompExp.{CompExp}
use Rattle.vtl_tree.specs.RuleItems.{items_of, left_item, right_items}
use Rattle.vtl_tree.specs.Value.{called, value}
use Rattle.vtl_rulings.specs.HierarchyShapes.{IsNumeric}
use Rattle.vtl_rulings.specs.Modes.{Found, Items, appears, counted, is_counted, is_filled, is_zero, missing_as, zero_of}
use Rattle.vtl_rulings.specs.Sides.{comparison_op, difference, first_value, holds, left_side, next_values, right_side, sign_op, sum_of}
use Rattle.selects_to_sql.specs.Queries.{both, conjunction, holds_always}
use Rattle.selects_to_sql.proofs.Conjunctions.{conjunction_says}
use Rattle.rules_to_sql.specs.CheckQueries.{as_number}
use Rattle.hierarchies_to_sql.specs.SideExps.{Leaf, appears_exp, between, counted_exp, counts_exp, difference_exp, disjunction, either, filled_exp, first_exp, holds_exp, left_exp, next_exps, or_zero, right_exp, rights_of, sum_exp}

-- ---- booleans

or_grouped : (a b d : Bool) → ((a || b) || d) ≡ (a || (b || d))
or_grouped true b d = refl
or_grouped false b d = refl

and_grouped : (a b d : Bool) → ((a && b) && d) ≡ (a && (b && d))
and_grouped true b d = refl
and_grouped false b d = refl

module _ (p : Settings) (kind : Kind) (numeric : IsNumeric kind) (r : Row) where
  -- what stands for an item at a row
  pub record Shows (l : Leaf) (x : Found) : Type 0 where
    pub found : value p l.value r ≡ Ok (option_map_or (λ v. v) x c.Null)
    pub there : value p l.there r ≡ Ok (option_map_or (λ v. c.Bool true) x c.Null)
    pub of_kind : option_map_or (λ v. is_of kind v) x true ≡ true

  abbrev pub AllShow : List Leaf → List Found → Type 0
  AllShow [] [] = Unit {0}
  AllShow (l ∷ ls) (x ∷ xs) = Shows l x × AllShow ls xs
  AllShow ls xs = ⊥

  -- ---- what an item counts as

  stays : (q : Kind) (v : Cell) → is_of q v ≡ true → as_kind p q v ≡ Ok v
  stays k.Num (c.Int n) h = cc
  stays q v h = refl

  zero_stays : (q : Kind) → IsNumeric q → as_kind p q (zero_of q) ≡ Ok (zero_of q)
  zero_stays k.Int h = refl
  zero_stays k.Num h = refl
  zero_stays k.Null h = absurd h
  zero_stays k.Bool h = absurd h
  zero_stays k.Text h = absurd h
  zero_stays k.Day h = absurd h
  zero_stays k.Period h = absurd h

  zero_counts : (l : Leaf) (x : Found) → Shows l x → value p (or_zero kind l) r ≡ Ok (option_map_or (λ v. v) x (zero_of kind))
  zero_counts l x s =
      ap (λ m. called p kind (m ∷ value p l.value r ∷ Ok (zero_of kind) ∷ []) op.If) s.there
      ∙ ap (λ m. called p kind (Ok (option_map_or (λ v. c.Bool true) x c.Null) ∷ m ∷ Ok (zero_of kind) ∷ []) op.If) s.found
      ∙ go x s.of_kind
    where
      go : (y : Found) → option_map_or (λ v. is_of kind v) y true ≡ true → called p kind (Ok (option_map_or (λ v. c.Bool true) y c.Null) ∷ Ok (option_map_or (λ v. v) y c.Null) ∷ Ok (zero_of kind) ∷ []) op.If ≡ Ok (option_map_or (λ v. v) y (zero_of kind))
      go None h = zero_stays kind numeric
      go (Some v) h = stays kind v h

  pub counted_is : (m : Mode) (l : Leaf) (x : Found) → Shows l x → value p (counted_exp m kind l) r ≡ Ok (counted m kind x)
  counted_is mode.NonNull l x s = s.found
  counted_is mode.NonZero l x s = zero_counts l x s
  counted_is mode.PartialNull l x s = s.found
  counted_is mode.PartialZero l x s = zero_counts l x s
  counted_is mode.AlwaysNull l x s = s.found
  counted_is mode.AlwaysZero l x s = zero_counts l x s

  -- ---- conditions: a truth value or null, and whether it is true

  abbrev pub is_truth : Cell → Bool
  is_truth v = is_of k.Bool v

  pub record IsSure (e : CompExp) (t : Bool) : Type 0 where
    pub cell : Cell
    pub is : value p e r ≡ Ok cell
    pub truth : is_truth cell ≡ true
    pub told : is_true (Ok cell) ≡ t

  abbrev Joined : ScalarOp → (Bool → Bool → Bool) → (v w : Cell) → Type 0
  Joined o f v w = (u : Cell) × (result_of p o k.Bool (v ∷ w ∷ []) ≡ Ok u) × (is_truth u ≡ true) × (is_true (Ok u) ≡ f (is_true (Ok v)) (is_true (Ok w)))

  both_sure : (o : ScalarOp) (f : Bool → Bool → Bool) → ((v w : Cell) → is_truth v ≡ true → is_truth w ≡ true → Joined o f v w) → ((m n : Outcome Cell) → called p k.Bool (m ∷ n ∷ []) o ≡ after (all_of (m ∷ n ∷ [])) (result_of p o k.Bool)) → (e g : CompExp) (a b : Bool) → IsSure e a → IsSure g b → IsSure (between o k.Bool e g) (f a b)
  both_sure o f table plain e g a b x y =
      let t = table x.cell y.cell x.truth y.truth in record {
        cell = t.0;
        is =
            plain (value p e r) (value p g r)
            ∙ ap (λ m. after (all_of (m ∷ value p g r ∷ [])) (result_of p o k.Bool)) x.is
            ∙ ap (λ m. after (all_of (Ok x.cell ∷ m ∷ [])) (result_of p o k.Bool)) y.is
            ∙ t.1;
        truth = t.2;
        told = t.3 ∙ ap (λ z. f z (is_true (Ok y.cell))) x.told ∙ ap (f a) y.told;
      }

  or_table : (v w : Cell) → is_truth v ≡ true → is_truth w ≡ true → Joined op.Or (λ a b. a || b) v w
  or_table (c.Bool true) (c.Bool b) h i = (c.Bool true, refl, refl, refl)
  or_table (c.Bool false) (c.Bool true) h i = (c.Bool true, refl, refl, refl)
  or_table (c.Bool false) (c.Bool false) h i = (c.Bool false, refl, refl, refl)
  or_table (c.Bool true) c.Null h i = (c.Bool true, refl, refl, refl)
  or_table (c.Bool false) c.Null h i = (c.Null, refl, refl, refl)
  or_table c.Null (c.Bool true) h i = (c.Bool true, refl, refl, refl)
  or_table c.Null (c.Bool false) h i = (c.Null, refl, refl, refl)
  or_table c.Null c.Null h i = (c.Null, refl, refl, refl)
  or_table v w h i = cc

  and_table : (v w : Cell) → is_truth v ≡ true → is_truth w ≡ true → Joined op.And (λ a b. a && b) v w
  and_table (c.Bool true) (c.Bool true) h i = (c.Bool true, refl, refl, refl)
  and_table (c.Bool true) (c.Bool false) h i = (c.Bool false, refl, refl, refl)
  and_table (c.Bool false) (c.Bool b) h i = (c.Bool false, refl, refl, refl)
  and_table (c.Bool true) c.Null h i = (c.Null, refl, refl, refl)
  and_table (c.Bool false) c.Null h i = (c.Bool false, refl, refl, refl)
  and_table c.Null (c.Bool true) h i = (c.Null, refl, refl, refl)
  and_table c.Null (c.Bool false) h i = (c.Bool false, refl, refl, refl)
  and_table c.Null c.Null h i = (c.Null, refl, refl, refl)
  and_table v w h i = cc

  pub or_sure : (e g : CompExp) (a b : Bool) → IsSure e a → IsSure g b → IsSure (either e g) (a || b)
  or_sure = both_sure op.Or (λ a b. a || b) or_table (λ m n. refl)

  and_sure : (e g : CompExp) (a b : Bool) → IsSure e a → IsSure g b → IsSure (both e g) (a && b)
  and_sure = both_sure op.And (λ a b. a && b) and_table (λ m n. refl)

  -- a condition for each of several items
  module _ (f : Leaf → CompExp) (t : Found → Bool) (one : (l : Leaf) (x : Found) → Shows l x → IsSure (f l) (t x)) where
    any_from : (e : CompExp) (a : Bool) (ls : List Leaf) (xs : List Found) → IsSure e a → AllShow ls xs → IsSure (fold either e (map f ls)) (a || list_any t xs)
    any_from e a [] [] s all = subst (IsSure e) (sym (or_false a)) s
    any_from e a [] (x ∷ xs) s all = absurd all
    any_from e a (l ∷ ls) [] s all = absurd all
    any_from e a (l ∷ ls) (x ∷ xs) s all = subst (IsSure (fold either (either e (f l)) (map f ls))) (or_grouped a (t x) (list_any t xs)) (any_from (either e (f l)) (a || t x) ls xs (or_sure e (f l) a (t x) s (one l x all.0)) all.1)

    any_sure : (ls : List Leaf) (xs : List Found) → AllShow ls xs → IsSure (disjunction (map f ls)) (list_any t xs)
    any_sure [] [] all = record { cell = c.Bool false; is = refl; truth = refl; told = refl }
    any_sure [] (x ∷ xs) all = absurd all
    any_sure (l ∷ ls) [] all = absurd all
    any_sure (l ∷ ls) (x ∷ xs) all = any_from (f l) (t x) ls xs (one l x all.0) all.1

    firsts : (ls : List Leaf) (xs : List Found) → AllShow ls xs → map (λ (z : Leaf × Found). f z.0) (zip ls xs) ≡ map f ls
    firsts [] [] all = refl
    firsts [] (x ∷ xs) all = absurd all
    firsts (l ∷ ls) [] all = absurd all
    firsts (l ∷ ls) (x ∷ xs) all = ap (λ es. f l ∷ es) (firsts ls xs all.1)

    seconds : (ls : List Leaf) (xs : List Found) → AllShow ls xs → list_all (λ (z : Leaf × Found). t z.1) (zip ls xs) ≡ list_all t xs
    seconds [] [] all = refl
    seconds [] (x ∷ xs) all = absurd all
    seconds (l ∷ ls) [] all = absurd all
    seconds (l ∷ ls) (x ∷ xs) all = ap (λ b. t x && b) (seconds ls xs all.1)

    each_sure : (ls : List Leaf) (xs : List Found) → AllShow ls xs → AllByRecursion (λ (z : Leaf × Found). IsSure (f z.0) (t z.1)) (zip ls xs)
    each_sure [] [] all = tt
    each_sure [] (x ∷ xs) all = absurd all
    each_sure (l ∷ ls) [] all = absurd all
    each_sure (l ∷ ls) (x ∷ xs) all = (one l x all.0, each_sure ls xs all.1)

    all_sure : (ls : List Leaf) (xs : List Found) → AllShow ls xs → IsSure (conjunction (map f ls)) (list_all t xs)
    all_sure ls xs all =
        let none : IsSure holds_always true = record { cell = c.Bool true; is = refl; truth = refl; told = refl } in
        let sure = conjunction_says IsSure and_sure none (λ (z : Leaf × Found). f z.0) (λ (z : Leaf × Found). t z.1) (zip ls xs) (each_sure ls xs all) in
        subst (λ es. IsSure (conjunction es) (list_all t xs)) (firsts ls xs all)
        (subst (λ b. IsSure (conjunction (map (λ (z : Leaf × Found). f z.0) (zip ls xs))) b) (seconds ls xs all) sure)

  filled_cell : (v : Cell) → called p k.Bool (called p k.Bool (Ok v ∷ []) op.IsNull ∷ []) op.Not ≡ Ok (c.Bool (not (is_null v)))
  filled_cell c.Null = refl
  filled_cell (c.Bool x) = refl
  filled_cell (c.Int x) = refl
  filled_cell (c.Num x) = refl
  filled_cell (c.Text x) = refl
  filled_cell (c.Day x) = refl
  filled_cell (c.Period x) = refl

  pub filled_sure : (l : Leaf) (x : Found) → Shows l x → IsSure (filled_exp l) (is_filled x)
  filled_sure l x s = record {
    cell = c.Bool (is_filled x);
    is = ap (λ m. called p k.Bool (called p k.Bool (m ∷ []) op.IsNull ∷ []) op.Not) s.found ∙ filled_cell (option_map_or (λ v. v) x c.Null) ∙ ap (λ b. Ok (c.Bool b)) (go x);
    truth = refl;
    told = refl;
  }
    where
      go : (y : Found) → not (is_null (option_map_or (λ v. v) y c.Null)) ≡ is_filled y
      go None = refl
      go (Some v) = refl

  pub there_sure : (l : Leaf) (x : Found) → Shows l x → IsSure l.there (option_map_or (λ v. true) x false)
  there_sure l x s = record { cell = option_map_or (λ v. c.Bool true) x c.Null; is = s.there; truth = known x; told = told_by x }
    where
      known : (y : Found) → is_truth (option_map_or (λ v. c.Bool true) y c.Null) ≡ true
      known None = refl
      known (Some v) = refl

      told_by : (y : Found) → is_true (Ok (option_map_or (λ v. c.Bool true) y c.Null)) ≡ option_map_or (λ v. true) y false
      told_by None = refl
      told_by (Some v) = refl

  abbrev unlike : Kind → Cell → Outcome Cell
  unlike q v = called p k.Bool (called p k.Bool (Ok v ∷ Ok (zero_of q) ∷ []) op.Equal ∷ []) op.Not

  abbrev Tells : Kind → Found → Type 0
  Tells q y = (u : Cell) × (unlike q (option_map_or (λ v. v) y c.Null) ≡ Ok u) × (is_truth u ≡ true) × (is_true (Ok u) ≡ is_counted y)

  counts_sure : (l : Leaf) (x : Found) → Shows l x → IsSure (counts_exp kind l) (is_counted x)
  counts_sure l x s =
      let t = go kind numeric x s.of_kind in
      record { cell = t.0; is = ap (λ m. called p k.Bool (called p k.Bool (m ∷ Ok (zero_of kind) ∷ []) op.Equal ∷ []) op.Not) s.found ∙ t.1; truth = t.2; told = t.3 }
    where
      whole : (i : Cell) (b : Bool) → same_cell i (c.Int (pos 0)) ≡ b → (u : Cell) × (called p k.Bool (Ok (c.Bool (same_cell i (c.Int (pos 0)))) ∷ []) op.Not ≡ Ok u) × (is_truth u ≡ true) × (is_true (Ok u) ≡ not (same_cell i (c.Int (pos 0)) || false))
      whole i true e = (c.Bool false, ap (λ z. called p k.Bool (Ok (c.Bool z) ∷ []) op.Not) e, refl, sym (ap (λ z. not (z || false)) e))
      whole i false e = (c.Bool true, ap (λ z. called p k.Bool (Ok (c.Bool z) ∷ []) op.Not) e, refl, sym (ap (λ z. not (z || false)) e))

      broken : (i : Cell) (b : Bool) → same_cell i (c.Num (pos 0)) ≡ b → (u : Cell) × (called p k.Bool (Ok (c.Bool (same_cell i (c.Num (pos 0)))) ∷ []) op.Not ≡ Ok u) × (is_truth u ≡ true) × (is_true (Ok u) ≡ not (false || same_cell i (c.Num (pos 0))))
      broken i true e = (c.Bool false, ap (λ z. called p k.Bool (Ok (c.Bool z) ∷ []) op.Not) e, refl, sym (ap (λ z. not (false || z)) e))
      broken i false e = (c.Bool true, ap (λ z. called p k.Bool (Ok (c.Bool z) ∷ []) op.Not) e, refl, sym (ap (λ z. not (false || z)) e))

      go : (q : Kind) → IsNumeric q → (y : Found) → option_map_or (λ v. is_of q v) y true ≡ true → Tells q y
      go k.Int n None h = (c.Null, refl, refl, refl)
      go k.Int n (Some c.Null) h = (c.Null, refl, refl, refl)
      go k.Int n (Some (c.Int i)) h = whole (c.Int i) (same_cell (c.Int i) (c.Int (pos 0))) refl
      go k.Int n (Some v) h = cc
      go k.Num n None h = (c.Null, refl, refl, refl)
      go k.Num n (Some c.Null) h = (c.Null, refl, refl, refl)
      go k.Num n (Some (c.Num i)) h = broken (c.Num i) (same_cell (c.Num i) (c.Num (pos 0))) refl
      go k.Num n (Some v) h = cc
      go k.Null n y h = absurd n
      go k.Bool n y h = absurd n
      go k.Text n y h = absurd n
      go k.Day n y h = absurd n
      go k.Period n y h = absurd n

  -- a point appears where the condition is true
  abbrev pub Appears : Option CompExp → Bool → Type 0
  Appears None t = true ≡ t
  Appears (Some e) t = IsSure e t

  pub appears_is : (m : Mode) (ls : List Leaf) (xs : List Found) → AllShow ls xs → Appears (appears_exp m kind ls) (appears m xs)
  appears_is mode.NonNull ls xs all = all_sure filled_exp is_filled filled_sure ls xs all
  appears_is mode.NonZero ls xs all = any_sure (counts_exp kind) is_counted counts_sure ls xs all
  appears_is mode.PartialNull ls xs all = any_sure filled_exp is_filled filled_sure ls xs all
  appears_is mode.PartialZero ls xs all = any_sure filled_exp is_filled filled_sure ls xs all
  appears_is mode.AlwaysNull ls xs all = refl
  appears_is mode.AlwaysZero ls xs all = refl

  -- ---- sides

  abbrev Have : List CompExp → List Cell → Type 0
  Have [] [] = Unit {0}
  Have (e ∷ es) (v ∷ vs) = (value p e r ≡ Ok v) × Have es vs
  Have es vs = ⊥

  signed : (s : Addition) (m : Outcome Cell) (v : Cell) → called p kind (m ∷ Ok v ∷ []) (sign_op s) ≡ after m (λ u. result_of p (sign_op s) kind (u ∷ v ∷ []))
  signed sign.Plus (Ok u) v = refl
  signed sign.Plus (Err f) v = refl
  signed sign.Minus (Ok u) v = refl
  signed sign.Minus (Err f) v = refl

  next_is : (e : CompExp) (m : Outcome Cell) (xs : List SignedComp) (es : List CompExp) (vs : List Cell) → value p e r ≡ m → Have es vs → value p (next_exps kind e xs es) r ≡ next_values p kind m xs vs
  next_is e m [] [] [] h all = h
  next_is e m [] [] (v ∷ vs) h all = absurd all
  next_is e m [] (f ∷ fs) [] h all = absurd all
  next_is e m [] (f ∷ fs) (v ∷ vs) h all = h
  next_is e m (x ∷ xs) [] [] h all = h
  next_is e m (x ∷ xs) [] (v ∷ vs) h all = absurd all
  next_is e m (x ∷ xs) (f ∷ fs) [] h all = absurd all
  next_is e m (x ∷ xs) (f ∷ fs) (v ∷ vs) h all =
      next_is (between (sign_op x.sign) kind e f) (after m (λ u. result_of p (sign_op x.sign) kind (u ∷ v ∷ []))) xs fs vs
      (ap (λ n. called p kind (value p e r ∷ n ∷ []) (sign_op x.sign)) all.0 ∙ ap (λ n. called p kind (n ∷ Ok v ∷ []) (sign_op x.sign)) h ∙ signed x.sign m v) all.1

  first_is : (s : Option Addition) (e : CompExp) (v : Cell) → value p e r ≡ Ok v → value p (first_exp kind s e) r ≡ first_value p kind s v
  first_is None e v h = h
  first_is (Some sign.Plus) e v h = ap (λ m. called p kind (m ∷ []) op.Identity) h
  first_is (Some sign.Minus) e v h = ap (λ m. called p kind (m ∷ []) op.Negate) h

  sum_is : (rule : HierRule) (es : List CompExp) (vs : List Cell) → Have es vs → value p (sum_exp kind rule es) r ≡ sum_of p kind rule vs
  sum_is rule [] [] all = refl
  sum_is rule [] (v ∷ vs) all = absurd all
  sum_is rule (e ∷ es) [] all = absurd all
  sum_is rule (e ∷ es) (v ∷ vs) all = next_is (first_exp kind rule.sign e) (first_value p kind rule.sign v) rule.others es vs (first_is rule.sign e v all.0) all.1

  all_counted : (m : Mode) (items : Items) (ls : List Leaf) (names : List (List ℕ)) → AllShow ls (map items names) → Have (map (counted_exp m kind) ls) (map (λ name. counted m kind (items name)) names)
  all_counted m items [] [] all = tt
  all_counted m items [] (x ∷ xs) all = absurd all
  all_counted m items (l ∷ ls) [] all = absurd all
  all_counted m items (l ∷ ls) (x ∷ xs) all = (counted_is m l (items x) all.0, all_counted m items ls xs all.1)

  -- of the leaves of the right items
  pub right_is : (m : Mode) (items : Items) (rule : HierRule) (rights : List Leaf) → AllShow rights (map items (right_items rule)) → value p (right_exp m kind rule rights) r ≡ right_side p m kind items rule
  right_is m items rule rights all = sum_is rule (map (counted_exp m kind) rights) (map (λ name. counted m kind (items name)) (right_items rule)) (all_counted m items rights (right_items rule) all)

  compare_is : (o : Comparison) (v : Cell) (m : Outcome Cell) → called p k.Bool (Ok v ∷ m ∷ []) (comparison_op o) ≡ after m (λ u. result_of p (comparison_op o) k.Bool (v ∷ u ∷ []))
  compare_is compared.Equal v (Ok u) = refl
  compare_is compared.Less v (Ok u) = refl
  compare_is compared.LessOrEqual v (Ok u) = refl
  compare_is compared.Greater v (Ok u) = refl
  compare_is compared.GreaterOrEqual v (Ok u) = refl
  compare_is compared.Equal v (Err f) = refl
  compare_is compared.Less v (Err f) = refl
  compare_is compared.LessOrEqual v (Err f) = refl
  compare_is compared.Greater v (Err f) = refl
  compare_is compared.GreaterOrEqual v (Err f) = refl

  pub holds_is : (rule : HierRule) (left right : CompExp) (v : Cell) (m : Outcome Cell) → value p left r ≡ Ok v → value p right r ≡ m → value p (holds_exp rule left right) r ≡ after m (λ u. result_of p (comparison_op rule.comparison) k.Bool (v ∷ u ∷ []))
  holds_is rule left right v m h i =
      ap (λ x. called p k.Bool (x ∷ value p right r ∷ []) (comparison_op rule.comparison)) h
      ∙ ap (λ x. called p k.Bool (Ok v ∷ x ∷ []) (comparison_op rule.comparison)) i
      ∙ compare_is rule.comparison v m

  -- a number stays one
  number_stays : (v : Cell) → as_kind p k.Num v ≡ after (as_kind p k.Num v) (as_kind p k.Num)
  number_stays (c.Int n) = go (fit_number (units p n))
    where
      go : (m : Outcome ℤ) → number m ≡ after (number m) (as_kind p k.Num)
      go (Ok x) = refl
      go (Err f) = refl
  number_stays c.Null = refl
  number_stays (c.Bool b) = refl
  number_stays (c.Num n) = refl
  number_stays (c.Text x) = refl
  number_stays (c.Day x) = refl
  number_stays (c.Period x) = refl

  once : (m : Outcome Cell) → after m (as_kind p k.Num) ≡ after (after m (as_kind p k.Num)) (as_kind p k.Num)
  once (Ok v) = number_stays v
  once (Err f) = refl

  abbrev pub less_by : Kind → Cell → Cell → Outcome Cell
  less_by q v u = after (result_of p op.Subtract q (v ∷ u ∷ [])) (as_kind p k.Num)

  pub difference_is : (q : Kind) → IsNumeric q → (left right : CompExp) (v : Cell) (m : Outcome Cell) → value p left r ≡ Ok v → value p right r ≡ m → value p (difference_exp q left right) r ≡ after m (less_by q v)
  difference_is k.Int n left right v m h i =
      ap (λ x. after (called p k.Int (x ∷ value p right r ∷ []) op.Subtract) (as_kind p k.Num)) h
      ∙ ap (λ x. after (called p k.Int (Ok v ∷ x ∷ []) op.Subtract) (as_kind p k.Num)) i
      ∙ go m
    where
      go : (x : Outcome Cell) → after (called p k.Int (Ok v ∷ x ∷ []) op.Subtract) (as_kind p k.Num) ≡ after x (less_by k.Int v)
      go (Ok u) = refl
      go (Err f) = refl
  difference_is k.Num n left right v m h i =
      ap (λ x. called p k.Num (x ∷ value p right r ∷ []) op.Subtract) h
      ∙ ap (λ x. called p k.Num (Ok v ∷ x ∷ []) op.Subtract) i
      ∙ go m
    where
      go : (x : Outcome Cell) → called p k.Num (Ok v ∷ x ∷ []) op.Subtract ≡ after x (less_by k.Num v)
      go (Ok u) = once (scalar_of p op.Subtract (v ∷ u ∷ []))
      go (Err f) = refl
  difference_is k.Null n left right v m h i = absurd n
  difference_is k.Bool n left right v m h i = absurd n
  difference_is k.Text n left right v m h i = absurd n
  difference_is k.Day n left right v m h i = absurd n
  difference_is k.Period n left right v m h i = absurd n

  -- ---- a value from two items

  -- the computed value where it is not null, and otherwise the operand's
  abbrev pub of_two : (made given : Found) → Cell
  of_two made given = option_map_or (λ v. cond (is_null v) (option_map_or (λ w. w) given c.Null) v) made (option_map_or (λ w. w) given c.Null)

  chosen : (q : Kind) → IsNumeric q → (v w : Cell) → is_of q v ≡ true → is_of q w ≡ true → called p q (Ok v ∷ Ok w ∷ []) op.ValueOr ≡ Ok (cond (is_null v) w v)
  chosen k.Int n c.Null w h i = refl
  chosen k.Int n (c.Int a) c.Null h i = refl
  chosen k.Int n (c.Int a) (c.Int b) h i = refl
  chosen k.Int n (c.Int a) w h i = cc
  chosen k.Int n v w h i = cc
  chosen k.Num n c.Null w h i = stays k.Num w i
  chosen k.Num n (c.Num a) c.Null h i = refl
  chosen k.Num n (c.Num a) (c.Num b) h i = refl
  chosen k.Num n (c.Num a) w h i = cc
  chosen k.Num n v w h i = cc
  chosen k.Null n v w h i = absurd n
  chosen k.Bool n v w h i = absurd n
  chosen k.Text n v w h i = absurd n
  chosen k.Day n v w h i = absurd n
  chosen k.Period n v w h i = absurd n

  null_is : (q : Kind) → IsNumeric q → is_of q c.Null ≡ true
  null_is k.Int n = refl
  null_is k.Num n = refl
  null_is k.Null n = refl
  null_is k.Bool n = refl
  null_is k.Text n = refl
  null_is k.Day n = refl
  null_is k.Period n = refl

  abbrev or_null : Found → Cell
  or_null x = option_map_or (λ v. v) x c.Null

  or_null_is : (x : Found) → option_map_or (λ v. is_of kind v) x true ≡ true → is_of kind (or_null x) ≡ true
  or_null_is None h = null_is kind numeric
  or_null_is (Some v) h = h

  pub two_is : (made given : Leaf) (x y : Found) → Shows made x → Shows given y → value p (between op.ValueOr kind made.value given.value) r ≡ Ok (of_two x y)
  two_is made given x y s t =
      ap (λ m. called p kind (m ∷ value p given.value r ∷ []) op.ValueOr) s.found
      ∙ ap (λ m. called p kind (Ok (or_null x) ∷ m ∷ []) op.ValueOr) t.found
      ∙ chosen kind numeric (or_null x) (or_null y) (or_null_is x s.of_kind) (or_null_is y t.of_kind)
      ∙ ap Ok (go x)
    where
      go : (z : Found) → cond (is_null (or_null z)) (or_null y) (or_null z) ≡ of_two z y
      go None = refl
      go (Some v) = refl
