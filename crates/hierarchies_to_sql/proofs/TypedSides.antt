-- The expressions of the sides of a rule are typed, and can be written.
use Rattle.std.proofs.Common.{◌≡◌, ◌≤◌, ◌+◌, ◌-◌, ℕ, suc, true, false, fold, List, [], ◌∷◌, length, map, Option, Some, None, refl, sym, ap, ◌∙◌, arith}
use Rattle.std.specs.List.{AllByRecursion}
use Rattle.std.specs.Option.{IfSome}
use Rattle.vtl_decimal.specs.Settings.{Settings}
use Rattle.vtl_cell.specs.Held.{IsHeld}
use Rattle.vtl_cell.specs.Profile.{IsOfProfile}
use Rattle.vtl_cell.specs.ScalarKinds.{common_kind, kinds_of, meets}
use Rattle.vtl_cell.specs.declared.cell.Cell.TheVariants as c
use Rattle.vtl_cell.specs.declared.kind.Kind.{Kind}
use Rattle.vtl_cell.specs.declared.kind.Kind.TheVariants as k
use Rattle.vtl_cell.specs.declared.operator.ScalarOp.TheVariants as op
use Rattle.vtl_syntax.specs.declared.parts.SignedComp.{SignedComp}
use Rattle.vtl_syntax.specs.declared.statements.HierRule.{HierRule}
use Rattle.vtl_syntax.specs.declared.word_groups.Addition.{Addition}
use Rattle.vtl_syntax.specs.declared.word_groups.Addition.TheVariants as sign
use Rattle.vtl_syntax.specs.declared.word_groups.CheckOut.{CheckOut}
use Rattle.vtl_syntax.specs.declared.word_groups.CheckOut.TheVariants as out
use Rattle.vtl_syntax.specs.declared.word_groups.Comparison.{Comparison}
use Rattle.vtl_syntax.specs.declared.word_groups.Comparison.TheVariants as comparison
use Rattle.vtl_syntax.specs.declared.word_groups.Mode.{Mode}
use Rattle.vtl_syntax.specs.declared.word_groups.Mode.TheVariants as mode
use Rattle.vtl_tree.specs.Checks.{error_measures, output_parts}
use Rattle.vtl_tree.specs.CompExp.{CompExp, const}
use Rattle.vtl_tree.specs.Depths.{comp_depth}
use Rattle.vtl_tree.specs.Kinds.{exp_kind}
use Rattle.vtl_tree.specs.Measures.{bool_var}
use Rattle.vtl_tree.specs.Pairs.{imbalance}
use Rattle.vtl_tree.specs.declared.structure.Component.{Component}
use Rattle.vtl_meaning.specs.Made.{AreFor, IsTyped, component_kinds}
use Rattle.vtl_rulings.specs.HierarchyShapes.{IsNumeric}
use Rattle.vtl_rulings.specs.Modes.{zero_of}
use Rattle.vtl_rulings.specs.Sides.{comparison_op, sign_op}
use Rattle.vtl_rulings.proofs.Checked.{parts_hold}
use Rattle.vtl_rulings.proofs.HierarchyProfiles.{zero_profile}
use Rattle.expressions_to_sql.specs.Held.{HoldsValues}
use Rattle.selects_to_sql.specs.Queries.{both, conjunction, equal, holds_always}
use Rattle.vtl_lists.proofs.Balances.{balanced_within, below_power}
use Rattle.selects_to_sql.specs.Writable.{AllCanBeWritten, CanBeWritten, most_depth}
use Rattle.selects_to_sql.proofs.Selects.{IsTest}
use Rattle.rules_to_sql.specs.CheckQueries.{as_number}
use Rattle.rules_to_sql.specs.Conditions.{if_of, negated}
use Rattle.rules_to_sql.specs.Writable.{AreErrorsHeld}
use Rattle.rules_to_sql.proofs.Columns.{for_parts}
use Rattle.rules_to_sql.proofs.ErrorExps.{errors_at_for, errors_at_written, errors_for, errors_written}
use Rattle.hierarchies_to_sql.specs.SideExps.{Leaf, appears_exp, between, check_parts, check_where, counted_exp, counts_exp, difference_exp, disjunction, either, failing_where, fails_exp, fails_of, filled_exp, first_exp, holds_exp, holds_never, is_missing, left_exp, level_of, next_exps, or_zero, right_exp, rights_of, rule_errors, sum_exp}
use Rattle.hierarchies_to_sql.specs.Writable.{most_items}

-- ---- kinds

add_kinds : (q : Kind) → IsNumeric q → (s : Addition) → kinds_of (sign_op s) (q ∷ q ∷ []) ≡ Some q
add_kinds k.Int n sign.Plus = refl
add_kinds k.Int n sign.Minus = refl
add_kinds k.Num n sign.Plus = refl
add_kinds k.Num n sign.Minus = refl
add_kinds k.Null n s = absurd n
add_kinds k.Bool n s = absurd n
add_kinds k.Text n s = absurd n
add_kinds k.Day n s = absurd n
add_kinds k.Period n s = absurd n

compare_kinds : (q : Kind) → IsNumeric q → (o : Comparison) → kinds_of (comparison_op o) (q ∷ q ∷ []) ≡ Some k.Bool
compare_kinds k.Int n comparison.Equal = refl
compare_kinds k.Int n comparison.Less = refl
compare_kinds k.Int n comparison.LessOrEqual = refl
compare_kinds k.Int n comparison.Greater = refl
compare_kinds k.Int n comparison.GreaterOrEqual = refl
compare_kinds k.Num n comparison.Equal = refl
compare_kinds k.Num n comparison.Less = refl
compare_kinds k.Num n comparison.LessOrEqual = refl
compare_kinds k.Num n comparison.Greater = refl
compare_kinds k.Num n comparison.GreaterOrEqual = refl
compare_kinds k.Null n o = absurd n
compare_kinds k.Bool n o = absurd n
compare_kinds k.Text n o = absurd n
compare_kinds k.Day n o = absurd n
compare_kinds k.Period n o = absurd n

own_kinds : (q : Kind) → IsNumeric q → (kinds_of op.Identity (q ∷ []) ≡ Some q) × (kinds_of op.Negate (q ∷ []) ≡ Some q) × (common_kind (q ∷ q ∷ []) ≡ Some q)
own_kinds k.Int n = (refl, refl, refl)
own_kinds k.Num n = (refl, refl, refl)
own_kinds k.Null n = absurd n
own_kinds k.Bool n = absurd n
own_kinds k.Text n = absurd n
own_kinds k.Day n = absurd n
own_kinds k.Period n = absurd n

zero_kind : (q : Kind) → IsNumeric q → exp_kind (const (zero_of q)) ≡ q
zero_kind k.Int n = refl
zero_kind k.Num n = refl
zero_kind k.Null n = absurd n
zero_kind k.Bool n = absurd n
zero_kind k.Text n = absurd n
zero_kind k.Day n = absurd n
zero_kind k.Period n = absurd n

zero_held : (q : Kind) → IsHeld (zero_of q)
zero_held k.Int = omega arith
zero_held k.Num = omega arith
zero_held k.Null = omega arith
zero_held k.Bool = omega arith
zero_held k.Text = omega arith
zero_held k.Day = omega arith
zero_held k.Period = omega arith

-- ---- expressions of a kind, at most so deep

module _ (p : Settings) (xs : List Component) where
  pub record IsSound (q : Kind) (n : ℕ) (e : CompExp) : Type 0 where
    pub typed : IsTyped p xs e
    pub kind : exp_kind e ≡ q
    pub holds : HoldsValues e
    pub low : comp_depth e ≤ n

  deeper : (q : Kind) (m n : ℕ) (e : CompExp) → m ≤ n → IsSound q m e → IsSound q n e
  deeper q m n e less s = let low = s.low in record { typed = s.typed; kind = s.kind; holds = s.holds; low = omega (arith, low, less) }

  pub as_written : (q : Kind) (n : ℕ) (e : CompExp) → n ≤ most_depth → IsSound q n e → CanBeWritten e
  as_written q n e less s = let low = s.low in record { constants = s.holds; shallow = omega (arith, low, less) }

  abbrev pub IsTruth : ℕ → CompExp → Type 0
  IsTruth n e = IsSound k.Bool n e

  not_sound : (n : ℕ) (e : CompExp) → IsTruth n e → IsTruth (suc n) (negated e)
  not_sound n e s = let low = s.low in record { typed = (ap (λ q. kinds_of op.Not (q ∷ [])) s.kind, (s.typed, tt), refl); kind = refl; holds = (s.holds, tt); low = omega (arith, low) }

  missing_sound : (q : Kind) (n : ℕ) (e : CompExp) → IsSound q n e → IsTruth (suc n) (is_missing e)
  missing_sound q n e s = let low = s.low in record { typed = (refl, (s.typed, tt), refl); kind = refl; holds = (s.holds, tt); low = omega (arith, low) }

  both_sound : (n : ℕ) (e f : CompExp) → IsTruth n e → IsTruth n f → IsTruth (suc n) (both e f)
  both_sound n e f s t =
      let low = s.low in
      let other = t.low in
      record {
        typed = (ap (λ q. kinds_of op.And (q ∷ exp_kind f ∷ [])) s.kind ∙ ap (λ q. kinds_of op.And (k.Bool ∷ q ∷ [])) t.kind, (s.typed, (t.typed, tt)), refl);
        kind = refl;
        holds = (s.holds, (t.holds, tt));
        low = omega (arith, low, other);
      }

  pub either_sound : (n : ℕ) (e f : CompExp) → IsTruth n e → IsTruth n f → IsTruth (suc n) (either e f)
  either_sound n e f s t =
      let low = s.low in
      let other = t.low in
      record {
        typed = (ap (λ q. kinds_of op.Or (q ∷ exp_kind f ∷ [])) s.kind ∙ ap (λ q. kinds_of op.Or (k.Bool ∷ q ∷ [])) t.kind, (s.typed, (t.typed, tt)), refl);
        kind = refl;
        holds = (s.holds, (t.holds, tt));
        low = omega (arith, low, other);
      }

  always_sound : (n : ℕ) → IsTruth (suc n) holds_always
  always_sound n = record { typed = tt; kind = refl; holds = tt; low = omega arith }

  never_sound : (n : ℕ) → IsTruth (suc n) holds_never
  never_sound n = record { typed = tt; kind = refl; holds = tt; low = omega arith }

  pub test_from : (n : ℕ) → n ≤ most_depth → (e : Option CompExp) → IfSome e (IsTruth n) → IsTest p xs e
  test_from n less None h = tt
  test_from n less (Some e) h = (h.typed, ap (meets k.Bool) h.kind, as_written k.Bool n e less h)

  -- each of a list joined with those before it makes one more level
  module _ (join : CompExp → CompExp → CompExp) (joined : (n : ℕ) (e f : CompExp) → IsTruth n e → IsTruth n f → IsTruth (suc n) (join e f)) (n : ℕ) where
    folded : (m : ℕ) (e : CompExp) (fs : List CompExp) → n ≤ m → IsTruth m e → AllByRecursion (IsTruth n) fs → IsTruth (m + length fs) (fold join e fs)
    folded m e [] less s all = deeper k.Bool m (m + 0) e (omega arith) s
    folded m e (f ∷ fs) less s all =
        deeper k.Bool (suc m + length fs) (m + suc (length fs)) (fold join (join e f) fs) (omega arith)
        (folded (suc m) (join e f) fs (omega (arith, less)) (joined m e f s (deeper k.Bool n m f less all.0)) all.1)

  module _ (kind : Kind) (numeric : IsNumeric kind) where
    -- a column of the kind, and one that tells whether it is there
    pub record IsLeaf (l : Leaf) : Type 0 where
      pub value : IsSound kind 1 l.value
      pub there : IsTruth 1 l.there

    abbrev pub AreLeaves : List Leaf → Type 0
    AreLeaves ls = AllByRecursion IsLeaf ls

    abbrev Of : ℕ → CompExp → Type 0
    Of n e = IsSound kind n e

    zero_sound : Of 1 (const (zero_of kind))
    zero_sound = record { typed = zero_profile p kind; kind = zero_kind kind numeric; holds = zero_held kind; low = omega arith }

    -- ---- modes

    or_zero_sound : (l : Leaf) → IsLeaf l → Of 2 (or_zero kind l)
    or_zero_sound l s =
        let low = s.value.low in
        let other = s.there.low in
        record {
          typed = (
            ap (λ q. kinds_of op.If (q ∷ exp_kind l.value ∷ exp_kind (const (zero_of kind)) ∷ [])) s.there.kind
                ∙ ap (λ q. common_kind (q ∷ exp_kind (const (zero_of kind)) ∷ [])) s.value.kind
                ∙ ap (λ q. common_kind (kind ∷ q ∷ [])) (zero_kind kind numeric)
                ∙ (own_kinds kind numeric).2,
            (s.there.typed, (s.value.typed, (zero_profile p kind, tt))),
            refl,
          );
          kind = refl;
          holds = (s.there.holds, (s.value.holds, (zero_held kind, tt)));
          low = omega (arith, low, other);
        }

    counted_sound : (m : Mode) (l : Leaf) → IsLeaf l → Of 2 (counted_exp m kind l)
    counted_sound mode.NonNull l s = deeper kind 1 2 l.value (omega arith) s.value
    counted_sound mode.NonZero l s = or_zero_sound l s
    counted_sound mode.PartialNull l s = deeper kind 1 2 l.value (omega arith) s.value
    counted_sound mode.PartialZero l s = or_zero_sound l s
    counted_sound mode.AlwaysNull l s = deeper kind 1 2 l.value (omega arith) s.value
    counted_sound mode.AlwaysZero l s = or_zero_sound l s

    all_counted : (m : Mode) (ls : List Leaf) → AreLeaves ls → AllByRecursion (Of 2) (map (counted_exp m kind) ls)
    all_counted m [] all = tt
    all_counted m (l ∷ ls) all = (counted_sound m l all.0, all_counted m ls all.1)

    pub filled_sound : (l : Leaf) → IsLeaf l → IsTruth 3 (filled_exp l)
    filled_sound l s = not_sound 2 (is_missing l.value) (missing_sound kind 1 l.value s.value)

    counts_sound : (l : Leaf) → IsLeaf l → IsTruth 3 (counts_exp kind l)
    counts_sound l s =
        let low = s.value.low in
        not_sound 2 (equal l.value (const (zero_of kind))) (record {
          typed = (
            ap (λ q. kinds_of op.Equal (q ∷ exp_kind (const (zero_of kind)) ∷ [])) s.value.kind
                ∙ ap (λ q. kinds_of op.Equal (kind ∷ q ∷ [])) (zero_kind kind numeric)
                ∙ compare_kinds kind numeric comparison.Equal,
            (s.value.typed, (zero_profile p kind, tt)),
            refl,
          );
          kind = refl;
          holds = (s.value.holds, (zero_held kind, tt));
          low = omega (arith, low);
        })

    module _ (f : Leaf → CompExp) (one : (l : Leaf) → IsLeaf l → IsTruth 3 (f l)) where
      each_sound : (ls : List Leaf) → AreLeaves ls → AllByRecursion (IsTruth 3) (map f ls)
      each_sound [] all = tt
      each_sound (l ∷ ls) all = (one l all.0, each_sound ls all.1)

      mapped : (ls : List Leaf) → length (map f ls) ≡ length ls
      mapped [] = refl
      mapped (l ∷ ls) = ap suc (mapped ls)

      all_sound : (ls : List Leaf) → AreLeaves ls → IsTruth (3 + length ls) (conjunction (map f ls))
      all_sound ls all =
          let same = mapped ls in
          deeper k.Bool (3 + length (map f ls)) (3 + length ls) (conjunction (map f ls)) (omega (arith, same))
          (balanced_within both IsTruth (deeper k.Bool) both_sound (length (map f ls)) 3 holds_always (map f ls) (below_power (length (map f ls))) (always_sound 2) (each_sound ls all))

      any_sound : (ls : List Leaf) → AreLeaves ls → IsTruth (3 + length ls) (disjunction (map f ls))
      any_sound [] all = never_sound 2
      any_sound (l ∷ ls) all =
          let same = mapped ls in
          deeper k.Bool (3 + length (map f ls)) (3 + suc (length ls)) (disjunction (map f (l ∷ ls))) (omega (arith, same)) (folded either either_sound 3 3 (f l) (map f ls) (omega arith) (one l all.0) (each_sound ls all.1))

    pub appears_sound : (m : Mode) (ls : List Leaf) → AreLeaves ls → IfSome (appears_exp m kind ls) (IsTruth (3 + length ls))
    appears_sound mode.NonNull ls all = all_sound filled_exp filled_sound ls all
    appears_sound mode.NonZero ls all = any_sound (counts_exp kind) counts_sound ls all
    appears_sound mode.PartialNull ls all = any_sound filled_exp filled_sound ls all
    appears_sound mode.PartialZero ls all = any_sound filled_exp filled_sound ls all
    appears_sound mode.AlwaysNull ls all = tt
    appears_sound mode.AlwaysZero ls all = tt

    -- ---- sides

    first_sound : (s : Option Addition) (e : CompExp) → Of 2 e → Of 3 (first_exp kind s e)
    first_sound None e h = deeper kind 2 3 e (omega arith) h
    first_sound (Some sign.Plus) e h = let low = h.low in record { typed = (ap (λ q. kinds_of op.Identity (q ∷ [])) h.kind ∙ (own_kinds kind numeric).0, (h.typed, tt), refl); kind = refl; holds = (h.holds, tt); low = omega (arith, low) }
    first_sound (Some sign.Minus) e h = let low = h.low in record { typed = (ap (λ q. kinds_of op.Negate (q ∷ [])) h.kind ∙ (own_kinds kind numeric).1, (h.typed, tt), refl); kind = refl; holds = (h.holds, tt); low = omega (arith, low) }

    added_sound : (n : ℕ) (s : Addition) (e f : CompExp) → Of n e → Of n f → Of (suc n) (between (sign_op s) kind e f)
    added_sound n s e f h i = go s
      where
        kinds : (z : Addition) → kinds_of (sign_op z) (exp_kind e ∷ exp_kind f ∷ []) ≡ Some kind
        kinds z = ap (λ q. kinds_of (sign_op z) (q ∷ exp_kind f ∷ [])) h.kind ∙ ap (λ q. kinds_of (sign_op z) (kind ∷ q ∷ [])) i.kind ∙ add_kinds kind numeric z

        go : (z : Addition) → Of (suc n) (between (sign_op z) kind e f)
        go sign.Plus = let low = h.low in let other = i.low in record { typed = (kinds sign.Plus, (h.typed, (i.typed, tt)), refl); kind = refl; holds = (h.holds, (i.holds, tt)); low = omega (arith, low, other) }
        go sign.Minus = let low = h.low in let other = i.low in record { typed = (kinds sign.Minus, (h.typed, (i.typed, tt)), refl); kind = refl; holds = (h.holds, (i.holds, tt)); low = omega (arith, low, other) }

    next_sound : (n : ℕ) (e : CompExp) (ys : List SignedComp) (es : List CompExp) → 2 ≤ n → Of n e → AllByRecursion (Of 2) es → Of (n + length es) (next_exps kind e ys es)
    next_sound n e [] [] less h all = deeper kind n (n + 0) e (omega arith) h
    next_sound n e [] (f ∷ fs) less h all = deeper kind n (n + length (f ∷ fs)) e (omega arith) h
    next_sound n e (y ∷ ys) [] less h all = deeper kind n (n + 0) e (omega arith) h
    next_sound n e (y ∷ ys) (f ∷ fs) less h all =
        let more = between (sign_op y.sign) kind e f in
        deeper kind (suc n + length fs) (n + suc (length fs)) (next_exps kind more ys fs) (omega arith)
        (next_sound (suc n) more ys fs (omega (arith, less)) (added_sound n y.sign e f h (deeper kind 2 n f less all.0)) all.1)

    counted_length : (m : Mode) (ls : List Leaf) → length (map (counted_exp m kind) ls) ≡ length ls
    counted_length m [] = refl
    counted_length m (l ∷ ls) = ap suc (counted_length m ls)

    -- a right side has one item at least
    pub right_sound : (m : Mode) (r : HierRule) (l : Leaf) (ls : List Leaf) → AreLeaves (l ∷ ls) → Of (3 + length ls) (right_exp m kind r (l ∷ ls))
    right_sound m r l ls all =
        let same = counted_length m ls in
        let first = first_exp kind r.sign (counted_exp m kind l) in
        let others = map (counted_exp m kind) ls in
        deeper kind (3 + length others) (3 + length ls) (next_exps kind first r.others others) (omega (arith, same))
        (next_sound 3 first r.others others (omega arith) (first_sound r.sign (counted_exp m kind l) (counted_sound m l all.0)) (all_counted m ls all.1))

    holds_sound : (r : HierRule) (n : ℕ) (left right : CompExp) → Of n left → Of n right → IsTruth (suc n) (holds_exp r left right)
    holds_sound r n left right h i = go r.comparison
      where
        kinds : (o : Comparison) → kinds_of (comparison_op o) (exp_kind left ∷ exp_kind right ∷ []) ≡ Some k.Bool
        kinds o = ap (λ q. kinds_of (comparison_op o) (q ∷ exp_kind right ∷ [])) h.kind ∙ ap (λ q. kinds_of (comparison_op o) (kind ∷ q ∷ [])) i.kind ∙ compare_kinds kind numeric o

        go : (o : Comparison) → IsTruth (suc n) (between (comparison_op o) k.Bool left right)
        go comparison.Equal = let low = h.low in let other = i.low in record { typed = (kinds comparison.Equal, (h.typed, (i.typed, tt)), refl); kind = refl; holds = (h.holds, (i.holds, tt)); low = omega (arith, low, other) }
        go comparison.Less = let low = h.low in let other = i.low in record { typed = (kinds comparison.Less, (h.typed, (i.typed, tt)), refl); kind = refl; holds = (h.holds, (i.holds, tt)); low = omega (arith, low, other) }
        go comparison.LessOrEqual = let low = h.low in let other = i.low in record { typed = (kinds comparison.LessOrEqual, (h.typed, (i.typed, tt)), refl); kind = refl; holds = (h.holds, (i.holds, tt)); low = omega (arith, low, other) }
        go comparison.Greater = let low = h.low in let other = i.low in record { typed = (kinds comparison.Greater, (h.typed, (i.typed, tt)), refl); kind = refl; holds = (h.holds, (i.holds, tt)); low = omega (arith, low, other) }
        go comparison.GreaterOrEqual = let low = h.low in let other = i.low in record { typed = (kinds comparison.GreaterOrEqual, (h.typed, (i.typed, tt)), refl); kind = refl; holds = (h.holds, (i.holds, tt)); low = omega (arith, low, other) }

    number_sound : (n : ℕ) (e : CompExp) (q : Kind) → IsNumeric q → q ≡ kind → IsSound q n e → 1 ≤ n → IsSound k.Num (suc n) (as_number q e)
    number_sound n e k.Num m same s some = deeper k.Num n (suc n) e (omega arith) s
    number_sound n e k.Int m same s some =
        let low = s.low in
        record {
          typed = (ap (λ q. common_kind (q ∷ k.Num ∷ [])) s.kind, (tt, (s.typed, (tt, tt))), refl);
          kind = refl;
          holds = (tt, (s.holds, (omega arith, tt)));
          low = omega (arith, low, some);
        }
    number_sound n e k.Null m same s some = absurd m
    number_sound n e k.Bool m same s some = absurd m
    number_sound n e k.Text m same s some = absurd m
    number_sound n e k.Day m same s some = absurd m
    number_sound n e k.Period m same s some = absurd m

    difference_sound : (n : ℕ) (left right : CompExp) → Of n left → Of n right → IsSound k.Num (suc (suc n)) (difference_exp kind left right)
    difference_sound n left right h i = number_sound (suc n) (between op.Subtract kind left right) kind numeric refl (added_sound n sign.Minus left right h i) (omega arith)

    fails_sound : (n : ℕ) (truth difference : CompExp) → IsTruth n truth → IsSound k.Num (suc n) difference → IsTruth (suc (suc (suc (suc n)))) (fails_exp truth difference)
    fails_sound n truth difference h i =
        both_sound (suc (suc (suc n))) (negated truth) (either (is_missing difference) holds_always) (deeper k.Bool (suc n) (suc (suc (suc n))) (negated truth) (omega arith) (not_sound n truth h))
        (either_sound (suc (suc n)) (is_missing difference) holds_always (missing_sound k.Num (suc n) difference i) (always_sound (suc n)))

    -- ---- a rule

    module _ (m : Mode) (r : HierRule) (l one : Leaf) (others : List Leaf) (all : AreLeaves (l ∷ one ∷ others)) (few : length (l ∷ one ∷ others) ≤ most_items) where
      abbrev leaves : List Leaf
      leaves = l ∷ one ∷ others

      abbrev n : ℕ
      n = 3 + length others

      abbrev left : CompExp
      left = left_exp m kind leaves

      abbrev right : CompExp
      right = right_exp m kind r (rights_of leaves)

      abbrev truth : CompExp
      truth = holds_exp r left right

      abbrev gap : CompExp
      gap = difference_exp kind left right

      left_is : Of n left
      left_is = deeper kind 2 n left (omega arith) (counted_sound m l all.0)

      right_is : Of n right
      right_is = right_sound m r one others all.1

      pub truth_sound : IsTruth (suc n) truth
      truth_sound = holds_sound r n left right left_is right_is

      pub gap_sound : IsSound k.Num (suc (suc n)) gap
      gap_sound = difference_sound n left right left_is right_is

      fails_low : IsTruth (5 + n) (fails_of m kind r leaves)
      fails_low = deeper k.Bool (suc (suc (suc (suc (suc n))))) (5 + n) (fails_of m kind r leaves) (omega arith) (fails_sound (suc n) truth gap truth_sound gap_sound)

      failing_sound : (e : Option CompExp) → IfSome e (IsTruth (3 + length leaves)) → IsTruth (6 + n) (failing_where (fails_of m kind r leaves) e)
      failing_sound None h = deeper k.Bool (5 + n) (6 + n) (fails_of m kind r leaves) (omega arith) fails_low
      failing_sound (Some e) h =
          let low = h.low in
          let other = fails_low.low in
          record {
            typed = (
              ap (λ q. kinds_of op.If (q ∷ exp_kind (fails_of m kind r leaves) ∷ k.Bool ∷ [])) h.kind,
              (h.typed, (fails_low.typed, (tt, tt))),
              refl,
            );
            kind = refl;
            holds = (h.holds, (fails_low.holds, (tt, tt)));
            low = omega (arith, low, other);
          }

      pub where_test : (o : CheckOut) → IsTest p xs (check_where o m kind r leaves)
      where_test out.Invalid = test_from (6 + n) (omega (arith, few)) (check_where out.Invalid m kind r leaves) (failing_sound (appears_exp m kind leaves) (appears_sound m leaves all))
      where_test out.All = test_from (3 + length leaves) (omega (arith, few)) (appears_exp m kind leaves) (appears_sound m leaves all)
      where_test out.AllMeasures = test_from (3 + length leaves) (omega (arith, few)) (appears_exp m kind leaves) (appears_sound m leaves all)

      -- ---- items

      errors_sound : IfSome (level_of p r) (λ i. IsOfProfile p (c.Int i)) → (o : CheckOut) → AreFor p xs (rule_errors p o r truth) error_measures
      errors_sound level out.Invalid = errors_for p xs r.error.code (level_of p r) level
      errors_sound level out.All = errors_at_for p xs truth truth_sound.typed truth_sound.kind r.error.code (level_of p r) level
      errors_sound level out.AllMeasures = errors_at_for p xs truth truth_sound.typed truth_sound.kind r.error.code (level_of p r) level

      left_for : (ys : List Component) → component_kinds ys ≡ kind ∷ [] → AreFor p xs (left ∷ []) ys
      left_for [] same = cc
      left_for (y ∷ []) same = let it : y.kind ≡ kind = cc in (left_is.typed, left_is.kind ∙ sym it, tt)
      left_for (y ∷ z ∷ zs) same = cc

      -- the measure is the only one
      pub parts_for : (o : CheckOut) (ys : List Component) → component_kinds ys ≡ kind ∷ [] → IfSome (level_of p r) (λ i. IsOfProfile p (c.Int i)) → AreFor p xs (check_parts p o m kind r leaves) (output_parts o ys bool_var (imbalance ∷ error_measures))
      parts_for o ys same level =
          for_parts p xs o (left ∷ []) (gap ∷ rule_errors p o r truth) truth ys (imbalance ∷ error_measures) bool_var (left_for ys same) truth_sound.typed truth_sound.kind (gap_sound.typed, gap_sound.kind, errors_sound level o)

      errors_low : AreErrorsHeld r.error.code (level_of p r) → (o : CheckOut) → AllCanBeWritten (rule_errors p o r truth)
      errors_low held out.Invalid = errors_written r.error.code (level_of p r) held
      errors_low held out.All = let low = truth_sound.low in errors_at_written truth (as_written k.Bool (suc n) truth (omega (arith, few)) truth_sound) (omega (arith, low, few)) r.error.code (level_of p r) held
      errors_low held out.AllMeasures = let low = truth_sound.low in errors_at_written truth (as_written k.Bool (suc n) truth (omega (arith, few)) truth_sound) (omega (arith, low, few)) r.error.code (level_of p r) held

      pub parts_written : (o : CheckOut) → AreErrorsHeld r.error.code (level_of p r) → AllCanBeWritten (check_parts p o m kind r leaves)
      parts_written o held =
          parts_hold CanBeWritten o (left ∷ []) truth (gap ∷ rule_errors p o r truth) (as_written kind n left (omega (arith, few)) left_is, tt) (as_written k.Bool (suc n) truth (omega (arith, few)) truth_sound)
          (as_written k.Num (suc (suc n)) gap (omega (arith, few)) gap_sound, errors_low held o)

    -- ---- a computed item and the operand's

    pub two_sound : (made given : Leaf) → IsLeaf made → IsLeaf given → Of 2 (between op.ValueOr kind made.value given.value)
    two_sound made given h i =
        let low = h.value.low in
        let other = i.value.low in
        record {
          typed = (
            ap (λ q. common_kind (q ∷ exp_kind given.value ∷ [])) h.value.kind ∙ ap (λ q. common_kind (kind ∷ q ∷ [])) i.value.kind ∙ (own_kinds kind numeric).2,
            (h.value.typed, (i.value.typed, tt)),
            refl,
          );
          kind = refl;
          holds = (h.value.holds, (i.value.holds, tt));
          low = omega (arith, low, other);
        }

    pub one_there_sound : (made given : Leaf) → IsLeaf made → IsLeaf given → IsTruth 4 (either (filled_exp made) given.there)
    one_there_sound made given h i = either_sound 3 (filled_exp made) given.there (filled_sound made h) (deeper k.Bool 1 3 given.there (omega arith) i.there)
