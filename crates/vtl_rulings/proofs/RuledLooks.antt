-- What `check_datapoint` gives, by look-up: the point of a rule at a point.
use Rattle.std.proofs.Common.{◌≡◌, ℕ, Bool, true, false, cond, List, [], ◌∷◌, ◌++◌, take, Option, Some, None, Ok, refl, sym, ap, ◌∙◌, subst, true≢false}
use Rattle.std.specs.Prelude.{is_some}
use Rattle.std.specs.List.{AllByRecursion, find, flat_map}
use Rattle.std.specs.Option.{option_and_then, option_or, option_to_list}
use Rattle.vtl_decimal.specs.Settings.{Settings}
use Rattle.vtl_lists.specs.Apart.{all_apart}
use Rattle.vtl_lists.proofs.Aparts.{apart_parts}
use Rattle.vtl_lists.proofs.Alls.{all_both, all_flat_map, all_more}
use Rattle.vtl_lists.proofs.Tests.{or_none}
use Rattle.vtl_cell.specs.Row.{Row, same_key, same_row}
use Rattle.vtl_cell.specs.declared.cell.Cell.TheVariants as c
use Rattle.vtl_cell.proofs.Rows.{same_row-is, same_row-refl}
use Rattle.vtl_syntax.specs.declared.word_groups.CheckOut.{CheckOut}
use Rattle.vtl_tree.specs.DataSet.{Distinct, IsDataSet, look}
use Rattle.vtl_tree.specs.Structure.{columns_of, key_width, same_name}
use Rattle.vtl_tree.specs.Trees.{PointRuleTree}
use Rattle.vtl_tree.specs.declared.structure.Structure.{Structure}
use Rattle.vtl_tree.proofs.NotNullLemmas.{same_itself}
use Rattle.vtl_meaning.specs.Agreement.{key_of}
use Rattle.vtl_meaning.specs.Points.{with_points}
use Rattle.vtl_meaning.proofs.Drawn.{AtMostOne}
use Rattle.vtl_meaning.proofs.Kept.{look_is}
use Rattle.vtl_meaning.proofs.Looks.{behind_none, look_absent, look_key}
use Rattle.vtl_meaning.proofs.Places.{same_name-is, same_name-sym}
use Rattle.vtl_meaning.proofs.SetsLooks.{look-append}
use Rattle.vtl_meaning.proofs.TurnedKept.{front_same}
use Rattle.vtl_rulings.specs.PointChecks.{PointRule, datapoint_of}
use Rattle.vtl_rulings.specs.Shaped.{IsPointChecked, IsPointRuleOver}
use Rattle.vtl_rulings.proofs.PointsKept.{IsDrawn, IsRuled, all, all_rules, are_drawn, at_each, datapoint_is, drawn_is, point_at, points}

-- what is not true is false
not_true : (b : Bool) → (b ≡ true → false ≡ true) → b ≡ false
not_true true h = absurd (true≢false (sym (h refl)))
not_true false h = refl

module _ (p : Settings) (o : CheckOut) (rules : List PointRuleTree) (a s : Structure) (d : List Row) (i : IsPointChecked p o rules a s) (h : IsDataSet a d) where
  abbrev Ruled : List ℕ → Row → Row → Type 0
  Ruled = IsRuled p o rules a s d i h

  abbrev at : PointRule → Row → Option Row
  at = point_at p o rules a s d i h

  abbrev key_with : Row → List ℕ → Row
  key_with k id = k ++ c.Text id ∷ []

  abbrev n : ℕ
  n = key_width a

  abbrev m : ℕ
  m = key_width s

  -- a point of another rule, and one of another point
  other_rule : (id name : List ℕ) (r q k : Row) → Ruled id r q → same_name id name ≡ false → same_row (take m q) (key_with k name) ≡ false
  other_rule id name r q k f e = not_true (same_row (take m q) (key_with k name)) (λ g. differ ((front_same (key_of a r) k (c.Text id) (c.Text name) (sym f.1 ∙ same_row-is (take m q) (key_with k name) g)).1))
    where
      differ : c.Text id ≡ c.Text name → false ≡ true
      differ g = let same : id ≡ name = cc in sym e ∙ ap (same_name id) (sym same) ∙ same_itself id

  other_point : (id : List ℕ) (r q k : Row) → Ruled id r q → same_row (take n r) k ≡ false → same_row (take m q) (key_with k id) ≡ false
  other_point id r q k f e = not_true (same_row (take m q) (key_with k id)) (λ g. differ ((front_same (key_of a r) k (c.Text id) (c.Text id) (sym f.1 ∙ same_row-is (take m q) (key_with k id) g)).0))
    where
      differ : key_of a r ≡ k → false ≡ true
      differ g = sym e ∙ ap (same_row (take n r)) (sym g) ∙ same_row-refl (take n r)

  -- ---- one rule
  own : (id : List ℕ) (r k : Row) (point : Option Row) → AtMostOne (Ruled id r) (option_to_list point) → take n r ≡ k → look m (option_to_list point) (key_with k id) ≡ point
  own id r k None f e = refl
  own id r k (Some q) f e =
      let same : take m q ≡ key_with k id = f.1 ∙ ap (λ l. key_with l id) e in
      ap (λ z. cond (same_row z (key_with k id)) (Some q) None) same ∙ ap (λ b. cond b (Some q) None) (same_row-refl (key_with k id))

  absent : (id : List ℕ) (r k : Row) (point : Option Row) → AtMostOne (Ruled id r) (option_to_list point) → same_row (take n r) k ≡ false → look m (option_to_list point) (key_with k id) ≡ None
  absent id r k None f e = refl
  absent id r k (Some q) f e = ap (λ b. cond b (Some q) None) (other_point id r q k f e)

  rule_drawn : (x : PointRule) (k : Row) (l : List Row) → AllByRecursion (λ r. AtMostOne (Ruled x.0 r) (option_to_list (at x r))) l → Distinct n l → look m (flat_map (λ r. option_to_list (at x r)) l) (key_with k x.0) ≡ option_and_then (at x) (look n l k)
  rule_drawn x k [] each apart = refl
  rule_drawn x k (r ∷ l) each apart =
      look-append m (option_to_list (at x r)) (drawn l) (key_with k x.0) ∙ go (same_row (take n r) k) refl (rule_drawn x k l each.1 (apart_parts (same_key n) r l apart).1)
    where
      drawn : List Row → List Row
      drawn rows = flat_map (λ q. option_to_list (at x q)) rows

      go : (b : Bool) → same_row (take n r) k ≡ b → look m (drawn l) (key_with k x.0) ≡ option_and_then (at x) (look n l k) → option_or (look m (option_to_list (at x r)) (key_with k x.0)) (look m (drawn l) (key_with k x.0)) ≡ option_and_then (at x) (cond b (Some r) (look n l k))
      go true e ih =
          ap (λ q. option_or q (look m (drawn l) (key_with k x.0))) (own x.0 r k (at x r) each.0 (same_row-is (take n r) k e))
          ∙ ap (option_or (at x r)) (ih ∙ ap (option_and_then (at x)) (behind_none n r l k apart e)) ∙ or_none (at x r)
      go false e ih = ap (λ q. option_or q (look m (drawn l) (key_with k x.0))) (absent x.0 r k (at x r) each.0 e) ∙ ih

  rule_look : (x : PointRule) (k : Row) → IsPointRuleOver p (columns_of a) x.1 → look m (points p o rules a s d i h x) (key_with k x.0) ≡ option_and_then (at x) (look n d k)
  rule_look x k f = ap (λ l. look m l (key_with k x.0)) (drawn_is p o rules a s d i h x) ∙ rule_drawn x k d (at_each p o rules a s d i h x f) h.distinct

  -- ---- all rules
  abbrev of_rule : PointRule → List Row
  of_rule = points p o rules a s d i h

  others_absent : (x : PointRule) (k : Row) (name : List ℕ) → IsPointRuleOver p (columns_of a) x.1 → same_name x.0 name ≡ false → look m (of_rule x) (key_with k name) ≡ None
  others_absent x k name f e =
      look_absent m (of_rule x) (key_with k name)
      (all_more (IsDrawn p o rules a s d i h x) (λ q. same_row (take m q) (key_with k name) ≡ false) (λ q t. other_rule x.0 name t.0 q k t.1 e) (of_rule x) (are_drawn p o rules a s d i h x f))

  all_absent : (xs : List PointRule) (k : Row) (name : List ℕ) → AllByRecursion (λ x. IsPointRuleOver p (columns_of a) x.1) xs → AllByRecursion (λ x. same_name x.0 name ≡ false) xs → look m (flat_map of_rule xs) (key_with k name) ≡ None
  all_absent [] k name typed differ = refl
  all_absent (x ∷ xs) k name typed differ =
      look-append m (of_rule x) (flat_map of_rule xs) (key_with k name) ∙ ap (λ q. option_or q (look m (flat_map of_rule xs) (key_with k name))) (others_absent x k name typed.0 differ.0)
      ∙ all_absent xs k name typed.1 differ.1

  abbrev named : List ℕ → List PointRule → Option PointRule
  named name xs = find (λ x. same_name x.0 name) xs

  all_look : (xs : List PointRule) (k : Row) (name : List ℕ) → AllByRecursion (λ x. IsPointRuleOver p (columns_of a) x.1) xs → all_apart (λ x y. same_name x.0 y.0) xs ≡ true → look m (flat_map of_rule xs) (key_with k name) ≡ option_and_then (λ x. option_and_then (at x) (look n d k)) (named name xs)
  all_look [] k name typed apart = refl
  all_look (x ∷ xs) k name typed apart =
      look-append m (of_rule x) (flat_map of_rule xs) (key_with k name) ∙ go (same_name x.0 name) refl (all_look xs k name typed.1 parts.1)
    where
      parts : AllByRecursion (λ y. same_name x.0 y.0 ≡ false) xs × (all_apart (λ y z. same_name y.0 z.0) xs ≡ true)
      parts = apart_parts (λ y z. same_name y.0 z.0) x xs apart

      here : Option Row → Option Row
      here q = option_or q (look m (flat_map of_rule xs) (key_with k name))

      go : (b : Bool) → same_name x.0 name ≡ b → look m (flat_map of_rule xs) (key_with k name) ≡ option_and_then (λ y. option_and_then (at y) (look n d k)) (named name xs)
          → here (look m (of_rule x) (key_with k name)) ≡ option_and_then (λ y. option_and_then (at y) (look n d k)) (cond b (Some x) (named name xs))
      go true e ih =
          let same = same_name-is x.0 name e in
          let differ = subst (λ l. AllByRecursion (λ (y : PointRule). same_name y.0 l ≡ false) xs) same (all_more (λ (y : PointRule). same_name x.0 y.0 ≡ false) (λ (y : PointRule). same_name y.0 x.0 ≡ false) (λ y t. same_name-sym y.0 x.0 ∙ t) xs parts.0) in
          ap here (ap (λ l. look m (of_rule x) (key_with k l)) (sym same) ∙ rule_look x k typed.0)
          ∙ ap (option_or (option_and_then (at x) (look n d k))) (all_absent xs k name typed.1 differ) ∙ or_none (option_and_then (at x) (look n d k))
      go false e ih = ap here (others_absent x k name typed.0 e) ∙ ih

  pub datapoint_look : (made : List Row) (k : Row) (name : List ℕ) → datapoint_of p o rules (with_points a d) ≡ Ok made → look m made (key_with k name) ≡ option_and_then (λ x. option_and_then (at x) (look n d k)) (named name (all p o rules a s d i h))
  datapoint_look made k name e = ap (λ l. look m l (key_with k name)) (sym (datapoint_is p o rules a s d i h made e)) ∙ all_look (all p o rules a s d i h) k name (all_rules p o rules a s d i h) i.apart

  -- ---- and no other point
  abbrev IsOfRule : Row → Type 0
  IsOfRule q = (k : Row) × (name : List ℕ) × (is_some (named name (all p o rules a s d i h)) ≡ true) × (take m q ≡ key_with k name)

  found_itself : (xs : List PointRule) → AllByRecursion (λ x. is_some (named x.0 xs) ≡ true) xs
  found_itself xs = every xs (λ x e. e)
    where
      step : (y : PointRule) (ys : List PointRule) (name : List ℕ) → is_some (named name ys) ≡ true → is_some (named name (y ∷ ys)) ≡ true
      step y ys name e = go (same_name y.0 name)
        where
          go : (b : Bool) → is_some (cond b (Some y) (named name ys)) ≡ true
          go true = refl
          go false = e

      every : (ys : List PointRule) → ((name : List ℕ) → is_some (named name ys) ≡ true → is_some (named name xs) ≡ true) → AllByRecursion (λ x. is_some (named x.0 xs) ≡ true) ys
      every [] f = tt
      every (y ∷ ys) f = (f y.0 (ap (λ b. is_some (cond b (Some y) (named y.0 ys))) (same_itself y.0)), every ys (λ name e. f name (step y ys name e)))

  pub datapoint_only : (made : List Row) (j q : Row) → datapoint_of p o rules (with_points a d) ≡ Ok made → look m made j ≡ Some q → (k : Row) × (name : List ℕ) × (is_some (named name (all p o rules a s d i h)) ≡ true) × (j ≡ key_with k name)
  datapoint_only made j q e found =
      let xs = all p o rules a s d i h in
      let every : AllByRecursion IsOfRule (flat_map of_rule xs) = all_flat_map IsOfRule of_rule xs
      (all_both (λ x. is_some (named x.0 xs) ≡ true) (λ x. IsPointRuleOver p (columns_of a) x.1) (λ x. AllByRecursion IsOfRule (of_rule x))
      (λ x t f. all_more (IsDrawn p o rules a s d i h x) IsOfRule (λ z r. (key_of a r.0, x.0, t, r.1.1)) (of_rule x) (are_drawn p o rules a s d i h x f)) xs (found_itself xs) (all_rules p o rules a s d i h)) in
      let is = look_is IsOfRule m made j q (subst (AllByRecursion IsOfRule) (datapoint_is p o rules a s d i h made e) every) found in
      (is.0, is.1, is.2, sym (look_key m made j q found) ∙ is.3)
