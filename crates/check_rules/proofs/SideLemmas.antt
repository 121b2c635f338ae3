-- Items of a rule by their places, and rules that are counted or listed one after the other.
use Rattle.std.proofs.Common.{◌≡◌, ℕ, zero, suc, ◌+◌, ◌-◌, ◌<◌, ◌≤◌, Bool, true, false, ◌&&◌, cond, List, [], ◌∷◌, ◌++◌, map, length, drop, get_or, Some, Result, Ok, Err, OnOk, refl, sym, ap, ◌∙◌, arith, append_assoc}
use Rattle.std.specs.Prelude.{slice_get, filter, option_map}
use Rattle.std.specs.List.{enumerate_from}
use Rattle.std.proofs.lemmas.List.{drop_more, length-map}
use Rattle.std.proofs.lemmas.Option.{slice_get-map, slice_get_read}
use Rattle.vtl_syntax.specs.declared.parts.SignedComp.{SignedComp}
use Rattle.vtl_syntax.specs.declared.statements.HierRule.{HierRule}
use Rattle.vtl_tree.specs.Structure.{same_name}
use Rattle.check_rules.specs.Order.{computed_items}
use Rattle.check_rules.specs.RuleItems.{defines}
use Rattle.vtl_tree.specs.RuleItems.{is_equation, left_item, right_items, signed_item}
use Rattle.check_rules.specs.Running.{times_computed}

-- what holds of an answer that is no error implies more
pub on_ok : {T E P Q : Type 0} (r : Result T E) → OnOk r P → (P → Q) → OnOk r Q
on_ok (Ok x) p f = f p
on_ok (Err e) p f = tt

-- an item on the right behind the first
pub right_at : (r : HierRule) (others : List SignedComp) (k j : ℕ) (x : SignedComp) (name : List ℕ) → others ≡ r.others → 1 ≤ k → j ≡ k - 1 → k < length (right_items r) → x ≡ get_or others j x → name ≡ signed_item x
    → slice_get (right_items r) k ≡ Some name
right_at r others zero j x name same one at within is named = absurd (omega (arith, one))
right_at r others (suc i) j x name same one at within is named =
    let here : j ≡ i = omega arith in
    let long = length-map r.others signed_item in
    let few : i < length others = let s = ap length same in omega (arith, long, s, within) in
    slice_get-map signed_item r.others i ∙ ap (λ l. option_map signed_item (slice_get l i)) (sym same)
    ∙ ap (option_map signed_item) (slice_get_read others (length others) i x refl few (is ∙ ap (λ m. get_or others m x) here)) ∙ ap Some (sym named)

-- a rule is counted where it computes the item
pub counted_step : (rules : List HierRule) (i : ℕ) (r : HierRule) (q : List ℕ) (before now total : ℕ) → i < length rules → r ≡ get_or rules i r → now ≡ cond (defines q r) (before + 1) before
    → before + times_computed [] q (enumerate_from i (drop i rules)) ≡ total → now + times_computed [] q (enumerate_from (i + 1) (drop (i + 1) rules)) ≡ total
counted_step rules i r q before now total within is e h =
    ap (λ n. n + rest) e ∙ go (is_equation r) (same_name q (left_item r))
    ∙ sym (ap (λ l. before + times_computed [] q (enumerate_from i l)) (drop_more rules i r within ∙ ap (λ y. y ∷ drop (i + 1) rules) (sym is)))
    ∙ h
  where
    rest : ℕ
    rest = times_computed [] q (enumerate_from (i + 1) (drop (i + 1) rules))

    go : (a b : Bool) → cond (a && b) (before + 1) before + rest ≡ before + cond (a && (a && b)) (suc rest) rest
    go true true = omega arith
    go true false = refl
    go false b = refl

pub counted_few : (b : Bool) (before now i : ℕ) → now ≡ cond b (before + 1) before → before ≤ i → now ≤ i + 1
counted_few true before now i e h = omega arith
counted_few false before now i e h = omega arith

-- the items of `=` rules, one rule and then the others
pub computed_first : (r : HierRule) (rs : List HierRule) → computed_items (r ∷ []) ++ computed_items rs ≡ computed_items (r ∷ rs)
computed_first r rs = go (is_equation r)
  where
    go : (b : Bool) → map left_item (cond b (r ∷ []) []) ++ computed_items rs ≡ map left_item (cond b (r ∷ filter is_equation rs) (filter is_equation rs))
    go true = refl
    go false = refl

pub computed_step : (rules : List HierRule) (i : ℕ) (r : HierRule) (before now total : List (List ℕ)) → i < length rules → r ≡ get_or rules i r → now ≡ before ++ computed_items (r ∷ [])
    → before ++ computed_items (drop i rules) ≡ total → now ++ computed_items (drop (i + 1) rules) ≡ total
computed_step rules i r before now total within is e h =
    ap (λ l. l ++ computed_items (drop (i + 1) rules)) e ∙ append_assoc before (computed_items (r ∷ [])) (computed_items (drop (i + 1) rules))
    ∙ ap (λ l. before ++ l) (computed_first r (drop (i + 1) rules))
    ∙ sym (ap (λ l. before ++ computed_items l) (drop_more rules i r within ∙ ap (λ y. y ∷ drop (i + 1) rules) (sym is)))
    ∙ h
