-- Fronts of lists, and the items at the front that pass a test.
use Rattle.std.proofs.Common.{◌≡◌, ◌≤◌, ◌+◌, ◌∷◌, ◌++◌, ◌∙◌, [], suc, List, Bool, true, false, length, take, drop, sym, ap, refl, arith, inl, inr}
use Rattle.std.specs.List.{list_all, prefix_len}
use Rattle.std.proofs.lemmas.Bool.{and_from, and_parts, cases_Bool, false≢true}
use Rattle.vtl_lists.specs.Runs.{begins_with}

-- a front that passes is no longer than one behind which the next item fails
pub run-longest : {X : Type 0} (test : X → Bool) (front rest more behind : List X) → front ++ rest ≡ more ++ behind → begins_with test rest ≡ false → list_all test more ≡ true
    → length more ≤ length front
run-longest test front rest [] behind e stops all = omega arith
run-longest test [] rest (m ∷ more) behind e stops all =
    absurd (false≢true (sym stops ∙ ap (begins_with test) e ∙ (and_parts (test m) (list_all test more) all).0))
run-longest test (x ∷ front) rest (m ∷ more) behind e stops all =
    let tails : front ++ rest ≡ more ++ behind = cc e in
    let le = run-longest test front rest more behind tails stops (and_parts (test m) (list_all test more) all).1 in
    omega arith

-- fronts of one length are one
pub front-same : {X : Type 0} (xs ys rest behind : List X) → xs ++ rest ≡ ys ++ behind → length xs ≡ length ys → (xs ≡ ys) × (rest ≡ behind)
front-same [] [] rest behind e l = (refl, e)
front-same [] (y ∷ ys) rest behind e l = absurd (omega arith)
front-same (x ∷ xs) [] rest behind e l = absurd (omega arith)
front-same (x ∷ xs) (y ∷ ys) rest behind e l =
    let tails : xs ++ rest ≡ ys ++ behind = cc e in
    let heads : x ≡ y = cc e in
    let lengths : length xs ≡ length ys = omega arith in
    let more = front-same xs ys rest behind tails lengths in
    let first : xs ≡ ys = more.0 in
    (cc, more.1)

-- two fronts that pass, each before an item that fails
pub run-same : {X : Type 0} (test : X → Bool) (xs rest ys behind : List X) → xs ++ rest ≡ ys ++ behind → list_all test xs ≡ true → begins_with test rest ≡ false
    → list_all test ys ≡ true → begins_with test behind ≡ false → (xs ≡ ys) × (rest ≡ behind)
run-same test xs rest ys behind e all stops all' stops' =
    let le = run-longest test xs rest ys behind e stops all' in
    let ge = run-longest test ys behind xs rest (sym e) stops' all in
    front-same xs ys rest behind e (omega arith)

-- as many items as pass in a row: they pass, and the next one does not
pub prefix-passes : {X : Type 0} (test : X → Bool) (xs : List X) → list_all test (take (prefix_len test xs) xs) ≡ true
prefix-passes test [] = refl
prefix-passes test (x ∷ xs) = elim (cases_Bool (test x)) [
  | inl e ↦
      let one : 1 + prefix_len test xs ≡ suc (prefix_len test xs) = omega arith in
      rw (e, one) (and_from (test x) _ e (prefix-passes test xs))
  | inr e ↦ rw e refl
]

pub prefix-stops : {X : Type 0} (test : X → Bool) (xs : List X) → begins_with test (drop (prefix_len test xs) xs) ≡ false
prefix-stops test [] = refl
prefix-stops test (x ∷ xs) = elim (cases_Bool (test x)) [
  | inl e ↦
      let one : 1 + prefix_len test xs ≡ suc (prefix_len test xs) = omega arith in
      rw (e, one) (prefix-stops test xs)
  | inr e ↦ rw e e
]
