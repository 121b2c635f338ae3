-- Names that are found, and the items that an item depends on.
use Rattle.std.proofs.Common.{◌≡◌, ◌⊎◌, inl, inr, ℕ, zero, suc, ◌+◌, ◌<◌, ◌≤◌, Bool, true, false, ◌||◌, cond, List, [], ◌∷◌, ◌++◌, map, length, take, drop, get_or, Option, Some, None, refl, sym, ap, subst, ◌∙◌, arith, append_assoc, append-nil, unwrap_or}
use Rattle.std.specs.Prelude.{slice_get, nat_eq}
use Rattle.std.specs.List.{AllByRecursion, enumerate_from, list_any}
use Rattle.std.specs.Map.{keys_of, lookup}
use Rattle.std.specs.Cmp.Lexicographic.{bytes_decides, nat_list_eq_equiv}
use Rattle.std.proofs.lemmas.Bool.{cases_lt, eqb-true, eq-eqb, or_cases, or_left, or_right}
use Rattle.std.proofs.lemmas.List.{drop_more, map-append}
use Rattle.std.proofs.lemmas.List.Folds.{list_any-append, list_any_more}
use Rattle.std.proofs.lemmas.Option.{get_or_from_slice_get, slice_get_within}
use Rattle.vtl_text.specs.Texts.{same_text}
use Rattle.vtl_syntax.specs.declared.statements.HierRule.{HierRule}
use Rattle.vtl_tree.specs.Structure.{same_name}
use Rattle.check_rules.specs.Found.{Adds, AreWithin, Finds, Has, IsOnRight, IsOnRightAt, TellsDependence}
use Rattle.check_rules.specs.Order.{DependsOn, IsMadeOf, Picked, Placed, computed_items, directly, none, passed, taken, through}
use Rattle.check_rules.specs.RuleItems.{defines}
use Rattle.vtl_tree.specs.RuleItems.{is_equation, left_item}
use Rattle.check_rules.specs.Running.{AreMakers, is_place_in, makes_of, places_at}
use Rattle.check_rules.proofs.Circles.{then_on}
use Rattle.check_rules.proofs.Counts.{place_is}
use Rattle.check_rules.proofs.SideLemmas.{computed_first}
use Rattle.check_rules.proofs.Lists.{gathered_at, gathered_from, one_passes}
use Rattle.check_rules.proofs.Runs.{one_rule, rule_at}

same-true : (a b : List ℕ) → same_name a b ≡ true → a ≡ b
same-true a b e = (bytes_decides a b).0 e

-- ---- names that are found
all_append : (P : List ℕ → Type 0) (xs ys : List (List ℕ)) → AllByRecursion P xs → AllByRecursion P ys → AllByRecursion P (xs ++ ys)
all_append P [] ys h g = g
all_append P (x ∷ xs) ys h g = (h.0, all_append P xs ys h.1 g)

all_as : (P Q : List ℕ → Type 0) → ((x : List ℕ) → P x → Q x) → (xs : List (List ℕ)) → AllByRecursion P xs → AllByRecursion Q xs
all_as P Q f [] h = tt
all_as P Q f (x ∷ xs) h = (f x h.0, all_as P Q f xs h.1)

pub has_more : (xs ys : List (List ℕ)) (n : List ℕ) → Has xs n → Has (xs ++ ys) n
has_more xs ys n h = list_any-append (same_name n) xs ys ∙ or_left (list_any (same_name n) xs) (list_any (same_name n) ys) h

pub finds_none : (P : List ℕ → Type 0) (xs : List (List ℕ)) → ((n : List ℕ) → P n → Has xs n) → Finds P xs xs
finds_none P xs h = record { more = []; behind = sym (append-nil xs); found = tt; all_found = h }

pub finds_both : (P Q R : List ℕ → Type 0) (a b c : List (List ℕ)) → Finds P a b → Finds Q b c → ((n : List ℕ) → P n → R n) → ((n : List ℕ) → Q n → R n) → ((n : List ℕ) → R n → P n ⊎ Q n) → Finds R a c
finds_both P Q R a b c f g p q back = record {
  more = f.more ++ g.more;
  behind = g.behind ∙ ap (λ l. l ++ g.more) f.behind ∙ append_assoc a f.more g.more;
  found = all_append R f.more g.more (all_as P R p f.more f.found) (all_as Q R q g.more g.found);
  all_found = λ n r. go n (back n r);
}
  where
    go : (n : List ℕ) → P n ⊎ Q n → Has c n
    go n (inl h) = ap (λ l. list_any (same_name n) l) g.behind ∙ has_more b g.more n (f.all_found n h)
    go n (inr h) = g.all_found n h

pub finds_as : (P Q : List ℕ → Type 0) (a b : List (List ℕ)) → Finds P a b → ((n : List ℕ) → P n → Q n) → ((n : List ℕ) → Q n → P n) → Finds Q a b
finds_as P Q a b f p q = record { more = f.more; behind = f.behind; found = all_as P Q p f.more f.found; all_found = λ n h. f.all_found n (q n h) }

-- one name more
pub find_new : (found : List (List ℕ × Unit {0})) (now : List (List ℕ × Unit {0})) (part copy : List ℕ) → now ≡ found ++ (copy, tt) ∷ [] → copy ≡ part → Finds (λ name. same_name name part ≡ true) (keys_of found) (keys_of now)
find_new found now part copy put same = record {
  more = part ∷ [];
  behind = ap (λ es. keys_of es) put ∙ map-append (λ e. e.0) found ((copy, tt) ∷ []) ∙ ap (λ t. keys_of found ++ t ∷ []) same;
  found = (nat_list_eq_equiv.refl part, tt);
  all_found = λ n h. ap (λ l. list_any (same_name n) l) (ap (λ es. keys_of es) put ∙ map-append (λ e. e.0) found ((copy, tt) ∷ []) ∙ ap (λ t. keys_of found ++ t ∷ []) same)
      ∙ list_any-append (same_name n) (keys_of found) (part ∷ []) ∙ or_right (list_any (same_name n) (keys_of found)) (same_name n part || false) (or_left (same_name n part) false h);
}

pub find_old : (xs : List (List ℕ)) (part : List ℕ) → Has xs part → Finds (λ name. same_name name part ≡ true) xs xs
find_old xs part h = finds_none (λ name. same_name name part ≡ true) xs (λ n e. ap (λ t. list_any (same_name t) xs) (same-true n part e) ∙ h)

-- ---- items on the right, one after the other
taken_any : (items : List (List ℕ)) (k : ℕ) (x n : List ℕ) → slice_get items k ≡ Some x → list_any (same_name n) (take (k + 1) items) ≡ (list_any (same_name n) (take k items) || same_name n x)
taken_any items k x n at =
    list_any_more (same_name n) items k x (slice_get_within items k x at) ∙ ap (λ y. list_any (same_name n) (take k items) || same_name n y) (get_or_from_slice_get items k x x at)

pub right_more : (items : List (List ℕ)) (k : ℕ) (x : List ℕ) (a b c : List (List ℕ)) → slice_get items k ≡ Some x → Finds (Has (take k items)) a b → Finds (λ name. same_name name x ≡ true) b c → Finds (Has (take (k + 1) items)) a c
right_more items k x a b c at f g =
    finds_both (Has (take k items)) (λ name. same_name name x ≡ true) (Has (take (k + 1) items)) a b c f g
    (λ n h. taken_any items k x n at ∙ or_left (list_any (same_name n) (take k items)) (same_name n x) h)
    (λ n h. taken_any items k x n at ∙ or_right (list_any (same_name n) (take k items)) (same_name n x) h)
    (λ n h. or_cases (list_any (same_name n) (take k items)) (same_name n x) (sym (taken_any items k x n at) ∙ h))

-- ---- rules at places, one after the other
place_taken : (places : List ℕ) (i j : ℕ) → i < length places → is_place_in (take (i + 1) places) j ≡ (is_place_in (take i places) j || nat_eq j (get_or places i 0))
place_taken places i j within = list_any_more (nat_eq j) places i 0 within

pub at_more : (rules : List HierRule) (places : List ℕ) (i : ℕ) (r : HierRule) (a b c : List (List ℕ)) → i < length places → slice_get rules (get_or places i 0) ≡ Some r
    → Finds (IsOnRightAt rules (take i places)) a b → Finds (IsOnRight r) b c → Finds (IsOnRightAt rules (take (i + 1) places)) a c
at_more rules places i r a b c within at f g =
    finds_both (IsOnRightAt rules (take i places)) (IsOnRight r) (IsOnRightAt rules (take (i + 1) places)) a b c f g
    (λ n h. (h.0, h.1, place_taken places i h.0 within ∙ or_left (is_place_in (take i places) h.0) (nat_eq h.0 (get_or places i 0)) h.2, h.3, h.4))
    (λ n h. (get_or places i 0, r, place_taken places i (get_or places i 0) within ∙ or_right (is_place_in (take i places) (get_or places i 0)) (nat_eq (get_or places i 0) (get_or places i 0)) (eq-eqb (get_or places i 0) (get_or places i 0) refl), at, h))
    (λ n h. go n h.0 h.1 h.3 h.4 (or_cases (is_place_in (take i places) h.0) (nat_eq h.0 (get_or places i 0)) (sym (place_taken places i h.0 within) ∙ h.2)))
  where
    go : (n : List ℕ) (j : ℕ) (s : HierRule) → slice_get rules j ≡ Some s → IsOnRight s n → (is_place_in (take i places) j ≡ true) ⊎ (nat_eq j (get_or places i 0) ≡ true) → IsOnRightAt rules (take i places) n ⊎ IsOnRight r n
    go n j s there h (inl p) = inl (j, s, p, there, h)
    go n j s there h (inr q) =
        let same : s ≡ r = one_rule rules (get_or places i 0) s r (ap (slice_get rules) (sym (eqb-true j (get_or places i 0) q)) ∙ there) at in
        inr (subst (λ (t : HierRule). IsOnRight t n) same h)

-- ---- the rules that compute an item
module _ (rules : List HierRule) (makers : List (List ℕ × List ℕ)) (are : AreMakers rules makers) where
  pub maker_is : (item : List ℕ) (i : ℕ) → is_place_in (places_at item makers) i ≡ true → (r : HierRule) × (slice_get rules i ≡ Some r) × (defines item r ≡ true)
  maker_is item i h =
      let f = gathered_from (nat_eq i) (makes_of item) (enumerate_from 0 rules) (ap (λ l. is_place_in l i) (sym (are item)) ∙ h) in
      let there = place_is 0 rules f.0 f.1 f.2 in
      let both = pick f.1 (defines item f.1.1) refl f.3 in
      let here : f.0 ≡ i = omega (arith, there.0, both.1) in
      (f.1.1, ap (slice_get rules) (sym here) ∙ there.1, both.0)
    where
      first : (c : Bool) → (c || false) ≡ true → c ≡ true
      first true h = refl
      first false h = cc

      pick : (y : Placed) (b : Bool) → defines item y.1 ≡ b → is_place_in (cond b (y.0 ∷ []) []) i ≡ true → (defines item y.1 ≡ true) × (i ≡ y.0)
      pick y true e h = (e, eqb-true i y.0 (first (nat_eq i y.0) h))
      pick y false e h = cc

  pub makers_within : (item : List ℕ) → AreWithin rules (places_at item makers)
  makers_within item i h = let f = maker_is item i h in slice_get_within rules i f.0 f.1

  is_maker : (item : List ℕ) (i : ℕ) (r : HierRule) → slice_get rules i ≡ Some r → defines item r ≡ true → is_place_in (places_at item makers) i ≡ true
  is_maker item i r at d =
      ap (λ l. is_place_in l i) (are item)
      ∙ gathered_at (nat_eq i) (makes_of item) (enumerate_from 0 rules) i (i, r) (rule_at rules i r at) (ap (λ b. is_place_in (cond b (i ∷ []) []) i) d ∙ or_left (nat_eq i i) false (eq-eqb i i refl))

  pub parts_found : (item : List ℕ) (a b : List (List ℕ)) → Finds (IsOnRightAt rules (places_at item makers)) a b → Finds (IsMadeOf rules item) a b
  parts_found item a b f =
      finds_as (IsOnRightAt rules (places_at item makers)) (IsMadeOf rules item) a b f
      (λ n h. let m = maker_is item h.0 h.2 in (h.0, h.1, h.3, ap (defines item) (one_rule rules h.0 h.1 m.0 h.3 m.1) ∙ m.2, h.4))
      (λ n h. (h.0, h.1, is_maker item h.0 h.1 h.2 h.3, h.2, h.4))

  pub no_parts : (item : List ℕ) (a : List (List ℕ)) → None ≡ lookup (same_text item) makers → Finds (IsMadeOf rules item) a a
  no_parts item a none_there = finds_none (IsMadeOf rules item) a (λ n h. absurd (never (ap (λ o. is_place_in (unwrap_or o []) h.0) none_there ∙ is_maker item h.0 h.1 h.2 h.3)))
    where
      never : false ≡ true → ⊥
      never e = cc

-- ---- what an item depends on
module _ (rules : List HierRule) (item : List ℕ) where
  -- all that is found is depended on, and what is found up to a place is followed
  pub record IsFollowed (at : ℕ) (names : List (List ℕ)) : Type 0 where
    pub sound : AllByRecursion (λ n. DependsOn rules item n) names
    pub parts : (n : List ℕ) → IsMadeOf rules item n → Has names n
    pub closed : (j : ℕ) (x : List ℕ) → j < at → slice_get names j ≡ Some x → (n : List ℕ) → IsMadeOf rules x n → Has names n

  pub follow_start : (names : List (List ℕ)) → Finds (IsMadeOf rules item) [] names → IsFollowed 0 names
  follow_start names f = record {
    sound = subst (AllByRecursion (λ n. DependsOn rules item n)) (sym f.behind) (all_as (IsMadeOf rules item) (λ n. DependsOn rules item n) (λ n m. directly item n m) f.more f.found);
    parts = f.all_found;
    closed = λ j x h at n m. absurd (omega (arith, h));
  }

  sound_at : (names : List (List ℕ)) (j : ℕ) (x : List ℕ) → AllByRecursion (λ n. DependsOn rules item n) names → slice_get names j ≡ Some x → DependsOn rules item x
  sound_at [] j x h e = cc
  sound_at (y ∷ ys) zero x h e = let same : y ≡ x = cc in subst (λ (t : List ℕ). DependsOn rules item t) same h.0
  sound_at (y ∷ ys) (suc j) x h e = sound_at ys j x h.1 e

  before_there : (xs ys : List (List ℕ)) (j : ℕ) (x : List ℕ) → j < length xs → slice_get (xs ++ ys) j ≡ Some x → slice_get xs j ≡ Some x
  before_there [] ys j x h e = absurd (omega (arith, h))
  before_there (y ∷ xs) ys zero x h e = e
  before_there (y ∷ xs) ys (suc j) x h e = before_there xs ys j x (omega (arith, h)) e

  pub follow_more : (at : ℕ) (names now : List (List ℕ)) (x : List ℕ) → slice_get names at ≡ Some x → IsFollowed at names → Finds (IsMadeOf rules x) names now → IsFollowed (at + 1) now
  follow_more at names now x there f g = record {
    sound = subst (AllByRecursion (λ n. DependsOn rules item n)) (sym g.behind) (all_append (λ n. DependsOn rules item n) names g.more f.sound (all_as (IsMadeOf rules x) (λ n. DependsOn rules item n) (λ n m. then_on rules item x n (sound_at names at x f.sound there) m) g.more g.found));
    parts = λ n m. still n (f.parts n m);
    closed = λ j y h e n m. go j y h (before_there names g.more j y (inside j h) (ap (λ l. slice_get l j) (sym g.behind) ∙ e)) n m (cases_lt j at);
  }
    where
      inside : (j : ℕ) → j < at + 1 → j < length names
      inside j h = let w = slice_get_within names at x there in omega (arith, h, w)

      still : (n : List ℕ) → Has names n → Has now n
      still n h = ap (λ l. list_any (same_name n) l) g.behind ∙ has_more names g.more n h

      go : (j : ℕ) (y : List ℕ) → j < at + 1 → slice_get names j ≡ Some y → (n : List ℕ) → IsMadeOf rules y n → (j < at) ⊎ (at ≤ j) → Has now n
      go j y h e n m (inl less) = still n (f.closed j y less e n m)
      go j y h e n m (inr le) =
          let same : j ≡ at = omega (arith, h, le) in
          let is : y ≡ x = one (slice_get names at) (ap (slice_get names) (sym same) ∙ e) there in
          g.all_found n (subst (λ (t : List ℕ). IsMadeOf rules t n) is m)
        where
          one : {y z : List ℕ} (o : Option (List ℕ)) → o ≡ Some y → o ≡ Some z → y ≡ z
          one o p q = cc

  module _ (at : ℕ) (names : List (List ℕ)) (f : IsFollowed at names) (all : length names ≤ at) where
    follows : (x : List ℕ) → Has names x → (n : List ℕ) → IsMadeOf rules x n → Has names n
    follows x h n m =
        let p = one_passes (same_name x) names h in
        let w = slice_get_within names p.0 p.1 p.2 in
        f.closed p.0 p.1 (omega (arith, w, all)) p.2 n (subst (λ (t : List ℕ). IsMadeOf rules t n) (same-true x p.1 p.3) m)

    reached : (a b : List ℕ) → DependsOn rules a b → ((n : List ℕ) → IsMadeOf rules a n → Has names n) → Has names b
    reached a b (directly a' b' m) h = h b' m
    reached a b (through a' p b' m rest) h = reached p b' rest (follows p (h p m))

    pub tells : (b : Bool) → b ≡ list_any (same_name item) names → TellsDependence rules item b
    tells true e = let p = one_passes (same_name item) names (sym e) in subst (λ (t : List ℕ). DependsOn rules item t) (sym (same-true item p.1 p.3)) (sound_at names p.0 p.1 f.sound p.2)
    tells false e = λ d. never (e ∙ reached item item d f.parts)
      where
        never : false ≡ true → ⊥
        never h = cc

-- ---- the items that depend on themselves
module _ {X : Type 0} (P : X → Type 0) where
  pub picked_append : {xs ys us vs : List X} → Picked P xs ys → Picked P us vs → Picked P (xs ++ us) (ys ++ vs)
  picked_append none q = q
  picked_append (taken x h p) q = taken x h (picked_append p q)
  picked_append (passed x h p) q = passed x h (picked_append p q)

pub adds_nothing : (rules : List HierRule) (r : HierRule) (items : List (List ℕ)) → is_equation r ≡ false → Adds rules r items items
adds_nothing rules r items e = ([], sym (append-nil items), subst (λ (l : List (List ℕ)). Picked (λ item. DependsOn rules item item) l []) (sym (ap (λ b. map left_item (cond b (r ∷ []) [])) e)) none)

pub adds_none : (rules : List HierRule) (r : HierRule) (items : List (List ℕ)) → is_equation r ≡ true → (DependsOn rules (left_item r) (left_item r) → ⊥) → Adds rules r items items
adds_none rules r items e apart = ([], sym (append-nil items), subst (λ (l : List (List ℕ)). Picked (λ item. DependsOn rules item item) l []) (sym (ap (λ b. map left_item (cond b (r ∷ []) [])) e)) (passed (left_item r) apart none))

pub adds_one : (rules : List HierRule) (r : HierRule) (items now : List (List ℕ)) (copy : List ℕ) → is_equation r ≡ true → DependsOn rules (left_item r) (left_item r) → now ≡ items ++ copy ∷ [] → copy ≡ left_item r → Adds rules r items now
adds_one rules r items now copy e itself put same =
    (left_item r ∷ [], put ∙ ap (λ t. items ++ t ∷ []) same, subst (λ (l : List (List ℕ)). Picked (λ item. DependsOn rules item item) l (left_item r ∷ [])) (sym (ap (λ b. map left_item (cond b (r ∷ []) [])) e)) (taken (left_item r) itself none))

pub adds_more : (rules : List HierRule) (i : ℕ) (r : HierRule) (before now : List (List ℕ)) → i < length rules → r ≡ get_or rules i r → Adds rules r before now
    → ((rest : List (List ℕ)) → Picked (λ item. DependsOn rules item item) (computed_items (drop i rules)) rest → Picked (λ item. DependsOn rules item item) (computed_items rules) (before ++ rest))
    → (rest : List (List ℕ)) → Picked (λ item. DependsOn rules item item) (computed_items (drop (i + 1) rules)) rest → Picked (λ item. DependsOn rules item item) (computed_items rules) (now ++ rest)
adds_more rules i r before now within is a h rest p =
    let P : List ℕ → Type 0 = λ item. DependsOn rules item item in
    let both : Picked P (computed_items (r ∷ []) ++ computed_items (drop (i + 1) rules)) (a.0 ++ rest) = picked_append P a.2 p in
    let here : Picked P (computed_items (drop i rules)) (a.0 ++ rest) = subst (λ (l : List (List ℕ)). Picked P l (a.0 ++ rest)) (computed_first r (drop (i + 1) rules) ∙ sym (ap (λ l. computed_items l) (drop_more rules i r within ∙ ap (λ y. y ∷ drop (i + 1) rules) (sym is)))) both in
    subst (λ (l : List (List ℕ)). Picked P (computed_items rules) l) (sym (append_assoc before a.0 rest) ∙ sym (ap (λ l. l ++ rest) a.1)) (h (a.0 ++ rest) here)
