-- Rules that are run in an order give what the recursion over their dependence gives.
use Rattle.std.proofs.Common.{◌≡◌, ◌≤◌, ◌+◌, ℕ, zero, suc, Bool, true, false, cond, List, [], ◌∷◌, length, map, Some, None, refl, ap, sym, ◌∙◌, subst, arith}
use Rattle.std.specs.Prelude.{fold}
use Rattle.std.specs.List.{AllByRecursion, find}
use Rattle.std.specs.Option.{option_map_or}
use Rattle.vtl_decimal.specs.Settings.{Settings}
use Rattle.vtl_lists.specs.Apart.{all_apart}
use Rattle.vtl_lists.specs.Perm.{Perm}
use Rattle.vtl_lists.proofs.Aparts.{apart_parts}
use Rattle.vtl_lists.proofs.Perms.{AllByRecursion-Perm, Perm-sym, length-Perm}
use Rattle.vtl_lists.proofs.Alls.{all_both, all_more}
use Rattle.vtl_cell.specs.declared.kind.Kind.{Kind}
use Rattle.vtl_syntax.specs.declared.statements.HierRule.{HierRule}
use Rattle.vtl_syntax.specs.declared.word_groups.HierInput.{HierInput}
use Rattle.vtl_syntax.specs.declared.word_groups.Mode.{Mode}
use Rattle.vtl_tree.specs.Structure.{same_name}
use Rattle.vtl_tuples.proofs.Lists.{map_same}
use Rattle.vtl_meaning.proofs.Places.{same_name-is}
use Rattle.vtl_rulings.specs.Hierarchies.{computed, defines, items_within, taken}
use Rattle.vtl_rulings.specs.Modes.{Found, Items, appears, counted}
use Rattle.vtl_rulings.specs.Running.{AreOrdered, AreThese, IsFree, made_in_run, ran, step}
use Rattle.vtl_rulings.specs.Sides.{sum_of}
use Rattle.vtl_tree.specs.RuleItems.{left_item, right_items}
use Rattle.vtl_tree.proofs.NotNullLemmas.{same_itself}

module _ (p : Settings) (m : Mode) (kind : Kind) (i : HierInput) (given : Items) (rules : List HierRule) where
  abbrev within : ℕ → Items
  within n = items_within p m kind i rules given n

  abbrev next : Items → HierRule → Items
  next f r = step p m kind i given f r

  -- a rule looks at its right items alone
  computed_same : (f g : Items) (r : HierRule) → AllByRecursion (λ x. f x ≡ g x) (right_items r) → computed p m kind f r ≡ computed p m kind g r
  computed_same f g r same =
      ap (λ xs. cond (appears m xs) (Some (sum_of p kind r (map (λ x. counted m kind (f x)) (right_items r)))) None) (map_same f g (right_items r) same)
      ∙ ap (λ vs. cond (appears m (map g (right_items r))) (Some (sum_of p kind r vs)) None)
      (map_same (λ x. counted m kind (f x)) (λ x. counted m kind (g x)) (right_items r) (all_more (λ x. f x ≡ g x) (λ x. counted m kind (f x) ≡ counted m kind (g x)) (λ x e. ap (counted m kind) e) (right_items r) same))

  -- what is known before so many rules were run
  abbrev Known : ℕ → Items → List HierRule → Type 0
  Known done f rest = (item : List ℕ) → IsFree rest item → (n : ℕ) → done ≤ n → within n item ≡ f item

  at_start : (order : List HierRule) → AreThese rules order → Known 0 given order
  at_start order these item free zero le = refl
  at_start order these item free (suc n) le = ap (λ o. option_map_or (λ r. taken i (given item) (computed p m kind (within n) r)) o (given item)) (these.only item free)

  rights_known : (done : ℕ) (f : Items) (r : HierRule) (rs : List HierRule) → AllByRecursion (IsFree (r ∷ rs)) (right_items r) → Known done f (r ∷ rs) → (n : ℕ) → done ≤ n → computed p m kind (within n) r ≡ computed p m kind f r
  rights_known done f r rs free known n le = computed_same (within n) f r (all_more (IsFree (r ∷ rs)) (λ x. within n x ≡ f x) (λ x h. known x h n le) (right_items r) free)

  one_more : (done : ℕ) (f : Items) (r : HierRule) (rs : List HierRule) → AllByRecursion (IsFree (r ∷ rs)) (right_items r) → find (defines (left_item r)) rules ≡ Some r → Known done f (r ∷ rs) → Known (suc done) (next f r) rs
  one_more done f r rs free found known item h zero le = absurd (omega (arith, le))
  one_more done f r rs free found known item h (suc n) le = go (same_name (left_item r) item) refl
    where
      value : Found
      value = taken i (given (left_item r)) (computed p m kind f r)

      go : (b : Bool) → same_name (left_item r) item ≡ b → within (suc n) item ≡ cond b value (f item)
      go true e =
          let name : left_item r ≡ item = same_name-is (left_item r) item e in
          let here : find (defines item) rules ≡ Some r = subst (λ x. find (defines x) rules ≡ Some r) name found in
          ap (λ o. option_map_or (λ q. taken i (given item) (computed p m kind (within n) q)) o (given item)) here
          ∙ ap (taken i (given item)) (rights_known done f r rs free known n (omega (arith, le)))
          ∙ ap (λ x. taken i (given x) (computed p m kind f r)) (sym name)
      go false e = known item (e, h) (suc n) (omega (arith, le))

  all_known : (done : ℕ) (f : Items) (rest : List HierRule) → AreOrdered rest → AllByRecursion (λ r. find (defines (left_item r)) rules ≡ Some r) rest → Known done f rest → Known (done + length rest) (fold next f rest) []
  all_known done f [] o found known item free n le = known item tt n (omega (arith, le))
  all_known done f (r ∷ rs) o found known item free n le = all_known (suc done) (next f r) rs o.1 found.1 (one_more done f r rs o.0 found.0 known) item free n (omega (arith, le))

  -- what each rule computes in the run it computes of the items of the recursion
  all_made : (done : ℕ) (f : Items) (rest : List HierRule) (n : ℕ) → done + length rest ≤ n → AreOrdered rest → AllByRecursion (λ r. find (defines (left_item r)) rules ≡ Some r) rest → Known done f rest
      → made_in_run p m kind i given f rest ≡ map (computed p m kind (within n)) rest
  all_made done f [] n le o found known = refl
  all_made done f (r ∷ rs) n le o found known =
      ap (λ x. x ∷ made_in_run p m kind i given (next f r) rs) (sym (rights_known done f r rs o.0 known n (omega (arith, le))))
      ∙ ap (λ l. computed p m kind (within n) r ∷ l) (all_made (suc done) (next f r) rs n (omega (arith, le)) o.1 found.1 (one_more done f r rs o.0 found.0 known))

  module _ (order : List HierRule) (o : AreOrdered order) (these : AreThese rules order) where
    pub run_is : (item : List ℕ) (n : ℕ) → length order ≤ n → items_within p m kind i rules given n item ≡ ran p m kind i given order item
    run_is item n le = all_known 0 given order o these.found (at_start order these) item tt n (omega (arith, le))

    pub made_is : (n : ℕ) → length order ≤ n → made_in_run p m kind i given given order ≡ map (computed p m kind (items_within p m kind i rules given n)) order
    made_is n le = all_made 0 given order n (omega (arith, le)) o these.found (at_start order these)

-- ---- rules in another order
abbrev one_item : HierRule → HierRule → Bool
one_item q r = same_name (left_item q) (left_item r)

-- each rule is the one that is found for its left item, where no two define one item
own_found : (rules : List HierRule) → all_apart one_item rules ≡ true → AllByRecursion (λ r. find (defines (left_item r)) rules ≡ Some r) rules
own_found [] e = tt
own_found (r ∷ rs) e =
    let parts = apart_parts one_item r rs e in (
      ap (λ b. cond b (Some r) (find (defines (left_item r)) rs)) (same_itself (left_item r)),
      all_both (λ t. one_item r t ≡ false) (λ t. find (defines (left_item t)) rs ≡ Some t) (λ t. find (defines (left_item t)) (r ∷ rs) ≡ Some t) (λ t f g. ap (λ b. cond b (Some r) (find (defines (left_item t)) rs)) f ∙ g) rs parts.0 (own_found rs parts.1),
    )

none_found : (rules : List HierRule) (item : List ℕ) → IsFree rules item → find (defines item) rules ≡ None
none_found [] item free = refl
none_found (r ∷ rs) item free = ap (λ b. cond b (Some r) (find (defines item) rs)) free.0 ∙ none_found rs item free.1

pub these_are : (rules order : List HierRule) → Perm order rules → all_apart one_item rules ≡ true → AreThese rules order
these_are rules order same apart = record {
  found = AllByRecursion-Perm (λ r. find (defines (left_item r)) rules ≡ Some r) (Perm-sym same) (own_found rules apart);
  only = λ item free. none_found rules item (AllByRecursion-Perm (λ q. defines item q ≡ false) same free);
}

module _ (p : Settings) (m : Mode) (kind : Kind) (i : HierInput) (given : Items) (rules order : List HierRule) (o : AreOrdered order) (same : Perm order rules) (apart : all_apart one_item rules ≡ true) where
  pub items_in_order : (item : List ℕ) (n : ℕ) → length rules ≤ n → items_within p m kind i rules given n item ≡ ran p m kind i given order item
  items_in_order item n le = let size = length-Perm same in run_is p m kind i given rules order o (these_are rules order same apart) item n (omega (arith, le, size))

  pub made_in_order : made_in_run p m kind i given given order ≡ map (computed p m kind (items_within p m kind i rules given (length rules))) order
  made_in_order = let size = length-Perm same in made_is p m kind i given rules order o (these_are rules order same apart) (length rules) (omega (arith, size))

  -- a greater depth than there are rules changes nothing
  pub depths_suffice : (item : List ℕ) (n : ℕ) → length rules ≤ n → items_within p m kind i rules given n item ≡ items_within p m kind i rules given (length rules) item
  depths_suffice item n le = items_in_order item n le ∙ sym (items_in_order item (length rules) (omega arith))
