-- An order has each `=` rule once, behind those that compute its right items: each step takes one of the rules that are left, and it awaits none.
use Rattle.std.proofs.Common.{◌≡◌, ℕ, zero, suc, ◌+◌, ◌<◌, Bool, true, false, not, ◌&&◌, ◌||◌, cond, List, [], ◌∷◌, ◌++◌, map, length, Option, Some, None, refl, sym, ap, subst, ◌∙◌, arith, append_assoc, append-nil}
use Rattle.std.specs.Prelude.{slice_get, nat_eq, filter}
use Rattle.std.specs.List.{AllByRecursion, cons_option, enumerate_from, list_all, list_any}
use Rattle.std.proofs.lemmas.Bool.{and_parts, eq-eqb, ne_eqb}
use Rattle.vtl_lists.specs.Options.{given}
use Rattle.vtl_lists.specs.Perm.{Perm, empty, keep, cross, chain}
use Rattle.vtl_lists.proofs.Perms.{AllByRecursion-Perm, Perm-map, Perm-same, Perm-sym}
use Rattle.vtl_lists.proofs.Filters.{nothing_left}
use Rattle.vtl_syntax.specs.declared.statements.HierRule.{HierRule}
use Rattle.vtl_tree.specs.RuleItems.{definitions, is_equation, right_items}
use Rattle.check_rules.specs.InOrder.{AreOrdered, IsFree, IsOrder, rules_at}
use Rattle.check_rules.specs.Order.{Placed, is_awaited, is_left, is_ready, left_behind, next_behind, order_behind, order_of}
use Rattle.check_rules.specs.RuleItems.{defines}
use Rattle.check_rules.proofs.Circles.{found_is, kept_at, one_less_left}
use Rattle.check_rules.proofs.Counts.{place_is}
use Rattle.check_rules.proofs.Runs.{still_left}

-- ---- lists
module _ {X : Type 0} (kept : ℕ × X → Bool) (place : ℕ) where
  abbrev others : ℕ × X → Bool
  others x = cond (nat_eq x.0 place) false (kept x)

  beyond : (n : ℕ) (xs : List X) → place < n → filter others (enumerate_from n xs) ≡ filter kept (enumerate_from n xs)
  beyond n [] l = refl
  beyond n (x ∷ xs) l =
      ap (λ b. cond (cond b false (kept (n, x))) ((n, x) ∷ filter others (enumerate_from (n + 1) xs)) (filter others (enumerate_from (n + 1) xs))) (ne_eqb n place (λ e. omega (arith, e)))
      ∙ ap (λ ys. cond (kept (n, x)) ((n, x) ∷ ys) ys) (beyond (n + 1) xs (omega arith))

  -- those that are kept are the one at a place and the others
  pub taken_out : (n i : ℕ) (xs : List X) (x : X) → place ≡ n + i → slice_get xs i ≡ Some x → kept (place, x) ≡ true
      → Perm ((place, x) ∷ filter others (enumerate_from n xs)) (filter kept (enumerate_from n xs))
  taken_out n i [] x e s k = cc
  taken_out n zero (y ∷ ys) x e s k =
      let same : y ≡ x = cc in
      let here : n ≡ place = omega arith in
      let pair : ◌≡◌ {A = ℕ × X} (n, y) (place, x) = ap (λ m. (m, y)) here ∙ ap (λ z. (place, z)) same in
      let gone : filter others (enumerate_from n (y ∷ ys)) ≡ filter kept (enumerate_from (n + 1) ys) =
      ap (λ b. cond (cond b false (kept (n, y))) ((n, y) ∷ filter others (enumerate_from (n + 1) ys)) (filter others (enumerate_from (n + 1) ys))) (eq-eqb n place here)
      ∙ beyond (n + 1) ys (omega arith) in
      Perm-same ((place, x) ∷ filter others (enumerate_from n (y ∷ ys))) (filter kept (enumerate_from n (y ∷ ys)))
      (ap (λ zs. (place, x) ∷ zs) gone ∙ ap (λ p. p ∷ filter kept (enumerate_from (n + 1) ys)) (sym pair)
      ∙ sym (ap (λ b. cond b ((n, y) ∷ filter kept (enumerate_from (n + 1) ys)) (filter kept (enumerate_from (n + 1) ys))) (ap kept pair ∙ k)))
  taken_out n (suc i) (y ∷ ys) x e s k =
      subst (λ c. Perm ((place, x) ∷ cond (cond c false (kept (n, y))) ((n, y) ∷ theirs) theirs) (cond (kept (n, y)) ((n, y) ∷ ours) ours))
      (sym (ne_eqb n place (λ q. omega (arith, q, e)))) (go (kept (n, y)) (taken_out (n + 1) i ys x (omega arith) s k))
    where
      theirs : List (ℕ × X)
      theirs = filter others (enumerate_from (n + 1) ys)

      ours : List (ℕ × X)
      ours = filter kept (enumerate_from (n + 1) ys)

      go : (b : Bool) → Perm ((place, x) ∷ theirs) ours → Perm ((place, x) ∷ cond b ((n, y) ∷ theirs) theirs) (cond b ((n, y) ∷ ours) ours)
      go true p = chain (cross (place, x) (n, y) theirs) (keep (n, y) p)
      go false p = p

-- ---- rules
-- at the start all `=` rules are left
all_left : (n : ℕ) (rules : List HierRule) → map (λ (x : Placed). x.1) (filter (is_left []) (enumerate_from n rules)) ≡ definitions rules
all_left n [] = refl
all_left n (r ∷ rs) = go (is_equation r) (all_left (n + 1) rs)
  where
    go : (b : Bool) → map (λ (x : Placed). x.1) (filter (is_left []) (enumerate_from (n + 1) rs)) ≡ definitions rs
        → map (λ (x : Placed). x.1) (cond b ((n, r) ∷ filter (is_left []) (enumerate_from (n + 1) rs)) (filter (is_left []) (enumerate_from (n + 1) rs))) ≡ cond b (r ∷ definitions rs) (definitions rs)
    go true h = ap (λ qs. r ∷ qs) h
    go false h = h

free_of : (item : List ℕ) (xs : List Placed) → not (is_awaited xs item) ≡ true → IsFree (map (λ x. x.1) xs) item
free_of item [] e = tt
free_of item (x ∷ xs) e = go (defines item x.1) refl e (free_of item xs)
  where
    go : (b : Bool) → defines item x.1 ≡ b → not (b || is_awaited xs item) ≡ true → (not (is_awaited xs item) ≡ true → IsFree (map (λ x. x.1) xs) item) → IsFree (map (λ x. x.1) (x ∷ xs)) item
    go true d e ih = cc
    go false d e ih = (d, ih e)

all_free : (items : List (List ℕ)) (xs : List Placed) (rs : List HierRule) → Perm rs (map (λ x. x.1) xs) → list_all (λ item. not (is_awaited xs item)) items ≡ true → AllByRecursion (IsFree rs) items
all_free [] xs rs p e = tt
all_free (item ∷ items) xs rs p e =
    let parts = and_parts (not (is_awaited xs item)) (list_all (λ other. not (is_awaited xs other)) items) e in (
      AllByRecursion-Perm (λ r. defines item r ≡ false) (Perm-sym p) (free_of item xs parts.0),
      all_free items xs rs p parts.1,
    )

module _ (rules : List HierRule) where
  abbrev left : (done : List ℕ) → List HierRule
  left done = map (λ x. x.1) (left_behind rules done)

  -- the next rule and what is left behind it are what was left
  record IsNext (done : List ℕ) (x : Placed) : Type 0 where
    there : slice_get rules x.0 ≡ Some x.1
    ready : is_ready (left_behind rules done) x ≡ true
    rest : Perm (x.1 ∷ left (done ++ x.0 ∷ [])) (left done)

  next_is : (done : List ℕ) (x : Placed) → next_behind rules done ≡ Some x → IsNext done x
  next_is done x e =
      let f = found_is (is_ready (left_behind rules done)) (left_behind rules done) x e in
      let g = kept_at (is_left done) (enumerate_from 0 rules) f.0 x f.1 in
      let at = place_is 0 rules g.0 x g.1 in
      let here : g.0 ≡ x.0 = omega (arith, at.0) in
      let there : slice_get rules x.0 ≡ Some x.1 = ap (slice_get rules) (sym here) ∙ at.1 in
      let start : x.0 ≡ 0 + x.0 = omega arith in
      let same : (λ (y : Placed). cond (nat_eq y.0 x.0) false (is_left done y)) ≡ (λ (y : Placed). is_left (done ++ x.0 ∷ []) y) = λ k y. sym (still_left rules done x.0 y) k in
      let out = taken_out (is_left done) x.0 0 x.0 rules x.1 start there g.2 in
      record {
        there = there;
        ready = f.2;
        rest = Perm-map (λ (y : Placed). y.1) (subst (λ (q : Placed → Bool). Perm (x ∷ filter q (enumerate_from 0 rules)) (left_behind rules done)) same out);
      }

  -- so many more rules are all that are left, each behind those that compute its right items
  record IsRest (done order : List ℕ) : Type 0 where
    more : List ℕ
    behind : order ≡ done ++ more
    all : Perm (rules_at rules more) (left done)
    ordered : AreOrdered (rules_at rules more)

  rest_behind : (n : ℕ) (done order : List ℕ) → length (left_behind rules done) ≡ n → order_behind n rules done ≡ Some order → IsRest done order
  rest_behind zero done order many e =
      let same : done ≡ order = cc in
      record {
        more = [];
        behind = sym same ∙ sym (append-nil done);
        all = Perm-same [] (left done) (sym (ap (map (λ (x : Placed). x.1)) (nothing_left (left_behind rules done) many)));
        ordered = tt;
      }
  rest_behind (suc n) done order many e = go (next_behind rules done) refl e (λ d m h. rest_behind n d order m h)
    where
      with_next : (x : Placed) → IsNext done x → IsRest (done ++ x.0 ∷ []) order → IsRest done order
      with_next x next r =
          let one : rules_at rules (x.0 ∷ r.more) ≡ x.1 ∷ rules_at rules r.more = ap (λ o. cons_option o (rules_at rules r.more)) next.there in
          let all : Perm (x.1 ∷ rules_at rules r.more) (left done) = chain (keep x.1 r.all) next.rest in
          record {
            more = x.0 ∷ r.more;
            behind = r.behind ∙ append_assoc done (x.0 ∷ []) r.more;
            all = subst (λ rs. Perm rs (left done)) (sym one) all;
            ordered = subst AreOrdered (sym one) (all_free (right_items x.1) (left_behind rules done) (x.1 ∷ rules_at rules r.more) all next.ready, r.ordered);
          }

      go : (o : Option Placed) → next_behind rules done ≡ o → given o (λ x. order_behind n rules (done ++ x.0 ∷ [])) None ≡ Some order
          → ((d : List ℕ) → length (left_behind rules d) ≡ n → order_behind n rules d ≡ Some order → IsRest d order) → IsRest done order
      go None is e ih = cc
      go (Some x) is e ih = let less = one_less_left rules done x is in with_next x (next_is done x is) (ih (done ++ x.0 ∷ []) (omega (arith, less, many)) e)

  pub order_is : (order : List ℕ) → order_of rules ≡ Some order → IsOrder rules order
  order_is order e =
      let r = rest_behind (length (left_behind rules [])) [] order refl e in
      record {
        all = subst (λ places. Perm (rules_at rules places) (definitions rules)) (sym r.behind) (subst (Perm (rules_at rules r.more)) (all_left 0 rules) r.all);
        ordered = subst (λ places. AreOrdered (rules_at rules places)) (sym r.behind) r.ordered;
      }
