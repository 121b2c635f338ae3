-- No rule of lists and of tests, both ways, and whether the rule of null columns is broken or not.
use Rattle.std.proofs.Common.{◌≡◌, ◌≤◌, ◌∙◌, ℕ, Bool, true, false, cond, not, ◌&&◌, ◌||◌, List, [], ◌∷◌, ◌++◌, None, nat_lt, refl, ap, sym, arith}
use Rattle.std.specs.List.{AllByRecursion, flat_map, list_all, list_any}
use Rattle.std.proofs.lemmas.Bool.Decides.{nat_tests}
use Rattle.std.proofs.lemmas.List.Elements.{filter-append}
use Rattle.sql_check_parts.specs.Rules.{Tests, broken, least}
use Rattle.sql_check_parts.specs.declared.rules.SqlRule.{SqlRule}
use Rattle.sql_check_parts.proofs.Unbroken.{least_none_of, none_before, none_behind, none_both, none_least, unbroken_both}
use Rattle.sql_check_laws.specs.Both.{Iff, besides_null, is_of_null}

pub same : {A : Type 0} → Iff A A
same = record { to = λ a. a; from = λ a. a }

pub behind : {A B C : Type 0} → Iff A B → Iff B C → Iff A C
behind f g = record { to = λ a. g.to (f.to a); from = λ c. f.from (g.from c) }

pub always : {A : Type 0} → A → Iff A (Unit {0})
always a = record { to = λ h. tt; from = λ h. a }

-- ---- lists of rules

-- Where a list has no rule besides that of null columns, A holds; where A holds, it has no rule at all. So a list of rules other
-- than that one is empty exactly where A holds.
pub record Reads (rules : List SqlRule) (A : Type 0) : Type 0 where
  pub to : besides_null rules ≡ [] → A
  pub from : A → rules ≡ []

pub exactly : {rules : List SqlRule} {A : Type 0} → Reads rules A → Iff (rules ≡ []) A
exactly {rules = rules} a = record { to = λ h. a.to (ap besides_null h); from = a.from }

pub no_rule : Reads [] (Unit {0})
no_rule = record { to = λ h. tt; from = λ h. refl }

pub besides_before : (xs ys : List SqlRule) → besides_null (xs ++ ys) ≡ [] → besides_null xs ≡ []
besides_before xs ys h = none_before (besides_null xs) (besides_null ys) (sym (filter-append (λ r. not (is_of_null r)) xs ys) ∙ h)

pub besides_behind : (xs ys : List SqlRule) → besides_null (xs ++ ys) ≡ [] → besides_null ys ≡ []
besides_behind xs ys h = none_behind (besides_null xs) (besides_null ys) (sym (filter-append (λ r. not (is_of_null r)) xs ys) ∙ h)

pub two : {xs ys : List SqlRule} {A B : Type 0} → Reads xs A → Reads ys B → Reads (xs ++ ys) (A × B)
two {xs = xs} {ys = ys} a b = record {
  to = λ h. (a.to (besides_before xs ys h), b.to (besides_behind xs ys h));
  from = λ h. none_both xs ys (a.from h.0) (b.from h.1);
}

pub two_exactly : {xs ys : List SqlRule} {A B : Type 0} → Iff (xs ≡ []) A → Iff (ys ≡ []) B → Iff (xs ++ ys ≡ []) (A × B)
two_exactly {xs = xs} {ys = ys} a b = record {
  to = λ h. (a.to (none_before xs ys h), b.to (none_behind xs ys h));
  from = λ h. none_both xs ys (a.from h.0) (b.from h.1);
}

-- one, and two that are tested together
pub one_and_two : {xs ys : List SqlRule} {A B C : Type 0} → Reads xs A → Reads ys (B × C) → Reads (xs ++ ys) (A × B × C)
one_and_two {xs = xs} {ys = ys} a b = record {
  to = λ h. let rest = b.to (besides_behind xs ys h) in (a.to (besides_before xs ys h), rest.0, rest.1);
  from = λ h. none_both xs ys (a.from h.0) (b.from (h.1, h.2));
}

pub three : {xs ys zs : List SqlRule} {A B C : Type 0} → Reads xs A → Reads ys B → Reads zs C → Reads (xs ++ ys ++ zs) (A × B × C)
three {xs = xs} {ys = ys} {zs = zs} a b c = record {
  to = λ h. let first = besides_before (xs ++ ys) zs h in (a.to (besides_before xs ys first), b.to (besides_behind xs ys first), c.to (besides_behind (xs ++ ys) zs h));
  from = λ h. none_both (xs ++ ys) zs (none_both xs ys (a.from h.0) (b.from h.1)) (c.from h.2);
}

pub four : {ws xs ys zs : List SqlRule} {A B C D : Type 0} → Reads ws A → Reads xs B → Reads ys C → Reads zs D → Reads (ws ++ xs ++ ys ++ zs) (A × B × C × D)
four {ws = ws} {xs = xs} {ys = ys} {zs = zs} a b c d =
    let first = three a b c in
    record {
      to = λ h. let x = first.to (besides_before (ws ++ xs ++ ys) zs h) in (x.0, x.1, x.2, d.to (besides_behind (ws ++ xs ++ ys) zs h));
      from = λ h. none_both (ws ++ xs ++ ys) zs (first.from (h.0, h.1, h.2)) (d.from h.3);
    }

pub each : {X : Type 0} {P : X → Type 0} (f : X → List SqlRule) → ((x : X) → Reads (f x) (P x)) → (xs : List X) → Reads (flat_map f xs) (AllByRecursion P xs)
each f h [] = record { to = λ e. tt; from = λ e. refl }
each f h (x ∷ xs) = two (h x) (each f h xs)

pub no_least : (rules : List SqlRule) → Iff (least rules ≡ None) (rules ≡ [])
no_least rules = record { to = none_least rules; from = least_none_of rules }

-- ---- tests

-- a test of another rule that is not broken
pub besides_first : (r : SqlRule) (b : Bool) (tests : Tests) → is_of_null r ≡ false → besides_null (broken ((r, b) ∷ tests)) ≡ [] → (b ≡ false) × (besides_null (broken tests) ≡ [])
besides_first r false tests n h = (refl, h)
besides_first r true tests n h = absurd (some (sym (ap (λ c. cond (not c) (r ∷ besides_null (broken tests)) (besides_null (broken tests))) n) ∙ h))
  where
    some : (r ∷ besides_null (broken tests)) ≡ [] → ⊥
    some e = cc

pub test : {b : Bool} {A : Type 0} (r : SqlRule) → is_of_null r ≡ false → Iff (b ≡ false) A → Reads (broken ((r, b) ∷ [])) A
test {b = b} r n a = record {
  to = λ h. a.to (besides_first r b [] n h).0;
  from = λ h. unbroken_both r b [] (a.from h) refl;
}

pub two_tests : {b c : Bool} {A B : Type 0} (r s : SqlRule) → is_of_null r ≡ false → is_of_null s ≡ false → Iff (b ≡ false) A → Iff (c ≡ false) B → Reads (broken ((r, b) ∷ (s, c) ∷ [])) (A × B)
two_tests {b = b} {c = c} r s m n a x = record {
  to = λ h. let first = besides_first r b ((s, c) ∷ []) m h in (a.to first.0, (test s n x).to first.1);
  from = λ h. unbroken_both r b ((s, c) ∷ []) (a.from h.0) ((test s n x).from h.1);
}

pub three_tests : {b c d : Bool} {A B C : Type 0} (r s t : SqlRule) → is_of_null r ≡ false → is_of_null s ≡ false → is_of_null t ≡ false → Iff (b ≡ false) A → Iff (c ≡ false) B → Iff (d ≡ false) C → Reads (broken ((r, b) ∷ (s, c) ∷ (t, d) ∷ [])) (A × B × C)
three_tests {b = b} {c = c} {d = d} r s t l m n a x y = record {
  to = λ h. let first = besides_first r b ((s, c) ∷ (t, d) ∷ []) l h in let rest = (two_tests s t m n x y).to first.1 in (a.to first.0, rest.0, rest.1);
  from = λ h. unbroken_both r b ((s, c) ∷ (t, d) ∷ []) (a.from h.0) ((two_tests s t m n x y).from (h.1, h.2));
}

-- ---- booleans

pub sure : (b : Bool) → Iff (not b ≡ false) (b ≡ true)
sure true = record { to = λ h. refl; from = λ h. refl }
sure false = record { to = λ h. cc; from = λ h. cc }

pub unsure : (b : Bool) → Iff (not b ≡ true) (b ≡ false)
unsure true = record { to = λ h. cc; from = λ h. cc }
unsure false = record { to = λ h. refl; from = λ h. refl }

pub neither : {a b : Bool} {A B : Type 0} → Iff (a ≡ false) A → Iff (b ≡ false) B → Iff ((a || b) ≡ false) (A × B)
neither {a = a} {b = b} f g = record { to = λ h. let x = apart a b h in (f.to x.0, g.to x.1); from = λ h. joined a b (f.from h.0) (g.from h.1) }
  where
    apart : (a b : Bool) → (a || b) ≡ false → (a ≡ false) × (b ≡ false)
    apart true b h = cc
    apart false b h = (refl, h)

    joined : (a b : Bool) → a ≡ false → b ≡ false → (a || b) ≡ false
    joined a b h i = ap (λ x. x || b) h ∙ i

pub both_true : {a b : Bool} {A B : Type 0} → Iff (a ≡ true) A → Iff (b ≡ true) B → Iff ((a && b) ≡ true) (A × B)
both_true {a = a} {b = b} f g = record { to = λ h. let x = apart a b h in (f.to x.0, g.to x.1); from = λ h. joined a b (f.from h.0) (g.from h.1) }
  where
    apart : (a b : Bool) → (a && b) ≡ true → (a ≡ true) × (b ≡ true)
    apart true b h = (refl, h)
    apart false b h = cc

    joined : (a b : Bool) → a ≡ true → b ≡ true → (a && b) ≡ true
    joined a b h i = ap (λ x. x && b) h ∙ i

pub none_any : {X : Type 0} {P : X → Type 0} (f : X → Bool) → ((x : X) → Iff (f x ≡ false) (P x)) → (xs : List X) → Iff (list_any f xs ≡ false) (AllByRecursion P xs)
none_any f h [] = always refl
none_any f h (x ∷ xs) = neither (h x) (none_any f h xs)

pub all_true : {X : Type 0} (f : X → Bool) (xs : List X) → Iff (list_all f xs ≡ true) (AllByRecursion (λ x. f x ≡ true) xs)
all_true f [] = always refl
all_true f (x ∷ xs) = both_true same (all_true f xs)

pub at_most : (m n : ℕ) → Iff (nat_lt m n ≡ false) (n ≤ m)
at_most m n = record { to = λ h. grind (arith, nat_tests); from = λ h. grind (arith, nat_tests) }
