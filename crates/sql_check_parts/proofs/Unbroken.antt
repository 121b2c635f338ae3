-- What follows where no rule is broken: no part breaks one, and no test is broken.
use Rattle.std.proofs.Common.{◌≡◌, Bool, true, false, List, [], ◌∷◌, ◌++◌, Some, None, refl, ap, ◌∙◌}
use Rattle.std.specs.Prelude.{Option}
use Rattle.sql_check_parts.specs.Rules.{Tests, broken, least, lesser}
use Rattle.sql_check_parts.specs.declared.rules.SqlRule.{SqlRule}

-- there is no least rule exactly where there is no rule
pub none_least : (rules : List SqlRule) → least rules ≡ None → rules ≡ []
unfolding least
none_least [] h = refl
none_least (r ∷ rules) h = absurd (some (least rules) h)
  where
    some : (o : Option SqlRule) → lesser (Some r) o ≡ None → ⊥
    some None e = cc
    some (Some b) e = cc

pub least_none_of : (rules : List SqlRule) → rules ≡ [] → least rules ≡ None
unfolding least
least_none_of rules h = ap least h

-- no rule in two lists
pub none_before : (xs ys : List SqlRule) → xs ++ ys ≡ [] → xs ≡ []
none_before [] ys h = refl
none_before (x ∷ xs) ys h = cc

pub none_behind : (xs ys : List SqlRule) → xs ++ ys ≡ [] → ys ≡ []
none_behind [] ys h = h
none_behind (x ∷ xs) ys h = cc

pub none_both : (xs ys : List SqlRule) → xs ≡ [] → ys ≡ [] → xs ++ ys ≡ []
none_both xs ys h i = ap (λ l. l ++ ys) h ∙ i

-- no test is broken
pub unbroken : (r : SqlRule) (b : Bool) (tests : Tests) → broken ((r, b) ∷ tests) ≡ [] → (b ≡ false) × (broken tests ≡ [])
unbroken r true tests h = cc
unbroken r false tests h = (refl, h)

pub unbroken_both : (r : SqlRule) (b : Bool) (tests : Tests) → b ≡ false → broken tests ≡ [] → broken ((r, b) ∷ tests) ≡ []
unbroken_both r true tests e h = cc
unbroken_both r false tests e h = h

-- the same of the least
pub holds_first : (r : SqlRule) (b : Bool) (tests : Tests) → least (broken ((r, b) ∷ tests)) ≡ None → (b ≡ false) × (least (broken tests) ≡ None)
holds_first r b tests h =
    let whole = unbroken r b tests (none_least (broken ((r, b) ∷ tests)) h) in
    (whole.0, least_none_of (broken tests) whole.1)

pub none_lesser : (a b : Option SqlRule) → lesser a b ≡ None → (a ≡ None) × (b ≡ None)
none_lesser None b h = (refl, h)
none_lesser (Some a) None h = cc
none_lesser (Some a) (Some b) h = cc
