-- The least of rules that are broken.
use Rattle.std.proofs.Common.{ℕ, ◌+◌, ◌<◌, ◌≡◌, ◌∙◌, length, take, get_or, Bool, true, false, List, [], ◌∷◌, ◌++◌, Some, None, if◌then◌else◌, refl, ap, sym, arith}
use Rattle.std.specs.Prelude.{Option, nat_le}
use Rattle.std.specs.List.{flat_map}
use Rattle.std.proofs.lemmas.Bool.{false≢true}
use Rattle.std.proofs.lemmas.Bool.Decides.{nat_tests}
use Rattle.std.proofs.lemmas.List.{take_more}
use Rattle.sql_check_parts.specs.Rules.{Tests, broken, least, lesser, lesser_rule, number_of}
use Rattle.sql_check_parts.specs.declared.rules.SqlRule.{SqlRule}

-- of three rules in two ways
chosen : {A : Type 0} (x y z : ℕ) (a b c : A) → (if nat_le x y then (if nat_le x z then a else c) else (if nat_le y z then b else c)) ≡ (if nat_le y z then (if nat_le x y then a else b) else (if nat_le x z then a else c))
chosen x y z a b c = go (nat_le x y) (nat_le y z) (nat_le x z) both neither
  where
    both : nat_le x y ≡ true → nat_le y z ≡ true → nat_le x z ≡ true
    both e f = grind (arith, nat_tests)

    neither : nat_le x y ≡ false → nat_le y z ≡ false → nat_le x z ≡ false
    neither e f = grind (arith, nat_tests)

    go : (p q r : Bool) → (p ≡ true → q ≡ true → r ≡ true) → (p ≡ false → q ≡ false → r ≡ false) → (if p then (if r then a else c) else (if q then b else c)) ≡ (if q then (if p then a else b) else (if r then a else c))
    go true true true u v = refl
    go true true false u v = absurd (false≢true (u refl refl))
    go true false r u v = refl
    go false true r u v = refl
    go false false true u v = absurd (false≢true (sym (v refl refl)))
    go false false false u v = refl

left_first : (p : Bool) (a b c : SqlRule) → lesser_rule (if p then a else b) c ≡ (if p then lesser_rule a c else lesser_rule b c)
left_first true a b c = refl
left_first false a b c = refl

right_first : (p : Bool) (a b c : SqlRule) → lesser_rule a (if p then b else c) ≡ (if p then lesser_rule a b else lesser_rule a c)
right_first true a b c = refl
right_first false a b c = refl

pub lesser_apart : (a b c : Option SqlRule) → lesser (lesser a b) c ≡ lesser a (lesser b c)
lesser_apart None b c = refl
lesser_apart (Some a) None c = refl
lesser_apart (Some a) (Some b) None = refl
lesser_apart (Some a) (Some b) (Some c) =
    let x = number_of a in
    let y = number_of b in
    let z = number_of c in
    ap Some (left_first (nat_le x y) a b c ∙ chosen x y z a b c ∙ sym (right_first (nat_le y z) a b c))

-- the least of two lists is the lesser of theirs
pub least_append : (xs ys : List SqlRule) → least (xs ++ ys) ≡ lesser (least xs) (least ys)
unfolding least
least_append [] ys = refl
least_append (x ∷ xs) ys = ap (lesser (Some x)) (least_append xs ys) ∙ sym (lesser_apart (Some x) (least xs) (least ys))

pub least_none : (a : Option SqlRule) → lesser a (least []) ≡ a
unfolding least
least_none None = refl
least_none (Some a) = refl

pub least_nil : None ≡ least []
unfolding least
least_nil = refl

broken_append : (xs ys : Tests) → broken (xs ++ ys) ≡ broken xs ++ broken ys
broken_append [] ys = refl
broken_append (x ∷ xs) ys = go x.1 (broken_append xs ys)
  where
    go : (b : Bool) → broken (xs ++ ys) ≡ broken xs ++ broken ys → (if b then x.0 ∷ broken (xs ++ ys) else broken (xs ++ ys)) ≡ (if b then x.0 ∷ broken xs else broken xs) ++ broken ys
    go true ih = ap (λ rest. x.0 ∷ rest) ih
    go false ih = ih

-- one more test
pub tests_taken : (tests : Tests) (i : ℕ) (x : SqlRule × Bool) (a : Option SqlRule) → i < length tests → x ≡ get_or tests i x → a ≡ least (broken (take i tests)) → lesser a (least (broken (x ∷ []))) ≡ least (broken (take (i + 1) tests))
tests_taken tests i x a h e s =
    ap (λ b. lesser b (least (broken (x ∷ [])))) s
    ∙ sym (ap (λ ys. least (broken ys)) (take_more tests i x h ∙ ap (λ y. take i tests ++ y ∷ []) (sym e)) ∙ ap least (broken_append (take i tests) (x ∷ [])) ∙ least_append (broken (take i tests)) (broken (x ∷ [])))

-- the rules of the parts of two lists
pub least_parts : {X : Type 0} (f : X → List SqlRule) (xs ys : List X) → least (flat_map f (xs ++ ys)) ≡ lesser (least (flat_map f xs)) (least (flat_map f ys))
least_parts f xs ys = ap least (flat_map_append f xs ys) ∙ least_append (flat_map f xs) (flat_map f ys)
  where
    apart : (xs ys zs : List SqlRule) → xs ++ ys ++ zs ≡ xs ++ (ys ++ zs)
    apart [] ys zs = refl
    apart (x ∷ xs) ys zs = ap (λ rest. x ∷ rest) (apart xs ys zs)

    flat_map_append : {X : Type 0} (f : X → List SqlRule) (xs ys : List X) → flat_map f (xs ++ ys) ≡ flat_map f xs ++ flat_map f ys
    flat_map_append f [] ys = refl
    flat_map_append f (x ∷ xs) ys = ap (λ rest. f x ++ rest) (flat_map_append f xs ys) ∙ sym (apart (f x) (flat_map f xs) (flat_map f ys))

pub least_one : (rules : List SqlRule) → least (rules ++ []) ≡ least rules
least_one rules = least_append rules [] ∙ least_none (least rules)

-- the rules of one more part
pub part_taken : {X : Type 0} (f : X → List SqlRule) (xs : List X) (i : ℕ) (x : X) (a : Option SqlRule) → i < length xs → x ≡ get_or xs i x → a ≡ least (flat_map f (take i xs)) → lesser a (least (f x)) ≡ least (flat_map f (take (i + 1) xs))
part_taken f xs i x a h e s =
    ap (λ b. lesser b (least (f x))) s
    ∙ ap (lesser (least (flat_map f (take i xs)))) (sym (least_one (f x)))
    ∙ sym (ap (λ ys. least (flat_map f ys)) (take_more xs i x h ∙ ap (λ y. take i xs ++ y ∷ []) (sym e)) ∙ least_parts f (take i xs) (x ∷ []))
