-- Which kinds stand for which, and the kind that operands share.
use Rattle.std.proofs.Common.{◌≡◌, Bool, true, false, List, [], ◌∷◌, Option, Some, None, ◌⊎◌, inl, inr, refl, subst}
use Rattle.std.specs.Prelude.{if◌then◌else◌}
use Rattle.std.specs.Option.{option_map}
use Rattle.std.proofs.lemmas.Bool.{and_from, and_parts}
use Rattle.vtl_cell.specs.ScalarKinds.{meets, meet, to, only, first_met, shared_kind, common_kind, truth_of_alike, is_set_of, truth_of_set}
use Rattle.vtl_cell.specs.declared.kind.Kind.{Kind}
use Rattle.vtl_cell.specs.declared.kind.Kind.TheVariants as k

meets_through : (w g v : Kind) → meets w g ≡ true → meets g v ≡ true → meets w v ≡ true
meets_through w g k.Null h i = refl
meets_through k.Num k.Num k.Int h i = refl
meets_through w k.Num k.Int h i = cc
meets_through w k.Bool k.Bool h i = h
meets_through w k.Int k.Int h i = h
meets_through w k.Num k.Num h i = h
meets_through w k.Text k.Text h i = h
meets_through w k.Day k.Day h i = h
meets_through w k.Period k.Period h i = h
meets_through w g v h i = cc

pub meet_through : (ws gs vs : List Kind) → meet ws gs ≡ true → meet gs vs ≡ true → meet ws vs ≡ true
meet_through [] [] vs h i = i
meet_through [] (g ∷ gs) vs h i = cc
meet_through (w ∷ ws) [] vs h i = cc
meet_through (w ∷ ws) (g ∷ gs) [] h i = cc
meet_through (w ∷ ws) (g ∷ gs) (v ∷ vs) h i =
    let h' = and_parts (meets w g) (meet ws gs) h in
    let i' = and_parts (meets g v) (meet gs vs) i in
    and_from (meets w v) (meet ws vs) (meets_through w g v h'.0 i'.0) (meet_through ws gs vs h'.1 i'.1)

-- ---- the shared kind is one that and_parts may have

abbrev covers : Option Kind → Kind → Bool
covers None v = true
covers (Some kind) v = meets kind v

covers_left : (a b : Kind) → covers (shared_kind a b) a ≡ true
covers_left k.Null b = refl
covers_left k.Bool k.Bool = refl
covers_left k.Int k.Int = refl
covers_left k.Num k.Num = refl
covers_left k.Text k.Text = refl
covers_left k.Day k.Day = refl
covers_left k.Period k.Period = refl
covers_left a b = refl

covers_right : (a b : Kind) → covers (shared_kind a b) b ≡ true
covers_right k.Null k.Null = refl
covers_right k.Bool k.Bool = refl
covers_right k.Int k.Int = refl
covers_right k.Num k.Num = refl
covers_right k.Text k.Text = refl
covers_right k.Day k.Day = refl
covers_right k.Period k.Period = refl
covers_right a b = refl

pub shared_with_null : (a : Kind) → shared_kind a k.Null ≡ Some a
shared_with_null k.Null = refl
shared_with_null k.Bool = refl
shared_with_null k.Int = refl
shared_with_null k.Num = refl
shared_with_null k.Text = refl
shared_with_null k.Day = refl
shared_with_null k.Period = refl

common_of_two : (a b kind : Kind) → common_kind (a ∷ b ∷ []) ≡ Some kind → shared_kind a b ≡ Some kind
common_of_two a b kind h = rw (shared_with_null b) at h

pub common_left : (a b v kind : Kind) → common_kind (a ∷ b ∷ []) ≡ Some kind → meets a v ≡ true → meets kind v ≡ true
common_left a b v kind h m =
    let P : Option Kind → Type 0 = λ o. covers o a ≡ true in
    meets_through kind a v (subst P (common_of_two a b kind h) (covers_left a b)) m

pub common_right : (a b v kind : Kind) → common_kind (a ∷ b ∷ []) ≡ Some kind → meets b v ≡ true → meets kind v ≡ true
common_right a b v kind h m =
    let P : Option Kind → Type 0 = λ o. covers o b ≡ true in
    meets_through kind b v (subst P (common_of_two a b kind h) (covers_right a b)) m

-- ---- what a row gives

first_or : (b d : Bool) (g j kind : Kind) → (if b then Some g else if d then Some j else None) ≡ Some kind → ((b ≡ true) × (g ≡ kind)) ⊎ (j ≡ kind)
first_or true d g j kind h = inl (refl, cc)
first_or false true g j kind h = inr cc
first_or false false g j kind h = cc

pub two_give : (ws vs kinds : List Kind) (g j kind : Kind) → first_met (to ws g ∷ to vs j ∷ []) kinds ≡ Some kind → ((meet ws kinds ≡ true) × (g ≡ kind)) ⊎ (j ≡ kind)
two_give ws vs kinds g j kind h = first_or (meet ws kinds) (meet vs kinds) g j kind h

given : (b : Bool) (g kind : Kind) → (if b then Some g else None) ≡ Some kind → g ≡ kind
given true g kind e = cc
given false g kind e = cc

pub only_gives : (ws kinds : List Kind) (g kind : Kind) → first_met (only ws g) kinds ≡ Some kind → g ≡ kind
only_gives ws kinds g kind h = given (meet ws kinds) g kind h

pub set_gives : (a : Kind) (members : List Kind) (kind : Kind) → truth_of_set a members ≡ Some kind → k.Bool ≡ kind
set_gives a members kind h = given (is_set_of a members) k.Bool kind h

pub alike_give : (kinds : List Kind) (kind : Kind) → truth_of_alike kinds ≡ Some kind → k.Bool ≡ kind
alike_give kinds kind h = go (common_kind kinds) h
  where
    go : (o : Option Kind) → option_map (λ x. k.Bool) o ≡ Some kind → k.Bool ≡ kind
    go None e = cc
    go (Some x) e = cc
