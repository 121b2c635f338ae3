-- The sides of rules have no quotients: their only fault is a number out of range.
use Rattle.std.proofs.Common.{◌≡◌, ◌-◌, ◌^◌, ℕ, ℤ, Bool, true, false, cond, List, [], ◌∷◌, map, Option, Some, None, Ok, Err, refl}
use Rattle.std.specs.Prelude.{nat_lt, neg_ℤ, unsigned_abs, ◌+ℤ◌, ◌-ℤ◌, if◌then◌else◌}
use Rattle.std.specs.Option.{IfSome}
use Rattle.vtl_decimal.specs.Range.{fit_integer, fit_number}
use Rattle.vtl_decimal.specs.Settings.{Settings}
use Rattle.vtl_decimal.specs.declared.number.Fault.{Fault}
use Rattle.vtl_decimal.specs.declared.number.Fault.TheVariants.{DivZero, Range}
use Rattle.vtl_cell.specs.Conversion.{as_kind}
use Rattle.vtl_cell.specs.Outcome.{Outcome, after, faults_by, join}
use Rattle.vtl_cell.specs.Outcomes.{result_of}
use Rattle.vtl_cell.specs.Row.{Row}
use Rattle.vtl_cell.specs.ScalarArithmetic.{Pair, difference_of, identity_of, integer, integers, negation_of, neither, number, numbers, pair_of, sum_of, units}
use Rattle.vtl_cell.specs.declared.cell.Cell.{Cell}
use Rattle.vtl_cell.specs.declared.cell.Cell.TheVariants as c
use Rattle.vtl_cell.specs.declared.kind.Kind.{Kind}
use Rattle.vtl_cell.specs.declared.kind.Kind.TheVariants as k
use Rattle.vtl_syntax.specs.declared.parts.SignedComp.{SignedComp}
use Rattle.vtl_syntax.specs.declared.statements.HierRule.{HierRule}
use Rattle.vtl_syntax.specs.declared.word_groups.Addition.{Addition}
use Rattle.vtl_syntax.specs.declared.word_groups.Addition.TheVariants as sign
use Rattle.vtl_syntax.specs.declared.word_groups.Mode.{Mode}
use Rattle.vtl_rulings.specs.Hierarchies.{computed}
use Rattle.vtl_rulings.specs.Modes.{Items, appears, counted}
use Rattle.vtl_rulings.specs.Sides as sides
use Rattle.vtl_rulings.specs.Sides.{first_value, next_values, right_side, sign_op}
use Rattle.vtl_tree.specs.RuleItems.{right_items}

-- no fault, or out of range
abbrev pub IsRanged : {A : Type 0} → Outcome A → Type 0
IsRanged (Ok x) = Unit {0}
IsRanged (Err f) = f ≡ Range

then_ranged : {A B : Type 0} (m : Outcome A) (f : A → Outcome B) → IsRanged m → ((x : A) → IsRanged (f x)) → IsRanged (after m f)
then_ranged (Ok x) f h i = i x
then_ranged (Err e) f h i = h

number_fits : (n : ℤ) → IsRanged (fit_number n)
number_fits n = go (nat_lt (unsigned_abs n) (10 ^ 18))
  where
    go : (b : Bool) → IsRanged {A = ℤ} (if b then Ok n else Err Range)
    go true = tt
    go false = refl

integer_fits : (s : ℕ) (n : ℤ) → IsRanged (fit_integer s n)
integer_fits s n = go (nat_lt (unsigned_abs n) (10 ^ (18 - s)))
  where
    go : (b : Bool) → IsRanged {A = ℤ} (if b then Ok n else Err Range)
    go true = tt
    go false = refl

as_numbers : (m : Outcome ℤ) → IsRanged m → IsRanged (number m)
as_numbers (Ok n) h = tt
as_numbers (Err f) h = h

as_integers : (m : Outcome ℤ) → IsRanged m → IsRanged (integer m)
as_integers (Ok n) h = tt
as_integers (Err f) h = h

kind_ranged : (p : Settings) (kind : Kind) (v : Cell) → IsRanged (as_kind p kind v)
kind_ranged p k.Num (c.Int n) = as_numbers (fit_number (units p n)) (number_fits (units p n))
kind_ranged p kind v = tt

pair_ranged : (p : Settings) (u v : Cell) → IsRanged (pair_of p u v)
pair_ranged p (c.Int a) (c.Num b) = then_ranged (fit_number (units p a)) (λ n. Ok (numbers n b)) (number_fits (units p a)) (λ n. tt)
pair_ranged p (c.Num a) (c.Int b) = then_ranged (fit_number (units p b)) (λ n. Ok (numbers a n)) (number_fits (units p b)) (λ n. tt)
pair_ranged p u v = tt

sum_ranged : (p : Settings) (x : Pair) → IsRanged (sum_of p x)
sum_ranged p (integers a b) = as_integers (fit_integer p.scale (a +ℤ b)) (integer_fits p.scale (a +ℤ b))
sum_ranged p (numbers a b) = as_numbers (fit_number (a +ℤ b)) (number_fits (a +ℤ b))
sum_ranged p neither = tt

difference_ranged : (p : Settings) (x : Pair) → IsRanged (difference_of p x)
difference_ranged p (integers a b) = as_integers (fit_integer p.scale (a -ℤ b)) (integer_fits p.scale (a -ℤ b))
difference_ranged p (numbers a b) = as_numbers (fit_number (a -ℤ b)) (number_fits (a -ℤ b))
difference_ranged p neither = tt

negation_ranged : (p : Settings) (v : Cell) → IsRanged (negation_of p v)
negation_ranged p (c.Int n) = as_integers (fit_integer p.scale (neg_ℤ n)) (integer_fits p.scale (neg_ℤ n))
negation_ranged p v = tt

module _ (p : Settings) (kind : Kind) where
  added_ranged : (s : Addition) (u v : Cell) → IsRanged (result_of p (sign_op s) kind (u ∷ v ∷ []))
  added_ranged sign.Plus u v = then_ranged (after (pair_of p u v) (sum_of p)) (as_kind p kind) (then_ranged (pair_of p u v) (sum_of p) (pair_ranged p u v) (sum_ranged p)) (kind_ranged p kind)
  added_ranged sign.Minus u v = then_ranged (after (pair_of p u v) (difference_of p)) (as_kind p kind) (then_ranged (pair_of p u v) (difference_of p) (pair_ranged p u v) (difference_ranged p)) (kind_ranged p kind)

  first_ranged : (s : Option Addition) (v : Cell) → IsRanged (first_value p kind s v)
  first_ranged None v = tt
  first_ranged (Some sign.Plus) v = kind_ranged p kind (identity_of v)
  first_ranged (Some sign.Minus) v = then_ranged (negation_of p v) (as_kind p kind) (negation_ranged p v) (kind_ranged p kind)

  next_ranged : (total : Outcome Cell) (xs : List SignedComp) (vs : Row) → IsRanged total → IsRanged (next_values p kind total xs vs)
  next_ranged total [] vs h = h
  next_ranged total (x ∷ xs) [] h = h
  next_ranged total (x ∷ xs) (v ∷ vs) h = next_ranged (after total (λ u. result_of p (sign_op x.sign) kind (u ∷ v ∷ []))) xs vs (then_ranged total (λ u. result_of p (sign_op x.sign) kind (u ∷ v ∷ [])) h (λ u. added_ranged x.sign u v))

  total_ranged : (r : HierRule) (vs : Row) → IsRanged (sides.sum_of p kind r vs)
  total_ranged r [] = tt
  total_ranged r (v ∷ vs) = next_ranged (first_value p kind r.sign v) r.others vs (first_ranged r.sign v)

  -- what a rule computes
  pub computed_ranged : (m : Mode) (items : Items) (r : HierRule) → IfSome (computed p m kind items r) (λ (v : Outcome Cell). IsRanged v)
  computed_ranged m items r = go (appears m (map items (right_items r)))
    where
      go : (b : Bool) → IfSome (cond b (Some (right_side p m kind items r)) None) (λ (v : Outcome Cell). IsRanged v)
      go true = total_ranged r (map (λ name. counted m kind (items name)) (right_items r))
      go false = tt

-- ---- so of many rules no fault hides another one

-- nothing, or out of range
abbrev pub IsRange : Option Fault → Type 0
IsRange None = Unit {0}
IsRange (Some f) = f ≡ Range

pub joined_range : (f g : Option Fault) → IsRange f → IsRange g → IsRange (join f g)
joined_range None g h i = i
joined_range (Some DivZero) g h i = h
joined_range (Some Range) None h i = h
joined_range (Some Range) (Some g) h i = i

pub all_range : {X : Type 0} (f : X → Option Fault) → ((x : X) → IsRange (f x)) → (xs : List X) → IsRange (faults_by f xs)
all_range f h [] = tt
all_range f h (x ∷ xs) = joined_range (f x) (faults_by f xs) (h x) (all_range f h xs)

-- the first fault is that of all
pub first_is_all : (f : Fault) (g : Option Fault) → IsRange (Some f) → IsRange g → join (Some f) g ≡ Some f
first_is_all DivZero g h i = refl
first_is_all Range None h i = refl
first_is_all Range (Some DivZero) h i = cc
first_is_all Range (Some Range) h i = refl
