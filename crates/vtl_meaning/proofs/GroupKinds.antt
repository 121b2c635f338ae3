-- The value of an aggregate is null or of exactly the kind that the aggregate gives, and an integer of the profile where its values are.
use Rattle.std.proofs.Common.{◌≡◌, ◌-◌, ◌^◌, ◌≤◌, ℕ, zero, suc, pos, ℤ, Bool, true, false, not, ◌&&◌, cond, List, [], ◌∷◌, length, Result, Ok, Err, Option, Some, None, refl, sym, ap, subst, true≢false, arith}
use Rattle.std.specs.Prelude.{Contains, IfOk, nat_lt, unsigned_abs}
use Rattle.std.specs.Int.RustNames.{int_le}
use Rattle.std.specs.List.{AllByRecursion, list_all}
use Rattle.std.proofs.lemmas.Bool.{and_parts}
use Rattle.vtl_decimal.specs.Tally.{mean_of, tally_of}
use Rattle.vtl_decimal.specs.declared.number.Fault.{Fault as DecimalFault}
use Rattle.vtl_decimal.proofs.PowerLemmas.{power_of_ten_fits}
use Rattle.vtl_cell.specs.Groups.{aggregate, greatest, group_value, is_integer, least, mean_value, middle_of, number_or_null, numbers_of, of_nothing, of_values, total_of, values_of, wholes_of}
use Rattle.vtl_cell.specs.Kinds.{is_null, is_of}
use Rattle.vtl_decimal.specs.declared.number.Fault.TheVariants.{Range}
use Rattle.vtl_cell.specs.Outcome.{Outcome}
use Rattle.vtl_cell.specs.Profile.{IsOfProfile}
use Rattle.vtl_decimal.specs.Range.{fit_integer, fit_number}
use Rattle.vtl_cell.specs.ScalarArithmetic.{integer, number}
use Rattle.vtl_decimal.specs.Settings.{Settings}
use Rattle.vtl_lists.specs.Sorting.{sorted_by}
use Rattle.vtl_cell.specs.declared.cell.Cell.{Cell}
use Rattle.vtl_cell.specs.declared.cell.Cell.TheVariants as c
use Rattle.vtl_cell.specs.declared.kind.Kind.{Kind}
use Rattle.vtl_cell.specs.declared.kind.Kind.TheVariants as k
use Rattle.vtl_cell.specs.declared.operator.AggKind.{AggKind}
use Rattle.vtl_cell.specs.declared.operator.AggKind.TheVariants as agg
use Rattle.vtl_cell.proofs.Extremes.{greatest_member, least_member}
use Rattle.vtl_lists.proofs.Sorts.{AllByRecursion-filter}
use Rattle.vtl_lists.proofs.Alls.{all_get}
use Rattle.vtl_cell.specs.AggregateKinds.{aggregate_kind, sum_kind}

-- ---- lists and choices
member_has : (P : Cell → Type 0) (xs : List Cell) (v : Cell) → AllByRecursion P xs → Contains xs v → P v
member_has P xs v all h = subst P h.2 (all_get P xs h.0 v h.1 all)

some_is : {X : Type 0} (x y : X) → Some x ≡ Some y → x ≡ y
some_is x y e = cc

-- ---- of a kind
abbrev pub IsOf : Kind → Cell → Type 0
IsOf kind v = is_of kind v ≡ true

abbrev pub GivesOf : Kind → Outcome Cell → Type 0
GivesOf kind m = IfOk m (IsOf kind)

pub null_is_of : (kind : Kind) → IsOf kind c.Null
null_is_of k.Null = refl
null_is_of k.Bool = refl
null_is_of k.Int = refl
null_is_of k.Num = refl
null_is_of k.Text = refl
null_is_of k.Day = refl
null_is_of k.Period = refl

pub integer_is : (r : Result ℤ DecimalFault) → GivesOf k.Int (integer r)
integer_is (Ok n) = refl
integer_is (Err e) = tt

number_is : (r : Result ℤ DecimalFault) → GivesOf k.Num (number r)
number_is (Ok n) = refl
number_is (Err e) = tt

-- values of a kind, none of which is null
abbrev Known : Kind → List Cell → Type 0
Known kind xs = AllByRecursion (IsOf kind) xs × (list_all (λ x. not (is_null x)) xs ≡ true)

values_known : (kind : Kind) (xs : List Cell) → AllByRecursion (IsOf kind) xs → Known kind (values_of xs)
values_known kind [] all = (tt, refl)
values_known kind (x ∷ xs) all = go (not (is_null x)) refl (values_known kind xs all.1)
  where
    go : (b : Bool) → not (is_null x) ≡ b → Known kind (values_of xs) → Known kind (cond b (x ∷ values_of xs) (values_of xs))
    go true e h = ((all.0, h.0), λ i. e i && h.1 i)
    go false e h = h

whole : (x : Cell) → IsOf k.Int x → not (is_null x) ≡ true → is_integer x ≡ true
whole (c.Int n) h i = refl
whole x h i = cc

fraction : (x : Cell) → IsOf k.Num x → not (is_null x) ≡ true → is_integer x ≡ false
fraction (c.Num n) h i = refl
fraction x h i = cc

wholes : (xs : List Cell) → Known k.Int xs → list_all is_integer xs ≡ true
wholes [] all = refl
wholes (x ∷ xs) all =
    let parts = and_parts (not (is_null x)) (list_all (λ y. not (is_null y)) xs) all.1 in
    λ i. whole x all.0.0 parts.0 i && wholes xs (all.0.1, parts.1) i

abbrev total_by : Settings → List Cell → Bool → Outcome Cell
total_by p xs b = cond b (integer (fit_integer p.scale (tally_of (wholes_of xs)).total)) (number (fit_number (tally_of (numbers_of p.scale xs)).total))

total_is : (p : Settings) (kind given : Kind) (x : Cell) (xs : List Cell) → sum_kind kind ≡ Some given → Known kind (x ∷ xs) → GivesOf given (total_of p (x ∷ xs))
total_is p k.Null given c.Null xs e h = absurd (true≢false (sym h.1))
total_is p k.Null given x xs e h = cc
total_is p k.Int given x xs e h =
    subst (λ z. GivesOf z (total_of p (x ∷ xs))) (some_is k.Int given e)
    (subst (λ b. GivesOf k.Int (total_by p (x ∷ xs) b)) (sym (wholes (x ∷ xs) h)) (integer_is (fit_integer p.scale (tally_of (wholes_of (x ∷ xs))).total)))
total_is p k.Num given x xs e h =
    let parts = and_parts (not (is_null x)) (list_all (λ y. not (is_null y)) xs) h.1 in
    let some : list_all is_integer (x ∷ xs) ≡ false = ap (λ b. b && list_all is_integer xs) (fraction x h.0.0 parts.0) in
    subst (λ z. GivesOf z (total_of p (x ∷ xs))) (some_is k.Num given e)
    (subst (λ b. GivesOf k.Num (total_by p (x ∷ xs) b)) (sym some) (number_is (fit_number (tally_of (numbers_of p.scale (x ∷ xs))).total)))
total_is p kind given x xs e h = cc

number_given : (b : Bool) (given : Kind) → cond b (Some k.Num) None ≡ Some given → k.Num ≡ given
number_given true given e = cc
number_given false given e = cc

mean_is : (o : Option ℤ) → GivesOf k.Num (number_or_null o)
mean_is None = refl
mean_is (Some n) = number_is (fit_number n)

values_are : (p : Settings) (f : AggKind) (kind given : Kind) (x : Cell) (xs : List Cell) → aggregate_kind f kind ≡ Some given → Known kind (x ∷ xs) → GivesOf given (of_values p f (x ∷ xs))
values_are p agg.Sum kind given x xs e h = total_is p kind given x xs e h
values_are p agg.Avg kind given x xs e h = subst (λ z. GivesOf z (mean_value p (x ∷ xs))) (number_given _ given e) (mean_is (mean_of p.rounding (tally_of (numbers_of p.scale (x ∷ xs)))))
values_are p agg.Count kind given x xs e h = subst (λ z. GivesOf z (of_values p agg.Count (x ∷ xs))) (some_is k.Int given e) (integer_is (fit_integer p.scale (pos (length (x ∷ xs)))))
values_are p agg.Min kind given x xs e h = subst (λ z. IsOf z (least (x ∷ xs))) (some_is kind given e) (member_has (IsOf kind) (x ∷ xs) (least (x ∷ xs)) h.0 (least_member (x ∷ xs) (omega arith)))
values_are p agg.Max kind given x xs e h = subst (λ z. IsOf z (greatest (x ∷ xs))) (some_is kind given e) (member_has (IsOf kind) (x ∷ xs) (greatest (x ∷ xs)) h.0 (greatest_member (x ∷ xs) (omega arith)))
values_are p agg.Median kind given x xs e h = subst (λ z. GivesOf z (number (fit_number (middle_of p (sorted_by int_le (numbers_of p.scale (x ∷ xs))))))) (number_given _ given e) (number_is (fit_number (middle_of p (sorted_by int_le (numbers_of p.scale (x ∷ xs))))))

nothing_is : (f : AggKind) (kind given : Kind) → aggregate_kind f kind ≡ Some given → IsOf given (of_nothing f)
nothing_is agg.Count kind given e = subst (λ z. IsOf z (c.Int (pos 0))) (some_is k.Int given e) refl
nothing_is f kind given e = null_is_of given

pub group_is : (p : Settings) (f : AggKind) (kind given : Kind) (xs : List Cell) → aggregate_kind f kind ≡ Some given → AllByRecursion (IsOf kind) xs → GivesOf given (group_value p f xs)
group_is p f kind given xs e all = go (values_of xs) (values_known kind xs all)
  where
    go : (vs : List Cell) → Known kind vs → GivesOf given (aggregate p f vs)
    go [] h = nothing_is f kind given e
    go (v ∷ vs) h = values_are p f kind given v vs e h

-- ---- of the profile
abbrev pub GivesOfProfile : Settings → Outcome Cell → Type 0
GivesOfProfile p m = IfOk m (IsOfProfile p)

pub whole_gives : (p : Settings) (n : ℤ) → GivesOfProfile p (integer (fit_integer p.scale n))
whole_gives p n = go (nat_lt (unsigned_abs n) (10 ^ (18 - p.scale))) refl
  where
    go : (b : Bool) → nat_lt (unsigned_abs n) (10 ^ (18 - p.scale)) ≡ b → GivesOfProfile p (integer (cond b (Ok n) (Err Range)))
    go true e = rw e refl
    go false e = tt

number_gives : (p : Settings) (r : Result ℤ DecimalFault) → GivesOfProfile p (number r)
number_gives p (Ok n) = tt
number_gives p (Err e) = tt

pub zero_gives : (p : Settings) → IsOfProfile p (c.Int (pos 0))
zero_gives p = go (nat_lt 0 (10 ^ (18 - p.scale))) refl
  where
    go : (b : Bool) → nat_lt 0 (10 ^ (18 - p.scale)) ≡ b → IsOfProfile p (c.Int (pos 0))
    go true e = rw e refl
    go false e =
        let most : 18 - p.scale ≤ 18 = omega arith in
        let some = (power_of_ten_fits (18 - p.scale) most).0 in
        absurd (grind (arith, e, some))

total_gives : (p : Settings) (xs : List Cell) → GivesOfProfile p (total_of p xs)
total_gives p xs = go (list_all is_integer xs)
  where
    go : (b : Bool) → GivesOfProfile p (total_by p xs b)
    go true = whole_gives p (tally_of (wholes_of xs)).total
    go false = number_gives p (fit_number (tally_of (numbers_of p.scale xs)).total)

mean_gives : (p : Settings) (o : Option ℤ) → GivesOfProfile p (number_or_null o)
mean_gives p None = tt
mean_gives p (Some n) = number_gives p (fit_number n)

values_give : (p : Settings) (f : AggKind) (x : Cell) (xs : List Cell) → AllByRecursion (IsOfProfile p) (x ∷ xs) → GivesOfProfile p (of_values p f (x ∷ xs))
values_give p agg.Sum x xs h = total_gives p (x ∷ xs)
values_give p agg.Avg x xs h = mean_gives p (mean_of p.rounding (tally_of (numbers_of p.scale (x ∷ xs))))
values_give p agg.Count x xs h = whole_gives p (pos (length (x ∷ xs)))
values_give p agg.Min x xs h = member_has (IsOfProfile p) (x ∷ xs) (least (x ∷ xs)) h (least_member (x ∷ xs) (omega arith))
values_give p agg.Max x xs h = member_has (IsOfProfile p) (x ∷ xs) (greatest (x ∷ xs)) h (greatest_member (x ∷ xs) (omega arith))
values_give p agg.Median x xs h = number_gives p (fit_number (middle_of p (sorted_by int_le (numbers_of p.scale (x ∷ xs)))))

nothing_gives : (p : Settings) (f : AggKind) → IsOfProfile p (of_nothing f)
nothing_gives p agg.Count = zero_gives p
nothing_gives p f = tt

pub group_gives : (p : Settings) (f : AggKind) (xs : List Cell) → AllByRecursion (IsOfProfile p) xs → GivesOfProfile p (group_value p f xs)
group_gives p f xs h = go (values_of xs) (AllByRecursion-filter (IsOfProfile p) (λ x. not (is_null x)) xs h)
  where
    go : (vs : List Cell) → AllByRecursion (IsOfProfile p) vs → GivesOfProfile p (aggregate p f vs)
    go [] i = nothing_gives p f
    go (v ∷ vs) i = values_give p f v vs i
