-- A total less the total without the last value is that value.
use Rattle.std.proofs.Common.{◌≡◌, ◌<◌, ◌^◌, ◌&&◌, Bool, true, false, not, cond, List, [], ◌∷◌, ◌++◌, map, nat_lt, Ok, Err, ℤ, pos, ◌+ℤ◌, ◌-ℤ◌, ◌*ℤ◌, unsigned_abs, refl, sym, ap, ◌∙◌, subst, arith, ◌-◌, true≢false}
use Rattle.std.specs.Prelude.{IsOk, fold}
use Rattle.std.specs.List.{AllByRecursion, list_all}
use Rattle.std.proofs.lemmas.Bool.Decides.{nat_tests}
use Rattle.std.proofs.lemmas.Int.{ints}
use Rattle.std.proofs.lemmas.List.{map-append}
use Rattle.std.proofs.lemmas.List.Sums.{fold-append}
use Rattle.vtl_lists.proofs.Filters.{filter_all}
use Rattle.vtl_decimal.specs.Range.{fit_integer, fit_number}
use Rattle.vtl_decimal.specs.Settings.{Settings}
use Rattle.vtl_decimal.specs.Tally.{tally_of}
use Rattle.vtl_decimal.specs.declared.number.Fault.TheVariants.{Range}
use Rattle.vtl_cell.specs.AggregateKinds.{is_number}
use Rattle.vtl_cell.specs.Conversion.{as_kind}
use Rattle.vtl_cell.specs.Groups.{aggregate, group_value, is_integer, numbers_of, total_of, units_of, whole_of, wholes_of}
use Rattle.vtl_cell.specs.Held.{IsHeld}
use Rattle.vtl_cell.specs.Kinds.{is_null}
use Rattle.vtl_cell.specs.Outcome.{after}
use Rattle.vtl_cell.specs.Outcomes.{result_of}
use Rattle.vtl_cell.specs.Profile.{IsOfProfile}
use Rattle.vtl_cell.specs.ScalarArithmetic.{difference_of, integer, number, numbers}
use Rattle.vtl_cell.specs.declared.cell.Cell.{Cell}
use Rattle.vtl_cell.specs.declared.cell.Cell.TheVariants as c
use Rattle.vtl_cell.specs.declared.kind.Kind.{Kind}
use Rattle.vtl_cell.specs.declared.kind.Kind.TheVariants as k
use Rattle.vtl_cell.specs.declared.operator.AggKind.TheVariants as agg
use Rattle.vtl_cell.specs.declared.operator.ScalarOp.TheVariants as op
use Rattle.vtl_meaning.proofs.GroupKinds.{IsOf}

-- a value of a kind that is there
abbrev pub IsThere : Kind → Cell → Type 0
IsThere kind v = IsOf kind v × (is_null v ≡ false)

-- ---- integers and numbers
an_integer : (v : Cell) → IsThere k.Int v → (n : ℤ) × (v ≡ c.Int n)
an_integer c.Null h = cc
an_integer (c.Bool x) h = cc
an_integer (c.Int n) h = (n, refl)
an_integer (c.Num x) h = cc
an_integer (c.Text x) h = cc
an_integer (c.Day x) h = cc
an_integer (c.Period x) h = cc

a_number : (v : Cell) → IsThere k.Num v → (n : ℤ) × (v ≡ c.Num n)
a_number c.Null h = cc
a_number (c.Bool x) h = cc
a_number (c.Int n) h = cc
a_number (c.Num n) h = (n, refl)
a_number (c.Text x) h = cc
a_number (c.Day x) h = cc
a_number (c.Period x) h = cc

all_integers : (vs : List Cell) → AllByRecursion (IsThere k.Int) vs → list_all is_integer vs ≡ true
all_integers [] all = refl
all_integers (v ∷ vs) all = λ i. is_integer ((an_integer v all.0).1 i) && all_integers vs all.1 i

first_is_none : (v : Cell) (vs : List Cell) → IsThere k.Num v → list_all is_integer (v ∷ vs) ≡ false
first_is_none v vs h = ap (λ u. is_integer u && list_all is_integer vs) (a_number v h).1

all_there : (kind : Kind) (vs : List Cell) → AllByRecursion (IsThere kind) vs → AllByRecursion (λ v. not (is_null v) ≡ true) vs
all_there kind [] all = tt
all_there kind (v ∷ vs) all = (ap not all.0.1, all_there kind vs all.1)

all_and : (kind : Kind) (vs : List Cell) (v : Cell) → AllByRecursion (IsThere kind) vs → IsThere kind v → AllByRecursion (IsThere kind) (vs ++ v ∷ [])
all_and kind [] v all h = (h, tt)
all_and kind (u ∷ vs) v all h = (all.0, all_and kind vs v all.1 h)

module _ (p : Settings) where
  -- ---- totals
  sum_of_some : (kind : Kind) (v : Cell) (vs : List Cell) → AllByRecursion (IsThere kind) (v ∷ vs) → group_value p agg.Sum (v ∷ vs) ≡ total_of p (v ∷ vs)
  sum_of_some kind v vs all = ap (aggregate p agg.Sum) (filter_all (λ x. not (is_null x)) (v ∷ vs) (all_there kind (v ∷ vs) all))

  sum_with : (kind : Kind) (vs : List Cell) (v : Cell) → AllByRecursion (IsThere kind) (vs ++ v ∷ []) → group_value p agg.Sum (vs ++ v ∷ []) ≡ total_of p (vs ++ v ∷ [])
  sum_with kind [] v all = sum_of_some kind v [] all
  sum_with kind (u ∷ vs) v all = sum_of_some kind u (vs ++ v ∷ []) all

  integers_total : (vs : List Cell) → AllByRecursion (IsThere k.Int) vs → total_of p vs ≡ integer (fit_integer p.scale (tally_of (wholes_of vs)).total)
  integers_total vs all = ap (λ b. cond b (integer (fit_integer p.scale (tally_of (wholes_of vs)).total)) (number (fit_number (tally_of (numbers_of p.scale vs)).total))) (all_integers vs all)

  numbers_total : (v : Cell) (vs : List Cell) → AllByRecursion (IsThere k.Num) (v ∷ vs) → total_of p (v ∷ vs) ≡ number (fit_number (tally_of (numbers_of p.scale (v ∷ vs))).total)
  numbers_total v vs all =
      ap (λ b. cond b (integer (fit_integer p.scale (tally_of (wholes_of (v ∷ vs))).total)) (number (fit_number (tally_of (numbers_of p.scale (v ∷ vs))).total))) (first_is_none v vs all.0)

  last_of : (f : Cell → ℤ) (vs : List Cell) (v : Cell) → fold ◌+ℤ◌ (pos 0) (map f (vs ++ v ∷ [])) ≡ fold ◌+ℤ◌ (pos 0) (map f vs) +ℤ f v
  last_of f vs v = ap (fold ◌+ℤ◌ (pos 0)) (map-append f vs (v ∷ [])) ∙ fold-append ◌+ℤ◌ (pos 0) (map f vs) (f v ∷ [])

  -- ---- differences
  less_back : (t n : ℤ) → (t +ℤ n) -ℤ t ≡ n
  less_back t n = omega (arith, ints)

  fitted_integer : (m : ℤ) (s : Cell) (b : Bool) → integer (cond b (Ok m) (Err Range)) ≡ Ok s → s ≡ c.Int m
  fitted_integer m s true e = cc
  fitted_integer m s false e = cc

  fitted_number : (m : ℤ) (s : Cell) (b : Bool) → number (cond b (Ok m) (Err Range)) ≡ Ok s → s ≡ c.Num m
  fitted_number m s true e = cc
  fitted_number m s false e = cc

  fits_integer : (m : ℤ) → IsOk (fit_integer p.scale m) → integer (fit_integer p.scale m) ≡ Ok (c.Int m)
  fits_integer m h = go (nat_lt (unsigned_abs m) (10 ^ (18 - p.scale))) h
    where
      go : (b : Bool) → IsOk (cond b (Ok m) (Err Range)) → integer (cond b (Ok m) (Err Range)) ≡ Ok (c.Int m)
      go true h = refl
      go false h = absurd (true≢false (sym h))

  fits_number : (m : ℤ) → unsigned_abs m < 10 ^ 18 → number (fit_number m) ≡ Ok (c.Num m)
  fits_number m h =
      let less : nat_lt (unsigned_abs m) (10 ^ 18) ≡ true = grind (arith, nat_tests) in
      ap (λ b. number (cond b (Ok m) (Err Range))) less

  integer_back : (t n : ℤ) (v s last : Cell) → v ≡ c.Int n → s ≡ c.Int (t +ℤ n) → last ≡ c.Int t → IsOfProfile p v → result_of p op.Subtract k.Int (s ∷ last ∷ []) ≡ Ok v
  integer_back t n v s last e f g h =
      (λ i. result_of p op.Subtract k.Int (f i ∷ g i ∷ []))
      ∙ ap (λ m. after (integer (fit_integer p.scale m)) (as_kind p k.Int)) (less_back t n)
      ∙ ap (λ x. after x (as_kind p k.Int)) (fits_integer n (subst (IsOfProfile p) e h)) ∙ sym (ap (λ x. Ok x) e)

  number_back : (t n : ℤ) (v s last : Cell) → v ≡ c.Num n → s ≡ c.Num (t +ℤ n) → last ≡ c.Num t → IsHeld v → result_of p op.Subtract k.Num (s ∷ last ∷ []) ≡ Ok v
  number_back t n v s last e f g h =
      (λ i. result_of p op.Subtract k.Num (f i ∷ g i ∷ []))
      ∙ ap (λ m. after (number (fit_number m)) (as_kind p k.Num)) (less_back t n)
      ∙ ap (λ x. after x (as_kind p k.Num)) (fits_number n (subst IsHeld e h)) ∙ sym (ap (λ x. Ok x) e)

  no_units : pos 0 *ℤ pos (10 ^ p.scale) ≡ pos 0
  no_units = grind (arith, ints)

  first_number : (n : ℤ) (v s last : Cell) → v ≡ c.Num n → s ≡ c.Num (pos 0 +ℤ n) → last ≡ c.Int (pos 0) → IsHeld v → result_of p op.Subtract k.Num (s ∷ last ∷ []) ≡ Ok v
  first_number n v s last e f g h =
      (λ i. result_of p op.Subtract k.Num (f i ∷ g i ∷ []))
      ∙ ap (λ z. after (after (after (fit_number z) (λ m. Ok (numbers (pos 0 +ℤ n) m))) (difference_of p)) (as_kind p k.Num)) no_units
      ∙ ap (λ m. after (number (fit_number m)) (as_kind p k.Num)) (less_back (pos 0) n)
      ∙ ap (λ x. after x (as_kind p k.Num)) (fits_number n (subst IsHeld e h)) ∙ sym (ap (λ x. Ok x) e)

  -- what stands before: zero before the first value, and else the total so far
  abbrev pub IsBefore : List Cell → Cell → Type 0
  IsBefore [] last = last ≡ c.Int (pos 0)
  IsBefore (v ∷ vs) last = group_value p agg.Sum (v ∷ vs) ≡ Ok last

  integers_before : (vs : List Cell) → AllByRecursion (IsThere k.Int) vs → (last : Cell) → IsBefore vs last → last ≡ c.Int (fold ◌+ℤ◌ (pos 0) (wholes_of vs))
  integers_before [] all last b = b
  integers_before (v ∷ vs) all last b =
      let m = fold ◌+ℤ◌ (pos 0) (wholes_of (v ∷ vs)) in
      fitted_integer m last (nat_lt (unsigned_abs m) (10 ^ (18 - p.scale))) (sym (integers_total (v ∷ vs) all) ∙ sym (sum_of_some k.Int v vs all) ∙ b)

  numbers_with : (vs : List Cell) (v : Cell) → AllByRecursion (IsThere k.Num) (vs ++ v ∷ []) → total_of p (vs ++ v ∷ []) ≡ number (fit_number (tally_of (numbers_of p.scale (vs ++ v ∷ []))).total)
  numbers_with [] v all = numbers_total v [] all
  numbers_with (u ∷ vs) v all = numbers_total u (vs ++ v ∷ []) all

  number_is : (vs : List Cell) (v s : Cell) → AllByRecursion (IsThere k.Num) vs → IsThere k.Num v → group_value p agg.Sum (vs ++ v ∷ []) ≡ Ok s → s ≡ c.Num (fold ◌+ℤ◌ (pos 0) (numbers_of p.scale vs) +ℤ units_of p.scale v)
  number_is vs v s all h e =
      let whole = all_and k.Num vs v all h in
      let m = fold ◌+ℤ◌ (pos 0) (numbers_of p.scale vs) +ℤ units_of p.scale v in
      fitted_number m s (nat_lt (unsigned_abs m) (10 ^ 18)) (ap (λ z. number (fit_number z)) (sym (last_of (units_of p.scale) vs v)) ∙ sym (numbers_with vs v whole) ∙ sym (sum_with k.Num vs v whole) ∙ e)

  pub last_back : (kind : Kind) → is_number kind ≡ true → (vs : List Cell) (v : Cell) → AllByRecursion (IsThere kind) vs → IsThere kind v → IsOfProfile p v → IsHeld v
      → (s last : Cell) → group_value p agg.Sum (vs ++ v ∷ []) ≡ Ok s → IsBefore vs last → result_of p op.Subtract kind (s ∷ last ∷ []) ≡ Ok v
  last_back k.Int num vs v all h o held s last e b =
      let whole = all_and k.Int vs v all h in
      let n = an_integer v h in
      let t = fold ◌+ℤ◌ (pos 0) (wholes_of vs) in
      let m = t +ℤ whole_of v in
      let is = fitted_integer m s (nat_lt (unsigned_abs m) (10 ^ (18 - p.scale))) (ap (λ z. integer (fit_integer p.scale z)) (sym (last_of whole_of vs v)) ∙ sym (integers_total (vs ++ v ∷ []) whole) ∙ sym (sum_with k.Int vs v whole) ∙ e) in
      integer_back t n.0 v s last n.1 (is ∙ ap (λ u. c.Int (t +ℤ whole_of u)) n.1) (integers_before vs all last b) o
  last_back k.Num num [] v all h o held s last e b =
      let n = a_number v h in
      first_number n.0 v s last n.1 (number_is [] v s all h e ∙ ap (λ u. c.Num (pos 0 +ℤ units_of p.scale u)) n.1) b held
  last_back k.Num num (u ∷ vs) v all h o held s last e b =
      let n = a_number v h in
      let t = fold ◌+ℤ◌ (pos 0) (numbers_of p.scale (u ∷ vs)) in
      number_back t n.0 v s last n.1 (number_is (u ∷ vs) v s all h e ∙ ap (λ x. c.Num (t +ℤ units_of p.scale x)) n.1)
      (fitted_number t last (nat_lt (unsigned_abs t) (10 ^ 18)) (sym (numbers_total u vs all) ∙ sym (sum_of_some k.Num u vs all) ∙ b)) held
  last_back k.Null num vs v all h o held s last e b = cc
  last_back k.Bool num vs v all h o held s last e b = cc
  last_back k.Text num vs v all h o held s last e b = cc
  last_back k.Day num vs v all h o held s last e b = cc
  last_back k.Period num vs v all h o held s last e b = cc
