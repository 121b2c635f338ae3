-- The values of operators, constants and aggregates are null, of their kind, or integers that stand for numbers.
use Rattle.std.proofs.Common.{◌≡◌, ℕ, pos, Bool, true, false, List, [], ◌∷◌, map, length, Result, Ok, Err, Option, Some, None, refl, sym, ap, ◌∙◌, subst, arith, cond, ◌⊎◌, inl, inr}
use Rattle.std.specs.Prelude.{ℤ, IfOk, IsSome, ◌&&◌, not, Contains, option_and_then, encode_utf8_all, option_map, unwrap_or}
use Rattle.std.specs.Int.RustNames.{int_le}
use Rattle.std.specs.List.{AllByRecursion, list_all}
use Rattle.std.proofs.lemmas.Bool.{and_parts}
use Rattle.vtl_decimal.specs.declared.number.Fault.{Fault as DecimalFault, Fault}
use Rattle.vtl_decimal.specs.Numeral.{number_spelled}
use Rattle.vtl_decimal.specs.Range.{fit_integer, fit_number}
use Rattle.vtl_decimal.specs.Settings.{Settings}
use Rattle.vtl_lists.specs.Sorting.{sorted_by}
use Rattle.vtl_lists.proofs.Alls.{all_get}
use Rattle.vtl_lists.proofs.Tests.{then_some}
use Rattle.vtl_cell.specs.Conversion.{as_kind}
use Rattle.vtl_cell.specs.Groups.{aggregate, greatest, group_value, is_integer, least, mean_value, median_of, middle_of, number_or_null, numbers_of, of_nothing, of_values, total_of, values_of, wholes_of}
use Rattle.vtl_cell.specs.Kinds.{is_null, is_of, kind_of}
use Rattle.vtl_cell.specs.Outcome.{Outcome, after, unless}
use Rattle.vtl_cell.specs.Outcomes.{all_of, branch, result_of}
use Rattle.vtl_cell.specs.ScalarArithmetic.{integer, number, units}
use Rattle.vtl_cell.specs.ScalarKinds.{common_kind, kinds_of, meet, meets, shared_kind}
use Rattle.vtl_cell.specs.Scalars.{scalar_of}
use Rattle.vtl_cell.specs.declared.cell.Cell.{Cell}
use Rattle.vtl_cell.specs.declared.cell.Cell.TheVariants as c
use Rattle.vtl_cell.specs.declared.kind.Kind.{Kind}
use Rattle.vtl_cell.specs.declared.kind.Kind.TheVariants as k
use Rattle.vtl_cell.specs.declared.operator.AggKind.{AggKind}
use Rattle.vtl_cell.specs.declared.operator.AggKind.TheVariants as agg
use Rattle.vtl_cell.specs.declared.operator.ScalarOp.{ScalarOp}
use Rattle.vtl_cell.specs.declared.operator.ScalarOp.TheVariants as op
use Rattle.vtl_cell.proofs.Extremes.{greatest_member, least_member}
use Rattle.vtl_cell.proofs.Readings.{read_kind}
use Rattle.vtl_decimal.specs.Tally.{mean_of, tally_of}
use Rattle.vtl_cell.specs.AggregateKinds.{aggregate_kind, number_of}
use Rattle.vtl_cell.specs.Literals.{integer_written, written}
use Rattle.vtl_cell.specs.OperatorKinds.{counted_kinds, kind_by_operands}
use Rattle.vtl_scalar.specs.KindLaws.{HasKind, IsOfKind}
use Rattle.vtl_scalar.proofs.KindLemmas.{common_left, common_right, meet_through, only_gives, two_give}
use Rattle.vtl_scalar.proofs.ValueKindLemmas.{scalar_is, value_is_of_kind, whole_is, whole_is_number}
use Rattle.sql_tree.specs.declared.parts.Constant.{Constant}
use Rattle.sql_tree.specs.declared.parts.Constant.TheVariants as constant
use Rattle.sql_tree.specs.declared.parts.Numeral.TheVariants as numeral
use Rattle.sql_check_parts.specs.Kinds.{operator_kind}
use Rattle.sql_check_parts.specs.Literals.{constant_kind}
use Rattle.sql_check_parts.specs.Scopes.{or_null}
use Rattle.sql_meaning.specs.Outcomes.{cell_or_null, operated}
use Rattle.sql_meaning.specs.Values.{constant_cell}

pub after_if : {A B : Type 0} (m : Outcome A) (f : A → Outcome B) (P : A → Type 0) (Q : B → Type 0) → IfOk m P → ((x : A) → P x → IfOk (f x) Q) → IfOk (after m f) Q
after_if (Ok x) f P Q h g = g x h
after_if (Err e) f P Q h g = tt

-- ---- conversion gives exactly the kind

pub null_stays : (p : Settings) (kind : Kind) → as_kind p kind c.Null ≡ Ok c.Null
null_stays p k.Null = refl
null_stays p k.Bool = refl
null_stays p k.Int = refl
null_stays p k.Num = refl
null_stays p k.Text = refl
null_stays p k.Day = refl
null_stays p k.Period = refl

number_is_of : (r : Result ℤ DecimalFault) → IfOk (number r) (λ v. is_of k.Num v ≡ true)
number_is_of (Ok x) = refl
number_is_of (Err e) = tt

pub as_kind_is_of : (p : Settings) (kind : Kind) (v : Cell) → IsOfKind kind v → IfOk (as_kind p kind v) (λ w. is_of kind w ≡ true)
as_kind_is_of p k.Num (c.Int n) h = number_is_of (fit_number (units p n))
as_kind_is_of p k.Null c.Null h = refl
as_kind_is_of p k.Bool c.Null h = refl
as_kind_is_of p k.Int c.Null h = refl
as_kind_is_of p k.Num c.Null h = refl
as_kind_is_of p k.Text c.Null h = refl
as_kind_is_of p k.Day c.Null h = refl
as_kind_is_of p k.Period c.Null h = refl
as_kind_is_of p k.Bool (c.Bool x) h = refl
as_kind_is_of p k.Int (c.Int x) h = refl
as_kind_is_of p k.Num (c.Num x) h = refl
as_kind_is_of p k.Text (c.Text x) h = refl
as_kind_is_of p k.Day (c.Day x) h = refl
as_kind_is_of p k.Period (c.Period x) h = refl
as_kind_is_of p kind v h = cc

pub meets_of : (kind : Kind) (v : Cell) → is_of kind v ≡ true → IsOfKind kind v
meets_of kind c.Null h = refl
meets_of k.Bool (c.Bool x) h = refl
meets_of k.Int (c.Int x) h = refl
meets_of k.Num (c.Num x) h = refl
meets_of k.Text (c.Text x) h = refl
meets_of k.Day (c.Day x) h = refl
meets_of k.Period (c.Period x) h = refl
meets_of kind v h = cc

pub if_more : {A : Type 0} (m : Outcome A) (P Q : A → Type 0) → ((x : A) → P x → Q x) → IfOk m P → IfOk m Q
if_more (Ok x) P Q f h = f x h
if_more (Err e) P Q f h = tt

pub as_kind_has : (p : Settings) (kind : Kind) (v : Cell) → IsOfKind kind v → HasKind kind (as_kind p kind v)
as_kind_has p kind v h = if_more (as_kind p kind v) (λ w. is_of kind w ≡ true) (IsOfKind kind) (meets_of kind) (as_kind_is_of p kind v h)

-- ---- operands
abbrev pub EachHas : List Kind → List (Outcome Cell) → Type 0
EachHas [] [] = Unit {0}
EachHas [] (m ∷ ms) = ⊥
EachHas (x ∷ xs) [] = ⊥
EachHas (x ∷ xs) (m ∷ ms) = HasKind x m × EachHas xs ms

all_of_meet : (kinds : List Kind) (ms : List (Outcome Cell)) → EachHas kinds ms → IfOk (all_of ms) (λ vs. meet kinds (map kind_of vs) ≡ true)
all_of_meet [] [] h = refl
all_of_meet [] (m ∷ ms) h = absurd h
all_of_meet (x ∷ xs) [] h = absurd h
all_of_meet (x ∷ xs) (m ∷ ms) h =
    after_if m (λ v. after (all_of ms) (λ vs. Ok (v ∷ vs))) (IsOfKind x) (λ vs. meet (x ∷ xs) (map kind_of vs) ≡ true) h.0
    (λ v i. after_if (all_of ms) (λ vs. Ok (v ∷ vs)) (λ vs. meet xs (map kind_of vs) ≡ true) (λ vs. meet (x ∷ xs) (map kind_of vs) ≡ true) (all_of_meet xs ms h.1) (λ vs j. rw i j))

-- any operands
any_operands : (p : Settings) (o : ScalarOp) (kind : Kind) (ms : List (Outcome Cell)) → ((vs : List Cell) → HasKind kind (scalar_of p o vs)) → HasKind kind (operated p kind ms o)
any_operands p o kind ms h = after_if (all_of ms) (result_of p o kind) (λ vs. Unit {0}) (IsOfKind kind) (there (all_of ms)) (λ vs u. after_if (scalar_of p o vs) (as_kind p kind) (IsOfKind kind) (IsOfKind kind) (h vs) (as_kind_has p kind))
  where
    there : (m : Outcome (List Cell)) → IfOk m (λ vs. Unit {0})
    there (Ok vs) = tt
    there (Err e) = tt

pub in_has : (p : Settings) (ms : List (Outcome Cell)) → HasKind k.Bool (operated p k.Bool ms op.In)
in_has p ms = any_operands p op.In k.Bool ms (λ vs. scalar_is p op.In vs refl)

pub not_in_has : (p : Settings) (ms : List (Outcome Cell)) → HasKind k.Bool (operated p k.Bool ms op.NotIn)
not_in_has p ms = any_operands p op.NotIn k.Bool ms (λ vs. scalar_is p op.NotIn vs refl)

pub is_null_has : (p : Settings) (ms : List (Outcome Cell)) → HasKind k.Bool (operated p k.Bool ms op.IsNull)
is_null_has p ms = any_operands p op.IsNull k.Bool ms (λ vs. scalar_is p op.IsNull vs refl)

pub not_has : (p : Settings) (ms : List (Outcome Cell)) → HasKind k.Bool (operated p k.Bool ms op.Not)
not_has p ms = any_operands p op.Not k.Bool ms (λ vs. scalar_is p op.Not vs refl)

met_operands : (p : Settings) (o : ScalarOp) (kind : Kind) (kinds : List Kind) (ms : List (Outcome Cell)) → kinds_of o kinds ≡ Some kind → EachHas kinds ms → HasKind kind (operated p kind ms o)
met_operands p o kind kinds ms e h =
    after_if (all_of ms) (result_of p o kind) (λ vs. meet kinds (map kind_of vs) ≡ true) (IsOfKind kind) (all_of_meet kinds ms h)
    (λ vs i. after_if (scalar_of p o vs) (as_kind p kind) (IsOfKind kind) (IsOfKind kind) (value_is_of_kind p o kinds vs kind e i) (as_kind_has p kind))

map_same : (xs : List Kind) → map (λ x. x) xs ≡ xs
map_same [] = refl
map_same (x ∷ xs) = ap (λ l. x ∷ l) (map_same xs)

-- operands that need not be literals have their kinds, and of the others nothing is asked
by_operands : (p : Settings) (o : ScalarOp) (kind : Kind) (kinds : List Kind) (ms : List (Outcome Cell)) → kind_by_operands o kinds ≡ Some kind → EachHas kinds ms → HasKind kind (operated p kind ms o)
by_operands p o kind [] ms e h = met_operands p o kind [] ms e h
by_operands p op.Round kind (x ∷ xs) ms e h = subst (λ z. HasKind z (operated p z ms op.Round)) (only_gives (k.Num ∷ k.Int ∷ []) (x ∷ counted_kinds op.Round xs) k.Num kind e) (any_operands p op.Round k.Num ms (λ vs. scalar_is p op.Round vs refl))
by_operands p op.Truncate kind (x ∷ xs) ms e h = subst (λ z. HasKind z (operated p z ms op.Truncate)) (only_gives (k.Num ∷ k.Int ∷ []) (x ∷ counted_kinds op.Truncate xs) k.Num kind e) (any_operands p op.Truncate k.Num ms (λ vs. scalar_is p op.Truncate vs refl))
by_operands p op.PeriodShift kind (x ∷ xs) ms e h = subst (λ z. HasKind z (operated p z ms op.PeriodShift)) (only_gives (k.Period ∷ k.Int ∷ []) (x ∷ counted_kinds op.PeriodShift xs) k.Period kind e) (any_operands p op.PeriodShift k.Period ms (λ vs. scalar_is p op.PeriodShift vs refl))
by_operands p op.Substring kind (x ∷ xs) ms e h = subst (λ z. HasKind z (operated p z ms op.Substring)) (text_given (two_give (k.Text ∷ k.Int ∷ []) (k.Text ∷ k.Int ∷ k.Int ∷ []) (x ∷ counted_kinds op.Substring xs) k.Text k.Text kind e)) (any_operands p op.Substring k.Text ms (λ vs. scalar_is p op.Substring vs refl))
  where
    text_given : {A : Type 0} → (A × (k.Text ≡ kind)) ⊎ (k.Text ≡ kind) → k.Text ≡ kind
    text_given (inl h) = h.1
    text_given (inr h) = h
by_operands p o kind (x ∷ xs) ms e h = met_operands p o kind (x ∷ xs) ms (ap (λ l. kinds_of o (x ∷ l)) (sym (map_same xs)) ∙ e) h

-- REPLACE takes three
pub operator_has : (p : Settings) (o : ScalarOp) (kind : Kind) (kinds : List Kind) (ms : List (Outcome Cell)) → operator_kind o kinds ≡ Some kind → EachHas kinds ms → HasKind kind (operated p kind ms o)
operator_has p op.Replace kind (a ∷ x ∷ []) ms e h = cc
operator_has p o kind kinds ms e h = by_operands p o kind kinds ms e h

-- a kind that is there
pub some_of : (o : Option Kind) → IsSome o → o ≡ Some (or_null o)
some_of None e = cc
some_of (Some kind) e = refl

-- ---- constants
pub int_has : (o : Option ℤ) → IsOfKind k.Int (unwrap_or (option_map c.Int o) c.Null)
int_has None = refl
int_has (Some n) = refl

pub num_has : (o : Option ℤ) → IsOfKind k.Num (unwrap_or (option_map c.Num o) c.Null)
num_has None = refl
num_has (Some n) = refl

pub written_has : (p : Settings) (kind : Kind) (t : List ℕ) (o : Option Cell) → written p kind t ≡ o → IsOfKind kind (unwrap_or o c.Null)
written_has p kind t None e = refl
written_has p kind t (Some v) e = meets_of kind v (read_kind p kind (encode_utf8_all t) v e).0

pub constant_has : (p : Settings) (x : Constant) → IsOfKind (constant_kind x) (constant_cell p x)
constant_has p (constant.Number (numeral.Int digits)) = int_has (integer_written p digits)
constant_has p (constant.Number (numeral.Dec digits)) = num_has (number_spelled p (encode_utf8_all digits))
constant_has p (constant.Text text) = refl
constant_has p constant.True = refl
constant_has p constant.False = refl
constant_has p constant.Null = refl
constant_has p (constant.Date text) = written_has p k.Day text (written p k.Day text) refl
constant_has p (constant.Period text) = written_has p k.Period text (written p k.Period text) refl

-- ---- groups
pub all_ok : {X : Type 0} (f : X → Outcome Cell) (P : Cell → Type 0) (xs : List X) → P c.Null → AllByRecursion (λ x. IfOk (f x) P) xs → AllByRecursion P (map (λ x. cell_or_null (f x)) xs)
all_ok f P [] n all = tt
all_ok f P (x ∷ xs) n all = (one (f x) all.0, all_ok f P xs n all.1)
  where
    one : (m : Outcome Cell) → IfOk m P → P (cell_or_null m)
    one (Ok v) h = h
    one (Err e) h = n

pub number_has : (r : Result ℤ DecimalFault) → HasKind k.Num (number r)
number_has (Ok n) = refl
number_has (Err e) = tt

total_number : (p : Settings) (xs : List Cell) → HasKind k.Num (total_of p xs)
total_number p xs = go (list_all is_integer xs)
  where
    go : (b : Bool) → HasKind k.Num (cond b (integer (fit_integer p.scale (tally_of (wholes_of xs)).total)) (number (fit_number (tally_of (numbers_of p.scale xs)).total)))
    go true = whole_is_number (fit_integer p.scale (tally_of (wholes_of xs)).total)
    go false = number_has (fit_number (tally_of (numbers_of p.scale xs)).total)

-- what an aggregate gives of some values of a kind
abbrev Known : Kind → List Cell → Type 0
Known kind xs = AllByRecursion (IsOfKind kind) xs × (list_all (λ x. not (is_null x)) xs ≡ true)

whole : (kind : Kind) (x : Cell) → meets k.Int kind ≡ true → IsOfKind kind x → not (is_null x) ≡ true → is_integer x ≡ true
whole kind (c.Int n) h i j = refl
whole kind c.Null h i j = cc
whole k.Bool (c.Bool x) h i j = cc
whole k.Num (c.Num x) h i j = cc
whole k.Text (c.Text x) h i j = cc
whole k.Day (c.Day x) h i j = cc
whole k.Period (c.Period x) h i j = cc
whole kind x h i j = cc

wholes : (kind : Kind) (xs : List Cell) → meets k.Int kind ≡ true → Known kind xs → list_all is_integer xs ≡ true
wholes kind [] h all = refl
wholes kind (x ∷ xs) h all =
    let parts = and_parts (not (is_null x)) (list_all (λ y. not (is_null y)) xs) all.1 in
    λ i. whole kind x h all.0.0 parts.0 i && wholes kind xs h (all.0.1, parts.1) i

values_known : (kind : Kind) (xs : List Cell) → AllByRecursion (IsOfKind kind) xs → Known kind (values_of xs)
values_known kind [] all = (tt, refl)
values_known kind (x ∷ xs) all = go (not (is_null x)) refl (values_known kind xs all.1)
  where
    go : (b : Bool) → not (is_null x) ≡ b → Known kind (values_of xs) → Known kind (cond b (x ∷ values_of xs) (values_of xs))
    go true e h = ((all.0, h.0), λ i. e i && h.1 i)
    go false e h = h

pub member_has : (P : Cell → Type 0) (xs : List Cell) (v : Cell) → AllByRecursion P xs → Contains xs v → P v
member_has P xs v all h = subst P h.2 (all_get P xs h.0 v h.1 all)

given_if : (b : Bool) (x y kind : Kind) (o : Option Kind) → (cond b (Some x) o) ≡ Some kind → ((b ≡ true) × (x ≡ kind)) ⊎ (o ≡ Some kind)
given_if true x y kind o e = inl (refl, cc)
given_if false x y kind o e = inr e

pub number_given : (b : Bool) (kind : Kind) → cond b (Some k.Num) None ≡ Some kind → k.Num ≡ kind
number_given true kind e = cc
number_given false kind e = cc

values_have : (p : Settings) (f : AggKind) (of given : Kind) (x : Cell) (xs : List Cell) → aggregate_kind f of ≡ Some given → Known of (x ∷ xs) → HasKind given (of_values p f (x ∷ xs))
values_have p agg.Sum of given x xs e h = go (given_if (meets k.Int of) k.Int k.Int given (number_of of) e)
  where
    go : ((meets k.Int of ≡ true) × (k.Int ≡ given)) ⊎ (number_of of ≡ Some given) → HasKind given (total_of p (x ∷ xs))
    go (inl i) =
        subst (λ z. HasKind z (total_of p (x ∷ xs))) i.1
        (subst (λ b. HasKind k.Int (cond b (integer (fit_integer p.scale (tally_of (wholes_of (x ∷ xs))).total)) (number (fit_number (tally_of (numbers_of p.scale (x ∷ xs))).total)))) (sym (wholes of (x ∷ xs) i.0 h))
        (whole_is (fit_integer p.scale (tally_of (wholes_of (x ∷ xs))).total)))
    go (inr i) = subst (λ z. HasKind z (total_of p (x ∷ xs))) (number_given (meets k.Num of) given i) (total_number p (x ∷ xs))
values_have p agg.Avg of given x xs e h = subst (λ z. HasKind z (mean_value p (x ∷ xs))) (number_given (meets k.Num of) given e) (mean (mean_of p.rounding (tally_of (numbers_of p.scale (x ∷ xs)))))
  where
    mean : (o : Option ℤ) → HasKind k.Num (number_or_null o)
    mean None = refl
    mean (Some n) = number_has (fit_number n)
values_have p agg.Count of given x xs e h = subst (λ z. HasKind z (of_values p agg.Count (x ∷ xs))) (counted e) (whole_is (fit_integer p.scale (pos (length (x ∷ xs)))))
  where
    counted : Some k.Int ≡ Some given → k.Int ≡ given
    counted q = cc
values_have p agg.Min of given x xs e h = subst (λ z. IsOfKind z (least (x ∷ xs))) (same e) (member_has (IsOfKind of) (x ∷ xs) (least (x ∷ xs)) h.0 (least_member (x ∷ xs) (omega arith)))
  where
    same : Some of ≡ Some given → of ≡ given
    same q = cc
values_have p agg.Max of given x xs e h = subst (λ z. IsOfKind z (greatest (x ∷ xs))) (same e) (member_has (IsOfKind of) (x ∷ xs) (greatest (x ∷ xs)) h.0 (greatest_member (x ∷ xs) (omega arith)))
  where
    same : Some of ≡ Some given → of ≡ given
    same q = cc
values_have p agg.Median of given x xs e h = subst (λ z. HasKind z (median_of p (x ∷ xs))) (number_given (meets k.Num of) given e) (number_has (fit_number (middle_of p (sorted_by int_le (numbers_of p.scale (x ∷ xs))))))

nothing_has : (f : AggKind) (of given : Kind) → aggregate_kind f of ≡ Some given → IsOfKind given (of_nothing f)
nothing_has agg.Count of given e = subst (λ z. IsOfKind z (c.Int (pos 0))) (counted e) refl
  where
    counted : Some k.Int ≡ Some given → k.Int ≡ given
    counted q = cc
nothing_has f of given e = refl

aggregate_has : (p : Settings) (f : AggKind) (of given : Kind) (xs : List Cell) → aggregate_kind f of ≡ Some given → Known of xs → HasKind given (aggregate p f xs)
aggregate_has p f of given [] e h = nothing_has f of given e
aggregate_has p f of given (x ∷ xs) e h = values_have p f of given x xs e h

pub group_has : (p : Settings) (f : AggKind) (of given : Kind) (xs : List Cell) → aggregate_kind f of ≡ Some given → AllByRecursion (IsOfKind of) xs → HasKind given (group_value p f xs)
group_has p f of given xs e all = aggregate_has p f of given (values_of xs) e (values_known of xs all)

-- ---- CASE
-- what a kind is that stands for another one
pub through : (wanted given : Kind) (v : Cell) → meets wanted given ≡ true → IsOfKind given v → IsOfKind wanted v
through wanted given v h i = (and_parts (meets wanted (kind_of v)) true (meet_through (wanted ∷ []) (given ∷ []) (kind_of v ∷ []) (beside (meets wanted given) h) (beside (meets given (kind_of v)) i))).0
  where
    beside : (d : Bool) → d ≡ true → (d && true) ≡ true
    beside d e = ap (λ t. t && true) e

pub shared_pair : (a b kind : Kind) → shared_kind a b ≡ Some kind → common_kind (a ∷ b ∷ []) ≡ Some kind
shared_pair a b kind e = ap (option_and_then (shared_kind a)) (alone b) ∙ e
  where
    alone : (x : Kind) → shared_kind x k.Null ≡ Some x
    alone k.Null = refl
    alone k.Bool = refl
    alone k.Int = refl
    alone k.Num = refl
    alone k.Text = refl
    alone k.Day = refl
    alone k.Period = refl

pub common_all : (kinds : List Kind) (kind : Kind) → common_kind kinds ≡ Some kind → AllByRecursion (λ x. (v : Cell) → IsOfKind x v → IsOfKind kind v) kinds
common_all [] kind e = tt
common_all (x ∷ xs) kind e =
    let t = then_some (common_kind xs) (shared_kind x) kind e in
    let pair = shared_pair x t.0 kind t.2 in
    ((λ v h. common_left x t.0 (kind_of v) kind pair h), higher t.0 (λ v h. common_right x t.0 (kind_of v) kind pair h) xs (common_all xs t.0 t.1))
  where
    higher : (other : Kind) → ((v : Cell) → IsOfKind other v → IsOfKind kind v) → (ys : List Kind) → AllByRecursion (λ y. (v : Cell) → IsOfKind y v → IsOfKind other v) ys → AllByRecursion (λ y. (v : Cell) → IsOfKind y v → IsOfKind kind v) ys
    higher other up [] all = tt
    higher other up (y ∷ ys) all = ((λ v h. up v (all.0 v h)), higher other up ys all.1)

pub branch_has : (o : Option Bool) (a b : Outcome Cell) (P : Cell → Type 0) → P c.Null → IfOk a P → IfOk b P → IfOk (branch o a b) P
branch_has (Some true) a b P n h i = h
branch_has (Some false) a b P n h i = i
branch_has None a b P n h i = n

pub null_has : (kind : Kind) → IsOfKind kind c.Null
null_has kind = refl

pub unless_has : {A : Type 0} (P : A → Type 0) (f : Option Fault) (x : A) → P x → IfOk (unless f x) P
unless_has P None x h = h
unless_has P (Some e) x h = tt
