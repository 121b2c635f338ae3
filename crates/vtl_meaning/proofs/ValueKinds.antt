-- The value of a typed expression is null or of exactly its kind.
use Rattle.std.proofs.Common.{◌≡◌, ℕ, zero, suc, Bool, true, false, List, [], ◌∷◌, map, Result, Ok, Err, Option, Some, None, refl, subst}
use Rattle.std.specs.Prelude.{ℤ, IfOk, ◌&&◌, not, if◌then◌else◌}
use Rattle.std.proofs.lemmas.Bool.{and_parts}
use Rattle.vtl_decimal.specs.declared.number.Fault.{Fault as DecimalFault}
use Rattle.vtl_decimal.specs.Range.{fit_number}
use Rattle.vtl_decimal.specs.Settings.{Settings}
use Rattle.vtl_cell.specs.Conversion.{as_kind}
use Rattle.vtl_cell.specs.Kinds.{is_null, is_of, kind_of}
use Rattle.vtl_cell.specs.Outcome.{Outcome, after}
use Rattle.vtl_cell.specs.Outcomes.{all_of, branch, first_chosen, result_of}
use Rattle.vtl_cell.specs.Row.{Row, column_of}
use Rattle.vtl_cell.specs.ScalarArithmetic.{number, units}
use Rattle.vtl_cell.specs.ScalarKinds.{common_kind, kinds_of, meet, meets}
use Rattle.vtl_cell.specs.Scalars.{scalar_of}
use Rattle.vtl_cell.specs.declared.cell.Cell.{Cell}
use Rattle.vtl_cell.specs.declared.cell.Cell.TheVariants as c
use Rattle.vtl_cell.specs.declared.kind.Kind.{Kind}
use Rattle.vtl_cell.specs.declared.kind.Kind.TheVariants as k
use Rattle.vtl_cell.specs.declared.operator.ScalarOp.{ScalarOp}
use Rattle.vtl_cell.specs.declared.operator.ScalarOp.TheVariants as op
use Rattle.vtl_rows.specs.Tables.{fits_kinds}
use Rattle.vtl_scalar.proofs.KindLemmas.{common_left, common_right}
use Rattle.vtl_scalar.proofs.ValueKindLemmas.{value_is_of_kind, when}
use Rattle.vtl_tree.specs.CompExp.{CompExp, CompExps, column, const, call, aggregate, no_comp_exps, comp_exp}
use Rattle.vtl_tree.specs.DataSet.{is_point}
use Rattle.vtl_tree.specs.Structure.{same_role}
use Rattle.vtl_tree.specs.Value.{called, value, values}
use Rattle.vtl_tree.specs.declared.structure.Component.{Component}
use Rattle.vtl_tree.specs.declared.structure.Role.TheVariants as role
use Rattle.vtl_tree.specs.Kinds.{exp_kind}
use Rattle.vtl_meaning.specs.Made.{AreTyped, IsColumnAt, IsTyped, kinds_in}

-- null, or of exactly this kind; and the same of a value that may have a fault
abbrev pub IsOf : Kind → Cell → Type 0
IsOf kind v = is_of kind v ≡ true

abbrev pub GivesOf : Kind → Outcome Cell → Type 0
GivesOf kind m = IfOk m (IsOf kind)

pub after_if : {A B : Type 0} (m : Outcome A) (f : A → Outcome B) (P : A → Type 0) (Q : B → Type 0) → IfOk m P → ((x : A) → P x → IfOk (f x) Q) → IfOk (after m f) Q
after_if (Ok x) f P Q h g = g x h
after_if (Err e) f P Q h g = tt

-- ---- kinds that meet
pub own_kind : (v : Cell) → IsOf (kind_of v) v
own_kind c.Null = refl
own_kind (c.Bool x) = refl
own_kind (c.Int x) = refl
own_kind (c.Num x) = refl
own_kind (c.Text x) = refl
own_kind (c.Day x) = refl
own_kind (c.Period x) = refl

meets_of : (kind : Kind) (v : Cell) → IsOf kind v → meets kind (kind_of v) ≡ true
meets_of kind c.Null h = refl
meets_of k.Bool (c.Bool x) h = refl
meets_of k.Int (c.Int x) h = refl
meets_of k.Num (c.Num x) h = refl
meets_of k.Text (c.Text x) h = refl
meets_of k.Day (c.Day x) h = refl
meets_of k.Period (c.Period x) h = refl
meets_of kind v h = cc

meet_of : (kinds : List Kind) (vs : List Cell) → fits_kinds kinds vs ≡ true → meet kinds (map kind_of vs) ≡ true
meet_of [] [] h = refl
meet_of [] (v ∷ vs) h = cc
meet_of (x ∷ xs) [] h = cc
meet_of (x ∷ xs) (v ∷ vs) h =
    let parts = and_parts (is_of x v) (fits_kinds xs vs) h in
    rw (meets_of x v parts.0) (meet_of xs vs parts.1)

pub null_is_of : (kind : Kind) → IsOf kind c.Null
null_is_of k.Null = refl
null_is_of k.Bool = refl
null_is_of k.Int = refl
null_is_of k.Num = refl
null_is_of k.Text = refl
null_is_of k.Day = refl
null_is_of k.Period = refl

number_is_of : (r : Result ℤ DecimalFault) → GivesOf k.Num (number r)
number_is_of (Ok x) = refl
number_is_of (Err e) = tt

-- a value that meets a kind, as one of that kind
as_kind_is_of : (p : Settings) (kind : Kind) (v : Cell) → meets kind (kind_of v) ≡ true → GivesOf kind (as_kind p kind v)
as_kind_is_of p k.Num (c.Int n) h = number_is_of (fit_number (units p n))
as_kind_is_of p k.Null c.Null h = refl
as_kind_is_of p k.Bool c.Null h = refl
as_kind_is_of p k.Int c.Null h = refl
as_kind_is_of p k.Num c.Null h = refl
as_kind_is_of p k.Text c.Null h = refl
as_kind_is_of p k.Day c.Null h = refl
as_kind_is_of p k.Period c.Null h = refl
as_kind_is_of p k.Bool (c.Bool x) h = refl
as_kind_is_of p k.Int (c.Int x) h = refl
as_kind_is_of p k.Num (c.Num x) h = refl
as_kind_is_of p k.Text (c.Text x) h = refl
as_kind_is_of p k.Day (c.Day x) h = refl
as_kind_is_of p k.Period (c.Period x) h = refl
as_kind_is_of p kind v h = cc

-- ---- operands
-- each operand that has no fault is of its kind
abbrev EachOf : List Kind → List (Outcome Cell) → Type 0
EachOf [] [] = Unit {0}
EachOf [] (m ∷ ms) = ⊥
EachOf (x ∷ xs) [] = ⊥
EachOf (x ∷ xs) (m ∷ ms) = GivesOf x m × EachOf xs ms

all_of_fit : (kinds : List Kind) (ms : List (Outcome Cell)) → EachOf kinds ms → IfOk (all_of ms) (λ vs. fits_kinds kinds vs ≡ true)
all_of_fit [] [] h = refl
all_of_fit [] (m ∷ ms) h = absurd h
all_of_fit (x ∷ xs) [] h = absurd h
all_of_fit (x ∷ xs) (m ∷ ms) h =
    after_if m (λ v. after (all_of ms) (λ vs. Ok (v ∷ vs))) (IsOf x) (λ vs. fits_kinds (x ∷ xs) vs ≡ true) h.0
    (λ v i. after_if (all_of ms) (λ vs. Ok (v ∷ vs)) (λ vs. fits_kinds xs vs ≡ true) (λ vs. fits_kinds (x ∷ xs) vs ≡ true) (all_of_fit xs ms h.1) (λ vs j. rw i j))

-- ---- operators
result_is_of : (p : Settings) (o : ScalarOp) (kind : Kind) (kinds : List Kind) (vs : List Cell) → kinds_of o kinds ≡ Some kind → fits_kinds kinds vs ≡ true → GivesOf kind (result_of p o kind vs)
result_is_of p o kind kinds vs e h =
    after_if (scalar_of p o vs) (as_kind p kind) (λ v. meets kind (kind_of v) ≡ true) (IsOf kind) (value_is_of_kind p o kinds vs kind e (meet_of kinds vs h)) (as_kind_is_of p kind)

plain_is_of : (p : Settings) (o : ScalarOp) (kind : Kind) (kinds : List Kind) (ms : List (Outcome Cell)) → kinds_of o kinds ≡ Some kind → EachOf kinds ms → GivesOf kind (after (all_of ms) (result_of p o kind))
plain_is_of p o kind kinds ms e h =
    after_if (all_of ms) (result_of p o kind) (λ vs. fits_kinds kinds vs ≡ true) (IsOf kind) (all_of_fit kinds ms h) (λ vs i. result_is_of p o kind kinds vs e i)

pub branch_if : (o : Option Bool) (a b : Outcome Cell) (Q : Cell → Type 0) → IfOk a Q → IfOk b Q → Q c.Null → IfOk (branch o a b) Q
branch_if (Some true) a b Q h i n = h
branch_if (Some false) a b Q h i n = i
branch_if None a b Q h i n = n

if_more : {A : Type 0} (m : Outcome A) (P Q : A → Type 0) → ((x : A) → P x → Q x) → IfOk m P → IfOk m Q
if_more (Ok x) P Q f h = f x h
if_more (Err e) P Q f h = tt

-- `if` gives the branch that it chooses, as a value of its kind
choice_is_of : (p : Settings) (kind : Kind) (t a b : Outcome Cell) (kinds : List Kind) → kinds_of op.If kinds ≡ Some kind → EachOf kinds (t ∷ a ∷ b ∷ []) → GivesOf kind (called p kind (t ∷ a ∷ b ∷ []) op.If)
choice_is_of p kind t a b [] e h = absurd h
choice_is_of p kind t a b (x ∷ []) e h = absurd h.1
choice_is_of p kind t a b (x ∷ y ∷ []) e h = absurd h.1.1
choice_is_of p kind t a b (x ∷ y ∷ z ∷ w ∷ more) e h = absurd h.1.1.1
choice_is_of p kind t a b (x ∷ y ∷ z ∷ []) e h =
    let both : common_kind (y ∷ z ∷ []) ≡ Some kind = when (meets k.Bool x) (common_kind (y ∷ z ∷ [])) kind e in
    let Met : Cell → Type 0 = λ v. meets kind (kind_of v) ≡ true in
    let first : IfOk a Met = if_more a (IsOf y) Met (λ v i. common_left y z (kind_of v) kind both (meets_of y v i)) h.1.0 in
    let second : IfOk b Met = if_more b (IsOf z) Met (λ v i. common_right y z (kind_of v) kind both (meets_of z v i)) h.1.1.0 in
    after_if t (λ w. after (branch (first_chosen w) a b) (as_kind p kind)) (IsOf x) (IsOf kind) h.0
    (λ w i. after_if (branch (first_chosen w) a b) (as_kind p kind) Met (IsOf kind) (branch_if (first_chosen w) a b Met first second refl) (as_kind_is_of p kind))

called_is_of : (p : Settings) (kind : Kind) (ms : List (Outcome Cell)) (o : ScalarOp) (kinds : List Kind) → kinds_of o kinds ≡ Some kind → EachOf kinds ms → GivesOf kind (called p kind ms o)
called_is_of p kind (t ∷ a ∷ b ∷ []) op.If kinds e h = choice_is_of p kind t a b kinds e h
called_is_of p kind [] o kinds e h = plain_is_of p o kind kinds [] e h
called_is_of p kind (x ∷ []) o kinds e h = plain_is_of p o kind kinds (x ∷ []) e h
called_is_of p kind (x ∷ y ∷ []) o kinds e h = plain_is_of p o kind kinds (x ∷ y ∷ []) e h
called_is_of p kind (x ∷ y ∷ z ∷ []) o kinds e h = plain_is_of p o kind kinds (x ∷ y ∷ z ∷ []) e h
called_is_of p kind (x ∷ y ∷ z ∷ w ∷ more) o kinds e h = plain_is_of p o kind kinds (x ∷ y ∷ z ∷ w ∷ more) e h

-- ---- points
-- the first cell of a point is of its column's kind and no null identifier, and the others are a point of the other columns
pub point_parts : (x : Component) (xs : List Component) (v : Cell) (vs : Row) → is_point (x ∷ xs) (v ∷ vs) ≡ true → IsOf x.kind v × (not (same_role x.role role.Identifier && is_null v) ≡ true) × (is_point xs vs ≡ true)
point_parts x xs v vs h =
    let parts = and_parts (is_of x.kind v && not (same_role x.role role.Identifier && is_null v)) (is_point xs vs) h in
    let first = and_parts (is_of x.kind v) (not (same_role x.role role.Identifier && is_null v)) parts.0 in
    (first.0, first.1, parts.1)

pub point_from : (x : Component) (xs : List Component) (v : Cell) (vs : Row) → IsOf x.kind v → not (same_role x.role role.Identifier && is_null v) ≡ true → is_point xs vs ≡ true → is_point (x ∷ xs) (v ∷ vs) ≡ true
point_from x xs v vs h i j = rw (h, i) j

-- ---- expressions
-- a cell of a point is of its column's kind
pub cell_is_of : (place : ℕ) (name : List ℕ) (kind : Kind) (xs : List Component) (r : Row) → IsColumnAt place name kind xs → is_point xs r ≡ true → IsOf kind (column_of place r)
cell_is_of place name kind [] r i h = absurd i
cell_is_of zero name kind (x ∷ xs) [] i h = cc
cell_is_of zero name kind (x ∷ xs) (v ∷ vs) i h = subst (λ y. IsOf y v) i.1 (point_parts x xs v vs h).0
cell_is_of (suc place) name kind (x ∷ xs) [] i h = cc
cell_is_of (suc place) name kind (x ∷ xs) (v ∷ vs) i h = cell_is_of place name kind xs vs i (point_parts x xs v vs h).2

mutual
  pub value_is_of : (p : Settings) (xs : List Component) (e : CompExp) (r : Row) → IsTyped p xs e → is_point xs r ≡ true → GivesOf (exp_kind e) (value p e r)
  value_is_of p xs (column place name kind) r i h = cell_is_of place name kind xs r i h
  value_is_of p xs (const v) r i h = own_kind v
  value_is_of p xs (call o kind args) r i h = called_is_of p kind (values p args r) o (kinds_in args) i.0 (values_are_of p xs args r i.1 h)
  value_is_of p xs (aggregate a kind) r i h = absurd i

  values_are_of : (p : Settings) (xs : List Component) (es : CompExps) (r : Row) → AreTyped p xs es → is_point xs r ≡ true → EachOf (kinds_in es) (values p es r)
  values_are_of p xs no_comp_exps r i h = tt
  values_are_of p xs (comp_exp e es) r i h = (value_is_of p xs e r i.0 h, values_are_of p xs es r i.1 h)
