-- The values of literals.
use Rattle.std.proofs.Common.{◌≡◌, ℕ, Bool, true, false, cond, not, ◌^◌, ◌-◌, ◌⊎◌, inl, inr, List, [], ◌∷◌, ◌++◌, Option, Some, None, option_map, option_and_then, Result, Ok, Err, refl, sym, subst, true≢false}
use Rattle.std.proofs.lemmas.Bool.{false≢true}
use Rattle.std.proofs.lemmas.Option.{IfSome_then}
use Rattle.std.specs.List.{AllByRecursion}
use Rattle.std.specs.Option.{IfSome}
use Rattle.std.specs.Prelude.{chars, encode_utf8_all, nat_lt, unsigned_abs, ℤ, neg_ℤ}
use Rattle.std.specs.Result.{IsOk, result_ok}
use Rattle.vtl_decimal.specs.Numeral.{number_spelled}
use Rattle.vtl_decimal.specs.Range.{fit_integer, fit_number}
use Rattle.vtl_decimal.specs.Settings.{Settings}
use Rattle.vtl_decimal.specs.declared.number.Fault.{Fault}
use Rattle.vtl_decimal.specs.declared.number.Fault.TheVariants.{Range}
use Rattle.vtl_lists.specs.Results.{◌>>=◌}
use Rattle.vtl_lists.proofs.Alls.{all_append}
use Rattle.check_faults.specs.Rules.{ruled}
use Rattle.check_faults.specs.declared.rules.Rule.TheVariants as rule
use Rattle.vtl_cell.specs.Conversion.{as_kind}
use Rattle.vtl_cell.specs.Kinds.{is_null, is_of}
use Rattle.vtl_cell.specs.Profile.{IsOfProfile}
use Rattle.vtl_cell.specs.ScalarArithmetic.{integer, negation_of, number, units}
use Rattle.vtl_cell.specs.ScalarKinds.{meets}
use Rattle.vtl_cell.specs.declared.cell.Cell.{Cell}
use Rattle.vtl_cell.specs.declared.cell.Cell.TheVariants as c
use Rattle.vtl_cell.specs.declared.kind.Kind.{Kind}
use Rattle.vtl_cell.specs.declared.kind.Kind.TheVariants as k
use Rattle.vtl_syntax.specs.declared.parts.Constant.{Constant}
use Rattle.vtl_syntax.specs.declared.parts.Constant.TheVariants as constant
use Rattle.vtl_syntax.specs.declared.parts.Literal.{Literal}
use Rattle.vtl_syntax.specs.declared.parts.Literal.TheVariants as literal
use Rattle.vtl_syntax.specs.declared.parts.Numeral.TheVariants as numeral
use Rattle.vtl_syntax.specs.declared.parts.Numeral.{Numeral as Written}
use Rattle.vtl_syntax.specs.declared.word_groups.CastKind.{CastKind}
use Rattle.vtl_syntax.specs.declared.word_groups.CastKind.TheVariants as cast
use Rattle.vtl_tree.specs.CompExp.{const}
use Rattle.check_values.specs.Literals.{cast_kind, constant_cell, constant_typed, kind_met, literal_cell, literal_kind, members_typed, numeral_cell, numeral_kind, set_typed, shared_beside, shared_or, valued}
use Rattle.vtl_cell.specs.Literals.{integer_written, is_null_kind, written}
use Rattle.vtl_tree.specs.declared.structure.Component.{Component}
use Rattle.vtl_time.specs.Days.{read_day_of}
use Rattle.vtl_time.specs.Periods.{read_period_of}
use Rattle.vtl_meaning.specs.Made.{IsTyped}
use Rattle.check_laws.specs.Gives.{Gives}
use Rattle.vtl_rulings.proofs.HierarchyProfiles.{written_fits}
use Rattle.check_laws.proofs.Steps.{after, then}

-- ---- options
some-then : {X Y : Type 0} (P : X → Type 0) (Q : Y → Type 0) (f : X → Option Y) (o : Option X) → IfSome o P → ((x : X) → P x → IfSome (f x) Q) → IfSome (option_and_then f o) Q
some-then P Q f None h g = tt
some-then P Q f (Some x) h g = g x h

some-map : {X Y : Type 0} (P : Y → Type 0) (f : X → Y) (o : Option X) → IfSome o (λ x. P (f x)) → IfSome (option_map f o) P
some-map P f None h = tt
some-map P f (Some x) h = h

some-each : {X : Type 0} (P : X → Type 0) (o : Option X) → ((x : X) → P x) → IfSome o P
some-each P None f = tt
some-each P (Some x) f = f x

pub valued-gives : (P : Cell → Type 0) (o : Option Cell) → IfSome o P → Gives P (valued o)
valued-gives P None h = tt
valued-gives P (Some v) h = h

-- ---- constants and literals
-- a value of the profile, of this kind, that is not null
abbrev pub IsCell : Settings → Kind → Cell → Type 0
IsCell p kind v = IsOfProfile p v × (is_of kind v ≡ true) × (is_null v ≡ false)

abbrev is_number : Cell → Bool
is_number (c.Int n) = true
is_number (c.Num n) = true
is_number v = false

abbrev IsNumber : Settings → Kind → Cell → Type 0
IsNumber p kind v = IsCell p kind v × (is_number v ≡ true)

numeral-cell : (p : Settings) (n : Written) → IfSome (numeral_cell p n) (IsNumber p (numeral_kind n))
numeral-cell p (numeral.Integer digits) = some-map (IsNumber p k.Int) c.Int (integer_written p digits) (IfSome_then (integer_written p digits) {P = λ n. IsOk (fit_integer p.scale n)} {Q = λ n. IsNumber p k.Int (c.Int n)} (written_fits p digits) (λ n h. ((h, refl, refl), refl)))
numeral-cell p (numeral.Decimal digits) = some-map (IsNumber p k.Num) c.Num (number_spelled p (encode_utf8_all digits)) (some-each (λ x. IsNumber p k.Num (c.Num x)) (number_spelled p (encode_utf8_all digits)) (λ x. ((tt, refl, refl), refl)))

-- which numbers belong to a kind does not depend on the number
int-of : (kind : Kind) (m n : ℤ) → is_of kind (c.Int m) ≡ true → is_of kind (c.Int n) ≡ true
int-of k.Null m n e = e
int-of k.Bool m n e = e
int-of k.Int m n e = e
int-of k.Num m n e = e
int-of k.Text m n e = e
int-of k.Day m n e = e
int-of k.Period m n e = e

num-of : (kind : Kind) (m n : ℤ) → is_of kind (c.Num m) ≡ true → is_of kind (c.Num n) ≡ true
num-of k.Null m n e = e
num-of k.Bool m n e = e
num-of k.Int m n e = e
num-of k.Num m n e = e
num-of k.Text m n e = e
num-of k.Day m n e = e
num-of k.Period m n e = e

negated : (p : Settings) (kind : Kind) (v : Cell) → IsNumber p kind v → IfSome (result_ok (negation_of p v)) (IsCell p kind)
negated p kind (c.Int n) h = go (nat_lt (unsigned_abs (neg_ℤ n)) (10 ^ (18 - p.scale))) refl
  where
    go : (b : Bool) → nat_lt (unsigned_abs (neg_ℤ n)) (10 ^ (18 - p.scale)) ≡ b → IfSome (result_ok (integer (cond b (Ok (neg_ℤ n)) (Err Range)))) (IsCell p kind)
    go true e = (subst (λ b. IsOk {T = ℤ} {E = Fault} (cond b (Ok (neg_ℤ n)) (Err Range))) (sym e) refl, int-of kind n (neg_ℤ n) h.0.1, refl)
    go false e = tt
negated p kind (c.Num x) h = (tt, num-of kind x (neg_ℤ x) h.0.1, refl)
negated p kind c.Null h = absurd (false≢true h.1)
negated p kind (c.Bool x) h = absurd (false≢true h.1)
negated p kind (c.Text x) h = absurd (false≢true h.1)
negated p kind (c.Day x) h = absurd (false≢true h.1)
negated p kind (c.Period x) h = absurd (false≢true h.1)

cast-cell : (p : Settings) (text : List ℕ) (kind : CastKind) → IfSome (written p (cast_kind kind) text) (IsCell p (cast_kind kind))
cast-cell p text cast.Date = some-map (IsCell p k.Day) c.Day (read_day_of (chars (encode_utf8_all text))) (some-each (λ x. IsCell p k.Day (c.Day x)) (read_day_of (chars (encode_utf8_all text))) (λ x. (tt, refl, refl)))
cast-cell p text cast.TimePeriod = some-map (IsCell p k.Period) c.Period (read_period_of (chars (encode_utf8_all text))) (some-each (λ x. IsCell p k.Period (c.Period x)) (read_period_of (chars (encode_utf8_all text))) (λ x. (tt, refl, refl)))

pub literal-cell : (p : Settings) (l : Literal) → IfSome (literal_cell p l) (IsCell p (literal_kind l))
literal-cell p (literal.Number false n) = IfSome_then (numeral_cell p n) {P = IsNumber p (numeral_kind n)} {Q = IsCell p (numeral_kind n)} (numeral-cell p n) (λ v h. h.0)
literal-cell p (literal.Number true n) = some-then (IsNumber p (numeral_kind n)) (IsCell p (numeral_kind n)) (λ x. result_ok (negation_of p x)) (numeral_cell p n) (numeral-cell p n) (negated p (numeral_kind n))
literal-cell p (literal.String text) = (tt, refl, refl)
literal-cell p (literal.Boolean b) = (tt, refl, refl)
literal-cell p (literal.Cast text kind) = cast-cell p text kind

constant-cell : (p : Settings) (x : Constant) → IfSome (constant_cell p x) (IsOfProfile p)
constant-cell p (constant.Number n) = IfSome_then (numeral_cell p n) {P = IsNumber p (numeral_kind n)} {Q = IsOfProfile p} (numeral-cell p n) (λ v h. h.0.0)
constant-cell p (constant.String text) = tt
constant-cell p (constant.Boolean b) = tt
constant-cell p constant.Null = tt
constant-cell p (constant.Cast text kind) = IfSome_then (written p (cast_kind kind) text) {P = IsCell p (cast_kind kind)} {Q = IsOfProfile p} (cast-cell p text kind) (λ v h. h.0)

pub constant-gives : (p : Settings) (xs : List Component) (x : Constant) → Gives (IsTyped p xs) (constant_typed p x)
constant-gives p xs x = then (IsOfProfile p) (IsTyped p xs) (valued (constant_cell p x)) (λ v. Ok (const v)) (valued-gives (IsOfProfile p) (constant_cell p x) (constant-cell p x)) (λ v h. h)

-- ---- the members of a set
-- a value of the profile that is not null
abbrev pub IsMember : Settings → Cell → Type 0
IsMember p v = IsOfProfile p v × (is_null v ≡ false)

members-give : (p : Settings) (kinds : List Kind) (shared : Kind) (done : List Cell) (ls : List Literal) → AllByRecursion (IsMember p) done → Gives (AllByRecursion (IsMember p)) (members_typed p kinds shared done ls)
members-give p kinds shared done [] h = h
members-give p kinds shared done (l ∷ ls) h =
    after (AllByRecursion (IsMember p)) (shared_or (shared_beside kinds shared (literal_kind l))) (λ kind. valued (literal_cell p l) >>= λ cell. members_typed p kinds kind (done ++ cell ∷ []) ls)
    (λ kind. then (IsCell p (literal_kind l)) (AllByRecursion (IsMember p)) (valued (literal_cell p l)) (λ cell. members_typed p kinds kind (done ++ cell ∷ []) ls) (valued-gives (IsCell p (literal_kind l)) (literal_cell p l) (literal-cell p l))
    (λ cell is. members-give p kinds kind (done ++ cell ∷ []) ls (all_append (IsMember p) done (cell ∷ []) h ((is.0, is.2), tt))))

pub set-gives : (p : Settings) (kinds : List Kind) (ls : List Literal) → Gives (AllByRecursion (IsMember p)) (set_typed p kinds ls)
set-gives p kinds ls = members-give p kinds k.Null [] ls tt

-- ---- a literal as a value of another kind
of-number : (p : Settings) (v : Cell) → (is_of k.Num v ≡ true) ⊎ (is_of k.Int v ≡ true) → IfSome (result_ok (as_kind p k.Num v)) (λ w. is_of k.Num w ≡ true)
of-number p (c.Int n) h = go (fit_number (units p n))
  where
    go : (r : Result ℤ Fault) → IfSome (result_ok (number r)) (λ w. is_of k.Num w ≡ true)
    go (Ok x) = refl
    go (Err e) = tt
of-number p (c.Num x) h = refl
of-number p c.Null h = refl
of-number p (c.Bool x) (inl e) = absurd (false≢true e)
of-number p (c.Bool x) (inr e) = absurd (false≢true e)
of-number p (c.Text x) (inl e) = absurd (false≢true e)
of-number p (c.Text x) (inr e) = absurd (false≢true e)
of-number p (c.Day x) (inl e) = absurd (false≢true e)
of-number p (c.Day x) (inr e) = absurd (false≢true e)
of-number p (c.Period x) (inl e) = absurd (false≢true e)
of-number p (c.Period x) (inr e) = absurd (false≢true e)

as-kind : (p : Settings) (kind given : Kind) (v : Cell) → is_null_kind given ≡ false → meets kind given ≡ true → is_of given v ≡ true → IfSome (result_ok (as_kind p kind v)) (λ w. is_of kind w ≡ true)
as-kind p k.Num k.Num v n m h = of-number p v (inl h)
as-kind p k.Num k.Int v n m h = of-number p v (inr h)
as-kind p k.Bool k.Bool v n m h = h
as-kind p k.Int k.Int v n m h = h
as-kind p k.Text k.Text v n m h = h
as-kind p k.Day k.Day v n m h = h
as-kind p k.Period k.Period v n m h = h
as-kind p kind k.Null v n m h = absurd (true≢false n)
as-kind p kind given v n m h = absurd (false≢true m)

kind-there : (l : Literal) → is_null_kind (literal_kind l) ≡ false
kind-there (literal.Number negative (numeral.Integer digits)) = refl
kind-there (literal.Number negative (numeral.Decimal digits)) = refl
kind-there (literal.String text) = refl
kind-there (literal.Boolean b) = refl
kind-there (literal.Cast text cast.Date) = refl
kind-there (literal.Cast text cast.TimePeriod) = refl

pub literal-as : (p : Settings) (kind : Kind) (l : Literal) → meets kind (literal_kind l) ≡ true → IfSome (option_and_then (λ v. result_ok (as_kind p kind v)) (literal_cell p l)) (λ w. is_of kind w ≡ true)
literal-as p kind l m = some-then (IsCell p (literal_kind l)) (λ w. is_of kind w ≡ true) (λ v. result_ok (as_kind p kind v)) (literal_cell p l) (literal-cell p l) (λ v h. as-kind p kind (literal_kind l) v (kind-there l) m h.1)

pub kind-met : (kind given : Kind) → Gives (λ u. meets kind given ≡ true) (kind_met kind given)
kind-met kind given = go (meets kind given)
  where
    go : (b : Bool) → Gives (λ u. b ≡ true) (ruled ((rule.WrongKind, not b) ∷ []) (tt {0}))
    go true = refl
    go false = tt
