-- The rows of queries and scripts are of the profile where those of the tables are; nothing is asked of typing.
use Rattle.std.proofs.Common.{◌≡◌, ◌==◌, ◌/◌, ◌%◌, ◌^◌, ◌-◌, ◌+◌, ◌≤◌, ℕ, zero, suc, pos, ℤ, Bool, true, false, cond, not, List, [], ◌∷◌, ◌++◌, map, length, Result, Option, Some, None, Ok, Err, refl, arith}
use Rattle.std.specs.Prelude.{IfOk, count_by, encode_utf8_all, fold, nat_lt, option_and_then, option_map, unsigned_abs, unwrap_or, zip}
use Rattle.std.specs.Int.RustNames.{int_le}
use Rattle.std.specs.List.{AllByRecursion, flat_map, list_all}
use Rattle.std.specs.Map.{lookup}
use Rattle.std.specs.Ordering.{is_lt}
use Rattle.std.specs.Result.{result_ok}
use Rattle.vtl_lists.proofs.Perms.{AllByRecursion-Perm, Perm-sym}
use Rattle.vtl_lists.proofs.Sorts.{AllByRecursion-filter, Perm-sorted_by}
use Rattle.vtl_decimal.specs.Operators.{quotient}
use Rattle.vtl_decimal.specs.Tally.{mean_of, tally_of}
use Rattle.vtl_decimal.proofs.PowerLemmas.{power_of_ten_fits}
use Rattle.vtl_decimal.specs.declared.number.Fault.{Fault as DecimalFault}
use Rattle.vtl_cell.specs.Conversion.{as_kind}
use Rattle.vtl_cell.specs.Groups.{aggregate, greatest, group_value, is_integer, least, middle_of, number_or_null, numbers_of, of_nothing, of_values, ratio_of, total_of, units_of, values_of, wholes_of}
use Rattle.vtl_cell.specs.Kinds.{is_null, is_of}
use Rattle.vtl_decimal.specs.Numeral.{Numeral as Spelled, denominator, integer_of, number_spelled, numeral_of, numerator, signed}
use Rattle.vtl_decimal.specs.declared.number.Fault.TheVariants.{Range}
use Rattle.vtl_cell.specs.Outcome.{Outcome, after, fault_in, faults_by, join}
use Rattle.vtl_cell.specs.Outcomes.{all_of, branch, first_chosen, is_true, result_of}
use Rattle.vtl_cell.specs.Profile.{IsOfProfile}
use Rattle.vtl_decimal.specs.Range.{fit_integer, fit_number}
use Rattle.vtl_lists.specs.Results.{◌>>=◌}
use Rattle.vtl_cell.specs.Row.{Row, column_of, same_row}
use Rattle.vtl_cell.specs.ScalarArithmetic.{integer, negation_of, number, units}
use Rattle.vtl_cell.specs.Scalars.{scalar_of}
use Rattle.vtl_decimal.specs.Settings.{Settings}
use Rattle.vtl_cell.specs.Sorted.{by_keys}
use Rattle.vtl_lists.specs.Sorting.{sorted_by}
use Rattle.vtl_text.specs.Texts.{same_text}
use Rattle.vtl_cell.specs.declared.cell.Cell.{Cell}
use Rattle.vtl_cell.specs.declared.cell.Cell.TheVariants as c
use Rattle.vtl_cell.specs.declared.kind.Kind.{Kind}
use Rattle.vtl_cell.specs.declared.kind.Kind.TheVariants as k
use Rattle.vtl_cell.specs.declared.operator.AggKind.{AggKind}
use Rattle.vtl_cell.specs.declared.operator.AggKind.TheVariants as agg
use Rattle.vtl_cell.specs.declared.operator.ScalarOp.{ScalarOp}
use Rattle.vtl_cell.specs.declared.operator.ScalarOp.TheVariants as op
use Rattle.vtl_cell.proofs.Extremes.{greatest_member, least_member}
use Rattle.vtl_cell.proofs.Keys.{window_order}
use Rattle.vtl_cell.proofs.Readings.{read_kind}
use Rattle.vtl_cell.specs.Literals.{integer_cell, number_cell, with_sign, written}
use Rattle.vtl_rows.specs.Tables.{cells_at}
use Rattle.vtl_time.specs.Periods.{YearPart}
use Rattle.vtl_scalar.proofs.ProfileLemmas.{Gives, number_gives, value_is_of_profile}
use Rattle.sql_tree.specs.Trees as tree
use Rattle.sql_tree.specs.Trees.{Branches, Exp, Exps, JoinTree, QueryTree, ScriptTree, SelectTree, StatementTree, Text, ValueTree}
use Rattle.sql_tree.specs.declared.parts.Source.{Source}
use Rattle.sql_tree.specs.declared.parts.Column.{Column}
use Rattle.sql_tree.specs.declared.parts.Constant.{Constant}
use Rattle.sql_tree.specs.declared.parts.Constant.TheVariants as constant
use Rattle.sql_tree.specs.declared.parts.Literal.{Literal}
use Rattle.sql_tree.specs.declared.parts.Literal.TheVariants as literal
use Rattle.sql_tree.specs.declared.parts.Numeral.TheVariants as numeral
use Rattle.sql_tree.specs.declared.windows.Over.{Over}
use Rattle.sql_tree.specs.declared.windows.Window.{Window}
use Rattle.sql_tree.specs.declared.windows.WindowCall.{WindowCall}
use Rattle.sql_tree.specs.declared.windows.WindowCall.TheVariants as call
use Rattle.sql_tree.specs.declared.word_groups.ValueFunction.TheVariants as value
use Rattle.sql_check_parts.specs.Kinds.{kind_in}
use Rattle.sql_check_parts.specs.Queries.{is_grouped, query_columns, scope_of}
use Rattle.sql_check_parts.specs.Scopes.{Scope, row_of, with_source}
use Rattle.sql_meaning.specs.From.{Joined, beside, condition_fault, first_of, holds, joined, kept, nulls, source_rows, with_join}
use Rattle.sql_meaning.specs.Groups.{keys_by, rows_with}
use Rattle.sql_meaning.specs.Outcomes.{all_values, cell_or_null, operated, row_at, row_fault}
use Rattle.sql_meaning.specs.Profiles.{AreOfProfile, HeldOfProfile, InputsOfProfile, IsRowOfProfile, TablesOfProfile}
use Rattle.sql_meaning.specs.Scripts.{Data, Inputs, Made, NamedFault, Table, and_table, base_of, created, input_table, no_table, or_named, rows_read, statement_made, statements_made, table_named}
use Rattle.sql_meaning.specs.Selects.{Wanted, at_key, group_item, grouped_rows, having_fault, item_value, kept_keys, key_value, plain_rows, query_value, row_value, rows_in, second_phase, select_value}
use Rattle.sql_meaning.specs.Tables.{Base, columns_given, columns_named, kinds_of, rows_from}
use Rattle.sql_meaning.specs.Values.{View, at_groups, at_rows, cell_at, chosen, constant_cell, literal_cell, place_in, set_operator, value, values}
use Rattle.sql_meaning.specs.Windows.{Stand, call_value, cells_of, count_of, default_cell, framed, keys_of, partition_of, partition_places, stand_in, told_apart, window_value}
use Rattle.sql_meaning.proofs.Lists.{all_once, under}
use Rattle.sql_meaning.proofs.SeriesColumns.{given_all}
use Rattle.sql_meaning.proofs.OperatorKinds.{after_if, all_ok, branch_has, member_has, unless_has}
use Rattle.sql_meaning.proofs.SourceKinds.{joined_all, pairs_all}
use Rattle.sql_meaning.proofs.WindowKinds.{framed_all, get_or_all, shift_has}

-- ---- integers that were made to fit

fit_gives : (p : Settings) (n : ℤ) → IfOk (fit_integer p.scale n) (λ m. IsOfProfile p (c.Int m))
fit_gives p n = go (nat_lt (unsigned_abs n) (10 ^ (18 - p.scale))) refl
  where
    go : (b : Bool) → nat_lt (unsigned_abs n) (10 ^ (18 - p.scale)) ≡ b → IfOk (cond b (Ok n) (Err Range)) (λ m. IsOfProfile p (c.Int m))
    go true e = rw e refl
    go false e = tt

integer_gives : (p : Settings) (r : Result ℤ DecimalFault) → IfOk r (λ m. IsOfProfile p (c.Int m)) → Gives p (integer r)
integer_gives p (Ok m) h = h
integer_gives p (Err e) h = tt

whole_gives : (p : Settings) (n : ℤ) → Gives p (integer (fit_integer p.scale n))
whole_gives p n = integer_gives p (fit_integer p.scale n) (fit_gives p n)

zero_is : (p : Settings) → IsOfProfile p (c.Int (pos 0))
zero_is p = go (nat_lt 0 (10 ^ (18 - p.scale))) refl
  where
    go : (b : Bool) → nat_lt 0 (10 ^ (18 - p.scale)) ≡ b → IsOfProfile p (c.Int (pos 0))
    go true e = rw e refl
    go false e =
        let most : 18 - p.scale ≤ 18 = omega arith in
        let some = (power_of_ten_fits (18 - p.scale) most).0 in
        absurd (grind (arith, e, some))

-- ---- cells and operators

as_kind_gives : (p : Settings) (kind : Kind) (v : Cell) → IsOfProfile p v → Gives p (as_kind p kind v)
as_kind_gives p k.Num (c.Int n) h = number_gives p (fit_number (units p n))
as_kind_gives p kind v h = h

pub cell_is : (p : Settings) (i : ℕ) (r : Row) → IsRowOfProfile p r → IsOfProfile p (column_of i r)
cell_is p i r h = get_or_all (IsOfProfile p) r i c.Null h tt

cells_are : (p : Settings) (places : List ℕ) (r : Row) → IsRowOfProfile p r → IsRowOfProfile p (cells_at places r)
cells_are p [] r h = tt
cells_are p (i ∷ places) r h = (cell_is p i r h, cells_are p places r h)

all_give : (p : Settings) (ms : List (Outcome Cell)) → AllByRecursion (Gives p) ms → IfOk (all_of ms) (IsRowOfProfile p)
all_give p [] h = tt
all_give p (m ∷ ms) h =
    after_if m (λ v. after (all_of ms) (λ vs. Ok (v ∷ vs))) (IsOfProfile p) (IsRowOfProfile p) h.0
    (λ v i. after_if (all_of ms) (λ vs. Ok (v ∷ vs)) (IsRowOfProfile p) (IsRowOfProfile p) (all_give p ms h.1) (λ vs j. (i, j)))

operated_gives : (p : Settings) (kind : Kind) (ms : List (Outcome Cell)) (o : ScalarOp) → AllByRecursion (Gives p) ms → Gives p (operated p kind ms o)
operated_gives p kind ms o h =
    after_if (all_of ms) (result_of p o kind) (IsRowOfProfile p) (IsOfProfile p) (all_give p ms h)
    (λ vs i. after_if (scalar_of p o vs) (as_kind p kind) (IsOfProfile p) (IsOfProfile p) (value_is_of_profile p o vs i) (as_kind_gives p kind))

-- ---- constants and literals

written_is : (p : Settings) (t : List ℕ) (kind : Kind) → ((v : Cell) → is_of kind v ≡ true → IsOfProfile p v) → (o : Option Cell) → written p kind t ≡ o → IsOfProfile p (unwrap_or o c.Null)
written_is p t kind h None e = tt
written_is p t kind h (Some v) e = h v (read_kind p kind (encode_utf8_all t) v e).0

day_is : (p : Settings) (v : Cell) → is_of k.Day v ≡ true → IsOfProfile p v
day_is p (c.Int n) e = cc
day_is p v e = tt

period_is : (p : Settings) (v : Cell) → is_of k.Period v ≡ true → IsOfProfile p v
period_is p (c.Int n) e = cc
period_is p v e = tt

mapped_is : {A : Type 0} (p : Settings) (f : A → Cell) (P : A → Type 0) (o : Option A) → ((x : A) → P x → IsOfProfile p (f x)) → ((x : A) → o ≡ Some x → P x) → IsOfProfile p (unwrap_or (option_map f o) c.Null)
mapped_is p f P None h all = tt
mapped_is p f P (Some x) h all = h x (all x refl)

spelled_is : (p : Settings) (t : List ℕ) → IsOfProfile p (unwrap_or (integer_cell p t) c.Null)
spelled_is p t = go (numeral_of (encode_utf8_all t))
  where
    fitted : (r : Result ℤ DecimalFault) → IfOk r (λ m. IsOfProfile p (c.Int m)) → IsOfProfile p (unwrap_or (option_map c.Int (result_ok r)) c.Null)
    fitted (Ok m) h = h
    fitted (Err e) h = tt

    whole : (b : Bool) (n : ℤ) → IsOfProfile p (unwrap_or (option_map c.Int (cond b (result_ok (fit_integer p.scale n)) None)) c.Null)
    whole true n = fitted (fit_integer p.scale n) (fit_gives p n)
    whole false n = tt

    go : (o : Option Spelled) → IsOfProfile p (unwrap_or (option_map c.Int (option_and_then (integer_of p.scale) o)) c.Null)
    go None = tt
    go (Some n) = whole (numerator 0 n % denominator n == 0) (signed n.negative (numerator 0 n / denominator n))

decimal_is : (p : Settings) (t : List ℕ) → IsOfProfile p (unwrap_or (number_cell p t) c.Null)
decimal_is p t = go (number_spelled p (encode_utf8_all t))
  where
    go : (o : Option ℤ) → IsOfProfile p (unwrap_or (option_map c.Num o) c.Null)
    go None = tt
    go (Some k) = tt

pub constant_is : (p : Settings) (x : Constant) → IsOfProfile p (constant_cell p x)
constant_is p (constant.Number (numeral.Int digits)) = spelled_is p digits
constant_is p (constant.Number (numeral.Dec digits)) = decimal_is p digits
constant_is p (constant.Text text) = tt
constant_is p constant.True = tt
constant_is p constant.False = tt
constant_is p constant.Null = tt
constant_is p (constant.Date text) = written_is p text k.Day (day_is p) (written p k.Day text) refl
constant_is p (constant.Period text) = written_is p text k.Period (period_is p) (written p k.Period text) refl

sign_is : (p : Settings) (negative : Bool) (o : Option Cell) → IsOfProfile p (unwrap_or o c.Null) → IsOfProfile p (unwrap_or (with_sign p negative o) c.Null)
sign_is p false o h = h
sign_is p true None h = tt
sign_is p true (Some v) h = go (negation_of p v) (value_is_of_profile p op.Negate (v ∷ []) (h, tt))
  where
    go : (m : Outcome Cell) → Gives p m → IsOfProfile p (unwrap_or (result_ok m) c.Null)
    go (Ok w) i = i
    go (Err f) i = tt

pub literal_is : (p : Settings) (x : Literal) → IsOfProfile p (literal_cell p x)
literal_is p (literal.Number negative (numeral.Int digits)) = sign_is p negative (integer_cell p digits) (spelled_is p digits)
literal_is p (literal.Number negative (numeral.Dec digits)) = sign_is p negative (number_cell p digits) (decimal_is p digits)
literal_is p (literal.Text text) = tt
literal_is p literal.True = tt
literal_is p literal.False = tt
literal_is p (literal.Date text) = written_is p text k.Day (day_is p) (written p k.Day text) refl
literal_is p (literal.Period text) = written_is p text k.Period (period_is p) (written p k.Period text) refl

literals_are : (p : Settings) (ls : List Literal) → AllByRecursion (Gives p) (map (λ l. Ok (literal_cell p l)) ls)
literals_are p [] = tt
literals_are p (l ∷ ls) = (literal_is p l, literals_are p ls)

-- ---- aggregates

total_gives : (p : Settings) (xs : List Cell) → Gives p (total_of p xs)
total_gives p xs = go (list_all is_integer xs)
  where
    go : (b : Bool) → Gives p (cond b (integer (fit_integer p.scale (tally_of (wholes_of xs)).total)) (number (fit_number (tally_of (numbers_of p.scale xs)).total)))
    go true = whole_gives p (tally_of (wholes_of xs)).total
    go false = number_gives p (fit_number (tally_of (numbers_of p.scale xs)).total)

or_null_gives : (p : Settings) (o : Option ℤ) → Gives p (number_or_null o)
or_null_gives p None = tt
or_null_gives p (Some n) = number_gives p (fit_number n)

values_give : (p : Settings) (f : AggKind) (x : Cell) (xs : List Cell) → IsRowOfProfile p (x ∷ xs) → Gives p (of_values p f (x ∷ xs))
values_give p agg.Sum x xs h = total_gives p (x ∷ xs)
values_give p agg.Avg x xs h = or_null_gives p (mean_of p.rounding (tally_of (numbers_of p.scale (x ∷ xs))))
values_give p agg.Count x xs h = whole_gives p (pos (length (x ∷ xs)))
values_give p agg.Min x xs h = member_has (IsOfProfile p) (x ∷ xs) (least (x ∷ xs)) h (least_member (x ∷ xs) (omega arith))
values_give p agg.Max x xs h = member_has (IsOfProfile p) (x ∷ xs) (greatest (x ∷ xs)) h (greatest_member (x ∷ xs) (omega arith))
values_give p agg.Median x xs h = number_gives p (fit_number (middle_of p (sorted_by int_le (numbers_of p.scale (x ∷ xs)))))

nothing_is : (p : Settings) (f : AggKind) → IsOfProfile p (of_nothing f)
nothing_is p agg.Count = zero_is p
nothing_is p f = tt

group_gives : (p : Settings) (f : AggKind) (xs : List Cell) → IsRowOfProfile p xs → Gives p (group_value p f xs)
group_gives p f xs h = go (values_of xs) (AllByRecursion-filter (IsOfProfile p) (λ x. not (is_null x)) xs h)
  where
    go : (vs : List Cell) → IsRowOfProfile p vs → Gives p (aggregate p f vs)
    go [] i = nothing_is p f
    go (x ∷ vs) i = values_give p f x vs i

-- ---- expressions

module _ (b : Base) (scope : Scope) where
  abbrev p : Settings
  p = b.settings

  abbrev by : (Column → ℕ) → View
  by place = record { base = b; scope = scope; place = place }

  mutual
    value_gives : (place : Column → ℕ) (e : Exp) (r : Row) (rows : List Row) → IsRowOfProfile p r → AreOfProfile p rows → Gives p (value (by place) e r rows)
    value_gives place (tree.binary x o y) r rows h all = operated_gives p (kind_in scope (tree.binary x o y)) (value (by place) x r rows ∷ value (by place) y r rows ∷ []) o (value_gives place x r rows h all, (value_gives place y r rows h all, tt))
    value_gives place (tree.unary o e) r rows h all = operated_gives p (kind_in scope (tree.unary o e)) (value (by place) e r rows ∷ []) o (value_gives place e r rows h all, tt)
    value_gives place (tree.is_null e true) r rows h all =
        operated_gives p k.Bool (operated p k.Bool (value (by place) e r rows ∷ []) op.IsNull ∷ []) op.Not (operated_gives p k.Bool (value (by place) e r rows ∷ []) op.IsNull (value_gives place e r rows h all, tt), tt)
    value_gives place (tree.is_null e false) r rows h all = operated_gives p k.Bool (value (by place) e r rows ∷ []) op.IsNull (value_gives place e r rows h all, tt)
    value_gives place (tree.in_list e negated ls) r rows h all =
        operated_gives p k.Bool (value (by place) e r rows ∷ map (λ l. Ok (literal_cell p l)) ls) (set_operator negated) (value_gives place e r rows h all, literals_are p ls)
    value_gives place (tree.constant x) r rows h all = constant_is p x
    value_gives place (tree.column x) r rows h all = cell_is p (place x) r h
    value_gives place (tree.call f es) r rows h all = operated_gives p (kind_in scope (tree.call f es)) (values (by place) es r rows) f (operands_give place es r rows h all)
    value_gives place tree.count_all r rows h all = whole_gives p (pos (length rows))
    value_gives place (tree.aggregate f e) r rows h all =
        let at_row : Row → Outcome Cell = λ q. value (at_rows b scope) e q [] in
        after_if (all_values at_row rows) (group_value p f) (IsRowOfProfile p) (IsOfProfile p)
        (unless_has (IsRowOfProfile p) (faults_by (λ q. fault_in (at_row q)) rows) (map (λ q. cell_or_null (at_row q)) rows) (all_ok at_row (IsOfProfile p) rows tt (under (λ q row. value_gives (place_in scope) e q [] row tt) rows all)))
        (λ vs i. group_gives p f vs i)
    value_gives place (tree.case_when bs e) r rows h all =
        after_if (chosen (by place) bs r rows (value (by place) e r rows)) (as_kind p (kind_in scope (tree.case_when bs e))) (IsOfProfile p) (IsOfProfile p)
        (chosen_gives place bs r rows h all (value (by place) e r rows) (value_gives place e r rows h all)) (as_kind_gives p (kind_in scope (tree.case_when bs e)))
    value_gives place (tree.exists source es) r rows h all = tt

    operands_give : (place : Column → ℕ) (es : Exps) (r : Row) (rows : List Row) → IsRowOfProfile p r → AreOfProfile p rows → AllByRecursion (Gives p) (values (by place) es r rows)
    operands_give place tree.no_exps r rows h all = tt
    operands_give place (tree.exp e es) r rows h all = (value_gives place e r rows h all, operands_give place es r rows h all)

    chosen_gives : (place : Column → ℕ) (bs : Branches) (r : Row) (rows : List Row) → IsRowOfProfile p r → AreOfProfile p rows → (last : Outcome Cell) → Gives p last → Gives p (chosen (by place) bs r rows last)
    chosen_gives place tree.no_branches r rows h all last i = i
    chosen_gives place (tree.branch x w bs) r rows h all last i =
        let first = value_gives place w r rows h all in
        let others = chosen_gives place bs r rows h all last i in
        after_if (value (by place) x r rows) (λ t. branch (first_chosen t) (value (by place) w r rows) (chosen (by place) bs r rows last)) (IsOfProfile p) (IsOfProfile p) (value_gives place x r rows h all)
        (λ t j. branch_has (first_chosen t) (value (by place) w r rows) (chosen (by place) bs r rows last) (IsOfProfile p) tt first others)

-- ---- windows

ratio_gives : (p : Settings) (x : Cell) (cells : List Cell) → Gives p (ratio_of p x cells)
ratio_gives p x cells = go (is_null x)
  where
    quotients : (m : Result ℤ DecimalFault) → Gives p (after m (λ total. number (quotient p.rounding p.scale (units_of p.scale x) total)))
    quotients (Ok total) = number_gives p (quotient p.rounding p.scale (units_of p.scale x) total)
    quotients (Err e) = tt

    go : (d : Bool) → Gives p (cond d (Ok c.Null) (after (fit_number (tally_of (numbers_of p.scale (values_of cells))).total) (λ total. number (quotient p.rounding p.scale (units_of p.scale x) total))))
    go true = tt
    go false = quotients (fit_number (tally_of (numbers_of p.scale (values_of cells))).total)

column_cells : (v : View) (x : Column) (rows : List Row) → AreOfProfile v.base.settings rows → IsRowOfProfile v.base.settings (cells_of v x rows)
column_cells v x [] all = tt
column_cells v x (r ∷ rows) all = (cell_is v.base.settings (v.place x) r all.0, column_cells v x rows all.1)

default_is : (p : Settings) (default : Option Literal) → IsOfProfile p (default_cell p default)
default_is p None = tt
default_is p (Some l) = literal_is p l

call_gives : (v : View) (w : WindowCall) (o : Over) (s : Stand) → AreOfProfile v.base.settings s.ordered → Gives v.base.settings (call_value v w o s)
call_gives v (call.Aggregate f x) o s all =
    let p = v.base.settings in
    group_gives p f (framed p o.frame s.place (cells_of v x s.ordered)) (framed_all (IsOfProfile p) p o.frame s.place (cells_of v x s.ordered) (column_cells v x s.ordered all))
call_gives v (call.Value value.FirstValue x) o s all =
    let p = v.base.settings in
    cell_is p 0 (framed p o.frame s.place (cells_of v x s.ordered)) (framed_all (IsOfProfile p) p o.frame s.place (cells_of v x s.ordered) (column_cells v x s.ordered all))
call_gives v (call.Value value.LastValue x) o s all =
    let p = v.base.settings in
    let cells = framed p o.frame s.place (cells_of v x s.ordered) in
    cell_is p (length cells - 1) cells (framed_all (IsOfProfile p) p o.frame s.place (cells_of v x s.ordered) (column_cells v x s.ordered all))
call_gives v (call.Value value.RatioToReport x) o s all = ratio_gives v.base.settings (cell_at v s.row x) (cells_of v x s.ordered)
call_gives v (call.Shift f x digits default) o s all =
    let p = v.base.settings in
    shift_has f (IsOfProfile p) (count_of p digits) s.place (default_cell p default) (cells_of v x s.ordered) (default_is p default) (column_cells v x s.ordered all)
call_gives v call.Rank o s all = whole_gives v.base.settings (pos (count_by (λ q. is_lt (by_keys (keys_of v o) q s.row)) s.ordered + 1))

window_gives : (v : View) (w : Window) (rows : List Row) (x : Row × ℕ) → AreOfProfile v.base.settings rows → Gives v.base.settings (window_value v w rows x)
window_gives v w rows x all =
    let p = v.base.settings in
    let keys = keys_of v w.over in
    let places = partition_places v w.over in
    let partition = partition_of places rows x.0 in
    call_gives v w.call w.over (stand_in keys partition x)
    (AllByRecursion-Perm (IsRowOfProfile p) (Perm-sym (Perm-sorted_by (window_order keys []) partition)) (AllByRecursion-filter (IsRowOfProfile p) (λ q. same_row (cells_at places q) (cells_at places x.0)) rows all))

-- ---- rows of items

module _ {X : Type 0} (p : Settings) (f : ValueTree → X → Outcome Cell) where
  abbrev made : Wanted → X → Outcome Cell
  made i y = after (f i.0.value y) (as_kind p i.1)

  row_is : (items : List Wanted) (x : X) → ((w : ValueTree) → Gives p (f w x)) → IsRowOfProfile p (row_at made items x)
  row_is [] x h = tt
  row_is (i ∷ items) x h = (there (made i x) (after_if (f i.0.value x) (as_kind p i.1) (IsOfProfile p) (IsOfProfile p) (h i.0.value) (as_kind_gives p i.1)), row_is items x h)
    where
      there : (m : Outcome Cell) → Gives p m → IsOfProfile p (cell_or_null m)
      there (Ok v) g = g
      there (Err e) g = tt

  rows_are : (items : List Wanted) (P : X → Type 0) (xs : List X) → ((x : X) → P x → (w : ValueTree) → Gives p (f w x)) → AllByRecursion P xs → AreOfProfile p (map (row_at made items) xs)
  rows_are items P [] h all = tt
  rows_are items P (x ∷ xs) h all = (row_is items x (h x all.0), rows_are items P xs h all.1)

told_apart_are : (p : Settings) (rows : List Row) → AreOfProfile p rows → AllByRecursion (λ (x : Row × ℕ). IsRowOfProfile p x.0) (told_apart rows)
told_apart_are p [] all = tt
told_apart_are p (r ∷ rows) all = (all.0, told_apart_are p rows all.1)

module _ (b : Base) (scope : Scope) (rows : List Row) (all : AreOfProfile b.settings rows) where
  abbrev v : View
  v = at_rows b scope

  row_value_gives : (w : ValueTree) (x : Row × ℕ) → IsRowOfProfile b.settings x.0 → Gives b.settings (row_value v rows w x)
  row_value_gives (tree.expression e) x h = value_gives b scope (place_in scope) e x.0 [] h tt
  row_value_gives (tree.window w) x h = window_gives v w rows x all

  plain_are : (items : List Wanted) → IfOk (plain_rows v items rows) (AreOfProfile b.settings)
  plain_are items =
      unless_has (AreOfProfile b.settings) (faults_by (row_fault (item_value v rows) items) (told_apart rows)) (map (row_at (item_value v rows) items) (told_apart rows))
      (rows_are b.settings (row_value v rows) items (λ x. IsRowOfProfile b.settings x.0) (told_apart rows) (λ x h w. row_value_gives w x h) (told_apart_are b.settings rows all))

  keys_are : (group : List Column) → AreOfProfile b.settings (keys_by (map (place_in scope) group) rows)
  keys_are [] = (tt, tt)
  keys_are (x ∷ group) = all_once same_row (IsRowOfProfile b.settings) (map (cells_at (map (place_in scope) (x ∷ group))) rows) (each rows all)
    where
      each : (rs : List Row) → AreOfProfile b.settings rs → AreOfProfile b.settings (map (cells_at (map (place_in scope) (x ∷ group))) rs)
      each [] h = tt
      each (r ∷ rs) h = (cells_are b.settings (map (place_in scope) (x ∷ group)) r h.0, each rs h.1)

  grouped_are : (items : List Wanted) (group : List Column) (having : Option Exp) → IfOk (grouped_rows v items group having rows) (AreOfProfile b.settings)
  grouped_are items group having =
      let w = at_groups b scope group in
      let members = rows_with (map (place_in scope) group) rows in
      let keys = keys_by (map (place_in scope) group) rows in
      let ks = kept_keys w members having keys in
      unless_has (AreOfProfile b.settings) (join (having_fault w members having keys) (faults_by (row_fault (group_item w members) items) ks)) (map (row_at (group_item w members) items) ks)
      (rows_are b.settings (key_value w members) items (IsRowOfProfile b.settings) ks (λ key h t. key_gives t key h) (kept_are having keys (keys_are group)))
    where
      key_gives : (t : ValueTree) (key : Row) → IsRowOfProfile b.settings key → Gives b.settings (key_value (at_groups b scope group) (rows_with (map (place_in scope) group) rows) t key)
      key_gives (tree.expression e) key h =
          value_gives b scope (at_groups b scope group).place e key (rows_with (map (place_in scope) group) rows key) h (AllByRecursion-filter (IsRowOfProfile b.settings) (λ r. same_row (cells_at (map (place_in scope) group) r) key) rows all)
      key_gives (tree.window w) key h = tt

      kept_are : (having : Option Exp) (keys : List Row) → AreOfProfile b.settings keys → AreOfProfile b.settings (kept_keys (at_groups b scope group) (rows_with (map (place_in scope) group) rows) having keys)
      kept_are None keys h = h
      kept_are (Some e) keys h = AllByRecursion-filter (IsRowOfProfile b.settings) (λ key. is_true (at_key (at_groups b scope group) (rows_with (map (place_in scope) group) rows) e key)) keys h

-- ---- FROM and queries

pub append_is : (p : Settings) (x y : Row) → IsRowOfProfile p x → IsRowOfProfile p y → IsRowOfProfile p (x ++ y)
append_is p [] y h i = i
append_is p (v ∷ x) y h i = (h.0, append_is p x y h.1 i)

-- cells of a row with a period behind them
pub dated_is : (p : Settings) (places : List ℕ) (r : Row) → IsRowOfProfile p r → (period : YearPart) → IsRowOfProfile p (cells_at places r ++ c.Period period ∷ [])
dated_is p places r h period = append_is p (cells_at places r) (c.Period period ∷ []) (cells_are p places r h) (tt, tt)

nulls_are : (p : Settings) (n : ℕ) → IsRowOfProfile p (nulls n)
nulls_are p zero = tt
nulls_are p (suc n) = (tt, nulls_are p n)

module _ (b : Base) (fit : TablesOfProfile b) where
  abbrev q : Settings
  q = b.settings

  -- the rows of a source
  pub source_is : (s : Source) → AreOfProfile q (rows_from b s)
  source_is s = given_all (IsRowOfProfile q) (dated_is q) s.series (columns_named b.tables s.table) (b.rows s.table) (fit s.table)

  pub joined_are : (js : List JoinTree) (f : Joined) → AreOfProfile q f.rows → AreOfProfile q (fold (with_join b) f js).rows
  joined_are [] f all = all
  joined_are (tree.cross s ∷ js) f all =
      joined_are js (with_join b f (tree.cross s))
      (pairs_all (IsRowOfProfile q) (IsRowOfProfile q) (IsRowOfProfile q) (λ x y. true) beside (λ x. x) (λ y. y) (append_is q) (λ x h. h) (λ y h. h) f.rows (rows_from b s) all (source_is s))
  joined_are (tree.on kind s e ∷ js) f all =
      let n = length (row_of f.scope) in
      let m = length (columns_given b.tables s) in
      let v = at_rows b (with_source b.tables f.scope s) in
      joined_are js (with_join b f (tree.on kind s e))
      (joined_all (IsRowOfProfile q) (IsRowOfProfile q) (IsRowOfProfile q) (λ x y. holds v e (x ++ y)) beside (λ x. x ++ nulls m) (λ y. nulls n ++ y) (append_is q) (λ x h. append_is q x (nulls m) h (nulls_are q m)) (λ y h. append_is q (nulls n) y (nulls_are q n) h) kind f.rows (rows_from b s) all (source_is s))

  kept_are : (v : View) (e : Option Exp) (rows : List Row) → AreOfProfile q rows → AreOfProfile q (kept v e rows)
  kept_are v None rows all = all
  kept_are v (Some e) rows all = AllByRecursion-filter (IsRowOfProfile q) (holds v e) rows all

  pub sources_are : (s : SelectTree) → IfOk (source_rows b s) (AreOfProfile q)
  sources_are s =
      let f = joined b s in
      let v = at_rows b f.scope in
      unless_has (AreOfProfile q) (join f.fault (condition_fault v s.condition f.rows)) (kept v s.condition f.rows) (kept_are v s.condition f.rows (joined_are s.joins (first_of b s.source) (source_is s.source)))

  select_are : (kinds : List Kind) (s : SelectTree) → IfOk (select_value b kinds s) (AreOfProfile q)
  select_are kinds s =
      let scope = scope_of b.tables s in
      let items = zip s.items kinds in
      after_if (source_rows b s) (second_phase (at_rows b scope) items s) (AreOfProfile q) (AreOfProfile q) (sources_are s)
      (λ rows all. go (is_grouped s) rows (grouped_are b scope rows all items s.group s.having) (plain_are b scope rows all items))
    where
      go : (g : Bool) (rows : List Row) → IfOk (grouped_rows (at_rows b (scope_of b.tables s)) (zip s.items kinds) s.group s.having rows) (AreOfProfile q) → IfOk (plain_rows (at_rows b (scope_of b.tables s)) (zip s.items kinds) rows) (AreOfProfile q)
          → IfOk (cond g (grouped_rows (at_rows b (scope_of b.tables s)) (zip s.items kinds) s.group s.having rows) (plain_rows (at_rows b (scope_of b.tables s)) (zip s.items kinds) rows)) (AreOfProfile q)
      go true rows h i = h
      go false rows h i = i

  pub query_are : (qs : QueryTree) → IfOk (query_value b qs) (AreOfProfile q)
  query_are qs =
      let kinds = kinds_of (query_columns b.tables qs) in
      unless_has (AreOfProfile q) (faults_by fault_in (map (select_value b kinds) qs)) (flat_map rows_in (map (select_value b kinds) qs)) (each kinds qs)
    where
      rows_of : (m : Outcome (List Row)) → IfOk m (AreOfProfile q) → AreOfProfile q (rows_in m)
      rows_of (Ok rows) h = h
      rows_of (Err f) h = tt

      more : (us ws : List Row) → AreOfProfile q us → AreOfProfile q ws → AreOfProfile q (us ++ ws)
      more [] ws u w = w
      more (r ∷ us) ws u w = (u.0, more us ws u.1 w)

      each : (kinds : List Kind) (ss : QueryTree) → AreOfProfile q (flat_map rows_in (map (select_value b kinds) ss))
      each kinds [] = tt
      each kinds (s ∷ ss) = more (rows_in (select_value b kinds s)) (flat_map rows_in (map (select_value b kinds) ss)) (rows_of (select_value b kinds s) (select_are kinds s)) (each kinds ss)

-- ---- scripts

module _ (p : Settings) (inputs : Inputs) (read : InputsOfProfile p inputs) where
  table_is : (held : Data) → HeldOfProfile p held → (name : Text) → AreOfProfile p (table_named held name).rows
  table_is [] h name = tt
  table_is (t ∷ held) h name = go (same_text name t.0) (table_is held h.1 name)
    where
      go : (t' : Bool) → AreOfProfile p (table_named held name).rows → AreOfProfile p (unwrap_or (cond t' (Some t.1) (lookup (same_text name) held)) no_table).rows
      go true ih = h.0
      go false ih = ih

  input_is : (xs : Inputs) → InputsOfProfile p xs → (name : Text) → AreOfProfile p (rows_read xs name)
  input_is [] h name = tt
  input_is (x ∷ xs) h name = go (same_text name x.0) (input_is xs h.1 name)
    where
      go : (t : Bool) → AreOfProfile p (rows_read xs name) → AreOfProfile p (unwrap_or (cond t (Some x.1) (lookup (same_text name) xs)) [])
      go true ih = h.0
      go false ih = ih

  one_more : (held : Data) (name : Text) (t : Table) → HeldOfProfile p held → AreOfProfile p t.rows → HeldOfProfile p (held ++ (name, t) ∷ [])
  one_more [] name t h i = (i, tt)
  one_more (u ∷ held) name t h i = (h.0, one_more held name t h.1 i)

  abbrev IsMadeOf : Made → Type 0
  IsMadeOf m = HeldOfProfile p m.tables

  created_is : (m : Made) (name : Text) (qs : QueryTree) (r : Outcome (List Row)) → IsMadeOf m → IfOk r (AreOfProfile p) → IfOk (or_named name r >>= (λ rows. Ok (and_table m name (created m.tables qs rows)))) IsMadeOf
  created_is m name qs (Ok rows) h i = one_more m.tables name (created m.tables qs rows) h i
  created_is m name qs (Err f) h i = tt

  statement_is : (m : Made) (s : StatementTree) → IsMadeOf m → IfOk (statement_made p inputs m s) IsMadeOf
  statement_is m (tree.setting digits rounding) h = h
  statement_is m (tree.input s) h = one_more m.tables s.name (input_table inputs s) h (input_is inputs read s.name)
  statement_is m (tree.create name qs) h = created_is m name qs (query_value (base_of p m.tables) qs) h (query_are (base_of p m.tables) (λ n. table_is m.tables h n) qs)
  statement_is m (tree.export s) h = h

  pub statements_are : (ss : List StatementTree) (m : Made) → IsMadeOf m → IfOk (statements_made p inputs m ss) IsMadeOf
  statements_are [] m h = h
  statements_are (s ∷ ss) m h = then_is (statement_made p inputs m s) (λ n. statements_made p inputs n ss) (statement_is m s h) (λ n i. statements_are ss n i)
    where
      then_is : (r : Result Made NamedFault) (f : Made → Result Made NamedFault) → IfOk r IsMadeOf → ((n : Made) → IsMadeOf n → IfOk (f n) IsMadeOf) → IfOk (r >>= f) IsMadeOf
      then_is (Ok n) f i g = g n i
      then_is (Err e) f i g = tt
