-- The rows of FROM, the keys of groups and the literals that expressions and windows see, and what windows give.
use Rattle.std.proofs.Common.{◌≡◌, ℕ, zero, suc, pos, ◌+◌, ◌-◌, List, [], ◌∷◌, map, length, get_or, take, drop, Bool, true, false, cond, not, ◌&&◌, ◌||◌, Option, Some, None, Ok, Err, Result, ℤ, refl, sym, ap, ◌∙◌, subst, arith}
use Rattle.std.specs.Prelude.{count_by, encode_utf8_all, nat_eq, nat_le, unwrap_or}
use Rattle.std.specs.Cmp.{Equal-is, tied_then}
use Rattle.std.specs.Cmp.Lexicographic.{slice_cmp}
use Rattle.std.specs.FinMap.{nat_cmp-IsAntisymmetric, slice_cmp-IsAntisymmetric}
use Rattle.std.specs.List.{AllByRecursion, list_any, position_or_len}
use Rattle.std.specs.Ordering.{eq_by_cmp, is_eq, is_lt, nat_cmp}
use Rattle.std.specs.Result.{result_ok}
use Rattle.std.proofs.lemmas.Bool.{and_parts, eqb-true}
use Rattle.std.proofs.lemmas.Cmp.{nat_list_eq_equiv}
use Rattle.vtl_lists.proofs.Perms.{AllByRecursion-Perm, Perm-sym}
use Rattle.vtl_lists.proofs.Sorts.{AllByRecursion-filter, Perm-sorted_by}
use Rattle.vtl_decimal.specs.Operators.{quotient}
use Rattle.vtl_decimal.specs.Tally.{tally_of}
use Rattle.vtl_cell.specs.Frames.{before, first_cell, last_cell, up_to}
use Rattle.vtl_cell.specs.Groups.{numbers_of, ratio_of, units_of, values_of}
use Rattle.vtl_cell.specs.Kinds.{is_null, kind_of}
use Rattle.vtl_decimal.specs.declared.number.Fault.{Fault as DecimalFault}
use Rattle.vtl_decimal.specs.Numeral.{number_spelled}
use Rattle.vtl_cell.specs.Outcome.{Outcome, after}
use Rattle.vtl_decimal.specs.Range.{fit_integer, fit_number}
use Rattle.vtl_cell.specs.Row.{Row, column_of, same_row}
use Rattle.vtl_cell.specs.ScalarArithmetic.{negation_of, number}
use Rattle.vtl_cell.specs.ScalarKinds.{meets, kinds_of as scalar_kinds}
use Rattle.vtl_decimal.specs.Settings.{Settings}
use Rattle.vtl_cell.specs.Sorted.{by_keys, row_rank}
use Rattle.vtl_text.specs.Texts.{same_text}
use Rattle.vtl_cell.specs.declared.cell.Cell.{Cell}
use Rattle.vtl_cell.specs.declared.cell.Cell.TheVariants as c
use Rattle.vtl_cell.specs.declared.kind.Kind.{Kind}
use Rattle.vtl_cell.specs.declared.kind.Kind.TheVariants as k
use Rattle.vtl_cell.specs.declared.operator.ScalarOp.TheVariants as op
use Rattle.vtl_cell.proofs.Keys.{window_order}
use Rattle.vtl_cell.specs.Literals.{integer_cell, integer_written, number_cell, with_sign, written}
use Rattle.vtl_rows.specs.Tables.{cells_at, fits_kinds}
use Rattle.vtl_scalar.specs.KindLaws.{HasKind, IsOfKind}
use Rattle.vtl_scalar.proofs.ValueKindLemmas.{value_is_of_kind, whole_is}
use Rattle.sql_tree.specs.Trees.{Text}
use Rattle.sql_tree.specs.declared.parts.Column.{Column}
use Rattle.sql_tree.specs.declared.parts.Literal.{Literal}
use Rattle.sql_tree.specs.declared.parts.Literal.TheVariants as literal
use Rattle.sql_tree.specs.declared.parts.Numeral.TheVariants as numeral
use Rattle.sql_tree.specs.declared.windows.Frame.{Frame}
use Rattle.sql_tree.specs.declared.windows.Over.{Over}
use Rattle.sql_tree.specs.declared.windows.Window.{Window}
use Rattle.sql_tree.specs.declared.windows.WindowCall.{WindowCall}
use Rattle.sql_tree.specs.declared.windows.WindowCall.TheVariants as call
use Rattle.sql_tree.specs.declared.word_groups.ShiftFunction.{ShiftFunction}
use Rattle.sql_tree.specs.declared.word_groups.ShiftFunction.TheVariants as shift
use Rattle.sql_tree.specs.declared.word_groups.ValueFunction.TheVariants as value
use Rattle.sql_check_parts.specs.Literals.{literal_kind}
use Rattle.sql_check_parts.specs.Scopes.{Scope, column_kind, column_name, column_order, found, grouping_of, is_grouped_by, row_of}
use Rattle.sql_check_parts.specs.Windows.{argument, call_kind, shift_kind, window_kind}
use Rattle.sql_check_parts.proofs.Grouped.{is_in_group}
use Rattle.sql_check_laws.specs.Fits.{IsSeen, IsWindowTyped}
use Rattle.sql_meaning.specs.Tables.{Base, RowsFit}
use Rattle.sql_meaning.specs.Values.{View, at_rows, cell_at, literal_cell, place_in, same_column}
use Rattle.sql_meaning.specs.Windows.{Stand, bound_of, call_value, cells_of, count_of, default_cell, framed, keys_of, partition_of, partition_places, shifted, stand_in, window_value}
use Rattle.sql_meaning.proofs.ExpressionKinds.{Sees}
use Rattle.sql_meaning.proofs.OperatorKinds.{group_has, int_has, meets_of, num_has, number_given, number_has, some_of, through, written_has}
use Rattle.sql_meaning.proofs.SourceKinds.{column_fits}

-- ---- columns that are the same

pub same_text-is : (x y : Text) → same_text x y ≡ true → x ≡ y
same_text-is [] [] e = refl
same_text-is [] (j ∷ y) e = cc
same_text-is (i ∷ x) [] e = cc
same_text-is (i ∷ x) (j ∷ y) e =
    let parts = and_parts (nat_eq i j) (same_text x y) e in
    let rest = same_text-is x y parts.1 in
    λ n. eqb-true i j parts.0 n ∷ rest n

-- columns that the order of names does not tell apart
same_if_tied : (x y : Column) → eq_by_cmp column_order (column_name x) (column_name y) ≡ true → same_column x y ≡ true
same_if_tied x y e =
    let source = slice_cmp nat_cmp x.source y.source in
    let name = slice_cmp nat_cmp x.name y.name in
    let both = and_parts (is_eq source) (is_eq name) (tied_then source name ∙ e) in
    let sources = slice_cmp-IsAntisymmetric nat_cmp-IsAntisymmetric x.source y.source ((Equal-is source).0 both.0) in
    let names = slice_cmp-IsAntisymmetric nat_cmp-IsAntisymmetric x.name y.name ((Equal-is name).0 both.1) in
    λ i. alike x.source y.source sources i && alike x.name y.name names i
  where
    alike : (a b : Text) → a ≡ b → same_text a b ≡ true
    alike a b q = ap (same_text a) (sym q) ∙ nat_list_eq_equiv.refl a

-- a column of GROUP BY is one of the list
pub named_there : (group : List Column) (x : Column) → is_grouped_by (grouping_of group) x ≡ true → list_any (same_column x) group ≡ true
named_there group x e = go group (is_in_group (map column_name group) (column_name x) ∙ e)
  where
    go : (cs : List Column) → list_any (eq_by_cmp column_order (column_name x)) (map column_name cs) ≡ true → list_any (same_column x) cs ≡ true
    go [] h = h
    go (y ∷ cs) h = one (eq_by_cmp column_order (column_name x) (column_name y)) refl h (go cs)
      where
        or_left : (d e : Bool) → d ≡ true → (d || e) ≡ true
        or_left true e q = refl
        or_left false e q = cc

        or_right : (d e : Bool) → e ≡ true → (d || e) ≡ true
        or_right true e q = refl
        or_right false e q = q

        one : (d : Bool) → eq_by_cmp column_order (column_name x) (column_name y) ≡ d → (d || list_any (eq_by_cmp column_order (column_name x)) (map column_name cs)) ≡ true
            → (list_any (eq_by_cmp column_order (column_name x)) (map column_name cs) ≡ true → list_any (same_column x) cs ≡ true) → (same_column x y || list_any (same_column x) cs) ≡ true
        one true q w ih = or_left (same_column x y) (list_any (same_column x) cs) (same_if_tied x y q)
        one false q w ih = or_right (same_column x y) (list_any (same_column x) cs) (ih w)

-- ---- rows of FROM and keys of groups

module _ (b : Base) (scope : Scope) where
  pub sees_row : (r : Row) → fits_kinds (row_of scope) r ≡ true → Sees b scope None (place_in scope) r
  sees_row r h x seen = meets_of (column_kind scope x) (column_of (place_in scope x) r) (column_fits scope r x (column_kind scope x) h (some_of (found scope x) seen.0))

  pub sees_rows : (rows : List Row) → RowsFit (row_of scope) rows → AllByRecursion (Sees b scope None (place_in scope)) rows
  sees_rows [] all = tt
  sees_rows (r ∷ rows) all = (sees_row r all.0, sees_rows rows all.1)

  -- the cell of a column of GROUP BY in a key is that of the row
  key_cell : (group : List Column) (r : Row) (x : Column) → list_any (same_column x) group ≡ true
      → column_of (position_or_len (same_column x) group) (cells_at (map (place_in scope) group) r) ≡ column_of (place_in scope x) r
  key_cell [] r x e = cc
  key_cell (y ∷ group) r x e = go (same_column x y) refl (key_cell group r x) e
    where
      same_place : same_column x y ≡ true → place_in scope y ≡ place_in scope x
      same_place q =
          let parts = and_parts (same_text x.source y.source) (same_text x.name y.name) q in
          let source = sym (same_text-is x.source y.source parts.0) in
          let name = sym (same_text-is x.name y.name parts.1) in
          λ i. place_in scope (record { source = source i; name = name i })

      go : (d : Bool) → same_column x y ≡ d
          → (list_any (same_column x) group ≡ true → column_of (position_or_len (same_column x) group) (cells_at (map (place_in scope) group) r) ≡ column_of (place_in scope x) r)
          → (d || list_any (same_column x) group) ≡ true
          → column_of (cond (not d) (1 + position_or_len (same_column x) group) 0) (column_of (place_in scope y) r ∷ cells_at (map (place_in scope) group) r) ≡ column_of (place_in scope x) r
      go true q ih h = ap (λ i. column_of i r) (same_place q)
      go false q ih h =
          let up : 1 + position_or_len (same_column x) group ≡ suc (position_or_len (same_column x) group) = omega arith in
          ap (λ n. column_of n (column_of (place_in scope y) r ∷ cells_at (map (place_in scope) group) r)) up ∙ ih h

  pub sees_key : (group : List Column) (r : Row) → fits_kinds (row_of scope) r ≡ true → Sees b scope (Some (grouping_of group)) (λ x. position_or_len (same_column x) group) (cells_at (map (place_in scope) group) r)
  sees_key group r h x seen =
      subst (IsOfKind (column_kind scope x)) (sym (key_cell group r x (named_there group x (not_false (is_grouped_by (grouping_of group) x) seen.1)))) (sees_row r h x (seen.0, refl))
    where
      not_false : (d : Bool) → not d ≡ false → d ≡ true
      not_false true q = refl
      not_false false q = cc

-- ---- literals

ok_has : (kind : Kind) (m : Outcome Cell) → HasKind kind m → IsOfKind kind (unwrap_or (result_ok m) c.Null)
ok_has kind (Ok v) h = h
ok_has kind (Err e) h = refl

and_true : (d : Bool) → d ≡ true → (d && true) ≡ true
and_true d h = ap (λ e. e && true) h

sign_has : (p : Settings) (kind : Kind) (negative : Bool) (o : Option Cell) → scalar_kinds op.Negate (kind ∷ []) ≡ Some kind → IsOfKind kind (unwrap_or o c.Null) → IsOfKind kind (unwrap_or (with_sign p negative o) c.Null)
sign_has p kind false o e h = h
sign_has p kind true None e h = refl
sign_has p kind true (Some v) e h = ok_has kind (negation_of p v) (value_is_of_kind p op.Negate (kind ∷ []) (v ∷ []) kind e (and_true (meets kind (kind_of v)) h))

literal_has : (p : Settings) (l : Literal) → IsOfKind (literal_kind l) (literal_cell p l)
literal_has p (literal.Number negative (numeral.Int digits)) = sign_has p k.Int negative (integer_cell p digits) refl (int_has (integer_written p digits))
literal_has p (literal.Number negative (numeral.Dec digits)) = sign_has p k.Num negative (number_cell p digits) refl (num_has (number_spelled p (encode_utf8_all digits)))
literal_has p (literal.Text text) = refl
literal_has p literal.True = refl
literal_has p literal.False = refl
literal_has p (literal.Date text) = written_has p k.Day text (written p k.Day text) refl
literal_has p (literal.Period text) = written_has p k.Period text (written p k.Period text) refl

-- ---- frames and calls

pub get_or_all : (P : Cell → Type 0) (xs : List Cell) (i : ℕ) (d : Cell) → AllByRecursion P xs → P d → P (get_or xs i d)
get_or_all P [] i d all h = h
get_or_all P (x ∷ xs) zero d all h = all.0
get_or_all P (x ∷ xs) (suc i) d all h = get_or_all P xs i d all.1 h

drop_all_of : (P : Cell → Type 0) (n : ℕ) (xs : List Cell) → AllByRecursion P xs → AllByRecursion P (drop n xs)
drop_all_of P zero xs all = all
drop_all_of P (suc n) [] all = tt
drop_all_of P (suc n) (x ∷ xs) all = drop_all_of P n xs all.1

take_all_of : (P : Cell → Type 0) (n : ℕ) (xs : List Cell) → AllByRecursion P xs → AllByRecursion P (take n xs)
take_all_of P zero xs all = tt
take_all_of P (suc n) [] all = tt
take_all_of P (suc n) (x ∷ xs) all = (all.0, take_all_of P n xs all.1)

pub framed_all : (P : Cell → Type 0) (p : Settings) (f : Option Frame) (i : ℕ) (cells : List Cell) → AllByRecursion P cells → AllByRecursion P (framed p f i cells)
framed_all P p None i cells all = all
framed_all P p (Some f) i cells all = drop_all_of P (before (bound_of p f.first) (length cells) i) (take (up_to (bound_of p f.last) (length cells) i) cells) (take_all_of P (up_to (bound_of p f.last) (length cells) i) cells all)

ratio_has : (p : Settings) (x : Cell) (cells : List Cell) → HasKind k.Num (ratio_of p x cells)
ratio_has p x cells = go (is_null x)
  where
    quotients : (m : Result ℤ DecimalFault) → HasKind k.Num (after m (λ total. number (quotient p.rounding p.scale (units_of p.scale x) total)))
    quotients (Ok total) = number_has (quotient p.rounding p.scale (units_of p.scale x) total)
    quotients (Err e) = tt

    go : (d : Bool) → HasKind k.Num (cond d (Ok c.Null) (after (fit_number (tally_of (numbers_of p.scale (values_of cells))).total) (λ total. number (quotient p.rounding p.scale (units_of p.scale x) total))))
    go true = refl
    go false = quotients (fit_number (tally_of (numbers_of p.scale (values_of cells))).total)

pub shift_has : (f : ShiftFunction) (P : Cell → Type 0) (n i : ℕ) (d : Cell) (cells : List Cell) → P d → AllByRecursion P cells → P (shifted f n d i cells)
shift_has shift.Lead P n i d cells h all = get_or_all P cells (i + n) d all h
shift_has shift.Lag P n i d cells h all = go (nat_le n i)
  where
    go : (t : Bool) → P (cond t (get_or cells (i - n) d) d)
    go true = get_or_all P cells (i - n) d all h
    go false = h

default_has : (p : Settings) (default : Option Literal) (of given : Kind) → shift_kind default of ≡ Some given → (of ≡ given) × IsOfKind of (default_cell p default)
default_has p None of given e = (same e, refl)
  where
    same : Some of ≡ Some given → of ≡ given
    same q = cc
default_has p (Some l) of given e = go (meets of (literal_kind l)) refl e
  where
    go : (d : Bool) → meets of (literal_kind l) ≡ d → cond d (Some of) None ≡ Some given → (of ≡ given) × IsOfKind of (literal_cell p l)
    go true q h = (same h, through of (literal_kind l) (literal_cell p l) q (literal_has p l))
      where
        same : Some of ≡ Some given → of ≡ given
        same w = cc
    go false q h = cc

-- ---- windows

module _ (b : Base) (scope : Scope) (rows : List Row) (all : RowsFit (row_of scope) rows) where
  abbrev v : View
  v = at_rows b scope

  cells_have : (x : Column) → IsSeen scope None x → (qs : List Row) → RowsFit (row_of scope) qs → AllByRecursion (IsOfKind (column_kind scope x)) (cells_of v x qs)
  cells_have x e [] fit = tt
  cells_have x e (q ∷ qs) fit = (sees_row b scope q fit.0 x e, cells_have x e qs fit.1)

  same_some : (x y : Kind) → Some x ≡ Some y → x ≡ y
  same_some x y e = cc

  call_has : (w : WindowCall) (o : Over) (s : Stand) (given : Kind) → call_kind scope w ≡ Some given → AllByRecursion (IsSeen scope None) (argument w) → RowsFit (row_of scope) s.ordered → HasKind given (call_value v w o s)
  call_has (call.Aggregate f x) o s given e seen fit =
      group_has b.settings f (column_kind scope x) given (framed b.settings o.frame s.place (cells_of v x s.ordered)) e
      (framed_all (IsOfKind (column_kind scope x)) b.settings o.frame s.place (cells_of v x s.ordered) (cells_have x seen.0 s.ordered fit))
  call_has (call.Value value.FirstValue x) o s given e seen fit =
      let cells = framed b.settings o.frame s.place (cells_of v x s.ordered) in
      subst (λ z. IsOfKind z (first_cell cells)) (same_some (column_kind scope x) given e)
      (get_or_all (IsOfKind (column_kind scope x)) cells 0 c.Null (framed_all (IsOfKind (column_kind scope x)) b.settings o.frame s.place (cells_of v x s.ordered) (cells_have x seen.0 s.ordered fit)) refl)
  call_has (call.Value value.LastValue x) o s given e seen fit =
      let cells = framed b.settings o.frame s.place (cells_of v x s.ordered) in
      subst (λ z. IsOfKind z (last_cell cells)) (same_some (column_kind scope x) given e)
      (get_or_all (IsOfKind (column_kind scope x)) cells (length cells - 1) c.Null (framed_all (IsOfKind (column_kind scope x)) b.settings o.frame s.place (cells_of v x s.ordered) (cells_have x seen.0 s.ordered fit)) refl)
  call_has (call.Value value.RatioToReport x) o s given e seen fit =
      subst (λ z. HasKind z (ratio_of b.settings (cell_at v s.row x) (cells_of v x s.ordered))) (number_given (meets k.Num (column_kind scope x)) given e) (ratio_has b.settings (cell_at v s.row x) (cells_of v x s.ordered))
  call_has (call.Shift f x digits default) o s given e seen fit =
      let d = default_has b.settings default (column_kind scope x) given e in
      subst (λ z. IsOfKind z (shifted f (count_of b.settings digits) (default_cell b.settings default) s.place (cells_of v x s.ordered))) d.0
      (shift_has f (IsOfKind (column_kind scope x)) (count_of b.settings digits) s.place (default_cell b.settings default) (cells_of v x s.ordered) d.1 (cells_have x seen.0 s.ordered fit))
  call_has call.Rank o s given e seen fit =
      subst (λ z. HasKind z (row_rank b.settings (keys_of v o) s.row s.ordered)) (same_some k.Int given e) (whole_is (fit_integer b.settings.scale (pos (count_by (λ q. is_lt (by_keys (keys_of v o) q s.row)) s.ordered + 1))))

  pub window_has : (w : Window) (x : Row × ℕ) → IsWindowTyped b.settings scope None w → HasKind (window_kind scope w) (window_value v w rows x)
  window_has w x h =
      let keys = keys_of v w.over in
      let partition = partition_of (partition_places v w.over) rows x.0 in
      let theirs : RowsFit (row_of scope) partition = AllByRecursion-filter (λ r. fits_kinds (row_of scope) r ≡ true) (λ q. same_row (cells_at (partition_places v w.over) q) (cells_at (partition_places v w.over) x.0)) rows all in
      call_has w.call w.over (stand_in keys partition x) (window_kind scope w) (some_of (call_kind scope w.call) h.kind) h.argument
      (AllByRecursion-Perm (λ r. fits_kinds (row_of scope) r ≡ true) (Perm-sym (Perm-sorted_by (window_order keys []) partition)) theirs)
