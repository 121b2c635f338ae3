-- A window of an analytic call: it breaks no rule, can be printed, and its value is that of the call.
use Rattle.std.proofs.Common.{◌≡◌, ℕ, pos, ◌-◌, ◌<◌, ◌≤◌, ◌^◌, Bool, true, false, cond, not, ◌&&◌, List, [], ◌∷◌, ◌++◌, map, filter, length, Option, Some, None, Ok, Err, refl, ap, sym, ◌∙◌, subst, arith, append-nil}
use Rattle.std.specs.Prelude.{◌==◌, IsOk, is_some, unsigned_abs, unwrap_or}
use Rattle.std.specs.Fmt.{decimal}
use Rattle.std.specs.Int.{w64}
use Rattle.std.specs.Int.RustNames.{FitsSigned, int_le}
use Rattle.std.specs.List.{AllByRecursion}
use Rattle.std.specs.Option.{is_none, option_map_or}
use Rattle.std.proofs.Math.Nat.{pow-le-pow_right}
use Rattle.std.proofs.lemmas.Bool.{and_parts, eqb-true, le-leb, leb-true, lt-ltb}
use Rattle.std.proofs.lemmas.List.{map-append}
use Rattle.grammar_forms.specs.Written.{Each}
use Rattle.vtl_cell.specs.Frames.{first_cell, frame_of, lag_of, last_cell, lead_of}
use Rattle.vtl_cell.specs.Frames as frame
use Rattle.vtl_cell.specs.Groups.{group_value, ratio_of}
use Rattle.vtl_cell.specs.Held.{IsHeld}
use Rattle.vtl_cell.specs.Kinds.{kind_of}
use Rattle.vtl_cell.specs.Profile.{IsOfProfile}
use Rattle.vtl_cell.specs.Row.{Row, column_of}
use Rattle.vtl_cell.specs.ScalarKinds.{meets}
use Rattle.vtl_decimal.specs.Settings.{Settings}
use Rattle.vtl_cell.specs.Sorted.{in_order, rising, row_rank}
use Rattle.vtl_cell.specs.declared.cell.Cell.{Cell}
use Rattle.vtl_cell.specs.declared.cell.Cell.TheVariants as c
use Rattle.vtl_cell.specs.declared.kind.Kind.{Kind}
use Rattle.vtl_cell.specs.declared.kind.Kind.TheVariants as k
use Rattle.vtl_cell.specs.declared.operator.AggKind.TheVariants as agg
use Rattle.vtl_decimal.specs.declared.number.Fault.TheVariants.{Range}
use Rattle.vtl_lists.proofs.Sorts.{AllByRecursion-filter}
use Rattle.vtl_lists.proofs.Alls.{all_append, all_front, all_more}
use Rattle.vtl_cell.specs.AggregateKinds.{number_of, sum_kind}
use Rattle.vtl_cell.specs.Literals.{integer_written, longest_reach}
use Rattle.vtl_tree.specs.DataSet.{IsDataSet, is_point}
use Rattle.vtl_tree.specs.Structure.{columns_of}
use Rattle.vtl_tree.specs.declared.structure.Component.{Component}
use Rattle.vtl_tree.specs.declared.structure.Structure.{Structure}
use Rattle.vtl_meaning.specs.AnalyticShapes.{default_in, takes}
use Rattle.sql_check_parts.specs.Windows.{argument, bound_fits, call_fits, call_kind, default_fits, frame_fits, frame_misplaced, is_row_count, order_misplaced, shift_kind}
use Rattle.vtl_tree.specs.Columns.{identifiers_of, kind_named, others_of, place_of, places_in}
use Rattle.sql_check_laws.specs.Fits.{IsSeen, IsWindowTyped}
use Rattle.vtl_meaning.specs.Groups.{places_named}
use Rattle.vtl_meaning.specs.Made.{IsColumnAt, IsNamedColumn, IsWindowOver, is_ordered, is_suited, is_unframed}
use Rattle.expressions_to_sql.specs.Names.{Names}
use Rattle.vtl_meaning.specs.Windows as points
use Rattle.vtl_meaning.specs.Windows.{default_frame, frame_in, key_in, keys_in, op_value, stand_of}
use Rattle.vtl_meaning.specs.Points.{with_points}
use Rattle.vtl_meaning.specs.Reaches.{is_near, is_near_bound, is_near_frame, is_near_operator}
use Rattle.sql_check_parts.specs.Scopes.{Scope, found, is_empty, or_null}
use Rattle.sql_meaning.specs.Scripts.{Data, base_of}
use Rattle.expressions_to_sql.specs.ToSql.{group_columns}
use Rattle.sql_meaning.specs.Values.{View, at_rows, place_in}
use Rattle.sql_meaning.specs.Windows as sql
use Rattle.sql_meaning.specs.Windows.{call_value, cells_of, count_of, default_cell, framed, is_falling, key_of, keys_of, partition_of, place_within, stand_in, window_value}
use Rattle.vtl_tree.specs.declared.calls.AnalyticOp.{AnalyticOp}
use Rattle.vtl_tree.specs.declared.calls.AnalyticOp.TheVariants as op
use Rattle.vtl_tree.specs.declared.calls.Bound as bounds
use Rattle.vtl_tree.specs.declared.calls.Bound.TheVariants as point
use Rattle.vtl_tree.specs.declared.calls.Frame as frames
use Rattle.vtl_tree.specs.declared.calls.OrderKey.{OrderKey}
use Rattle.vtl_tree.specs.declared.calls.Window as windows
use Rattle.vtl_tree.specs.Kinds.{given_kind}
use Rattle.sql_lexer.specs.Spelling.{IsDigits}
use Rattle.sql_tree.specs.Formed.{IsBound, IsCall, IsColumn, IsDefault, IsMaybeFrame, IsWindow, IsWindowKey}
use Rattle.sql_tree.specs.Trees.{Text}
use Rattle.sql_tree.specs.declared.parts.Column.{Column}
use Rattle.sql_tree.specs.declared.windows.Window.{Window}
use Rattle.sql_tree.specs.declared.windows.WindowKey.{WindowKey}
use Rattle.expressions_to_sql.proofs.FormedConstants.{literal_formed}
use Rattle.vtl_meaning.proofs.OwnColumns.{columns_apart, own_columns}
use Rattle.vtl_meaning.proofs.Places.{columns_split}
use Rattle.expressions_to_sql.proofs.WrittenConstants.{integer_there, literal_is, member_kind}
use Rattle.selects_to_sql.specs.Writable.{HaveNames}
use Rattle.selects_to_sql.specs.Queries.{first_alias, of_one}
use Rattle.groups_to_sql.specs.Windowed.{bound_to_sql, call_to_sql, default_to_sql, direction_of, frame_to_sql, framed_to_sql, is_listed, key_to_sql, order_to_sql, over_to_sql, rising_key, sees_order}
use Rattle.selects_to_sql.proofs.Sources.{one_formed, one_names, one_scope}
use Rattle.groups_to_sql.proofs.WindowOrders.{IsAlone, keys_seen, members, partition_in, same_ordered, same_place}

-- ---- numbers of points

within : (n : ℕ) → is_near n ≡ true → n ≤ 1_000_000
within n h = leb-true n 1_000_000 h

module _ (p : Settings) (low : p.scale ≤ 9) where
  proper : (n : ℕ) → is_near n ≡ true → IsOfProfile p (c.Int (pos n))
  proper n h =
      let few : n < 10 ^ (18 - p.scale) = omega (arith, within n h, pow-le-pow_right {n = 10} (omega arith) {i = 9} {j = 18 - p.scale} (omega arith)) in
      subst (λ b. IsOk (cond b (Ok (pos n)) (Err Range))) (sym (lt-ltb n (10 ^ (18 - p.scale)) few)) refl

  reads : (n : ℕ) → is_near n ≡ true → integer_written p (decimal n) ≡ Some (pos n)
  reads n h = integer_there p n (proper n h)

  counts : (n : ℕ) → is_near n ≡ true → count_of p (decimal n) ≡ n
  counts n h = ap (λ o. option_map_or unsigned_abs o 0) (reads n h)

  fits_count : (n : ℕ) → is_near n ≡ true → is_row_count p (decimal n) ≡ true
  fits_count n h = ap (λ o. option_map_or (λ z. int_le (pos 0) z && int_le z longest_reach) o false) (reads n h) ∙ (λ j. le-leb 0 n (omega arith) j && h j)

  digits : (n : ℕ) → is_near n ≡ true → IsDigits (decimal n)
  digits n h =
      let held : FitsSigned w64 (pos n) = omega (arith, within n h) in
      literal_formed p low (c.Int (pos n)) held (proper n h)

  -- ---- frames

  abbrev IsBoundThere : bounds.Bound → Type 0
  IsBoundThere b = (sql.bound_of p (bound_to_sql b) ≡ points.bound_of b) × (bound_fits p (bound_to_sql b) ≡ true) × IsBound (bound_to_sql b)

  bound_there : (b : bounds.Bound) → is_near_bound b ≡ true → IsBoundThere b
  bound_there point.UnboundedPreceding h = (refl, refl, tt)
  bound_there (point.Preceding n) h = (ap frame.Preceding (counts n h), fits_count n h, digits n h)
  bound_there point.Current h = (refl, refl, tt)
  bound_there (point.Following n) h = (ap frame.Following (counts n h), fits_count n h, digits n h)
  bound_there point.UnboundedFollowing h = (refl, refl, tt)

  -- the frame of a window is near, also where it is not written
  near_frame : (w : windows.Window) → option_map_or is_near_frame w.frame true ≡ true → is_near_frame (frame_in w) ≡ true
  near_frame w h = go w.frame h
    where
      default : (ks : List OrderKey) → is_near_frame (default_frame ks) ≡ true
      default [] = refl
      default (x ∷ ks) = refl

      go : (f : Option frames.Frame) → option_map_or is_near_frame f true ≡ true → is_near_frame (unwrap_or f (default_frame w.order)) ≡ true
      go None i = default w.order
      go (Some f) i = i

  module _ (w : windows.Window) (near : option_map_or is_near_frame w.frame true ≡ true) where
    first : IsBoundThere (frame_in w).start
    first = bound_there (frame_in w).start (and_parts (is_near_bound (frame_in w).start) (is_near_bound (frame_in w).end) (near_frame w near)).0

    last : IsBoundThere (frame_in w).end
    last = bound_there (frame_in w).end (and_parts (is_near_bound (frame_in w).start) (is_near_bound (frame_in w).end) (near_frame w near)).1

    same_frame : (i : ℕ) (cells : List Cell) → framed p (Some (frame_to_sql (frame_in w))) i cells ≡ points.framed w i cells
    same_frame i cells = λ j. frame_of (first.0 j) (last.0 j) i cells

    frame_there : (frame_fits p (Some (frame_to_sql (frame_in w))) ≡ true) × IsMaybeFrame (Some (frame_to_sql (frame_in w)))
    frame_there = ((λ j. first.1 j && last.1 j), (first.2, last.2))

    pub framed_fits : (o : AnalyticOp) → (frame_fits p (framed_to_sql o w) ≡ true) × IsMaybeFrame (framed_to_sql o w)
    framed_fits op.Sum = frame_there
    framed_fits op.Avg = frame_there
    framed_fits op.Count = frame_there
    framed_fits op.Min = frame_there
    framed_fits op.Max = frame_there
    framed_fits op.FirstValue = frame_there
    framed_fits op.LastValue = frame_there
    framed_fits op.RatioToReport = (refl, tt)
    framed_fits (op.Lag n default) = (refl, tt)
    framed_fits (op.Lead n default) = (refl, tt)
    framed_fits op.Rank = (refl, tt)

  -- ---- defaults

  -- a default is held, and of the profile
  abbrev pub IsDefaultHeld : Cell → Type 0
  IsDefaultHeld v = IsHeld v × IsOfProfile p v

  default_is : (v : Cell) → IsDefaultHeld v → default_cell p (default_to_sql p v) ≡ v
  default_is c.Null h = refl
  default_is (c.Bool b) h = ap (λ o. unwrap_or o c.Null) (literal_is p low (c.Bool b) h.0 h.1 refl)
  default_is (c.Int n) h = ap (λ o. unwrap_or o c.Null) (literal_is p low (c.Int n) h.0 h.1 refl)
  default_is (c.Num n) h = ap (λ o. unwrap_or o c.Null) (literal_is p low (c.Num n) h.0 h.1 refl)
  default_is (c.Text t) h = refl
  default_is (c.Day d) h = ap (λ o. unwrap_or o c.Null) (literal_is p low (c.Day d) h.0 h.1 refl)
  default_is (c.Period q) h = ap (λ o. unwrap_or o c.Null) (literal_is p low (c.Period q) h.0 h.1 refl)

  default_read : (v : Cell) → IsDefaultHeld v → default_fits p (default_to_sql p v) ≡ true
  default_read c.Null h = refl
  default_read (c.Bool b) h = ap (λ o. not (is_none o)) (literal_is p low (c.Bool b) h.0 h.1 refl)
  default_read (c.Int n) h = ap (λ o. not (is_none o)) (literal_is p low (c.Int n) h.0 h.1 refl)
  default_read (c.Num n) h = ap (λ o. not (is_none o)) (literal_is p low (c.Num n) h.0 h.1 refl)
  default_read (c.Text t) h = refl
  default_read (c.Day d) h = ap (λ o. not (is_none o)) (literal_is p low (c.Day d) h.0 h.1 refl)
  default_read (c.Period q) h = ap (λ o. not (is_none o)) (literal_is p low (c.Period q) h.0 h.1 refl)

  default_formed : (v : Cell) → IsDefaultHeld v → IsDefault (default_to_sql p v)
  default_formed c.Null h = tt
  default_formed (c.Bool b) h = literal_formed p low (c.Bool b) h.0 h.1
  default_formed (c.Int n) h = literal_formed p low (c.Int n) h.0 h.1
  default_formed (c.Num n) h = literal_formed p low (c.Num n) h.0 h.1
  default_formed (c.Text t) h = tt
  default_formed (c.Day d) h = tt
  default_formed (c.Period q) h = tt

  default_kind : (v : Cell) (kind : Kind) → meets kind (kind_of v) ≡ true → shift_kind (default_to_sql p v) kind ≡ Some kind
  default_kind c.Null kind h = refl
  default_kind (c.Bool b) kind h = ap (λ q. cond (meets kind q) (Some kind) None) (member_kind p (c.Bool b) refl) ∙ ap (λ t. cond t (Some kind) None) h
  default_kind (c.Int n) kind h = ap (λ t. cond t (Some kind) None) h
  default_kind (c.Num n) kind h = ap (λ t. cond t (Some kind) None) h
  default_kind (c.Text t) kind h = ap (λ t. cond t (Some kind) None) h
  default_kind (c.Day d) kind h = ap (λ t. cond t (Some kind) None) h
  default_kind (c.Period q) kind h = ap (λ t. cond t (Some kind) None) h

-- ---- kinds

sum_gives : (kind : Kind) → takes op.Sum kind ≡ true → sum_kind kind ≡ Some (given_kind op.Sum kind)
sum_gives k.Null h = refl
sum_gives k.Int h = refl
sum_gives k.Num h = refl
sum_gives kind h = cc

number_gives : (kind : Kind) → takes op.Avg kind ≡ true → number_of kind ≡ Some k.Num
number_gives kind h = ap (λ b. cond b (Some k.Num) None) h

-- ---- calls

-- a call at the rows of these sources: it takes its column, gives a kind, can be read and printed, and has the value of the operator at a
-- row that stands at this place of these
pub record IsCallOf (p : Settings) (before : Data) (scope : Scope) (a : Structure) (w : windows.Window) (o : AnalyticOp) (x : Column) (at : Row → Cell) (given : Kind) : Type 0 where
  pub argument : AllByRecursion (IsSeen scope None) (argument (call_to_sql p o x))
  pub kind : call_kind scope (call_to_sql p o x) ≡ Some given
  pub fits : call_fits p (call_to_sql p o x) ≡ true
  pub formed : IsCall (call_to_sql p o x)
  pub value_is : (r : Row) (i : ℕ) (rows : List Row) → call_value (at_rows (base_of p before) scope) (call_to_sql p o x) (over_to_sql a o w) (record { row = r; place = i; ordered = rows }) ≡ op_value p (columns_of a) w at o (record { point = r; place = i; ordered = rows })

module _ (p : Settings) (low : p.scale ≤ 9) (before : Data) (scope : Scope) (a : Structure) (w : windows.Window) (near : option_map_or is_near_frame w.frame true ≡ true) where
  abbrev v : View
  v = at_rows (base_of p before) scope

  -- `rank` has no column
  pub rank_call : keys_of v (over_to_sql a op.Rank w) ≡ keys_in (columns_of a) w → (x : Column) (at : Row → Cell) → IsCallOf p before scope a w op.Rank x at k.Int
  rank_call keys x at = record {
    argument = tt;
    kind = refl;
    fits = refl;
    formed = tt;
    value_is = λ r i rows. ap (λ ks. row_rank p ks r rows) keys;
  }

  module _ (x : Column) (place : ℕ) (kind : Kind) (known : found scope x ≡ Some kind) (placed : place_in scope x ≡ place) (column : IsColumn x) where
    abbrev at : Row → Cell
    at r = column_of place r

    seen : IsSeen scope None x
    seen = (ap is_some known, refl)

    cells : (rows : List Row) → cells_of v x rows ≡ map at rows
    cells rows = ap (λ n. map (λ q. column_of n q) rows) placed

    in_frame : {X : Type 0} (f : List Cell → X) (i : ℕ) (rows : List Row) → f (framed p (Some (frame_to_sql (frame_in w))) i (cells_of v x rows)) ≡ f (points.framed w i (map at rows))
    in_frame f i rows = ap (λ l. f (framed p (Some (frame_to_sql (frame_in w))) i l)) (cells rows) ∙ ap f (same_frame p low w near i (map at rows))

    pub call_of : (o : AnalyticOp) → takes o kind ≡ true → is_near_operator o ≡ true → IsDefaultHeld p low (default_in o) → keys_of v (over_to_sql a op.Rank w) ≡ keys_in (columns_of a) w → IsCallOf p before scope a w o x at (given_kind o kind)
    call_of op.Sum t n d keys = record { argument = (seen, tt); kind = ap (λ q. sum_kind (or_null q)) known ∙ sum_gives kind t; fits = refl; formed = (refl, column); value_is = λ r i rows. in_frame (group_value p agg.Sum) i rows }
    call_of op.Avg t n d keys = record { argument = (seen, tt); kind = ap (λ q. number_of (or_null q)) known ∙ number_gives kind t; fits = refl; formed = (refl, column); value_is = λ r i rows. in_frame (group_value p agg.Avg) i rows }
    call_of op.Count t n d keys = record { argument = (seen, tt); kind = refl; fits = refl; formed = (refl, column); value_is = λ r i rows. in_frame (group_value p agg.Count) i rows }
    call_of op.Min t n d keys = record { argument = (seen, tt); kind = ap (λ q. Some (or_null q)) known; fits = refl; formed = (refl, column); value_is = λ r i rows. in_frame (group_value p agg.Min) i rows }
    call_of op.Max t n d keys = record { argument = (seen, tt); kind = ap (λ q. Some (or_null q)) known; fits = refl; formed = (refl, column); value_is = λ r i rows. in_frame (group_value p agg.Max) i rows }
    call_of op.FirstValue t n d keys = record { argument = (seen, tt); kind = ap (λ q. Some (or_null q)) known; fits = refl; formed = column; value_is = λ r i rows. in_frame (λ l. Ok (first_cell l)) i rows }
    call_of op.LastValue t n d keys = record { argument = (seen, tt); kind = ap (λ q. Some (or_null q)) known; fits = refl; formed = column; value_is = λ r i rows. in_frame (λ l. Ok (last_cell l)) i rows }
    call_of op.RatioToReport t n d keys = record {
      argument = (seen, tt);
      kind = ap (λ q. number_of (or_null q)) known ∙ number_gives kind t;
      fits = refl;
      formed = column;
      value_is = λ r i rows. ap (λ z. ratio_of p (column_of z r) (cells_of v x rows)) placed ∙ ap (ratio_of p (at r)) (cells rows);
    }
    call_of (op.Lag m default) t n d keys = record {
      argument = (seen, tt);
      kind = ap (λ q. shift_kind (default_to_sql p default) (or_null q)) known ∙ default_kind p low default kind t;
      fits = λ j. fits_count p low m n j && default_read p low default d j;
      formed = (column, digits p low m n, default_formed p low default d);
      value_is = λ r i rows. (λ j. Ok (lag_of (counts p low m n j) (default_is p low default d j) i (cells rows j)));
    }
    call_of (op.Lead m default) t n d keys = record {
      argument = (seen, tt);
      kind = ap (λ q. shift_kind (default_to_sql p default) (or_null q)) known ∙ default_kind p low default kind t;
      fits = λ j. fits_count p low m n j && default_read p low default d j;
      formed = (column, digits p low m n, default_formed p low default d);
      value_is = λ r i rows. (λ j. Ok (lead_of (counts p low m n j) (default_is p low default d j) i (cells rows j)));
    }
    call_of op.Rank t n d keys = rank_call keys x at

-- ---- what a call asks of its window

no_misplaced : (p : Settings) (o : AnalyticOp) (x : Column) (w : windows.Window) → frame_misplaced (call_to_sql p o x) (framed_to_sql o w) ≡ false
no_misplaced p op.Sum x w = refl
no_misplaced p op.Avg x w = refl
no_misplaced p op.Count x w = refl
no_misplaced p op.Min x w = refl
no_misplaced p op.Max x w = refl
no_misplaced p op.FirstValue x w = refl
no_misplaced p op.LastValue x w = refl
no_misplaced p op.RatioToReport x w = refl
no_misplaced p (op.Lag n default) x w = refl
no_misplaced p (op.Lead n default) x w = refl
no_misplaced p op.Rank x w = refl

some_keys : (ks : List OrderKey) (more : List WindowKey) → not (length ks == 0) ≡ true → is_empty (map key_to_sql ks ++ more) ≡ false
some_keys [] more h = cc
some_keys (x ∷ ks) more h = refl

no_keys : (ks : List OrderKey) → not (not (length ks == 0)) ≡ true → not (is_empty (map key_to_sql ks ++ [])) ≡ false
no_keys [] h = refl
no_keys (x ∷ ks) h = go (length (x ∷ ks) == 0) refl h
  where
    go : (b : Bool) → (length (x ∷ ks) == 0) ≡ b → not (not b) ≡ true → true ≡ false
    go true e i = let none = eqb-true (length (x ∷ ks)) 0 e in absurd (omega (arith, none))
    go false e i = cc

well_ordered : (p : Settings) (a : Structure) (o : AnalyticOp) (x : Column) (w : windows.Window) → is_suited o w ≡ true → order_misplaced (call_to_sql p o x) (order_to_sql a o w) ≡ false
well_ordered p a op.Sum x w h = refl
well_ordered p a op.Avg x w h = refl
well_ordered p a op.Count x w h = refl
well_ordered p a op.Min x w h = refl
well_ordered p a op.Max x w h = refl
well_ordered p a op.FirstValue x w h = refl
well_ordered p a op.LastValue x w h = refl
well_ordered p a op.RatioToReport x w h = no_keys w.order (and_parts (not (is_ordered w)) (is_unframed w) h).0
well_ordered p a (op.Lag n default) x w h = some_keys w.order _ (and_parts (is_ordered w) (is_unframed w) h).0
well_ordered p a (op.Lead n default) x w h = some_keys w.order _ (and_parts (is_ordered w) (is_unframed w) h).0
well_ordered p a op.Rank x w h = some_keys w.order _ (and_parts (is_ordered w) (is_unframed w) h).0

-- ---- windows

module _ (p : Settings) (low : p.scale ≤ 9) (before : Data) (a : Structure) (d : List Row) (set : IsDataSet a d) (na : HaveNames (columns_of a)) (o : AnalyticOp) (w : windows.Window) (h : IsWindowOver (columns_of a) o w) where
  abbrev xs : List Component
  xs = columns_of a

  abbrev scope : Scope
  scope = one_scope xs

  abbrev view : View
  view = at_rows (base_of p before) scope

  names : Names of_one scope xs
  names = one_names xs (columns_apart a set.well_formed)

  -- the column of a name is seen, and stands at its place
  abbrev column_named : Text → Column
  column_named name = of_one (place_of name xs) name

  abbrev IsThere : Text → Type 0
  IsThere name = IsSeen scope None (column_named name) × (place_in scope (column_named name) ≡ place_of name xs) × IsColumn (column_named name)

  there : (name : Text) (kind : Kind) → IsColumnAt (place_of name xs) name kind xs → IsThere name
  there name kind i = ((ap is_some (names.known (place_of name xs) name kind i), refl), names.placed (place_of name xs) name kind i, one_formed xs na (place_of name xs) name kind i)

  all_there : (ns : List Text) → AllByRecursion (IsNamedColumn xs) ns → AllByRecursion IsThere ns
  all_there ns all = all_more (IsNamedColumn xs) IsThere (λ n. there n (kind_named n xs)) ns all

  ids_there : AllByRecursion (λ z. IsThere z.name) (identifiers_of a)
  ids_there =
      all_more (λ z. IsColumnAt (place_of z.name xs) z.name z.kind xs) (λ z. IsThere z.name) (λ z. there z.name z.kind) (identifiers_of a)
      (all_front (λ z. IsColumnAt (place_of z.name xs) z.name z.kind xs) (identifiers_of a) (others_of a) (subst (AllByRecursion (λ z. IsColumnAt (place_of z.name xs) z.name z.kind xs)) (columns_split a) (own_columns a set.well_formed)))

  abbrev further : List Component
  further = filter (λ x. not (is_listed w x)) (identifiers_of a)

  further_there : AllByRecursion (λ z. IsThere z.name) further
  further_there = AllByRecursion-filter (λ z. IsThere z.name) (λ x. not (is_listed w x)) (identifiers_of a) ids_there

  order_there : AllByRecursion (λ key. IsThere key.component) w.order
  order_there = all_more (λ key. IsNamedColumn xs key.component) (λ key. IsThere key.component) (λ key. there key.component (kind_named key.component xs)) w.order h.order

  -- ---- the partition

  columns_placed : (ns : List Text) → AllByRecursion IsThere ns → map (place_in scope) (group_columns first_alias ns) ≡ places_named ns xs
  columns_placed [] all = refl
  columns_placed (n ∷ ns) all = λ j. all.0.1 j ∷ columns_placed ns all.1 j

  columns_seen : (ns : List Text) → AllByRecursion IsThere ns → AllByRecursion (IsSeen scope None) (group_columns first_alias ns)
  columns_seen [] all = tt
  columns_seen (n ∷ ns) all = (all.0.0, columns_seen ns all.1)

  columns_formed : (ns : List Text) → AllByRecursion IsThere ns → Each IsColumn (group_columns first_alias ns)
  columns_formed [] all = tt
  columns_formed (n ∷ ns) all = (all.0.2, columns_formed ns all.1)

  -- ---- the order

  falls : (b : Bool) → is_falling (direction_of b) ≡ b
  falls true = refl
  falls false = refl

  keys_listed : (ks : List OrderKey) → AllByRecursion (λ key. IsThere key.component) ks → map (key_of view) (map key_to_sql ks) ≡ map (key_in xs) ks
  keys_listed [] all = refl
  keys_listed (x ∷ ks) all = λ j. record { place = all.0.1 j; falling = falls x.falling j } ∷ keys_listed ks all.1 j

  keys_rising : (zs : List Component) → AllByRecursion (λ z. IsThere z.name) zs → map (key_of view) (map rising_key zs) ≡ map rising (places_in xs zs)
  keys_rising [] all = refl
  keys_rising (z ∷ zs) all = λ j. record { place = all.0.1 j; falling = false } ∷ keys_rising zs all.1 j

  keys_are : (b : Bool) → map (key_of view) (map key_to_sql w.order ++ cond b (map rising_key further) []) ≡ keys_seen a set.well_formed w b
  keys_are b = map-append (key_of view) (map key_to_sql w.order) (cond b (map rising_key further) []) ∙ (λ j. keys_listed w.order order_there j ++ more b j)
    where
      more : (b : Bool) → map (key_of view) (cond b (map rising_key further) []) ≡ cond b (map rising (places_in (columns_of a) further)) []
      more true = keys_rising further further_there
      more false = refl

  pub rank_keys : keys_of view (over_to_sql a op.Rank w) ≡ keys_in xs w
  rank_keys = keys_are false ∙ append-nil (keys_in xs w)

  abbrev IsKey : WindowKey → Type 0
  IsKey x = IsSeen scope None x.column × IsColumn x.column

  listed_keys : (ks : List OrderKey) → AllByRecursion (λ key. IsThere key.component) ks → AllByRecursion IsKey (map key_to_sql ks)
  listed_keys [] all = tt
  listed_keys (x ∷ ks) all = ((all.0.0, all.0.2), listed_keys ks all.1)

  rising_keys : (zs : List Component) → AllByRecursion (λ z. IsThere z.name) zs → AllByRecursion IsKey (map rising_key zs)
  rising_keys [] all = tt
  rising_keys (z ∷ zs) all = ((all.0.0, all.0.2), rising_keys zs all.1)

  keys_there : AllByRecursion IsKey (order_to_sql a o w)
  keys_there = all_append IsKey (map key_to_sql w.order) (cond (sees_order o w) (map rising_key further) []) (listed_keys w.order order_there) (more (sees_order o w))
    where
      more : (b : Bool) → AllByRecursion IsKey (cond b (map rising_key further) [])
      more true = rising_keys further further_there
      more false = tt

  each_formed : (ks : List WindowKey) → AllByRecursion IsKey ks → Each IsWindowKey ks
  each_formed [] all = tt
  each_formed (x ∷ ks) all = (all.0.1, each_formed ks all.1)

  -- ---- the window

  module _ (near : option_map_or is_near_frame w.frame true ≡ true) (x : Column) (at : Row → Cell) (given : Kind) (call : IsCallOf p before scope a w o x at given) where
    abbrev written : Window
    written = record { call = call_to_sql p o x; over = over_to_sql a o w }

    pub window_typed : IsWindowTyped p scope None written
    window_typed = record {
      argument = call.argument;
      partition = columns_seen w.partition (all_there w.partition h.partition);
      order = all_more IsKey (λ z. IsSeen scope None z.column) (λ z i. i.0) (order_to_sql a o w) keys_there;
      kind = ap is_some call.kind;
      literals = λ j. call.fits j && (framed_fits p low w near o).0 j;
      alone = refl;
      framed = no_misplaced p o x w;
      ordered = well_ordered p a o x w h.suited;
    }

    pub window_printed : IsWindow written
    window_printed = (call.formed, (columns_formed w.partition (all_there w.partition h.partition), each_formed (order_to_sql a o w) keys_there, (framed_fits p low w near o).1))

    -- its value at a point
    pub window_is : (z : Row × ℕ) → is_point xs z.0 ≡ true → IsAlone d z → window_value view written d z ≡ op_value p xs w at o (stand_of (with_points a d) w z.0)
    window_is z t alone =
        let sees = sees_order o w in
        let keys = keys_seen a set.well_formed w sees in
        let partition = partition_in a set.well_formed w sees d z.0 in
        (λ j. call_value view written.call written.over (stand_in (keys_are sees j) (partition_of (columns_placed w.partition (all_there w.partition h.partition) j) d z.0) z))
        ∙ call.value_is z.0 (place_within keys partition z) (in_order keys [] partition)
        ∙ (λ j. op_value p xs w at o (record { point = z.0; place = same_place a set.well_formed w sees d z set.typed t alone j; ordered = same_ordered a set.well_formed w sees z.0 partition (members a set.well_formed w sees d z.0 set.typed) j }))
