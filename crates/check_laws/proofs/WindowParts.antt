-- The parts of analytic calls: the names of a window are columns, and an operator takes the kinds of its operand.
use Rattle.std.proofs.Common.{◌≡◌, ℕ, Bool, true, false, cond, not, ◌||◌, List, [], ◌∷◌, Option, Some, None, Ok, refl, sym, ap, ◌∙◌, subst}
use Rattle.std.proofs.lemmas.Bool.{false≢true, not-false}
use Rattle.std.specs.List.{AllByRecursion, list_any}
use Rattle.std.specs.Option.{IfSome}
use Rattle.vtl_cell.specs.Kinds.{is_null, is_of, kind_of}
use Rattle.vtl_cell.specs.Profile.{IsOfProfile}
use Rattle.vtl_lists.specs.Results.{◌>>=◌}
use Rattle.vtl_lists.proofs.Alls.{all_from_test}
use Rattle.vtl_cell.specs.ScalarKinds.{meets}
use Rattle.vtl_decimal.specs.Settings.{Settings}
use Rattle.vtl_cell.specs.declared.cell.Cell.{Cell}
use Rattle.vtl_cell.specs.declared.cell.Cell.TheVariants as c
use Rattle.vtl_cell.specs.declared.kind.Kind.{Kind}
use Rattle.vtl_cell.specs.declared.kind.Kind.TheVariants as k
use Rattle.check_faults.specs.declared.rules.Rule.TheVariants as rule
use Rattle.vtl_syntax.specs.Trees as tree
use Rattle.vtl_syntax.specs.Trees.{Exp}
use Rattle.vtl_syntax.specs.declared.parts.Comp.{Comp}
use Rattle.vtl_syntax.specs.declared.parts.Literal.{Literal}
use Rattle.vtl_syntax.specs.declared.parts.OrderPart.{OrderPart}
use Rattle.vtl_syntax.specs.declared.parts.OverPart.{OverPart}
use Rattle.vtl_syntax.specs.declared.word_groups.AggregateName.{AggregateName}
use Rattle.vtl_syntax.specs.declared.word_groups.AggregateName.TheVariants as aggregate
use Rattle.vtl_syntax.specs.declared.word_groups.ShiftName.{ShiftName}
use Rattle.vtl_syntax.specs.declared.word_groups.ShiftName.TheVariants as shift
use Rattle.vtl_syntax.specs.declared.word_groups.ValueWindowName.{ValueWindowName}
use Rattle.vtl_syntax.specs.declared.word_groups.ValueWindowName.TheVariants as window
use Rattle.vtl_tree.specs.Structure.{same_name}
use Rattle.vtl_tree.specs.declared.structure.Component.{Component}
use Rattle.vtl_cell.specs.AggregateKinds.{number_of, sum_kind}
use Rattle.vtl_cell.specs.AggregateKinds as kinds
use Rattle.vtl_meaning.specs.AnalyticShapes.{default_in, takes}
use Rattle.vtl_tree.specs.Columns.{place_of}
use Rattle.vtl_tree.specs.Kinds.{given_kind}
use Rattle.vtl_cell.specs.Literals.{is_null_kind}
use Rattle.vtl_meaning.specs.Made.{IsColumnAt, IsNamedColumn, is_suited}
use Rattle.vtl_tree.specs.Names.{component_of, name_of}
use Rattle.check_values.specs.Windows.{frame_alone, frame_typed, is_known, key_of, key_typed, name_form, or_none, order_typed, part_typed, partition_typed, points_typed, window_typed}
use Rattle.check_values.specs.Literals.{beside_all, literal_cell, literal_kind, stands_beside, valued}
use Rattle.vtl_tree.specs.declared.calls.AnalyticOp.{AnalyticOp}
use Rattle.vtl_tree.specs.declared.calls.AnalyticOp.TheVariants as op
use Rattle.vtl_tree.specs.declared.calls.OrderKey.{OrderKey}
use Rattle.vtl_tree.specs.declared.calls.Window.{Window}
use Rattle.check_operators.specs.Typed.{TypedTree, dataset, value}
use Rattle.check_groups.specs.Windowed.{call_typed, default_typed, is_rank, kinds_beside, of_aggregate, of_shift, of_window, over_columns, over_kind, over_of, over_parts, over_window, shift_call, suits, window_at, window_needed}
use Rattle.check_groups.specs.declared.calls.Call.{Call}
use Rattle.check_groups.specs.declared.calls.Needed.{Needed}
use Rattle.check_groups.specs.declared.calls.Needed.TheVariants as needed
use Rattle.check_operators.specs.declared.places.Place.{Place}
use Rattle.check_operators.specs.declared.places.Place.TheVariants as place
use Rattle.check_laws.specs.Gives.{Gives}
use Rattle.vtl_meaning.proofs.FoundColumns.{at-place, kind-found}
use Rattle.vtl_meaning.proofs.Lists as lists
use Rattle.check_laws.proofs.Literals.{IsCell, literal-cell, valued-gives}
use Rattle.check_laws.proofs.Reaches.{AreNearParts, parts-near}
use Rattle.check_laws.proofs.Steps.{after, both, tested, tested-then, then, weaker}
use Rattle.check_laws.proofs.Turns.{in-turn}
use Rattle.check_operators.specs.Places.{columns_at, columns_in}

-- ---- the names of a window

-- a name that is known is that of a column
known-found : (name : List ℕ) (xs : List Component) → is_known name xs ≡ true → (x : Component) × (component_of name xs ≡ Some x)
known-found name [] e = cc
known-found name (x ∷ xs) e = go (same_name x.name name) e (known-found name xs)
  where
    go : (b : Bool) → (b || is_known name xs) ≡ true → (is_known name xs ≡ true → (y : Component) × (component_of name xs ≡ Some y)) → (y : Component) × (cond b (Some x) (component_of name xs) ≡ Some y)
    go true h ih = (x, refl)
    go false h ih = ih h

named-column : (name : List ℕ) (xs : List Component) → is_known name xs ≡ true → IsNamedColumn xs name
named-column name xs e =
    let x = known-found name xs e in
    subst (λ kind. IsColumnAt (place_of name xs) name kind xs) (sym (kind-found name xs x.0 x.1)) (at-place name xs x.0 x.1)

name-gives : (name : List ℕ) (xs : List Component) (repeated : Bool) → Gives (λ u. IsNamedColumn xs name) (name_form (is_known name xs) repeated)
name-gives name xs repeated =
    tested (λ u. IsNamedColumn xs name) ((rule.UnknownComponent, not (is_known name xs)) ∷ (rule.RepeatedName, repeated) ∷ []) tt (λ passed. named-column name xs (not-false (is_known name xs) passed.0))

part-gives : (xs : List Component) (before : List (List ℕ)) (c : Comp) → Gives (IsNamedColumn xs) (part_typed xs before c)
part-gives xs before c =
    then (λ u. IsNamedColumn xs (name_of c)) (IsNamedColumn xs) (name_form (is_known (name_of c) xs) (list_any (same_name (name_of c)) before)) (λ u. Ok (name_of c))
    (name-gives (name_of c) xs (list_any (same_name (name_of c)) before)) (λ u named. named)

abbrev IsNamedKey : List Component → OrderKey → Type 0
IsNamedKey xs key = IsNamedColumn xs key.component

key-gives : (xs : List Component) (done : List OrderKey) (o : OrderPart) → Gives (IsNamedKey xs) (key_typed xs done o)
key-gives xs done o =
    then (λ u. IsNamedColumn xs (name_of o.component)) (IsNamedKey xs) (name_form (is_known (name_of o.component) xs) (list_any (λ x. same_name (name_of o.component) x.component) done)) (λ u. Ok (key_of o))
    (name-gives (name_of o.component) xs (list_any (λ x. same_name (name_of o.component) x.component) done)) (λ u named. named)

-- the names of a window are columns
abbrev pub HasNames : List Component → Window → Type 0
HasNames xs w = AllByRecursion (IsNamedColumn xs) w.partition × AllByRecursion (IsNamedKey xs) w.order

pub window-named : (p : Settings) (xs : List Component) (o : OverPart) → Gives (HasNames xs) (window_typed p xs o)
window-named p xs o =
    then (AllByRecursion (IsNamedColumn xs)) (HasNames xs) (partition_typed xs (or_none o.partition)) (λ names. order_typed xs (or_none o.order) >>= λ keys. frame_typed p o.points >>= λ f. Ok (record { partition = names; order = keys; frame = f }))
    (in-turn (IsNamedColumn xs) (part_typed xs) (part-gives xs) (or_none o.partition))
    (λ names h. then (AllByRecursion (IsNamedKey xs)) (HasNames xs) (order_typed xs (or_none o.order)) (λ keys. frame_typed p o.points >>= λ f. Ok (record { partition = names; order = keys; frame = f }))
    (in-turn (IsNamedKey xs) (key_typed xs) (key-gives xs) (or_none o.order))
    (λ keys g. after (HasNames xs) (frame_typed p o.points) (λ f. Ok (record { partition = names; order = keys; frame = f })) (λ f. (h, g))))

-- ---- the operator of a call

-- values of a kind are taken, and give that of the operator
abbrev TakesKind : Exp → AnalyticOp → Kind → Type 0
TakesKind e o kind = is_null_kind kind ≡ false → (given : Kind) → over_kind e kind ≡ Some given → (takes o kind ≡ true) × (given ≡ given_kind o kind)

-- it asks of its window what the call asks, takes the kinds of its operand, and a cell that stands in it is of the profile
pub record IsOperatorFor (p : Settings) (e : Exp) (kinds : List Kind) (asked : Needed) (o : AnalyticOp) : Type 0 where
  pub suited : (w : Window) → suits asked w ≡ is_suited o w
  pub taken : AllByRecursion (TakesKind e o) kinds
  pub proper : IsOfProfile p (default_in o)

abbrev pub IsCallFor : Settings → Exp → List Kind → Call → Type 0
IsCallFor p e kinds x = IfSome x.op (IsOperatorFor p e kinds x.needed) × (is_rank e ≡ true → IsOperatorFor p e kinds x.needed op.Rank)

-- ---- aggregates
sum-taken : (kind given : Kind) → sum_kind kind ≡ Some given → (takes op.Sum kind ≡ true) × (given ≡ given_kind op.Sum kind)
sum-taken k.Null given e = (refl, cc)
sum-taken k.Int given e = (refl, cc)
sum-taken k.Num given e = (refl, cc)
sum-taken k.Bool given e = cc
sum-taken k.Text given e = cc
sum-taken k.Day given e = cc
sum-taken k.Period given e = cc

number-taken : (kind given : Kind) → number_of kind ≡ Some given → (kinds.is_number kind ≡ true) × (given ≡ k.Num)
number-taken k.Null given e = (refl, cc)
number-taken k.Int given e = (refl, cc)
number-taken k.Num given e = (refl, cc)
number-taken k.Bool given e = cc
number-taken k.Text given e = cc
number-taken k.Day given e = cc
number-taken k.Period given e = cc

aggregate-call : (p : Settings) (f : AggregateName) (e : tree.MaybeExp) (o : OverPart) (ks : List Kind) → IfSome (of_aggregate f) (IsOperatorFor p (tree.aggregate_over f e o) ks needed.Nothing)
aggregate-call p aggregate.Sum e o ks = record { suited = λ w. refl; taken = lists.every (TakesKind (tree.aggregate_over aggregate.Sum e o) op.Sum) ks (λ kind some given h. sum-taken kind given h); proper = tt }
aggregate-call p aggregate.Avg e o ks = record { suited = λ w. refl; taken = lists.every (TakesKind (tree.aggregate_over aggregate.Avg e o) op.Avg) ks (λ kind some given h. number-taken kind given h); proper = tt }
aggregate-call p aggregate.Count e o ks = record { suited = λ w. refl; taken = lists.every (TakesKind (tree.aggregate_over aggregate.Count e o) op.Count) ks (λ kind some given h. (refl, cc)); proper = tt }
aggregate-call p aggregate.Min e o ks = record { suited = λ w. refl; taken = lists.every (TakesKind (tree.aggregate_over aggregate.Min e o) op.Min) ks (λ kind some given h. (refl, cc)); proper = tt }
aggregate-call p aggregate.Max e o ks = record { suited = λ w. refl; taken = lists.every (TakesKind (tree.aggregate_over aggregate.Max e o) op.Max) ks (λ kind some given h. (refl, cc)); proper = tt }
aggregate-call p aggregate.Median e o ks = tt

-- ---- values of the window
value-call : (p : Settings) (f : ValueWindowName) (e : Exp) (o : OverPart) (ks : List Kind) → IsOperatorFor p (tree.value_window f e o) ks (window_needed f) (of_window f)
value-call p window.FirstValue e o ks = record { suited = λ w. refl; taken = lists.every (TakesKind (tree.value_window window.FirstValue e o) op.FirstValue) ks (λ kind some given h. (refl, cc)); proper = tt }
value-call p window.LastValue e o ks = record { suited = λ w. refl; taken = lists.every (TakesKind (tree.value_window window.LastValue e o) op.LastValue) ks (λ kind some given h. (refl, cc)); proper = tt }
value-call p window.RatioToReport e o ks = record { suited = λ w. refl; taken = lists.every (TakesKind (tree.value_window window.RatioToReport e o) op.RatioToReport) ks (λ kind some given h. number-taken kind given h); proper = tt }

-- ---- `lag` and `lead`

-- a cell that may stand beside values of these kinds
pub record StandsBeside (p : Settings) (ks : List Kind) (v : Cell) : Type 0 where
  pub proper : IsOfProfile p v
  pub met : AllByRecursion (λ kind. is_null_kind kind ≡ false → meets kind (kind_of v) ≡ true) ks

cell-kind : (kind : Kind) (v : Cell) → is_of kind v ≡ true → is_null v ≡ false → kind_of v ≡ kind
cell-kind k.Bool (c.Bool x) e h = refl
cell-kind k.Int (c.Int x) e h = refl
cell-kind k.Num (c.Num x) e h = refl
cell-kind k.Text (c.Text x) e h = refl
cell-kind k.Day (c.Day x) e h = refl
cell-kind k.Period (c.Period x) e h = refl
cell-kind kind c.Null e h = cc
cell-kind kind v e h = cc

beside : (kind given : Kind) → stands_beside given kind ≡ true → is_null_kind kind ≡ false → meets kind given ≡ true
beside kind given e some = go (is_null_kind kind) some e
  where
    go : (b : Bool) → b ≡ false → (b || meets kind given) ≡ true → meets kind given ≡ true
    go false s h = h
    go true s h = cc

default-gives : (p : Settings) (ks : List Kind) (l : Option Literal) → Gives (StandsBeside p ks) (default_typed p ks l)
default-gives p ks None = record { proper = tt; met = lists.every (λ kind. is_null_kind kind ≡ false → meets kind k.Null ≡ true) ks (λ kind some. null-meets kind) }
  where
    null-meets : (kind : Kind) → meets kind k.Null ≡ true
    null-meets kind = refl
default-gives p ks (Some l) =
    tested-then (StandsBeside p ks) ((rule.WrongKind, not (beside_all ks (literal_kind l))) ∷ []) (λ u. valued (literal_cell p l))
    (λ passed. weaker (IsCell p (literal_kind l)) (StandsBeside p ks) (valued (literal_cell p l)) (λ v is. one v is (not-false (beside_all ks (literal_kind l)) passed.0)) (valued-gives (IsCell p (literal_kind l)) (literal_cell p l) (literal-cell p l)))
  where
    one : (v : Cell) → IsCell p (literal_kind l) v → beside_all ks (literal_kind l) ≡ true → StandsBeside p ks v
    one v is h = record {
      proper = is.0;
      met = lists.weaker (λ kind. stands_beside (literal_kind l) kind ≡ true) (λ kind. is_null_kind kind ≡ false → meets kind (kind_of v) ≡ true) ks
          (λ kind stands some. ap (meets kind) (cell-kind (literal_kind l) v is.1 is.2) ∙ beside kind (literal_kind l) stands some) (all_from_test (stands_beside (literal_kind l)) ks h);
    }

shifted : (p : Settings) (f : ShiftName) (e : Exp) (n : List ℕ) (l : Option Literal) (o : OverPart) (ks : List Kind) (points : ℕ) (v : Cell) → StandsBeside p ks v → IsOperatorFor p (tree.shift f e n l o) ks needed.Ranked (of_shift f points v)
shifted p shift.Lag e n l o ks points v is = record {
  suited = λ w. refl;
  taken = lists.weaker (λ kind. is_null_kind kind ≡ false → meets kind (kind_of v) ≡ true) (TakesKind (tree.shift shift.Lag e n l o) (op.Lag points v)) ks (λ kind met some given h. (met some, cc)) is.met;
  proper = is.proper;
}
shifted p shift.Lead e n l o ks points v is = record {
  suited = λ w. refl;
  taken = lists.weaker (λ kind. is_null_kind kind ≡ false → meets kind (kind_of v) ≡ true) (TakesKind (tree.shift shift.Lead e n l o) (op.Lead points v)) ks (λ kind met some given h. (met some, cc)) is.met;
  proper = is.proper;
}

shift-gives : (p : Settings) (f : ShiftName) (e : Exp) (n : List ℕ) (l : Option Literal) (o : OverPart) (ks : List Kind) → Gives (IsCallFor p (tree.shift f e n l o) ks) (shift_call p f n l ks)
unfolding shift_call
shift-gives p f e n l o ks =
    after (IsCallFor p (tree.shift f e n l o) ks) (points_typed p n) (λ points. default_typed p ks l >>= λ cell. Ok (record { op = Some (of_shift f points cell); needed = needed.Ranked }))
    (λ points. then (StandsBeside p ks) (IsCallFor p (tree.shift f e n l o) ks) (default_typed p ks l) (λ cell. Ok (record { op = Some (of_shift f points cell); needed = needed.Ranked })) (default-gives p ks l)
    (λ v is. (shifted p f e n l o ks points v is, λ yes. absurd (false≢true yes))))

-- ---- a call
rank-call : (p : Settings) (e : Exp) (ks : List Kind) → ((kind : Kind) → over_kind e kind ≡ Some k.Int) → IsOperatorFor p e ks needed.Ranked op.Rank
rank-call p e ks h = record { suited = λ w. refl; taken = lists.every (TakesKind e op.Rank) ks (λ kind some given g. (refl, same kind given g)); proper = tt }
  where
    same : (kind given : Kind) → over_kind e kind ≡ Some given → given ≡ k.Int
    same kind given g = let f : Some k.Int ≡ Some given = sym (h kind) ∙ g in cc

pub call-gives : (p : Settings) (e : Exp) (ks : List Kind) → Gives (IsCallFor p e ks) (call_typed p e ks)
call-gives p (tree.aggregate_over f e o) ks = (aggregate-call p f e o ks, λ yes. absurd (false≢true yes))
call-gives p (tree.value_window f e o) ks = (value-call p f e o ks, λ yes. absurd (false≢true yes))
call-gives p (tree.shift f e n l o) ks = shift-gives p f e n l o ks
call-gives p e ks = let is = rank-call p e ks (λ kind. refl) in (is, λ yes. is)

-- ---- the parts together
alone-named : (p : Settings) (xs : List Component) (o : OverPart) → Gives (HasNames xs) (frame_alone p o)
alone-named p xs o = after (HasNames xs) (frame_typed p o.points) (λ f. Ok (record { partition = []; order = []; frame = f })) (λ f. (tt, tt))

at-named : (p : Settings) (at : Place) (o : OverPart) → Gives (HasNames (columns_at at)) (window_at p at o)
at-named p place.Outside o = alone-named p [] o
at-named p (place.Inside i) o = window-named p i.components o

over-named : (p : Settings) (at : Place) (x : Option TypedTree) (o : OverPart) → Gives (HasNames (over_columns at x)) (over_window p at x o)
over-named p at None o = at-named p at o
over-named p at (Some (value v)) o = at-named p at o
over-named p at (Some (dataset n)) o = window-named p (columns_in n) o

-- a call and its window
abbrev pub AreParts : Settings → Place → Exp → Option TypedTree → Call × Window → Type 0
AreParts p at e x parts = AreNearParts parts × IsCallFor p e (kinds_beside x) parts.0 × HasNames (over_columns at x) parts.1

parts-named : (p : Settings) (at : Place) (e : Exp) (x : Option TypedTree) → Gives (λ parts. IsCallFor p e (kinds_beside x) parts.0 × HasNames (over_columns at x) parts.1) (over_parts p at e x)
unfolding over_parts
parts-named p at e x =
    then (IsCallFor p e (kinds_beside x)) Q (call_typed p e (kinds_beside x)) (λ y. over_window p at x (over_of e) >>= λ w. Ok (y, w)) (call-gives p e (kinds_beside x))
    (λ y is. then (HasNames (over_columns at x)) Q (over_window p at x (over_of e)) (λ w. Ok (y, w)) (over-named p at x (over_of e)) (λ w named. (is, named)))
  where
    Q : Call × Window → Type 0
    Q parts = IsCallFor p e (kinds_beside x) parts.0 × HasNames (over_columns at x) parts.1

pub parts-give : (p : Settings) (at : Place) (e : Exp) (x : Option TypedTree) → Gives (AreParts p at e x) (over_parts p at e x)
parts-give p at e x =
    weaker (λ parts. AreNearParts parts × (IsCallFor p e (kinds_beside x) parts.0 × HasNames (over_columns at x) parts.1)) (AreParts p at e x) (over_parts p at e x) (λ parts h. (h.0, h.1.0, h.1.1))
    (both AreNearParts (λ parts. IsCallFor p e (kinds_beside x) parts.0 × HasNames (over_columns at x) parts.1) (over_parts p at e x) (parts-near p at e x) (parts-named p at e x))
