-- The rows of a UNION ALL are those of its selects, each taken as a query of its own, with their cells made of the kinds that the
-- selects share.
use Rattle.std.proofs.Common.{◌≡◌, List, [], ◌∷◌, map, Bool, true, false, cond, Option, Some, None, Ok, Err, Result, ℤ, refl, sym, ap, ◌∙◌}
use Rattle.std.specs.Prelude.{◌^◌, nat_lt, pos, unsigned_abs, zip}
use Rattle.std.specs.List.{AllByRecursion}
use Rattle.std.proofs.lemmas.List.{append-nil, length-map}
use Rattle.vtl_cell.specs.Conversion.{as_kind}
use Rattle.vtl_decimal.specs.declared.number.Fault.{Fault as DecimalFault, Fault}
use Rattle.vtl_decimal.specs.declared.number.Fault.TheVariants.{DivZero, Range}
use Rattle.vtl_cell.specs.Outcome.{Outcome, after, fault_in, faults_by, join, unless}
use Rattle.vtl_decimal.specs.Range.{fit_number}
use Rattle.vtl_cell.specs.Row.{Row}
use Rattle.vtl_cell.specs.ScalarArithmetic.{number, units}
use Rattle.vtl_cell.specs.ScalarKinds.{meets}
use Rattle.vtl_decimal.specs.Settings.{Settings}
use Rattle.vtl_cell.specs.declared.cell.Cell.{Cell}
use Rattle.vtl_cell.specs.declared.cell.Cell.TheVariants as c
use Rattle.vtl_cell.specs.declared.kind.Kind.{Kind}
use Rattle.vtl_cell.specs.declared.kind.Kind.TheVariants as k
use Rattle.sql_tree.specs.Trees.{ItemTree, QueryTree, SelectTree, ValueTree}
use Rattle.sql_check_parts.specs.Queries as typing
use Rattle.sql_check_parts.specs.Queries.{is_grouped, item_kind, item_name, query_columns, scope_of, shared_kinds}
use Rattle.sql_check_parts.specs.Scopes.{or_null}
use Rattle.sql_check_laws.specs.Selects.{IsQueryTyped}
use Rattle.sql_meaning.specs.From.{source_rows}
use Rattle.sql_meaning.specs.Groups.{keys_by, rows_with}
use Rattle.sql_meaning.specs.Outcomes.{cell_or_null, row_at, row_fault}
use Rattle.sql_meaning.specs.Selects.{Wanted, appended, grouped_rows, having_fault, kept_keys, key_value, plain_rows, query_value, row_value, second_phase, select_value}
use Rattle.sql_meaning.specs.Tables.{Base, kinds_of}
use Rattle.sql_meaning.specs.Unions.{cell_as, row_as, row_as_fault, rows_as}
use Rattle.sql_meaning.specs.Values.{View, at_groups, at_rows}
use Rattle.sql_meaning.specs.Windows.{told_apart}
use Rattle.sql_meaning.proofs.OperatorKinds.{null_stays}
use Rattle.sql_meaning.proofs.SharedKinds.{Lifted, Lifts, all_lifted, named_kinds}
use Rattle.sql_meaning.proofs.UpToOrder.{join_assoc, join_none, join_swap}

-- ---- kinds one above the other

-- a cell that is made of one kind and then of another is made of the other
abbrev Passes : Settings → Kind → Kind → Type 0
Passes p kind own = (v : Cell) → after (as_kind p own v) (as_kind p kind) ≡ as_kind p kind v

number_passes : (p : Settings) (v : Cell) → after (as_kind p k.Num v) (as_kind p k.Num) ≡ as_kind p k.Num v
number_passes p (c.Int n) = go (fit_number (units p n))
  where
    go : (r : Result ℤ DecimalFault) → after (number r) (as_kind p k.Num) ≡ number r
    go (Ok n) = refl
    go (Err f) = refl
number_passes p c.Null = refl
number_passes p (c.Bool x) = refl
number_passes p (c.Num x) = refl
number_passes p (c.Text x) = refl
number_passes p (c.Day x) = refl
number_passes p (c.Period x) = refl

passes : (p : Settings) (kind own : Kind) → Lifts kind own → Passes p kind own
passes p kind k.Num up v = go kind (up (c.Num (pos 0)) refl) v
  where
    go : (z : Kind) → meets z k.Num ≡ true → Passes p z k.Num
    go k.Num e = number_passes p
    go k.Null e = cc
    go k.Bool e = cc
    go k.Int e = cc
    go k.Text e = cc
    go k.Day e = cc
    go k.Period e = cc
passes p kind k.Null up v = refl
passes p kind k.Bool up v = refl
passes p kind k.Int up v = refl
passes p kind k.Text up v = refl
passes p kind k.Day up v = refl
passes p kind k.Period up v = refl

-- ---- a conversion has no fault but that of a number out of range

abbrev NoDivision : Option Fault → Type 0
NoDivision o = join (Some Range) o ≡ Some Range

no_division : (o u : Option Fault) → NoDivision o → NoDivision u → NoDivision (join o u)
no_division None u h i = i
no_division (Some DivZero) u h i = cc
no_division (Some Range) None h i = refl
no_division (Some Range) (Some DivZero) h i = cc
no_division (Some Range) (Some Range) h i = refl

none_divides : {X : Type 0} (f : X → Option Fault) → ((x : X) → NoDivision (f x)) → (xs : List X) → NoDivision (faults_by f xs)
none_divides f h [] = refl
none_divides f h (x ∷ xs) = no_division (f x) (faults_by f xs) (h x) (none_divides f h xs)

conversion_divides_not : (p : Settings) (kind : Kind) (v : Cell) → NoDivision (fault_in (as_kind p kind v))
conversion_divides_not p k.Num (c.Int n) = go (nat_lt (unsigned_abs (units p n)) (10 ^ 18))
  where
    go : (b : Bool) → NoDivision (fault_in (number (cond b (Ok (units p n)) (Err Range))))
    go true = refl
    go false = refl
conversion_divides_not p k.Num c.Null = refl
conversion_divides_not p k.Num (c.Bool x) = refl
conversion_divides_not p k.Num (c.Num x) = refl
conversion_divides_not p k.Num (c.Text x) = refl
conversion_divides_not p k.Num (c.Day x) = refl
conversion_divides_not p k.Num (c.Period x) = refl
conversion_divides_not p k.Null v = refl
conversion_divides_not p k.Bool v = refl
conversion_divides_not p k.Int v = refl
conversion_divides_not p k.Text v = refl
conversion_divides_not p k.Day v = refl
conversion_divides_not p k.Period v = refl

-- ---- a value, then made of another kind

module _ (p : Settings) (kind own : Kind) (through : Passes p kind own) where
  in_two : (m : Outcome Cell) → after m (as_kind p kind) ≡ after (after m (as_kind p own)) (as_kind p kind)
  in_two (Ok v) = sym (through v)
  in_two (Err f) = refl

  fault_in_two : (m : Outcome Cell) → fault_in (after m (as_kind p kind)) ≡ join (fault_in m) (fault_in (as_kind p kind (cell_or_null m)))
  fault_in_two (Ok v) = refl
  fault_in_two (Err f) = sym (join_none (Some f)) ∙ ap (λ o. join (Some f) (fault_in o)) (sym (null_stays p kind))

  cell_in_two : (m : Outcome Cell) → cell_or_null (after m (as_kind p kind)) ≡ cell_or_null (as_kind p kind (cell_or_null m))
  cell_in_two (Ok v) = refl
  cell_in_two (Err f) = ap cell_or_null (sym (null_stays p kind))

-- ---- items at one place

module _ {X : Type 0} (p : Settings) (f : ValueTree → X → Outcome Cell) (x : X) where
  abbrev valued : Wanted → X → Outcome Cell
  valued i y = after (f i.0.value y) (as_kind p i.1)

  cells_of : (items : List ItemTree) (kinds own : List Kind) → Lifted kinds own → row_at valued (zip items kinds) x ≡ row_as p kinds (row_at valued (zip items own) x)
  cells_of [] kinds own up = nothing kinds
    where
      nothing : (ks : List Kind) → [] ≡ row_as p ks []
      nothing ks = refl
  cells_of (i ∷ items) [] [] up = refl
  cells_of (i ∷ items) [] (o ∷ own) up = absurd up
  cells_of (i ∷ items) (z ∷ kinds) [] up = absurd up
  cells_of (i ∷ items) (z ∷ kinds) (o ∷ own) up =
      let m = after (f i.value x) (as_kind p o) in
      let one : cell_or_null (after (f i.value x) (as_kind p z)) ≡ cell_or_null (as_kind p z (cell_or_null m)) = ap cell_or_null (in_two p z o (passes p z o up.0) (f i.value x)) ∙ cell_in_two p z o (passes p z o up.0) m in
      λ n. one n ∷ cells_of items kinds own up.1 n

  faults_of : (items : List ItemTree) (kinds own : List Kind) → Lifted kinds own → row_fault valued (zip items kinds) x ≡ join (row_fault valued (zip items own) x) (row_as_fault p kinds (row_at valued (zip items own) x))
  faults_of [] kinds own up = refl
  faults_of (i ∷ items) [] [] up = refl
  faults_of (i ∷ items) [] (o ∷ own) up = absurd up
  faults_of (i ∷ items) (z ∷ kinds) [] up = absurd up
  faults_of (i ∷ items) (z ∷ kinds) (o ∷ own) up =
      let m = after (f i.value x) (as_kind p o) in
      let one : fault_in (after (f i.value x) (as_kind p z)) ≡ join (fault_in m) (fault_in (as_kind p z (cell_or_null m))) = ap fault_in (in_two p z o (passes p z o up.0) (f i.value x)) ∙ fault_in_two p z o (passes p z o up.0) m in
      (λ n. join (one n) (faults_of items kinds own up.1 n))
      ∙ crossed (fault_in m) (fault_in (as_kind p z (cell_or_null m))) (row_fault valued (zip items own) x) (row_as_fault p kinds (row_at valued (zip items own) x))
    where
      crossed : (a b d e : Option Fault) → join (join a b) (join d e) ≡ join (join a d) (join b e)
      crossed a b d e = join_assoc a b (join d e) ∙ ap (join a) (join_swap b d e) ∙ sym (join_assoc a d (join b e))

-- ---- rows of items

faults_joined : {X : Type 0} (f g : X → Option Fault) (xs : List X) → faults_by (λ x. join (f x) (g x)) xs ≡ join (faults_by f xs) (faults_by g xs)
faults_joined f g [] = refl
faults_joined f g (x ∷ xs) =
    ap (join (join (f x) (g x))) (faults_joined f g xs)
    ∙ join_assoc (f x) (g x) (join (faults_by f xs) (faults_by g xs))
    ∙ ap (join (f x)) (join_swap (g x) (faults_by f xs) (faults_by g xs))
    ∙ sym (join_assoc (f x) (faults_by f xs) (join (g x) (faults_by g xs)))

pub faults_mapped : {X Y : Type 0} (g : Y → Option Fault) (f : X → Y) (xs : List X) → faults_by (λ x. g (f x)) xs ≡ faults_by g (map f xs)
faults_mapped g f [] = refl
faults_mapped g f (x ∷ xs) = ap (join (g (f x))) (faults_mapped g f xs)

maps_joined : {X : Type 0} (p : Settings) (kinds : List Kind) (f : X → Row) (xs : List X) → map (λ x. row_as p kinds (f x)) xs ≡ map (row_as p kinds) (map f xs)
maps_joined p kinds f [] = refl
maps_joined p kinds f (x ∷ xs) = ap (λ l. row_as p kinds (f x) ∷ l) (maps_joined p kinds f xs)

-- a fault of the rows comes before one of their conversion
in_turn : (h : Option Fault) (p : Settings) (kinds : List Kind) (rows : List Row) → unless (join h (faults_by (row_as_fault p kinds) rows)) (map (row_as p kinds) rows) ≡ after (unless h rows) (rows_as p kinds)
in_turn None p kinds rows = refl
in_turn (Some DivZero) p kinds rows = refl
in_turn (Some Range) p kinds rows =
    ap (λ o. unless o (map (row_as p kinds) rows)) (none_divides (row_as_fault p kinds) (λ r. none_divides (λ x. fault_in (cell_as p x)) (λ x. conversion_divides_not p x.1 x.0) (zip r kinds)) rows)

module _ {X : Type 0} (p : Settings) (f : ValueTree → X → Outcome Cell) (items : List ItemTree) (kinds own : List Kind) (up : Lifted kinds own) where
  abbrev made : Wanted → X → Outcome Cell
  made i y = after (f i.0.value y) (as_kind p i.1)

  rows_in_two : (h : Option Fault) (xs : List X) → unless (join h (faults_by (row_fault made (zip items kinds)) xs)) (map (row_at made (zip items kinds)) xs)
      ≡ after (unless (join h (faults_by (row_fault made (zip items own)) xs)) (map (row_at made (zip items own)) xs)) (rows_as p kinds)
  rows_in_two h xs =
      let mine = row_at made (zip items own) in
      let fault = row_fault made (zip items own) in
      let whole : faults_by (row_fault made (zip items kinds)) xs ≡ join (faults_by fault xs) (faults_by (row_as_fault p kinds) (map mine xs)) =
      ap (λ g. faults_by g xs) (λ i x. faults_of p f x items kinds own up i) ∙ faults_joined fault (λ x. row_as_fault p kinds (mine x)) xs ∙ ap (join (faults_by fault xs)) (faults_mapped (row_as_fault p kinds) mine xs) in
      let rows : map (row_at made (zip items kinds)) xs ≡ map (row_as p kinds) (map mine xs) = ap (λ g. map g xs) (λ i x. cells_of p f x items kinds own up i) ∙ maps_joined p kinds mine xs in
      (λ i. unless (join h (whole i)) (rows i))
      ∙ ap (λ o. unless o (map (row_as p kinds) (map mine xs))) (sym (join_assoc h (faults_by fault xs) (faults_by (row_as_fault p kinds) (map mine xs))))
      ∙ in_turn (join h (faults_by fault xs)) p kinds (map mine xs)

-- ---- selects

module _ (b : Base) (kinds own : List Kind) (up : Lifted kinds own) where
  plain_in_two : (v : View) (items : List ItemTree) (rows : List Row) → plain_rows v (zip items kinds) rows ≡ after (plain_rows v (zip items own) rows) (rows_as v.base.settings kinds)
  plain_in_two v items rows = rows_in_two v.base.settings (row_value v rows) items kinds own up None (told_apart rows)

  second_in_two : (v : View) (s : SelectTree) (rows : List Row) → second_phase v (zip s.items kinds) s rows ≡ after (second_phase v (zip s.items own) s rows) (rows_as v.base.settings kinds)
  second_in_two v s rows = go (is_grouped s)
    where
      go : (g : Bool) → cond g (grouped_rows v (zip s.items kinds) s.group s.having rows) (plain_rows v (zip s.items kinds) rows) ≡ after (cond g (grouped_rows v (zip s.items own) s.group s.having rows) (plain_rows v (zip s.items own) rows)) (rows_as v.base.settings kinds)
      go true =
          let w = at_groups v.base v.scope s.group in
          let members = rows_with (map v.place s.group) rows in
          let keys = keys_by (map v.place s.group) rows in
          rows_in_two v.base.settings (key_value w members) s.items kinds own up (having_fault w members s.having keys) (kept_keys w members s.having keys)
      go false = plain_in_two v s.items rows

  select_in_two : (s : SelectTree) → select_value b kinds s ≡ after (select_value b own s) (rows_as b.settings kinds)
  select_in_two s = go (source_rows b s)
    where
      go : (m : Outcome (List Row)) → after m (second_phase (at_rows b (scope_of b.tables s)) (zip s.items kinds) s) ≡ after (after m (second_phase (at_rows b (scope_of b.tables s)) (zip s.items own) s)) (rows_as b.settings kinds)
      go (Ok rows) = second_in_two (at_rows b (scope_of b.tables s)) s rows
      go (Err f) = refl

-- ---- queries

-- a select alone
pub alone : (m : Outcome (List Row)) → appended (m ∷ []) ≡ m
alone (Ok rows) = ap Ok (append-nil rows)
alone (Err f) = ap (λ o. unless o []) (join_none (Some f))

own_kinds : (b : Base) (s : SelectTree) → kinds_of (query_columns b.tables (s ∷ [])) ≡ typing.kinds_of b.tables s
own_kinds b s =
    let ks = typing.kinds_of b.tables s in
    named_kinds (map item_name s.items) (map or_null (map Some ks)) (length-map s.items item_name ∙ sym (length-map (map Some ks) or_null ∙ length-map ks Some ∙ length-map s.items (item_kind (scope_of b.tables s)))) ∙ same ks
  where
    same : (ks : List Kind) → map or_null (map Some ks) ≡ ks
    same [] = refl
    same (x ∷ ks) = ap (λ l. x ∷ l) (same ks)

one_select : (b : Base) (s : SelectTree) → query_value b (s ∷ []) ≡ select_value b (typing.kinds_of b.tables s) s
one_select b s = alone (select_value b (kinds_of (query_columns b.tables (s ∷ []))) s) ∙ ap (λ ks. select_value b ks s) (own_kinds b s)

pub union_parts : (b : Base) (q : QueryTree) → IsQueryTyped b.settings b.tables q
    → query_value b q ≡ appended (map (λ s. after (query_value b (s ∷ [])) (rows_as b.settings (kinds_of (query_columns b.tables q)))) q)
union_parts b q h = ap appended (go (kinds_of (query_columns b.tables q)) q (all_lifted b q h))
  where
    go : (kinds : List Kind) (ss : List SelectTree) → AllByRecursion (λ t. Lifted kinds (typing.kinds_of b.tables t)) ss → map (select_value b kinds) ss ≡ map (λ s. after (query_value b (s ∷ [])) (rows_as b.settings kinds)) ss
    go kinds [] up = refl
    go kinds (s ∷ ss) up =
        let one : select_value b kinds s ≡ after (query_value b (s ∷ [])) (rows_as b.settings kinds) = select_in_two b kinds (typing.kinds_of b.tables s) up.0 s ∙ ap (λ m. after m (rows_as b.settings kinds)) (sym (one_select b s)) in
        λ i. one i ∷ go kinds ss up.1 i
