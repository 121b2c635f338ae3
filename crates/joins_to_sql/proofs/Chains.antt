-- Operands that are joined with a first source, one after the other: for each row of the first source what is found in each operand.
use Rattle.std.proofs.Common.{◌≡◌, ◌≤◌, ◌<◌, ◌+◌, ◌^◌, ℕ, suc, Bool, true, List, [], ◌∷◌, ◌++◌, length, map, Option, Some, None, Ok, refl, ap, sym, ◌∙◌, subst, arith, append_assoc, append-nil, length-append}
use Rattle.std.specs.Prelude.{fold, is_some, option_map}
use Rattle.std.specs.List.{AllByRecursion, filter, find, flat_map}
use Rattle.std.specs.Option.{option_to_list}
use Rattle.std.proofs.lemmas.List.{length-map, map-append}
use Rattle.vtl_lists.proofs.Alls.{all_append, all_more}
use Rattle.grammar_forms.specs.Written.{Each}
use Rattle.vtl_decimal.specs.declared.number.Fault.{Fault}
use Rattle.vtl_cell.specs.Outcome.{fault_in, faults_by, join}
use Rattle.vtl_cell.specs.Outcomes.{is_true}
use Rattle.vtl_cell.specs.Row.{Row, same_row}
use Rattle.vtl_cell.specs.ScalarKinds.{meets}
use Rattle.vtl_decimal.specs.Settings.{Settings}
use Rattle.vtl_cell.specs.declared.cell.Cell.TheVariants as c
use Rattle.vtl_cell.specs.declared.kind.Kind.TheVariants as k
use Rattle.vtl_rows.specs.Tables.{cells_at}
use Rattle.vtl_tree.specs.DataSet.{IsDataSet, is_point}
use Rattle.vtl_tree.specs.Environment.{DataSet}
use Rattle.vtl_tree.specs.Structure.{columns_of, most_components}
use Rattle.vtl_tree.specs.Value.{value}
use Rattle.vtl_tree.specs.declared.structure.Component.{Component}
use Rattle.vtl_tree.specs.declared.structure.Structure.{Structure}
use Rattle.vtl_tuples.proofs.Lists.{filter_same, flat_map-flat_map, flat_map_each, flat_map_same}
use Rattle.vtl_tree.specs.Columns.{places_in}
use Rattle.vtl_meaning.specs.Joined.{structures_of}
use Rattle.vtl_meaning.specs.Made.{IsTyped}
use Rattle.vtl_meaning.proofs.JoinParts.{found_is}
use Rattle.vtl_meaning.proofs.OwnColumns.{columns_apart}
use Rattle.vtl_meaning.proofs.Places.{point_append, point_length}
use Rattle.sql_tree.specs.Formed.{IsJoin, IsName}
use Rattle.sql_tree.specs.Trees.{Exp, JoinTree, Text, on}
use Rattle.sql_tree.specs.declared.word_groups.JoinKind.{JoinKind}
use Rattle.sql_tree.specs.declared.word_groups.JoinKind.TheVariants as joining
use Rattle.sql_check_laws.specs.Fits.{IsCondition}
use Rattle.sql_check_laws.specs.Selects.{AreJoinsTyped}
use Rattle.sql_check_parts.specs.Expressions.{site}
use Rattle.sql_check_parts.specs.Queries.{joined_scope}
use Rattle.sql_check_parts.specs.Scopes.{Scope, columns_of as table_columns, or_nothing, row_of, with_source}
use Rattle.sql_meaning.specs.From as from
use Rattle.sql_meaning.specs.From.{Joined, fault_at, holds, join_on, joined_rows, nulls, or_alone, pairs, partners, partners_or_alone, with_join}
use Rattle.sql_meaning.specs.Scripts.{Data, base_of, tables_in}
use Rattle.sql_meaning.specs.Tables.{Base}
use Rattle.sql_meaning.specs.Values.{View, at_rows, value as sql_value}
use Rattle.expressions_to_sql.specs.Names.{AreNamesFormed, Names}
use Rattle.expressions_to_sql.specs.ToSql.{Naming, to_sql}
use Rattle.selects_to_sql.specs.Writable.{CanBeWritten, HaveNames}
use Rattle.joins_to_sql.specs.Joins.{Placed, all_tied, joins_on, of_many, placed_at, placed_from, width_of}
use Rattle.selects_to_sql.specs.Queries.{alias_of, source_as}
use Rattle.selects_to_sql.specs.Runs.{entries, printable_depth}
use Rattle.selects_to_sql.proofs.Expressions.{Translates}
use Rattle.joins_to_sql.proofs.HeldOperands.{AreHeld, IsHeld, alias_new, rows_held, source_behind}
use Rattle.selects_to_sql.proofs.Identifiers.{AreIdentifiersAt}
use Rattle.selects_to_sql.proofs.Loose.{all_loose, loose, loose_nulls, loose_point}
use Rattle.joins_to_sql.proofs.ManySources.{AllApart, alias_is_name, all_columns, columns_more, many_formed, many_names, many_scope, widths}
use Rattle.selects_to_sql.proofs.Pairs.{no_faults}
use Rattle.selects_to_sql.proofs.Sources.{AreApart}
use Rattle.selects_to_sql.proofs.Selects.{condition_fits, expression_printed}
use Rattle.joins_to_sql.proofs.Ties.{tied_kind, tied_typed, tied_value, tied_written}

-- ---- what one operand more makes of a row

abbrev pub cells_or_nulls : ℕ → Option Row → Row
cells_or_nulls m None = nulls m
cells_or_nulls m (Some t) = t

-- INNER and LEFT
abbrev pub IsOneSided : JoinKind → Type 0
IsOneSided joining.Inner = Unit {0}
IsOneSided joining.Left = Unit {0}
IsOneSided joining.Full = ⊥

abbrev pub extended : JoinKind → ℕ → Option Row → Row → List Row
extended joining.Inner m o x = option_to_list (option_map (λ t. x ++ t) o)
extended joining.Left m o x = (x ++ cells_or_nulls m o) ∷ []
extended joining.Full m o x = []

-- and several, each with its width
abbrev pub extended_by : JoinKind → List (ℕ × Option Row) → Row → List Row
extended_by kind [] x = x ∷ []
extended_by kind (o ∷ os) x = flat_map (extended_by kind os) (extended kind o.0 o.1 x)

abbrev step_of : JoinKind → (Row → Bool) → ℕ → List Row → Row → List Row
step_of joining.Inner test m right x = partners (λ l y. test (l ++ y)) from.beside right x
step_of joining.Left test m right x = partners_or_alone (λ l y. test (l ++ y)) from.beside (λ l. l ++ nulls m) right x
step_of joining.Full test m right x = []

joined_is : (kind : JoinKind) → IsOneSided kind → (test : Row → Bool) (n m : ℕ) (left right : List Row) → joined_rows kind test n m left right ≡ flat_map (step_of kind test m right) left
joined_is joining.Inner h test n m left right = refl
joined_is joining.Left h test n m left right = refl
joined_is joining.Full h test n m left right = absurd h

step_is : (kind : JoinKind) → IsOneSided kind → (test : Row → Bool) (m : ℕ) (right : List Row) (x : Row) (o : Option Row) → filter (λ y. test (x ++ y)) right ≡ option_to_list o → step_of kind test m right x ≡ extended kind m o x
step_is joining.Inner h test m right x o e = ap (map (from.beside x)) e ∙ go o
  where
    go : (w : Option Row) → map (from.beside x) (option_to_list w) ≡ option_to_list (option_map (λ t. x ++ t) w)
    go None = refl
    go (Some t) = refl
step_is joining.Left h test m right x o e = ap (λ l. or_alone (map (from.beside x) l) (x ++ nulls m)) e ∙ go o
  where
    go : (w : Option Row) → or_alone (map (from.beside x) (option_to_list w)) (x ++ nulls m) ≡ (x ++ cells_or_nulls m w) ∷ []
    go None = refl
    go (Some t) = refl
step_is joining.Full h test m right x o e = absurd h

abbrev pub joined_of : Scope → List Row → Option Fault → Joined
joined_of scope rows fault = record { scope = scope; rows = rows; fault = fault }

pub each_alone : {X : Type 0} (xs : List X) → flat_map (λ x. x ∷ []) xs ≡ xs
each_alone [] = refl
each_alone (x ∷ xs) = ap (λ l. x ∷ l) (each_alone xs)

pub all_pieces : (Q P : Row → Type 0) (h : Row → List Row) → ((q : Row) → Q q → AllByRecursion P (h q)) → (qs : List Row) → AllByRecursion Q qs → AllByRecursion P (flat_map h qs)
all_pieces Q P h each [] all = tt
all_pieces Q P h each (q ∷ qs) all = all_append P (h q) (flat_map h qs) (each q all.0) (all_pieces Q P h each qs all.1)

module _ (p : Settings) (law : Translates p) (before : Data) (first : List Component) (f : Structure → List Component) (ws : List ℕ) (few : length (length first ∷ ws) < 2 ^ 64) (kind : JoinKind) (one : IsOneSided kind) where
  abbrev b : Base
  b = base_of p before

  abbrev pub at : Naming
  at = of_many 0 (length first ∷ ws)

  abbrev pub IsLead : Row → Type 0
  IsLead q = is_point first q ≡ true

  -- a row of an operand has these values of the first source's row
  abbrev pub agrees : DataSet → Row → Row → Bool
  agrees d q t = same_row (cells_at (places_in (columns_of d.structure) (f d.structure)) t) (cells_at (places_in first (f d.structure)) q)

  abbrev pub found : DataSet → Row → Option Row
  found d q = find (agrees d q) d.points

  -- an operand of which at most one row does
  pub record IsTied (d : DataSet) : Type 0 where
    pub set : IsDataSet d.structure d.points
    pub named : HaveNames (columns_of d.structure)
    pub ours : AreIdentifiersAt first (f d.structure)
    pub theirs : AreIdentifiersAt (columns_of d.structure) (f d.structure)
    pub counted : length (f d.structure) ≤ most_components
    pub only : (q : Row) → IsLead q → filter (agrees d q) d.points ≡ option_to_list (found d q)

  -- ---- how far the joins are

  -- the columns of the sources so far, and the operands that are left
  pub record Stage (done : List (List Component)) (left : List DataSet) : Type 0 where
    pub apart : AllApart (first ∷ done)
    pub named : AllByRecursion HaveNames (first ∷ done)
    pub split : ws ≡ widths done ++ map width_of (structures_of left)

  abbrev pub so_far : List (List Component) → List Component
  so_far done = all_columns (first ∷ done)

  abbrev pub with_one : List (List Component) → DataSet → List (List Component)
  with_one done d = done ++ columns_of d.structure ∷ []

  next_stage : (done : List (List Component)) (d : DataSet) (left : List DataSet) → IsTied d → Stage done (d ∷ left) → Stage (with_one done d) left
  next_stage done d left t s = record {
    apart = all_append AreApart (first ∷ done) (columns_of d.structure ∷ []) s.apart (columns_apart d.structure t.set.well_formed, tt);
    named = all_append HaveNames (first ∷ done) (columns_of d.structure ∷ []) s.named (t.named, tt);
    split = s.split ∙ sym (append_assoc (widths done) (width_of d.structure ∷ []) (map width_of (structures_of left))) ∙ ap (λ l. l ++ map width_of (structures_of left)) (sym (map-append (λ ys. length ys) done (columns_of d.structure ∷ [])));
  }

  named_all : (yss : List (List Component)) → AllByRecursion HaveNames yss → HaveNames (all_columns yss)
  named_all [] h = tt
  named_all (ys ∷ yss) h = all_append (λ x. IsName x.name) ys (all_columns yss) h.0 (named_all yss h.1)

  pub names_at : (done : List (List Component)) (left : List DataSet) → Stage done left → Names at (many_scope 0 (first ∷ done)) (so_far done)
  names_at done left s =
      let size : length (widths (first ∷ done) ++ map width_of (structures_of left)) ≡ length (length first ∷ ws) = ap (λ l. length (length first ∷ l)) (sym s.split) in
      subst (λ l. Names (of_many 0 (length first ∷ l)) (many_scope 0 (first ∷ done)) (so_far done)) (sym s.split) (many_names (first ∷ done) (map width_of (structures_of left)) s.apart (omega (arith, few, size)))

  pub formed_at : (done : List (List Component)) (left : List DataSet) → Stage done left → AreNamesFormed at (so_far done)
  formed_at done left s = many_formed 0 (length first ∷ ws) (so_far done) (omega (arith, few)) (named_all (first ∷ done) s.named)

  -- the sources so far are numbered
  few_done : (done : List (List Component)) (d : DataSet) (left : List DataSet) → Stage done (d ∷ left) → length (first ∷ done) < 2 ^ 64
  few_done done d left s =
      let size = ap length s.split in
      let sum = length-append (widths done) (map width_of (structures_of (d ∷ left))) in
      let front = length-map done (λ ys. length ys) in
      omega (arith, few, size, sum, front)

  -- ---- rows so far

  -- it begins with a row of the first source, and has cells of the kinds of the columns so far
  pub record IsGrown (q : Row) (done : List (List Component)) (l : Row) : Type 0 where
    pub rest : Row
    pub is : l ≡ q ++ rest
    pub typed : is_point (all_loose (so_far done)) l ≡ true

  -- no condition so far had a fault
  abbrev pub state : List (List Component) → List Row → Joined
  state done rows = joined_of (many_scope 0 (first ∷ done)) rows None

  -- ---- one operand more

  module _ (done : List (List Component)) (d : DataSet) (left : List DataSet) (x : Text) (i n : ℕ) (number : i ≡ length (first ∷ done)) (many : n ≡ length (so_far done)) (s : Stage done (d ∷ left)) (t : IsTied d) (here : IsHeld before x d) where
    abbrev ys : List Component
    ys = columns_of d.structure

    abbrev o : Placed
    o = placed_at n d.structure

    abbrev tie : Exp
    tie = to_sql p at (all_tied first f o)

    abbrev pub after_it : List (List Component)
    after_it = with_one done d

    abbrev all : List Component
    all = so_far done ++ ys

    more_columns : so_far after_it ≡ all
    more_columns = columns_more (first ∷ done) ys

    known : table_columns (tables_in before) x ≡ Some (entries ys)
    known = here.known

    few_so_far : i < 2 ^ 64
    few_so_far = let h = few_done done d left s in omega (arith, h, number)

    pub source_more : with_source (tables_in before) (many_scope 0 (first ∷ done)) (source_as (alias_of i) x) ≡ many_scope 0 (first ∷ after_it)
    source_more = source_behind before (first ∷ done) x d i number few_so_far here

    names : Names at (many_scope 0 (first ∷ after_it)) all
    names = subst (Names at (many_scope 0 (first ∷ after_it))) more_columns (names_at after_it left (next_stage done d left t s))

    abbrev v : View
    v = at_rows b (many_scope 0 (first ∷ after_it))

    abbrev w : ℕ
    w = width_of d.structure

    long : (q l : Row) → IsGrown q done l → length l ≡ n
    long q l g = point_length (all_loose (so_far done)) l g.typed ∙ length-map (so_far done) loose ∙ sym many

    abbrev tied : IsTyped p all (all_tied first f o)
    tied = tied_typed p first (all_columns done) d.structure n (sym many) f t.ours t.theirs

    abbrev written : CanBeWritten (all_tied first f o)
    written = tied_written p first (all_columns done) d.structure n (sym many) f t.ours t.theirs t.counted

    tie_is : (q l y : Row) → IsLead q → IsGrown q done l → is_point ys y ≡ true → sql_value v tie (l ++ y) [] ≡ Ok (c.Bool (agrees d q y))
    tie_is q l y lead g h =
        law.value_at b at (many_scope 0 (first ∷ after_it)) all (l ++ y) [] refl names (all_tied first f o) tied written.constants
        ∙ ap (λ r. value p (all_tied first f o) (r ++ y)) g.is
        ∙ tied_value p first (all_columns done) d.structure n (sym many) f t.ours t.theirs q g.rest y lead h (ap length (sym g.is) ∙ long q l g)

    finds : (q l : Row) → IsLead q → IsGrown q done l → filter (λ y. holds v tie (l ++ y)) d.points ≡ option_to_list (found d q)
    finds q l lead g =
        filter_same (λ y. holds v tie (l ++ y)) (agrees d q) d.points (all_more (λ y. is_point ys y ≡ true) (λ y. holds v tie (l ++ y) ≡ agrees d q y) (λ y h. ap is_true (tie_is q l y lead g h)) d.points t.set.typed)
        ∙ t.only q lead

    found_typed : (q y : Row) → found d q ≡ Some y → is_point ys y ≡ true
    found_typed q y e = found_is (λ r. is_point ys r ≡ true) (agrees d q) d.points y t.set.typed e

    joined_typed : (l y : Row) → is_point (all_loose (so_far done)) l ≡ true → is_point (all_loose ys) y ≡ true → is_point (all_loose (so_far after_it)) (l ++ y) ≡ true
    joined_typed l y h g =
        subst (λ xs. is_point xs (l ++ y) ≡ true) (sym (map-append loose (so_far done) ys) ∙ ap all_loose (sym more_columns)) (point_append (all_loose (so_far done)) (all_loose ys) l y h g)

    and_more : (q l y : Row) → IsGrown q done l → is_point (all_loose ys) y ≡ true → IsGrown q after_it (l ++ y)
    and_more q l y g h = record { rest = g.rest ++ y; is = ap (λ r. r ++ y) g.is ∙ append_assoc q g.rest y; typed = joined_typed l y g.typed h }

    extended_grown : (k : JoinKind) (q l : Row) (u : Option Row) → ((y : Row) → u ≡ Some y → is_point ys y ≡ true) → IsGrown q done l → AllByRecursion (IsGrown q after_it) (extended k w u l)
    extended_grown joining.Inner q l None h g = tt
    extended_grown joining.Inner q l (Some y) h g = (and_more q l y g (loose_point ys y (h y refl)), tt)
    extended_grown joining.Left q l None h g = (and_more q l (nulls w) g (loose_nulls ys), tt)
    extended_grown joining.Left q l (Some y) h g = (and_more q l y g (loose_point ys y (h y refl)), tt)
    extended_grown joining.Full q l u h g = tt

    module _ (h : Row → List Row) (grown : (q : Row) → IsLead q → AllByRecursion (IsGrown q done) (h q)) where
      abbrev pub more : Row → List Row
      more q = flat_map (extended kind w (found d q)) (h q)

      pub grown_more : (q : Row) → IsLead q → AllByRecursion (IsGrown q after_it) (more q)
      grown_more q lead = all_pieces (IsGrown q done) (IsGrown q after_it) (extended kind w (found d q)) (λ l g. extended_grown kind q l (found d q) (found_typed q) g) (h q) (grown q lead)

      module _ (points : List Row) (typed : AllByRecursion IsLead points) where
        rows_more : (m : ℕ) → joined_rows kind (holds v tie) m w (flat_map h points) d.points ≡ flat_map more points
        rows_more m =
            let step : Row → List Row = step_of kind (holds v tie) w d.points in
            joined_is kind one (holds v tie) m w (flat_map h points) d.points
            ∙ flat_map-flat_map step h points
            ∙ flat_map_same (λ q. flat_map step (h q)) more points
            (all_more IsLead (λ q. flat_map step (h q) ≡ more q)
            (λ q lead. flat_map_same step (extended kind w (found d q)) (h q)
            (all_more (IsGrown q done) (λ l. step l ≡ extended kind w (found d q) l) (λ l g. step_is kind one (holds v tie) w d.points l (found d q) (finds q l lead g)) (h q) (grown q lead))) points typed)

        abbrev Safe : Row → Type 0
        Safe l = AllByRecursion (λ y. fault_at v tie (l ++ y) ≡ None) d.points

        no_fault : faults_by (fault_at v tie) (pairs (flat_map h points) d.points) ≡ None
        no_fault =
            no_faults Safe (fault_at v tie) (flat_map h points) d.points (λ l s. s)
            (all_pieces IsLead Safe h
            (λ q lead. all_more (IsGrown q done) Safe (λ l g. all_more (λ y. is_point ys y ≡ true) (λ y. fault_at v tie (l ++ y) ≡ None) (λ y j. ap fault_in (tie_is q l y lead g j)) d.points t.set.typed) (h q) (grown q lead)) points typed)

        pub stepped : with_join b (state done (flat_map h points)) (on kind (source_as (alias_of i) x) tie) ≡ state after_it (flat_map more points)
        stepped =
            let st = state done (flat_map h points) in
            let m = length (row_of (many_scope 0 (first ∷ done))) in
            ap (λ z. join_on kind (at_rows b z) tie m (length (or_nothing (table_columns (tables_in before) x))) st (b.rows x)) source_more
            ∙ ap (λ z. join_on kind v tie m (length (or_nothing z)) st (b.rows x)) known
            ∙ ap (λ z. join_on kind v tie m z st (b.rows x)) (length-map ys (λ y. (y.name, y.kind)))
            ∙ ap (λ z. join_on kind v tie m w st z) (rows_held p before x d here)
            ∙ ap (λ z. joined_of (many_scope 0 (first ∷ after_it)) z (join None (faults_by (fault_at v tie) (pairs (flat_map h points) d.points)))) (rows_more m)
            ∙ ap (λ z. joined_of (many_scope 0 (first ∷ after_it)) (flat_map more points) (join None z)) no_fault

    -- ---- its form

    formed : AreNamesFormed at all
    formed = subst (AreNamesFormed at) more_columns (formed_at after_it left (next_stage done d left t s))

    pub join_typed : AreJoinsTyped p (tables_in before) (many_scope 0 (first ∷ done)) (on kind (source_as (alias_of i) x) tie ∷ [])
    join_typed =
        let boolean = ap (meets k.Bool) (tied_kind p first (all_columns done) d.structure n (sym many) f t.ours t.theirs) in
        let fits = condition_fits p law at all formed (many_scope 0 (first ∷ after_it)) names (tables_in before) (all_tied first f o) tied boolean written in
        ((ap is_some known, alias_new before (first ∷ done) x d i number few_so_far here, refl), subst (λ z. IsCondition (site p (tables_in before) z) None tie) (sym source_more) fits, tt)

    pub join_printed : IsJoin printable_depth (on kind (source_as (alias_of i) x) tie)
    join_printed = ((here.word, tt, alias_is_name i few_so_far), expression_printed p law at all formed (all_tied first f o) tied written)

  -- ---- all operands

  abbrev pub AllTied : List DataSet → Type 0
  AllTied ds = AllByRecursion IsTied ds

  -- what is found in each
  abbrev pub found_in : Row → List DataSet → List (ℕ × Option Row)
  found_in q ds = map (λ d. (width_of d.structure, found d q)) ds

  abbrev pub after_all : List (List Component) → List DataSet → List (List Component)
  after_all done [] = done
  after_all done (d ∷ ds) = after_all (with_one done d) ds

  abbrev pub joins : ℕ → ℕ → List DataSet → List Text → List JoinTree
  joins i n ds xs = joins_on p kind at first f i (placed_from n (structures_of ds)) xs

  -- where the joins are: the number of the next source, and how many columns there are before it
  pub record IsAt (i n : ℕ) (done : List (List Component)) (left : List DataSet) : Type 0 where
    pub number : i ≡ length (first ∷ done)
    pub many : n ≡ length (so_far done)
    pub stage : Stage done left

  is_next : (i n : ℕ) (done : List (List Component)) (d : DataSet) (left : List DataSet) → IsTied d → IsAt i n done (d ∷ left) → IsAt (suc i) (n + width_of d.structure) (with_one done d) left
  is_next i n done d left t a =
      let ys = columns_of d.structure in
      let size = length-append (first ∷ done) (ys ∷ []) in
      let sum = ap length (columns_more (first ∷ done) ys) ∙ length-append (so_far done) ys in
      let number = a.number in
      let many = a.many in
      record { number = omega (arith, number, size); many = omega (arith, many, sum); stage = next_stage done d left t a.stage }

  abbrev pub AllGrown : (Row → List Row) → List (List Component) → Type 0
  AllGrown h done = (q : Row) → IsLead q → AllByRecursion (IsGrown q done) (h q)

  abbrev pub grown_by : List DataSet → (Row → List Row) → Row → List Row
  grown_by ds h q = flat_map (extended_by kind (found_in q ds)) (h q)

  -- one after the other, or all for each row
  by_steps : (d : DataSet) (ds : List DataSet) (h : Row → List Row) (q : Row) → grown_by ds (λ r. flat_map (extended kind (width_of d.structure) (found d r)) (h r)) q ≡ grown_by (d ∷ ds) h q
  by_steps d ds h q = flat_map-flat_map (extended_by kind (found_in q ds)) (extended kind (width_of d.structure) (found d q)) (h q)

  pub chained : (ds : List DataSet) (xs : List Text) (i n : ℕ) (done : List (List Component)) (h : Row → List Row) (points : List Row) → IsAt i n done ds → AllTied ds → AreHeld before xs ds → AllGrown h done → AllByRecursion IsLead points
      → fold (with_join b) (state done (flat_map h points)) (joins i n ds xs) ≡ state (after_all done ds) (flat_map (grown_by ds h) points)
  chained [] [] i n done h points a t here grown typed = ap (state done) (flat_map_each h (grown_by [] h) (λ q. sym (each_alone (h q))) points)
  chained [] (x ∷ xs) i n done h points a t here grown typed = absurd here
  chained (d ∷ ds) [] i n done h points a t here grown typed = absurd here
  chained (d ∷ ds) (x ∷ xs) i n done h points a t here grown typed =
      ap (λ z. fold (with_join b) z (joins (suc i) (n + width_of d.structure) ds xs)) (stepped done d ds x i n a.number a.many a.stage t.0 here.0 h grown points typed)
      ∙ chained ds xs (suc i) (n + width_of d.structure) (with_one done d) (more done d ds x i n a.number a.many a.stage t.0 here.0 h grown) points (is_next i n done d ds t.0 a) t.1 here.1 (grown_more done d ds x i n a.number a.many a.stage t.0 here.0 h grown) typed
      ∙ ap (state (after_all done (d ∷ ds))) (flat_map_each (grown_by ds (more done d ds x i n a.number a.many a.stage t.0 here.0 h grown)) (grown_by (d ∷ ds) h) (by_steps d ds h) points)

  pub all_grown : (ds : List DataSet) (xs : List Text) (i n : ℕ) (done : List (List Component)) (h : Row → List Row) → IsAt i n done ds → AllTied ds → AreHeld before xs ds → AllGrown h done → AllGrown (grown_by ds h) (after_all done ds)
  all_grown [] [] i n done h a t here grown q lead = subst (AllByRecursion (IsGrown q done)) (sym (each_alone (h q))) (grown q lead)
  all_grown [] (x ∷ xs) i n done h a t here grown q lead = absurd here
  all_grown (d ∷ ds) [] i n done h a t here grown q lead = absurd here
  all_grown (d ∷ ds) (x ∷ xs) i n done h a t here grown q lead =
      subst (AllByRecursion (IsGrown q (after_all done (d ∷ ds)))) (by_steps d ds h q)
      (all_grown ds xs (suc i) (n + width_of d.structure) (with_one done d) (more done d ds x i n a.number a.many a.stage t.0 here.0 h grown) (is_next i n done d ds t.0 a) t.1 here.1 (grown_more done d ds x i n a.number a.many a.stage t.0 here.0 h grown) q lead)

  pub chained_scope : (ds : List DataSet) (xs : List Text) (i n : ℕ) (done : List (List Component)) → IsAt i n done ds → AllTied ds → AreHeld before xs ds → joined_scope (tables_in before) (many_scope 0 (first ∷ done)) (joins i n ds xs) ≡ many_scope 0 (first ∷ after_all done ds)
  chained_scope [] [] i n done a t here = refl
  chained_scope [] (x ∷ xs) i n done a t here = absurd here
  chained_scope (d ∷ ds) [] i n done a t here = absurd here
  chained_scope (d ∷ ds) (x ∷ xs) i n done a t here =
      ap (λ z. joined_scope (tables_in before) z (joins (suc i) (n + width_of d.structure) ds xs)) (source_more done d ds x i n a.number a.many a.stage t.0 here.0)
      ∙ chained_scope ds xs (suc i) (n + width_of d.structure) (with_one done d) (is_next i n done d ds t.0 a) t.1 here.1

  pub chained_typed : (ds : List DataSet) (xs : List Text) (i n : ℕ) (done : List (List Component)) → IsAt i n done ds → AllTied ds → AreHeld before xs ds → AreJoinsTyped p (tables_in before) (many_scope 0 (first ∷ done)) (joins i n ds xs)
  chained_typed [] [] i n done a t here = tt
  chained_typed [] (x ∷ xs) i n done a t here = absurd here
  chained_typed (d ∷ ds) [] i n done a t here = absurd here
  chained_typed (d ∷ ds) (x ∷ xs) i n done a t here =
      let it = join_typed done d ds x i n a.number a.many a.stage t.0 here.0 in (
        it.0,
        it.1,
        subst (λ z. AreJoinsTyped p (tables_in before) z (joins (suc i) (n + width_of d.structure) ds xs)) (sym (source_more done d ds x i n a.number a.many a.stage t.0 here.0))
            (chained_typed ds xs (suc i) (n + width_of d.structure) (with_one done d) (is_next i n done d ds t.0 a) t.1 here.1),
      )

  pub chained_printed : (ds : List DataSet) (xs : List Text) (i n : ℕ) (done : List (List Component)) → IsAt i n done ds → AllTied ds → AreHeld before xs ds → Each (IsJoin printable_depth) (joins i n ds xs)
  chained_printed [] [] i n done a t here = tt
  chained_printed [] (x ∷ xs) i n done a t here = absurd here
  chained_printed (d ∷ ds) [] i n done a t here = absurd here
  chained_printed (d ∷ ds) (x ∷ xs) i n done a t here =
      (join_printed done d ds x i n a.number a.many a.stage t.0 here.0, chained_printed ds xs (suc i) (n + width_of d.structure) (with_one done d) (is_next i n done d ds t.0 a) t.1 here.1)

  -- the operands that are done
  pub all_done : (ds : List DataSet) (done : List (List Component)) → after_all done ds ≡ done ++ map (λ d. columns_of d.structure) ds
  all_done [] done = sym (append-nil done)
  all_done (d ∷ ds) done = all_done ds (with_one done d) ∙ append_assoc done (columns_of d.structure ∷ []) (map (λ e. columns_of e.structure) ds)

  pub last_stage : (ds : List DataSet) (i n : ℕ) (done : List (List Component)) → IsAt i n done ds → AllTied ds → Stage (after_all done ds) []
  last_stage [] i n done a t = a.stage
  last_stage (d ∷ ds) i n done a t = last_stage ds (suc i) (n + width_of d.structure) (with_one done d) (is_next i n done d ds t.0 a) t.1
