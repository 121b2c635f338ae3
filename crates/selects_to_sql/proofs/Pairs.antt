-- A select over a join of two tables gives the pairs of points that agree on the identifiers of the second.
use Rattle.std.proofs.Common.{◌≡◌, ◌+◌, ℕ, suc, Bool, true, false, ◌&&◌, cond, List, [], ◌∷◌, ◌++◌, length, map, take, Option, Some, None, Ok, refl, ap, sym, ◌∙◌, subst, arith}
use Rattle.std.specs.Prelude.{option_map}
use Rattle.std.specs.List.{AllByRecursion, filter, flat_map, list_all}
use Rattle.std.specs.Option.{option_to_list}
use Rattle.std.proofs.lemmas.List.{get_or_append_left, get_or-append-add, length-map}
use Rattle.vtl_cell.specs.Order.{same_cell}
use Rattle.vtl_decimal.specs.declared.number.Fault.{Fault}
use Rattle.vtl_cell.specs.Outcome.{Outcome, after, fault_in, faults_by, join, unless}
use Rattle.vtl_cell.specs.Outcomes.{is_true}
use Rattle.vtl_cell.specs.Row.{Row, column_of, same_key, same_row}
use Rattle.vtl_cell.specs.ScalarKinds.{kinds_of, meets}
use Rattle.vtl_decimal.specs.Settings.{Settings}
use Rattle.vtl_cell.specs.declared.cell.Cell.TheVariants as c
use Rattle.vtl_cell.specs.declared.kind.Kind.{Kind}
use Rattle.vtl_cell.specs.declared.kind.Kind.TheVariants as k
use Rattle.vtl_cell.specs.declared.operator.ScalarOp.TheVariants as op
use Rattle.vtl_lists.proofs.Aparts.{apart_parts}
use Rattle.vtl_lists.proofs.Alls.{all_append, all_more}
use Rattle.vtl_cell.proofs.Rows.{same_row-is, same_row-sym}
use Rattle.vtl_rows.specs.Tables.{cells_at}
use Rattle.vtl_tree.specs.Clauses.{filter_of}
use Rattle.vtl_tree.specs.CompExp.{CompExp}
use Rattle.vtl_tree.specs.DataSet.{Distinct, IsDataSet, is_point, look}
use Rattle.vtl_tree.specs.Structure.{columns_of, key_width}
use Rattle.vtl_tree.specs.Value.{called, value}
use Rattle.vtl_tree.specs.declared.structure.Component.{Component}
use Rattle.vtl_tree.specs.declared.structure.Structure.{Structure}
use Rattle.vtl_tree.specs.Columns.{identifiers_of, kind_named, place_of, places_in}
use Rattle.vtl_meaning.specs.Made.{AreFor, IsColumnAt, IsTyped}
use Rattle.vtl_meaning.specs.Points.{beside, each_point, paired, with_points}
use Rattle.vtl_meaning.proofs.Drawn.{drawn_all}
use Rattle.vtl_meaning.proofs.Kept.{Pairs, all_paired, column_front, column_within}
use Rattle.vtl_meaning.proofs.Looks.{look_absent}
use Rattle.vtl_meaning.proofs.OwnColumns.{columns_apart}
use Rattle.vtl_meaning.proofs.Places.{key_cells, key_within, point_length}
use Rattle.vtl_meaning.proofs.ValueKinds.{cell_is_of}
use Rattle.sql_tree.specs.Formed.{IsName}
use Rattle.sql_tree.specs.Trees.{Exp, JoinTree, SelectTree, Text, on}
use Rattle.sql_tree.specs.declared.word_groups.JoinKind.TheVariants as joining
use Rattle.sql_check_laws.specs.Selects.{AreJoinsTyped}
use Rattle.sql_check_parts.specs.Queries.{first_scope, scope_of}
use Rattle.sql_check_parts.specs.Scopes.{Scope, add_source, columns_of as table_columns}
use Rattle.sql_meaning.specs.From as from
use Rattle.sql_meaning.specs.From.{fault_at, holds, pairs, partners, source_rows}
use Rattle.sql_meaning.specs.Scripts.{Data, base_of, tables_in}
use Rattle.sql_meaning.specs.Values.{View, at_rows, value as sql_value}
use Rattle.expressions_to_sql.specs.Names.{AreNamesFormed, Names}
use Rattle.expressions_to_sql.specs.ToSql.{Naming, to_sql}
use Rattle.selects_to_sql.specs.Writable.{AllCanBeWritten, CanBeWritten, HaveNames}
use Rattle.selects_to_sql.specs.Queries.{agree, agrees_on, condition_for, conjunction, first_alias, of_two, pairs_select, second_alias, source_as}
use Rattle.selects_to_sql.specs.Runs.{IsTable, entries}
use Rattle.selects_to_sql.proofs.Conjunctions.{IsPart, alike_kinds, conjunction_kind, conjunction_typed, conjunction_value, conjunction_written, equal_cells}
use Rattle.selects_to_sql.proofs.Expressions.{Translates}
use Rattle.selects_to_sql.proofs.Identifiers.{AreIdentifiersAt, IsIdentifierAt, few_identifiers, own_there}
use Rattle.selects_to_sql.proofs.OneOperand.{known_there, rows_there, same_functions}
use Rattle.selects_to_sql.proofs.Givens.{AreGiven}
use Rattle.selects_to_sql.proofs.SelectItems.{AllRows, GivesRows, IsFrom}
use Rattle.selects_to_sql.proofs.Selects.{IsPointOf, IsTest, condition_fits, expression_printed, expressions_give, maybe_fits, maybe_printed}
use Rattle.selects_to_sql.proofs.Sources.{first_is_name, second_is_name, two_formed, two_names, two_scope}

-- ---- the partners of a row are the one point with its key

matches : (test : Row → Bool) (x key : Row) (w : ℕ) (e : List Row) → AllByRecursion (λ q. test q ≡ same_row (take w q) key) e → Distinct w e → map (λ q. x ++ q) (filter test e) ≡ option_to_list (option_map (λ q. x ++ q) (look w e key))
matches test x key w [] all apart = refl
matches test x key w (q ∷ e) all apart = go (same_row (take w q) key) refl (matches test x key w e all.1 (apart_parts (same_key w) q e apart).1)
  where
    go : (b : Bool) → same_row (take w q) key ≡ b → map (λ z. x ++ z) (filter test e) ≡ option_to_list (option_map (λ z. x ++ z) (look w e key))
        → map (λ z. x ++ z) (cond (test q) (q ∷ filter test e) (filter test e)) ≡ option_to_list (option_map (λ z. x ++ z) (cond b (Some q) (look w e key)))
    go true h ih =
        let none = look_absent w e key (all_more (λ s. same_key w q s ≡ false) (λ s. same_row (take w s) key ≡ false) (λ s n. same_row-sym (take w s) key ∙ ap (λ z. same_row z (take w s)) (sym (same_row-is (take w q) key h)) ∙ n) e (apart_parts (same_key w) q e apart).0) in
        ap (λ t. map (λ z. x ++ z) (cond t (q ∷ filter test e) (filter test e))) (all.0 ∙ h)
        ∙ ap (λ l. (x ++ q) ∷ l) (ih ∙ ap (λ o. option_to_list (option_map (λ z. x ++ z) o)) none)
    go false h ih = ap (λ t. map (λ z. x ++ z) (cond t (q ∷ filter test e) (filter test e))) (all.0 ∙ h) ∙ ih

pub same_pieces : {X Y : Type 0} (P : X → Type 0) (f g : X → List Y) → ((x : X) → P x → f x ≡ g x) → (xs : List X) → AllByRecursion P xs → flat_map f xs ≡ flat_map g xs
same_pieces P f g h [] all = refl
same_pieces P f g h (x ∷ xs) all = ap (λ l. l ++ flat_map f xs) (h x all.0) ∙ ap (λ l. g x ++ l) (same_pieces P f g h xs all.1)

no_fault_on : (f : Row → Option Fault) (x : Row) (e more : List Row) → AllByRecursion (λ q. f (x ++ q) ≡ None) e → faults_by f (map (λ q. x ++ q) e ++ more) ≡ faults_by f more
no_fault_on f x [] more all = refl
no_fault_on f x (q ∷ e) more all = ap (λ o. join o (faults_by f (map (λ z. x ++ z) e ++ more))) all.0 ∙ no_fault_on f x e more all.1

pub no_faults : (P : Row → Type 0) (f : Row → Option Fault) (d e : List Row) → ((x : Row) → P x → AllByRecursion (λ q. f (x ++ q) ≡ None) e) → AllByRecursion P d → faults_by f (pairs d e) ≡ None
no_faults P f [] e h all = refl
no_faults P f (x ∷ d) e h all = no_fault_on f x e (pairs d e) (h x all.0) ∙ no_faults P f d e h all.1

-- ---- the condition of the join

pub column_later : (place : ℕ) (name : List ℕ) (kind : Kind) (xs ys : List Component) → IsColumnAt place name kind ys → IsColumnAt (length xs + place) name kind (xs ++ ys)
column_later place name kind [] ys i = let same : place ≡ 0 + place = omega arith in subst (λ n. IsColumnAt n name kind ys) same i
column_later place name kind (x ∷ xs) ys i = let same : suc (length xs + place) ≡ length (x ∷ xs) + place = omega arith in subst (λ n. IsColumnAt n name kind (x ∷ xs ++ ys)) same (column_later place name kind xs ys i)

pub same_cells : (xs ys zs : List Component) (r q : Row) → list_all (λ z. same_cell (column_of (place_of z.name ys) q) (column_of (place_of z.name xs) r)) zs ≡ same_row (cells_at (places_in ys zs) q) (cells_at (places_in xs zs) r)
same_cells xs ys [] r q = refl
same_cells xs ys (z ∷ zs) r q = ap (λ b. same_cell (column_of (place_of z.name ys) q) (column_of (place_of z.name xs) r) && b) (same_cells xs ys zs r q)

module _ (p : Settings) (xs ys : List Component) where
  agree_part : (z : Component) → IsIdentifierAt z.name z.kind xs → IsIdentifierAt z.name z.kind ys → IsPart p (xs ++ ys) (agrees_on xs ys z)
  agree_part z i j =
      let own = subst (λ q. IsColumnAt (place_of z.name xs) z.name q xs) (sym i.named) i.column in
      let others = subst (λ q. IsColumnAt (place_of z.name ys) z.name q ys) (sym j.named) j.column in
      record {
        typed = (
          ap (λ q. kinds_of op.Equal (q ∷ kind_named z.name xs ∷ [])) (j.named ∙ sym i.named) ∙ alike_kinds (kind_named z.name xs),
          (column_later (place_of z.name ys) z.name (kind_named z.name ys) xs ys others, (column_front (place_of z.name xs) z.name (kind_named z.name xs) xs ys own, tt)),
          refl,
        );
        boolean = refl;
        held = (tt, (tt, tt));
        flat = omega arith;
      }

  pub agree_parts : (zs : List Component) → AreIdentifiersAt xs zs → AreIdentifiersAt ys zs → AllByRecursion (IsPart p (xs ++ ys)) (map (agrees_on xs ys) zs)
  agree_parts [] i j = tt
  agree_parts (z ∷ zs) i j = (agree_part z i.0 j.0, agree_parts zs i.1 j.1)

  module _ (r q : Row) (h : is_point xs r ≡ true) (g : is_point ys q ≡ true) where
    one_value : (z : Component) → IsIdentifierAt z.name z.kind xs → IsIdentifierAt z.name z.kind ys → value p (agrees_on xs ys z) (r ++ q) ≡ Ok (c.Bool (same_cell (column_of (place_of z.name ys) q) (column_of (place_of z.name xs) r)))
    one_value z i j =
        let wide = point_length xs r h in
        let within = column_within (place_of z.name xs) z.name z.kind xs i.column in
        let second : column_of (length xs + place_of z.name ys) (r ++ q) ≡ column_of (place_of z.name ys) q = ap (λ n. column_of (n + place_of z.name ys) (r ++ q)) (sym wide) ∙ get_or-append-add r q (place_of z.name ys) c.Null in
        let first : column_of (place_of z.name xs) (r ++ q) ≡ column_of (place_of z.name xs) r = get_or_append_left r q c.Null (place_of z.name xs) (omega (arith, within, wide)) in
        ap (λ v. called p k.Bool (Ok v ∷ Ok (column_of (place_of z.name xs) (r ++ q)) ∷ []) op.Equal) second
        ∙ ap (λ v. called p k.Bool (Ok (column_of (place_of z.name ys) q) ∷ Ok v ∷ []) op.Equal) first
        ∙ equal_cells p z.kind (column_of (place_of z.name ys) q) (column_of (place_of z.name xs) r) (cell_is_of (place_of z.name ys) z.name z.kind ys q j.column g) (cell_is_of (place_of z.name xs) z.name z.kind xs r i.column h) (j.filled q g) (i.filled r h)

    each_value : (zs : List Component) → AreIdentifiersAt xs zs → AreIdentifiersAt ys zs → AllByRecursion (λ z. value p (agrees_on xs ys z) (r ++ q) ≡ Ok (c.Bool (same_cell (column_of (place_of z.name ys) q) (column_of (place_of z.name xs) r)))) zs
    each_value [] i j = tt
    each_value (z ∷ zs) i j = (one_value z i.0 j.0, each_value zs i.1 j.1)

    pub agree_value : (zs : List Component) → AreIdentifiersAt xs zs → AreIdentifiersAt ys zs → value p (conjunction (map (agrees_on xs ys) zs)) (r ++ q) ≡ Ok (c.Bool (same_row (cells_at (places_in ys zs) q) (cells_at (places_in xs zs) r)))
    agree_value zs i j =
        conjunction_value p (r ++ q) (agrees_on xs ys) (λ z. same_cell (column_of (place_of z.name ys) q) (column_of (place_of z.name xs) r)) zs (each_value zs i j)
        ∙ ap (λ b. Ok (c.Bool b)) (same_cells xs ys zs r q)

-- ---- the join

module _ (p : Settings) (law : Translates p) (before : Data) (x y : Text) (a b s : Structure) (d e : List Row) (there : IsTable before x a d) (here : IsTable before y b e) (named : IsName x × IsName y) (na : HaveNames (columns_of a)) (nb : HaveNames (columns_of b)) (set : IsDataSet a d) (other : IsDataSet b e) (ours : AreIdentifiersAt (columns_of a) (identifiers_of b)) (es : List CompExp) (i : AreFor p (columns_of a ++ columns_of b) es (columns_of s)) (h : AllCanBeWritten es) where
  abbrev pub columns : List Component
  columns = columns_of a ++ columns_of b

  abbrev pub at : Naming
  at = of_two (length (columns_of a))

  abbrev pub scope : Scope
  scope = two_scope (columns_of a) (columns_of b)

  abbrev pub v : View
  v = at_rows (base_of p before) scope

  abbrev pub tie : Exp
  tie = to_sql p at (agree a b)

  abbrev pub joins : List JoinTree
  joins = on joining.Inner (source_as second_alias y) tie ∷ []

  abbrev pub it : Option CompExp → SelectTree
  it condition = pairs_select p es a b s condition x y

  pub scope_is : (condition : Option CompExp) → scope_of (tables_in before) (it condition) ≡ scope
  scope_is condition =
      ap (λ o. add_source (add_source [] first_alias o) second_alias (table_columns (tables_in before) y)) (known_there p law before x a d there named.0 set.well_formed na)
      ∙ ap (add_source ((first_alias, entries (columns_of a)) ∷ []) second_alias) (known_there p law before y b e here named.1 other.well_formed nb)

  pub names : Names at scope columns
  names = two_names (columns_of a) (columns_of b) (columns_apart a set.well_formed) (columns_apart b other.well_formed)

  theirs : AreIdentifiersAt (columns_of b) (identifiers_of b)
  theirs = own_there b other.well_formed

  parts : AllByRecursion (IsPart p columns) (map (agrees_on (columns_of a) (columns_of b)) (identifiers_of b))
  parts = agree_parts p (columns_of a) (columns_of b) (identifiers_of b) ours theirs

  agree_typed : IsTyped p columns (agree a b)
  agree_typed = conjunction_typed p columns (map (agrees_on (columns_of a) (columns_of b)) (identifiers_of b)) parts

  agree_written : CanBeWritten (agree a b)
  agree_written =
      let size = length-map (identifiers_of b) (agrees_on (columns_of a) (columns_of b)) in
      let few = few_identifiers b other.well_formed in
      conjunction_written p columns (map (agrees_on (columns_of a) (columns_of b)) (identifiers_of b)) parts (omega (arith, size, few))

  -- ---- its rows

  abbrev key : Row → Row
  key r = cells_at (places_in (columns_of a) (identifiers_of b)) r

  -- the condition compares the keys
  tie_is : (r q : Row) → is_point (columns_of a) r ≡ true → is_point (columns_of b) q ≡ true → sql_value v tie (r ++ q) [] ≡ Ok (c.Bool (same_row (take (key_width b) q) (key r)))
  tie_is r q f g =
      law.value_at (base_of p before) at scope columns (r ++ q) [] refl names (agree a b) agree_typed agree_written.constants
      ∙ agree_value p (columns_of a) (columns_of b) r q f g (identifiers_of b) ours theirs
      ∙ ap (λ z. Ok (c.Bool (same_row z (key r)))) (key_cells b b q other.well_formed (refl, refl) (key_within b q g))

  pub one_row : (r : Row) → is_point (columns_of a) r ≡ true → partners (λ l z. holds v tie (l ++ z)) from.beside e r ≡ beside a (with_points b e) r
  one_row r f = matches (λ q. holds v tie (r ++ q)) r (key r) (key_width b) e (all_more (λ q. is_point (columns_of b) q ≡ true) (λ q. holds v tie (r ++ q) ≡ same_row (take (key_width b) q) (key r)) (λ q g. ap is_true (tie_is r q f g)) e other.typed) other.distinct

  pub no_fault : faults_by (fault_at v tie) (pairs d e) ≡ None
  no_fault =
      no_faults (λ r. is_point (columns_of a) r ≡ true) (fault_at v tie) d e
      (λ r f. all_more (λ q. is_point (columns_of b) q ≡ true) (λ q. fault_at v tie (r ++ q) ≡ None) (λ q g. ap fault_in (tie_is r q f g)) e other.typed) set.typed

  abbrev met : View → List Row → List Row → List Row
  met w left right = flat_map (partners (λ l z. holds w tie (l ++ z)) from.beside right) left

  met_is : met v d e ≡ paired (with_points a d) (with_points b e)
  met_is = same_pieces (λ r. is_point (columns_of a) r ≡ true) (partners (λ l z. holds v tie (l ++ z)) from.beside e) (beside a (with_points b e)) one_row d set.typed

  abbrev joined_with : View → List Row → List Row → Outcome (List Row)
  joined_with w left right = unless (join (faults_by (fault_at w tie) (pairs left right)) None) (met w left right)

  abbrev joined_where : Exp → View → List Row → List Row → Outcome (List Row)
  joined_where test w left right = unless (join (faults_by (fault_at w tie) (pairs left right)) (faults_by (fault_at w test) (met w left right))) (filter (holds w test) (met w left right))

  -- all pairs
  pub rows_are : source_rows (base_of p before) (it None) ≡ Ok (paired (with_points a d) (with_points b e))
  rows_are =
      ap (λ t. joined_with (at_rows (base_of p before) t) ((base_of p before).rows x) ((base_of p before).rows y)) (scope_is None)
      ∙ ap (λ l. joined_with v l ((base_of p before).rows y)) (rows_there p law before x a d there named.0 set.well_formed na)
      ∙ ap (λ l. joined_with v d l) (rows_there p law before y b e here named.1 other.well_formed nb)
      ∙ ap (λ f. unless (join f None) (met v d e)) no_fault
      ∙ ap Ok met_is

  pub points : AllByRecursion (λ r. is_point columns r ≡ true) (paired (with_points a d) (with_points b e))
  points = drawn_all (Pairs a b) (λ r. is_point columns r ≡ true) (λ r q t. t.0) (beside a (with_points b e)) d (all_paired (with_points a d) (with_points b e) set.typed other.typed)

  -- the pairs at which a condition holds
  pub rows_where : (t : CompExp) → IsTyped p columns t → CanBeWritten t → source_rows (base_of p before) (it (Some t)) ≡ filter_of p t (paired (with_points a d) (with_points b e))
  rows_where t typed written =
      let test = to_sql p at t in
      ap (λ z. joined_where test (at_rows (base_of p before) z) ((base_of p before).rows x) ((base_of p before).rows y)) (scope_is (Some t))
      ∙ ap (λ l. joined_where test v l ((base_of p before).rows y)) (rows_there p law before x a d there named.0 set.well_formed na)
      ∙ ap (λ l. joined_where test v d l) (rows_there p law before y b e here named.1 other.well_formed nb)
      ∙ ap (λ f. unless (join f (faults_by (fault_at v test) (met v d e))) (filter (holds v test) (met v d e))) no_fault
      ∙ ap (λ l. unless (faults_by (fault_at v test) l) (filter (holds v test) l)) met_is
      ∙ ap (λ f. unless (faults_by (λ r. fault_in (f r)) (paired (with_points a d) (with_points b e))) (filter (λ r. is_true (f r)) (paired (with_points a d) (with_points b e)))) (same_functions (λ r. sql_value v test r []) (value p t) (λ r. law.value_at (base_of p before) at scope columns r [] refl names t typed written.constants))

  -- ---- its form

  pub formed : AreNamesFormed at columns
  formed = two_formed (length (columns_of a)) columns (all_append (λ z. IsName z.name) (columns_of a) (columns_of b) na nb)

  joins_typed : (condition : Option CompExp) → AreJoinsTyped p (tables_in before) (first_scope (tables_in before) (it condition)) joins
  joins_typed condition =
      let first : (table_columns (tables_in before) x ≡ Some (entries (columns_of a))) = known_there p law before x a d there named.0 set.well_formed na in
      let second : (table_columns (tables_in before) y ≡ Some (entries (columns_of b))) = known_there p law before y b e here named.1 other.well_formed nb in
      let boolean = ap (meets k.Bool) (conjunction_kind p columns (map (agrees_on (columns_of a) (columns_of b)) (identifiers_of b)) parts) in
      let fits = condition_fits p law at columns formed scope names (tables_in before) (agree a b) agree_typed boolean agree_written in
      rw first (rw second ((refl, refl, refl), fits, tt))

  pub from_is : (condition : Option CompExp) → IsTest p columns condition → IsFrom p before scope (it condition)
  from_is condition test =
      let known : (table_columns (tables_in before) x ≡ Some (entries (columns_of a))) = known_there p law before x a d there named.0 set.well_formed na in
      record {
        scope = scope_is condition;
        source = ((rw known refl, refl, refl), (named.0, tt, first_is_name));
        joins = (joins_typed condition, (((named.1, tt, second_is_name), expression_printed p law at columns formed (agree a b) agree_typed agree_written), tt));
        condition = (maybe_fits p law at columns formed scope names (tables_in before) condition test, maybe_printed p law at columns formed condition test);
      }

  -- the select over the pairs, where its rows are known
  pub pairs_give : AreGiven (columns_of s) → (condition : Option CompExp) → IsTest p columns condition → (m : Outcome (List Row)) → source_rows (base_of p before) (it condition) ≡ m → AllRows (IsPointOf columns) m → GivesRows p before s (it condition) (after m (each_point p es))
  pairs_give given condition test m rows all = expressions_give p law at columns formed scope names before es s i h given (source_as first_alias x) joins (condition_for p at condition) (from_is condition test) m rows all
