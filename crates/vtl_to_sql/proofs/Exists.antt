-- EXISTS over the identifiers that two tables have.
use Rattle.std.proofs.Common.{◌≡◌, Bool, true, false, not, ◌&&◌, ◌||◌, cond, List, [], ◌∷◌, map, Some, None, Ok, refl, ap, sym, ◌∙◌, subst, arith}
use Rattle.std.specs.List.{AllByRecursion, filter, list_all, list_any}
use Rattle.grammar_forms.specs.Written.{Each}
use Rattle.vtl_cell.specs.Kinds.{is_null, kind_of}
use Rattle.vtl_cell.specs.Literals.{is_null_kind}
use Rattle.vtl_cell.specs.Order.{same_cell}
use Rattle.vtl_cell.specs.Outcome.{fault_in, faults_by, join, unless}
use Rattle.vtl_cell.specs.Outcomes.{is_true}
use Rattle.vtl_cell.specs.Row.{Row, column_of, same_row}
use Rattle.vtl_cell.specs.Scalars.{scalar_of}
use Rattle.vtl_decimal.specs.Settings.{Settings}
use Rattle.vtl_cell.specs.declared.cell.Cell.{Cell}
use Rattle.vtl_cell.specs.declared.cell.Cell.TheVariants as c
use Rattle.vtl_cell.specs.declared.kind.Kind.TheVariants as k
use Rattle.vtl_cell.specs.declared.operator.ScalarOp.TheVariants as op
use Rattle.vtl_rows.specs.Tables.{cells_at}
use Rattle.vtl_tree.specs.DataSet.{is_point}
use Rattle.vtl_tree.specs.declared.structure.Component.{Component}
use Rattle.vtl_tree.specs.Columns.{place_of, places_in}
use Rattle.vtl_meaning.proofs.ValueKinds.{cell_is_of}
use Rattle.sql_tree.specs.Formed.{IsEquality, IsExp, IsName}
use Rattle.sql_tree.specs.Trees.{Text, exists}
use Rattle.sql_check_laws.specs.Fits.{Fits, IsCondition, Ties}
use Rattle.sql_check_parts.specs.Exists.{Inner, inner_of}
use Rattle.sql_check_parts.specs.Expressions.{site}
use Rattle.sql_check_parts.specs.Scopes.{columns_of as table_columns}
use Rattle.sql_meaning.specs.From.{fault_at, holds}
use Rattle.sql_meaning.specs.Outcomes.{operated}
use Rattle.sql_meaning.specs.Tables.{Base}
use Rattle.sql_meaning.specs.Values.{View, at_rows, is_there, is_tied, place_in, value as sql_value}
use Rattle.expressions_to_sql.specs.ToSql as to_sql
use Rattle.selects_to_sql.specs.Writable.{HaveNames}
use Rattle.selects_to_sql.specs.Queries.{first_alias, second_alias, source_as}
use Rattle.vtl_to_sql.specs.Sets.{is_matched, tied}
use Rattle.selects_to_sql.specs.Runs.{entries, printable_depth}
use Rattle.selects_to_sql.proofs.Identifiers.{AreIdentifiersAt, IsIdentifierAt, kind_is}
use Rattle.selects_to_sql.proofs.Sources.{AreApart, first_is_name, kind_found, one_names, one_scope, place_found, second_is_name}
use Rattle.times_to_sql.proofs.FlowWindows.{kind_self}

-- ---- equality of values that are there

equal_scalars : (p : Settings) (u v : Cell) → kind_of u ≡ kind_of v → is_null u ≡ false → is_true (scalar_of p op.Equal (u ∷ v ∷ [])) ≡ same_cell u v
equal_scalars p (c.Bool x) (c.Bool y) e n = refl
equal_scalars p (c.Int x) (c.Int y) e n = refl
equal_scalars p (c.Num x) (c.Num y) e n = refl
equal_scalars p (c.Text x) (c.Text y) e n = refl
equal_scalars p (c.Day x) (c.Day y) e n = refl
equal_scalars p (c.Period x) (c.Period y) e n = refl
equal_scalars p u v e n = cc

denied : (p : Settings) (t : Bool) → operated p k.Bool (Ok (c.Bool t) ∷ []) op.Not ≡ Ok (c.Bool (not t))
denied p true = refl
denied p false = refl

-- ---- one outer table, and one inner table

module _ (b : Base) (xs ys : List Component) (ax : AreApart xs) (ay : AreApart ys) (other : Text) (known : table_columns b.tables other ≡ Some (entries ys)) where
  abbrev v : View
  v = at_rows b (one_scope xs)

  abbrev inner : Inner
  inner = inner_of b.tables (source_as second_alias other)

  abbrev inner_entries : Inner
  inner_entries = record { alias = second_alias; columns = Some (entries ys) }

  inner_is : inner ≡ inner_entries
  inner_is = ap (λ o. record { alias = second_alias; columns = o }) known

  -- the value of an equality
  tie_is : (z : Component) (r q : Row) → IsIdentifierAt z.name z.kind xs → IsIdentifierAt z.name z.kind ys → is_point xs r ≡ true → is_point ys q ≡ true → is_tied v inner r q (tied z) ≡ same_cell (column_of (place_of z.name ys) q) (column_of (place_of z.name xs) r)
  tie_is z r q i j h g =
      let own : place_in (one_scope xs) (to_sql.column_of first_alias z.name) ≡ place_of z.name xs = (one_names xs ax).placed (place_of z.name xs) z.name z.kind i.column in
      let there : place_in ((second_alias, entries ys) ∷ []) (to_sql.column_of second_alias z.name) ≡ place_of z.name ys = rw (place_found 0 (place_of z.name ys) z.name z.kind ys j.column ay) (omega arith) in
      ap (λ n. is_tied v n r q (tied z)) inner_is
      ∙ ap (λ n. is_true (scalar_of b.settings op.Equal (column_of n q ∷ column_of (place_in (one_scope xs) (to_sql.column_of first_alias z.name)) r ∷ []))) there
      ∙ ap (λ n. is_true (scalar_of b.settings op.Equal (column_of (place_of z.name ys) q ∷ column_of n r ∷ []))) own
      ∙ equal_scalars b.settings (column_of (place_of z.name ys) q) (column_of (place_of z.name xs) r)
      (kind_is z.kind (column_of (place_of z.name ys) q) (cell_is_of (place_of z.name ys) z.name z.kind ys q j.column g) (j.filled q g) ∙ sym (kind_is z.kind (column_of (place_of z.name xs) r) (cell_is_of (place_of z.name xs) z.name z.kind xs r i.column h) (i.filled r h)))
      (j.filled q g)

  ties_are : (zs : List Component) (r q : Row) → AreIdentifiersAt xs zs → AreIdentifiersAt ys zs → is_point xs r ≡ true → is_point ys q ≡ true → list_all (is_tied v inner r q) (map tied zs) ≡ same_row (cells_at (places_in ys zs) q) (cells_at (places_in xs zs) r)
  ties_are [] r q i j h g = refl
  ties_are (z ∷ zs) r q i j h g =
      ap (λ t. t && list_all (is_tied v inner r q) (map tied zs)) (tie_is z r q i.0 j.0 h g)
      ∙ ap (λ t. same_cell (column_of (place_of z.name ys) q) (column_of (place_of z.name xs) r) && t) (ties_are zs r q i.1 j.1 h g)

  -- the other table has a row with the same identifiers
  abbrev pub has_row : List Component → List Row → Row → Bool
  has_row zs e r = list_any (λ q. same_row (cells_at (places_in ys zs) q) (cells_at (places_in xs zs) r)) e

  module _ (zs : List Component) (ours : AreIdentifiersAt xs zs) (theirs : AreIdentifiersAt ys zs) (e : List Row) (rows : b.rows other ≡ e) (typed : AllByRecursion (λ q. is_point ys q ≡ true) e) where
    there_is : (r : Row) → is_point xs r ≡ true → is_there v (source_as second_alias other) (map tied zs) r ≡ has_row zs e r
    there_is r h = ap (list_any (λ q. list_all (is_tied v inner r q) (map tied zs))) rows ∙ go e typed
      where
        go : (qs : List Row) → AllByRecursion (λ q. is_point ys q ≡ true) qs → list_any (λ q. list_all (is_tied v inner r q) (map tied zs)) qs ≡ has_row zs qs r
        go [] t = refl
        go (q ∷ qs) t =
            ap (λ u. u || list_any (λ z. list_all (is_tied v inner r z) (map tied zs)) qs) (ties_are zs r q ours theirs h t.0)
            ∙ ap (λ u. same_row (cells_at (places_in ys zs) q) (cells_at (places_in xs zs) r) || u) (go qs t.1)

    -- the answer, or its contrary
    abbrev pub is_answer : Bool → Row → Bool
    is_answer true r = has_row zs e r
    is_answer false r = not (has_row zs e r)

    pub matched_value : (wanted : Bool) (r : Row) → is_point xs r ≡ true → sql_value v (is_matched wanted zs other) r [] ≡ Ok (c.Bool (is_answer wanted r))
    matched_value true r h = ap (λ t. Ok (c.Bool t)) (there_is r h)
    matched_value false r h = ap (λ t. operated b.settings k.Bool (Ok (c.Bool t) ∷ []) op.Not) (there_is r h) ∙ denied b.settings (has_row zs e r)

    -- the rows at which it holds
    matched_faults : (wanted : Bool) (d : List Row) → AllByRecursion (λ r. is_point xs r ≡ true) d → faults_by (fault_at v (is_matched wanted zs other)) d ≡ None
    matched_faults wanted [] t = refl
    matched_faults wanted (r ∷ d) t = ap (λ m. join (fault_in m) (faults_by (fault_at v (is_matched wanted zs other)) d)) (matched_value wanted r t.0) ∙ matched_faults wanted d t.1

    matched_kept : (wanted : Bool) (d : List Row) → AllByRecursion (λ r. is_point xs r ≡ true) d → filter (holds v (is_matched wanted zs other)) d ≡ filter (is_answer wanted) d
    matched_kept wanted [] t = refl
    matched_kept wanted (r ∷ d) t =
        ap (λ m. cond (is_true m) (r ∷ filter (holds v (is_matched wanted zs other)) d) (filter (holds v (is_matched wanted zs other)) d)) (matched_value wanted r t.0)
        ∙ ap (λ l. cond (is_answer wanted r) (r ∷ l) l) (matched_kept wanted d t.1)

    pub matched_rows : (wanted : Bool) (d : List Row) → AllByRecursion (λ r. is_point xs r ≡ true) d → unless (faults_by (fault_at v (is_matched wanted zs other)) d) (filter (holds v (is_matched wanted zs other)) d) ≡ Ok (filter (is_answer wanted) d)
    matched_rows wanted d t = ap (λ f. unless f (filter (holds v (is_matched wanted zs other)) d)) (matched_faults wanted d t) ∙ ap Ok (matched_kept wanted d t)

  -- ---- it breaks no rule

  module _ (zs : List Component) (ours : AreIdentifiersAt xs zs) (theirs : AreIdentifiersAt ys zs) where
    one_tie : (z : Component) → IsIdentifierAt z.name z.kind xs → IsIdentifierAt z.name z.kind ys → Ties (one_scope xs) None inner_entries (tied z)
    one_tie z i j =
        let left = kind_found (place_of z.name ys) z.name z.kind ys j.column ay in
        let right = kind_found (place_of z.name xs) z.name z.kind xs i.column ax in
        ((rw left refl, refl), (rw right refl, refl), rw left (rw right (ap (λ b. b || (is_null_kind z.kind || is_null_kind z.kind)) (kind_self z.kind))))

    all_ties : (us : List Component) → AreIdentifiersAt xs us → AreIdentifiersAt ys us → AllByRecursion (Ties (one_scope xs) None inner_entries) (map tied us)
    all_ties [] i j = tt
    all_ties (u ∷ us) i j = (one_tie u i.0 j.0, all_ties us i.1 j.1)

    exists_fits : Fits (site b.settings b.tables (one_scope xs)) None (exists (source_as second_alias other) (map tied zs))
    exists_fits = ((rw known refl, refl), subst (λ n. AllByRecursion (Ties (one_scope xs) None n) (map tied zs)) (sym inner_is) (all_ties zs ours theirs))

    pub matched_fits : (wanted : Bool) → IsCondition (site b.settings b.tables (one_scope xs)) None (is_matched wanted zs other)
    matched_fits true = (exists_fits, refl)
    matched_fits false = ((exists_fits, refl), refl)

-- ---- it can be printed

ties_printed : (zs : List Component) → HaveNames zs → Each IsEquality (map tied zs)
ties_printed [] n = tt
ties_printed (z ∷ zs) n = (((second_is_name, n.0), (first_is_name, n.0)), ties_printed zs n.1)

pub matched_printed : (wanted : Bool) (zs : List Component) (other : Text) → IsName other → HaveNames zs → IsExp printable_depth (is_matched wanted zs other)
matched_printed true zs other o n = (((o, tt, second_is_name), ties_printed zs n), omega arith)
matched_printed false zs other o n = ((refl, ((o, tt, second_is_name), ties_printed zs n)), omega arith)
