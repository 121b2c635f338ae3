-- A query of one select, and a union of several.
use Rattle.std.proofs.Common.{◌≡◌, true, List, [], ◌∷◌, ◌++◌, length, map, Some, None, Ok, refl, ap, sym, ◌∙◌, subst, arith}
use Rattle.std.specs.Prelude.{IsSome, fold, zip}
use Rattle.std.specs.List.{AllByRecursion, flat_map}
use Rattle.std.proofs.lemmas.List.{length-map}
use Rattle.grammar_forms.specs.Written.{Each}
use Rattle.vtl_cell.specs.Outcome.{Outcome, fault_in, faults_by, unless}
use Rattle.vtl_cell.specs.Row.{Row}
use Rattle.vtl_cell.specs.ScalarKinds.{shared_kind}
use Rattle.vtl_decimal.specs.Settings.{Settings}
use Rattle.vtl_cell.specs.declared.kind.Kind.{Kind}
use Rattle.vtl_cell.specs.declared.kind.Kind.TheVariants as k
use Rattle.vtl_tree.specs.Structure.{columns_of, names_of}
use Rattle.vtl_tree.specs.declared.structure.Component.{Component}
use Rattle.vtl_tree.specs.declared.structure.Structure.{Structure}
use Rattle.sql_tree.specs.Formed.{IsSelect}
use Rattle.sql_tree.specs.Trees.{SelectTree}
use Rattle.sql_check_laws.specs.Selects.{IsColumnKind, IsSelectTyped}
use Rattle.sql_check_laws.proofs.TypedSelects.{all_known, names_agree}
use Rattle.sql_check_parts.specs.Queries.{query_columns}
use Rattle.sql_check_parts.specs.Queries as queries
use Rattle.sql_check_parts.specs.Scopes.{or_null}
use Rattle.sql_meaning.specs.Scripts.{Data, base_of, tables_in}
use Rattle.sql_meaning.specs.Selects.{appended, rows_in, select_value}
use Rattle.sql_meaning.specs.Tables.{kinds_of}
use Rattle.sql_meaning.proofs.UnionParts.{alone}
use Rattle.selects_to_sql.specs.Means.{IsQueryFor}
use Rattle.selects_to_sql.specs.Runs.{entries, printable_depth}
use Rattle.selects_to_sql.proofs.Exact.{IsExactly}
use Rattle.selects_to_sql.proofs.Givens.{AreGiven, kinds_in, no_null}
use Rattle.selects_to_sql.proofs.SelectItems.{GivesRows}

-- ---- columns

columns_zipped : (ys : List Component) → zip (names_of ys) (map or_null (map Some (kinds_in ys))) ≡ entries ys
columns_zipped [] = refl
columns_zipped (y ∷ ys) = ap (λ l. (y.name, y.kind) ∷ l) (columns_zipped ys)

kinds_of_entries : (ys : List Component) → kinds_of (entries ys) ≡ kinds_in ys
kinds_of_entries [] = refl
kinds_of_entries (y ∷ ys) = ap (λ l. y.kind ∷ l) (kinds_of_entries ys)

shared_same : (kind : Kind) → shared_kind kind kind ≡ Some kind
shared_same k.Null = refl
shared_same k.Bool = refl
shared_same k.Int = refl
shared_same k.Num = refl
shared_same k.Text = refl
shared_same k.Day = refl
shared_same k.Period = refl

shared_kinds_same : (ks : List Kind) → queries.beside (map Some ks) ks ≡ map Some ks
shared_kinds_same [] = refl
shared_kinds_same (q ∷ ks) = ap (λ o. o ∷ queries.beside (map Some ks) ks) (shared_same q) ∙ ap (λ l. Some q ∷ l) (shared_kinds_same ks)

-- ---- several selects of the same columns

-- each gives its rows
abbrev pub AllGive : Settings → Data → Structure → List SelectTree → List (Outcome (List Row)) → Type 0
AllGive p before t [] [] = Unit {0}
AllGive p before t (q ∷ qs) (m ∷ ms) = GivesRows p before t q m × AllGive p before t qs ms
AllGive p before t qs ms = ⊥

module _ (p : Settings) (before : Data) (t : Structure) where
  abbrev ys : List Component
  ys = columns_of t

  folded : (qs : List SelectTree) (ms : List (Outcome (List Row))) → AllGive p before t qs ms → fold (λ shared other. queries.beside shared (queries.kinds_of (tables_in before) other)) (map Some (kinds_in ys)) qs ≡ map Some (kinds_in ys)
  folded [] [] h = refl
  folded [] (m ∷ ms) h = absurd h
  folded (q ∷ qs) [] h = absurd h
  folded (q ∷ qs) (m ∷ ms) h =
      ap (λ shared. fold (λ l other. queries.beside l (queries.kinds_of (tables_in before) other)) shared qs) (ap (queries.beside (map Some (kinds_in ys))) h.0.kinds ∙ shared_kinds_same (kinds_in ys))
      ∙ folded qs ms h.1

  all_typed : (qs : List SelectTree) (ms : List (Outcome (List Row))) → AllGive p before t qs ms → AllByRecursion (IsSelectTyped p (tables_in before)) qs
  all_typed [] [] h = tt
  all_typed [] (m ∷ ms) h = absurd h
  all_typed (q ∷ qs) [] h = absurd h
  all_typed (q ∷ qs) (m ∷ ms) h = (h.0.typed, all_typed qs ms h.1)

  all_printed : (qs : List SelectTree) (ms : List (Outcome (List Row))) → AllGive p before t qs ms → Each (IsSelect printable_depth) qs
  all_printed [] [] h = tt
  all_printed [] (m ∷ ms) h = absurd h
  all_printed (q ∷ qs) [] h = absurd h
  all_printed (q ∷ qs) (m ∷ ms) h = (h.0.printed, all_printed qs ms h.1)

  all_named : (qs : List SelectTree) (ms : List (Outcome (List Row))) → AllGive p before t qs ms → AllByRecursion (λ q. queries.same_names (names_of ys) (queries.names_of q) ≡ true) qs
  all_named [] [] h = tt
  all_named [] (m ∷ ms) h = absurd h
  all_named (q ∷ qs) [] h = absurd h
  all_named (q ∷ qs) (m ∷ ms) h = (ap (queries.same_names (names_of ys)) h.0.names ∙ names_agree (names_of ys), all_named qs ms h.1)

  all_rows : (qs : List SelectTree) (ms : List (Outcome (List Row))) → AllGive p before t qs ms → map (select_value (base_of p before) (kinds_in ys)) qs ≡ ms
  all_rows [] [] h = refl
  all_rows [] (m ∷ ms) h = absurd h
  all_rows (q ∷ qs) [] h = absurd h
  all_rows (q ∷ qs) (m ∷ ms) h = ap (λ n. n ∷ map (select_value (base_of p before) (kinds_in ys)) qs) h.0.rows ∙ ap (λ l. m ∷ l) (all_rows qs ms h.1)

  module _ (given : AreGiven (columns_of t)) (q : SelectTree) (qs : List SelectTree) (m : Outcome (List Row)) (ms : List (Outcome (List Row))) (h : AllGive p before t (q ∷ qs) (m ∷ ms)) where
    shared : queries.shared_kinds (tables_in before) (q ∷ qs) ≡ map Some (kinds_in ys)
    shared = ap (λ ks. fold (λ l other. queries.beside l (queries.kinds_of (tables_in before) other)) (map Some ks) qs) h.0.kinds ∙ folded qs ms h.1

    columns : query_columns (tables_in before) (q ∷ qs) ≡ entries ys
    columns =
        ap (λ ns. zip ns (map or_null (queries.shared_kinds (tables_in before) (q ∷ qs)))) h.0.names
        ∙ ap (λ os. zip (names_of ys) (map or_null os)) shared
        ∙ columns_zipped ys

    query : IsQueryFor p (tables_in before) t (q ∷ qs)
    query =
        let size = ap length h.0.names ∙ length-map ys (λ y. y.name) in
        let few = given.few in
        record {
          columns = columns;
          typed = (
            record {
              selects = all_typed (q ∷ qs) (m ∷ ms) h;
              names = subst (λ ns. AllByRecursion (λ u. queries.same_names ns (queries.names_of u) ≡ true) (q ∷ qs)) (sym h.0.names) (all_named (q ∷ qs) (m ∷ ms) h);
              kinds = subst (AllByRecursion IsSome) (sym shared) (all_known (kinds_in ys));
              few = omega (arith, size, few);
            },
            subst (AllByRecursion IsColumnKind) (sym shared) (no_null ys given.kinds),
          );
          printed = (omega arith, all_printed (q ∷ qs) (m ∷ ms) h);
        }

    -- all of them, one behind the other
    pub union_exactly : IsExactly p before (q ∷ qs) t (appended (m ∷ ms))
    union_exactly = record {
      query = query;
      rows =
          ap (λ cs. appended (map (select_value (base_of p before) (kinds_of cs)) (q ∷ qs))) columns
          ∙ ap (λ ks. appended (map (select_value (base_of p before) ks) (q ∷ qs))) (kinds_of_entries ys)
          ∙ ap appended (all_rows (q ∷ qs) (m ∷ ms) h);
    }

-- ---- without a fault, and alone

pub one_exactly : (p : Settings) (before : Data) (t : Structure) → AreGiven (columns_of t) → (q : SelectTree) (m : Outcome (List Row)) → GivesRows p before t q m → IsExactly p before (q ∷ []) t m
one_exactly p before t given q m h =
    let it = union_exactly p before t given q [] m [] (h, tt) in
    record { query = it.query; rows = it.rows ∙ alone m }

all_there : (ds : List (List Row)) → appended (map (λ d. Ok d) ds) ≡ Ok (flat_map (λ d. d) ds)
all_there ds = ap (λ f. unless f (flat_map rows_in (map (λ d. Ok d) ds))) (none ds) ∙ ap Ok (rows ds)
  where
    none : (es : List (List Row)) → faults_by fault_in (map (λ d. Ok d) es) ≡ None
    none [] = refl
    none (e ∷ es) = none es

    rows : (es : List (List Row)) → flat_map rows_in (map (λ d. Ok d) es) ≡ flat_map (λ d. d) es
    rows [] = refl
    rows (e ∷ es) = ap (λ l. e ++ l) (rows es)

pub union_there : (p : Settings) (before : Data) (t : Structure) → AreGiven (columns_of t) → (q : SelectTree) (qs : List SelectTree) (d : List Row) (ds : List (List Row)) → AllGive p before t (q ∷ qs) (map (λ e. Ok e) (d ∷ ds)) → IsExactly p before (q ∷ qs) t (Ok (flat_map (λ e. e) (d ∷ ds)))
union_there p before t given q qs d ds h =
    let it = union_exactly p before t given q qs (Ok d) (map (λ e. Ok e) ds) h in
    record { query = it.query; rows = it.rows ∙ all_there (d ∷ ds) }
