-- Operands as their tables hold them.
use Rattle.std.proofs.Common.{◌≡◌, ◌<◌, ◌+◌, ◌^◌, ℕ, false, List, [], ◌∷◌, ◌++◌, length, map, Some, refl, ap, sym, ◌∙◌, arith}
use Rattle.std.specs.Prelude.{if◌then◌else◌, unwrap_or}
use Rattle.std.specs.List.{AllByRecursion}
use Rattle.std.specs.Map.{keys_of}
use Rattle.vtl_lists.proofs.Alls.{all_append}
use Rattle.vtl_decimal.specs.Settings.{Settings}
use Rattle.vtl_tree.specs.Environment.{DataSet}
use Rattle.vtl_tree.specs.Structure.{columns_of}
use Rattle.vtl_tree.specs.declared.structure.Component.{Component}
use Rattle.vtl_meaning.specs.Joined.{structures_of}
use Rattle.vtl_meaning.specs.Orders.{SameOperands}
use Rattle.vtl_meaning.specs.Points.{with_points}
use Rattle.vtl_meaning.proofs.JoinParts.{AreSets}
use Rattle.vtl_meaning.proofs.OwnColumns.{columns_apart}
use Rattle.sql_tree.specs.Formed.{IsName}
use Rattle.sql_tree.specs.Trees.{Text}
use Rattle.sql_check_parts.specs.Scopes.{add_source, columns_of as table_columns, is_among, with_source}
use Rattle.sql_meaning.specs.Scripts.{Data, base_of, no_table, tables_in}
use Rattle.selects_to_sql.specs.Writable.{HaveNames}
use Rattle.selects_to_sql.specs.Queries.{alias_of, source_as}
use Rattle.selects_to_sql.specs.Means.{AreThere}
use Rattle.selects_to_sql.specs.Runs.{IsTable, entries, held}
use Rattle.selects_to_sql.proofs.Exact.{set_turned}
use Rattle.joins_to_sql.proofs.ManySources.{AllApart, alias_free, all_columns, many_scope, scope_more}
use Rattle.selects_to_sql.proofs.Running.{columns_there}

-- a table has the columns and the points of a data set
pub record IsHeld (now : Data) (x : Text) (d : DataSet) : Type 0 where
  pub word : IsName x
  pub table : IsTable now x d.structure d.points
  pub known : table_columns (tables_in now) x ≡ Some (entries (columns_of d.structure))

pub rows_held : (p : Settings) (now : Data) (x : Text) (d : DataSet) → IsHeld now x d → (base_of p now).rows x ≡ d.points
rows_held p now x d h = ap (λ o. (unwrap_or o no_table).rows) h.table

-- one for each data set
abbrev pub AreHeld : Data → List Text → List DataSet → Type 0
AreHeld now [] [] = Unit {0}
AreHeld now (x ∷ xs) (d ∷ ds) = IsHeld now x d × AreHeld now xs ds
AreHeld now xs ds = ⊥

-- tables that stand for data sets hold data sets with the same points in another order
pub record Turned (now : Data) (xs : List Text) (ds es : List DataSet) : Type 0 where
  pub held : AreHeld now xs es
  pub same : SameOperands es ds
  pub sets : AreSets es
  pub structures : structures_of es ≡ structures_of ds

pub turned : (now : Data) (xs : List Text) (ds : List DataSet) → AreThere now xs ds → AreSets ds → (es : List DataSet) × Turned now xs ds es
turned now [] [] i all = ([], record { held = tt; same = tt; sets = tt; structures = refl })
turned now [] (d ∷ ds) i all = absurd i
turned now (x ∷ xs) [] i all = absurd i
turned now (x ∷ xs) (d ∷ ds) i all =
    let st = i.0 in
    let e = with_points d.structure st.rows in
    let rest = turned now xs ds i.1 all.1 in (
      e ∷ rest.0,
      record {
        held = (record { word = st.named; table = st.table; known = columns_there now x (held d.structure st.rows) st.table }, rest.1.held);
        same = (refl, st.same, rest.1.same);
        sets = (set_turned d.structure d.points st.rows st.same all.0, rest.1.sets);
        structures = ap (λ l. d.structure ∷ l) rest.1.structures;
      },
    )

-- ---- a source behind others

module _ (now : Data) (done : List (List Component)) (x : Text) (d : DataSet) (i : ℕ) (number : i ≡ length done) (few : i < 2 ^ 64) (here : IsHeld now x d) where
  abbrev ys : List Component
  ys = columns_of d.structure

  pub alias_new : is_among (alias_of i) (keys_of (many_scope 0 done)) ≡ false
  alias_new = alias_free 0 i done (omega (arith, number)) few

  pub source_behind : with_source (tables_in now) (many_scope 0 done) (source_as (alias_of i) x) ≡ many_scope 0 (done ++ ys ∷ [])
  source_behind =
      let same : i ≡ 0 + length done = omega (arith, number) in
      ap (add_source (many_scope 0 done) (alias_of i)) here.known
      ∙ ap (λ u. if u then many_scope 0 done else many_scope 0 done ++ (alias_of i, entries ys) ∷ []) alias_new
      ∙ ap (λ j. many_scope 0 done ++ (alias_of j, entries ys) ∷ []) same
      ∙ sym (scope_more 0 done ys)

-- columns of data sets
pub sets_apart : (ds : List DataSet) → AreSets ds → AllApart (map (λ d. columns_of d.structure) ds)
sets_apart [] all = tt
sets_apart (d ∷ ds) all = (columns_apart d.structure all.0.well_formed, sets_apart ds all.1)

pub all_named : (ds : List DataSet) → AllByRecursion (λ d. HaveNames (columns_of d.structure)) ds → HaveNames (all_columns (map (λ d. columns_of d.structure) ds))
all_named [] h = tt
all_named (d ∷ ds) h = all_append (λ y. IsName y.name) (columns_of d.structure) (all_columns (map (λ e. columns_of e.structure) ds)) h.0 (all_named ds h.1)
