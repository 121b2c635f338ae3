-- The query of the points that rules compute and its tables, as they are written.
use Rattle.std.proofs.Common.{◌≡◌, ◌≤◌, ◌+◌, ℕ, List, [], ◌∷◌, ◌++◌, length, map, refl, sym, ap, ◌∙◌, arith, append_assoc, append-nil}
use mathlib.Core.Path.{fun_ext}
use Rattle.std.proofs.lemmas.List.{map-append}
use Rattle.vtl_decimal.specs.Settings.{Settings}
use Rattle.vtl_syntax.specs.declared.statements.HierRule.{HierRule}
use Rattle.vtl_syntax.specs.declared.word_groups.HierInput.{HierInput}
use Rattle.vtl_syntax.specs.declared.word_groups.Mode.{Mode}
use Rattle.vtl_tree.specs.Columns.{identifiers_of}
use Rattle.vtl_tree.specs.RuleItems.{left_item}
use Rattle.vtl_tree.specs.Structure.{columns_of}
use Rattle.vtl_tree.specs.declared.structure.Structure.{Structure}
use Rattle.vtl_rulings.specs.HierarchyChecks.{Ruled}
use Rattle.sql_tree.specs.Trees.{QueryTree, SelectTree, StatementTree, Text}
use Rattle.selects_to_sql.specs.Tables.{Sources, by_names, create_for, numbered}
use Rattle.hierarchies_to_sql.specs.CheckTables.{sided}
use Rattle.hierarchies_to_sql.specs.ComputedTables.{all_points_query, computed_by, given_items, no_points_query, points_select, run_tables}
use Rattle.hierarchies_to_sql.specs.ItemTables.{Tables, item_tables, tables_by}
use Rattle.hierarchies_to_sql.specs.RuleItems.{points_as}
use Rattle.hierarchies_to_sql.proofs.ItemForms.{points_written}
use Rattle.hierarchies_to_sql.proofs.ItemTableForms.{next_is}

module _ (p : Settings) (h : Ruled) (a s : Structure) (f : Tables) where
  all_points : (rules : List HierRule) → map (points_as h (identifiers_of a) (columns_of s) f) rules ≡ all_points_query p h a s f rules
  all_points [] = refl
  all_points (r ∷ rules) =
      ap (λ x. x ∷ map (points_as h (identifiers_of a) (columns_of s) f) rules) (sym (points_written p h a s f r)) ∙ ap (λ l. points_select p h a s f r ∷ l) (all_points rules)

module _ (p : Settings) (r : Text) (m : Mode) (i : HierInput) (a : Structure) (x : Text) (n : ℕ) (order : List HierRule) where
  abbrev items_at : Ruled → List Text → ℕ → Sources
  items_at h g k = item_tables p r h a (x ∷ []) g k

  abbrev run_at : Ruled → Text → List Text → Tables → ℕ → Sources
  run_at h keys g tables k = run_tables p r h m i a keys g tables order k

  abbrev run_of : Ruled → List Text → Sources
  run_of h g = run_at h (numbered r (n + 1)) g (tables_by g (items_at h g ((n + 1) + 1)).names) (items_at h g ((n + 1) + 1)).next

  -- what the code has of the tables that are there before rules run
  pub record Begins (h : Ruled) (g : List Text) (k : ℕ) (label : Text) (tables : Tables) : Type 0 where
    pub keys : label ≡ numbered r (n + 1)
    pub names : (item : Text) → tables item ≡ tables_by g (items_at h g (n + 2)).names item
    pub next : k ≡ n + 2 + length g

  run_is : (f h : Ruled) (g : List Text) (k : ℕ) (keys : Text) (tables : Tables) → f ≡ h → Begins h g k keys tables → run_at f keys g tables k ≡ run_of h g
  run_is f h g k keys tables ef b =
      let behind : n + 2 ≡ (n + 1) + 1 = omega arith in
      let all = tables_by g (items_at h g ((n + 1) + 1)).names in
      let later : n + 2 + length g ≡ ((n + 1) + 1) + length g = omega arith in
      ap (λ (z : Ruled). run_at z keys g tables k) ef
      ∙ ap (λ (z : Text). run_at h z g tables k) b.keys
      ∙ ap (λ (z : Tables). run_at h (numbered r (n + 1)) g z k) (fun_ext (λ item. b.names item ∙ ap (λ j. tables_by g (items_at h g j).names item) behind))
      ∙ ap (λ (j : ℕ). run_at h (numbered r (n + 1)) g all j) (b.next ∙ later ∙ sym (next_is p r h a x ((n + 1) + 1) g))

  pub query_is : (f h : Ruled) (s : Structure) (defined : List HierRule) (g : List Text) (k : ℕ) (keys : Text) (tables named : Tables) (v : List SelectTree) → 1 ≤ length defined → g ≡ given_items i defined → f ≡ h → Begins h g k keys tables
      → v ≡ map (points_as f (identifiers_of a) (columns_of s) named) defined → ((q : Text) → named q ≡ tables_by (map left_item order) (run_at f keys g tables k).names q) → v ≡ (computed_by p r h m i defined order a s (by_names (x ∷ []) n)).query
  query_is f h s [] g k keys tables named v some eg ef b is found = absurd (omega (arith, some))
  query_is f h s (d ∷ ds) g k keys tables named v some eg ef b is found =
      let points = λ (z : Ruled) (t : Tables). map (points_as z (identifiers_of a) (columns_of s) t) (d ∷ ds) in
      let by = λ (z : Sources). tables_by (map left_item order) z.names in
      is
      ∙ ap (λ (z : Ruled). points z named) ef
      ∙ ap (λ (t : Tables). points h t) (fun_ext found)
      ∙ ap (λ (z : Sources). points h (by z)) (run_is f h g k keys tables ef b ∙ ap (run_of h) eg)
      ∙ all_points p h a s (by (run_of h (given_items i (d ∷ ds)))) (d ∷ ds)

  pub tables_are : (f h : Ruled) (s : Structure) (defined : List HierRule) (g : List Text) (k : ℕ) (keys : Text) (tables : Tables) (old so new : List StatementTree) → 1 ≤ length defined → g ≡ given_items i defined → f ≡ h → Begins h g k keys tables
      → so ≡ old ++ map create_for (sided p r h a g (x ∷ []) n).tables → new ≡ so ++ map create_for (run_at f keys g tables k).tables → new ≡ old ++ map create_for (computed_by p r h m i defined order a s (by_names (x ∷ []) n)).tables
  tables_are f h s [] g k keys tables old so new some eg ef b before is = absurd (omega (arith, some))
  tables_are f h s (d ∷ ds) g k keys tables old so new some eg ef b before is =
      let first = (sided p r h a g (x ∷ []) n).tables in
      let last = (run_of h g).tables in
      is
      ∙ ap (λ (z : Sources). so ++ map create_for z.tables) (run_is f h g k keys tables ef b)
      ∙ ap (λ l. l ++ map create_for last) before
      ∙ append_assoc old (map create_for first) (map create_for last)
      ∙ ap (λ l. old ++ l) (sym (map-append create_for first last))
      ∙ ap (λ (l : List Text). old ++ map create_for ((sided p r h a l (x ∷ []) n).tables ++ (run_of h l).tables)) eg

  pub last_is : (f h : Ruled) (s : Structure) (defined : List HierRule) (g : List Text) (k j : ℕ) (keys : Text) (tables : Tables) → 1 ≤ length defined → g ≡ given_items i defined → f ≡ h → Begins h g k keys tables
      → j ≡ (run_at f keys g tables k).next → j ≡ (computed_by p r h m i defined order a s (by_names (x ∷ []) n)).next
  last_is f h s [] g k j keys tables some eg ef b is = absurd (omega (arith, some))
  last_is f h s (d ∷ ds) g k j keys tables some eg ef b is = is ∙ ap (λ (z : Sources). z.next) (run_is f h g k keys tables ef b) ∙ ap (λ (l : List Text). (run_of h l).next) eg

  -- ---- where no rule computes an item

  pub none_query : (h : Ruled) (s : Structure) (defined : List HierRule) (q : QueryTree) → length defined ≡ 0 → q ≡ no_points_query p a s x → q ≡ (computed_by p r h m i defined order a s (by_names (x ∷ []) n)).query
  none_query h s [] q e is = is
  none_query h s (d ∷ ds) q e is = absurd (omega (arith, e))

  pub none_tables : (h : Ruled) (s : Structure) (defined : List HierRule) (old : List StatementTree) → length defined ≡ 0 → old ≡ old ++ map create_for (computed_by p r h m i defined order a s (by_names (x ∷ []) n)).tables
  none_tables h s [] old e = sym (append-nil old)
  none_tables h s (d ∷ ds) old e = absurd (omega (arith, e))

  pub none_next : (h : Ruled) (s : Structure) (defined : List HierRule) → length defined ≡ 0 → n ≡ (computed_by p r h m i defined order a s (by_names (x ∷ []) n)).next
  none_next h s [] e = refl
  none_next h s (d ∷ ds) e = absurd (omega (arith, e))
