-- The tables of `flow_to_stock` and `stock_to_flow` mean them.
use Rattle.std.proofs.Common.{◌≡◌, ◌<◌, ◌+◌, ◌^◌, ℕ, true, List, [], ◌∷◌, ◌++◌, length, Ok, Err, refl, sym, subst, arith, append-nil, length-append}
use Rattle.vtl_cell.specs.Outcome.{Outcome, after}
use Rattle.vtl_cell.specs.Row.{Row}
use Rattle.vtl_cell.specs.declared.operator.ScalarOp.TheVariants as op
use Rattle.vtl_decimal.specs.Settings.{Settings}
use Rattle.vtl_tree.specs.DataSet.{IsDataSet}
use Rattle.vtl_tree.specs.Structure.{columns_of}
use Rattle.vtl_tree.specs.declared.calls.AnalyticOp.{AnalyticOp}
use Rattle.vtl_tree.specs.declared.structure.Structure.{Structure}
use Rattle.vtl_meaning.specs.Operators.{pair_of}
use Rattle.vtl_meaning.specs.Points.{each_point, paired, with_points}
use Rattle.vtl_meaning.proofs.Orders.{each_respects, pair_respects, paired_respects}
use Rattle.vtl_timing.specs.TimeShapes.{IsFlowed}
use Rattle.vtl_timing.specs.Times.{flow_of, stock_of}
use Rattle.vtl_text.specs.Words.{is_word}
use Rattle.sql_tree.specs.Trees.{QueryTree, Text}
use Rattle.sql_meaning.specs.Scripts.{Data}
use Rattle.selects_to_sql.specs.Means.{AreEarlier, AreThere, Means, NodeGives, SourcesGive, StandsAs}
use Rattle.selects_to_sql.specs.Tables.{Made, Sources, and_then, by_names, over, table_of, with_one, with_two}
use Rattle.selects_to_sql.specs.Writable.{HaveNames}
use Rattle.selects_to_sql.proofs.Composition.{alone, no_tables, one_gives, stored_gives, together, two_gives}
use Rattle.selects_to_sql.proofs.Exact.{means_by, set_turned}
use Rattle.selects_to_sql.proofs.Expressions.{Translates}
use Rattle.selects_to_sql.proofs.Givens.{AreGiven}
use Rattle.selects_to_sql.proofs.Running.{run_stops}
use Rattle.joins_to_sql.proofs.FullMeans.{beside_there}
use Rattle.times_to_sql.specs.Flows.{flow_made, flow_query, parts_of, parts_query, previous_value, stock_made, stock_query, total}
use Rattle.times_to_sql.specs.Frequencies.{stock_exps, within_frequencies}
use Rattle.times_to_sql.proofs.FlowWindows.{flow_by_windows}
use Rattle.times_to_sql.proofs.PartRows.{parts_kept, within_respects}
use Rattle.times_to_sql.proofs.Parts.{IsAlong, parts_mean, previous_along, total_along}
use Rattle.times_to_sql.proofs.StockWindows.{stock_by_windows}
use Rattle.times_to_sql.proofs.Stocks.{flow_means, stock_means}

module _ (p : Settings) (law : Translates p) (r : Text) (word : is_word r ≡ true) (o : AnalyticOp) (along : IsAlong p o) (a s : Structure) (na : HaveNames (columns_of a)) (given : AreGiven (columns_of s)) (i : IsFlowed a s) where
  abbrev made_along : List Row → Outcome (List Row)
  made_along d = within_frequencies p o (with_points a d) s

  -- ---- the table along series

  parts_there : (d : List Row) → IsDataSet a d → (now : Data) (xs : List Text) (n : ℕ) → AreThere now xs (with_points a d ∷ []) → AreEarlier r n now → n + 1 < 2 ^ 64 → SourcesGive p now r n (parts_of p r o a s xs n) (alone p r word s (made_along d))
  parts_there d set now xs n there apart few =
      let back : now ++ [] ≡ now = append-nil now in
      let one = over (by_names xs n) (with_one (parts_query p o a s)) in
      let first : SourcesGive p now r n (by_names xs n) (Ok (with_points a d ∷ [])) = (no_tables p r word now n, subst (λ b. AreThere b xs (with_points a d ∷ [])) (sym back) there) in
      let node : NodeGives p now r n one s (made_along d) =
      one_gives p r word now n (by_names xs n) (parts_query p o a s) a s (Ok d) made_along first
      (λ later x e is st.
      let same : d ≡ e = cc in
      let own : IsDataSet a e = subst (IsDataSet a) same set in
      means_by p later (parts_query p o a s x) s (made_along st.rows) (made_along e) (within_respects p o a s st.rows e st.same)
      (parts_mean p law later x a s st.rows st.table st.named na (set_turned a e st.rows st.same own) o along i given)) in
      stored_gives p r word now n one s (made_along d) apart (omega (arith, few)) node

  -- ---- a query over the operand's table and this one

  module _ (q : Text → Text → QueryTree) (F : List Row → List Row → Outcome (List Row)) (means : (now : Data) (x y : Text) (d e : List Row) → IsDataSet a d → IsDataSet s e → StandsAs now x a d → StandsAs now y s e → Means p now (q x y) s (F d e)) where
    abbrev made : Sources → Made
    made os = over (and_then os (parts_of p r o a s os.names)) (with_two q)

    along_gives : (before : Data) (n : ℕ) (os : Sources) (v : Outcome (List Row)) → ((d : List Row) → v ≡ Ok d → IsDataSet a d) → AreEarlier r n before → n + length (made os).tables < 2 ^ 64
        → SourcesGive p before r n os (alone p r word a v) → NodeGives p before r n (made os) s (after v (λ d. after (made_along d) (F d)))
    along_gives before n os (Err f) sets apart few g =
        let next = parts_of p r o a s os.names os.next in
        λ name e. run_stops p before (made os).tables (table_of name (made os).query ∷ []) (f, r) (run_stops p before os.tables next.tables (f, r) g)
    along_gives before n os (Ok d) sets apart few g =
        let set = sets d refl in
        let next : ℕ → Sources = parts_of p r o a s os.names in
        let size = length-append os.tables (next os.next).tables in
        let one : length (next os.next).tables ≡ 1 = refl in
        let both : SourcesGive p before r n (and_then os next) (together p r word (alone p r word a (Ok d)) (alone p r word s (made_along d))) =
        beside_there p r word before n os next (with_points a d ∷ []) (alone p r word s (made_along d)) apart g
        (λ more there earlier counted. parts_there d set (before ++ more) os.names os.next there earlier (omega (arith, few, counted, size, one))) in
        two_gives p r word before n (and_then os next) q a s s (Ok d) (made_along d) F both
        (λ now x y c e is along_it st su.
        let same : d ≡ c = cc in
        means now x y c e (subst (IsDataSet a) same set) (parts_kept p o along a s i given d set e along_it) st su)

-- ---- the operators

module _ (p : Settings) (law : Translates p) (r : Text) (word : is_word r ≡ true) (before : Data) (n : ℕ) (os : Sources) (a s : Structure) (v : Outcome (List Row)) (na : HaveNames (columns_of a)) (given : AreGiven (columns_of s)) (sets : (d : List Row) → v ≡ Ok d → IsDataSet a d) (i : IsFlowed a s) (apart : AreEarlier r n before) where
  pub stock_gives : n + length (stock_made p r a s os).tables < 2 ^ 64 → SourcesGive p before r n os (alone p r word a v) → NodeGives p before r n (stock_made p r a s os) s (after v (λ d. stock_of p (with_points a d) s))
  stock_gives few g =
      subst (NodeGives p before r n (stock_made p r a s os) s) (go v sets)
      (along_gives p law r word total (total_along p) a s na given i (stock_query p a s) with_totals
      (λ now x y d e set other st su.
      let own = set_turned a d st.rows st.same set in
      let theirs = set_turned s e su.rows su.same other in
      means_by p now (stock_query p a s x y) s (with_totals st.rows su.rows) (with_totals d e)
      (each_respects p (stock_exps a s) (paired (with_points a st.rows) (with_points s su.rows)) (paired (with_points a d) (with_points s e)) (paired_respects a s st.rows d su.rows e st.same su.same theirs.distinct))
      (stock_means p a s i given law now x y st.rows su.rows st.table su.table (st.named, su.named) na own theirs))
      before n os v sets apart few g)
    where
      with_totals : List Row → List Row → Outcome (List Row)
      with_totals d e = each_point p (stock_exps a s) (paired (with_points a d) (with_points s e))

      go : (u : Outcome (List Row)) → ((d : List Row) → u ≡ Ok d → IsDataSet a d) → after u (λ d. after (within_frequencies p total (with_points a d) s) (with_totals d)) ≡ after u (λ d. stock_of p (with_points a d) s)
      go (Ok d) h = stock_by_windows p (with_points a d) s i (h d refl)
      go (Err f) h = refl

  pub flow_gives : n + length (flow_made p r a s os).tables < 2 ^ 64 → SourcesGive p before r n os (alone p r word a v) → NodeGives p before r n (flow_made p r a s os) s (after v (λ d. flow_of p (with_points a d) s))
  flow_gives few g =
      subst (NodeGives p before r n (flow_made p r a s os) s) (go v sets)
      (along_gives p law r word previous_value (previous_along p law.low) a s na given i (flow_query p a s) with_previous
      (λ now x y d e set other st su.
      let own = set_turned a d st.rows st.same set in
      let theirs = set_turned s e su.rows su.same other in
      means_by p now (flow_query p a s x y) s (with_previous st.rows su.rows) (with_previous d e) (pair_respects p op.Subtract a s s st.rows d su.rows e st.same su.same own.distinct theirs.distinct)
      (flow_means p a s i given law now x y st.rows su.rows st.table su.table (st.named, su.named) na own theirs))
      before n os v sets apart few g)
    where
      with_previous : List Row → List Row → Outcome (List Row)
      with_previous d e = pair_of p op.Subtract (with_points a d) (with_points s e) s

      go : (u : Outcome (List Row)) → ((d : List Row) → u ≡ Ok d → IsDataSet a d) → after u (λ d. after (within_frequencies p previous_value (with_points a d) s) (with_previous d)) ≡ after u (λ d. flow_of p (with_points a d) s)
      go (Ok d) h = flow_by_windows p (with_points a d) s i (h d refl)
      go (Err f) h = refl
