-- Checks as nodes: the tables of their operands, and then one query.
use Rattle.std.proofs.Common.{◌≡◌, ◌<◌, ◌^◌, ℕ, true, List, ◌∷◌, length, Some, None, Ok}
use Rattle.std.specs.List.{AllByRecursion}
use Rattle.vtl_decimal.specs.Settings.{Settings}
use Rattle.vtl_text.specs.Words.{is_word}
use Rattle.vtl_lists.proofs.Perms.{AllByRecursion-Perm, Perm-sym}
use Rattle.vtl_cell.specs.Outcome.{Outcome, after}
use Rattle.vtl_cell.specs.Profile.{IsOfProfile}
use Rattle.vtl_cell.specs.Row.{Row}
use Rattle.vtl_syntax.specs.declared.word_groups.CheckOut.{CheckOut}
use Rattle.vtl_tree.specs.DataSet.{AreOfProfile, IsDataSet}
use Rattle.vtl_tree.specs.Structure.{columns_of}
use Rattle.vtl_tree.specs.Trees.{PointRuleTree}
use Rattle.vtl_tree.specs.declared.specifications.CheckSpec.{CheckSpec}
use Rattle.vtl_tree.specs.declared.structure.Structure.{Structure}
use Rattle.vtl_meaning.specs.Points.{with_points}
use Rattle.vtl_rulings.specs.PointChecks.{check_of, datapoint_of}
use Rattle.vtl_rulings.specs.Shaped.{IsChecked, IsPointChecked}
use Rattle.vtl_rulings.proofs.Orders.{check_respects, datapoint_respects, imbalanced_respects}
use Rattle.sql_tree.specs.Trees.{Text}
use Rattle.sql_meaning.specs.Scripts.{Data}
use Rattle.selects_to_sql.specs.Means.{NodeGives, SourcesGive}
use Rattle.selects_to_sql.specs.Tables.{Sources, over, with_one, with_two}
use Rattle.selects_to_sql.specs.Writable.{HaveNames}
use Rattle.selects_to_sql.proofs.Composition.{alone, one_gives, together, two_gives}
use Rattle.selects_to_sql.proofs.Exact.{means_by, set_turned}
use Rattle.selects_to_sql.proofs.Expressions.{Translates}
use Rattle.selects_to_sql.proofs.Givens.{AreGiven}
use Rattle.rules_to_sql.specs.CheckQueries.{check_query, imbalance_query}
use Rattle.rules_to_sql.specs.PointQueries.{datapoint_query}
use Rattle.rules_to_sql.specs.Writable.{AreErrorsHeld, CanRuleBeWritten}
use Rattle.rules_to_sql.proofs.CheckQueries.{check_exactly, imbalance_exactly}
use Rattle.rules_to_sql.proofs.PointQueries.{datapoint_exactly}

module _ (p : Settings) (law : Translates p) (result : Text) (word : is_word result ≡ true) (before : Data) (n : ℕ) (os : Sources) (a s : Structure) (v : Outcome (List Row)) (na : HaveNames (columns_of a)) (given : AreGiven (columns_of s)) (sets : (d : List Row) → v ≡ Ok d → IsDataSet a d) where
  pub datapoint_gives : (o : CheckOut) (rule : PointRuleTree) (rules : List PointRuleTree) → IsPointChecked p o (rule ∷ rules) a s → AllByRecursion CanRuleBeWritten (rule ∷ rules) → length (rule ∷ rules) < 2 ^ 64 → SourcesGive p before result n os (alone p result word a v)
      → NodeGives p before result n (over os (with_one (datapoint_query p (rule ∷ rules) o a s))) s (after v (λ d. datapoint_of p o (rule ∷ rules) (with_points a d)))
  datapoint_gives o rule rules i written few g =
      let all = rule ∷ rules in
      one_gives p result word before n os (datapoint_query p all o a s) a s v (λ d. datapoint_of p o all (with_points a d)) g
      (λ now x d is st.
      means_by p now (datapoint_query p all o a s x) s (datapoint_of p o all (with_points a st.rows)) (datapoint_of p o all (with_points a d)) (datapoint_respects p o all a st.rows d st.same)
      (datapoint_exactly p law now x a s st.rows st.table st.named na (set_turned a d st.rows st.same (sets d is)) given o rule rules i written few))

  pub check_gives : (spec : CheckSpec) → IsChecked p spec None a s → AreErrorsHeld spec.errorcode spec.errorlevel → SourcesGive p before result n os (alone p result word a v)
      → NodeGives p before result n (over os (with_one (check_query p spec a s))) s (after v (λ d. Ok (check_of p spec (with_points a d) None)))
  check_gives spec i held g =
      one_gives p result word before n os (check_query p spec a s) a s v (λ d. Ok (check_of p spec (with_points a d) None)) g
      (λ now x d is st.
      means_by p now (check_query p spec a s x) s (Ok (check_of p spec (with_points a st.rows) None)) (Ok (check_of p spec (with_points a d) None)) (check_respects p spec a st.rows d st.same)
      (check_exactly p law now x a s st.rows st.table st.named na (set_turned a d st.rows st.same (sets d is)) given spec i held))

  -- the integers of the imbalance are of the profile, as those of all data sets are
  module _ (b : Structure) (u : Outcome (List Row)) (nb : HaveNames (columns_of b)) (others : (e : List Row) → u ≡ Ok e → IsDataSet b e) (ranged : (e : List Row) → u ≡ Ok e → AreOfProfile p e) where
    pub imbalance_gives : (spec : CheckSpec) → IsChecked p spec (Some b) a s → AreErrorsHeld spec.errorcode spec.errorlevel → SourcesGive p before result n os (together p result word (alone p result word a v) (alone p result word b u))
        → NodeGives p before result n (over os (with_two (imbalance_query p spec a b s))) s (after v (λ d. after u (λ e. Ok (check_of p spec (with_points a d) (Some (with_points b e))))))
    imbalance_gives spec i held g =
        two_gives p result word before n os (imbalance_query p spec a b s) a b s v u (λ d e. Ok (check_of p spec (with_points a d) (Some (with_points b e)))) g
        (λ now x y d e is it st su.
        let ds = set_turned a d st.rows st.same (sets d is) in
        let es = set_turned b e su.rows su.same (others e it) in
        means_by p now (imbalance_query p spec a b s x y) s (Ok (check_of p spec (with_points a st.rows) (Some (with_points b su.rows)))) (Ok (check_of p spec (with_points a d) (Some (with_points b e))))
        (imbalanced_respects p spec a b s su.rows e i es su.same st.rows d st.same)
        (imbalance_exactly p law now x y a b s st.rows su.rows st.table su.table (st.named, su.named) na nb ds es (AllByRecursion-Perm (λ r. AllByRecursion (IsOfProfile p) r) (Perm-sym su.same) (ranged e it)) given spec i held))
