-- The tables of a time operator mean it.
use Rattle.std.proofs.Common.{◌≡◌, ◌<◌, ◌+◌, ◌^◌, ℕ, ℤ, true, List, length, Ok, sym, subst}
use Rattle.std.specs.Prelude.{unsigned_abs}
use Rattle.vtl_decimal.specs.Settings.{Settings}
use Rattle.vtl_text.specs.Words.{is_word}
use Rattle.vtl_cell.specs.Outcome.{Outcome, after}
use Rattle.vtl_cell.specs.Row.{Row}
use Rattle.vtl_tree.specs.DataSet.{IsDataSet}
use Rattle.vtl_tree.specs.Structure.{columns_of}
use Rattle.vtl_tree.specs.declared.calls.TimeOp.{TimeOp}
use Rattle.vtl_tree.specs.declared.calls.TimeOp.TheVariants as op
use Rattle.vtl_tree.specs.declared.structure.Structure.{Structure}
use Rattle.vtl_meaning.specs.Points.{with_points}
use Rattle.vtl_meaning.specs.Reaches.{is_near}
use Rattle.vtl_timing.specs.Timed.{IsTimed, timed_of}
use Rattle.vtl_timing.specs.Times.{timeshift_of}
use Rattle.vtl_timing.proofs.TimeOrders.{shift_respects}
use Rattle.sql_tree.specs.Trees.{Text}
use Rattle.sql_meaning.specs.Scripts.{Data}
use Rattle.selects_to_sql.specs.Means.{AreEarlier, NodeGives, SourcesGive}
use Rattle.selects_to_sql.specs.Tables.{Sources}
use Rattle.selects_to_sql.specs.Writable.{HaveNames}
use Rattle.selects_to_sql.proofs.Composition.{alone, one_gives}
use Rattle.selects_to_sql.proofs.Exact.{means_by, set_turned}
use Rattle.selects_to_sql.proofs.Expressions.{Translates}
use Rattle.selects_to_sql.proofs.Givens.{AreGiven}
use Rattle.times_to_sql.specs.Shifts.{shift_query}
use Rattle.times_to_sql.specs.TimeTables.{time_made}
use Rattle.times_to_sql.proofs.Fills.{fill_gives}
use Rattle.times_to_sql.proofs.FlowTables.{flow_gives, stock_gives}
use Rattle.times_to_sql.proofs.Shifts.{shift_means}

module _ (p : Settings) (law : Translates p) (r : Text) (word : is_word r ≡ true) (before : Data) (n : ℕ) (os : Sources) where
  shift_gives : (z : ℤ) (a : Structure) (v : Outcome (List Row)) → HaveNames (columns_of a) → AreGiven (columns_of a) → is_near (unsigned_abs z) ≡ true → ((d : List Row) → v ≡ Ok d → IsDataSet a d) → SourcesGive p before r n os (alone p r word a v)
      → NodeGives p before r n (time_made p r (op.Shift z) a a os) a (after v (λ d. timeshift_of z (with_points a d)))
  shift_gives z a v na given near sets g =
      one_gives p r word before n os (shift_query p z a) a a v (λ d. timeshift_of z (with_points a d)) g
      (λ now x d is st.
      means_by p now (shift_query p z a x) a (timeshift_of z (with_points a st.rows)) (timeshift_of z (with_points a d)) (shift_respects a st.rows d st.same z)
      (shift_means p law now x a st.rows st.table st.named na (set_turned a d st.rows st.same (sets d is)) given z near))

  pub time_gives : (o : TimeOp) (a s : Structure) (v : Outcome (List Row)) → HaveNames (columns_of a) → AreGiven (columns_of s) → ((d : List Row) → v ≡ Ok d → IsDataSet a d) → IsTimed o a s → AreEarlier r n before → n + length (time_made p r o a s os).tables < 2 ^ 64
      → SourcesGive p before r n os (alone p r word a v) → NodeGives p before r n (time_made p r o a s os) s (after v (λ d. timed_of p o (with_points a d) s))
  time_gives (op.Shift z) a s v na given sets i apart few g =
      subst (λ (q : Structure). NodeGives p before r n (time_made p r (op.Shift z) a q os) q (after v (λ d. timeshift_of z (with_points a d)))) (sym i.given)
      (shift_gives z a v na (subst (λ (q : Structure). AreGiven (columns_of q)) i.given given) i.reached sets g)
  time_gives (op.Fill f) a s v na given sets i apart few g =
      subst (λ (q : Structure). NodeGives p before r n (time_made p r (op.Fill f) a q os) q (after v (λ d. timed_of p (op.Fill f) (with_points a d) q))) (sym i.given)
      (fill_gives p law r word before n os f a v na (subst (λ (q : Structure). AreGiven (columns_of q)) i.given given) i.time sets apart (subst (λ (q : Structure). n + length (time_made p r (op.Fill f) a q os).tables < 2 ^ 64) i.given few) g)
  time_gives op.FlowToStock a s v na given sets i apart few g = stock_gives p law r word before n os a s v na given sets i.given apart few g
  time_gives op.StockToFlow a s v na given sets i apart few g = flow_gives p law r word before n os a s v na given sets i.given apart few g
