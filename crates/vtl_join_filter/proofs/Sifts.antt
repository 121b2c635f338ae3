-- Points are asked in parts as they are asked at once.
use Rattle.std.proofs.Common.{◌≡◌, ℕ, suc, ◌*◌, ◌<◌, List, [], ◌∷◌, ◌++◌, length, length-append, map, Result, append_assoc, sym, ap, ◌∙◌, subst, arith}
use Rattle.std.specs.Prelude.{IfOk}
use Rattle.std.proofs.lemmas.List.{append-nil, map-append}
use Rattle.std.proofs.lemmas.List.Elements.{filter-append}
use Rattle.vtl_decimal.specs.Settings.{Settings}
use Rattle.vtl_cell.specs.Outcome.{Outcome, fault_in, join, unless}
use Rattle.vtl_cell.specs.Outcomes.{is_true}
use Rattle.vtl_cell.specs.Row.{Row}
use Rattle.vtl_rows.specs.Gathered.{pieces}
use Rattle.vtl_rows.specs.Tables.{Tabled, listed}
use Rattle.vtl_rows.specs.declared.column.Column.{Column}
use Rattle.vtl_rows.proofs.Gathered.{pieces-next, pieces-none, pieces-push}
use Rattle.vtl_scalar.specs.Answers.{AnswersBy}
use Rattle.vtl_scalar.specs.Seen.{seen_of}
use Rattle.vtl_scalar.specs.declared.error.ScalarErr.{ScalarErr}
use Rattle.vtl_sets.specs.TableOf.{IsTableOf, table_columns}
use Rattle.vtl_sets.proofs.TableLemmas.{answered_is_table}
use Rattle.vtl_tree.specs.Clauses.{filter_of, kept}
use Rattle.vtl_tree.specs.CompExp.{CompExp}
use Rattle.vtl_tree.specs.DataSet.{IsDataSet}
use Rattle.vtl_tree.specs.declared.structure.Structure.{Structure}
use Rattle.vtl_tree.specs.Value.{value}
use Rattle.vtl_tree.proofs.Faults.{faults_by-append, join_assoc, join_none}
use Rattle.vtl_meaning.specs.Made.{IsFiltered}
use Rattle.vtl_meaning.proofs.Kept.{filtered_kept}
use Rattle.vtl_expr.specs.Prepared.{SameValue, prepared_exp}
use Rattle.vtl_clause.specs.Walks.{fault_over}
use Rattle.vtl_clause.proofs.WalkLemmas.{fault_prepared, kept_prepared}
use Rattle.vtl_join.specs.Gatherings.{Gathers, point_of, points_of, width_of}
use Rattle.vtl_join_filter.specs.Sifting.{IsEmpty, IsReady, Sifted, asked_of, nothing_asked, sifted, so_far}
use Rattle.vtl_join_filter.specs.declared.sieve.Asked.{Asked}
use Rattle.vtl_join_filter.specs.declared.sieve.Sieve.{Sieve}

-- ---- points
pub sifted_none : (p : Settings) (e : CompExp) (s : Sifted) → sifted p e s [] ≡ s
sifted_none p e s = λ i. record { rows = append-nil s.rows i; fault = join_none s.fault i }

pub sifted_more : (p : Settings) (e : CompExp) (s : Sifted) (xs ys : List Row) → sifted p e (sifted p e s xs) ys ≡ sifted p e s (xs ++ ys)
sifted_more p e s xs ys =
    let rows = append_assoc s.rows (kept p e xs) (kept p e ys) ∙ ap (λ l. s.rows ++ l) (sym (filter-append (λ r. is_true (value p e r)) xs ys)) in
    let fault = join_assoc s.fault (fault_over p e xs) (fault_over p e ys) ∙ ap (join s.fault) (sym (faults_by-append (λ r. fault_in (value p e r)) xs ys)) in
    λ i. record { rows = rows i; fault = fault i }

-- ---- tuples that wait
pub points_none : (g : Gathers) → 0 < width_of g → points_of g [] ≡ []
points_none g some = ap (map (point_of g)) (pieces-none (width_of g) [] some)

pub points_more : (g : Gathers) (n : ℕ) (waiting tuple : List ℕ) → 0 < width_of g → length waiting ≡ n * width_of g → length tuple ≡ width_of g → points_of g (waiting ++ tuple) ≡ points_of g waiting ++ point_of g tuple ∷ []
points_more g n waiting tuple some whole wide =
    ap (map (point_of g)) (pieces-push (width_of g) n waiting tuple some whole wide) ∙ map-append (point_of g) (pieces (width_of g) waiting) (tuple ∷ [])

module _ (a : Asked) (old new : Sieve) where
  abbrev p : Settings
  p = a.profile.now

  abbrev x : CompExp
  x = prepared_exp a.condition

  -- all that wait are asked
  pub settled : (points : List Row) → 0 < width_of a.gathering → points ≡ points_of a.gathering old.waiting.items → new.kept.rows ≡ old.kept.rows ++ kept p x points → seen_of new.seen ≡ join (seen_of old.seen) (fault_over p x points) → new.waiting.items ≡ [] → so_far a new ≡ so_far a old
  settled points some e rows fault none =
      let now : Sifted = record { rows = new.kept.rows; fault = seen_of new.seen } in
      let is : now ≡ asked_of a (record { rows = old.kept.rows; fault = seen_of old.seen }) points = λ i. record { rows = rows i; fault = fault i } in
      ap (λ l. asked_of a now (points_of a.gathering l)) none ∙ ap (asked_of a now) (points_none a.gathering some) ∙ sifted_none p x now
      ∙ is ∙ ap (asked_of a (record { rows = old.kept.rows; fault = seen_of old.seen })) e

  -- one more waits
  pub added : (tuple : List ℕ) → IsReady a old → length tuple ≡ width_of a.gathering → new.kept.rows ≡ old.kept.rows → seen_of new.seen ≡ seen_of old.seen → new.waiting.items ≡ old.waiting.items ++ tuple → so_far a new ≡ asked_of a (so_far a old) (point_of a.gathering tuple ∷ [])
  added tuple r wide rows fault more =
      let g = a.gathering in
      let before : Sifted = record { rows = old.kept.rows; fault = seen_of old.seen } in
      let now : Sifted = record { rows = new.kept.rows; fault = seen_of new.seen } in
      let is : now ≡ before = λ i. record { rows = rows i; fault = fault i } in
      ap (λ s. asked_of a s (points_of g new.waiting.items)) is
      ∙ ap (asked_of a before) (ap (points_of g) more ∙ points_more g r.whole.0 old.waiting.items tuple r.some r.whole.1 wide)
      ∙ sym (sifted_more p x before (points_of g old.waiting.items) (point_of g tuple ∷ []))

  pub ready_more : (tuple : List ℕ) → IsReady a old → length tuple ≡ width_of a.gathering → new.kept.columns ≡ old.kept.columns → new.waiting.items ≡ old.waiting.items ++ tuple → IsReady a new
  ready_more tuple r wide columns more =
      let w = width_of a.gathering in
      let l = ap length more ∙ length-append old.waiting.items tuple in
      let e = r.whole.1 in
      let many : length new.waiting.items ≡ suc r.whole.0 * w = omega (arith, l, e, wide) in
      record { columns = columns ∙ r.columns; some = r.some; whole = (suc r.whole.0, many) }

  pub ready_settled : IsReady a old → new.kept.columns ≡ old.kept.columns → new.waiting.items ≡ [] → IsReady a new
  ready_settled r columns none =
      let w = width_of a.gathering in
      let l = ap length none in
      let many : length new.waiting.items ≡ 0 * w = omega (arith, l) in
      record { columns = columns ∙ r.columns; some = r.some; whole = (0, many) }

-- ---- tuples that stand one after the other
module _ (p : Settings) (e : CompExp) (point : List ℕ → Row) (w : ℕ) (all s : Sifted) (xs : List ℕ) (so : sifted p e s (map point (pieces w xs)) ≡ all) where
  pub each_more : (t : Sifted) (x rest : List ℕ) → 0 < w → xs ≡ x ++ rest → length x ≡ w → t ≡ sifted p e s (point x ∷ []) → sifted p e t (map point (pieces w rest)) ≡ all
  each_more t x rest some is wide more =
      ap (λ u. sifted p e u (map point (pieces w rest))) more ∙ sifted_more p e s (point x ∷ []) (map point (pieces w rest))
      ∙ ap (λ ps. sifted p e s (map point ps)) (sym (ap (pieces w) is ∙ pieces-next w x rest some wide)) ∙ so

  pub each_done : length xs < w → s ≡ all
  each_done short = sym (sifted_none p e s) ∙ ap (λ ps. sifted p e s (map point ps)) (sym (pieces-none w xs short)) ∙ so

-- ---- the first and the last
module _ (a : Asked) (s : Sieve) where
  pub all_asked : 0 < width_of a.gathering → s.waiting.items ≡ [] → so_far a s ≡ record { rows = s.kept.rows; fault = seen_of s.seen }
  all_asked some none =
      let now : Sifted = record { rows = s.kept.rows; fault = seen_of s.seen } in
      ap (λ l. asked_of a now (points_of a.gathering l)) none ∙ ap (asked_of a now) (points_none a.gathering some) ∙ sifted_none a.profile.now (prepared_exp a.condition) now

  pub nothing_yet : 0 < width_of a.gathering → IsEmpty s → so_far a s ≡ nothing_asked
  nothing_yet some h = all_asked some h.waiting ∙ (λ i. record { rows = h.rows i; fault = h.fault i })

  pub ready_empty : 0 < width_of a.gathering → s.kept.columns ≡ a.gathering.columns → IsEmpty s → IsReady a s
  ready_empty some columns h =
      let w = width_of a.gathering in
      let l = ap length h.waiting in
      let many : length s.waiting.items ≡ 0 * w = omega (arith, l) in
      record { columns = columns; some = some; whole = (0, many) }

pub is_filter : (p : Settings) (x e : CompExp) (s : Sifted) (points : List Row) → SameValue x e → s ≡ sifted p x nothing_asked points → unless s.fault s.rows ≡ filter_of p e points
is_filter p x e s points same h =
    ap (λ (t : Sifted). unless t.fault t.rows) h ∙ ap (unless (fault_over p x points)) (kept_prepared p x e same points) ∙ ap (λ f. unless f (kept p e points)) (fault_prepared p x e same points)

-- what is answered when all points were asked
module _ (a : Asked) (first last : Sieve) (e : CompExp) (points : List Row) (same : SameValue (prepared_exp a.condition) e) (some : 0 < width_of a.gathering) (empty : IsEmpty first) (found : so_far a last ≡ asked_of a (so_far a first) points) where
  pub answered : (r : Result Tabled ScalarErr) → AnswersBy (λ t. t.rows) r (unless (so_far a last).fault (so_far a last).rows) → AnswersBy (λ t. t.rows) r (filter_of a.profile.now e points)
  answered r h =
      let x = prepared_exp a.condition in
      let from = found ∙ ap (λ (s : Sifted). asked_of a s points) (nothing_yet a first some empty) in
      subst (λ (m : Outcome (List Row)). AnswersBy (λ (t : Tabled). t.rows) r m) (is_filter a.profile.now x e (so_far a last) points same from) h

  pub answered_table : (r : Result Tabled ScalarErr) (made s : Structure) → IsFiltered a.profile.now e made s → IsDataSet made points → a.gathering.columns ≡ table_columns made → AnswersBy (λ t. t.rows) r (unless (so_far a last).fault (so_far a last).rows) → IfOk r (λ t. t.columns ≡ a.gathering.columns)
      → IfOk r (λ t. IsTableOf s (listed t))
  answered_table r made s fits set columns rows own =
      answered_is_table s r (filter_of a.profile.now e points) (subst (λ (l : List Column). IfOk r (λ t. t.columns ≡ l)) (columns ∙ ap table_columns (sym fits.same)) own) (answered r rows)
      (λ out q. filtered_kept a.profile.now e made s points out fits set q)
