-- The tables of operands one behind the other, and a query over them.
use Rattle.std.proofs.Common.{◌≡◌, ℕ, ◌+◌, ◌<◌, ◌≤◌, ◌^◌, true, false, List, [], ◌∷◌, ◌++◌, length, Ok, Err, refl, ap, sym, ◌∙◌, subst, arith, append_assoc, append-nil, length-append, inl, inr, ⊎_elim}
use Rattle.std.specs.List.{AllByRecursion}
use Rattle.vtl_lists.proofs.Alls.{all_append, all_more}
use Rattle.vtl_cell.specs.Outcome.{Outcome, after}
use Rattle.vtl_cell.specs.Row.{Row}
use Rattle.vtl_decimal.specs.Settings.{Settings}
use Rattle.vtl_text.specs.Texts.{same_text}
use Rattle.vtl_text.specs.Words.{is_word}
use Rattle.vtl_tree.specs.Environment.{DataSet, Environment}
use Rattle.vtl_tree.specs.declared.structure.Structure.{Structure}
use Rattle.vtl_tree.proofs.NotNullLemmas.{same_itself}
use Rattle.vtl_meaning.specs.Points.{with_points}
use Rattle.sql_tree.specs.Trees.{QueryTree, Text}
use Rattle.sql_meaning.specs.Scripts.{Data, base_of, tables_in}
use Rattle.sql_meaning.specs.Selects.{query_value}
use Rattle.selects_to_sql.specs.Means.{AreEarlier, AreThere, Extends, IsEarlier, IsNumbered, Means, NodeGives, SourcesGive, Stands, StandsAs}
use Rattle.selects_to_sql.specs.Runs.{AreLawful, IsTable, held}
use Rattle.selects_to_sql.specs.Tables.{Made, Sources, and_then, numbered, over, stored, table_of, with_one, with_three, with_two}
use Rattle.selects_to_sql.proofs.Names.{numbered_is_name, numbered_name, numbers_differ, other_statement}
use Rattle.selects_to_sql.proofs.Running.{lawful_on, name_free, run_fault, run_on, run_one, run_stops, same_ok, there_last, there_still}

-- ---- tables that stay

pub stands_still : (now more : Data) (name : Text) (s : Structure) (points : List Row) → StandsAs now name s points → StandsAs (now ++ more) name s points
stands_still now more name s points h = record { named = h.named; rows = h.rows; table = there_still now more (same_text name) (held s h.rows) h.table; same = h.same }

pub all_stand_still : (before more : Data) (env : Environment) → Stands before env → Stands (before ++ more) env
all_stand_still before more env stands = λ name s h. stands_still before more name s _ (stands name s h)

there_together : (now more : Data) (names : List Text) (ds : List DataSet) → AreThere now names ds → AreThere (now ++ more) names ds
there_together now more [] [] i = tt
there_together now more [] (d ∷ ds) i = absurd i
there_together now more (x ∷ xs) [] i = absurd i
there_together now more (x ∷ xs) (d ∷ ds) i = (stands_still now more x d.structure d.points i.0, there_together now more xs ds i.1)

there_joined : (now : Data) (xs ys : List Text) (ds es : List DataSet) → AreThere now xs ds → AreThere now ys es → AreThere now (xs ++ ys) (ds ++ es)
there_joined now [] ys [] es i j = j
there_joined now [] ys (d ∷ ds) es i j = absurd i
there_joined now (x ∷ xs) ys [] es i j = absurd i
there_joined now (x ∷ xs) ys (d ∷ ds) es i j = (i.0, there_joined now xs ys ds es i.1 j)

module _ (p : Settings) (r : Text) (word : is_word r ≡ true) where
  -- ---- numbers that rise

  numbered_more : (n next : ℕ) (more : Data) → n ≤ next → AllByRecursion (λ t. IsNumbered r n t.0) more → AllByRecursion (λ t. IsNumbered r next t.0) more
  numbered_more n next more h all = all_more (λ t. IsNumbered r n t.0) (λ t. IsNumbered r next t.0) (λ t i. (i.0, i.1, omega (arith, h, i.2))) more all

  earlier_still : (n next : ℕ) (before : Data) → n ≤ next → AreEarlier r n before → AreEarlier r next before
  earlier_still n next before h all = all_more (λ t. IsEarlier r n t.0) (λ t. IsEarlier r next t.0) (λ t i. ⊎_elim (λ e. inl e) (λ j. inr (j.0, j.1, omega (arith, h, j.2))) i) before all

  pub all_earlier : (n next : ℕ) (before more : Data) → n ≤ next → AreEarlier r n before → AllByRecursion (λ t. IsNumbered r next t.0) more → AreEarlier r next (before ++ more)
  all_earlier n next before more h all new = all_append (λ t. IsEarlier r next t.0) before more (earlier_still n next before h all) (all_more (λ t. IsNumbered r next t.0) (λ t. IsEarlier r next t.0) (λ t i. inr i) more new)

  -- the next number is free
  next_free : (next : ℕ) (now : Data) → next < 2 ^ 64 → AreEarlier r next now → AllByRecursion (λ u. same_text (numbered r next) u.0 ≡ false) now
  next_free next now few all =
      all_more (λ t. IsEarlier r next t.0) (λ u. same_text (numbered r next) u.0 ≡ false)
      (λ t i. ⊎_elim (λ h. other_statement r (numbered r next) t.0 (numbered_name r next word) h) (λ j. ap (same_text (numbered r next)) j.1 ∙ numbers_differ r next j.0 j.2 few) i) now all

  -- ---- operands

  abbrev pub no_tables : (before : Data) (n : ℕ) → Extends p before r n [] n
  no_tables before n = record { more = []; ran = ap Ok (sym (append-nil before)); lawful = tt; new = tt; counted = omega arith }

  -- one in a table of its own
  pub stored_gives : (before : Data) (n : ℕ) (m : Made) (s : Structure) (v : Outcome (List Row)) → AreEarlier r n before → n + length (stored r m).tables < 2 ^ 64 → NodeGives p before r n m s v → SourcesGive p before r n (stored r m) (after v (λ points. Ok (with_points s points ∷ [])))
  stored_gives before n m s (Ok d) apart few g =
      let x = g.0 in
      let now = before ++ x.more in
      let name = numbered r m.next in
      let number : m.next < 2 ^ 64 = omega (arith, few, x.counted, length-append m.tables (table_of name m.query ∷ [])) in
      let e = same_ok (query_value (base_of p now) m.query) d g.1.rows in
      let own = run_one p now name m.query s e.0 e.1 g.1.query.columns in
      let back : now ++ (name, held s e.0) ∷ [] ≡ before ++ (x.more ++ (name, held s e.0) ∷ []) = append_assoc before x.more ((name, held s e.0) ∷ []) in
      let free = next_free m.next now number (all_earlier n m.next before x.more (omega (arith, x.counted)) apart x.new) in
      let named = numbered_is_name r m.next word number in
      let last = there_last now (same_text name) name (held s e.0) free (same_itself name) in
      let one : AreLawful p (tables_in now) (table_of name m.query ∷ []) = ((named, g.1.query.printed), (name_free now name free, g.1.query.typed), tt) in
      let more : Extends p before r n (stored r m).tables (stored r m).next = record {
        more = x.more ++ (name, held s e.0) ∷ [];
        ran = run_on p before now m.tables (table_of name m.query ∷ []) x.ran ∙ own ∙ ap Ok back;
        lawful = lawful_on p before now m.tables (table_of name m.query ∷ []) x.ran x.lawful one;
        new = all_append (λ t. IsNumbered r (m.next + 1) t.0) x.more ((name, held s e.0) ∷ []) (numbered_more m.next (m.next + 1) x.more (omega arith) x.new) ((m.next, refl, omega arith), tt);
        counted = omega (arith, x.counted, length-append m.tables (table_of name m.query ∷ []));
      } in
      (more, (record { named = named; rows = e.0; table = subst (λ d. IsTable d name s e.0) back last; same = e.2 }, tt))
  stored_gives before n m s (Err f) apart few g = g (numbered r m.next) (numbered_name r m.next word)

  -- others behind operands
  pub beside_gives : (before : Data) (n : ℕ) (a : Sources) (f : ℕ → Sources) (v w : Outcome (List DataSet)) → SourcesGive p before r n a v
      → ((x : Extends p before r n a.tables a.next) → SourcesGive p (before ++ x.more) r a.next (f a.next) w) → SourcesGive p before r n (and_then a f) (after v (λ ds. after w (λ es. Ok (ds ++ es))))
  beside_gives before n a f (Err e) w g h = run_stops p before a.tables (f a.next).tables (e, r) g
  beside_gives before n a f (Ok ds) w g h = go w (h g.0)
    where
      now : Data
      now = before ++ g.0.more

      go : (u : Outcome (List DataSet)) → SourcesGive p now r a.next (f a.next) u → SourcesGive p before r n (and_then a f) (after u (λ es. Ok (ds ++ es)))
      go (Err e) i = run_on p before now a.tables (f a.next).tables g.0.ran ∙ i
      go (Ok es) i =
          let x = g.0 in
          let y = i.0 in
          let back = append_assoc before x.more y.more in
          let more : Extends p before r n (and_then a f).tables (and_then a f).next = record {
            more = x.more ++ y.more;
            ran = run_on p before now a.tables (f a.next).tables x.ran ∙ y.ran ∙ ap Ok back;
            lawful = lawful_on p before now a.tables (f a.next).tables x.ran x.lawful y.lawful;
            new = all_append (λ t. IsNumbered r (f a.next).next t.0) x.more y.more (numbered_more a.next (f a.next).next x.more (omega (arith, y.counted)) x.new) y.new;
            counted = omega (arith, x.counted, y.counted, length-append a.tables (f a.next).tables);
          } in
          (more, subst (λ d. AreThere d (a.names ++ (f a.next).names) (ds ++ es)) back (there_joined (now ++ y.more) a.names (f a.next).names ds es (there_together now y.more a.names ds g.1) i.1))

  -- ---- a query over operands

  pub over_gives : (before : Data) (n : ℕ) (os : Sources) (q : List Text → QueryTree) (s : Structure) (v : Outcome (List DataSet)) (F : List DataSet → Outcome (List Row)) → SourcesGive p before r n os v
      → ((now : Data) (ds : List DataSet) → v ≡ Ok ds → AreThere now os.names ds → Means p now (q os.names) s (F ds)) → NodeGives p before r n (over os q) s (after v F)
  over_gives before n os q s (Err f) F g h = λ name e. run_stops p before os.tables (table_of name (q os.names) ∷ []) (f, r) g
  over_gives before n os q s (Ok ds) F g h = go (F ds) (h (before ++ g.0.more) ds refl g.1)
    where
      go : (m : Outcome (List Row)) → Means p (before ++ g.0.more) (q os.names) s m → NodeGives p before r n (over os q) s m
      go (Ok d) i = (g.0, i)
      go (Err f) i = λ name e. run_on p before (before ++ g.0.more) os.tables (table_of name (q os.names) ∷ []) g.0.ran ∙ run_fault p (before ++ g.0.more) name (q os.names) s f i ∙ ap (λ x. Err (f, x)) e

  -- the data set that an operand alone gives
  abbrev pub alone : Structure → Outcome (List Row) → Outcome (List DataSet)
  alone a v = after v (λ points. Ok (with_points a points ∷ []))

  abbrev pub together : Outcome (List DataSet) → Outcome (List DataSet) → Outcome (List DataSet)
  together v w = after v (λ ds. after w (λ es. Ok (ds ++ es)))

  pub one_gives : (before : Data) (n : ℕ) (os : Sources) (q : Text → QueryTree) (a s : Structure) (v : Outcome (List Row)) (F : List Row → Outcome (List Row)) → SourcesGive p before r n os (alone a v)
      → ((now : Data) (x : Text) (d : List Row) → v ≡ Ok d → StandsAs now x a d → Means p now (q x) s (F d)) → NodeGives p before r n (over os (with_one q)) s (after v F)
  one_gives before n os q a s (Err f) F g h = over_gives before n os (with_one q) s (Err f) (λ ds. Err f) g (λ now ds e i. cc)
  one_gives before n os q a s (Ok d) F g h = over_gives before n os (with_one q) s (alone a (Ok d)) (λ ds. F d) g (λ now ds e i. let same : with_points a d ∷ [] ≡ ds = cc in only now os.names (subst (AreThere now os.names) (sym same) i))
    where
      only : (now : Data) (names : List Text) → AreThere now names (with_points a d ∷ []) → Means p now (with_one q names) s (F d)
      only now [] i = absurd i
      only now (x ∷ []) i = h now x d refl i.0
      only now (x ∷ y ∷ ys) i = absurd i.1

  pub two_gives : (before : Data) (n : ℕ) (os : Sources) (q : Text → Text → QueryTree) (a b s : Structure) (v w : Outcome (List Row)) (F : List Row → List Row → Outcome (List Row)) → SourcesGive p before r n os (together (alone a v) (alone b w))
      → ((now : Data) (x y : Text) (d e : List Row) → v ≡ Ok d → w ≡ Ok e → StandsAs now x a d → StandsAs now y b e → Means p now (q x y) s (F d e)) → NodeGives p before r n (over os (with_two q)) s (after v (λ d. after w (F d)))
  two_gives before n os q a b s (Err f) w F g h = over_gives before n os (with_two q) s (Err f) (λ ds. Err f) g (λ now ds e i. cc)
  two_gives before n os q a b s (Ok d) (Err f) F g h = over_gives before n os (with_two q) s (Err f) (λ ds. Err f) g (λ now ds e i. cc)
  two_gives before n os q a b s (Ok d) (Ok e) F g h =
      over_gives before n os (with_two q) s (together (alone a (Ok d)) (alone b (Ok e))) (λ ds. F d e) g
      (λ now ds i j. let same : with_points a d ∷ with_points b e ∷ [] ≡ ds = cc in only now os.names (subst (AreThere now os.names) (sym same) j))
    where
      only : (now : Data) (names : List Text) → AreThere now names (with_points a d ∷ with_points b e ∷ []) → Means p now (with_two q names) s (F d e)
      only now [] i = absurd i
      only now (x ∷ []) i = absurd i.1
      only now (x ∷ y ∷ []) i = h now x y d e refl refl i.0 i.1.0
      only now (x ∷ y ∷ z ∷ zs) i = absurd i.1.1

  pub three_gives : (before : Data) (n : ℕ) (os : Sources) (q : Text → Text → Text → QueryTree) (t a b s : Structure) (u v w : Outcome (List Row)) (F : List Row → List Row → List Row → Outcome (List Row)) → SourcesGive p before r n os (together (alone t u) (together (alone a v) (alone b w)))
      → ((now : Data) (x y z : Text) (c d e : List Row) → u ≡ Ok c → v ≡ Ok d → w ≡ Ok e → StandsAs now x t c → StandsAs now y a d → StandsAs now z b e → Means p now (q x y z) s (F c d e)) → NodeGives p before r n (over os (with_three q)) s (after u (λ c. after v (λ d. after w (F c d))))
  three_gives before n os q t a b s (Err f) v w F g h = over_gives before n os (with_three q) s (Err f) (λ ds. Err f) g (λ now ds e i. cc)
  three_gives before n os q t a b s (Ok c) (Err f) w F g h = over_gives before n os (with_three q) s (Err f) (λ ds. Err f) g (λ now ds e i. cc)
  three_gives before n os q t a b s (Ok c) (Ok d) (Err f) F g h = over_gives before n os (with_three q) s (Err f) (λ ds. Err f) g (λ now ds e i. cc)
  three_gives before n os q t a b s (Ok c) (Ok d) (Ok e) F g h =
      over_gives before n os (with_three q) s (together (alone t (Ok c)) (together (alone a (Ok d)) (alone b (Ok e)))) (λ ds. F c d e) g
      (λ now ds i j. let same : with_points t c ∷ with_points a d ∷ with_points b e ∷ [] ≡ ds = cc in only now os.names (subst (AreThere now os.names) (sym same) j))
    where
      only : (now : Data) (names : List Text) → AreThere now names (with_points t c ∷ with_points a d ∷ with_points b e ∷ []) → Means p now (with_three q names) s (F c d e)
      only now [] i = absurd i
      only now (x ∷ []) i = absurd i.1
      only now (x ∷ y ∷ []) i = absurd i.1.1
      only now (x ∷ y ∷ z ∷ []) i = h now x y z c d e refl refl refl i.0 i.1.0 i.1.1.0
      only now (x ∷ y ∷ z ∷ k ∷ ks) i = absurd i.1.1.1
