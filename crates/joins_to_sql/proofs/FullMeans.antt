-- The tables of a full join mean it.
use Rattle.std.proofs.Common.{◌≡◌, ◌<◌, ◌+◌, ◌^◌, ℕ, true, List, [], ◌∷◌, ◌++◌, length, map, Option, Result, Ok, Err, refl, ap, sym, ◌∙◌, subst, arith, append-nil, length-append}
use Rattle.std.specs.List.{AllByRecursion, flat_map}
use Rattle.std.proofs.lemmas.List.{length-map}
use Rattle.vtl_cell.specs.Outcome.{Outcome, after}
use Rattle.vtl_lists.specs.Perm.{Perm, chain}
use Rattle.vtl_cell.specs.Row.{Row, same_row}
use Rattle.vtl_decimal.specs.Settings.{Settings}
use Rattle.vtl_text.specs.Words.{is_word}
use Rattle.vtl_lists.proofs.Perms.{AllByRecursion-Perm, Perm-map, Perm-same, Perm-sym}
use Rattle.vtl_lists.proofs.Alls.{all_append, all_more}
use Rattle.vtl_lists.proofs.Sorts.{AllByRecursion-map}
use Rattle.vtl_syntax.specs.declared.word_groups.JoinKind.TheVariants as join
use Rattle.vtl_rows.specs.Tables.{cells_at}
use Rattle.vtl_tree.specs.CompExp.{CompExp}
use Rattle.vtl_tree.specs.DataSet.{is_point}
use Rattle.vtl_tree.specs.Environment.{DataSet}
use Rattle.vtl_tree.specs.Structure.{IsStructure, columns_of}
use Rattle.vtl_tree.specs.declared.structure.Component.{Component}
use Rattle.vtl_tree.specs.declared.structure.Structure.{Structure}
use Rattle.vtl_tuples.specs.Keys.{each_once}
use Rattle.vtl_tuples.proofs.Lists.{map-map}
use Rattle.vtl_meaning.specs.Agreement.{values_in}
use Rattle.vtl_tree.specs.Columns.{identifiers_of, measures_of, places_in}
use Rattle.vtl_meaning.specs.Joined.{all_keys, join_of, keys_in, structures_of, tuple_at, tuple_point}
use Rattle.vtl_meaning.specs.Made.{GoTogether, HasIdentifiers, IsJoined, attributes_of, kinds_of_all}
use Rattle.vtl_meaning.specs.Orders.{SameOperands}
use Rattle.vtl_meaning.specs.Points.{with_points}
use Rattle.vtl_tuples.proofs.Onces.{once_hold}
use Rattle.vtl_meaning.proofs.JoinKept.{HaveThem, all_keys_are, have_them, key_is}
use Rattle.vtl_meaning.proofs.JoinOrders.{join_order, once_respects, rows_apart, keys_respect}
use Rattle.vtl_meaning.proofs.JoinParts.{AreSets}
use Rattle.vtl_meaning.proofs.Places.{all_of_map, are_identifiers}
use Rattle.sql_tree.specs.Trees.{QueryTree, Text}
use Rattle.sql_meaning.specs.Scripts.{Data, NamedFault}
use Rattle.selects_to_sql.specs.Writable.{HaveNames}
use Rattle.joins_to_sql.specs.FilteredJoins.{filtered_by, filtered_made}
use Rattle.joins_to_sql.specs.FullJoins.{full_query, key_structure, keys_query, once_query, or_spare}
use Rattle.selects_to_sql.specs.Means.{AreEarlier, AreThere, Means, NodeGives, SourcesGive, StandsAs}
use Rattle.selects_to_sql.specs.Runs.{held, run}
use Rattle.selects_to_sql.specs.Tables.{Sources, and_then, by_names, numbered, over, stored, table_of, with_last, with_one}
use Rattle.joins_to_sql.specs.JoinTables.{full_made, keys_of}
use Rattle.joins_to_sql.specs.Joins.{where_of}
use Rattle.selects_to_sql.proofs.Composition.{all_earlier, beside_gives, no_tables, one_gives, over_gives, stored_gives}
use Rattle.selects_to_sql.proofs.Exact.{IsExactly, means_by}
use Rattle.selects_to_sql.proofs.Expressions.{Translates}
use Rattle.joins_to_sql.proofs.FullJoins.{HaveSame, full_exactly, full_turned}
use Rattle.selects_to_sql.proofs.Givens.{AreGiven}
use Rattle.joins_to_sql.proofs.HeldOperands.{AreHeld, IsHeld, turned}
use Rattle.joins_to_sql.proofs.KeyColumns.{key_columns, key_given, key_is_structure, keyed, keyed_point, once_keyed}
use Rattle.joins_to_sql.proofs.KeyTables.{keys_exactly}
use Rattle.joins_to_sql.proofs.OnceRows.{once_exactly}
use Rattle.joins_to_sql.proofs.ShownColumns.{where_respects}
use Rattle.selects_to_sql.proofs.Running.{columns_there, run_stops}
use Rattle.selects_to_sql.proofs.Selects.{IsTest}

-- ---- the last name

pub last_is : (q : List Text → Text → QueryTree) (xs : List Text) (y : Text) → with_last q (xs ++ y ∷ []) ≡ q xs y
last_is q [] y = refl
last_is q (x ∷ []) y = refl
last_is q (x ∷ z ∷ xs) y = last_is (λ zs u. q (x ∷ zs) u) (z ∷ xs) y

there_parts : (now : Data) (xs : List Text) (y : Text) (ds : List DataSet) (d : DataSet) (one : Data) → AreThere one xs ds → AreThere now (xs ++ y ∷ []) (ds ++ d ∷ []) → AreThere now xs ds × StandsAs now y d.structure d.points
there_parts now [] y [] d one h i = (tt, i.0)
there_parts now [] y (e ∷ ds) d one h i = absurd h
there_parts now (x ∷ xs) y [] d one h i = absurd h
there_parts now (x ∷ xs) y (e ∷ ds) d one h i = let rest = there_parts now xs y ds d one h.1 i.1 in ((i.0, rest.0), rest.1)

-- a run has one end
one_end : (m : Result Data NamedFault) (d e : Data) → m ≡ Ok d → m ≡ Ok e → d ≡ e
one_end m d e h i = cc

-- others behind operands that are there
pub beside_there : (p : Settings) (r : Text) → is_word r ≡ true → (before : Data) (n : ℕ) (a : Sources) (f : ℕ → Sources) (ds : List DataSet) (w : Outcome (List DataSet)) → AreEarlier r n before → SourcesGive p before r n a (Ok ds)
    → ((more : Data) → AreThere (before ++ more) a.names ds → AreEarlier r a.next (before ++ more) → a.next ≡ n + length a.tables → SourcesGive p (before ++ more) r a.next (f a.next) w) → SourcesGive p before r n (and_then a f) (after w (λ es. Ok (ds ++ es)))
beside_there p r word before n a f ds w apart g h =
    let x = g.0 in
    let now = before ++ x.more in
    let counted = x.counted in
    let given = h x.more g.1 (all_earlier p r word n a.next before x.more (omega (arith, counted)) apart x.new) x.counted in
    beside_gives p r word before n a f (Ok ds) w g
    (λ z. let same : now ≡ before ++ z.more = one_end (run p before a.tables) now (before ++ z.more) x.ran z.ran in subst (λ d. SourcesGive p d r a.next (f a.next) w) same given)

-- ---- tuples of identifiers

tuples_typed : (a : Structure) (ds : List DataSet) → AreSets ds → HaveThem (identifiers_of a) ds → AllByRecursion (λ k. is_point (identifiers_of a) k ≡ true) (flat_map (keys_in (identifiers_of a)) ds)
tuples_typed a [] all them = tt
tuples_typed a (d ∷ ds) all them =
    let ids = identifiers_of a in
    all_append (λ k. is_point ids k ≡ true) (keys_in ids d) (flat_map (keys_in ids) ds)
    (AllByRecursion-map (values_in d.structure ids) (λ k. is_point ids k ≡ true) d.points (all_more (λ q. is_point (columns_of d.structure) q ≡ true) (λ q. is_point ids (values_in d.structure ids q) ≡ true) (λ q h. key_is ids d.structure q (are_identifiers a) them.0 h) d.points all.0.typed))
    (tuples_typed a ds all.1 them.1)

-- ---- the tables of identifiers, whatever operands they are of

pub once_means : (p : Settings) → Translates p → (t : Structure) → IsStructure t → AreGiven (columns_of t) → (keys : List Row) → AllByRecursion (λ q. is_point (columns_of t) q ≡ true) keys → (now : Data) (x : Text) → StandsAs now x t keys
    → Means p now (once_query p t x) t (Ok (each_once same_row keys))
once_means p law t w given keys typed now x st =
    means_by p now (once_query p t x) t (Ok (each_once same_row st.rows)) (Ok (each_once same_row keys)) (once_respects same_row rows_apart st.same)
    (once_exactly p law now x t st.rows st.table st.named w given (AllByRecursion-Perm (λ q. is_point (columns_of t) q ≡ true) (Perm-sym st.same) typed))

module _ (p : Settings) (r : Text) (word : is_word r ≡ true) (a : Structure) (ss : List Structure) (keys : List Row) (ds : List DataSet) where
  abbrev own : Structure
  own = key_structure a

  -- where the queries mean these rows, and each of them once
  pub keys_stand : ((now : Data) (xs : List Text) → AreThere now xs ds → Means p now (keys_query p a ss xs) own (Ok keys)) → ((now : Data) (x : Text) → StandsAs now x own keys → Means p now (once_query p own x) own (Ok (each_once same_row keys)))
      → (now : Data) (xs : List Text) (n : ℕ) → AreThere now xs ds → AreEarlier r n now → n + 2 < 2 ^ 64 → SourcesGive p now r n (keys_of p r a ss xs n) (Ok (with_points own (each_once same_row keys) ∷ []))
  keys_stand all_mean once_mean now xs n there apart few =
      let back : now ++ [] ≡ now = append-nil now in
      let one = over (by_names xs n) (keys_query p a ss) in
      let first : SourcesGive p now r n (by_names xs n) (Ok ds) = (no_tables p r word now n, subst (λ d. AreThere d xs ds) (sym back) there) in
      let all : NodeGives p now r n one own (Ok keys) = over_gives p r word now n (by_names xs n) (keys_query p a ss) own (Ok ds) (λ l. Ok keys) first (λ later l e h. let same : ds ≡ l = cc in all_mean later xs (subst (AreThere later xs) (sym same) h)) in
      let kept : SourcesGive p now r n (stored r one) (Ok (with_points own keys ∷ [])) = stored_gives p r word now n one own (Ok keys) apart (omega (arith, few)) all in
      let two = over (stored r one) (with_one (once_query p own)) in
      let once : NodeGives p now r n two own (Ok (each_once same_row keys)) =
      one_gives p r word now n (stored r one) (once_query p own) own own (Ok keys) (λ d. Ok (each_once same_row d)) kept
      (λ later x d e st. let same : keys ≡ d = cc in subst (λ l. Means p later (once_query p own x) own (Ok (each_once same_row l))) same (once_mean later x (subst (StandsAs later x own) (sym same) st))) in
      stored_gives p r word now n two own (Ok (each_once same_row keys)) apart (omega (arith, few)) once

module _ (p : Settings) (law : Translates p) (s : Structure) (given : AreGiven (columns_of s)) (a : Structure) (others : List Structure) (named : AllByRecursion (λ b. HaveNames (columns_of b)) (a ∷ others)) (few : 1 + length (a ∷ others) < 2 ^ 64) (i : IsJoined join.Full (a ∷ others) s) (ds : List DataSet) (sets : AreSets ds) (are : structures_of ds ≡ a ∷ others) where
  abbrev ss : List Structure
  ss = a ∷ others

  abbrev ids : List Component
  ids = identifiers_of a

  abbrev t : Structure
  t = key_structure a

  together : HasIdentifiers s ids × HaveSame ids ss
  together =
      let there = i.there in
      let same : i.reference ≡ a = cc in
      subst (λ b. GoTogether join.Full b ss s) same i.identifiers

  -- what the first operand's structure is
  first_well : (es : List DataSet) → structures_of es ≡ ss → AreSets es → IsStructure a
  first_well [] e all = cc
  first_well (d ∷ es) e all = let same : d.structure ≡ a = cc in subst IsStructure same all.0.well_formed

  well : IsStructure a
  well = first_well ds are sets

  own_given : AreGiven (columns_of t)
  own_given = key_given a s well named.0 together.0 given

  all_named : (es : List DataSet) → structures_of es ≡ ss → AllByRecursion (λ d. HaveNames (columns_of d.structure)) es
  all_named es e = all_of_map (λ d. d.structure) (λ b. HaveNames (columns_of b)) es (subst (AllByRecursion (λ b. HaveNames (columns_of b))) (sym e) named)

  few_sets : (es : List DataSet) → structures_of es ≡ ss → 1 + length es < 2 ^ 64
  few_sets es e =
      let size = length-map es (λ d. d.structure) in
      let many = ap length e in
      omega (arith, few, size, many)

  same_in : (es : List DataSet) → structures_of es ≡ ss → HaveSame ids (structures_of es)
  same_in es e = subst (HaveSame ids) (sym e) together.1

  -- ---- the identifiers of all operands

  abbrev pub tuples : List Row
  tuples = flat_map (keys_in ids) ds

  abbrev pub keys : List Row
  keys = map (keyed ids) tuples

  tuples_are : AllByRecursion (λ k. is_point ids k ≡ true) (all_keys ids ds)
  tuples_are = all_keys_are a ds sets (have_them a ds (same_in ds are))

  pub keys_mean : (now : Data) (xs : List Text) → AreThere now xs ds → Means p now (keys_query p a ss xs) t (Ok keys)
  keys_mean now xs there =
      let it = turned now xs ds there sets in
      go it.0 it.1.held it.1.same it.1.sets (it.1.structures ∙ are)
    where
      go : (es : List DataSet) → AreHeld now xs es → SameOperands es ds → AreSets es → structures_of es ≡ ss → Means p now (keys_query p a ss xs) t (Ok keys)
      go [] h same all e = cc
      go (d ∷ es) h same all e =
          means_by p now (keys_query p a ss xs) t (Ok (map (keyed ids) (flat_map (keys_in ids) (d ∷ es)))) (Ok keys) (Perm-map (keyed ids) (keys_respect ids (d ∷ es) ds same))
          (subst (λ l. IsExactly p now (keys_query p a l xs) t (Ok (map (keyed ids) (flat_map (keys_in ids) (d ∷ es))))) e
          (keys_exactly p law now a own_given d es xs h all (all_named (d ∷ es) e) (have_them a (d ∷ es) (same_in (d ∷ es) e))))

  -- ---- each once

  keys_typed : AllByRecursion (λ q. is_point (columns_of t) q ≡ true) keys
  keys_typed =
      subst (λ ys. AllByRecursion (λ q. is_point ys q ≡ true) keys) (sym (key_columns ids (are_identifiers a)))
      (AllByRecursion-map (keyed ids) (λ q. is_point (or_spare ids) q ≡ true) tuples (all_more (λ k. is_point ids k ≡ true) (λ k. is_point (or_spare ids) (keyed ids k) ≡ true) (λ k h. keyed_point ids k h) tuples (tuples_typed a ds sets (have_them a ds (same_in ds are)))))

  once_typed : AllByRecursion (λ q. is_point (columns_of t) q ≡ true) (each_once same_row keys)
  once_typed = once_hold (λ q. is_point (columns_of t) q ≡ true) same_row keys keys_typed

  pub once_mean : (now : Data) (x : Text) → StandsAs now x t keys → Means p now (once_query p t x) t (Ok (each_once same_row keys))
  once_mean now x st = once_means p law t (key_is_structure a well) own_given keys keys_typed now x st

  -- ---- the operands beside them

  pub full_mean : (now : Data) (xs : List Text) (y : Text) → AreThere now xs ds → StandsAs now y t (each_once same_row keys) → (condition : Option CompExp) → IsTest p (columns_of s) condition → Means p now (filtered_by p condition (full_query p a ss s xs y)) s (where_of p condition (join_of join.Full ds))
  full_mean now xs y there st condition asked =
      let it = turned now xs ds there sets in
      go it.0 it.1.held it.1.same it.1.sets (it.1.structures ∙ are)
    where
      go : (es : List DataSet) → AreHeld now xs es → SameOperands es ds → AreSets es → structures_of es ≡ ss → Means p now (filtered_by p condition (full_query p a ss s xs y)) s (where_of p condition (join_of join.Full ds))
      go [] h same all e = cc
      go (d ∷ rest) h same all e =
          let es = d ∷ rest in
          let first : d.structure ≡ a = cc in
          let rows = st.rows in
          let typed = AllByRecursion-Perm (λ q. is_point (columns_of t) q ≡ true) (Perm-sym st.same) once_typed in
          let here : IsHeld now y (with_points t rows) = record { word = st.named; table = st.table; known = columns_there now y (held t rows) st.table } in
          let measures = i.measures ∙ ap (kinds_of_all measures_of) (sym e) in
          let attributes = i.attributes ∙ ap (kinds_of_all attributes_of) (sym e) in
          let point : Row → Row = λ k. tuple_point (tuple_at ids es k) in
          let row : Row → Row = λ q. point (cells_at (places_in (columns_of t) ids) q) in
          let exact = full_exactly p law now a well rows y here own_given typed es xs s h all (all_named es e) (few_sets es e) given together.0 (same_in es e) measures attributes condition asked in
          let by_keys = full_turned p law now a well rows y here own_given typed es xs s h all (all_named es e) (few_sets es e) given together.0 (same_in es e) measures attributes (all_keys ids ds) tuples_are (chain st.same (Perm-same (each_once same_row keys) (map (keyed ids) (all_keys ids ds)) (once_keyed ids tuples))) in
          let reordered : Perm (map point (all_keys ids ds)) (map point (all_keys ids es)) = Perm-map point (Perm-sym (once_respects same_row rows_apart (keys_respect ids es ds same))) in
          let joined : map point (all_keys ids es) ≡ join_of join.Full es = sym (map-map tuple_point (tuple_at ids es) (all_keys ids es)) ∙ ap (λ b. map tuple_point (map (tuple_at (identifiers_of b) es) (all_keys (identifiers_of b) es))) (sym first) in
          means_by p now (filtered_by p condition (full_query p a ss s xs y)) s (where_of p condition (map row rows)) (where_of p condition (join_of join.Full ds))
          (where_respects p condition (map row rows) (join_of join.Full ds) (chain by_keys (chain reordered (chain (Perm-same (map point (all_keys ids es)) (join_of join.Full es) joined) (join_order join.Full es ds same all s (subst (λ l. IsJoined join.Full l s) (sym e) i))))))
          (subst (λ l. IsExactly p now (filtered_by p condition (full_query p a l s xs y)) s (where_of p condition (map row rows))) e exact)

  -- ---- the tables

  module _ (r : Text) (word : is_word r ≡ true) (condition : Option CompExp) (asked : IsTest p (columns_of s) condition) where
    -- of the identifiers
    keys_give : (now : Data) (xs : List Text) (n : ℕ) → AreThere now xs ds → AreEarlier r n now → n + 2 < 2 ^ 64 → SourcesGive p now r n (keys_of p r a ss xs n) (Ok (with_points t (each_once same_row keys) ∷ []))
    keys_give = keys_stand p r word a ss keys ds keys_mean once_mean

    pub full_there : (before : Data) (n : ℕ) (os : Sources) → AreEarlier r n before → n + length (full_made p r ss s os).tables < 2 ^ 64 → SourcesGive p before r n os (Ok ds) → NodeGives p before r n (filtered_made p condition (full_made p r ss s os)) s (where_of p condition (join_of join.Full ds))
    full_there before n os apart few g =
        let next : ℕ → Sources = keys_of p r a ss os.names in
        let key : DataSet = with_points t (each_once same_row keys) in
        let size = length-append os.tables (next os.next).tables in
        let two : length (next os.next).tables ≡ 2 = refl in
        let both : SourcesGive p before r n (and_then os next) (Ok (ds ++ key ∷ [])) =
        beside_there p r word before n os next ds (Ok (key ∷ [])) apart g (λ more there earlier counted. keys_give (before ++ more) os.names os.next there earlier (omega (arith, few, counted, size, two))) in
        over_gives p r word before n (and_then os next) (λ xs. filtered_by p condition (with_last (full_query p a ss s) xs)) s (Ok (ds ++ key ∷ [])) (λ l. where_of p condition (join_of join.Full ds)) both
        (λ later l e h.
        let same : ds ++ key ∷ [] ≡ l = cc in
        let y = numbered r (over (stored r (over (by_names os.names os.next) (keys_query p a ss))) (with_one (once_query p t))).next in
        let parts = there_parts later os.names y ds key (before ++ g.0.more) g.1 (subst (AreThere later (os.names ++ y ∷ [])) (sym same) h) in
        subst (λ q. Means p later (filtered_by p condition q) s (where_of p condition (join_of join.Full ds))) (sym (last_is (full_query p a ss s) os.names y)) (full_mean later os.names y parts.0 parts.1 condition asked))

-- ---- where an operand has a fault, too

pub full_gives : (p : Settings) → Translates p → (s : Structure) → AreGiven (columns_of s) → (ss : List Structure) → AllByRecursion (λ b. HaveNames (columns_of b)) ss → 1 + length ss < 2 ^ 64 → IsJoined join.Full ss s → (r : Text) → is_word r ≡ true → (condition : Option CompExp) → IsTest p (columns_of s) condition → (before : Data) (n : ℕ) (os : Sources) (v : Outcome (List DataSet))
    → ((ds : List DataSet) → v ≡ Ok ds → (structures_of ds ≡ ss) × AreSets ds) → AreEarlier r n before → n + length (full_made p r ss s os).tables < 2 ^ 64 → SourcesGive p before r n os v → NodeGives p before r n (filtered_made p condition (full_made p r ss s os)) s (after v (λ ds. where_of p condition (join_of join.Full ds)))
full_gives p law s given [] named few i r word condition asked before n os v sets apart most g = let there = i.there in cc
full_gives p law s given (a ∷ others) named few i r word condition asked before n os (Ok ds) sets apart most g =
    let are = sets ds refl in
    full_there p law s given a others named few i ds are.1 are.0 r word condition asked before n os apart most g
full_gives p law s given (a ∷ others) named few i r word condition asked before n os (Err f) sets apart most g =
    let next = keys_of p r a (a ∷ others) os.names os.next in
    let made = filtered_made p condition (full_made p r (a ∷ others) s os) in
    λ name e. run_stops p before made.tables (table_of name made.query ∷ []) (f, r) (run_stops p before os.tables next.tables (f, r) g)
