-- The queries of joins mean them.
use Rattle.std.proofs.Common.{◌≡◌, ◌≤◌, ◌<◌, ◌+◌, ◌^◌, ℕ, true, List, [], ◌∷◌, length, Option, None, Ok, refl, ap, sym, subst, arith, length-append}
use Rattle.std.specs.List.{AllByRecursion}
use Rattle.std.proofs.lemmas.List.{length-map}
use Rattle.vtl_cell.specs.Outcome.{Outcome, after}
use Rattle.vtl_lists.specs.Perm.{Perm}
use Rattle.vtl_lists.proofs.Sorts.{AllByRecursion-map}
use Rattle.vtl_decimal.specs.Settings.{Settings}
use Rattle.vtl_text.specs.Words.{is_word}
use Rattle.vtl_syntax.specs.declared.word_groups.JoinKind.{JoinKind}
use Rattle.vtl_syntax.specs.declared.word_groups.JoinKind.TheVariants as join
use Rattle.vtl_tree.specs.CompExp.{CompExp}
use Rattle.vtl_tree.specs.Environment.{DataSet}
use Rattle.vtl_tree.specs.Structure.{columns_of}
use Rattle.vtl_tree.specs.declared.structure.Structure.{Structure}
use Rattle.vtl_meaning.specs.Joined.{join_of, joined_of, reference_place, structures_of}
use Rattle.vtl_meaning.specs.Made.{IsJoined}
use Rattle.vtl_meaning.proofs.JoinKept.{IsReference, join_with, reference_is}
use Rattle.vtl_meaning.proofs.JoinOrders.{join_order}
use Rattle.vtl_meaning.proofs.JoinParts.{AreSets}
use Rattle.vtl_meaning.proofs.Places.{all_of_map}
use Rattle.sql_tree.specs.Trees.{QueryTree, Text}
use Rattle.sql_tree.specs.declared.word_groups.JoinKind.TheVariants as joining
use Rattle.sql_meaning.specs.Scripts.{Data}
use Rattle.selects_to_sql.specs.Writable.{HaveNames}
use Rattle.selects_to_sql.specs.Means.{AreEarlier, AreThere, Means, NodeGives, SourcesGive}
use Rattle.selects_to_sql.specs.Tables.{Made, Sources, over}
use Rattle.joins_to_sql.specs.FilteredJoins.{filtered_by, filtered_made}
use Rattle.joins_to_sql.specs.JoinTables.{join_made, keys_of}
use Rattle.joins_to_sql.specs.Joins.{cross_query, reference_query, where_of}
use Rattle.selects_to_sql.proofs.Composition.{over_gives}
use Rattle.joins_to_sql.proofs.CrossJoins.{cross_exactly}
use Rattle.selects_to_sql.proofs.Exact.{IsExactly, means_by}
use Rattle.selects_to_sql.proofs.Expressions.{Translates}
use Rattle.joins_to_sql.proofs.FullMeans.{full_gives}
use Rattle.selects_to_sql.proofs.Givens.{AreGiven}
use Rattle.joins_to_sql.proofs.HeldOperands.{AreHeld, turned}
use Rattle.joins_to_sql.proofs.ReferenceJoins.{inner_exactly, left_exactly}
use Rattle.joins_to_sql.proofs.ShownColumns.{where_respects}
use Rattle.selects_to_sql.proofs.Selects.{IsTest}

-- the columns of each operand have names
abbrev pub AllNamed : List DataSet → Type 0
AllNamed ds = AllByRecursion (λ d. HaveNames (columns_of d.structure)) ds

-- a join in one query over the tables of the operands
abbrev pub IsOneQuery : JoinKind → Type 0
IsOneQuery join.Inner = Unit {0}
IsOneQuery join.Left = Unit {0}
IsOneQuery join.Cross = Unit {0}
IsOneQuery join.Full = ⊥

abbrev pub query_of : Settings → JoinKind → List Structure → Structure → List Text → QueryTree
query_of p join.Inner ss s xs = reference_query p joining.Inner (reference_place join.Inner ss) ss s xs
query_of p join.Left ss s xs = reference_query p joining.Left (reference_place join.Left ss) ss s xs
query_of p join.Cross ss s xs = cross_query p ss s xs
query_of p join.Full ss s xs = []

module _ (p : Settings) (law : Translates p) (before : Data) (s : Structure) (given : AreGiven (columns_of s)) (condition : Option CompExp) (asked : IsTest p (columns_of s) condition) where
  -- over data sets in their order
  exactly : (kind : JoinKind) → IsOneQuery kind → (ds : List DataSet) (xs : List Text) → AreHeld before xs ds → AreSets ds → AllNamed ds → 1 + length ds < 2 ^ 64 → IsJoined kind (structures_of ds) s → (r : DataSet) → IsReference kind ds s r
      → IsExactly p before (filtered_by p condition (query_of p kind (structures_of ds) s xs)) s (where_of p condition (joined_of kind r ds))
  exactly join.Inner built ds xs held sets named few i r at =
      inner_exactly p law before ds xs s (reference_place join.Inner (structures_of ds)) r at.there held sets named few given (record { identifiers = at.together.0; measures = i.measures; attributes = i.attributes; among = at.together.1 }) condition asked
  exactly join.Left built ds xs held sets named few i r at =
      left_exactly p law before ds xs s (reference_place join.Left (structures_of ds)) r at.there held sets named few given (record { identifiers = at.together.0; measures = i.measures; attributes = i.attributes; among = at.together.1 }) condition asked
  exactly join.Cross built [] xs held sets named few i r at = let there = at.there in cc
  exactly join.Cross built (d ∷ ds) [] held sets named few i r at = absurd held
  exactly join.Cross built (d ∷ ds) (x ∷ xs) held sets named few i r at = cross_exactly p law before d ds x xs s held sets named (omega (arith, few)) given at.together i.measures i.attributes condition asked
  exactly join.Full built ds xs held sets named few i r at = absurd built

  pub join_means : (kind : JoinKind) → IsOneQuery kind → (ds : List DataSet) (xs : List Text) → AreThere before xs ds → AreSets ds → AllNamed ds → 1 + length ds < 2 ^ 64 → IsJoined kind (structures_of ds) s
      → Means p before (filtered_by p condition (query_of p kind (structures_of ds) s xs)) s (where_of p condition (join_of kind ds))
  join_means kind built ds xs there sets named few i =
      let it = turned before xs ds there sets in
      let es = it.0 in
      let same = it.1.structures in
      let own : IsJoined kind (structures_of es) s = subst (λ ss. IsJoined kind ss s) (sym same) i in
      let r = reference_is kind es s own it.1.sets in
      let names : AllNamed es = all_of_map (λ d. d.structure) (λ a. HaveNames (columns_of a)) es (subst (AllByRecursion (λ a. HaveNames (columns_of a))) (sym same) (AllByRecursion-map (λ d. d.structure) (λ a. HaveNames (columns_of a)) ds named)) in
      let size = length-map es (λ d. d.structure) in
      let ours = length-map ds (λ d. d.structure) in
      let many = ap length same in
      means_by p before (filtered_by p condition (query_of p kind (structures_of ds) s xs)) s (where_of p condition (joined_of kind r.0 es)) (where_of p condition (join_of kind ds))
      (where_respects p condition (joined_of kind r.0 es) (join_of kind ds) (subst (λ l. Perm l (join_of kind ds)) (join_with kind es r.0 r.1.there) (join_order kind es ds it.1.same it.1.sets s own)))
      (subst (λ ss. IsExactly p before (filtered_by p condition (query_of p kind ss s xs)) s (where_of p condition (joined_of kind r.0 es))) same (exactly kind built es xs it.1.held it.1.sets names (omega (arith, few, size, ours, many)) own r.0 r.1))

-- ---- the tables of a join

module _ (p : Settings) (law : Translates p) (r : Text) (word : is_word r ≡ true) (s : Structure) (given : AreGiven (columns_of s)) (condition : Option CompExp) (asked : IsTest p (columns_of s) condition) (ss : List Structure) (named : AllByRecursion (λ a. HaveNames (columns_of a)) ss) (few : 1 + length ss < 2 ^ 64) where
  -- what holds of the structures holds of data sets of them
  abbrev are_named : (ds : List DataSet) → structures_of ds ≡ ss → AllNamed ds
  are_named ds e = all_of_map (λ d. d.structure) (λ a. HaveNames (columns_of a)) ds (subst (AllByRecursion (λ a. HaveNames (columns_of a))) (sym e) named)

  few_sets : (ds : List DataSet) → structures_of ds ≡ ss → 1 + length ds < 2 ^ 64
  few_sets ds e =
      let size = length-map ds (λ d. d.structure) in
      let many = ap length e in
      omega (arith, few, size, many)

  over_operands : (kind : JoinKind) → IsOneQuery kind → IsJoined kind ss s → (before : Data) (n : ℕ) (os : Sources) (v : Outcome (List DataSet)) → ((ds : List DataSet) → v ≡ Ok ds → (structures_of ds ≡ ss) × AreSets ds) → SourcesGive p before r n os v
      → NodeGives p before r n (over os (λ xs. filtered_by p condition (query_of p kind ss s xs))) s (after v (λ ds. where_of p condition (join_of kind ds)))
  over_operands kind built i before n os v sets g =
      over_gives p r word before n os (λ xs. filtered_by p condition (query_of p kind ss s xs)) s v (λ ds. where_of p condition (join_of kind ds)) g
      (λ now ds e there.
      let are = sets ds e in
      subst (λ l. Means p now (filtered_by p condition (query_of p kind l s os.names)) s (where_of p condition (join_of kind ds))) are.0
      (join_means p law now s given condition asked kind built ds os.names there are.1 (are_named ds are.0) (few_sets ds are.0) (subst (λ l. IsJoined kind l s) (sym are.0) i)))

  -- the points of a join, or those that its filter leaves
  pub filtered_gives : (kind : JoinKind) → IsJoined kind ss s → (before : Data) (n : ℕ) (os : Sources) (v : Outcome (List DataSet)) → ((ds : List DataSet) → v ≡ Ok ds → (structures_of ds ≡ ss) × AreSets ds) → AreEarlier r n before → n + length (join_made p r kind ss s os).tables < 2 ^ 64 → SourcesGive p before r n os v
      → NodeGives p before r n (filtered_made p condition (join_made p r kind ss s os)) s (after v (λ ds. where_of p condition (join_of kind ds)))
  filtered_gives join.Inner i before n os v sets apart most g = over_operands join.Inner tt i before n os v sets g
  filtered_gives join.Left i before n os v sets apart most g = over_operands join.Left tt i before n os v sets g
  filtered_gives join.Cross i before n os v sets apart most g = over_operands join.Cross tt i before n os v sets g
  filtered_gives join.Full i before n os v sets apart most g = full_gives p law s given ss named few i r word condition asked before n os v sets apart most g

-- the tables and the query of a join without a filter
no_filter : (p : Settings) (m : Made) → filtered_made p None m ≡ m
no_filter p m = refl

pub join_gives : (p : Settings) (law : Translates p) (r : Text) (word : is_word r ≡ true) (s : Structure) (given : AreGiven (columns_of s)) (ss : List Structure) (named : AllByRecursion (λ a. HaveNames (columns_of a)) ss) (few : 1 + length ss < 2 ^ 64)
    → (kind : JoinKind) → IsJoined kind ss s → (before : Data) (n : ℕ) (os : Sources) (v : Outcome (List DataSet)) → ((ds : List DataSet) → v ≡ Ok ds → (structures_of ds ≡ ss) × AreSets ds) → AreEarlier r n before → n + length (join_made p r kind ss s os).tables < 2 ^ 64 → SourcesGive p before r n os v
    → NodeGives p before r n (join_made p r kind ss s os) s (after v (λ ds. Ok (join_of kind ds)))
join_gives p law r word s given ss named few kind i before n os v sets apart most g =
    subst (λ m. NodeGives p before r n m s (after v (λ ds. Ok (join_of kind ds)))) (no_filter p (join_made p r kind ss s os)) (filtered_gives p law r word s given None tt ss named few kind i before n os v sets apart most g)

-- the tables of the operands stand before its own
pub operands_first : (p : Settings) (r : Text) (kind : JoinKind) (ss : List Structure) (s : Structure) (os : Sources) → length os.tables ≤ length (join_made p r kind ss s os).tables
operands_first p r join.Inner ss s os = omega arith
operands_first p r join.Left ss s os = omega arith
operands_first p r join.Cross ss s os = omega arith
operands_first p r join.Full [] s os = omega arith
operands_first p r join.Full (a ∷ ss) s os = omega (arith, length-append os.tables (keys_of p r a (a ∷ ss) os.names os.next).tables)
