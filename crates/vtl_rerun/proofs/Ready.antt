-- A part is ready where the results before it are held, and its run tells what its statement gives.
use Rattle.std.proofs.Common.{◌≡◌, ℕ, zero, suc, Bool, true, false, cond, ◌||◌, List, [], ◌∷◌, ◌++◌, map, length, take, slice_get, eqb, Option, None, Some, is_some, Result, Ok, Err, refl, sym, ap, ◌∙◌, subst, append_assoc, append-nil}
use Rattle.std.specs.List.{AllByRecursion, list_any}
use Rattle.std.specs.Map.{keys_of, lookup}
use Rattle.std.specs.Option.{option_map_or}
use Rattle.std.specs.Cmp.Lexicographic.{bytes_decides}
use Rattle.std.proofs.lemmas.Map.Keys.{any_passes_from_place}
use Rattle.vtl_cell.specs.Outcome.{Outcome}
use Rattle.vtl_decimal.specs.declared.number.Fault.{Fault}
use Rattle.vtl_decimal.specs.declared.number.Fault.TheVariants.{DivZero, Range}
use Rattle.vtl_lists.specs.Perm.{chain}
use Rattle.vtl_lists.proofs.Perms.{Perm-sym}
use Rattle.vtl_rows.specs.Named.{NamedTables, table_of}
use Rattle.vtl_rows.specs.Tables.{Listed}
use Rattle.vtl_scalar.specs.declared.run_error.RunErr.{RunErr}
use Rattle.vtl_scalar.specs.declared.run_error.RunErr.TheVariants as err
use Rattle.vtl_tree.specs.DataSet.{IsDataSet}
use Rattle.vtl_tree.specs.Environment.{DataSet, Environment, data_of, known_in}
use Rattle.vtl_tree.specs.Structure.{same_name}
use Rattle.vtl_tree.specs.Structures.{AreStructures, Named}
use Rattle.vtl_tree.specs.Trees.{NodeTree}
use Rattle.vtl_sets.specs.TableOf.{IsTableOf}
use Rattle.vtl_meaning.specs.Profiles.{AllAreOfProfile}
use Rattle.vtl_scripts.specs.Meaning.{AreDataSets, Outputs, Statement, data_set_of, stated}
use Rattle.vtl_scripts.specs.Orders.{SameMeaning}
use Rattle.vtl_check.specs.Checked.{IsTyped, TypedScript, nodes_of, tree_of}
use Rattle.vtl_check.specs.Names.{names_in}
use Rattle.vtl_check.specs.Transformations.{Transformation, transformations}
use Rattle.check_laws.specs.Scripts.{AreKnownAlike, AreReadFrom}
use Rattle.vtl_backend.specs.Inputs.{AreInRange, AreInputs, Holds, environment_of, input_of, inputs_of}
use Rattle.vtl_backend.specs.Runs.{script_meaning}
use Rattle.vtl_backend.specs.Statements.{statements_of, with_nodes}
use Rattle.rerun_laws.specs.Given.{AreGiven, IsShown}
use Rattle.rerun_laws.specs.Parts.{IsPart, is_transformation}
use Rattle.rerun_laws.specs.Refreshes.{numbers_of}
use Rattle.rerun_laws.specs.Values.{alone, behind, values}
use Rattle.vtl_rerun.specs.Operands.{given_all, operand_of, places_from}
use Rattle.vtl_rerun.specs.Sessions.{AreEach, AreHeld, IsPartOf, IsRunning}
use Rattle.vtl_rerun.specs.Told.{GivesOne, HasOneOutput, Tells}
use Rattle.vtl_rerun.specs.declared.part.Part.{Part}
use Rattle.check_laws.proofs.Scripts.{script-reads}
use Rattle.rerun_laws.proofs.DataSets.{data_behind, first_made}
use Rattle.rerun_laws.proofs.Given.{part_meant, range_given, tables_given}
use Rattle.rerun_laws.proofs.InputsRead.{known_inputs}
use Rattle.rerun_laws.proofs.Places.{part_known, part_statements, statements_made}
use Rattle.vtl_rerun.proofs.Meanings.{value_at}
use Rattle.vtl_rerun.proofs.Names.{script_new}
use Rattle.vtl_rerun.proofs.Numbers.{itself}
use Rattle.vtl_rerun.proofs.Sources.{shown_at, shown_given}

-- ---- lists of names
each_of : (P : List ℕ → Type 0) (xs : List (List ℕ)) → ((q : List ℕ) → list_any (same_name q) xs ≡ true → P q) → AllByRecursion P xs
each_of P [] f = tt
each_of P (x ∷ xs) f = (f x (ap (λ b. b || list_any (same_name x) xs) ((bytes_decides x x).1 refl)), each_of P xs (λ q h. f q (ap (λ b. same_name q x || b) h ∙ or_true (same_name q x))))
  where
    or_true : (b : Bool) → (b || true) ≡ true
    or_true true = refl
    or_true false = refl

of_each : (P : List ℕ → Type 0) (xs : List (List ℕ)) (q : List ℕ) → AllByRecursion P xs → list_any (same_name q) xs ≡ true → P q
of_each P [] q h k = cc
of_each P (x ∷ xs) q h k = go (of_each P xs q h.1) (same_name q x) refl k
  where
    go : (list_any (same_name q) xs ≡ true → P q) → (b : Bool) → same_name q x ≡ b → (b || list_any (same_name q) xs) ≡ true → P q
    go ih true d k = subst P (sym ((bytes_decides q x).0 d)) h.0
    go ih false d k = ih k

there : (q : List ℕ) (es : Named) → list_any (same_name q) (keys_of es) ≡ true → is_some (lookup (same_name q) es) ≡ true
there q [] h = cc
there q (e ∷ es) h = go (there q es) (same_name q e.0) h
  where
    go : (list_any (same_name q) (keys_of es) ≡ true → is_some (lookup (same_name q) es) ≡ true) → (b : Bool) → (b || list_any (same_name q) (keys_of es)) ≡ true → is_some (cond b (Some e.1) (lookup (same_name q) es)) ≡ true
    go ih true h = refl
    go ih false h = ih h

-- ---- the part at a place
pub each_at : (i : ℕ) (names : List (List ℕ)) (ks : List ℕ) (ss : List Statement) (xs : List Part) (x : Part) → AreEach names ks ss xs → slice_get xs i ≡ Some x
    → (k : ℕ) × (s : Statement) × (slice_get ks i ≡ Some k) × (slice_get ss i ≡ Some s) × IsPartOf (names ++ map (λ s. s.result) (take i ss)) k s x
each_at i names ks ss [] x each e = cc
each_at i names [] [] (y ∷ xs) x each e = absurd each
each_at i names [] (s ∷ ss) (y ∷ xs) x each e = absurd each
each_at i names (k ∷ ks) [] (y ∷ xs) x each e = absurd each
each_at zero names (k ∷ ks) (s ∷ ss) (y ∷ xs) x each e = let q : y ≡ x = cc in (k, s, refl, refl, subst (λ l. IsPartOf l k s x) (sym (append-nil names)) (subst (IsPartOf names k s) q each.0))
each_at (suc i) names (k ∷ ks) (s ∷ ss) (y ∷ xs) x each e =
    let r = each_at i (names ++ s.result ∷ []) ks ss xs x each.1 e in
    (r.0, r.1, r.2, r.3, subst (λ l. IsPartOf l r.0 r.1 x) (append_assoc names (s.result ∷ []) (map (λ s. s.result) (take i ss))) r.4)

transformation_at : (i : ℕ) (ts : List Transformation) (k : ℕ) → slice_get (numbers_of ts) i ≡ Some k → (tr : Transformation) × (slice_get ts i ≡ Some tr) × (tr.number ≡ k)
transformation_at i [] k e = cc
transformation_at zero (t ∷ ts) k e = (t, refl, cc)
transformation_at (suc i) (t ∷ ts) k e = transformation_at i ts k e

-- the part at a place is that of the transformation there
pub record IsPlaced (t : TypedScript) (i : ℕ) (x : Part) : Type 0 where
  pub transformation : Transformation
  pub statement : Statement
  pub stands : slice_get (transformations (tree_of t)) i ≡ Some transformation
  pub states : slice_get (statements_of t) i ≡ Some statement
  pub number : transformation.number ≡ x.number
  pub name : x.name ≡ statement.result
  pub operands : x.operands.items ≡ map (operand_of (places_from 0 (map (λ s. s.result) (take i (statements_of t))))) (names_in statement.node)

pub placed : (t : TypedScript) (i : ℕ) (xs : List Part) (x : Part) → AreEach [] (numbers_of (transformations (tree_of t))) (statements_of t) xs → slice_get xs i ≡ Some x → IsPlaced t i x
placed t i xs x each e =
    let r = each_at i [] (numbers_of (transformations (tree_of t))) (statements_of t) xs x each e in
    let tr = transformation_at i (transformations (tree_of t)) r.0 r.2 in
    record { transformation = tr.0; statement = r.1; stands = tr.1; states = r.3; number = tr.2 ∙ sym r.4.number; name = r.4.name; operands = r.4.operands }

pub numbered : (t : TypedScript) (i : ℕ) (x : Part) → IsPlaced t i x → is_transformation x.number (tree_of t) ≡ true
numbered t i x p = any_passes_from_place (λ tr. eqb tr.number x.number) (transformations (tree_of t)) i p.transformation p.stands (ap (λ k. eqb k x.number) p.number ∙ itself x.number)

-- ---- inputs are data sets
inputs_data : (inputs : NamedTables) (es : Named) → AllByRecursion (λ e. Holds e.1 (table_of e.0 inputs)) es → AreDataSets (map (input_of inputs) es)
inputs_data inputs [] h = tt
inputs_data inputs (e ∷ es) h = (go (table_of e.0 inputs) refl h.0, inputs_data inputs es h.1)
  where
    go : (o : Option Listed) → table_of e.0 inputs ≡ o → Holds e.1 o → IsDataSet e.1 (option_map_or (λ t. t.rows) o [])
    go None q h = absurd h
    go (Some t) q h = h.points

-- ---- the one statement of a part
first_node : List Statement → Option NodeTree
first_node [] = None
first_node (s ∷ ss) = Some s.node

reads_known : (names : List (List ℕ)) (ts : List Transformation) (ns : List NodeTree) (s : Statement) → AreReadFrom names ts ns → with_nodes ts ns ≡ s ∷ [] → AllByRecursion (λ q. list_any (same_name q) names ≡ true) (names_in s.node) × (length ts ≡ 1)
unfolding first_node
reads_known names [] ns s reads e = cc
reads_known names (t ∷ ts) [] s reads e = cc
reads_known names (t ∷ []) (n ∷ ns) s reads e =
    let same : Some n ≡ Some s.node = ap first_node e in
    (all same reads.0, refl)
  where
    all : Some n ≡ Some s.node → AllByRecursion (λ q. list_any (same_name q) names ≡ true) (names_in n) → AllByRecursion (λ q. list_any (same_name q) names ≡ true) (names_in s.node)
    all same h = let q : n ≡ s.node = cc in subst (λ m. AllByRecursion (λ q. list_any (same_name q) names ≡ true) (names_in m)) q h
reads_known names (t ∷ u ∷ ts) (n ∷ []) s reads e = absurd reads.1
reads_known names (t ∷ u ∷ ts) (n ∷ m ∷ ns) s reads e = cc

-- ---- what a run tells
told : (s : Statement) (v : Outcome DataSet) (meant : Result Outputs (Fault × List ℕ)) (result : Result Listed RunErr) → SameMeaning (stated (alone s) v (λ d. Ok [])) meant → GivesOne meant result → Tells s.result v result
told s (Ok d) (Err g) result same gives = absurd same
told s (Ok d) (Ok []) result same gives = absurd same
told s (Ok d) (Ok (e ∷ f ∷ outs)) result same gives = absurd same.3
told s (Ok d) (Ok (e ∷ [])) (Ok t) same gives = record { table = subst (λ x. IsTableOf x t) (sym same.1) gives.table; same = chain gives.same (Perm-sym same.2) }
told s (Ok d) (Ok (e ∷ [])) (Err (err.DivZero n)) same gives = cc
told s (Ok d) (Ok (e ∷ [])) (Err (err.Range n)) same gives = cc
told s (Ok d) (Ok (e ∷ [])) (Err err.OutOfMemory) same gives = tt
told s (Err f) (Ok outs) result same gives = absurd same
told s (Err f) (Err g) (Ok t) same gives = absurd gives
told s (Err f) (Err g) (Err (err.DivZero n)) same gives = let q : g ≡ (DivZero, n) = cc in let p : (f, s.result) ≡ (DivZero, n) = same ∙ q in (ap (λ (q : Fault × List ℕ). Err q.0) p, sym (ap (λ (q : Fault × List ℕ). q.1) p))
told s (Err f) (Err g) (Err (err.Range n)) same gives = let q : g ≡ (Range, n) = cc in let p : (f, s.result) ≡ (Range, n) = same ∙ q in (ap (λ (q : Fault × List ℕ). Err q.0) p, sym (ap (λ (q : Fault × List ℕ). q.1) p))
told s (Err f) (Err g) (Err err.OutOfMemory) same gives = tt

-- ---- a part, as a script of its own
module _ (t own : TypedScript) (parts : List Part) (inputs : NamedTables) (results : List (Option Listed)) (i : ℕ) (x : Part) (running : IsRunning t parts inputs results) (held : AreHeld (take i results)) (at : slice_get parts i ≡ Some x)
    (is : IsPart t x.number own) (typed : IsTyped own) (are : AreStructures own.declared) where
  place : IsPlaced t i x
  place = placed t i parts x running.are_parts.each at

  is_part : IsPart t place.transformation.number own
  is_part = subst (λ k. IsPart t k own) (sym place.number) is

  one : statements_of own ≡ alone place.statement ∷ []
  one = part_statements t own i place.transformation place.statement place.stands place.states is_part

  env : Environment
  env = behind t.settings (take i (statements_of t)) (environment_of t inputs)

  alike : AreKnownAlike own.declared (known_in (behind t.settings (take i (statements_of t)) (environment_of t inputs))) (names_in place.statement.node)
  alike = part_known t own inputs i place.transformation place.statement running.are_parts.structures running.are_parts.typed place.stands place.states is_part

  sets : AreDataSets (behind t.settings (take i (statements_of t)) (environment_of t inputs)) × AllAreOfProfile t.settings (behind t.settings (take i (statements_of t)) (environment_of t inputs))
  sets =
      data_behind t.settings (take i (statements_of t)) (environment_of t inputs)
      (first_made t.settings (known_in (environment_of t inputs)) (statements_of t) i (statements_made t inputs running.are_parts.structures running.are_parts.typed))
      (inputs_data inputs (inputs_of t) running.are_inputs) running.in_range

  reads : AllByRecursion (λ q. list_any (same_name q) (keys_of own.declared) ≡ true) (names_in place.statement.node) × (length (transformations (tree_of own)) ≡ 1)
  reads = reads_known (keys_of own.declared) (transformations (tree_of own)) (nodes_of own) (alone place.statement) (script-reads own are typed) one

  given : AreGiven (behind t.settings (take i (statements_of t)) (environment_of t inputs)) place.statement.node (given_all inputs results x.operands.items)
  given =
      subst (λ os. AreGiven (behind t.settings (take i (statements_of t)) (environment_of t inputs)) place.statement.node (given_all inputs results os)) (sym place.operands)
      (each_of (λ q. IsShown (data_of q (behind t.settings (take i (statements_of t)) (environment_of t inputs))) (table_of q (given_all inputs results (map (operand_of (places_from 0 (map (λ s. s.result) (take i (statements_of t))))) (names_in place.statement.node)))))
      (names_in place.statement.node) one_given)
    where
      one_given : (q : List ℕ) → list_any (same_name q) (names_in place.statement.node) ≡ true → IsShown (data_of q (behind t.settings (take i (statements_of t)) (environment_of t inputs))) (table_of q (given_all inputs results (map (operand_of (places_from 0 (map (λ s. s.result) (take i (statements_of t))))) (names_in place.statement.node))))
      one_given q h =
          shown_given inputs results (places_from 0 (map (λ s. s.result) (take i (statements_of t)))) (names_in place.statement.node) q (data_of q (behind t.settings (take i (statements_of t)) (environment_of t inputs))) h
          (shown_at q t.settings inputs (inputs_of t) i (statements_of t) results (keys_of t.declared) held running.are_results.kept (script_new t running.are_parts.structures running.are_parts.typed) running.are_inputs (known_inputs inputs (inputs_of t))
          (sym (ap is_some (of_each (λ q. lookup (same_name q) own.declared ≡ lookup (same_name q) (known_in (behind t.settings (take i (statements_of t)) (environment_of t inputs)))) (names_in place.statement.node) q alike h))
          ∙ there q own.declared (of_each (λ q. list_any (same_name q) (keys_of own.declared) ≡ true) (names_in place.statement.node) q reads.0 h)))

  pub one_output : HasOneOutput own
  one_output = record { one = reads.1; written = (place.statement, one) }

  range : AllAreOfProfile own.settings (behind t.settings (take i (statements_of t)) (environment_of t inputs))
  range = subst (λ p. AllAreOfProfile p (behind t.settings (take i (statements_of t)) (environment_of t inputs))) (sym is.settings) sets.1

  pub own_inputs : AreInputs own (given_all inputs results x.operands.items)
  own_inputs = tables_given own (alone place.statement) (behind t.settings (take i (statements_of t)) (environment_of t inputs)) (given_all inputs results x.operands.items) are typed one alike given

  pub own_range : AreInRange own (given_all inputs results x.operands.items)
  own_range = range_given own (alone place.statement) (behind t.settings (take i (statements_of t)) (environment_of t inputs)) (given_all inputs results x.operands.items) are typed one alike given range

  meant : SameMeaning (stated (alone place.statement) (data_set_of own.settings (behind t.settings (take i (statements_of t)) (environment_of t inputs)) place.statement.node) (λ d. Ok [])) (script_meaning own (given_all inputs results x.operands.items))
  meant = part_meant own (alone place.statement) (behind t.settings (take i (statements_of t)) (environment_of t inputs)) (given_all inputs results x.operands.items) are typed one alike given sets.0

  pub own_tells : (result : Result Listed RunErr) → GivesOne (script_meaning own (given_all inputs results x.operands.items)) result → (s : Statement) (v : Outcome DataSet)
      → slice_get (statements_of t) i ≡ Some s → slice_get (values t.settings (statements_of t) (environment_of t inputs)) i ≡ Some v → Tells s.result v result
  own_tells result gives s v e f =
      let w : v ≡ data_set_of t.settings (behind t.settings (take i (statements_of t)) (environment_of t inputs)) place.statement.node = value_at i t.settings (statements_of t) (environment_of t inputs) place.statement v place.states f in
      let n : place.statement.result ≡ s.result = let q : Some place.statement ≡ Some s = sym place.states ∙ e in same_result place.statement s q in
      subst (λ name. Tells name v result) n (subst (λ y. Tells place.statement.result y result) (ap (λ p. data_set_of p (behind t.settings (take i (statements_of t)) (environment_of t inputs)) place.statement.node) is.settings ∙ sym w)
      (told place.statement (data_set_of own.settings (behind t.settings (take i (statements_of t)) (environment_of t inputs)) place.statement.node) (script_meaning own (given_all inputs results x.operands.items)) result meant gives))
    where
      same_result : (a b : Statement) → Some a ≡ Some b → a.result ≡ b.result
      same_result a b q = cc
