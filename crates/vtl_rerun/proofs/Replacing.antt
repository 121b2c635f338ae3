-- A session whose input is replaced.
use Rattle.std.proofs.Common.{◌≡◌, ℕ, Bool, true, false, cond, not, ◌||◌, List, [], ◌∷◌, map, length, Option, None, Some, is_some, refl, sym, ap, ◌∙◌, subst}
use Rattle.std.specs.List.{AllByRecursion, list_any}
use Rattle.std.specs.Map.{keys_of, lookup, set_value}
use Rattle.std.specs.Option.{option_map_or}
use Rattle.std.specs.Cmp.Lexicographic.{bytes_decides}
use Rattle.vtl_decimal.specs.Settings.{Settings}
use Rattle.vtl_rows.specs.Named.{NamedTables, table_of}
use Rattle.vtl_rows.specs.Tables.{Listed}
use Rattle.vtl_tree.specs.DataSet.{AreOfProfile}
use Rattle.vtl_tree.specs.Environment.{data_of}
use Rattle.vtl_tree.specs.Structure.{same_name}
use Rattle.vtl_tree.specs.Structures.{Named}
use Rattle.vtl_tree.specs.declared.structure.Structure.{Structure}
use Rattle.vtl_sets.specs.TableOf.{IsTableOf}
use Rattle.vtl_meaning.specs.Profiles.{AllAreOfProfile}
use Rattle.vtl_check.specs.Checked.{TypedScript, nodes_of, tree_of}
use Rattle.vtl_check.specs.Names.{names_of}
use Rattle.vtl_check.specs.Transformations.{transformations}
use Rattle.vtl_backend.specs.Inputs.{Holds, environment_of, input_of, inputs_of, rows_named}
use Rattle.vtl_backend.specs.Statements.{statements_of}
use Rattle.rerun_laws.specs.Depends.{dependents, is_one}
use Rattle.rerun_laws.specs.Refreshes.{fresh_without, numbers_of}
use Rattle.rerun_laws.specs.Values.{values}
use Rattle.rerun_laws.proofs.Changes.{changed_only}
use Rattle.rerun_laws.proofs.InputsRead.{read_all, all_declared}
use Rattle.vtl_rerun.specs.Kept.{IsInputOf, IsOfStructure}
use Rattle.vtl_rerun.specs.Lost.{left_from}
use Rattle.vtl_rerun.specs.Sessions.{AreKept, IsRunning, fresh_in}
use Rattle.vtl_rerun.specs.declared.part.Part.{Part}
use Rattle.vtl_rerun.proofs.Meanings.{values_long}
use Rattle.vtl_rerun.proofs.Names.{numbers_rise, script_long, script_new, statements_long}
use Rattle.vtl_rerun.proofs.Numbers.{trimmed}
use Rattle.vtl_rerun.proofs.Places.{left_by_name}
use Rattle.vtl_rerun.proofs.Replaced.{closed_left, kept_left, left_long, left_over, trims_left}
use Rattle.vtl_rerun.proofs.Results.{closed_fewer, kept_long}

-- ---- tables
other_name : (q name key : List ℕ) → same_name q name ≡ false → same_name name key ≡ true → same_name q key ≡ false
other_name q name key e d = ap (same_name q) (sym ((bytes_decides name key).0 d)) ∙ e

pub set_other : (q name : List ℕ) (tables : NamedTables) (t : Listed) → same_name q name ≡ false → table_of q (set_value (same_name name) tables t) ≡ table_of q tables
set_other q name [] t e = refl
set_other q name (x ∷ tables) t e = go (set_other q name tables t e) (same_name name x.0) refl
  where
    go : table_of q (set_value (same_name name) tables t) ≡ table_of q tables → (b : Bool) → same_name name x.0 ≡ b → table_of q (cond b ((x.0, t) ∷ tables) (x ∷ set_value (same_name name) tables t)) ≡ cond (same_name q x.0) (Some x.1) (table_of q tables)
    go ih true d = let f = other_name q name x.0 e d in ap (λ c. cond c (Some t) (table_of q tables)) f ∙ sym (ap (λ c. cond c (Some x.1) (table_of q tables)) f)
    go ih false d = ap (cond (same_name q x.0) (Some x.1)) ih

pub set_here : (name : List ℕ) (tables : NamedTables) (t : Listed) → is_some (table_of name tables) ≡ true → table_of name (set_value (same_name name) tables t) ≡ Some t
set_here name [] t some = cc
set_here name (x ∷ tables) t some = go (set_here name tables t) (same_name name x.0) refl some
  where
    go : (is_some (table_of name tables) ≡ true → table_of name (set_value (same_name name) tables t) ≡ Some t) → (b : Bool) → same_name name x.0 ≡ b → is_some (cond b (Some x.1) (table_of name tables)) ≡ true
        → table_of name (cond b ((x.0, t) ∷ tables) (x ∷ set_value (same_name name) tables t)) ≡ Some t
    go ih true d some = ap (λ c. cond c (Some t) (table_of name tables)) d
    go ih false d some = ap (λ c. cond c (Some x.1) (table_of name (set_value (same_name name) tables t))) d ∙ ih some

-- ---- inputs with their declared structures
inputs_declared : (t : TypedScript) → AllByRecursion (λ e. lookup (same_name e.0) t.declared ≡ Some e.1) (inputs_of t)
inputs_declared t = read_all (λ e. lookup (same_name e.0) t.declared ≡ Some e.1) t.declared [] (names_of (nodes_of t)) tt (all_declared t.declared (names_of (nodes_of t)))

declared_too : (declared es : Named) (q : List ℕ) (s : Structure) → AllByRecursion (λ e. lookup (same_name e.0) declared ≡ Some e.1) es → lookup (same_name q) es ≡ Some s → lookup (same_name q) declared ≡ Some s
declared_too declared [] q s h e = cc
declared_too declared (x ∷ es) q s h e = go (declared_too declared es q s h.1) (same_name q x.0) refl e
  where
    go : (lookup (same_name q) es ≡ Some s → lookup (same_name q) declared ≡ Some s) → (b : Bool) → same_name q x.0 ≡ b → cond b (Some x.1) (lookup (same_name q) es) ≡ Some s → lookup (same_name q) declared ≡ Some s
    go ih true d e = ap (λ y. lookup (same_name y) declared) ((bytes_decides q x.0).0 d) ∙ h.0 ∙ e
    go ih false d e = ih e

key_there : (es : Named) (q : List ℕ) (s : Structure) → lookup (same_name q) es ≡ Some s → list_any (same_name q) (keys_of es) ≡ true
key_there [] q s e = cc
key_there (x ∷ es) q s e = go (key_there es q s) (same_name q x.0) e
  where
    go : (lookup (same_name q) es ≡ Some s → list_any (same_name q) (keys_of es) ≡ true) → (b : Bool) → cond b (Some x.1) (lookup (same_name q) es) ≡ Some s → (b || list_any (same_name q) (keys_of es)) ≡ true
    go ih true e = refl
    go ih false e = ih e

-- ---- an input in the place of another one
module _ (name : List ℕ) (table : Listed) (inputs : NamedTables) (declared : Named) (s : Structure) (is : lookup (same_name name) declared ≡ Some s) (fits : IsTableOf s table) where
  now_held : (e : List ℕ × Structure) → lookup (same_name e.0) declared ≡ Some e.1 → Holds e.1 (table_of e.0 inputs) → (b : Bool) → same_name e.0 name ≡ b → Holds e.1 (table_of e.0 (set_value (same_name name) inputs table))
  now_held e known h false d = subst (Holds e.1) (sym (set_other e.0 name inputs table d)) h
  now_held e known h true d =
      let same : e.0 ≡ name = (bytes_decides e.0 name).0 d in
      let one : Some s ≡ Some e.1 = sym is ∙ ap (λ y. lookup (same_name y) declared) (sym same) ∙ known in
      let there : is_some (table_of name inputs) ≡ true = ap (λ y. is_some (table_of y inputs)) (sym same) ∙ some (table_of e.0 inputs) h in
      subst (Holds e.1) (sym (ap (λ y. table_of y (set_value (same_name name) inputs table)) same ∙ set_here name inputs table there)) (structured s e.1 one fits)
    where
      structured : (a b : Structure) → Some a ≡ Some b → IsTableOf a table → IsTableOf b table
      structured a b q f = let same : a ≡ b = cc in subst (λ x. IsTableOf x table) same f

      some : (o : Option Listed) → Holds e.1 o → is_some o ≡ true
      some None h = absurd h
      some (Some t) h = refl

  all_held : (es : Named) → AllByRecursion (λ e. lookup (same_name e.0) declared ≡ Some e.1) es → AllByRecursion (λ e. Holds e.1 (table_of e.0 inputs)) es → AllByRecursion (λ e. Holds e.1 (table_of e.0 (set_value (same_name name) inputs table))) es
  all_held [] known h = tt
  all_held (e ∷ es) known h = (now_held e known.0 h.0 (same_name e.0 name) refl, all_held es known.1 h.1)

  module _ (p : Settings) (profile : AreOfProfile p table.rows) where
    now_ranged : (e : List ℕ × Structure) → Holds e.1 (table_of e.0 inputs) → AreOfProfile p (rows_named e.0 inputs) → (b : Bool) → same_name e.0 name ≡ b → AreOfProfile p (rows_named e.0 (set_value (same_name name) inputs table))
    now_ranged e h range false d = subst (λ o. AreOfProfile p (option_map_or (λ t. t.rows) o [])) (sym (set_other e.0 name inputs table d)) range
    now_ranged e h range true d =
        let same : e.0 ≡ name = (bytes_decides e.0 name).0 d in
        let there : is_some (table_of name inputs) ≡ true = ap (λ y. is_some (table_of y inputs)) (sym same) ∙ some (table_of e.0 inputs) h in
        subst (λ o. AreOfProfile p (option_map_or (λ t. t.rows) o [])) (sym (ap (λ y. table_of y (set_value (same_name name) inputs table)) same ∙ set_here name inputs table there)) profile
      where
        some : (o : Option Listed) → Holds e.1 o → is_some o ≡ true
        some None h = absurd h
        some (Some t) h = refl

    all_ranged : (es : Named) → AllByRecursion (λ e. Holds e.1 (table_of e.0 inputs)) es → AllAreOfProfile p (map (input_of inputs) es) → AllAreOfProfile p (map (input_of (set_value (same_name name) inputs table)) es)
    all_ranged [] h range = tt
    all_ranged (e ∷ es) h range = (now_ranged e h.0 range.0 (same_name e.0 name) refl, all_ranged es h.1 range.1)

-- the data sets of other names stay
data_kept : (name : List ℕ) (table : Listed) (inputs : NamedTables) (es : Named) (q : List ℕ) → same_name q name ≡ false → data_of q (map (input_of inputs) es) ≡ data_of q (map (input_of (set_value (same_name name) inputs table)) es)
data_kept name table inputs [] q e = refl
data_kept name table inputs (x ∷ es) q e = go (data_kept name table inputs es q e) (same_name x.0 q) refl
  where
    go : data_of q (map (input_of inputs) es) ≡ data_of q (map (input_of (set_value (same_name name) inputs table)) es) → (b : Bool) → same_name x.0 q ≡ b
        → cond b (Some (input_of inputs x).1) (data_of q (map (input_of inputs) es)) ≡ cond b (Some (input_of (set_value (same_name name) inputs table) x).1) (data_of q (map (input_of (set_value (same_name name) inputs table)) es))
    go ih false d = ih
    go ih true d =
        let f : same_name x.0 name ≡ false = ap (λ y. same_name y name) ((bytes_decides x.0 q).0 d) ∙ e in
        ap (λ o. Some (record { structure = x.1; points = option_map_or (λ t. t.rows) o [] })) (sym (set_other x.0 name inputs table f))

or_false : (b : Bool) → (b || false) ≡ false → b ≡ false
or_false true h = cc
or_false false h = refl

-- ---- the session
module _ (t : TypedScript) (parts : List Part) (inputs : NamedTables) (results : List (Option Listed)) (name : List ℕ) (table : Listed) (running : IsRunning t parts inputs results) where
  long : length (statements_of t) ≡ length results
  long = sym (values_long t.settings (statements_of t) (environment_of t inputs)) ∙ kept_long (values t.settings (statements_of t) (environment_of t inputs)) results running.are_results.kept

  module _ (s : Structure) (is : lookup (same_name name) t.declared ≡ Some s) (fits : IsTableOf s table) (profile : AreOfProfile t.settings table.rows) where
    left_is : left_from 0 name parts results ≡ left_over (name ∷ []) (statements_of t) results
    left_is = left_by_name name (keys_of t.declared) (numbers_of (transformations (tree_of t))) (statements_of t) parts results running.are_parts.each (script_new t running.are_parts.structures running.are_parts.typed) (key_there t.declared name s is) long

    kept_now : AreKept (values t.settings (statements_of t) (environment_of t (set_value (same_name name) inputs table))) (left_over (name ∷ []) (statements_of t) results)
    kept_now =
        kept_left (name ∷ []) (name ∷ []) (statements_of t) (values t.settings (statements_of t) (environment_of t inputs)) (values t.settings (statements_of t) (environment_of t (set_value (same_name name) inputs table))) results (λ q h. h)
        (changed_only t.settings (statements_of t) (name ∷ []) (environment_of t inputs) (environment_of t (set_value (same_name name) inputs table)) (λ q h. data_kept name table inputs (inputs_of t) q (or_false (same_name q name) h)))
        running.are_results.kept

    running_now : IsRunning t parts (set_value (same_name name) inputs table) (left_from 0 name parts results)
    running_now = subst (IsRunning t parts (set_value (same_name name) inputs table)) (sym left_is) (record {
      are_parts = running.are_parts;
      are_inputs = all_held name table inputs t.declared s is fits (inputs_of t) (inputs_declared t) running.are_inputs;
      in_range = all_ranged name table inputs t.declared s is fits t.settings profile (inputs_of t) running.are_inputs running.in_range;
      are_results = record { kept = kept_now; closed = closed_fewer [] (name ∷ []) (statements_of t) (left_over (name ∷ []) (statements_of t) results) (λ q h. cc) (closed_left (name ∷ []) (statements_of t) results long) };
      many = left_long (name ∷ []) (statements_of t) results ∙ running.many;
    })

    fresh_now : fresh_in (numbers_of (transformations (tree_of t))) (left_from 0 name parts results) ≡ fresh_without name t (fresh_in (numbers_of (transformations (tree_of t))) results)
    fresh_now =
        ap (fresh_in (numbers_of (transformations (tree_of t)))) left_is
        ∙ sym (trimmed (λ j. not (is_one j (dependents (name ∷ []) (transformations (tree_of t)) (nodes_of t)))) (numbers_of (transformations (tree_of t))) results (left_over (name ∷ []) (statements_of t) results)
        (trims_left 1 (name ∷ []) [] (name ∷ []) (transformations (tree_of t)) (nodes_of t) results (numbers_rise 1 (tree_of t)) nodes_long
        (sym (statements_long (transformations (tree_of t)) (nodes_of t) nodes_long) ∙ long) (λ q. refl) running.are_results.closed))
      where
        nodes_long : length (transformations (tree_of t)) ≡ length (nodes_of t)
        nodes_long = script_long t running.are_parts.structures running.are_parts.typed

  -- where a table is put in the place of that of an input
  pub replaced : IsInputOf t name table → AreOfProfile t.settings table.rows
      → IsRunning t parts (set_value (same_name name) inputs table) (left_from 0 name parts results)
      × (fresh_in (numbers_of (transformations (tree_of t))) (left_from 0 name parts results) ≡ fresh_without name t (fresh_in (numbers_of (transformations (tree_of t))) results))
  replaced input profile = go (lookup (same_name name) (inputs_of t)) refl input
    where
      go : (o : Option Structure) → lookup (same_name name) (inputs_of t) ≡ o → IsOfStructure o table
          → IsRunning t parts (set_value (same_name name) inputs table) (left_from 0 name parts results)
          × (fresh_in (numbers_of (transformations (tree_of t))) (left_from 0 name parts results) ≡ fresh_without name t (fresh_in (numbers_of (transformations (tree_of t))) results))
      go None e h = absurd h
      go (Some s) e h =
          let is : lookup (same_name name) t.declared ≡ Some s = declared_too t.declared (inputs_of t) name s (inputs_declared t) e in
          (running_now s is h profile, fresh_now s is h profile)
