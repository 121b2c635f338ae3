-- A part over tables means what its transformation means over the data sets that they show.
use Rattle.std.proofs.Common.{◌≡◌, ℕ, Bool, true, false, cond, ◌||◌, List, [], ◌∷◌, map, Option, Some, None, refl, sym, ap, subst, ◌∙◌}
use Rattle.std.specs.List.{AllByRecursion}
use Rattle.std.specs.Map.{lookup}
use Rattle.std.specs.Option.{option_map, option_map_or}
use Rattle.std.specs.Cmp.Lexicographic.{bytes_decides, nat_list_eq_equiv}
use Rattle.std.proofs.lemmas.Option.{same_Some}
use Rattle.vtl_lists.specs.Perm.{Perm}
use Rattle.vtl_lists.proofs.Perms.{AllByRecursion-Perm, Perm-sym}
use Rattle.vtl_lists.proofs.Alls.{all_append, all_both, all_front, all_more}
use Rattle.vtl_cell.specs.Profile.{IsOfProfile}
use Rattle.vtl_cell.specs.Outcome.{Outcome}
use Rattle.vtl_decimal.specs.Settings.{Settings}
use Rattle.vtl_rows.specs.Named.{NamedTables, table_of}
use Rattle.vtl_rows.specs.Tables.{Listed}
use Rattle.vtl_tree.specs.DataSet.{AreOfProfile, IsDataSet}
use Rattle.vtl_tree.specs.Environment.{DataSet, Environment, data_of, found, known_in}
use Rattle.vtl_tree.specs.Structure.{same_name}
use Rattle.vtl_tree.specs.Structures.{AreStructures, Named, has_name}
use Rattle.vtl_tree.specs.Trees.{NodeTree}
use Rattle.vtl_tree.specs.declared.structure.Structure.{Structure}
use Rattle.vtl_sets.specs.TableOf.{IsTableOf}
use Rattle.vtl_check.specs.Checked.{IsTyped, TypedScript, nodes_of, tree_of}
use Rattle.vtl_check.specs.Names.{names_in, names_of}
use Rattle.vtl_check.specs.Transformations.{Transformation, transformations}
use Rattle.vtl_meaning.specs.Orders.{SameData}
use Rattle.vtl_meaning.specs.Profiles.{AllAreOfProfile}
use Rattle.vtl_scripts.specs.Made.{IsMade}
use Rattle.vtl_scripts.specs.Meaning.{AreDataSets, Statement, meaning, stated}
use Rattle.vtl_scripts.specs.Orders.{SameMeaning}
use Rattle.check_laws.specs.Scripts.{AreKnownAlike, AreMadeFrom}
use Rattle.vtl_backend.specs.Inputs.{AreInRange, AreInputs, Holds, environment_of, input_of, inputs_of, rows_named}
use Rattle.vtl_backend.specs.Runs.{script_meaning}
use Rattle.vtl_backend.specs.Statements.{statements_of, with_nodes}
use Rattle.vtl_backend.specs.Tables.{Shows}
use Rattle.rerun_laws.specs.Given.{AreGiven, IsShown}
use Rattle.check_laws.proofs.NamesRead.{data_set_same}
use Rattle.rerun_laws.proofs.InputsRead.{found_among, known_of_data, read_all, read_there}
use Rattle.check_laws.proofs.Over.{made_over}
use Rattle.check_laws.proofs.Scripts.{script-made}
use Rattle.vtl_scripts.proofs.ScriptsOrders.{meaning_respects}

-- ---- the one statement of a part
one_made : (p : Settings) (known : Named) (ts : List Transformation) (ns : List NodeTree) (s : Statement) → AreMadeFrom p known ts ns → with_nodes ts ns ≡ s ∷ [] → IsMade p known s.node × (ns ≡ s.node ∷ [])
one_made p known [] ns s m is = cc
one_made p known (t ∷ ts) [] s m is = absurd m
one_made p known (t ∷ []) (n ∷ []) s m is =
    let same : n ∷ [] ≡ s.node ∷ [] = ap (map (λ (x : Statement). x.node)) is in
    let made : AllByRecursion (IsMade p known) (s.node ∷ []) = subst (AllByRecursion (IsMade p known)) same (m.1, tt) in
    (made.0, same)
one_made p known (t ∷ []) (n ∷ o ∷ ns) s m is = absurd m.2
one_made p known (t ∷ u ∷ ts) (n ∷ []) s m is = absurd m.2
one_made p known (t ∷ u ∷ ts) (n ∷ o ∷ ns) s m is = cc

-- ---- a data set that is read: it is there, a table shows it, and it has the structure that is declared
record IsRead (env : Environment) (tables : NamedTables) (e : List ℕ × Structure) : Type 0 where
  data_set : DataSet
  table : Listed
  there : data_of e.0 env ≡ Some data_set
  tabled : table_of e.0 tables ≡ Some table
  structure : data_set.structure ≡ e.1
  shown : Shows data_set table

-- a name that is read, where the declared structure is that of the environment
name_read : (declared : Named) (env : Environment) (tables : NamedTables) (name : List ℕ)
    → lookup (same_name name) declared ≡ lookup (same_name name) (known_in env) → IsShown (data_of name env) (table_of name tables) → (s : Structure) → lookup (same_name name) declared ≡ Some s → IsRead env tables (name, s)
name_read declared env tables name alike shown s is = go (data_of name env) (table_of name tables) refl refl shown
  where
    go : (o : Option DataSet) (q : Option Listed) → data_of name env ≡ o → table_of name tables ≡ q → IsShown o q → IsRead env tables (name, s)
    go (Some d) (Some t) there tabled shown =
        let found_here : Some d.structure ≡ Some s = sym (ap (option_map (λ (x : DataSet). x.structure)) there) ∙ sym (known_of_data name env) ∙ sym alike ∙ is in
        record { data_set = d; table = t; there = there; tabled = tabled; structure = same_Some _ _ found_here; shown = shown }
    go (Some d) None there tabled shown = absurd shown
    go None (Some t) there tabled shown = absurd shown
    go None None there tabled shown = absurd shown

-- and its structure is declared
name_declared : (declared : Named) (env : Environment) (tables : NamedTables) (name : List ℕ)
    → lookup (same_name name) declared ≡ lookup (same_name name) (known_in env) → IsShown (data_of name env) (table_of name tables) → (s : Structure) × (lookup (same_name name) declared ≡ Some s)
name_declared declared env tables name alike shown = go (data_of name env) (table_of name tables) refl shown
  where
    go : (o : Option DataSet) (q : Option Listed) → data_of name env ≡ o → IsShown o q → (s : Structure) × (lookup (same_name name) declared ≡ Some s)
    go (Some d) (Some t) there shown = (d.structure, alike ∙ known_of_data name env ∙ ap (option_map (λ (x : DataSet). x.structure)) there)
    go (Some d) None there shown = absurd shown
    go None (Some t) there shown = absurd shown
    go None None there shown = absurd shown

-- ---- the data sets of the environment that are read, in the order of the inputs
restricted : Environment → List ℕ × Structure → List ℕ × DataSet
restricted env e = (e.0, found e.1 (data_of e.0 env))

module _ (env : Environment) (tables : NamedTables) where
  -- they are those that the tables show
  same_inputs : (es : Named) → AllByRecursion (IsRead env tables) es → SameData (map (restricted env) es) (map (input_of tables) es)
  unfolding restricted
  same_inputs [] h = tt
  same_inputs (e ∷ es) h =
      let r = h.0 in
      let structure : (found e.1 (data_of e.0 env)).structure ≡ e.1 = ap (λ o. (found e.1 o).structure) r.there ∙ r.structure in
      let shown : Perm r.data_set.points r.table.rows = Perm-sym r.shown.same in
      let over_table : Perm r.data_set.points (rows_named e.0 tables) = subst (λ (o : Option Listed). Perm r.data_set.points (option_map_or (λ t. t.rows) o [])) (sym r.tabled) shown in
      (refl, structure, subst (λ o. Perm (found e.1 o).points (rows_named e.0 tables)) (sym r.there) over_table, same_inputs es h.1)

  -- they are data sets where those of the environment are
  inputs_kept : (es : Named) → AreDataSets env → AllByRecursion (IsRead env tables) es → AreDataSets (map (restricted env) es)
  unfolding restricted
  inputs_kept [] sets h = tt
  inputs_kept (e ∷ es) sets h =
      let r = h.0 in
      let one : IsDataSet r.data_set.structure r.data_set.points = found_among (λ d. IsDataSet d.structure d.points) e.0 env r.data_set sets r.there in
      (subst (λ o. IsDataSet (found e.1 o).structure (found e.1 o).points) (sym r.there) one, inputs_kept es sets h.1)

  -- a name that is read finds the same data set in both
  same_found : (name : List ℕ) (es : Named) → AllByRecursion (IsRead env tables) es → has_name name es ≡ true → data_of name env ≡ data_of name (map (restricted env) es)
  unfolding restricted
  same_found name [] h has = cc
  same_found name (e ∷ es) h has = go (same_name name e.0) refl (same_found name es h.1) has
    where
      go : (b : Bool) → same_name name e.0 ≡ b → (has_name name es ≡ true → data_of name env ≡ data_of name (map (restricted env) es))
          → (b || has_name name es) ≡ true → data_of name env ≡ cond (same_name e.0 name) (Some (found e.1 (data_of e.0 env))) (data_of name (map (restricted env) es))
      go true is ih has =
          let there : data_of e.0 env ≡ Some (found e.1 (data_of e.0 env)) = h.0.there ∙ sym (ap (λ o. Some (found e.1 o)) h.0.there) in
          ap (λ q. data_of q env) ((bytes_decides name e.0).0 is) ∙ there ∙ sym (ap (λ b. cond b (Some (found e.1 (data_of e.0 env))) (data_of name (map (restricted env) es))) (nat_list_eq_equiv.symm e.0 name ∙ is))
      go false is ih has =
          ih has ∙ sym (ap (λ b. cond b (Some (found e.1 (data_of e.0 env))) (data_of name (map (restricted env) es))) (nat_list_eq_equiv.symm e.0 name ∙ is))

  -- the tables of inputs
  tables_held : (es : Named) → AllByRecursion (IsRead env tables) es → AllByRecursion (λ e. Holds e.1 (table_of e.0 tables)) es
  tables_held [] h = tt
  tables_held (e ∷ es) h =
      let r = h.0 in
      let one : IsTableOf e.1 r.table = subst (λ s. IsTableOf s r.table) r.structure r.shown.table in
      (subst (Holds e.1) (sym r.tabled) one, tables_held es h.1)

  -- and their integers
  rows_in_range : (p : Settings) (es : Named) → AllAreOfProfile p env → AllByRecursion (IsRead env tables) es → AllAreOfProfile p (map (input_of tables) es)
  rows_in_range p [] range h = tt
  rows_in_range p (e ∷ es) range h =
      let r = h.0 in
      let one : AreOfProfile p r.data_set.points = found_among (λ d. AreOfProfile p d.points) e.0 env r.data_set range r.there in
      let rows : AreOfProfile p r.table.rows = AllByRecursion-Perm (λ row. AllByRecursion (IsOfProfile p) row) (Perm-sym r.shown.same) one in
      (subst (λ (o : Option Listed). AreOfProfile p (option_map_or (λ t. t.rows) o [])) (sym r.tabled) rows, rows_in_range p es range h.1)

-- ---- a part over an environment and tables of it
module _ (part : TypedScript) (s : Statement) (env : Environment) (tables : NamedTables) (are : AreStructures part.declared) (typed : IsTyped part) (one : statements_of part ≡ s ∷ [])
    (alike : AreKnownAlike part.declared (known_in env) (names_in s.node)) (given : AreGiven env s.node tables) where
  made : IsMade part.settings part.declared s.node × (nodes_of part ≡ s.node ∷ [])
  made = one_made part.settings part.declared (transformations (tree_of part)) (nodes_of part) s (script-made part are typed) one

  -- names of the one node
  of_part : (P : List ℕ → Type 0) → AllByRecursion P (names_in s.node) → AllByRecursion P (names_of (nodes_of part))
  of_part P h = subst (λ ns. AllByRecursion P (names_of ns)) (sym made.1) (all_append P (names_in s.node) [] h tt)

  in_part : (P : List ℕ → Type 0) → AllByRecursion P (names_of (nodes_of part)) → AllByRecursion P (names_in s.node)
  in_part P h = all_front P (names_in s.node) [] (subst (λ ns. AllByRecursion P (names_of ns)) made.1 h)

  all_read : AllByRecursion (IsRead env tables) (inputs_of part)
  all_read =
      read_all (IsRead env tables) part.declared [] (names_of (nodes_of part)) tt
      (of_part (λ name. (t : Structure) → lookup (same_name name) part.declared ≡ Some t → IsRead env tables (name, t))
      (all_both (λ name. lookup (same_name name) part.declared ≡ lookup (same_name name) (known_in env)) (λ name. IsShown (data_of name env) (table_of name tables)) (λ name. (t : Structure) → lookup (same_name name) part.declared ≡ Some t → IsRead env tables (name, t))
      (name_read part.declared env tables) (names_in s.node) alike given))

  pub tables_given : AreInputs part tables
  tables_given = tables_held env tables (inputs_of part) all_read

  pub range_given : AllAreOfProfile part.settings env → AreInRange part tables
  range_given range = rows_in_range env tables part.settings (inputs_of part) range all_read

  known_there : AllByRecursion (λ name. has_name name (inputs_of part) ≡ true) (names_in s.node)
  known_there =
      all_both (λ name. (t : Structure) → lookup (same_name name) part.declared ≡ Some t → has_name name (inputs_of part) ≡ true) (λ name. (t : Structure) × (lookup (same_name name) part.declared ≡ Some t)) (λ name. has_name name (inputs_of part) ≡ true)
      (λ name there is. there is.0 is.1) (names_in s.node)
      (in_part (λ name. (t : Structure) → lookup (same_name name) part.declared ≡ Some t → has_name name (inputs_of part) ≡ true) (read_there part.declared [] (names_of (nodes_of part))))
      (all_both (λ name. lookup (same_name name) part.declared ≡ lookup (same_name name) (known_in env)) (λ name. IsShown (data_of name env) (table_of name tables)) (λ name. (t : Structure) × (lookup (same_name name) part.declared ≡ Some t))
      (name_declared part.declared env tables) (names_in s.node) alike given)

  within : Environment
  within = map (restricted env) (inputs_of part)

  same_data : AllByRecursion (λ name. data_of name env ≡ data_of name within) (names_in s.node)
  unfolding within
  same_data = all_more (λ name. has_name name (inputs_of part) ≡ true) (λ name. data_of name env ≡ data_of name (map (restricted env) (inputs_of part))) (λ name has. same_found env tables name (inputs_of part) all_read has) (names_in s.node) known_there

  made_within : IsMade part.settings (known_in within) s.node
  made_within =
      made_over part.settings part.declared (known_in within) s.node
      (all_both (λ name. lookup (same_name name) part.declared ≡ lookup (same_name name) (known_in env)) (λ name. data_of name env ≡ data_of name within) (λ name. lookup (same_name name) part.declared ≡ lookup (same_name name) (known_in within))
      (λ name k d. k ∙ known_of_data name env ∙ ap (option_map (λ (x : DataSet). x.structure)) d ∙ sym (known_of_data name within)) (names_in s.node) alike same_data)
      made.0

  pub part_meant : AreDataSets env → SameMeaning (meaning part.settings (s ∷ []) env) (script_meaning part tables)
  unfolding within
  part_meant sets =
      let turned : SameMeaning (meaning part.settings (s ∷ []) within) (meaning part.settings (s ∷ []) (environment_of part tables)) =
      meaning_respects part.settings (s ∷ []) within (environment_of part tables) (made_within, tt) (inputs_kept env tables (inputs_of part) sets all_read) (same_inputs env tables (inputs_of part) all_read) in
      let same : meaning part.settings (s ∷ []) env ≡ meaning part.settings (s ∷ []) within = ap (λ (o : Outcome DataSet). stated s o (λ d. meaning part.settings [] env)) (data_set_same part.settings env within s.node same_data) in
      subst (λ ss. SameMeaning (meaning part.settings (s ∷ []) env) (meaning part.settings ss (environment_of part tables))) (sym one)
      (subst (λ m. SameMeaning m (meaning part.settings (s ∷ []) (environment_of part tables))) (sym same) turned)
