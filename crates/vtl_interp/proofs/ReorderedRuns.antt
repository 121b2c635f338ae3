-- A script over tables with their rows in another order.
use Rattle.std.proofs.Common.{◌≡◌, ℕ, true, List, [], ◌∷◌, map, Option, None, Some, Result, Ok, Err, refl, sym, ap, subst, ◌∙◌}
use Rattle.std.specs.List.{AllByRecursion}
use Rattle.std.specs.Option.{option_map_or}
use Rattle.vtl_decimal.specs.declared.number.Fault.TheVariants.{DivZero, Range}
use Rattle.vtl_decimal.specs.declared.number.Fault.{Fault}
use Rattle.vtl_lists.specs.Perm.{Perm, chain, empty}
use Rattle.vtl_cell.specs.Profile.{IsOfProfile}
use Rattle.vtl_cell.specs.Row.{Row, same_key}
use Rattle.vtl_decimal.specs.Settings.{Settings}
use Rattle.vtl_lists.proofs.Aparts.{all_apart-Perm}
use Rattle.vtl_lists.proofs.Perms.{AllByRecursion-Perm, Perm-sym}
use Rattle.vtl_cell.proofs.Rows.{same_key-sym}
use Rattle.vtl_rows.specs.Named.{NamedTables, table_of}
use Rattle.vtl_rows.specs.Tables.{Listed}
use Rattle.vtl_tree.specs.DataSet.{IsDataSet, is_point}
use Rattle.vtl_tree.specs.Environment.{DataSet}
use Rattle.vtl_tree.specs.Structure.{columns_of, key_width}
use Rattle.vtl_tree.specs.Structures.{AreStructures, Named}
use Rattle.vtl_tree.specs.declared.structure.Structure.{Structure}
use Rattle.vtl_scripts.proofs.ScriptsOrders.{meaning_respects}
use Rattle.vtl_check.specs.Checked.{IsTyped, TypedScript}
use Rattle.vtl_backend.specs.Inputs.{AreInRange, AreInputs, Holds, environment_of, input_of, inputs_of}
use Rattle.vtl_scripts.specs.Meaning.{AreDataSets, Outputs}
use Rattle.vtl_meaning.specs.Orders.{SameData}
use Rattle.vtl_scripts.specs.Orders.{SameMeaning}
use Rattle.vtl_meaning.specs.Profiles.{AllAreOfProfile}
use Rattle.vtl_backend.specs.Runs.{Runs, ShowAll, ShowMeaning, Tells, script_meaning}
use Rattle.vtl_backend.specs.Statements.{statements_of}
use Rattle.vtl_sets.specs.TableOf.{IsTableOf}
use Rattle.vtl_backend.specs.Tables.{Shows}
use Rattle.vtl_scalar.specs.declared.run_error.RunErr.{RunErr}
use Rattle.vtl_scalar.specs.declared.run_error.RunErr.TheVariants as err
use Rattle.vtl_interp.specs.Reordered.{AreBothReordered, AreReordered}
use Rattle.vtl_interp.proofs.MadeStatements.{statements_made}
use Rattle.vtl_interp.proofs.Starts.{ready_at_start}

-- ---- a data set

set_reordered : (s : Structure) (d e : List Row) → Perm d e → IsDataSet s d → IsDataSet s e
set_reordered s d e h i = record {
  well_formed = i.well_formed;
  typed = AllByRecursion-Perm (λ r. is_point (columns_of s) r ≡ true) h i.typed;
  distinct = all_apart-Perm (same_key (key_width s)) (same_key-sym (key_width s)) (Perm-sym h) ∙ i.distinct;
}

holds_reordered : (s : Structure) (a b : Option Listed) → AreBothReordered a b → Holds s a → Holds s b
holds_reordered s None b h held = absurd held
holds_reordered s (Some t) None h held = absurd h
holds_reordered s (Some t) (Some u) h held = record { columns = sym h.columns ∙ held.columns; points = set_reordered s t.rows u.rows h.rows held.points }

-- the points of a table that may be there
abbrev points_in : Option Listed → List Row
points_in o = option_map_or (λ t. t.rows) o []

points_reordered : (a b : Option Listed) → AreBothReordered a b → Perm (points_in a) (points_in b)
points_reordered None None h = empty
points_reordered None (Some u) h = absurd h
points_reordered (Some t) None h = absurd h
points_reordered (Some t) (Some u) h = h.rows

set_held : (s : Structure) (o : Option Listed) → Holds s o → IsDataSet s (points_in o)
set_held s None held = absurd held
set_held s (Some t) held = held.points

-- ---- all data sets that are read

sets_held : (es : Named) (tables : NamedTables) → AllByRecursion (λ e. Holds e.1 (table_of e.0 tables)) es → AreDataSets (map (input_of tables) es)
sets_held [] tables held = tt
sets_held (e ∷ es) tables held = (set_held e.1 (table_of e.0 tables) held.0, sets_held es tables held.1)

module _ (tables others : NamedTables) (same : AreReordered tables others) where
  all_hold : (es : Named) → AllByRecursion (λ e. Holds e.1 (table_of e.0 tables)) es → AllByRecursion (λ e. Holds e.1 (table_of e.0 others)) es
  all_hold [] held = tt
  all_hold (e ∷ es) held = (holds_reordered e.1 (table_of e.0 tables) (table_of e.0 others) (same e.0) held.0, all_hold es held.1)

  all_in_range : (p : Settings) (es : Named) → AllAreOfProfile p (map (input_of tables) es) → AllAreOfProfile p (map (input_of others) es)
  all_in_range p [] within = tt
  all_in_range p (e ∷ es) within =
      (AllByRecursion-Perm (λ r. AllByRecursion (IsOfProfile p) r) (points_reordered (table_of e.0 tables) (table_of e.0 others) (same e.0)) within.0, all_in_range p es within.1)

  same_data : (es : Named) → SameData (map (input_of tables) es) (map (input_of others) es)
  same_data [] = tt
  same_data (e ∷ es) = (refl, refl, points_reordered (table_of e.0 tables) (table_of e.0 others) (same e.0), same_data es)

  pub inputs_reordered : (t : TypedScript) → AreInputs t tables → AreInputs t others
  inputs_reordered t there = all_hold (inputs_of t) there

  pub ranges_reordered : (t : TypedScript) → AreInRange t tables → AreInRange t others
  ranges_reordered t within = all_in_range t.settings (inputs_of t) within

-- ---- what a run tells

shows_same : (d e : DataSet) (t : Listed) → d.structure ≡ e.structure → Perm d.points e.points → Shows e t → Shows d t
shows_same d e t structure points h = record { table = subst (λ s. IsTableOf s t) (sym structure) h.table; same = chain h.same (Perm-sym points) }

all_show_same : (ds es : Outputs) (tables : NamedTables) → SameData ds es → ShowAll es tables → ShowAll ds tables
all_show_same [] [] tables same h = h
all_show_same [] (e ∷ es) tables same h = absurd same
all_show_same (d ∷ ds) [] tables same h = absurd same
all_show_same (d ∷ ds) (e ∷ es) [] same h = h
all_show_same (d ∷ ds) (e ∷ es) (t ∷ ts) same h = (h.0 ∙ sym same.0, shows_same d.1 e.1 t.1 same.1 same.2 h.1, all_show_same ds es ts same.3 h.2)

meaning_shown : (m n : Result Outputs (Fault × List ℕ)) (tables : NamedTables) → SameMeaning m n → ShowMeaning n tables → ShowMeaning m tables
meaning_shown (Ok ds) (Ok es) tables same h = all_show_same ds es tables same h
meaning_shown (Ok ds) (Err g) tables same h = absurd same
meaning_shown (Err f) (Ok es) tables same h = absurd same
meaning_shown (Err f) (Err g) tables same h = h

same_fault : (m n : Result Outputs (Fault × List ℕ)) (fault : Fault × List ℕ) → SameMeaning m n → n ≡ Err fault → m ≡ Err fault
same_fault (Ok ds) (Ok es) fault same e = cc
same_fault (Ok ds) (Err g) fault same e = absurd same
same_fault (Err f) (Ok es) fault same e = absurd same
same_fault (Err f) (Err g) fault same e = ap (λ x. Err x) same ∙ e

tells_same : (m n : Result Outputs (Fault × List ℕ)) (before now : NamedTables) (r : Result (Unit {0}) RunErr) → SameMeaning m n → Tells n before now r → Tells m before now r
tells_same m n before now (Ok done) same h = meaning_shown m n now same h
tells_same m n before now (Err (err.DivZero name)) same h = (same_fault m n (DivZero, name) same h.0, h.1)
tells_same m n before now (Err (err.Range name)) same h = (same_fault m n (Range, name) same h.0, h.1)
tells_same m n before now (Err err.OutOfMemory) same h = h

-- ---- a run over the one is a run over the other

pub runs_reordered : (tables others : NamedTables) (t : TypedScript) → IsTyped t → AreStructures t.declared → AreInputs t tables → AreReordered tables others
    → (before now : NamedTables) (r : Result (Unit {0}) RunErr) → Runs t others before now r → Runs t tables before now r
runs_reordered tables others t typed declared there same before now r h =
    let env = environment_of t tables in
    let ready = ready_at_start t tables env typed (statements_made t declared typed) refl in
    tells_same (script_meaning t tables) (script_meaning t others) before now r
    (meaning_respects t.settings (statements_of t) env (environment_of t others) ready.made (sets_held (inputs_of t) tables there) (same_data tables others same (inputs_of t))) h
