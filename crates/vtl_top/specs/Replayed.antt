-- What a replay gives: the outputs over the inputs as they stand behind the last edit, and a line for each refresh.
use Rattle.std.specs.Prelude.{ℕ, List, [], ◌∷◌, ◌++◌, map, Result, Ok, Err, codes, decimal, flat_map, if◌then◌else◌}
use Rattle.std.specs.Map.{keys_of}
use Rattle.vtl_decimal.specs.declared.number.Fault.{Fault as EvaluationFault}
use Rattle.vtl_cell.specs.Row.{Row}
use Rattle.vtl_tree.specs.Environment.{DataSet, Environment}
use Rattle.vtl_tree.specs.Structure.{same_name}
use Rattle.vtl_tree.specs.Structures.{Named}
use Rattle.vtl_scripts.specs.Meaning.{Outputs}
use Rattle.vtl_check.specs.Transformations.{Transformation, transformations}
use Rattle.vtl_check.specs.Uses.{reads}
use Rattle.rerun_laws.specs.Depends.{dependents}
use Rattle.rerun_laws.specs.Refreshes.{Refresh, faulted, fresh_behind, fresh_but, ran, refresh_told}
use Rattle.vtl_top.specs.Edits.{Edit, edits_step}
use Rattle.vtl_top.specs.Expected.{Typed, data_set, dataset_step, folder_step, meant, outputs_of, typed_step}
use Rattle.vtl_top.specs.ResultTables.{structure_named}
use Rattle.vtl_top.specs.Steps.{Made, Name, Path, Step, Text, ◌>>=◌, settled}
use Rattle.vtl_top.specs.Wanted.{Placed, wanted_with}
use Rattle.vtl_top.specs.Words.{Replay}
use Rattle.vtl_status.specs.declared.status.Status.{Status}

-- ---- refreshes
-- the line of a refresh: the numbers of the transformations that it ran, or that there was a fault
abbrev pub refresh_line : Refresh → Text
refresh_line (ran numbers) = codes "ran" ++ (flat_map (λ n. codes " " ++ decimal n) numbers ++ codes "\n")
refresh_line faulted = codes "fault\n"

-- how far a replay has come: the data sets as they stand, the numbers of the transformations that are fresh, and what was said of
-- refreshes
pub record Stage : Type 0 where
  pub inputs : Environment
  pub fresh : List ℕ
  pub said : Text

-- one more refresh
abbrev pub refreshed : Typed → Stage → Stage
refreshed t s =
    let ts = transformations t.tree in
    let results = meant t s.inputs in
    record { inputs = s.inputs; fresh = fresh_behind ts s.fresh results; said = s.said ++ refresh_line (refresh_told ts s.fresh results) }

-- a replay begins with the data sets that were read, where nothing is fresh, and a refresh
abbrev pub begun : Typed → Environment → Stage
begun t inputs = refreshed t (record { inputs = inputs; fresh = []; said = [] })

-- ---- edits
-- the data set of a name has these points, and all others stay
abbrev pub with_new_points : Name → List Row → Name × DataSet → Name × DataSet
with_new_points name points e = if same_name name e.0 then (e.0, data_set e.1.structure points) else e

-- an input is replaced: what depends on it is fresh no longer
abbrev pub replaced : Typed → Name → List Row → Stage → Stage
replaced t name points s = record {
  inputs = map (with_new_points name points) s.inputs;
  fresh = fresh_but (dependents (name ∷ []) (transformations t.tree) t.nodes) s.fresh;
  said = s.said;
}

-- the data set that an edit reads, in its folder
abbrev pub edit_input : Typed → Edit → Placed
edit_input t e = (e.folder, wanted_with t.not_null (e.input, structure_named e.input (reads t.structures t.nodes)))

-- one edit, and a refresh behind it
abbrev pub edited_step : Typed → Stage → Edit → Step Stage
edited_step t s e = dataset_step t.settings (edit_input t e) >>= λ points. settled (Ok (refreshed t (replaced t e.input points s)))

-- edits one after the other
abbrev pub replayed_step : Typed → Stage → List Edit → Step Stage
replayed_step t s [] = settled (Ok s)
replayed_step t s (e ∷ edits) = edited_step t s e >>= λ next. replayed_step t next edits

-- ---- the whole
-- files with a text behind them
abbrev pub files_with : {E : Type 0} → Text → Result (List (Path × Text)) E → Result Made E
files_with text (Ok files) = Ok (record { files = files; text = text })
files_with text (Err e) = Err e

-- what is made at the end: the files of the last outputs, and the lines of all refreshes; or the status of the last fault
abbrev pub replay_made : Path → Typed → Stage → Result Made Status
replay_made folder t s = files_with s.said (outputs_of folder t.settings (meant t s.inputs))

-- what comes of edits, from a stage on
abbrev pub carried_on : Path → Typed → Stage → List Edit → Step Made
carried_on folder t s edits = replayed_step t s edits >>= λ last. settled (replay_made folder t last)

-- what comes of a script with edits, from its inputs on
abbrev pub after_edits : Replay → Typed → List Edit → Step Made
after_edits r t edits = folder_step r.input t.settings t.not_null (reads t.structures t.nodes) >>= λ inputs. carried_on r.output t (begun t inputs) edits

abbrev pub after_script : Replay → Typed → Step Made
after_script r t = edits_step r.edits (keys_of (reads t.structures t.nodes)) >>= after_edits r t

-- what a replay makes: the refusals are those of the script and its structures, of the edits file, of the inputs, of the file of each edit
-- in turn, and of the last refresh
abbrev pub replay_step : Replay → Step Made
replay_step r = typed_step r.source >>= after_script r
