-- Edits that were read, without where they lie in memory; and how far a replay has come, by its session.
use Rattle.std.specs.Prelude.{◌≡◌, ℕ, true, List, map, Option, None, Some, Result, Err, string_bytes, String}
use Rattle.std.specs.Global.{Global, Vec}
use Rattle.std.specs.List.{list_any}
use Rattle.vtl_decimal.specs.declared.number.Fault.TheVariants.{DivZero, Range}
use Rattle.vtl_scalar.specs.declared.run_error.RunErr.{RunErr}
use Rattle.vtl_scalar.specs.declared.run_error.RunErr.TheVariants as err
use Rattle.vtl_tree.specs.Structure.{same_name}
use Rattle.vtl_check.specs.Checked.{TypedScript, inputs_of}
use Rattle.vtl_backend.specs.Inputs.{environment_of}
use Rattle.vtl_rerun.specs.Kept.{Kept, meaning_now}
use Rattle.vtl_top.specs.declared.edits.Edit.{Edit as Program}
use Rattle.vtl_top.specs.Edits.{Edit}
use Rattle.vtl_top.specs.OutputView.{outputs_view}
use Rattle.vtl_top.specs.Replayed.{Stage}
use Rattle.vtl_top.specs.Steps.{Made, Text}
use Rattle.vtl_top.specs.declared.replay.Stage.{Stage as Now}
use Rattle.vtl_top.specs.declared.output.Output.{Output}

abbrev pub edit_view : Program → Edit
edit_view e = record { input = e.input; folder = string_bytes e.folder }

-- the script reads a data set of its name
abbrev pub NamesInput : TypedScript → Program → Type 0
NamesInput t e = list_any (same_name e.input) (inputs_of t) ≡ true

-- all edits, in order
abbrev pub edits_view : Vec Program → List Edit
edits_view edits = map edit_view edits.items

-- the data sets of a session, what is fresh, and what was said of its refreshes
abbrev pub stage_of : Kept → Text → Stage
stage_of k said = record { inputs = environment_of k.script k.inputs; fresh = k.fresh; said = said }

abbrev pub stage_view : Now → Stage
stage_view s = stage_of s.session (string_bytes s.said)

abbrev pub script_at : Now → TypedScript
script_at s = s.session.script

-- how the last refresh of a session ended: it is current, or its meaning is this fault
abbrev pub EndedAs : Kept → Option RunErr → Type 0
EndedAs k None = k.is_current ≡ true
EndedAs k (Some (err.DivZero name)) = meaning_now k ≡ Err (DivZero, name)
EndedAs k (Some (err.Range name)) = meaning_now k ≡ Err (Range, name)
EndedAs k (Some err.OutOfMemory) = ⊥

abbrev pub HasEnded : Now → Type 0
HasEnded s = EndedAs s.session s.fault

abbrev pub files_and_text : Vec Output × String Global → Made
files_and_text made = record { files = outputs_view made.0; text = string_bytes made.1 }
