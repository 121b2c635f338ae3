-- A replay in the words of the language: what its script means over the inputs as they stand behind the last edit.
use Rattle.std.specs.Prelude.{◌≡◌, List, [], ◌∷◌, map, Ok}
use Rattle.std.specs.Map.{keys_of}
use Rattle.vtl_cell.specs.Row.{Row}
use Rattle.vtl_tree.specs.Environment.{Environment}
use Rattle.vtl_check.specs.Uses.{reads}
use Rattle.vtl_scripts.specs.Meaning.{Outputs}
use Rattle.vtl_top.specs.Edits.{Edit, edits_step}
use Rattle.vtl_top.specs.Expected.{Typed, dataset_step, folder_step, meant, output_of}
use Rattle.vtl_top.specs.Meant.{IsAccepted}
use Rattle.vtl_top.specs.Replayed.{Stage, begun, edit_input, refreshed, replaced}
use Rattle.vtl_top.specs.Steps.{Held, Made}
use Rattle.vtl_top.specs.Words.{Replay}

-- each edit puts the points of its file in the place of those of its input, and a refresh follows; so the last stage is reached
abbrev pub Reaches : Typed → Held → Stage → List Edit → Stage → Type 0
Reaches t held s [] last = last ≡ s
Reaches t held s (e ∷ edits) last = (points : List Row) × (dataset_step t.settings (edit_input t e)).gives held (Ok points) × Reaches t held (refreshed t (replaced t e.input points s)) edits last

-- A script is accepted, and these are its edits and its inputs; the script means results over the inputs as they stand behind the last
-- edit. The files are named after those that are written, in order, and hold their CSV texts; the text has a line for each refresh.
pub record IsReplayMeant (r : Replay) (held : Held) (made : Made) : Type 0 where
  pub typed : Typed
  pub edits : List Edit
  pub inputs : Environment
  pub last : Stage
  pub results : Outputs
  pub script : IsAccepted r.source held typed
  pub listed : (edits_step r.edits (keys_of (reads typed.structures typed.nodes))).gives held (Ok edits)
  pub read : (folder_step r.input typed.settings typed.not_null (reads typed.structures typed.nodes)).gives held (Ok inputs)
  pub reaches : Reaches typed held (begun typed inputs) edits last
  pub means : meant typed last.inputs ≡ Ok results
  pub given : made ≡ record { files = map (output_of r.output typed.settings) results; text = last.said }
