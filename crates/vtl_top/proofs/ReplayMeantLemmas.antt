-- What a replay gives is what its script means over the last inputs, and the other way round.
use Rattle.std.proofs.Common.{◌≡◌, List, [], ◌∷◌, map, Result, Ok, Err, refl, sym, ap, subst, ◌∙◌}
use Rattle.std.specs.Map.{keys_of}
use Rattle.vtl_decimal.specs.Settings.{Settings}
use Rattle.vtl_decimal.specs.declared.number.Fault.{Fault}
use Rattle.vtl_check.specs.Uses.{reads}
use Rattle.vtl_scripts.specs.Meaning.{Outputs}
use Rattle.vtl_top.specs.Edits.{Edit, edits_step}
use Rattle.vtl_top.specs.Expected.{Typed, dataset_step, folder_step, meant, output_of, outputs_of, typed_step}
use Rattle.vtl_top.specs.Replayed.{Stage, after_edits, after_script, begun, carried_on, edit_input, edited_step, files_with, refreshed, replay_made, replay_step, replaced, replayed_step}
use Rattle.vtl_top.specs.ReplayMeant.{IsReplayMeant, Reaches}
use Rattle.vtl_top.specs.Steps.{Held, Made, Name, Path, Text, settled}
use Rattle.vtl_top.specs.Words.{Replay}
use Rattle.vtl_top.proofs.MeantLemmas.{accepted_always, accepted_only, went_on}

-- ---- edits
reaches_only : (t : Typed) (held : Held) (s : Stage) (edits : List Edit) (last : Stage) → (replayed_step t s edits).gives held (Ok last) → Reaches t held s edits last
reaches_only t held s [] last g = cc
reaches_only t held s (e ∷ edits) last g =
    let a = went_on (edited_step t s e) (λ next. replayed_step t next edits) held last g in
    let b = went_on (dataset_step t.settings (edit_input t e)) (λ points. settled (Ok (refreshed t (replaced t e.input points s)))) held a.0 a.1 in
    let same : a.0 ≡ refreshed t (replaced t e.input b.0 s) = cc (b.2) in
    (b.0, b.1, subst (λ next. Reaches t held next edits last) same (reaches_only t held a.0 edits last a.2))

reaches_always : (t : Typed) (held : Held) (s : Stage) (edits : List Edit) (last : Stage) → Reaches t held s edits last → (replayed_step t s edits).gives held (Ok last)
reaches_always t held s [] last is = ap Ok is
reaches_always t held s (e ∷ edits) last (points, read, rest) =
    let next = refreshed t (replaced t e.input points s) in
    (Ok next, (Ok points, read, refl), reaches_always t held next edits last rest)

-- ---- what is made
abbrev made_by : Path → Settings → Text → Outputs → Made
made_by folder p text results = record { files = map (output_of folder p) results; text = text }

made_only : (folder : Path) (p : Settings) (text : Text) (m : Result Outputs (Fault × Name)) (made : Made) → Ok made ≡ files_with text (outputs_of folder p m) → (results : Outputs) × (m ≡ Ok results) × (made ≡ made_by folder p text results)
made_only folder p text (Ok results) made e = (results, refl, cc)
made_only folder p text (Err fault) made e = cc

-- ---- a replay
pub replay_only : (r : Replay) (held : Held) (made : Made) → (replay_step r).gives held (Ok made) → IsReplayMeant r held made
replay_only r held made g =
    let a = went_on (typed_step r.source) (after_script r) held made g in
    let t = a.0 in
    let b = went_on (edits_step r.edits (keys_of (reads t.structures t.nodes))) (after_edits r t) held made a.2 in
    let c = went_on (folder_step r.input t.settings t.not_null (reads t.structures t.nodes)) (λ inputs. carried_on r.output t (begun t inputs) b.0) held made b.2 in
    let d = went_on (replayed_step t (begun t c.0) b.0) (λ last. settled (replay_made r.output t last)) held made c.2 in
    let w = made_only r.output t.settings d.0.said (meant t d.0.inputs) made d.2 in
    record {
      typed = t;
      edits = b.0;
      inputs = c.0;
      last = d.0;
      results = w.0;
      script = accepted_only r.source held t a.1;
      listed = b.1;
      read = c.1;
      reaches = reaches_only t held (begun t c.0) b.0 d.0 d.1;
      means = w.1;
      given = w.2;
    }

pub replay_always : (r : Replay) (held : Held) (made : Made) → IsReplayMeant r held made → (replay_step r).gives held (Ok made)
replay_always r held made is =
    let t = is.typed in
    let given : Ok made ≡ replay_made r.output t is.last = ap Ok is.given ∙ sym (ap (λ m. files_with is.last.said (outputs_of r.output t.settings m)) is.means) in
    (Ok t, accepted_always r.source held t is.script, (Ok is.edits, is.listed, (Ok is.inputs, is.read, (Ok is.last, reaches_always t held (begun t is.inputs) is.edits is.last is.reaches, given))))
