-- The steps of a replay, one after the other.
use Rattle.std.proofs.Common.{◌≡◌, ◌<◌, ◌+◌, inl, inr, ℕ, List, [], ◌∷◌, drop, get_or, length, map, Result, Ok, Err, refl, sym, ap, subst}
use Rattle.vtl_files.specs.declared.files.Files.{Ghosts}
use Rattle.vtl_rows.specs.Tables.{Tabled}
use Rattle.vtl_top.specs.Answered.{Came, Gives, Misses, Takes}
use Rattle.vtl_top.specs.Edits.{Edit}
use Rattle.vtl_top.specs.EditsView.{edit_view}
use Rattle.vtl_top.specs.declared.edits.Edit.{Edit as Program}
use Rattle.vtl_top.specs.Expected.{Typed, dataset_step, meant, outputs_of}
use Rattle.vtl_top.specs.InputsRead.{rows_in}
use Rattle.vtl_top.specs.Kinds.{refused, told_by}
use Rattle.vtl_top.specs.Refusal.{SettlesBy}
use Rattle.vtl_top.specs.Replayed.{Stage, carried_on, edit_input, edited_step, files_with, refreshed, replay_made, replaced, replayed_step}
use Rattle.vtl_top.specs.Steps.{File, Made, Path, Step, Text, settled}
use Rattle.vtl_status.specs.declared.status.Status.{Status}
use Rattle.vtl_status.specs.declared.status.Status.TheVariants as st
use Rattle.vtl_top.proofs.InputLemmas.{here_at}
use Rattle.vtl_top.proofs.ReadScripts.{settled_given}
use Rattle.vtl_top.proofs.RunLemmas.{memory_takes, results_refuse, settled_ok}
use Rattle.vtl_top.proofs.StepLemmas.{takes_onward, takes_stopped}

-- ---- an edit
module _ {F : Type 0} (g : Ghosts F) (a b : F) (t : Typed) (s last : Stage) (e : Edit) where
  abbrev read : Result Tabled Status → Type 0
  read result = Takes g a b (dataset_step t.settings (edit_input t e)) rows_in result

  abbrev Edited : Result (Unit {0}) Status → Type 0
  Edited result = Takes g a b (edited_step t s e) (λ (x : Unit {0}). last) result

  pub edit_refused : (status : Status) → read (Err status) → Edited (Err status)
  edit_refused status first = takes_stopped g (dataset_step t.settings (edit_input t e)) (λ points. settled (Ok (refreshed t (replaced t e.input points s)))) a b rows_in (λ (x : Unit {0}). last) status first

  pub edit_unmade : (table : Tabled) (status : Status) → read (Ok table) → status ≡ st.Memory → Edited (Err status)
  edit_unmade table status first is =
      takes_onward g (dataset_step t.settings (edit_input t e)) (λ points. settled (Ok (refreshed t (replaced t e.input points s)))) a b b rows_in (λ (x : Unit {0}). last) table (Err status) first
      (memory_takes g b (λ (x : Unit {0}). last) (settled (Ok (refreshed t (replaced t e.input table.rows s)))) status is)

  pub edit_taken : (table : Tabled) (u : Unit {0}) → read (Ok table) → last ≡ refreshed t (replaced t e.input table.rows s) → Edited (Ok u)
  edit_taken table u first is =
      takes_onward g (dataset_step t.settings (edit_input t e)) (λ points. settled (Ok (refreshed t (replaced t e.input points s)))) a b b rows_in (λ (x : Unit {0}). last) table (Ok u) first
      (settled_ok g b (λ (x : Unit {0}). last) u (Ok (refreshed t (replaced t e.input table.rows s))) (ap Ok (sym is)))

-- ---- edits, the first one apart
module _ {F : Type 0} (g : Ghosts F) (t : Typed) (s next last : Stage) (e : Edit) (rest : List Edit) where
  pub edits_stopped : (a b : F) (status : Status) → Takes g a b (edited_step t s e) (λ (x : Unit {0}). next) (Err status) → Takes g a b (replayed_step t s (e ∷ rest)) (λ (x : Unit {0}). last) (Err status)
  edits_stopped a b status first = takes_stopped g (edited_step t s e) (λ now. replayed_step t now rest) a b (λ (x : Unit {0}). next) (λ (x : Unit {0}). last) status first

  pub edits_onward : (a b c : F) (u : Unit {0}) (result : Result (Unit {0}) Status) → Takes g a b (edited_step t s e) (λ (x : Unit {0}). next) (Ok u) → Takes g b c (replayed_step t next rest) (λ (x : Unit {0}). last) result
      → Takes g a c (replayed_step t s (e ∷ rest)) (λ (x : Unit {0}). last) result
  edits_onward a b c u result first then = takes_onward g (edited_step t s e) (λ now. replayed_step t now rest) a b c (λ (x : Unit {0}). next) (λ (x : Unit {0}). last) u result first then

-- those that are left at a place, the first one apart
pub edits_here : (edits : List Program) (i : ℕ) (e : Program) → i < length edits → e ≡ get_or edits i e → map edit_view (drop i edits) ≡ edit_view e ∷ map edit_view (drop (i + 1) edits)
edits_here edits i e h at = ap (map edit_view) (here_at edits i e h at)

pub edits_ended : {F : Type 0} (g : Ghosts F) (t : Typed) (s : Stage) (a : F) (u : Unit {0}) → Takes g a a (replayed_step t s []) (λ (x : Unit {0}). s) (Ok u)
edits_ended g t s a u = settled_ok g a (λ (x : Unit {0}). s) u (Ok s) refl

-- ---- what is made at the end
made_refused : (text : Text) (files : Result (List File) Status) (status : Status) → files_with text files ≡ Err status → files ≡ Err status
made_refused text (Ok files) status e = cc
made_refused text (Err other) status e = cc

module _ {F X : Type 0} (g : Ghosts F) (folder : Path) (t : Typed) (s last : Stage) (edits : List Edit) (view : X → Made) (a b : F) where
  pub carried_stopped : (status : Status) → Takes g a b (replayed_step t s edits) (λ (x : Unit {0}). last) (Err status) → Takes g a b (carried_on folder t s edits) view (Err status)
  carried_stopped status first = takes_stopped g (replayed_step t s edits) (λ end. settled (replay_made folder t end)) a b (λ (x : Unit {0}). last) view status first

  pub carried_made : (u : Unit {0}) (result : Result X Status) → Takes g a b (replayed_step t s edits) (λ (x : Unit {0}). last) (Ok u) → SettlesBy view (replay_made folder t last) result → Takes g a b (carried_on folder t s edits) view result
  carried_made u result first is =
      takes_onward g (replayed_step t s edits) (λ end. settled (replay_made folder t end)) a b b (λ (x : Unit {0}). last) view u result first
      (settled_given g b view (replay_made folder t last)
      (λ status e. results_refuse folder t.settings (meant t last.inputs) status (made_refused last.said (outputs_of folder t.settings (meant t last.inputs)) status e)) result is)

-- the same, seen in another way, or want of memory for that
module _ {F X Y : Type 0} (g : Ghosts F) (a b : F) (step : Step Made) (view : X → Made) (whole : Y → Made) where
  pub made_passed : (x : X) (result : Result Y Status) → Takes g a b step view (Ok x) → SettlesBy whole (Ok (view x)) result → Takes g a b step whole result
  made_passed x (Ok y) t is = let same : view x ≡ whole y = cc in record { reads = t.reads; came = subst (λ m. Gives g a step (Ok m)) same t.came; misses = t.misses }
  made_passed x (Err status) t (inl e) = record { reads = t.reads; came = subst (λ (s : Status). Came g a b step whole (Err s)) (sym e) tt; misses = subst (λ (s : Status). Misses g a b (told_by s)) (sym e) t.misses }
  made_passed x (Err status) t (inr e) = cc

  pub refusal_passed : (status : Status) → Takes g a b step view (Err status) → Takes g a b step whole (Err status)
  refusal_passed status t = record { reads = t.reads; came = t.came; misses = t.misses }
