-- What a back end was told of the script that is run.
use Rattle.std.specs.Prelude.{◌≡◌, ⊤, Option, Ok, IfSome}
use Rattle.vtl_files.specs.declared.files.Files.{Ghosts}
use Rattle.vtl_check.specs.Checked.{TypedScript, nodes_of, tree_of}
use Rattle.vtl_top.specs.Expected.{Typed, typed_by}
use Rattle.vtl_top.specs.Forms.{Tells, form_of, of_itself, of_step, silent}
use Rattle.vtl_top.specs.Steps.{Held, Step}
use Rattle.vtl_top.specs.Words.{Command}
use Rattle.vtl_status.specs.declared.status.Status.{Status}
use Rattle.vtl_status.specs.declared.status.Status.TheVariants as st

-- a status that comes of evaluating the script: it was carried out, or has a fault
abbrev pub HasRun : Status → Type 0
HasRun st.Done = ⊤
HasRun (st.DivZero name) = ⊤
HasRun (st.Range name) = ⊤
HasRun status = ⊥

-- a typed script, without where its parts lie in memory
abbrev pub typed_view : TypedScript → Typed
typed_view t = typed_by (tree_of t) (record { sets = t.declared; not_null = t.not_null }) t.settings (nodes_of t)

-- The back end was told of the script that the step gives over these held files.
pub record IsTold (held : Held) (step : Step Typed) (told : TypedScript → Type 0) : Type 0 where
  pub script : TypedScript
  pub given : step.gives held (Ok (typed_view script))
  pub told_of : told script

-- It was told of this script.
pub record IsToldOf (t : Typed) (told : TypedScript → Type 0) : Type 0 where
  pub script : TypedScript
  pub same : typed_view script ≡ t
  pub told_of : told script

-- A call that evaluated the step's script told the back end of it, where the held files are told.
abbrev pub TellsRun : {F : Type 0} → Ghosts F → F → Step Typed → (TypedScript → Type 0) → Status → Type 0
TellsRun g before step told status = HasRun status → IfSome (g.held before) (λ held. IsTold held step told)

-- what a call does to the back end: it leaves it as it was, or, where it evaluated a script, it told it of this one
abbrev pub Informed : {F B : Type 0} → Ghosts F → F → (B → TypedScript → Type 0) → (old new : B) → Tells → Status → Type 0
Informed g before told old new silent status = new ≡ old
Informed g before told old new (of_step step) status = TellsRun g before step (told new) status
Informed g before told old new (of_itself t) status = HasRun status → IsToldOf t (told new)

-- what each command does to it
abbrev pub Informs : {F B : Type 0} → Ghosts F → F → (B → TypedScript → Type 0) → (old new : B) → Option Command → Status → Type 0
Informs g before told old new command status = Informed g before told old new (form_of command).tells status
