-- What is handed to the sink.
use Rattle.std.specs.Prelude.{◌≡◌, ◌≤◌, []}
use Rattle.vtl_files.specs.Outside.{Rose, TakesAll}
use Rattle.vtl_files.specs.Whole.{TakesFront}
use Rattle.vtl_files.specs.declared.sink.Sink.{Ghosts}
use Rattle.vtl_status.specs.StatusLine.{line_of}
use Rattle.vtl_top.specs.Steps.{Text}
use Rattle.vtl_status.specs.declared.status.Status.{Status}
use Rattle.vtl_status.specs.declared.status.Status.TheVariants as st

-- The sink took this text whole; where there is none, it is as before.
pub record Hears {S : Type 0} (g : Ghosts S) (before now : S) (text : Text) : Type 0 where
  pub taken : TakesAll (g.taken before) (g.taken now) text
  pub silent : text ≡ [] → now ≡ before

-- This line was handed to the sink: a front of it, and all of it where the sink did not fail.
pub record HearsLine {S : Type 0} (g : Ghosts S) (before now : S) (line : Text) : Type 0 where
  pub front : TakesFront (g.taken before) (g.taken now) line
  pub whole : ¬ Rose (g.faults before) (g.faults now) → TakesAll (g.taken before) (g.taken now) line
  pub faults : g.faults before ≤ g.faults now

-- What is said of a status: of Done nothing, and the sink is as before; of another one its line.
abbrev pub Says : {S : Type 0} → Ghosts S → S → S → Status → Type 0
Says g before now st.Done = now ≡ before
Says g before now status = HearsLine g before now (line_of status)
