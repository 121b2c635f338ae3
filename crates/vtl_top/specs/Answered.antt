-- What a status tells: how a call ended, by what the held bytes give.
use Rattle.std.specs.Prelude.{◌≡◌, ◌≤◌, ◌⊎◌, false, List, [], ◌∷◌, ◌++◌, Option, Result, Ok, Err, IfSome, chars, codes}
use Rattle.std.specs.Option.{option_map}
use Rattle.vtl_files.specs.Outside.{Rose, FaultAt}
use Rattle.vtl_files.specs.declared.files.Files.{Ghosts}
use Rattle.vtl_top.specs.Kinds.{Told, done, no_command, refused, absent, read_fault, write_fault, no_memory, told_by}
use Rattle.vtl_files.specs.Whole.{TakesFront}
use Rattle.vtl_files.specs.declared.sink.Sink.{Ghosts as Sinks}
use Rattle.vtl_top.specs.Forms.{IsMadeBy, asked_step}
use Rattle.vtl_top.specs.Said.{Hears, Says}
use Rattle.vtl_top.specs.Steps.{File, Made, Name, Path, Step, Text, status_of}
use Rattle.vtl_top.specs.Words.{Command}
use Rattle.vtl_status.specs.declared.status.Status.{Status}

-- Nothing but counts, place and mark has changed.
pub record OnlyReads {F : Type 0} (g : Ghosts F) (before now : F) : Type 0 where
  pub held : g.held now ≡ g.held before
  pub written : g.written now ≡ g.written before
  pub misuses : g.misuses now ≡ g.misuses before
  pub creating : g.creating now ≡ g.creating before
  pub faults : g.faults before ≤ g.faults now
  pub absences : g.absences before ≤ g.absences now

-- Nothing but the written files, counts, place and mark has changed, and no misuse was counted.
pub record OnlyWrites {F : Type 0} (g : Ghosts F) (before now : F) : Type 0 where
  pub held : g.held now ≡ g.held before
  pub misuses : g.misuses now ≡ g.misuses before
  pub faults : g.faults before ≤ g.faults now
  pub absences : g.absences now ≡ g.absences before

-- The file at this path, which is that of the last name, was not there.
abbrev pub Absent : {F : Type 0} → Ghosts F → F → F → Name → Type 0
Absent g before now path = (path ≡ chars (g.place now)) × Rose (g.absences before) (g.absences now)

-- There was a fault at this path, which is that of the last name.
abbrev pub Faulted : {F : Type 0} → Ghosts F → F → F → Name → Type 0
Faulted g before now path = (path ≡ chars (g.place now)) × FaultAt (g.faults before) (g.faults now) (g.mark now) (g.place now) (g.place now)

-- A file was not there, or `absences` is as before.
abbrev pub Misses : {F : Type 0} → Ghosts F → F → F → Told → Type 0
Misses g before now (absent path) = Rose (g.absences before) (g.absences now)
Misses g before now told = g.absences now ≡ g.absences before

-- Where the held files are told, the step gives this over them.
abbrev pub Gives : {F A : Type 0} → Ghosts F → F → Step A → Result A Status → Type 0
Gives g before step given = IfSome (g.held before) (λ held. step.gives held given)

-- ---- a step that only reads
-- Why it gave no value: by the held bytes, or a fault at a path that it reads, or want of memory.
abbrev pub Stops : {F A : Type 0} → Ghosts F → F → F → Step A → Status → Told → Type 0
Stops g before now step status done = ⊥
Stops g before now step status no_command = ⊥
Stops g before now step status (write_fault path) = ⊥
Stops g before now step status (read_fault path) = IfSome (g.held before) (λ held. step.reads held path) × Faulted g before now path
Stops g before now step status (absent path) = Gives g before step (Err status) × Absent g before now path
Stops g before now step status refused = Gives g before step (Err status)
Stops g before now step status no_memory = Unit {0}

-- what came of it
abbrev pub Came : {F X A : Type 0} → Ghosts F → F → F → Step A → (X → A) → Result X Status → Type 0
Came g before now step view (Ok x) = Gives g before step (Ok (view x))
Came g before now step view (Err status) = Stops g before now step status (told_by status)

-- The step was taken.
pub record Takes {F X A : Type 0} (g : Ghosts F) (before now : F) (step : Step A) (view : X → A) (result : Result X Status) : Type 0 where
  pub reads : OnlyReads g before now
  pub came : Came g before now step view result
  pub misses : Misses g before now (told_by (status_of result))

-- ---- a whole call
-- these files were written, whole and in order
abbrev pub Adds : (before now : Option (List File)) → List File → Type 0
Adds before now files = now ≡ option_map (λ all. all ++ files) before

-- nothing yet, or one more file with a front of these bytes
abbrev pub AddsFront : (before now : Option (List File)) → File → Type 0
AddsFront before now file = (now ≡ before) ⊎ ((front : Text) × (rest : Text) × (file.1 ≡ front ++ rest) × Adds before now ((file.0, front) ∷ []))

-- The files before the one at this path were written whole, and of that one nothing, or a front in a file of its name; and none behind it.
pub record AddsUpTo (before now : Option (List File)) (files : List File) (path : Name) : Type 0 where
  pub whole : List File
  pub name : Path
  pub front : Text
  pub left : Text
  pub rest : List File
  pub split : files ≡ whole ++ (name, front ++ left) ∷ rest
  pub named : path ≡ chars name
  pub told : Adds before now whole ⊎ Adds before now (whole ++ (name, front) ∷ [])

-- nothing was written, and nothing is being created
abbrev pub Rests : {F : Type 0} → Ghosts F → F → F → Type 0
Rests g before now = (g.written now ≡ g.written before) × (g.creating now ≡ false)

-- How files were written: all of them, or up to a fault at the path of one.
abbrev pub WritesAs : {F : Type 0} → Ghosts F → F → F → List File → Told → Type 0
WritesAs g before now files done = Adds (g.written before) (g.written now) files × (g.creating now ≡ false)
WritesAs g before now files (write_fault path) = AddsUpTo (g.written before) (g.written now) files path × Faulted g before now path
WritesAs g before now files _ = ⊥

-- ---- files and a sink
-- The text was the cause of a fault of writing: the files were written whole, the sink failed, and took a front of it.
pub record Unsaid {F O : Type 0} (g : Ghosts F) (o : Sinks O) (before now : F) (out between : O) (made : Made) (path : Name) : Type 0 where
  pub at_sink : path ≡ chars (codes "-")
  pub wrote : WritesAs g before now made.files done
  pub front : TakesFront (o.taken out) (o.taken between) made.text
  pub failed : Rose (o.faults out) (o.faults between)

-- How what was made was given out: whole, the files first; or up to a fault at the path of a file; or all files and a front of the text.
abbrev pub GivesOut : {F O : Type 0} → Ghosts F → Sinks O → (before now : F) → (out between : O) → Made → Told → Type 0
GivesOut g o before now out between made done = WritesAs g before now made.files done × Hears o out between made.text
GivesOut g o before now out between made (write_fault path) =
    (WritesAs g before now made.files (write_fault path) × (between ≡ out)) ⊎ Unsaid g o before now out between made path
GivesOut g o before now out between made _ = ⊥

-- What the command makes was given out so; where the held files are told, it is what they give.
pub record IsGivenOut {F O : Type 0} (g : Ghosts F) (o : Sinks O) (before now : F) (out between : O) (command : Option Command) (told : Told) : Type 0 where
  pub made : Made
  pub shape : IsMadeBy command made
  pub given : Gives g before (asked_step command) (Ok made)
  pub gave : GivesOut g o before now out between made told

-- How a command ended, before the line of its status: nothing is given out before all of it is made.
abbrev pub EndsAs : {F O : Type 0} → Ghosts F → Sinks O → (before now : F) → (out between : O) → Option Command → Status → Told → Type 0
EndsAs g o before now out between command status done = IsGivenOut g o before now out between command done
EndsAs g o before now out between command status (write_fault path) = IsGivenOut g o before now out between command (write_fault path)
EndsAs g o before now out between command status no_command = Rests g before now × (between ≡ out) × Gives g before (asked_step command) (Err status)
EndsAs g o before now out between command status told = Rests g before now × (between ≡ out) × Stops g before now (asked_step command) status told

-- How a call ended: how its command did, and then the line of the status, whole unless the sink failed meanwhile.
pub record Ends {F O : Type 0} (g : Ghosts F) (o : Sinks O) (before now : F) (out out_now : O) (command : Option Command) (status : Status) : Type 0 where
  pub between : O
  pub command_ends : EndsAs g o before now out between command status (told_by status)
  pub line : Says o between out_now status
