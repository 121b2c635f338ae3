-- A run, and an engine that is given the text of its script in SQL over the same data sets.
use Rattle.std.specs.Prelude.{◌≡◌, ◌⊎◌, ◌++◌, List, map, Ok, Err, Result, Some}
use Rattle.std.specs.List.{AllByRecursion}
use Rattle.vtl_files.specs.Outside.{bytes_at}
use Rattle.vtl_files.specs.declared.files.Files.{Ghosts}
use Rattle.vtl_files.specs.declared.sink.Sink.{Ghosts as Sinks}
use Rattle.vtl_tree.specs.Structures.{Named}
use Rattle.vtl_check.specs.Uses.{reads}
use Rattle.vtl_top.specs.Answered.{Adds}
use Rattle.vtl_top.specs.Expected.{file_in}
use Rattle.vtl_top.specs.Forms.{asked_step}
use Rattle.vtl_top.specs.Meant.{IsTextMeant}
use Rattle.vtl_top.specs.Steps.{File, Held, Made, Name, Path, Step, Text}
use Rattle.vtl_top.specs.Words.{Engine, Run, engine, run, sql}
use Rattle.vtl_status.specs.declared.status.Status.{Status}
use Rattle.vtl_status.specs.declared.status.Status.TheVariants as st

-- ---- what both hold
-- of each of these data sets the file in a folder holds the same bytes in both, or is in neither
abbrev pub HoldSame : Path → (held other : Held) → Named → Type 0
HoldSame folder held other sets = AllByRecursion (λ e. bytes_at (file_in folder e.0) other ≡ bytes_at (file_in folder e.0) held) sets

-- The SQL file of an engine holds a text of the script of a run; the folder of inputs is that of the run, and the files of the data
-- sets that the script reads hold the same bytes.
pub record AreTwins (r : Run) (e : Engine) (held other : Held) : Type 0 where
  pub text : Text
  pub script : IsTextMeant r.source held text
  pub sql_file : bytes_at e.sql other ≡ Some text
  pub input : e.input ≡ r.input
  pub same : HoldSame r.input held other (reads script.typed.structures script.typed.nodes)

-- The SQL file of an engine holds what `sql` prints of the script of a run; the folder of inputs is that of the run, and its files of
-- data sets hold the same bytes.
pub record IsPrinted (r : Run) (e : Engine) (held other : Held) : Type 0 where
  pub made : Made
  pub printed : (asked_step (Some (sql r.source))).gives held (Ok made)
  pub sql_file : bytes_at e.sql other ≡ Some made.text
  pub input : e.input ≡ r.input
  pub same : (name : Name) → bytes_at (file_in r.input name) other ≡ bytes_at (file_in r.input name) held

-- The text that the sink took in a call is kept as the SQL file of an engine; the folder of inputs is that of a run, and its files of
-- data sets hold the same bytes.
pub record IsKept {O : Type 0} (o : Sinks O) (before now : O) (r : Run) (e : Engine) (held other : Held) : Type 0 where
  pub heard : Text
  pub text : Text
  pub taken : o.taken before ≡ Some heard
  pub gained : o.taken now ≡ Some (heard ++ text)
  pub sql_file : bytes_at e.sql other ≡ Some text
  pub input : e.input ≡ r.input
  pub same : (name : Name) → bytes_at (file_in r.input name) other ≡ bytes_at (file_in r.input name) held

-- ---- what both give
-- a file behind a folder word
abbrev pub behind : Path → File → File
behind folder file = (folder ++ file.0, file.1)

-- The same files in the same order: their names agree behind the folder words, and their bytes are equal.
pub record AreSameFiles (first second : Path) (here there : List File) : Type 0 where
  pub files : List File
  pub in_first : here ≡ map (behind first) files
  pub in_second : there ≡ map (behind second) files

-- The same files so, and the same text.
pub record AreSameMade (first second : Path) (here there : Made) : Type 0 where
  pub made : AreSameFiles first second here.files there.files
  pub said : here.text ≡ there.text

-- the same status, or values that are the same in this sense
abbrev pub ComeToSame : {A B : Type 0} → (A → B → Type 0) → Result A Status → Result B Status → Type 0
ComeToSame Same (Ok x) (Ok y) = Same x y
ComeToSame Same (Ok x) (Err status) = ⊥
ComeToSame Same (Err status) (Ok y) = ⊥
ComeToSame Same (Err status) (Err other) = status ≡ other

-- The step gives one of these over the held files.
pub record GivesOne {A : Type 0} (step : Step A) (held : Held) (Is : Result A Status → Type 0) : Type 0 where
  pub given : Result A Status
  pub there : step.gives held given
  pub is : Is given

-- An outcome of each, and they come to the same.
pub record IsOutcomeOf (r : Run) (e : Engine) (held other : Held) : Type 0 where
  pub given : Result Made Status
  pub found : Result Made Status
  pub of_run : (asked_step (Some (run r))).gives held given
  pub of_engine : (asked_step (Some (engine e))).gives other found
  pub alike : ComeToSame (AreSameMade r.output e.output) given found

-- ---- what two calls did
-- They added the same files, in the same order and each behind its folder word, to those that had been written before.
pub record WroteSame {F : Type 0} (g : Ghosts F) (here there : Path) (a b c d : F) : Type 0 where
  pub files : List File
  pub first : Adds (g.written a) (g.written b) (map (behind here) files)
  pub second : Adds (g.written c) (g.written d) (map (behind there) files)

-- They answered the same, unless memory ran out in one; and where both were done, they wrote the same.
pub record EndAlike {F : Type 0} (g : Ghosts F) (here there : Path) (a b c d : F) (status found : Status) : Type 0 where
  pub answers : (status ≡ st.Memory) ⊎ ((found ≡ st.Memory) ⊎ (status ≡ found))
  pub wrote : status ≡ st.Done → found ≡ st.Done → WroteSame g here there a b c d
