-- The form of each command: what its words ask for, what it gives out, and what a back end is told.
use Rattle.std.specs.Prelude.{◌≡◌, [], Option, Some, None, Ok, Err}
use Rattle.vtl_demo.specs.DataSets.{declared as sets}
use Rattle.vtl_demo.specs.Nodes.{typed_nodes}
use Rattle.vtl_demo.specs.Said.{said}
use Rattle.vtl_demo.specs.Script as script
use Rattle.vtl_top.specs.Expected.{Typed, format_step, run_step, text_step, typed_by, typed_step}
use Rattle.vtl_top.specs.Linked.{lineage_step}
use Rattle.vtl_top.specs.Migrated.{migrate_step}
use Rattle.vtl_top.specs.Replayed.{replay_step}
use Rattle.vtl_top.specs.SqlRun.{engine_step}
use Rattle.vtl_top.specs.Steps.{Made, Step, as_files, as_text, only_text, settled}
use Rattle.vtl_top.specs.Words.{Command, demo, engine, format, lineage, migrate, replay, run, sql, sqlrun}
use Rattle.vtl_status.specs.declared.status.Status.TheVariants as st

-- what a command gives out: nothing, files, a text, or files and behind them a text
pub data Half : Type 0 where
  nothing : Half
  files_alone : Half
  text_alone : Half
  both : Half

-- what is made has no other part
abbrev pub IsOfHalf : Half → Made → Type 0
IsOfHalf nothing made = ⊥
IsOfHalf files_alone made = made.text ≡ []
IsOfHalf text_alone made = made.files ≡ []
IsOfHalf both made = Unit {0}

-- what a back end is told: nothing, the script that a step gives, or a script that stands in no file
pub data Tells : Type 1 where
  silent : Tells
  of_step : Step Typed → Tells
  of_itself : Typed → Tells

pub record Form : Type 1 where
  pub step : Step Made
  pub half : Half
  pub tells : Tells

-- the script of the demonstration
abbrev pub demonstration : Typed
demonstration = typed_by script.tree (record { sets = sets; not_null = [] }) script.settings typed_nodes

-- the form of a command, and of words that are none
abbrev pub form_of : Option Command → Form
form_of None = record { step = settled (Err st.Usage); half = nothing; tells = silent }
form_of (Some (run r)) = record { step = as_files (run_step r); half = files_alone; tells = silent }
form_of (Some (sqlrun r)) = record { step = as_files (run_step r); half = files_alone; tells = of_step (typed_step r.source) }
form_of (Some (sql s)) = record { step = as_text (text_step s); half = text_alone; tells = silent }
form_of (Some (engine e)) = record { step = as_files (engine_step e); half = files_alone; tells = silent }
form_of (Some (replay r)) = record { step = replay_step r; half = both; tells = silent }
form_of (Some (lineage s)) = record { step = as_text (lineage_step s); half = text_alone; tells = silent }
form_of (Some (format path)) = record { step = as_text (format_step path); half = text_alone; tells = silent }
form_of (Some (migrate m)) = record { step = as_text (migrate_step m); half = text_alone; tells = silent }
form_of (Some (demo n)) = record { step = settled (Ok (only_text (said n))); half = text_alone; tells = of_itself demonstration }

-- what the words ask for
abbrev pub asked_step : Option Command → Step Made
asked_step command = (form_of command).step

-- this is of the half that the command gives out
abbrev pub IsMadeBy : Option Command → Made → Type 0
IsMadeBy command made = IsOfHalf (form_of command).half made
