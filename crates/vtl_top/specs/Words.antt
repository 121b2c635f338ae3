-- The command that the words of a command line are.
use Rattle.std.specs.Prelude.{◌≡◌, ◌⊎◌, ℕ, ◌-◌, Bool, not, ◌&&◌, ◌==◌, List, [], ◌∷◌, length, nat_le, Option, Some, None, option_map, unwrap_or, codes, if◌then◌else◌}
use Rattle.std.specs.List.{list_all}
use Rattle.std.specs.Option.{option_and_then}
use Rattle.vtl_decimal.specs.Settings.{Settings}
use Rattle.vtl_decimal.specs.declared.settings.Rounding.{Rounding}
use Rattle.vtl_decimal.specs.declared.settings.Rounding.TheVariants.{Down, HalfEven, HalfUp}
use Rattle.vtl_time.specs.Numerals.{number_in_digits}
use Rattle.vtl_tree.specs.Structure.{same_name}
use Rattle.vtl_demo.specs.DataSets.{most_points}
use Rattle.vtl_top.specs.Steps.{Path, Text}

-- what options chose, each or not
pub record Chosen : Type 0 where
  pub scale : Option ℕ
  pub rounding : Option Rounding

-- the paths of a script and of its structures, and what the options chose
pub record Source : Type 0 where
  pub script : Path
  pub structures : Path
  pub chosen : Chosen

-- the path of a structures file that is written as version 2, and what the options chose
pub record Migration : Type 0 where
  pub structures : Path
  pub chosen : Chosen

-- a script that is run, from the folder of its inputs into the folder of its outputs
pub record Run : Type 0 where
  pub source : Source
  pub input : Path
  pub output : Path

-- a script that is run, and run again each time that an input is replaced, as an edits file says; its last outputs are written
pub record Replay : Type 0 where
  pub source : Source
  pub input : Path
  pub edits : Path
  pub output : Path

-- an SQL file that is run, from the folder of its inputs into the folder of its exports
pub record Engine : Type 0 where
  pub sql : Path
  pub input : Path
  pub output : Path

-- a command, with its paths and options: a script is run by the interpreter, or by its text in SQL; its text in SQL is said; an SQL
-- file is run; a script is run while inputs are replaced; the links of a script are said; the canonical text of the script at a path is
-- said; a structures file is said as version 2; the demonstration is run over so many points
pub data Command : Type 0 where
  run : Run → Command
  sqlrun : Run → Command
  sql : Source → Command
  engine : Engine → Command
  replay : Replay → Command
  lineage : Source → Command
  format : Path → Command
  migrate : Migration → Command
  demo : ℕ → Command

-- the command runs a script, in either way
abbrev pub RunsScript : Command → Run → Type 0
RunsScript command r = (command ≡ run r) ⊎ (command ≡ sqlrun r)

abbrev pub is_path : Path → Bool
is_path word = not (length word == 0)

-- ---- options
-- what an option sets
pub data Setting : Type 0 where
  scale : ℕ → Setting
  rounding : Rounding → Setting

abbrev pub is_digit : ℕ → Bool
is_digit b = nat_le 48 b && nat_le b 57

-- one digit
abbrev pub scale_in : Text → Option ℕ
scale_in (b ∷ []) = if is_digit b then Some (b - 48) else None
scale_in _ = None

abbrev pub rounding_in : Text → Option Rounding
rounding_in word =
    if same_name word (codes "half_up") then Some HalfUp
    else (if same_name word (codes "half_even") then Some HalfEven
    else (if same_name word (codes "down") then Some Down else None))

-- the setting of an option and its value: `--scale D` or `--round R`
abbrev pub setting_in : Text → Text → Option Setting
setting_in name value =
    if same_name name (codes "--scale") then option_map scale (scale_in value)
    else (if same_name name (codes "--round") then option_map rounding (rounding_in value) else None)

-- a scale has at most nine digits
abbrev pub chosen_with : Option ℕ → Option Rounding → Option Chosen
chosen_with None mode = Some (record { scale = None; rounding = mode })
chosen_with (Some digits) mode = if nat_le digits 9 then Some (record { scale = Some digits; rounding = mode }) else None

-- one option
abbrev pub one_set : Setting → Option Chosen
one_set (scale digits) = chosen_with (Some digits) None
one_set (rounding mode) = chosen_with None (Some mode)

-- each of the two options once, in either order
abbrev pub both_set : Setting → Setting → Option Chosen
both_set (scale digits) (rounding mode) = chosen_with (Some digits) (Some mode)
both_set (rounding mode) (scale digits) = chosen_with (Some digits) (Some mode)
both_set _ _ = None

-- what the words behind the paths choose: each option at most once, in either order
abbrev pub chosen_in : List Text → Option Chosen
chosen_in [] = chosen_with None None
chosen_in (name ∷ value ∷ []) = option_and_then one_set (setting_in name value)
chosen_in (name ∷ value ∷ other ∷ its_value ∷ []) =
    option_and_then (λ first. option_and_then (both_set first) (setting_in other its_value)) (setting_in name value)
chosen_in _ = None

-- ---- settings
-- six digits after the point, and halves go away from zero
abbrev pub default_settings : Settings
default_settings = record { scale = 6; rounding = HalfUp }

-- the settings of a run: of scale and rounding each what the options chose, else what the structures file declares, else the default
abbrev pub settings_for : Chosen → Option Settings → Settings
settings_for chosen declared = record {
  scale = unwrap_or chosen.scale (unwrap_or declared default_settings).scale;
  rounding = unwrap_or chosen.rounding (unwrap_or declared default_settings).rounding;
}

-- ---- commands
abbrev pub source_with : (script structures : Path) → Chosen → Source
source_with script structures chosen = record { script = script; structures = structures; chosen = chosen }

-- the words behind `sql` and `lineage`: SCRIPT STRUCTURES, each a path, and then options
abbrev pub source_of : List Text → Option Source
source_of (script ∷ structures ∷ options) =
    if list_all is_path (script ∷ structures ∷ []) then option_map (source_with script structures) (chosen_in options) else None
source_of _ = None

abbrev pub run_with : (input output : Path) → Source → Run
run_with input output source = record { source = source; input = input; output = output }

-- the words behind `run` and `sqlrun`: SCRIPT STRUCTURES IN OUT, each a path, and then options
abbrev pub run_of : List Text → Option Run
run_of (script ∷ structures ∷ input ∷ output ∷ options) =
    if list_all is_path (input ∷ output ∷ []) then option_map (run_with input output) (source_of (script ∷ structures ∷ options)) else None
run_of _ = None

abbrev pub engine_with : (file input output : Path) → Engine
engine_with file input output = record { sql = file; input = input; output = output }

-- the words behind `engine`: SQLFILE IN OUT, each a path
abbrev pub engine_of : List Text → Option Engine
engine_of (file ∷ input ∷ output ∷ []) = if list_all is_path (file ∷ input ∷ output ∷ []) then Some (engine_with file input output) else None
engine_of _ = None

abbrev pub replay_with : (input edits output : Path) → Source → Replay
replay_with input edits output source = record { source = source; input = input; edits = edits; output = output }

-- the words behind `replay`: SCRIPT STRUCTURES IN EDITS OUT, each a path, and then options
abbrev pub replay_of : List Text → Option Replay
replay_of (script ∷ structures ∷ input ∷ edits ∷ output ∷ options) =
    if list_all is_path (input ∷ edits ∷ output ∷ []) then option_map (replay_with input edits output) (source_of (script ∷ structures ∷ options)) else None
replay_of _ = None

-- the word behind `format`: SCRIPT, a path
abbrev pub path_of : List Text → Option Path
path_of (path ∷ []) = if is_path path then Some path else None
path_of _ = None

abbrev pub migration_with : (structures : Path) → Chosen → Migration
migration_with structures chosen = record { structures = structures; chosen = chosen }

-- the words behind `migrate`: STRUCTURES, a path, and then options
abbrev pub migration_of : List Text → Option Migration
migration_of (structures ∷ options) = if is_path structures then option_map (migration_with structures) (chosen_in options) else None
migration_of _ = None

-- a number of points that the demonstration may have
abbrev pub may_be_points : ℕ → Option ℕ
may_be_points n = if nat_le 1 n && nat_le n most_points then Some n else None

-- the decimal of such a number, which has at most seven digits, and no 0 before them
abbrev pub points_in : Text → Option ℕ
points_in [] = None
points_in (b ∷ bs) = if not (b == 48) && nat_le (length (b ∷ bs)) 7 then option_and_then may_be_points (number_in_digits (b ∷ bs)) else None

-- the word behind `demo`: POINTS
abbrev pub points_of : List Text → Option ℕ
points_of (word ∷ []) = points_in word
points_of _ = None

-- the command that the words are, by its name
abbrev pub command_of : List Text → Option Command
command_of [] = None
command_of (name ∷ words) =
    if same_name name (codes "run") then option_map run (run_of words)
    else (if same_name name (codes "sqlrun") then option_map sqlrun (run_of words)
    else (if same_name name (codes "sql") then option_map sql (source_of words)
    else (if same_name name (codes "engine") then option_map engine (engine_of words)
    else (if same_name name (codes "replay") then option_map replay (replay_of words)
    else (if same_name name (codes "lineage") then option_map lineage (source_of words)
    else (if same_name name (codes "format") then option_map format (path_of words)
    else (if same_name name (codes "migrate") then option_map migrate (migration_of words)
    else (if same_name name (codes "demo") then option_map demo (points_of words) else None))))))))
