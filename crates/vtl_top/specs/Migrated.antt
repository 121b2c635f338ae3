-- What a structures file declares, as the text of version 2.
use Rattle.std.specs.Prelude.{◌≡◌, Ok}
use Rattle.vtl_decimal.specs.Settings.{Settings}
use Rattle.vtl_csv.specs.StructuresText.{second_text}
use Rattle.vtl_csv.specs.declared.structures.Declared.{Declared as Whole}
use Rattle.vtl_top.specs.Expected.{structures_step}
use Rattle.vtl_top.specs.Steps.{Held, Step, Text, ◌>>=◌, settled}
use Rattle.vtl_top.specs.Words.{Migration, settings_for}

-- the settings that are declared from now on
abbrev pub settings_in : Migration → Whole → Settings
settings_in m d = settings_for m.chosen d.profile

abbrev pub migrated : Migration → Whole → Text
migrated m d = second_text d.structures (settings_in m d)

-- the text of version 2 that declares what the file declares, and the settings of a run
abbrev pub migrate_step : Migration → Step Text
migrate_step m = structures_step m.structures >>= λ d. settled (Ok (migrated m d))

-- The file at the path declares this, and the text is that of version 2 of it.
pub record IsMigrated (m : Migration) (held : Held) (text : Text) : Type 0 where
  pub declared : Whole
  pub file : (structures_step m.structures).gives held (Ok declared)
  pub text_of : text ≡ migrated m declared
