-- A run, without where its paths and its profile lie in memory.
use Rattle.vtl_top.specs.Words.{Command, Engine, Migration, Replay, Run, Setting, Source, demo, engine, format, lineage, migrate, replay, rounding, run, scale, sql, sqlrun}
use Rattle.vtl_top.specs.declared.words.Source.{Source as SourceWords}
use Rattle.vtl_top.specs.declared.words.Command.{Command as CommandWords}
use Rattle.vtl_top.specs.declared.words.Command.TheVariants as asked
use Rattle.vtl_top.specs.declared.words.Engine.{Engine as EngineWords}
use Rattle.vtl_top.specs.declared.words.Migration.{Migration as MigrationWords}
use Rattle.vtl_top.specs.declared.words.Replay.{Replay as ReplayWords}
use Rattle.vtl_top.specs.declared.words.Run.{Run as Words}
use Rattle.vtl_top.specs.declared.words.Setting.{Setting as Option}
use Rattle.vtl_top.specs.declared.words.Setting.TheVariants as option

abbrev pub source_view : SourceWords → Source
source_view w = record { script = w.script.now; structures = w.structures.now; chosen = w.chosen }

abbrev pub run_view : Words → Run
run_view w = record { source = source_view w.source; input = w.input.now; output = w.output.now }

abbrev pub replay_view : ReplayWords → Replay
replay_view w = record { source = source_view w.source; input = w.input.now; edits = w.edits.now; output = w.output.now }

abbrev pub engine_view : EngineWords → Engine
engine_view w = record { sql = w.sql.now; input = w.input.now; output = w.output.now }

abbrev pub migration_view : MigrationWords → Migration
migration_view w = record { structures = w.structures.now; chosen = w.chosen }

abbrev pub command_view : CommandWords → Command
command_view (asked.Run w) = run (run_view w)
command_view (asked.SqlRun w) = sqlrun (run_view w)
command_view (asked.Sql w) = sql (source_view w)
command_view (asked.Engine w) = engine (engine_view w)
command_view (asked.Replay w) = replay (replay_view w)
command_view (asked.Lineage w) = lineage (source_view w)
command_view (asked.Format path) = format path.now
command_view (asked.Migrate w) = migrate (migration_view w)
command_view (asked.Demo points) = demo points

abbrev pub setting_view : Option → Setting
setting_view (option.Scale digits) = scale digits
setting_view (option.Rounding mode) = rounding mode
