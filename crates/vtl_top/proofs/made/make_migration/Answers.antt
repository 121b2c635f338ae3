use Rattle.std.proofs.Common.{[], ap, map, refl}
use Rattle.vtl_top.specs.MadeView.{made_view}
use Rattle.vtl_top.specs.Migrated.{migrate_step}
use Rattle.vtl_top.specs.OutputView.{output_view}
use Rattle.vtl_top.specs.RunView.{migration_view}
use Rattle.vtl_top.specs.Steps.{only_text}
use Rattle.vtl_top.proofs.MadeLemmas.{settles}
use Rattle.vtl_top.proofs.RunLemmas.{wrapped, wrapped_refusal}
use Rattle.vtl_top.proofs.made.make_migration.Goals as goal

pub returns-in-Ok-clause-takes : goal.returns-in-Ok-clause-takes
returns-in-Ok-clause-takes g c =
    wrapped g.F.Files c.args.files.now c.prepare_migration.new.files (migrate_step (migration_view c.args.asked.now)) only_text (λ text. text.items) made_view c.in-Ok.text c.made_of.result c.in-Ok.ensures
    (settles c.new.result c.in-Ok.text [] c.in-Ok.text.items c.made_of.result c.made_of.ensures (ap (map output_view) c.new.ensures.items) refl)

pub returns-in-Err-clause-takes : goal.returns-in-Err-clause-takes
returns-in-Err-clause-takes g c =
    wrapped_refusal g.F.Files c.args.files.now c.prepare_migration.new.files (migrate_step (migration_view c.args.asked.now)) only_text (λ text. text.items) made_view c.in-Err.status c.in-Err.ensures
