use Rattle.std.proofs.Common.{ap, ◌∙◌}
use Rattle.vtl_csv.specs.StructuresText.{second_text}
use Rattle.vtl_top.specs.RunView.{migration_view}
use Rattle.vtl_top.proofs.RunLemmas.{migration_made}
use Rattle.vtl_top.proofs.migrate.prepare_migration.Goals as goal

pub returns : goal.returns
returns g c =
    let d = c.in_ok-declared.declared in
    migration_made g.F.Files (migration_view c.args.migration.now) (λ text. text.items) c.args.files.now c.read_structures_file.new.files d c.in_ok-declared.ensures c.in_ok-write_structures.field-0
    (c.in_ok-write_structures.ensures ∙ ap (second_text d.structures) c.profile-profile.ensures)
