use Rattle.std.proofs.Common.{ℕ, List}
use Rattle.std.specs.Map.{lookup}
use Rattle.std.specs.Prelude.{◌≡◌, Some, if◌then◌else◌}
use Rattle.vtl_text.specs.Texts.{same_text}
use Rattle.sql_engine.specs.LastReads.{IsNoted}
use Rattle.sql_engine.proofs.Noting.{noted, on_ok}
use Rattle.sql_engine.proofs.expression_reads.note.Goals as goal

pub returns : goal.returns
returns c =
    let last = c.args.last.now in
    let now = c.set_named.new.named in
    let name = c.args.name.now in
    let place = c.args.place in
    on_ok c.set_named.result ((q : List ℕ) → lookup (same_text q) now ≡ (if same_text name q then Some place else lookup (same_text q) last)) (IsNoted place last now (λ P. P name))
    (noted last now name place) c.set_named.ensures
