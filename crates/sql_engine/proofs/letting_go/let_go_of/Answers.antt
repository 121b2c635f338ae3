use Rattle.std.proofs.Common.{◌≡◌, ◌∙◌, Some, ap, sym, subst}
use Rattle.std.specs.Map.{set_value}
use Rattle.std.specs.Option.{option_map}
use Rattle.vtl_text.specs.Texts.{same_text}
use Rattle.vtl_rows.specs.Named.{table_of}
use Rattle.vtl_rows.specs.Tables.{listed}
use Rattle.sql_engine.specs.Held.{MayLetGo}
use Rattle.sql_engine.specs.LastReads.{is_read_from}
use Rattle.sql_engine.proofs.LettingGo.{none_let_go, one_let_go}
use Rattle.sql_engine.proofs.letting_go.let_go_of.Goals as goal

pub returns-then-is_read_from : goal.returns-then-is_read_from
returns-then-is_read_from c = none_let_go (is_read_from c.args.place c.args.last.now) c.args.tables.now

pub returns-in_default : goal.returns-in_default
returns-in_default c = none_let_go (is_read_from c.args.place c.args.last.now) c.args.tables.now

pub returns : goal.returns
returns c =
    let is_kept = is_read_from c.args.place c.args.last.now in
    let held = c.args.tables.now in
    let name = c.args.name.now in
    let t = listed c.in-Some.table.now in
    let there : table_of name held ≡ Some t = sym c.get.ensures ∙ ap (option_map (λ u. listed u.now)) c.in-Some.is in
    let put = c.replace-before.ensures.replaced ∙ ap (set_value (same_text name) held) c.in_ok-empty.ensures in
    subst (MayLetGo is_kept held) (sym put) (one_let_go is_kept name held t (sym c.is_read_from.ensures ∙ c.if-is_read_from.false) there)
