use Rattle.std.proofs.Common.{◌≡◌, ◌∙◌, None, ap, is_some, not, option_copied, sym}
use Rattle.vtl_rows.specs.Named.{table_of}
use Rattle.vtl_rerun.proofs.Putting.{copied_none, copied_some, put_new, put_old}
use Rattle.vtl_rerun.proofs.given.put.Goals as goal

pub returns-in_ok-share-in-Some-2 : goal.returns-in_ok-share-in-Some-2
returns-in_ok-share-in-Some-2 c =
    let none : table_of c.args.name.now c.args.tables.now ≡ None = sym c.shared.ensures ∙ copied_none c.shared.result (c.is_none.ensures ∙ ap not c.if-is_none.true) in
    put_new c.args.tables.now c.put_shared.new.self c.args.name.now c.in_ok-share-in-Some.field-0 (option_copied c.args.table) c.in-Some.table.now c.in_ok-share-in-Some-2.field-0 c.put_shared.result none (ap option_copied c.in-Some.is) c.in_ok-share-in-Some.ensures c.in_ok-share-in-Some-2.ensures c.put_shared.ensures.put

pub returns-in_default : goal.returns-in_default
returns-in_default c =
    put_old c.args.tables.now c.args.name.now (option_copied c.args.table) c.in-Some.table.now (ap is_some (sym c.shared.ensures) ∙ copied_some c.shared.result (c.is_none.ensures ∙ ap not c.if-is_none.false)) (ap option_copied c.in-Some.is)
