use Rattle.std.proofs.Common.{pos, sym, ap, ◌∙◌}
use Rattle.sql_check_parts.specs.Statements.{scale_of}
use Rattle.vtl_cell.specs.Literals.{lies_between}
use Rattle.sql_check.proofs.Settled.{set_broken, sets_given}
use Rattle.sql_check.proofs.settings.settings.Goals as goal

pub returns-then-lies_between : goal.returns-then-lies_between
returns-then-lies_between c =
    let e = c.scale_written-written.ensures in
    sets_given c.args.digits.now c.args.rounding c.scale_of.result c.new.result (ap (lies_between (pos 0) (pos 9)) (sym e) ∙ sym c.lies_between.ensures ∙ c.if-lies_between.true)
    (c.scale_of.ensures.value ∙ ap scale_of e) c.scale_of.ensures.small c.new.ensures.valid.1 c.new.ensures.scale c.new.ensures.rounding

pub returns-else-lies_between : goal.returns-else-lies_between
returns-else-lies_between c =
    set_broken _ (ap (lies_between (pos 0) (pos 9)) (sym c.scale_written-written.ensures) ∙ sym c.lies_between.ensures ∙ c.if-lies_between.false)
