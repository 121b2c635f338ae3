use Rattle.std.proofs.Common.{sym, ◌∙◌}
use Rattle.vtl_csv.proofs.PlainLineLemmas.{short_kept, marked_stripped, unmarked_kept}
use Rattle.vtl_csv.proofs.plain_lines.without_bom.Goals as goal

pub returns-in_default : goal.returns-in_default
returns-in_default c = short_kept c.args.text.now c.in_default.len_below

pub returns-then-is_bom : goal.returns-then-is_bom
returns-then-is_bom c = marked_stripped c.args.text.now c.in-len3-up.len_at_least (sym c.is_bom.ensures ∙ c.if-is_bom.true)

pub returns : goal.returns
returns c = unmarked_kept c.args.text.now c.in-len3-up.len_at_least (sym c.is_bom.ensures ∙ c.if-is_bom.false)
