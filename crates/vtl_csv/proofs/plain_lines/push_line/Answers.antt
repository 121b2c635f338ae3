use Rattle.vtl_csv.proofs.PlainLineLemmas.{field_taken, line_ends, text_ends}
use Rattle.vtl_csv.proofs.plain_lines.push_line.Goals as goal

pub returns-in_default : goal.returns-in_default
returns-in_default c =
    text_ends c.args.text.now c.loop-mark.rest.now c.loop-mark.fields.items c.split_at.result.0 c.split_at.result.1.now c.first_mark.result c.first_mark.ensures.place c.split_at.ensures.front c.split_at.ensures.back c.loop-mark.invariant
    c.push.new.self.items c.in_ok-push.ensures.items c.requires.line c.in_default.len_below

pub returns-then-mark-ne44 : goal.returns-then-mark-ne44
returns-then-mark-ne44 c =
    line_ends c.args.text.now c.loop-mark.rest.now c.loop-mark.fields.items c.split_at.result.0 c.split_at.result.1.now c.first_mark.result c.first_mark.ensures.place c.split_at.ensures.front c.split_at.ensures.back c.loop-mark.invariant
    c.push.new.self.items c.in_ok-push.ensures.items c.requires.line c.in-len1-up.len_at_least c.if-mark-eq34.false c.if-mark-ne44.true

pub loop-mark-preserved : goal.loop-mark-preserved
loop-mark-preserved c =
    field_taken c.args.text.now c.loop-mark.rest.now c.loop-mark.fields.items c.split_at.result.0 c.split_at.result.1.now c.first_mark.result c.first_mark.ensures.place c.split_at.ensures.front c.split_at.ensures.back c.loop-mark.invariant
    c.push.new.self.items c.in_ok-push.ensures.items c.in-len1-up.len_at_least c.if-mark-ne44.false
