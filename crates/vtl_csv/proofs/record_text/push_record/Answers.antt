use Rattle.std.proofs.Common.{◌==◌, ◌&&◌, ◌∙◌, length, ap}
use Rattle.vtl_csv.proofs.RecordTextLemmas.{record_is}
use Rattle.vtl_csv.proofs.record_text.push_record.Goals as goal

pub returns : goal.returns
returns c =
    let blank =
    c.is_blank.ensures ∙ ap (λ e. (length c.args.row.now == 1) && (e == c.len-start.result)) (c.len.ensures ∙ c.push_body.new.text.ok.0)
    ∙ ap (λ s. (length c.args.row.now == 1) && (length c.push_body.new.text.items == s)) (c.len-start.ensures ∙ c.args.text.now.ok.0) in
    record_is c.args.profile.now c.args.row.now c.args.text.now.items c.push_body.new.text.items _ c.is_blank.result c.requires c.in_ok-push_body.ensures blank c.in_ok-push_end.ensures
