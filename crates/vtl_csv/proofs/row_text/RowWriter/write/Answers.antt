use Rattle.csv.specs.Records.{fields_of}
use Rattle.vtl_csv.proofs.RowTextLemmas.{not_numeric, row-written}
use Rattle.vtl_csv.proofs.row_text.RowWriter.write.Goals as goal
use Rattle.vtl_csv.proofs.row_text.RowWriter.write.Goals.{in-Ok, in-Err}

pub returns : goal.returns
returns c =
    elim c.match-write_byte_record.branch [
      | in-Ok w ↦
          let writes = c.self.invariant c.if-self.false in
          let more = w.in-Ok.ensures.bytes writes.fields writes.wrote (not_numeric c.self.inside.writer writes) in
          let text = row-written c.self.inside.writer c.write_byte_record.new.self (fields_of c.args.fields.now) writes more in
          rw (w.self-is, w.result-is, ← c.self.view_is, c.if-self.false) text
      | in-Err w ↦ rw w.result-is tt
    ]
