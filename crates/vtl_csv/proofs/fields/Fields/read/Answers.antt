use Rattle.csv.specs.Records.{fields_of}
use Rattle.vtl_csv.proofs.RecordsLeftLemmas.{reader-read, reads-ready}
use Rattle.vtl_csv.proofs.fields.Fields.read.Goals as goal
use Rattle.vtl_csv.proofs.fields.Fields.read.Goals.{in-Ok, in-Err}

pub returns-clause-found : goal.returns-clause-found
returns-clause-found c = elim c.match-read_byte_record.branch [
  | in-Ok w ↦
      let read = w.in-Ok.ensures.reads c.requires.trim (reads-ready c.args.reader.now c.requires) in
      rw w.result-is (reader-read c.args.reader.now c.read_byte_record.new.self (fields_of c.read_byte_record.new.row) w.in-Ok.found c.requires.config c.requires.source read).0
  | in-Err w ↦ rw w.result-is tt
]

pub returns-clause-ended : goal.returns-clause-ended
returns-clause-ended c = elim c.match-read_byte_record.branch [
  | in-Ok w ↦
      let read = w.in-Ok.ensures.reads c.requires.trim (reads-ready c.args.reader.now c.requires) in
      rw w.result-is (reader-read c.args.reader.now c.read_byte_record.new.self (fields_of c.read_byte_record.new.row) w.in-Ok.found c.requires.config c.requires.source read).1
  | in-Err w ↦ rw w.result-is tt
]
