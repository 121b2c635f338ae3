use Rattle.std.proofs.Common.{vec_len}
use Rattle.vtl_files.proofs.Memory.{grown_last}
use Rattle.vtl_files.proofs.mem.append_to_last.Goals as goal

pub returns-in-Some-clause-ok : goal.returns-in-Some-clause-ok
returns-in-Some-clause-ok c =
    grown_last c.extend_from_slice.result c.args.files.now.items (vec_len c.args.files.now) c.in-Some.file.now c.file.inside.name.bytes.items c.file.inside.bytes.items c.extend_from_slice.new.self.items c.args.bytes.now
    c.args.files.now.ok.0 c.in-Some.ensures.value c.file.view_is c.extend_from_slice.ensures.items
