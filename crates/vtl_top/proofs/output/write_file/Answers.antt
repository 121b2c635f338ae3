use Rattle.std.proofs.Common.{◌∙◌}
use Rattle.vtl_lists.proofs.Tests.{on_err}
use Rattle.vtl_status.proofs.LineLemmas.{ok_always}
use Rattle.vtl_top.proofs.OutputLemmas.{whole_file, front_of_file, whole_as_front}
use Rattle.vtl_top.proofs.output.write_file.Goals as goal

pub returns-in_err-write_all-clause-front : goal.returns-in_err-write_all-clause-front
returns-in_err-write_all-clause-front g c =
    let written = g.F.Files.written in
    on_err c.from_residual-in_err-write_all.result
    (front_of_file (written c.args.files.now) (written c.create.new.self) (written c.write_all.new.f) _ c.args.bytes.now c.in_ok-create.ensures.written c.in_err-write_all.ensures.front)

pub returns-clause-written : goal.returns-clause-written
returns-clause-written g c =
    let written = g.F.Files.written in
    ok_always c.finish.result
    (c.finish.ensures.written ∙ whole_file (written c.args.files.now) (written c.create.new.self) (written c.write_all.new.f) _ c.args.bytes.now c.in_ok-create.ensures.written c.in_ok-write_all.ensures.written)

pub returns-clause-front : goal.returns-clause-front
returns-clause-front g c =
    let written = g.F.Files.written in
    on_err c.finish.result
    (whole_as_front (written c.args.files.now) (written c.write_all.new.f) (written c.finish.new.self) _ c.args.bytes.now
    (whole_file (written c.args.files.now) (written c.create.new.self) (written c.write_all.new.f) _ c.args.bytes.now c.in_ok-create.ensures.written c.in_ok-write_all.ensures.written)
    c.finish.ensures.written)
