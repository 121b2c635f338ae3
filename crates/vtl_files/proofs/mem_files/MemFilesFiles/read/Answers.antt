use Rattle.std.proofs.Common.{◌≤◌, arith, ap, length, Some, drop}
use Rattle.vtl_files.proofs.Memory.{left_after}
use Rattle.vtl_files.proofs.mem_files.MemFilesFiles.read.Goals as goal

pub returns-clause-left : goal.returns-clause-left
returns-clause-left c =
    let within : c.min-count.result ≤ length c.rest_of-rest.result.now = omega (arith, c.min.ensures, c.min-count.ensures) in
    ap Some (left_after c.args.self.now.held.items c.is_to_fail.new.self.held.items c.args.self.now.opened c.in-Some.opened c.rest_of-rest.result.now c.copy_from_slice.new.self (drop c.min-count.result c.args.buf.now) c.min-count.result
    c.in-Some.is (ap (λ s. s.held.items) c.is_to_fail.ensures.counted) c.rest_of-rest.ensures.rest c.copy_from_slice.ensures.after within)
