use Rattle.std.proofs.Common.{◌+◌}
use Rattle.vtl_interp.specs.Reads.{IsReadFrom}
use Rattle.vtl_interp.proofs.PlacesRead.{gone_without, kept_without, none_without}
use Rattle.vtl_interp.proofs.last_reads.let_go_of.Goals as goal

pub returns-then-not-is_read_behind-clause-kept : goal.returns-then-not-is_read_behind-clause-kept
returns-then-not-is_read_behind-clause-kept c =
    kept_without c.args.known.now.entries c.swap_remove.new.self.entries c.args.name.now c.swap_remove.ensures.updates.0 (IsReadFrom (c.args.i + 1) c.args.last.now.entries) c.if-not-is_read_behind.ensures.unread

pub returns-then-not-is_read_behind-clause-gone : goal.returns-then-not-is_read_behind-clause-gone
returns-then-not-is_read_behind-clause-gone c = λ unread. gone_without c.args.known.now.entries c.swap_remove.new.self.entries c.args.name.now c.swap_remove.ensures.updates.0

pub returns-then-not-is_read_behind-clause-no_more : goal.returns-then-not-is_read_behind-clause-no_more
returns-then-not-is_read_behind-clause-no_more c = none_without c.args.known.now.entries c.swap_remove.new.self.entries c.args.name.now c.swap_remove.ensures.updates.0
