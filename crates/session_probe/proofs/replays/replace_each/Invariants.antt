use Rattle.std.proofs.Common.{◌≡◌}
use Rattle.session_probe.proofs.replays.replace_each.Given as goal

-- The script of the session stays.
abbrev pub invariant-loop-edit : goal.invariant-loop-edit
invariant-loop-edit g l = l.session.script ≡ l.fn.session.script
