use Rattle.std.proofs.Common.{◌≡◌, take}
use Rattle.sql_engine.proofs.structures.listed_codes.Given as goal

abbrev pub invariant-loop-code : goal.invariant-loop-code
invariant-loop-code l = l.listed.items ≡ take l.code-index l.codes
