use Rattle.sql_back.proofs.text_runs.script_of.Goals as goal

-- a text that spells a script has no fault
pub unreachable-requires : goal.unreachable-requires
unreachable-requires c = rw c.in-Err-Syntax.field-0-is at (c.in-Err-Syntax.ensures.scripts c.requires.0 c.requires.1)
