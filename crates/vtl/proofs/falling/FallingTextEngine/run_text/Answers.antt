use Rattle.std.proofs.Common.{subst, sym}
use Rattle.sql_engine.specs.Runs.{ShowsMeaning}
use Rattle.vtl.proofs.FallingRows.{fault_stays, meaning_falls}
use Rattle.vtl.proofs.falling.FallingTextEngine.run_text.Goals as goal

pub returns-in-Err-clause-run : goal.returns-in-Err-clause-run
returns-in-Err-clause-run c script spelled = fault_stays _ _ _ c.args.out.now c.in-Err.error (c.in-Err.ensures.run script spelled)

pub returns-clause-run : goal.returns-clause-run
returns-clause-run c script spelled = subst (ShowsMeaning _) (sym c.in_ok-out.ensures) (meaning_falls _ _ (c.in_default.ensures.run script spelled))
