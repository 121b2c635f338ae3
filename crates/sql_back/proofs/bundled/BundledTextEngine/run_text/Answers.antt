use Rattle.std.proofs.Common.{List, ℕ, subst, sym}
use Rattle.sql_tree.specs.Texts.{IsScript}
use Rattle.sql_back.proofs.bundled.BundledTextEngine.run_text.Goals as goal

pub returns-clause-run : goal.returns-clause-run
returns-clause-run c script spelled = c.run_text-ran.ensures script (subst (λ (text : List ℕ). IsScript text script) (sym c.deref.ensures) spelled)
