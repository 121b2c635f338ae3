use Rattle.time_laws.proofs.Undone.{undone}
use Rattle.time_laws.proofs.laws.flows_undo_stocks.Goals as goal

pub returns : goal.returns
returns c = λ p d s t points w v h profile held there e. undone p d s w h points e profile held there t v
