use Rattle.vtl_series.proofs.FitLemmas.{series_fit}
use Rattle.vtl_series.proofs.laws.rows_fit_their_kinds.Goals as goal

pub returns : goal.returns
returns c = series_fit
