use Rattle.std.proofs.Common.{◌≡◌, ◌+◌, ℕ, [], ◌∷◌, length, map, ap, ◌∙◌, arith}
use Rattle.std.specs.Prelude.{sum}
use Rattle.sql_meaning.specs.From.{joined}
use Rattle.sql_meaning.specs.Tables.{rows_from}
use Rattle.sql_from.specs.Steps.{joined_count}
use Rattle.sql_meaning_laws.proofs.steps.one_join_takes_its_rows_and_those_it_gives.Goals as goal

one : (n : ℕ) → sum (n ∷ []) ≡ n
one n = omega arith

pub returns : goal.returns
returns c = λ b s j e.
    ap (λ js. length (rows_from b s.source) + sum (map (joined_count b) js) + length (joined b s).rows) e
    ∙ ap (λ n. length (rows_from b s.source) + n + length (joined b s).rows) (one (joined_count b j))
