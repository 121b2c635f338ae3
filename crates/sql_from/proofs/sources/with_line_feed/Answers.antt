use Rattle.std.proofs.Common.{◌≡◌, ℕ, List, [], ◌∷◌, ◌++◌, IfOk, subst}
use Rattle.std.specs.Str.{chars}
use Rattle.sql_from.specs.Columns.{line_feed}
use Rattle.sql_from.proofs.sources.with_line_feed.Goals as goal

pub returns : goal.returns
unfolding chars
returns c =
    let P : List ℕ → Type 0 = λ s. IfOk c.concat.result (λ t. t ≡ s ++ line_feed ∷ []) in
    subst P c.as_str.ensures.characters c.concat.ensures
