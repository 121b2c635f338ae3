use Rattle.std.proofs.Common.{◌≡◌, ℕ, List, [], ◌∷◌, ◌++◌, IfOk, subst}
use Rattle.std.specs.Str.{chars}
use Rattle.check_joins.proofs.joined.with_mark.Goals as goal

pub returns : goal.returns
unfolding chars
returns c =
    let P : List ℕ → Type 0 = λ s. IfOk c.concat.result (λ t. t ≡ s ++ 39 ∷ []) in
    subst P c.as_str.ensures.characters c.concat.ensures
