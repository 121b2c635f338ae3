use Rattle.std.proofs.Common.{◌≡◌, ◌<◌, List, [], ◌∷◌, length, refl, ◌∙◌, arith}
use Rattle.std.specs.Borrow.{Bor}
use Rattle.std.proofs.lemmas.Result.{IfOk-weaker}
use Rattle.std.proofs.lemmas.Str.{chars-nil}
use Rattle.vtl_tree.specs.Shown.{shown}
use Rattle.vtl_tree.specs.declared.structure.Component.{Component}
use Rattle.selects_to_sql.specs.Queries.{name_of_first}
use Rattle.selects_to_sql.proofs.conditions.name_of_first.Goals as goal

none : (xs : List (Bor Component)) → length xs < 1 → [] ≡ name_of_first (shown xs)
none [] h = refl
none (x ∷ xs) h = absurd (omega (arith, h))

pub returns-in-empty : goal.returns-in-empty
returns-in-empty c = IfOk-weaker c.new.result _ _ (λ t e. e ∙ chars-nil ∙ none c.args.components.now c.in-empty.len_below) c.new.ensures
