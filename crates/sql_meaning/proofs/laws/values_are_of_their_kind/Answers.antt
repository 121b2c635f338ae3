use Rattle.std.specs.Prelude.{None, []}
use Rattle.sql_meaning.proofs.ExpressionKinds.{value_has}
use Rattle.sql_meaning.proofs.WindowKinds.{sees_row}
use Rattle.sql_meaning.specs.Values.{place_in}
use Rattle.sql_meaning.proofs.laws.values_are_of_their_kind.Goals as goal

pub returns : goal.returns
returns c = λ b scope e r fits row. value_has b scope (place_in scope) None e r [] fits (sees_row b scope r row) tt
