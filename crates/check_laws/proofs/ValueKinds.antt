-- The values of typed expressions.
use Rattle.std.proofs.Common.{◌≡◌, true, None, Ok, subst}
use Rattle.std.specs.Prelude.{IfOk}
use Rattle.vtl_cell.specs.Kinds.{is_of}
use Rattle.vtl_cell.specs.Row.{Row}
use Rattle.vtl_syntax.specs.Trees.{Exp}
use Rattle.vtl_tree.specs.CompExp.{CompExp}
use Rattle.vtl_tree.specs.DataSet.{is_point}
use Rattle.vtl_tree.specs.Value.{value as value_of}
use Rattle.vtl_tree.specs.Kinds.{exp_kind}
use Rattle.check_operators.specs.Typed.{value}
use Rattle.check_operators.specs.declared.places.Inside.{Inside}
use Rattle.check_operators.specs.declared.places.Place.TheVariants as place
use Rattle.check_expressions.specs.Rulings.{Sight, names_in}
use Rattle.check_expressions.specs.Typing.{typed}
use Rattle.vtl_meaning.proofs.ValueKinds.{value_is_of}
use Rattle.vtl_meaning.specs.Made.{IsTyped}
use Rattle.check_laws.specs.SoundRulings.{AreSoundRulings}
use Rattle.check_laws.specs.WellTyped.{AreShaped, IsTypedIn, IsWellTyped}
use Rattle.check_laws.proofs.Sound.{sound}
use Rattle.check_laws.proofs.Steps.{given}

pub typed-values : (sight : Sight) (i : Inside) (e : Exp) (x : CompExp) (r : Row) → AreShaped sight.known → AreSoundRulings sight.settings sight.called → i.grouping ≡ None → typed sight (place.Inside i) e ≡ Ok (value x) → is_point i.components r ≡ true → IfOk (value_of sight.settings x r) (λ v. is_of (exp_kind x) v ≡ true)
typed-values sight i e x r are calls free is point = value_is_of sight.settings i.components x r ungrouped point
  where
    ungrouped : IsTyped sight.settings i.components x
    ungrouped = subst (λ g. IsTypedIn sight.settings g i.components x) free (given (IsWellTyped (names_in sight) (place.Inside i)) (typed sight (place.Inside i) e) (value x) (sound sight are calls (place.Inside i) e) is)
