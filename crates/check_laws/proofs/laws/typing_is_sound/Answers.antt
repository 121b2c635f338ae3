use Rattle.check_expressions.specs.Rulings.{names_in, plain_sight, sight_of}
use Rattle.check_expressions.specs.Rulesets.{rulings_of}
use Rattle.check_expressions.specs.Typing.{typed}
use Rattle.check_laws.specs.WellTyped.{IsWellTyped}
use Rattle.check_laws.proofs.Sound.{no-rulings, sound}
use Rattle.check_laws.proofs.SoundRulings.{rulings-of}
use Rattle.check_laws.proofs.Steps.{given}
use Rattle.check_laws.proofs.laws.typing_is_sound.Goals as goal

pub returns-clause-any : goal.returns-clause-any
returns-clause-any c = λ sight at e x are calls is. given (IsWellTyped (names_in sight) at) (typed sight at e) x (sound sight are calls at e) is

pub returns-clause-plain : goal.returns-clause-plain
returns-clause-plain c = λ env at e x are is. given (IsWellTyped env at) (typed (plain_sight env) at e) x (sound (plain_sight env) are (no-rulings env.settings) at e) is

pub returns-clause-rulesets : goal.returns-clause-rulesets
returns-clause-rulesets c = λ env definitions at e x are accepted is. given (IsWellTyped env at) (typed (sight_of env (rulings_of definitions)) at e) x (sound (sight_of env (rulings_of definitions)) are (rulings-of env.settings definitions accepted) at e) is
