-- What a turn behind an operand does to those that are left.
use Rattle.std.proofs.Common.{◌≡◌, ℕ, zero, suc, ◌<◌, None, Some, refl, arith}
use Rattle.vtl_grammar.specs.ReadExpressions.{Step, in_turns}
use Rattle.vtl_grammar.specs.Reading.{Got}
use Rattle.vtl_syntax.specs.Trees.{Exp}

pub turns-full : (step : Step) (k : ℕ) (g : Got Exp) → k ≡ 0 → in_turns step k g ≡ Some g
turns-full step zero g e = refl
turns-full step (suc k) g e = absurd (omega (arith, e))

pub turns-end : (step : Step) (k : ℕ) (g : Got Exp) → step g ≡ Some None → in_turns step k g ≡ Some g
turns-end step zero g e = refl
turns-end step (suc k) g e = rw e refl

pub turns-stop : (step : Step) (k : ℕ) (g : Got Exp) → 0 < k → step g ≡ None → in_turns step k g ≡ None
turns-stop step zero g some e = absurd (omega (arith, some))
turns-stop step (suc k) g some e = rw e refl

pub turns-more : (step : Step) (k m : ℕ) (g next : Got Exp) → k ≡ suc m → step g ≡ Some (Some next) → in_turns step k g ≡ in_turns step m next
turns-more step k m g next is e = rw (is, e) refl
