-- What references show.
use Rattle.std.specs.Prelude.{List, map}
use Rattle.std.specs.Borrow.{Bor}

abbrev pub shown : {X : Type 0} → List (Bor X) → List X
shown rs = map (λ r. r.now) rs
