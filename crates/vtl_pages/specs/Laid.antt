-- How the items of pages lie in the places of their blocks.
use Rattle.std.specs.Prelude.{◌≡◌, ℕ, ◌-◌, ◌*◌, ◌^◌, ◌<◌, ◌≤◌, List, ◌++◌, map, length, replicate, Option, Some, None}
use Rattle.vtl_pages.specs.Places.{values}
use Rattle.vtl_pages.specs.Stored.{Stored}

module _ {X : Type 0} where
  -- the items, and empty places behind them
  unfoldable pub laid : List X → ℕ → List (Option X)
  laid xs spare = map Some xs ++ replicate spare None

  -- n of the places hold items, which stand in front
  pub record IsLaid (cs : List (Option X)) (n room : ℕ) : Type 0 where
    pub count : n ≡ length (values cs)
    pub within : n ≤ room
    pub places : cs ≡ laid (values cs) (room - n)

  -- the first block has some whole runs of the width, each other one 2 ^ shift, and there are fewer than 2 ^ 63 places
  pub record HasRuns (s : Stored X) (room width front runs shift : ℕ) : Type 0 where
    pub wide : 0 < width
    pub some : 0 < front
    pub first : s.first ≡ front * width
    pub step : s.step ≡ runs * width
    pub bits : shift < 64
    pub power : runs ≡ 2 ^ shift
    pub few : room < 2 ^ 63
