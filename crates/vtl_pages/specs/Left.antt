-- Values that leave their places, the first one first.
use Rattle.std.specs.Prelude.{◌≡◌, ℕ, ◌<◌, List, ◌++◌, length, replicate, Option, None}
use Rattle.vtl_pages.specs.Joined.{joined, HaveSizes}
use Rattle.vtl_pages.specs.Laid.{laid}
use Rattle.vtl_pages.specs.Places.{values}
use Rattle.vtl_pages.specs.Stored.{block_size}

module _ {X : Type 0} where
  -- some empty places, the values that are left, and empty places behind them
  abbrev pub leaving : ℕ → List X → ℕ → List (Option X)
  leaving gone xs spare = replicate gone None ++ laid xs spare

  -- the first places of the first block are empty, the values that are left stand behind them
  pub record IsLeaving (bs : List (List (Option X))) (size step gone left : ℕ) : Type 0 where
    pub some : 0 < step
    pub within : gone < size
    pub sized : HaveSizes (block_size size step) bs
    pub count : left ≡ length (values (joined bs))
    pub places : (spare : ℕ) × (joined bs ≡ leaving gone (values (joined bs)) spare)
