-- The draws: a linear congruential sequence.
use Rattle.std.specs.Prelude.{ℕ, zero, suc, ◌+◌, ◌*◌, ◌/◌, ◌%◌}

-- each state gives the next
abbrev pub next_state : ℕ → ℕ
next_state x = (1103515245 * x + 12345) % 2147483648

-- the state behind so many draws
abbrev pub state : ℕ → ℕ
state zero = 12345
state (suc j) = next_state (state j)

-- the number that a state gives
abbrev pub drawn : ℕ → ℕ
drawn x = x / 65536

-- the draws, counted from 1
abbrev pub draw : ℕ → ℕ
draw j = drawn (state j)
