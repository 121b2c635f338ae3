use Rattle.std.proofs.Common.{◌≡◌, ◌≤◌, true, arith}
use Rattle.vtl_lists.proofs.Balances.{balanced_gathered, balanced_kept, balanced_mapped, balanced_within}
use Rattle.vtl_lists.proofs.balanced_is_shallow.Goals as goal

pub returns-clause-kept : goal.returns-clause-kept
returns-clause-kept g c = λ f p d xs kept own all. balanced_kept f (λ x. p x ≡ true) kept d xs own all

pub returns-clause-mapped : goal.returns-clause-mapped
returns-clause-mapped g c = λ f j h d xs same. balanced_mapped f j h same d xs

pub returns-clause-gathered : goal.returns-clause-gathered
returns-clause-gathered g c = λ f u xs grouped unit. balanced_gathered f u grouped unit xs

pub returns-clause-depth : goal.returns-clause-depth
returns-clause-depth g c = λ f depth k m d xs deeper few own all. balanced_within f (λ n x. depth x ≤ n) (λ m n x less low. omega (arith, less, low)) deeper k m d xs few own all
