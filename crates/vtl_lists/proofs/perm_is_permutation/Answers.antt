use Rattle.vtl_lists.proofs.Perms.{IsPermutation-from_Perm, Perm-from_IsPermutation}
use Rattle.vtl_lists.proofs.perm_is_permutation.Goals as goal

pub returns-clause-there : goal.returns-clause-there
returns-clause-there g c = λ xs ys p. IsPermutation-from_Perm p

pub returns-clause-back : goal.returns-clause-back
returns-clause-back g c = λ xs ys p. Perm-from_IsPermutation xs ys p
