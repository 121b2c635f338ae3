-- Sets of pairs as ascending lists of their numbers.
use Rattle.std.specs.Prelude.{ℕ, zero, suc, nat_lt, ◌+◌, Bool, cond, List, [], ◌∷◌, ◌++◌, length, map}
use Rattle.vtl_tree.specs.Columns.{others_of}
use Rattle.vtl_tree.specs.Structure.{key_width}
use Rattle.vtl_tree.specs.Structures.{Named}
use Rattle.vtl_tree.specs.declared.structure.Structure.{Structure}
use Rattle.vtl_sources.specs.Lineage.{Past}
use Rattle.vtl_sources.specs.Links.{Pair, Pairs, is_in, pairs_of_set}
use Rattle.vtl_sources.specs.Sources.{Sources, Traced, sources, traced}

abbrev pub Numbers : Type 0
Numbers = List ℕ

-- ---- two of them as one
-- the numbers in front that are less
abbrev pub below : ℕ → Numbers → Numbers
below x [] = []
below x (y ∷ ys) = cond (nat_lt y x) (y ∷ below x ys) []

-- what is left behind the numbers in front that are not greater
abbrev pub beyond : ℕ → Numbers → Numbers
beyond x [] = []
beyond x (y ∷ ys) = cond (nat_lt x y) (y ∷ ys) (beyond x ys)

abbrev pub merged : Numbers → Numbers → Numbers
merged [] ys = ys
merged (x ∷ xs) ys = below x ys ++ x ∷ merged xs (beyond x ys)

-- ---- the numbers of pairs among all pairs
-- the places at which it holds, where the first has this number
abbrev pub places_from : ℕ → (Pair → Bool) → Pairs → Numbers
places_from i f [] = []
places_from i f (q ∷ qs) = cond (f q) (i ∷ places_from (suc i) f qs) (places_from (suc i) f qs)

abbrev pub numbers_of : Pairs → Pairs → Numbers
numbers_of pairs ps = places_from 0 (is_in ps) pairs

abbrev pub numbered : Pairs → Sources Pairs → Sources Numbers
numbered pairs from = sources (numbers_of pairs from.points) (map (numbers_of pairs) from.others)

abbrev pub numbered_traced : Pairs → Traced Pairs → Traced Numbers
numbered_traced pairs d = traced d.structure (numbered pairs d.sources)

abbrev pub numbered_past : Pairs → Past Pairs → Past Numbers
numbered_past pairs past = map (λ e. (e.0, numbered pairs e.1)) past

-- ---- data sets that are read
-- so many numbers from one on
abbrev pub run : ℕ → ℕ → Numbers
run i zero = []
run i (suc n) = i ∷ run (suc i) n

abbrev pub each_alone : Numbers → List Numbers
each_alone xs = map (λ x. x ∷ []) xs

-- a data set whose first component has this number
abbrev pub input_numbers : ℕ → Structure → Sources Numbers
input_numbers first s = sources (run first (key_width s)) (each_alone (run (first + key_width s) (length (others_of s))))

-- one behind the other
abbrev pub inputs_numbers : ℕ → Named → Past Numbers
inputs_numbers first [] = []
inputs_numbers first (e ∷ es) = (e.0, input_numbers first e.1) ∷ inputs_numbers (first + length (pairs_of_set e.0 e.1)) es
