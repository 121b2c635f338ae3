-- Data sets up to the order of points.
use Rattle.std.specs.Prelude.{◌≡◌, List, [], ◌∷◌}
use Rattle.vtl_lists.specs.Perm.{Perm}
use Rattle.vtl_tree.specs.Environment.{DataSet, Environment}

-- the same names and structures in the same order, the points of each data set in any order
abbrev pub SameData : Environment → Environment → Type 0
SameData [] [] = Unit {0}
SameData [] (e ∷ es) = ⊥
SameData (d ∷ ds) [] = ⊥
SameData (d ∷ ds) (e ∷ es) = (d.0 ≡ e.0) × (d.1.structure ≡ e.1.structure) × Perm d.1.points e.1.points × SameData ds es

-- operands of the same structures in the same order, the points of each in any order
abbrev pub SameOperands : List DataSet → List DataSet → Type 0
SameOperands [] [] = Unit {0}
SameOperands [] (e ∷ es) = ⊥
SameOperands (d ∷ ds) [] = ⊥
SameOperands (d ∷ ds) (e ∷ es) = (d.structure ≡ e.structure) × Perm d.points e.points × SameOperands ds es
