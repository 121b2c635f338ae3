-- Joins as sets of tuples: which parts a tuple has, told without looking for them.
use Rattle.std.specs.Prelude.{◌≡◌, Bool, true, false, List, [], ◌∷◌, Option, Some, None, is_some, slice_get}
use Rattle.std.specs.List.{AllByRecursion, Contains, list_any}
use Rattle.std.specs.Option.{option_map_or}
use Rattle.vtl_cell.specs.Row.{Row, same_row}
use Rattle.vtl_tree.specs.Environment.{DataSet}
use Rattle.vtl_tree.specs.declared.structure.Component.{Component}
use Rattle.vtl_tree.specs.declared.structure.Structure.{Structure}
use Rattle.vtl_meaning.specs.Agreement.{agree_in, key_of, values_in}
use Rattle.vtl_meaning.specs.Joined.{Part, Tuple, part_of}

-- an item that passes a test, or nothing where none does
abbrev pub IsOneThat : {X : Type 0} → (X → Bool) → List X → Option X → Type 0
IsOneThat test xs None = AllByRecursion (λ x. test x ≡ false) xs
IsOneThat test xs (Some x) = Contains xs x × (test x ≡ true)

-- the point of an operand that agrees with a point of this structure, or nothing
abbrev pub AgreesWith : Structure → Row → DataSet → Option Row → Type 0
AgreesWith a q d part = IsOneThat (agree_in a d.structure q) d.points part

-- the point of an operand with these identifiers, or nothing
abbrev pub HasValues : List Component → Row → DataSet → Option Row → Type 0
HasValues ids k d part = IsOneThat (λ q. same_row (values_in d.structure ids q) k) d.points part

-- a part for each operand
abbrev pub AreParts : (DataSet → Option Row → Type 0) → List DataSet → List Part → Type 0
AreParts IsPart [] [] = Unit {0}
AreParts IsPart [] (q ∷ qs) = ⊥
AreParts IsPart (d ∷ ds) [] = ⊥
AreParts IsPart (d ∷ ds) (q ∷ qs) = (q.structure ≡ d.structure) × IsPart d q.point × AreParts IsPart ds qs

-- a tuple of a left join: a point of the first operand, and of each other one the point that agrees with it, or a missing part
pub record IsLeftTuple (first : DataSet) (others : List DataSet) (t : Tuple) : Type 0 where
  pub point : Row
  pub there : Contains first.points point
  pub identifiers : t.identifiers ≡ key_of first.structure point
  pub parts : List Part
  pub begins : t.parts ≡ part_of first (Some point) ∷ parts
  pub agree : AreParts (AgreesWith first.structure point) others parts

-- a tuple of a full join: of each operand the point with the tuple's identifiers, or a missing part, and not all of them missing
pub record IsFullTuple (ids : List Component) (operands : List DataSet) (t : Tuple) : Type 0 where
  pub some : list_any (λ q. is_some q.point) t.parts ≡ true
  pub parts : AreParts (HasValues ids t.identifiers) operands t.parts

-- the first part is there
abbrev pub begins_whole : Tuple → Bool
begins_whole t = option_map_or (λ q. is_some q.point) (slice_get t.parts 0) false
