-- Set operators, by look-up at identifiers; and `exists_in`.
use Rattle.std.specs.Prelude.{ℕ, Bool, true, not, List, [], ◌∷◌, ◌++◌, filter, map, take, Option, None, is_some}
use Rattle.std.specs.List.{flat_map, list_all}
use Rattle.std.specs.Option.{option_or}
use Rattle.vtl_cell.specs.Row.{Row, same_key}
use Rattle.vtl_cell.specs.declared.cell.Cell.TheVariants as c
use Rattle.vtl_syntax.specs.declared.word_groups.Retain.{Retain}
use Rattle.vtl_syntax.specs.declared.word_groups.Retain.TheVariants as retain
use Rattle.vtl_tree.specs.DataSet.{look}
use Rattle.vtl_tree.specs.Environment.{DataSet}
use Rattle.vtl_tree.specs.Structure.{key_width}
use Rattle.vtl_tree.specs.declared.structure.Structure.{Structure}
use Rattle.vtl_tuples.specs.Keys.{each_once}
use Rattle.vtl_meaning.specs.Agreement.{has_agreeing, key_of}
use Rattle.vtl_meaning.specs.Operators.{left_of}

-- ---- on lists of points in the same columns, of which the first n are identifiers
-- there is a point with the identifiers of this one
abbrev pub has_point : ℕ → List Row → Row → Bool
has_point n d r = is_some (look n d (take n r))

-- the points of all, in order, without those whose identifiers an earlier one has
abbrev pub united : ℕ → List (List Row) → List Row
united n ds = each_once (same_key n) (flat_map (λ d. d) ds)

-- the points of the first whose identifiers all others have
abbrev pub intersected : ℕ → List Row → List (List Row) → List Row
intersected n d es = filter (λ r. list_all (λ e. has_point n e r) es) d

-- the points of the first whose identifiers the second lacks
abbrev pub reduced : ℕ → List Row → List Row → List Row
reduced n d e = filter (λ r. not (has_point n e r)) d

-- the points whose identifiers one of the two alone has
abbrev pub either_only : ℕ → List Row → List Row → List Row
either_only n d e = reduced n d e ++ reduced n e d

-- a union in the words of look-up: the point of the leftmost that has one with these identifiers
abbrev pub leftmost : ℕ → List (List Row) → Row → Option Row
leftmost n [] k = None
leftmost n (d ∷ ds) k = option_or (look n d k) (leftmost n ds k)

-- ---- on data sets: each operand's points in the columns of the result, which has the first one's identifiers and measures
abbrev pub all_left_of : List DataSet → Structure → List (List Row)
all_left_of ds s = map (λ d. left_of d s) ds

abbrev pub union_of : List DataSet → Structure → List Row
union_of ds s = united (key_width s) (all_left_of ds s)

abbrev pub intersection_of : List DataSet → Structure → List Row
intersection_of [] s = []
intersection_of (d ∷ es) s = intersected (key_width s) (left_of d s) (all_left_of es s)

abbrev pub difference_of : DataSet → DataSet → Structure → List Row
difference_of d e s = reduced (key_width s) (left_of d s) (left_of e s)

abbrev pub symmetric_difference_of : DataSet → DataSet → Structure → List Row
symmetric_difference_of d e s = either_only (key_width s) (left_of d s) (left_of e s)

-- ---- `exists_in`: for each point of the first operand, whether the second has one that agrees; and which answers are kept
abbrev pub is_retained : Retain → Bool → Bool
is_retained retain.All answer = true
is_retained retain.True answer = answer
is_retained retain.False answer = not answer

abbrev pub with_answer : Structure → DataSet → Row → Row
with_answer a e r = key_of a r ++ c.Bool (has_agreeing a e r) ∷ []

abbrev pub existence_of : DataSet → DataSet → Retain → List Row
existence_of d e kept = map (with_answer d.structure e) (filter (λ r. is_retained kept (has_agreeing d.structure e r)) d.points)
