-- The codes of a component in order.
use Rattle.std.specs.Prelude.{List, [], unwrap_or, IsPermutation, IsSorted}
use Rattle.std.specs.Ordering.{nat_cmp}
use Rattle.std.specs.Cmp.Lexicographic.{slice_cmp}
use Rattle.vtl_lists.specs.Aliases.{Text}
use Rattle.vtl_tree.specs.declared.structure.Component.{Component}

-- the codes that a component lists, or none
abbrev pub codes_listed : Component → List Text
codes_listed x = unwrap_or x.codes []

-- the same texts, in order
pub record AreSortedCodes (texts sorted : List Text) : Type 0 where
  pub same : IsPermutation texts sorted
  pub rises : IsSorted (slice_cmp nat_cmp) sorted
