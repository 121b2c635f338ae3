-- The same set for each component.
use Rattle.std.specs.Prelude.{List, map}
use Rattle.vtl_tree.specs.declared.structure.Component.{Component}

abbrev pub copies : {S : Type 0} → S → List Component → List S
copies set ys = map (λ y. set) ys
