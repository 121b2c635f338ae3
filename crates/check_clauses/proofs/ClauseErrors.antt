-- An error of one step is the error of all.
use Rattle.std.proofs.Common.{◌≡◌, ap, Result, Err, Box, Global}
use Rattle.vtl_tree.specs.declared.nodes.Node.{Node}
use Rattle.vtl_tree.proofs.NodeLemmas.{structure-there}
use Rattle.check_operators.specs.Typed.{boxed_tree, components_in}
use Rattle.check_faults.specs.Answers.{Answers}
use Rattle.check_faults.specs.declared.error.TypeErr.{TypeErr}
use Rattle.check_faults.specs.declared.error.TypeErr.TheVariants as err
use Rattle.check_faults.specs.declared.rules.Rule.{Rule}
use Rattle.vtl_lists.specs.Results.{◌>>=◌}

pub refused : {A B X Y : Type 0} (v : A → B) (w : X → Y) (e : TypeErr) (m : Result B Rule) (f : B → Result Y Rule) → Answers v (Err e) m → Answers w (Err e) (m >>= f)
refused v w (err.Broken rule) m f a = ap (λ r. r >>= f) a
refused v w err.OutOfMemory m f a = tt

pub components-there : (b : Box Node Global) → components_in (boxed_tree b) ≡ b.value.structure.components
components-there b = ap (λ s. s.components) (structure-there b.value)
