use Rattle.std.proofs.Common.{◌≡◌, ℤ, FitsSigned, arith, of_z, subst, sym, to_z, true, w64}
use Rattle.std.specs.Prelude.{unsigned_abs}
use Rattle.std.proofs.lemmas.Int.{ints, to_z-of_z}
use Rattle.vtl_scalar.specs.Answers.{Answers}
use Rattle.vtl_sets.specs.DataSets.{with_structure}
use Rattle.vtl_tree.specs.declared.calls.TimeOp.{TimeOp}
use Rattle.vtl_tree.specs.declared.structure.Structure.{Structure}
use Rattle.vtl_meaning.specs.Reaches.{is_near}
use Rattle.vtl_timing.specs.Timed.{HasGiven, IsReached, timed_of}
use Rattle.vtl_timing.specs.Times.{timeshift_of}
use Rattle.vtl_interp.proofs.times.timed.Goals as goal

near_fits : (n : ℤ) → is_near (unsigned_abs n) ≡ true → FitsSigned w64 n
near_fits n h = grind (arith, ints)

pub returns-in-Shift : goal.returns-in-Shift
returns-in-Shift c =
    let x = c.in-Shift in
    let a = c.args.a.now in
    let s = c.args.made.now in
    let near = subst IsReached x.is c.requires.reached in
    let n : to_z w64 (of_z w64 x.periods) ≡ x.periods = to_z-of_z w64 x.periods (near_fits x.periods near) in
    let same : s ≡ a.structure = subst (λ (o : TimeOp). HasGiven o a.structure s) x.is c.requires.given in
    subst (λ (o : TimeOp). Answers c.timeshift.result (with_structure s (timed_of c.args.p.now o a s))) (sym x.is)
    (subst (λ (t : Structure). Answers c.timeshift.result (with_structure t (timeshift_of x.periods a))) (sym same)
    (subst (λ (m : ℤ). Answers c.timeshift.result (with_structure a.structure (timeshift_of m a))) n c.timeshift.ensures))
