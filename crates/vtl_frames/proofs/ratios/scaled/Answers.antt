use Rattle.std.proofs.Common.{◌^◌, arith}
use Rattle.std.specs.Int.{w128}
use Rattle.std.specs.Int.RustNames.{FitsSigned}
use Rattle.std.specs.Prelude.{◌*ℤ◌}
use Rattle.std.proofs.lemmas.Int.{fits_signed_mul, to_z-of_z}
use Rattle.vtl_frames.proofs.ratios.scaled.Goals as goal

pub returns : goal.returns
returns c =
    let fits : FitsSigned w128 (c.args.units *ℤ c.args.factor) = fits_signed_mul w128 c.args.units c.args.factor (2 ^ 93) (10 ^ 9) c.requires.units c.requires.factor (omega arith) in
    grind (arith, to_z-of_z, fits)
