use Rattle.std.proofs.Common.{◌≡◌, ◌<◌, length, sym, subst}
use Rattle.std.specs.Prelude.{slice_index}
use Rattle.vtl_join_filter.specs.Partners.{numbers_of}
use Rattle.vtl_join_filter.specs.declared.partners.Numbers.{Numbers}
use Rattle.vtl_join_filter.proofs.Combined.{number_below}
use Rattle.vtl_join_filter.proofs.partners.Numbers.at.Goals as goal

pub returns-in-Below : goal.returns-in-Below
returns-in-Below c =
    subst (λ (x : Numbers). c.args.i < length (numbers_of x) → c.args.i ≡ slice_index (numbers_of x) c.args.i) (sym c.in-Below.is) (number_below c.in-Below.field-0 c.args.i) c.requires
