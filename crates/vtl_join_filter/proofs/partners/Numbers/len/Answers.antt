use Rattle.std.proofs.Common.{◌≡◌, length, sym, subst}
use Rattle.std.proofs.lemmas.List.FromFn.{length-range_with_len}
use Rattle.vtl_join_filter.specs.Partners.{numbers_of}
use Rattle.vtl_join_filter.specs.declared.partners.Numbers.{Numbers}
use Rattle.vtl_join_filter.proofs.partners.Numbers.len.Goals as goal

pub returns-in-Below : goal.returns-in-Below
returns-in-Below c = subst (λ (x : Numbers). c.in-Below.count ≡ length (numbers_of x)) (sym c.in-Below.is) (sym (length-range_with_len 0 c.in-Below.count))
