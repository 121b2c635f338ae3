use Rattle.std.proofs.Common.{◌∙◌, ap}
use Rattle.std.specs.Str.{bytes_eq}
use Rattle.vtl_files.proofs.Memory.{found_at}
use Rattle.vtl_files.proofs.mem.place_of.Goals as goal

pub returns-then-eq-clause-found : goal.returns-then-eq-clause-found
returns-then-eq-clause-found c =
    found_at c.args.name.now c.args.files.now c.loop-place.place c.index-files-place.result c.loop-place.invariant c.loop-place-test.true c.index-files-place.is
    (c.if-eq.ensures ∙ ap (λ text. bytes_eq text c.args.name.now) (c.as_str.ensures.value ∙ ap (λ f. f.0) c.file.view_is))
