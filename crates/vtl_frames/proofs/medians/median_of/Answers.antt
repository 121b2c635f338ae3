use Rattle.std.proofs.Common.{◌≡◌, ◌≤◌, sym, ap, ◌∙◌, subst, refl, arith}
use Rattle.vtl_agg.specs.Added.{IsAdded}
use Rattle.vtl_cell.specs.Groups.{group_value}
use Rattle.vtl_cell.specs.declared.operator.AggKind.TheVariants.{Median}
use Rattle.vtl_frames.specs.Framed.{cells_at, places_from}
use Rattle.vtl_frames.proofs.PlaceLemmas.{cells_more, many_cells, no_places}
use Rattle.vtl_frames.proofs.medians.median_of.Goals as goal

pub loop-place-init : goal.loop-place-init
loop-place-init g c =
    let cells = g.P.Partition.cells c.args.cells.now in
    record {
      settings = c.new-acc.ensures.settings;
      kind = c.new-acc.ensures.kind;
      added = subst (λ ks. IsAdded c.new-acc.result (cells_at cells ks)) (sym (no_places c.args.cut.start c.args.cut.start refl)) c.new-acc.ensures.added;
    }

pub add-requires : goal.add-requires
add-requires g c =
    let cells = g.P.Partition.cells c.args.cells.now in
    let a = c.args.cut.start in
    let i = c.loop-place.place in
    let many = many_cells cells a i in
    (cells_at cells (places_from a i), c.loop-place.invariant.added, omega (arith, many, c.requires.few, c.requires.within, c.loop-place-test.true))

pub loop-place-preserved : goal.loop-place-preserved
loop-place-preserved g c =
    let cells = g.P.Partition.cells c.args.cells.now in
    let a = c.args.cut.start in
    let i = c.loop-place.place in
    let up : a ≤ i = omega arith in
    record {
      settings = c.add.ensures.settings ∙ c.loop-place.invariant.settings;
      kind = c.add.ensures.kind ∙ c.loop-place.invariant.kind;
      added = subst (IsAdded c.add.new.self) (cells_more cells a i c.cell.result.now up c.cell.ensures) (c.in_ok-add.ensures.added (cells_at cells (places_from a i)) c.loop-place.invariant.added);
    }

pub returns : goal.returns
returns g c =
    let cells = g.P.Partition.cells c.args.cells.now in
    let a = c.args.cut.start in
    let end : c.loop-place.place ≡ c.args.cut.end = omega arith in
    let xs = cells_at cells (places_from a c.loop-place.place) in
    c.finish.ensures xs c.loop-place.invariant.added
    ∙ ap (λ s. group_value s c.loop-place.acc.kind xs) c.loop-place.invariant.settings ∙ ap (λ k. group_value c.args.p.now k xs) c.loop-place.invariant.kind
    ∙ ap (λ b. group_value c.args.p.now Median (cells_at cells (places_from a b))) end
