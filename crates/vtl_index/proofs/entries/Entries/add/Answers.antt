use Rattle.std.proofs.Common.{◌∷◌, [], ◌++◌, ◌∙◌, ap, arith, length, refl, set, sym}
use Rattle.std.proofs.lemmas.List.{get_or_default}
use Rattle.std.proofs.lemmas.Result.{on_ok_weaker}
use Rattle.std.specs.Vec.{with_item}
use Rattle.vtl_index.proofs.Adding.{pushed, seek_at}
use Rattle.vtl_index.proofs.entries.Entries.add.Goals as goal

pub index_mut-requires : goal.index_mut-requires
index_mut-requires c =
    let at = seek_at c.args.self.now.cells.items c.args.self.now.width (length c.args.self.now.rows.items) c.args.self.now.places.buckets.items c.args.self.now.places.others c.args.key.now c.in-Some.place (sym c.in-Some.ensures) in
    omega (arith, at.0)

pub returns-in-Some-clause-rows : goal.returns-in-Some-clause-rows
returns-in-Some-clause-rows c =
    let at = seek_at c.args.self.now.cells.items c.args.self.now.width (length c.args.self.now.rows.items) c.args.self.now.places.buckets.items c.args.self.now.places.others c.args.key.now c.in-Some.place (sym c.in-Some.ensures) in
    on_ok_weaker c.push.result
    (λ e. pushed c.args.self.now (record c.args.self.now { rows = with_item c.args.self.now.rows c.in-Some.place c.push.new.self }) c.args.key.now c.args.row c.in-Some.place (sym c.in-Some.ensures) refl refl
    (ap (set c.args.self.now.rows.items c.in-Some.place) (e ∙ ap (λ l. l ++ c.args.row ∷ []) (c.index_mut.ensures.value ∙ get_or_default c.args.self.now.rows.items c.in-Some.place c.index_mut.result.now [] at.0)))
    (λ _ _. refl)) c.push.ensures.ok
