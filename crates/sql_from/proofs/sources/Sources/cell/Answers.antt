use Rattle.std.proofs.Common.{◌≡◌, ◌∙◌, ◌+◌, ◌++◌, ◌∷◌, [], length, ap, arith, Some}
use Rattle.std.specs.Prelude.{slice_get, slice_index}
use Rattle.std.proofs.lemmas.List.{length-map}
use Rattle.vtl_rows.specs.Tables.{listed}
use Rattle.sql_from.specs.Rows.{picks_from}
use Rattle.sql_from.specs.Sources.{parts_of}
use Rattle.sql_from.proofs.Parted.{cell_missing, cell_there, front_number, got_at, got_past, last_number, pick_within}
use Rattle.sql_from.proofs.sources.Sources.cell.Goals.{then-pick-front, else-pick-front}
use Rattle.sql_from.proofs.sources.Sources.cell.Goals as goal

pub table-requires : goal.table-requires
table-requires c =
    let ss = c.args.self.now.sources in
    let seen = ap (λ s. s.sources) c.self.view_is in
    let picks = c.deref.result.now in
    let are : picks ≡ picks_from 0 (parts_of ss) = c.deref.ensures.value ∙ c.self.invariant.picked ∙ ap (λ s. picks_from 0 (parts_of s)) seen in
    let many = length-map ss (λ s. s.1) in
    let got : slice_get picks c.args.place ≡ Some c.in-Some.pick.now = got_at picks c.args.place c.in-Some.pick.now c.in-Some.ensures.lookup.3.0 c.in-Some.ensures.lookup.1 in
    let h = pick_within (parts_of ss) picks are c.args.front.now c.args.last c.args.place (omega (arith, many, c.requires)) c.in-Some.pick.now got in
    omega (arith, many, h)

pub returns-in-None : goal.returns-in-None
returns-in-None c =
    let ss = c.args.self.now.sources in
    let seen = ap (λ s. s.sources) c.self.view_is in
    let picks = c.deref.result.now in
    let are : picks ≡ picks_from 0 (parts_of ss) = c.deref.ensures.value ∙ c.self.invariant.picked ∙ ap (λ s. picks_from 0 (parts_of s)) seen in
    let many = length-map ss (λ s. s.1) in
    c.self.invariant.null ∙ cell_missing (parts_of ss) picks are c.args.front.now c.args.last c.args.place (omega (arith, many, c.requires)) (got_past picks c.args.place c.in-None.ensures.lookup.3)

pub returns-after-pick-front : goal.returns-after-pick-front
returns-after-pick-front c =
    let ss = c.args.self.now.sources in
    let seen = ap (λ s. s.sources) c.self.view_is in
    let picks = c.deref.result.now in
    let x = c.args.front.now in
    let last = c.args.last in
    let pick = c.in-Some.pick.now in
    let are : picks ≡ picks_from 0 (parts_of ss) = c.deref.ensures.value ∙ c.self.invariant.picked ∙ ap (λ s. picks_from 0 (parts_of s)) seen in
    let many = length-map ss (λ s. s.1) in
    let whole : length x + 1 ≡ length (parts_of ss) = omega (arith, many, c.requires) in
    let got : slice_get picks c.args.place ≡ Some pick = got_at picks c.args.place c.in-Some.pick.now c.in-Some.ensures.lookup.3.0 c.in-Some.ensures.lookup.1 in
    let h = pick_within (parts_of ss) picks are x last c.args.place whole pick got in
    let n : c.if-pick-front.number ≡ slice_index (x ++ last ∷ []) pick.part =
    elim c.if-pick-front.branch [
      | then-pick-front w ↦ w.number-is ∙ front_number x last pick.part w.if-pick-front.true
      | else-pick-front w ↦ w.number-is ∙ last_number x last pick.part w.if-pick-front.false (omega (arith, h, whole))
    ] in
    c.cell_of.ensures ∙ cell_there (parts_of ss) picks are x last c.args.place whole pick got (listed c.table.result.now) c.if-pick-front.number c.table.ensures.source n
