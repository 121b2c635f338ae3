use Rattle.std.proofs.Common.{◌≡◌, ◌<◌, ◌∙◌, List, ap, sym, length, map, subst, All}
use Rattle.std.specs.List.{AllByRecursion}
use Rattle.std.proofs.lemmas.List.{length-map}
use Rattle.std.proofs.lemmas.List.Elements.{recursion_from_All}
use Rattle.std.proofs.lemmas.Result.{IfOk-weaker}
use Rattle.vtl_rows.specs.Gathered.{picked, picked_kind, pieces}
use Rattle.vtl_rows.specs.declared.gather.Pick.{Pick}
use Rattle.vtl_rows.specs.Tables.{listed}
use Rattle.sql_from.specs.Rows.{pick_for}
use Rattle.sql_from.specs.Sources.{parts_of}
use Rattle.sql_from.proofs.ChosenCells.{chosen_within, kinds_chosen, rows_chosen, within_picks}
use Rattle.sql_from.proofs.Tabled.{picks_within}
use Rattle.sql_from.proofs.tuple_rows.TupleRows.gathered.Goals as goal

pub chosen_picks-requires : goal.chosen_picks-requires
chosen_picks-requires c = within_picks c.args.self.now.sources.sources c.picks.result.now c.args.places.now c.picks.ensures c.requires.within

pub gather_beside-requires-clause-within : goal.gather_beside-requires-clause-within
gather_beside-requires-clause-within c =
    let ss = c.args.self.now.sources.sources in
    let ts = parts_of ss in
    let picks = c.picks.result.now in
    let parts : map (λ t. listed t.now) c.deref.result.now ≡ ts = ap (map (λ t. listed t.now)) c.deref.ensures.value ∙ c.in_ok-tables.ensures in
    let many : length ts ≡ length c.deref.result.now = ap length (sym parts) ∙ length-map c.deref.result.now (λ t. listed t.now) in
    let chosen : c.deref-2.result.now ≡ map (pick_for picks) c.args.places.now = c.deref-2.ensures.value ∙ c.in_ok-picks.ensures in
    subst (λ (ps : List Pick). All (λ p. p.part < length c.deref.result.now) ps) (sym chosen)
    (chosen_within picks c.args.places.now (length c.deref.result.now) (picks_within ts picks (length c.deref.result.now) c.picks.ensures many) (within_picks ss picks c.args.places.now c.picks.ensures c.requires.within))

pub gather_beside-requires-clause-kinds : goal.gather_beside-requires-clause-kinds
gather_beside-requires-clause-kinds c =
    let ss = c.args.self.now.sources.sources in
    let picks = c.picks.result.now in
    let places = c.args.places.now in
    let parts : map (λ t. listed t.now) c.deref.result.now ≡ parts_of ss = ap (map (λ t. listed t.now)) c.deref.ensures.value ∙ c.in_ok-tables.ensures in
    let chosen : c.deref-2.result.now ≡ map (pick_for picks) places = c.deref-2.ensures.value ∙ c.in_ok-picks.ensures in
    c.requires.kinds
    ∙ kinds_chosen ss picks places c.picks.ensures (recursion_from_All (λ i. i < length picks) places (within_picks ss picks places c.picks.ensures c.requires.within))
    ∙ sym (λ i. map (picked_kind (parts i)) (chosen i))

pub returns-clause-rows : goal.returns-clause-rows
returns-clause-rows c =
    let s = c.args.self.now.sources in
    let tuples = c.args.self.now.tuples in
    let ts = parts_of s.sources in
    let picks = c.picks.result.now in
    let places = c.args.places.now in
    let parts : map (λ t. listed t.now) c.deref.result.now ≡ ts = ap (map (λ t. listed t.now)) c.deref.ensures.value ∙ c.in_ok-tables.ensures in
    let chosen : c.deref-2.result.now ≡ map (pick_for picks) places = c.deref-2.ensures.value ∙ c.in_ok-picks.ensures in
    let many : length c.deref.result.now ≡ length ts = sym (length-map c.deref.result.now (λ t. listed t.now)) ∙ ap length parts in
    let width : length ts ≡ tuples.width = length-map s.sources (λ u. u.1) ∙ sym c.args.self.now.is_whole in
    let whole : AllByRecursion (λ x. length x ≡ length ts) tuples.tuples = subst (λ n. AllByRecursion (λ x. length x ≡ n) tuples.tuples) (sym width) c.numbers.ensures.wide in
    let cut : pieces (length c.deref.result.now) c.numbers.result.now ≡ tuples.tuples = ap (λ n. pieces n c.numbers.result.now) (many ∙ width) ∙ c.numbers.ensures.numbers in
    IfOk-weaker c.gather_beside.result _ _
    (λ t rows. rows ∙ (λ i. map (picked (parts i) (chosen i)) (cut i))
    ∙ rows_chosen ts picks places tuples.tuples c.picks.ensures (recursion_from_All (λ i. i < length picks) places (within_picks s.sources picks places c.picks.ensures c.requires.within)) whole)
    c.gather_beside.ensures.rows
