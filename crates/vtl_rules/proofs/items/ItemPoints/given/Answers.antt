use Rattle.std.proofs.Common.{◌≡◌, ◌++◌, ◌∷◌, [], ◌∙◌, ℕ, List, Some, length, arith, ap, sym}
use Rattle.std.specs.Prelude.{slice_index_or}
use Rattle.vtl_cell.specs.Row.{Row, column_of}
use Rattle.vtl_cell.specs.declared.cell.Cell.TheVariants as cell
use Rattle.vtl_index.specs.Seekers.{first_meant}
use Rattle.vtl_rules.specs.Itemized.{Itemized, item_key}
use Rattle.vtl_rules.proofs.ItemLemmas.{given_none, given_some}
use Rattle.vtl_rules.proofs.items.ItemPoints.given.Goals as goal

pub returns-then-row-len-clause-value : goal.returns-then-row-len-clause-value
returns-then-row-len-clause-value g c =
    let x = c.args.self.now in
    let k = c.args.at.now.key.items in
    let item = c.args.item.now in
    let key : c.deref.result.now ≡ item_key k item = c.deref.ensures.value ∙ c.in_ok-push.ensures.items ∙ ap (λ (t : List ℕ). k ++ cell.Text t ∷ []) c.in_ok-share.ensures in
    let sought = ap (λ (y : Itemized). y.sought) c.self.view_is in
    let rows = ap length (c.self.invariant ∙ ap (λ (y : Itemized). y.sought.rows) c.self.view_is) in
    let place : c.first-row.result ≡ first_meant x.sought (item_key k item) = c.first-row.ensures.place ∙ ap (first_meant c.self.inside.seeker) key ∙ ap (λ s. first_meant s (item_key k item)) sought in
    sym (given_none x k item c.first-row.result place (omega (arith, rows, c.len.ensures.rows, c.if-row-len.true)))

pub returns-clause-value : goal.returns-clause-value
returns-clause-value g c =
    let x = c.args.self.now in
    let k = c.args.at.now.key.items in
    let item = c.args.item.now in
    let r = c.row.result.now in
    let key : c.deref.result.now ≡ item_key k item = c.deref.ensures.value ∙ c.in_ok-push.ensures.items ∙ ap (λ (t : List ℕ). k ++ cell.Text t ∷ []) c.in_ok-share.ensures in
    let sought = ap (λ (y : Itemized). y.sought) c.self.view_is in
    let same = c.self.invariant ∙ ap (λ (y : Itemized). y.sought.rows) c.self.view_is in
    let rows = ap length same in
    let place : c.first-row.result ≡ first_meant x.sought (item_key k item) = c.first-row.ensures.place ∙ ap (first_meant c.self.inside.seeker) key ∙ ap (λ s. first_meant s (item_key k item)) sought in
    let found = given_some x k item c.first-row.result r place (omega (arith, rows, c.len.ensures.rows, c.if-row-len.false)) (c.row.ensures.row ∙ ap (λ (l : List Row). slice_index_or l c.first-row.result r) same) in
    ap Some (c.in_ok-into_cell.ensures ∙ c.cell_at.ensures ∙ ap (λ (y : Itemized). column_of y.measure r) c.self.view_is) ∙ sym found
