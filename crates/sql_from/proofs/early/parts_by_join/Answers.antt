use Rattle.std.proofs.Common.{◌≡◌, ◌∙◌, ◌+◌, List, Some, None, ap, arith, get_or, length, subst, sym, take}
use Rattle.std.specs.Borrow.{Bor}
use Rattle.std.specs.Global.{Vec}
use Rattle.std.specs.Prelude.{slice_get}
use Rattle.std.proofs.lemmas.List.{get_or_default, with_items_is}
use Rattle.sql_tree.specs.declared.expressions.SqlExpr.{SqlExpr}
use Rattle.sql_meaning.specs.declared.plan.Early.{Early}
use Rattle.sql_from.specs.Conditions.{parts_at}
use Rattle.sql_from.specs.PlacedLists.{AreLists, IsPutAt}
use Rattle.sql_from.proofs.Dues.{part_missing, part_put}
use Rattle.sql_from.proofs.Parted.{got_at, got_past}
use Rattle.sql_from.proofs.early.parts_by_join.Goals.{in-Some+in_ok-put_at, in_default}
use Rattle.sql_from.proofs.early.parts_by_join.Goals as goal

pub loop-entry-preserved : goal.loop-entry-preserved
loop-entry-preserved c =
    let parts = c.args.parts.now in
    let early = c.args.early.now in
    let count = c.args.count in
    let i = c.loop-entry.entry-index in
    let within = c.loop-entry-test.true in
    let none : Early = record { select = 0; join = 0; conjunct = 0 } in
    let e = get_or early i none in
    let is : e ≡ get_or early i e = get_or_default early i none e within in
    let before = c.loop-entry.lists.items in
    let known = c.loop-entry.invariant in
    elim c.match-get.branch [
      | in-Some+in_ok-put_at w ↦
          let x : Bor SqlExpr = w.in-Some.part.now in
          let now : List (Vec (Bor SqlExpr)) = w.put_at.new.lists in
          let got : slice_get parts e.conjunct ≡ Some x = got_at parts e.conjunct x w.in-Some.ensures.lookup.3.0 w.in-Some.ensures.lookup.1 in
          let put : IsPutAt e.join x before now = subst (λ (l : List (Vec (Bor SqlExpr))). IsPutAt e.join x l now) w.deref_mut.ensures.value w.in_ok-put_at.ensures in
          let kept : length now ≡ length before = omega (arith, w.put_at.auto.lists, ap (λ (l : List (Vec (Bor SqlExpr))). length l) w.deref_mut.ensures.value) in
          let all = part_put parts early i e count within is x before now known.many got known.lists put in
          let long : length now ≡ c.loop-entry.lists.len = omega (arith, kept, c.loop-entry.lists.ok.0) in
          let same : c.match-get.lists.items ≡ now = ap (λ (v : Vec (Vec (Bor SqlExpr))). v.items) w.lists-is ∙ with_items_is c.loop-entry.lists now long in
          record {
            many = ap (λ (l : List (Vec (Bor SqlExpr))). length l) same ∙ kept ∙ known.many;
            lists = subst (AreLists (parts_at parts (take (i + 1) early)) count) (sym same) all;
          }
      | in_default w ↦
          let missing : slice_get parts e.conjunct ≡ None = got_past parts e.conjunct w.in_default.ensures.lookup.3 in
          let all = part_missing parts early i e count within is before missing known.lists in
          let same : c.match-get.lists.items ≡ before = ap (λ (v : Vec (Vec (Bor SqlExpr))). v.items) w.lists-is in
          record {
            many = ap (λ (l : List (Vec (Bor SqlExpr))). length l) same ∙ known.many;
            lists = subst (AreLists (parts_at parts (take (i + 1) early)) count) (sym same) all;
          }
    ]
