use Rattle.std.proofs.Common.{◌≡◌, ◌<◌, ◌≤◌, length, sym, ◌∙◌, arith}
use Rattle.std.specs.List.{position_or_len}
use Rattle.std.proofs.lemmas.List.{length-map}
use Rattle.vtl_tree.specs.Shown.{shown}
use Rattle.vtl_meaning.specs.Joined.{contains_all}
use Rattle.joins_to_sql.proofs.References.{found, none, nowhere, shown_at}
use Rattle.joins_to_sql.proofs.join_operands.containing.Goals.{else-left-structures-via-then-left-structures+else-contains_all, else-left-structures-via-else-left-structures}
use Rattle.joins_to_sql.proofs.join_operands.containing.Goals as goal

pub returns-then-contains_all : goal.returns-then-contains_all
returns-then-contains_all c =
    let bs = c.args.structures.now in
    let ss = shown bs in
    let many = length-map bs (λ b. b.now) in
    let left = c.left_over-left.result in
    let a = c.index-structures-left.result in
    let inside : left < length bs = c.if-left-structures.true in
    found ss left a.now (omega (arith, many, inside)) (shown_at bs left a inside c.index-structures-left.is) (λ h. c.left_over-left.ensures (omega (arith, many, h))) (sym c.contains_all.ensures ∙ c.if-contains_all.true)

pub returns-else-left-structures : goal.returns-else-left-structures
returns-else-left-structures c =
    let bs = c.args.structures.now in
    let ss = shown bs in
    let many : length ss ≡ length bs = length-map bs (λ b. b.now) in
    let left = c.left_over-left.result in
    let there : position_or_len (contains_all ss) ss < length ss → left ≡ position_or_len (contains_all ss) ss = λ h. c.left_over-left.ensures (omega (arith, many, h)) in
    sym many
    ∙ elim c.else-left-structures.branch [
      | else-left-structures-via-then-left-structures+else-contains_all w ↦
          let a = w.index-structures-left.result in
          let inside : left < length bs = w.if-left-structures.true in
          none ss left a.now (omega (arith, many, inside)) (shown_at bs left a inside w.index-structures-left.is) there (sym w.contains_all.ensures ∙ w.if-contains_all.false)
      | else-left-structures-via-else-left-structures w ↦
          let past : length bs ≤ left = w.if-left-structures.false in
          nowhere ss left (omega (arith, many, past)) there
    ]
