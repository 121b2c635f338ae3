use Rattle.std.proofs.Common.{◌≡◌, ◌<◌, ◌-◌, ◌∙◌, ◌&&◌, ℕ, arith, chars, true, length, nat_lt, sym, ap}
use Rattle.std.proofs.lemmas.Bool.Decides.{nat_tests}
use borrow.Author.Tests.{ltb-true}
use Rattle.sql_lexer.specs.Spelling.{has_no_control}
use Rattle.sql_lexer.proofs.NameParts.{both_pass, name-quoted_bytes, one_fails}
use Rattle.sql_lexer.proofs.names.is_quoted_name.Goals as goal
use Rattle.sql_lexer.proofs.names.is_quoted_name.Goals.{then-back-saturating_sub, else-back-saturating_sub}

passes : (m n k : ℕ) → k ≡ 256 - n → m < k → nat_lt m (256 - n) ≡ true
passes m n k e lt = grind (arith, nat_tests)

pub returns-then-has_no_control : goal.returns-then-has_no_control
returns-then-has_no_control c =
    let front = c.args.front.now in
    let back = c.args.back.now in
    let room = nat_lt (length back) (256 - length front) in
    elim c.if-back-saturating_sub.branch [
      | then-back-saturating_sub w ↦
          let fits : room ≡ true = passes (length back) (length front) c.saturating_sub.result c.saturating_sub.ensures w.if-back-saturating_sub.true in
          let plain : has_no_control (chars front) ≡ true = sym w.has_no_control.ensures ∙ sym w.value-is ∙ c.if-has_no_control.true in
          let rest = both_pass (has_no_control (chars front)) (has_no_control (chars back)) c.has_no_control-then-has_no_control.result plain c.has_no_control-then-has_no_control.ensures in
          both_pass room (has_no_control (chars front) && has_no_control (chars back)) c.has_no_control-then-has_no_control.result fits rest ∙ sym (name-quoted_bytes front back c.utf8.front c.utf8.back)
      | else-back-saturating_sub w ↦
          let less = ltb-true (length back) c.saturating_sub.result (sym w.value-is ∙ c.if-has_no_control.true) in
          absurd (omega (arith, less, w.if-back-saturating_sub.false))
    ]

pub returns-else-has_no_control : goal.returns-else-has_no_control
returns-else-has_no_control c =
    let front = c.args.front.now in
    let back = c.args.back.now in
    let room = nat_lt (length back) (256 - length front) in
    let value = c.if-back-saturating_sub.value in
    elim c.if-back-saturating_sub.branch [
      | then-back-saturating_sub w ↦
          let fits : room ≡ true = passes (length back) (length front) c.saturating_sub.result c.saturating_sub.ensures w.if-back-saturating_sub.true in
          let fails = one_fails (has_no_control (chars front)) (has_no_control (chars back)) value (w.value-is ∙ w.has_no_control.ensures) c.if-has_no_control.false in
          both_pass room (has_no_control (chars front) && has_no_control (chars back)) value fits fails ∙ sym (name-quoted_bytes front back c.utf8.front c.utf8.back)
      | else-back-saturating_sub w ↦
          let is : value ≡ room = w.value-is ∙ ap (nat_lt (length back)) c.saturating_sub.ensures in
          one_fails room (has_no_control (chars front) && has_no_control (chars back)) value is c.if-has_no_control.false ∙ sym (name-quoted_bytes front back c.utf8.front c.utf8.back)
    ]
