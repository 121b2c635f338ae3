use Rattle.std.proofs.Common.{◌≡◌, ◌+◌, ◌<◌, length, take, chars, sym, ap, ◌∙◌, arith}
use Rattle.std.proofs.lemmas.Bool.Decides.{nat_tests}
use Rattle.std.proofs.lemmas.Grind.{common_steps}
use Rattle.std.proofs.lemmas.List.{nil_from_length}
use Rattle.std.proofs.lemmas.Str.{chars-nil, length-le-encodes, encodes-chars}
use Rattle.vtl_text.specs.Texts.{instr_of}
use Rattle.vtl_text.proofs.Occurrences.{first_of, none_of, instr_at}
use Rattle.vtl_text.proofs.Places.{instr_of-none, instr_of-empty, absent_from}
use Rattle.vtl_text.proofs.searches.instr.Goals as goal

pub returns-then-is_empty : goal.returns-then-is_empty
returns-then-is_empty c =
    let empty : length c.args.pattern.now ≡ 0 = grind (arith, nat_tests) in
    let cs = chars c.args.t.now in
    let value : 1 ≡ instr_of cs (chars c.args.pattern.now) =
    sym (ap (λ p. instr_of cs (chars p)) (nil_from_length c.args.pattern.now empty) ∙ ap (instr_of cs) chars-nil ∙ instr_of-empty cs) in
    record { value = value; absent = absent_from cs (chars c.args.pattern.now) 1 value }

pub range-requires-clause-end_boundary : goal.range-requires-clause-end_boundary
range-requires-clause-end_boundary c =
    let some : 0 < length c.args.pattern.now = grind (arith, nat_tests) in
    (first_of c.args.t.now c.args.pattern.now _ _ c.in-Some.at _ c.utf8.t c.utf8.pattern some c.as_bytes.ensures.value c.as_bytes-2.ensures.value c.in-Some.is c.find.ensures).start

pub overflow_add-result : goal.overflow_add-result
overflow_add-result c =
    let part = c.range.result.now in
    omega (arith, length-le-encodes (chars part), ap length (encodes-chars part c.range.utf8), c.range.type_inv)

pub returns-in-Some : goal.returns-in-Some
returns-in-Some c =
    let some : 0 < length c.args.pattern.now = grind (arith, nat_tests) in
    let found = first_of c.args.t.now c.args.pattern.now _ _ c.in-Some.at _ c.utf8.t c.utf8.pattern some c.as_bytes.ensures.value c.as_bytes-2.ensures.value c.in-Some.is c.find.ensures in
    let front : c.range.result.now ≡ take c.in-Some.at c.args.t.now = grind (arith, common_steps) in
    let value = instr_at c.args.t.now c.args.pattern.now c.range.result.now c.in-Some.at c.length.result found front c.length.ensures in
    record { value = value; absent = absent_from (chars c.args.t.now) (chars c.args.pattern.now) (c.length.result + 1) value }

pub returns-in-None : goal.returns-in-None
returns-in-None c =
    let none = none_of c.args.t.now c.args.pattern.now _ _ _ c.utf8.t c.utf8.pattern c.as_bytes.ensures.value c.as_bytes-2.ensures.value c.in-None.is c.find.ensures in
    let value : 0 ≡ instr_of (chars c.args.t.now) (chars c.args.pattern.now) = sym (instr_of-none (chars c.args.pattern.now) (chars c.args.t.now) (λ i _. none i)) in
    record { value = value; absent = absent_from (chars c.args.t.now) (chars c.args.pattern.now) 0 value }
