use Rattle.std.proofs.Common.{◌≡◌, ℕ, ◌+◌, ◌<◌, IfOk, Option, None, Some, ◌++◌, length, take, drop, chars, refl, sym, ap, subst, ◌∙◌, arith}
use Rattle.std.specs.String.{string_bytes}
use Rattle.std.proofs.lemmas.Bool.Decides.{nat_tests}
use Rattle.std.proofs.lemmas.Grind.{common_steps}
use Rattle.std.proofs.lemmas.List.{nil_from_length}
use Rattle.std.proofs.lemmas.Str.{chars-nil, IsUtf8-string_bytes}
use Rattle.vtl_text.specs.Texts.{replace_of, replaced_from}
use Rattle.vtl_text.proofs.Occurrences.{first_of, none_of, replace_more, replace_end}
use Rattle.vtl_text.proofs.Places.{replace_of-empty}
use Rattle.vtl_text.proofs.searches.replace.Goals as goal

nothing : (r : Option ℕ) → ((k : ℕ) → r ≡ Some k → ⊥) → r ≡ None
nothing None no_some = refl
nothing (Some k) no_some = absurd (no_some k refl)

pub returns-then-is_empty : goal.returns-then-is_empty
returns-then-is_empty c =
    let empty : length c.args.pattern.now ≡ 0 = grind (arith, nat_tests) in
    let cs = chars c.args.t.now in
    let by = chars c.args.by.now in
    let same : cs ≡ replace_of cs (chars c.args.pattern.now) by =
    sym (ap (λ p. replace_of cs (chars p) by) (nil_from_length c.args.pattern.now empty) ∙ ap (λ p. replace_of cs p by) chars-nil ∙ replace_of-empty cs by) in
    subst (λ v. IfOk c.new.result (λ r. r ≡ v)) same c.new.ensures

pub loop-at-init : goal.loop-at-init
loop-at-init c =
    let left = replaced_from (chars c.args.pattern.now) (chars c.args.by.now) 0 (chars c.args.t.now) in
    (c.utf8.t, ap (λ l. chars l ++ left) c.in_ok-out.ensures.bytes ∙ ap (λ l. l ++ left) chars-nil)

pub range-requires-clause-end_boundary : goal.range-requires-clause-end_boundary
range-requires-clause-end_boundary c =
    let some : 0 < length c.args.pattern.now = grind (arith, nat_tests) in
    (first_of c.loop-at.rest.now c.args.pattern.now _ _ c.in-Some.at _ c.loop-at.invariant.0 c.utf8.pattern some c.as_bytes-in-loop-at.ensures.value (c.new-finder.ensures ∙ c.as_bytes.ensures.value) c.in-Some.is c.find.ensures).start

pub range_from-rest-requires : goal.range_from-rest-requires
range_from-rest-requires c =
    let some : 0 < length c.args.pattern.now = grind (arith, nat_tests) in
    let found = first_of c.loop-at.rest.now c.args.pattern.now _ _ c.in-Some.at _ c.loop-at.invariant.0 c.utf8.pattern some c.as_bytes-in-loop-at.ensures.value (c.new-finder.ensures ∙ c.as_bytes.ensures.value) c.in-Some.is c.find.ensures in
    λ _. found.end

pub loop-at-preserved : goal.loop-at-preserved
loop-at-preserved c =
    let some : 0 < length c.args.pattern.now = grind (arith, nat_tests) in
    let found = first_of c.loop-at.rest.now c.args.pattern.now _ _ c.in-Some.at _ c.loop-at.invariant.0 c.utf8.pattern some c.as_bytes-in-loop-at.ensures.value (c.new-finder.ensures ∙ c.as_bytes.ensures.value) c.in-Some.is c.find.ensures in
    let front : c.range.result.now ≡ take c.in-Some.at c.loop-at.rest.now = grind (arith, common_steps) in
    let more : c.range_from-rest.result.now ≡ drop (c.in-Some.at + length c.args.pattern.now) c.loop-at.rest.now = grind (arith, common_steps) in
    let new : string_bytes c.push_str-in-Some.new.self ≡ (string_bytes c.loop-at.out ++ c.range.result.now) ++ c.args.by.now =
    c.in_ok-push_str-2.ensures.bytes ∙ ap (λ l. l ++ c.args.by.now) c.in_ok-push_str.ensures.bytes in
    (c.range_from-rest.utf8, replace_more c.args.t.now c.args.by.now c.loop-at.rest.now c.args.pattern.now (string_bytes c.loop-at.out) c.range.result.now c.range_from-rest.result.now (string_bytes c.push_str-in-Some.new.self) c.in-Some.at found c.utf8.pattern some (IsUtf8-string_bytes c.loop-at.out) c.utf8.by front new more c.loop-at.invariant.1)

pub returns : goal.returns
returns c =
    let some : 0 < length c.args.pattern.now = grind (arith, nat_tests) in
    let none = none_of c.loop-at.rest.now c.args.pattern.now _ _ _ c.loop-at.invariant.0 c.utf8.pattern c.as_bytes-in-loop-at.ensures.value (c.new-finder.ensures ∙ c.as_bytes.ensures.value) (nothing c.find.result c.in_default.not-Some) c.find.ensures in
    let whole = replace_end c.args.t.now c.args.by.now c.loop-at.rest.now c.args.pattern.now (string_bytes c.loop-at.out) (string_bytes c.push_str-2.new.self) none c.utf8.pattern some (IsUtf8-string_bytes c.loop-at.out) c.in_ok-push_str-3.ensures.bytes c.loop-at.invariant.1 in
    subst (λ v. IfOk c.from_string.result (λ r. r ≡ v)) whole c.from_string.ensures
