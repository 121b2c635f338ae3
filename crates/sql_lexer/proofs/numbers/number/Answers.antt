use Rattle.std.proofs.Common.{◌≡◌, ◌<◌, ◌∷◌, ◌++◌, ◌∙◌, ℕ, List, Bool, [], true, false, refl, chars, length, nat_eq, arith, sym, ap, subst, append_assoc}
use Rattle.std.specs.Char.{is_ascii_digit}
use Rattle.std.specs.Str.{IsAscii}
use Rattle.std.proofs.lemmas.Bool.Decides.{nat_tests}
use Rattle.std.proofs.lemmas.Str.{chars-IsAscii}
use Rattle.sql_lexer.specs.Lexed.{IsToken}
use Rattle.sql_lexer.specs.declared.token.TokenKind.TheVariants as k
use Rattle.sql_lexer.proofs.NumberParts.{dec-token, int-token, no-fraction}
use Rattle.sql_lexer.proofs.RunParts.{digit-ascii, run-chars, run-utf8}
use Rattle.sql_lexer.proofs.Texts.{all-ascii, not-stripped, stripped}
use Rattle.sql_lexer.proofs.numbers.number.Goals as goal
use Rattle.sql_lexer.proofs.numbers.number.Goals.{in-Some+else-not-is_empty, in_default}

some-there : (n : ℕ) (b : Bool) → b ≡ nat_eq n 0 → b ≡ false → 0 < n
some-there n b e f = grind (arith, nat_tests)

none-there : (part : List ℕ) (b : Bool) → b ≡ nat_eq (length part) 0 → b ≡ true → part ≡ []
none-there [] b e f = refl
none-there (c ∷ part) b e f = let none : length (c ∷ part) ≡ 0 = grind (arith, nat_tests) in absurd (omega (arith, none))

both : (text whole behind fraction part rest : List ℕ) → text ≡ whole ++ behind → behind ≡ 46 ∷ fraction → fraction ≡ part ++ rest → text ≡ (whole ++ 46 ∷ part) ++ rest
both text whole behind fraction part rest e f g = e ∙ ap (λ l. whole ++ l) (f ∙ ap (λ l. 46 ∷ l) g) ∙ sym (append_assoc whole (46 ∷ part) rest)

pub before-requires : goal.before-requires
before-requires c =
    let whole = c.split_digits.result.0.now in
    let behind = c.split_digits.result.1.now in
    let first = stripped 46 behind c.in-Some.fraction.now (run-utf8 is_ascii_digit digit-ascii c.args.text.now whole behind c.utf8.text c.split_digits.ensures) c.in-Some.ensures.cases in (
      whole ++ 46 ∷ c.split_digits-in-Some.result.0.now,
      both (chars c.args.text.now) whole (chars behind) (chars c.in-Some.fraction.now) c.split_digits-in-Some.result.0.now (chars c.split_digits-in-Some.result.1.now) (run-chars is_ascii_digit digit-ascii c.args.text.now whole behind c.split_digits.ensures) first.is
          (run-chars is_ascii_digit digit-ascii c.in-Some.fraction.now c.split_digits-in-Some.result.0.now c.split_digits-in-Some.result.1.now c.split_digits-in-Some.ensures),
    )

pub returns-then-not-is_empty : goal.returns-then-not-is_empty
returns-then-not-is_empty c =
    let text = c.args.text.now in
    let whole = c.split_digits.result.0.now in
    let behind = c.split_digits.result.1.now in
    let fraction = c.in-Some.fraction.now in
    let part = c.split_digits-in-Some.result.0.now in
    let rest = c.split_digits-in-Some.result.1.now in
    let front = run-chars is_ascii_digit digit-ascii text whole behind c.split_digits.ensures in
    let first = stripped 46 behind fraction (run-utf8 is_ascii_digit digit-ascii text whole behind c.utf8.text c.split_digits.ensures) c.in-Some.ensures.cases in
    let second = run-chars is_ascii_digit digit-ascii fraction part rest c.split_digits-in-Some.ensures in
    let token = dec-token (chars text) whole (chars behind) front (some-there (length whole) c.is_empty.result c.is_empty.ensures c.if-is_empty.false) c.split_digits.ensures.passes c.split_digits.ensures.stops part (chars rest)
    (first.is ∙ ap (λ l. 46 ∷ l) second) (some-there (length part) c.is_empty-in-Some.result c.is_empty-in-Some.ensures c.if-not-is_empty.true, c.split_digits-in-Some.ensures.passes) c.split_digits-in-Some.ensures.stops in
    let held : c.in_ok-new.field-0 ≡ whole ++ 46 ∷ part = c.in_ok-new.ensures ∙ c.before-then-not-is_empty.ensures (whole ++ 46 ∷ part) (both (chars text) whole (chars behind) (chars fraction) part (chars rest) front first.is second) in
    record {
      token = subst (λ l. IsToken (chars text) (k.Dec l) (chars rest)) (sym held) token;
      utf8 = run-utf8 is_ascii_digit digit-ascii fraction part rest first.utf8 c.split_digits-in-Some.ensures;
    }

pub returns : goal.returns
returns c =
    let text = c.args.text.now in
    let whole = c.split_digits.result.0.now in
    let behind = c.split_digits.result.1.now in
    let front = run-chars is_ascii_digit digit-ascii text whole behind c.split_digits.ensures in
    let utf8 = run-utf8 is_ascii_digit digit-ascii text whole behind c.utf8.text c.split_digits.ensures in
    let ascii : IsAscii whole = all-ascii is_ascii_digit whole digit-ascii c.split_digits.ensures.passes in
    let held : c.in_ok-new-2.field-0 ≡ whole = c.in_ok-new-2.ensures ∙ chars-IsAscii whole ascii in
    let token = int-token (chars text) whole (chars behind) front (some-there (length whole) c.is_empty.result c.is_empty.ensures c.if-is_empty.false) c.split_digits.ensures.passes c.split_digits.ensures.stops
    (λ part left digits e. elim c.match-strip_prefix.branch [
      | in-Some+else-not-is_empty w ↦
          let fraction = w.in-Some.fraction.now in
          let first = stripped 46 behind fraction utf8 w.in-Some.ensures.cases in
          let second = run-chars is_ascii_digit digit-ascii fraction w.split_digits-in-Some.result.0.now w.split_digits-in-Some.result.1.now w.split_digits-in-Some.ensures in
          let none = none-there w.split_digits-in-Some.result.0.now w.is_empty-in-Some.result w.is_empty-in-Some.ensures w.if-not-is_empty.false in
          let tails : chars fraction ≡ part ++ left = (let v = sym first.is ∙ e in cc v) in
          let left_is : chars fraction ≡ chars w.split_digits-in-Some.result.1.now = second ∙ ap (λ l. l ++ chars w.split_digits-in-Some.result.1.now) none in
          no-fraction (chars w.split_digits-in-Some.result.1.now) w.split_digits-in-Some.ensures.stops part left digits (sym left_is ∙ tails)
      | in_default w ↦ not-stripped 46 behind (part ++ left) utf8 w.in_default.ensures.cases e
    ]) in
    record { token = subst (λ l. IsToken (chars text) (k.Int l) (chars behind)) (sym held) token; utf8 = utf8 }
