use Rattle.std.proofs.Common.{◌≡◌, ◌&&◌, sym, ◌∙◌, chars, rules, tests}
use Rattle.std.specs.List.{list_all}
use Rattle.std.proofs.lemmas.Bool.{false≢true}
use Rattle.std.proofs.lemmas.Iterator.{YieldsList-from_chars}
use Rattle.std.proofs.lemmas.Iterator.Search.{all_from_yields_List}
use Rattle.vtl_text.specs.Words.{fits_name, starts_with_letter, is_word_character, is_word}
use Rattle.vtl_text.proofs.WordTests.{three_pass, first_fails, second_fails}
use Rattle.vtl_text.proofs.words.is_word.Goals as goal
use Rattle.vtl_text.proofs.words.is_word.Goals.{then-fits_name, else-fits_name}

pub returns-then-starts_with_letter : goal.returns-then-starts_with_letter
unfolding is_word
returns-then-starts_with_letter c =
    let cs = chars c.args.text.now in
    let every : c.all.result ≡ list_all is_word_character cs =
    all_from_yields_List is_word_character _ _ c.all.result c.all.ensures.ran (YieldsList-from_chars c.args.text.now c.utf8.text c.chars.ensures.rest) (λ x b q k. search (rules, tests)) in
    elim c.if-fits_name.branch [
      | then-fits_name w ↦ every ∙ three_pass (fits_name cs) (starts_with_letter cs) (list_all is_word_character cs) (sym c.fits_name.ensures ∙ w.if-fits_name.true) (sym w.starts_with_letter.ensures ∙ sym w.value-is ∙ c.if-starts_with_letter.true)
      | else-fits_name w ↦ absurd (false≢true (sym w.if-fits_name.false ∙ sym w.value-is ∙ c.if-starts_with_letter.true))
    ]

pub returns-else-starts_with_letter : goal.returns-else-starts_with_letter
unfolding is_word
returns-else-starts_with_letter c =
    let cs = chars c.args.text.now in
    let every = list_all is_word_character cs in
    elim c.if-fits_name.branch [
      | then-fits_name w ↦ c.if-starts_with_letter.false ∙ second_fails (fits_name cs) (starts_with_letter cs) every (sym c.fits_name.ensures ∙ w.if-fits_name.true) (sym w.starts_with_letter.ensures ∙ sym w.value-is ∙ c.if-starts_with_letter.false)
      | else-fits_name w ↦ c.if-starts_with_letter.false ∙ first_fails (fits_name cs) (starts_with_letter cs && every) (sym c.fits_name.ensures ∙ w.if-fits_name.false)
    ]
