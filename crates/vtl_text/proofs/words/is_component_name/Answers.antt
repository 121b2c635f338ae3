use Rattle.std.proofs.Common.{◌≡◌, ◌&&◌, not, sym, ap, ◌∙◌, ◌==◌, length, chars, rules, tests}
use Rattle.std.specs.List.{list_all}
use Rattle.std.proofs.lemmas.Bool.{false≢true}
use Rattle.std.proofs.lemmas.Iterator.{YieldsList-from_chars}
use Rattle.std.proofs.lemmas.Iterator.Search.{all_from_yields_List}
use Rattle.vtl_text.specs.Words.{fits_name, is_component_character, is_component_name}
use Rattle.vtl_text.proofs.WordTests.{three_pass, first_fails, second_fails, same_empty}
use Rattle.vtl_text.proofs.words.is_component_name.Goals as goal
use Rattle.vtl_text.proofs.words.is_component_name.Goals.{then-fits_name, else-fits_name}

pub returns-then-not-is_empty : goal.returns-then-not-is_empty
unfolding is_component_name
returns-then-not-is_empty c =
    let cs = chars c.args.text.now in
    let every : c.all.result ≡ list_all is_component_character cs =
    all_from_yields_List is_component_character _ _ c.all.result c.all.ensures.ran (YieldsList-from_chars c.args.text.now c.utf8.text c.chars.ensures.rest) (λ x b q k. search (rules, tests)) in
    elim c.if-fits_name.branch [
      | then-fits_name w ↦
          every ∙ three_pass (fits_name cs) (not (length cs == 0)) (list_all is_component_character cs) (sym c.fits_name.ensures ∙ w.if-fits_name.true)
          (ap not (sym (w.is_empty.ensures ∙ same_empty c.args.text.now c.utf8.text)) ∙ sym w.value-is ∙ c.if-not-is_empty.true)
      | else-fits_name w ↦ absurd (false≢true (sym w.if-fits_name.false ∙ sym w.value-is ∙ c.if-not-is_empty.true))
    ]

pub returns-else-not-is_empty : goal.returns-else-not-is_empty
unfolding is_component_name
returns-else-not-is_empty c =
    let cs = chars c.args.text.now in
    let every = list_all is_component_character cs in
    elim c.if-fits_name.branch [
      | then-fits_name w ↦
          c.if-not-is_empty.false ∙ second_fails (fits_name cs) (not (length cs == 0)) every (sym c.fits_name.ensures ∙ w.if-fits_name.true)
          (ap not (sym (w.is_empty.ensures ∙ same_empty c.args.text.now c.utf8.text)) ∙ sym w.value-is ∙ c.if-not-is_empty.false)
      | else-fits_name w ↦ c.if-not-is_empty.false ∙ first_fails (fits_name cs) (not (length cs == 0) && every) (sym c.fits_name.ensures ∙ w.if-fits_name.false)
    ]
