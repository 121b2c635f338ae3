use Rattle.std.proofs.Common.{◌≡◌, ◌∙◌, rules, tests, nat_eq}
use Rattle.std.specs.List.{position}
use Rattle.std.specs.Cmp.Lexicographic.{pointwise}
use Rattle.std.proofs.lemmas.Iterator.{YieldsList-from_slice}
use Rattle.std.proofs.lemmas.Iterator.Search.{position_from_yields_List}
use Rattle.vtl_text.specs.Words.{reserved_words}
use Rattle.vtl_text.proofs.WordTests.{reserved_place_by_bytes}
use Rattle.vtl_text.proofs.words.reserved_place.Goals as goal

pub returns : goal.returns
unfolding reserved_words
returns c =
    let by_bytes : c.position.result ≡ position (λ w. pointwise nat_eq w c.args.text.now) reserved_words = position_from_yields_List (λ w. pointwise nat_eq w.now c.args.text.now) _ _ c.position.result c.position.ensures.ran (YieldsList-from_slice _ c.iter.ensures.rest) (λ x b q k. search (rules, tests)) in
    by_bytes ∙ reserved_place_by_bytes c.args.text.now c.utf8.text
