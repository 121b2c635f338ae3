use Rattle.std.proofs.Common.{◌≡◌, true, take}
use Rattle.std.specs.Map.{keys_of}
use Rattle.vtl_lists.specs.Apart.{all_apart}
use Rattle.vtl_text.specs.Texts.{same_text}
use Rattle.vtl_text.proofs.distinct.are_distinct.Given as goal

abbrev pub invariant-loop-text : goal.invariant-loop-text
invariant-loop-text l = (keys_of l.seen ≡ take l.text-index l.texts) × (all_apart same_text (keys_of l.seen) ≡ true)
