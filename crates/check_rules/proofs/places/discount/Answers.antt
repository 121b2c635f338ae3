use Rattle.std.proofs.Common.{◌≡◌, ◌-◌, Some, sym, ◌∙◌}
use Rattle.std.specs.Map.{lookup}
use Rattle.vtl_text.specs.Texts.{same_text}
use Rattle.check_rules.proofs.Maps.{counted_again}
use Rattle.check_rules.proofs.places.discount.Goals as goal

pub returns-then-n-ge1 : goal.returns-then-n-ge1
returns-then-n-ge1 c =
    let here : lookup (same_text c.args.item.now) c.args.counts.now ≡ Some c.in-Some.n = sym (c.copied.ensures ∙ c.get.ensures) ∙ c.in-Some.is in
    counted_again c.args.item.now c.args.counts.now c.replace.new.self c.in-Some.n (λ m. m - 1) here c.replace.ensures.replaced
