use Rattle.std.proofs.Common.{◌≡◌, arith, ap, length, ◌∙◌, ◌++◌, ◌∷◌, []}
use Rattle.std.specs.List.{list_any}
use Rattle.std.specs.Map.{keys_of}
use Rattle.vtl_text.specs.Texts.{same_text}
use Rattle.vtl_text.proofs.NamedItems.{apart_more, finds_more}
use Rattle.vtl_text.proofs.by_name.ByName.put.Goals as goal

pub invariant_of-self-2 : goal.invariant_of-self-2
invariant_of-self-2 g c =
    let es = c.self.inside.entries.items in
    let many : c.len.result ≡ length c.reserve.new.self.items = omega (arith, c.len.ensures, c.reserve.new.self.ok.0) in
    let absent = ap (λ l. list_any (same_text c.args.name) (keys_of l)) c.self.view_is ∙ c.requires in
    let grown = c.in_ok-push.ensures.items in
    record {
      apart = apart_more c.args.name c.args.item es c.push.new.self.items absent c.self.invariant.apart (grown ∙ ap (λ l. l ++ (c.args.name, c.args.item) ∷ []) c.in_ok-reserve.ensures.items);
      finds = finds_more c.args.name c.in_ok-share.field-0 c.args.item es c.reserve.new.self.items c.push.new.self.items c.len.result c.self.inside.places c.insert.new.self
          absent c.self.invariant.finds c.in_ok-share.ensures c.in_ok-reserve.ensures.items many grown c.in_ok-insert.ensures.updates.0;
    }
