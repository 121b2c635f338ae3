use Rattle.std.proofs.Common.{arith, ap, set, sym, Some, ◌∙◌}
use Rattle.std.specs.Map.{set_value}
use Rattle.vtl_text.specs.Texts.{same_text}
use Rattle.vtl_text.proofs.NamedItems.{apart_kept, finds_written, item_found, item_written, no_place, place_within, set_nowhere}
use Rattle.vtl_text.proofs.by_name.ByName.replace.Goals as goal

pub returns-in_err-place-clause-replaced : goal.returns-in_err-place-clause-replaced
returns-in_err-place-clause-replaced g c =
    sym (set_nowhere (same_text c.args.name.now) c.args.self.now c.args.item (no_place c.args.name.now c.args.self.now (sym c.in_err-place.ensures)))

pub returns-in_err-place-clause-before : goal.returns-in_err-place-clause-before
returns-in_err-place-clause-before g c = rw c.from_residual.ensures (sym (no_place c.args.name.now c.args.self.now (sym c.in_err-place.ensures)))

pub index_mut-entry-requires : goal.index_mut-entry-requires
index_mut-entry-requires g c =
    let within = place_within c.args.name.now c.args.self.now c.self.inside.entries.items c.in_ok-place.place c.self.view_is c.in_ok-place.ensures in
    omega (arith, within, c.self.inside.entries.ok.0)

pub invariant_of-self : goal.invariant_of-self
invariant_of-self g c =
    let name = c.args.name.now in
    let es = c.self.inside.entries.items in
    record {
      apart = apart_kept (same_text name) es (set es c.in_ok-place.place (c.index_mut-entry.result.now.0, c.replace.new.dest)) c.replace.new.dest c.self.invariant.apart
          (item_written name c.args.self.now es c.in_ok-place.place c.self.view_is c.in_ok-place.ensures c.index_mut-entry.result.now c.index_mut-entry.ensures.value c.replace.new.dest
          ∙ ap (λ l. set_value (same_text name) l c.replace.new.dest) (sym c.self.view_is));
      finds = finds_written name c.args.self.now es c.in_ok-place.place c.self.view_is c.in_ok-place.ensures c.index_mut-entry.result.now c.index_mut-entry.ensures.value
          c.self.inside.places c.replace.new.dest c.self.invariant.finds;
    }

pub returns-clause-replaced : goal.returns-clause-replaced
returns-clause-replaced g c =
    item_written c.args.name.now c.args.self.now c.self.inside.entries.items c.in_ok-place.place c.self.view_is c.in_ok-place.ensures c.index_mut-entry.result.now c.index_mut-entry.ensures.value
    c.replace.new.dest
    ∙ ap (set_value (same_text c.args.name.now) c.args.self.now) c.replace.ensures.after

pub returns-clause-before : goal.returns-clause-before
returns-clause-before g c =
    ap (λ x. Some x) c.replace.ensures.value
    ∙ item_found c.args.name.now c.args.self.now c.self.inside.entries.items c.in_ok-place.place c.self.view_is c.in_ok-place.ensures c.index_mut-entry.result.now c.index_mut-entry.ensures.value
