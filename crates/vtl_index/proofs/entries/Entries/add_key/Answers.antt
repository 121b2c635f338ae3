use Rattle.std.proofs.Common.{◌++◌, ◌∷◌, [], ◌∙◌, ap, arith, length, refl, subst, sym}
use Rattle.vtl_lists.proofs.Tests.{on_err}
use Rattle.vtl_index.proofs.Adding.{added, same_rows, same_seen}
use Rattle.vtl_index.specs.Lookup.{with_row}
use Rattle.vtl_index.specs.Places.{KeepsOthers, TakesPlace}
use Rattle.vtl_index.proofs.entries.Entries.add_key.Goals as goal

pub returns-in_err-make_room-clause-err : goal.returns-in_err-make_room-clause-err
returns-in_err-make_room-clause-err c = on_err c.from_residual.result (same_rows c.args.self.now c.make_room.new.self c.make_room.ensures.rows (λ k. ap (λ f. f k) c.make_room.ensures.places))

pub returns-in_err-copy-clause-err : goal.returns-in_err-copy-clause-err
returns-in_err-copy-clause-err c = on_err c.from_residual-in_err-copy.result (same_rows c.args.self.now c.make_room.new.self c.make_room.ensures.rows (λ k. ap (λ f. f k) c.make_room.ensures.places))

pub returns-in_err-reserve-clause-err : goal.returns-in_err-reserve-clause-err
returns-in_err-reserve-clause-err c =
    on_err c.from_residual-in_err-reserve.result (same_rows c.args.self.now (record c.make_room.new.self { cells = c.reserve.new.self }) c.make_room.ensures.rows
    (λ k. same_seen c.make_room.new.self (record c.make_room.new.self { cells = c.reserve.new.self }) c.reserve.ensures.items refl refl (λ _ _. refl) k ∙ ap (λ f. f k) c.make_room.ensures.places))

pub returns-in_err-reserve-2-clause-err : goal.returns-in_err-reserve-2-clause-err
returns-in_err-reserve-2-clause-err c =
    on_err c.from_residual-in_err-reserve-2.result (same_rows c.args.self.now (record c.make_room.new.self { cells = c.reserve.new.self; rows = c.reserve-2.new.self }) (c.reserve-2.ensures.items ∙ c.make_room.ensures.rows)
    (λ k. same_seen c.make_room.new.self (record c.make_room.new.self { cells = c.reserve.new.self; rows = c.reserve-2.new.self }) c.reserve.ensures.items refl c.reserve-2.ensures.items (λ _ _. refl) k ∙ ap (λ f. f k) c.make_room.ensures.places))

pub returns-in_err-put-clause-err : goal.returns-in_err-put-clause-err
returns-in_err-put-clause-err c =
    on_err c.from_residual-in_err-put.result (same_rows c.args.self.now (record c.make_room.new.self { cells = c.reserve.new.self; rows = c.reserve-2.new.self; places = c.put.new.self }) (c.reserve-2.ensures.items ∙ c.make_room.ensures.rows)
    (λ k. same_seen c.make_room.new.self (record c.make_room.new.self { cells = c.reserve.new.self; rows = c.reserve-2.new.self; places = c.put.new.self }) c.reserve.ensures.items refl c.reserve-2.ensures.items c.in_err-put.ensures.err k ∙ ap (λ f. f k) c.make_room.ensures.places))

pub returns-clause-indexed : goal.returns-clause-indexed
returns-clause-indexed c =
    (added c.make_room.new.self (record c.make_room.new.self { cells = c.append.new.self; rows = c.push.new.self; places = c.put.new.self }) c.args.key.now c.args.row
    c.make_room.ensures.indexed (c.requires.width ∙ sym c.make_room.ensures.width) (ap (λ f. f c.args.key.now) c.make_room.ensures.places ∙ c.requires.absent)
    (let ok = c.make_room.new.self.rows.ok in let few = c.make_room.new.self.rows.small in omega (arith, ok.0, ok.1, few)) refl
    (c.in_ok-append.ensures.items ∙ ap (λ l. l ++ c.in_ok-copy.copy.items) c.reserve.ensures.items ∙ ap (λ l. c.make_room.new.self.cells.items ++ l) c.in_ok-copy.ensures)
    (c.in_ok-push.ensures.items ∙ ap (λ l. l ++ c.of.result ∷ []) c.reserve-2.ensures.items ∙ ap (λ r. c.make_room.new.self.rows.items ++ r ∷ []) c.of.ensures)
    (subst (λ p. KeepsOthers c.args.key.now p c.make_room.new.self.places.buckets.items c.make_room.new.self.places.others c.put.new.self.buckets.items c.put.new.self.others) (c.len-place.ensures ∙ c.reserve-2.new.self.ok.0 ∙ ap length c.reserve-2.ensures.items) c.in_ok-put.ensures.kept)
    (subst (λ p. TakesPlace c.args.key.now p c.put.new.self.buckets.items c.put.new.self.others) (c.len-place.ensures ∙ c.reserve-2.new.self.ok.0 ∙ ap length c.reserve-2.ensures.items) c.in_ok-put.ensures.taken)
    c.in_ok-put.ensures.backed).0

pub returns-clause-rows : goal.returns-clause-rows
returns-clause-rows c =
    (added c.make_room.new.self (record c.make_room.new.self { cells = c.append.new.self; rows = c.push.new.self; places = c.put.new.self }) c.args.key.now c.args.row
    c.make_room.ensures.indexed (c.requires.width ∙ sym c.make_room.ensures.width) (ap (λ f. f c.args.key.now) c.make_room.ensures.places ∙ c.requires.absent)
    (let ok = c.make_room.new.self.rows.ok in let few = c.make_room.new.self.rows.small in omega (arith, ok.0, ok.1, few)) refl
    (c.in_ok-append.ensures.items ∙ ap (λ l. l ++ c.in_ok-copy.copy.items) c.reserve.ensures.items ∙ ap (λ l. c.make_room.new.self.cells.items ++ l) c.in_ok-copy.ensures)
    (c.in_ok-push.ensures.items ∙ ap (λ l. l ++ c.of.result ∷ []) c.reserve-2.ensures.items ∙ ap (λ r. c.make_room.new.self.rows.items ++ r ∷ []) c.of.ensures)
    (subst (λ p. KeepsOthers c.args.key.now p c.make_room.new.self.places.buckets.items c.make_room.new.self.places.others c.put.new.self.buckets.items c.put.new.self.others) (c.len-place.ensures ∙ c.reserve-2.new.self.ok.0 ∙ ap length c.reserve-2.ensures.items) c.in_ok-put.ensures.kept)
    (subst (λ p. TakesPlace c.args.key.now p c.put.new.self.buckets.items c.put.new.self.others) (c.len-place.ensures ∙ c.reserve-2.new.self.ok.0 ∙ ap length c.reserve-2.ensures.items) c.in_ok-put.ensures.taken)
    c.in_ok-put.ensures.backed).1
    ∙ ap (with_row c.args.key.now c.args.row) (same_rows c.args.self.now c.make_room.new.self c.make_room.ensures.rows (λ k. ap (λ f. f k) c.make_room.ensures.places))
