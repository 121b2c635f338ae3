use Rattle.std.proofs.Common.{◌++◌, ap, sym, ◌∙◌, arith, append-nil}
use Rattle.std.specs.List.{enumerate_from, flat_map}
use Rattle.std.proofs.lemmas.List.{drop_all}
use Rattle.check_rules.specs.Running.{uses_of, places_at}
use Rattle.check_rules.proofs.Lists.{gathered}
use Rattle.check_rules.proofs.places.users.Goals as goal

pub loop-place-init : goal.loop-place-init
loop-place-init c = λ q. ap (λ es. places_at q es ++ flat_map (uses_of q) (enumerate_from 0 c.args.rules.now)) c.new-users.ensures

pub loop-place-preserved : goal.loop-place-preserved
loop-place-preserved c = λ q.
    gathered (uses_of q) c.args.rules.now c.loop-place.place c.index-rules-place.result (places_at q c.loop-place.users) (places_at q c.note_uses.new.places) (flat_map (uses_of q) (enumerate_from 0 c.args.rules.now)) (omega arith) c.index-rules-place.is (c.in_ok-note_uses.ensures q) (c.loop-place.invariant q)

pub returns : goal.returns
returns c = λ q.
    sym (append-nil (places_at q c.loop-place.users))
    ∙ sym (ap (λ l. places_at q c.loop-place.users ++ flat_map (uses_of q) (enumerate_from c.loop-place.place l)) (drop_all c.loop-place.place c.args.rules.now (omega arith)))
    ∙ c.loop-place.invariant q
