use Rattle.std.proofs.Common.{◌≡◌, ◌∙◌, ℕ, Bool, List, IfOk, length, not, ap, subst, sym}
use Rattle.std.specs.Prelude.{◌==◌}
use Rattle.std.specs.List.{filter}
use Rattle.std.proofs.lemmas.Result.{IfOk-weaker}
use Rattle.sql_meaning.proofs.IndexedJoins.{no_faults}
use Rattle.sql_from.specs.Joins.{fault_of, numbers_to, passes}
use Rattle.sql_from.proofs.Found.{any_kept}
use Rattle.sql_from.proofs.Gained.{tries_as, tries_found}
use Rattle.sql_from.proofs.lookup.LookupPairing.add_pairs.Goals as goal

-- of a whole look-up: all that is found is a pair
pub returns-in_ok-add_found-clause-met : goal.returns-in_ok-add_found-clause-met
returns-in_ok-add_found-clause-met g c =
    let f = g.C.Condition.value c.args.self.now.condition.now in
    let x = c.args.front.now in
    let all = numbers_to c.args.self.now.rows.now.keys.count in
    let is : c.found-found.result.now ≡ filter (passes f x) all = c.found-found.ensures ∙ c.requires.sound.finds.whole c.if-self.true x (c.requires.front ∙ sym c.requires.width) in
    ap not (c.is_empty.ensures ∙ ap (λ l. length l == 0) is) ∙ sym (any_kept (passes f x) all)

pub returns-in_ok-add_found-clause-tries : goal.returns-in_ok-add_found-clause-tries
returns-in_ok-add_found-clause-tries g c =
    let f = g.C.Condition.value c.args.self.now.condition.now in
    let h = g.F.Condition.value c.args.self.now.filter.now in
    let x = c.args.front.now in
    let all = numbers_to c.args.self.now.rows.now.keys.count in
    let whole = c.requires.front ∙ sym c.requires.width in
    tries_found f h x c.found-found.result.now all c.args.so_far.now c.add_found.new.so_far c.args.met.now.items c.add_found.new.met.items (c.found-found.ensures ∙ c.requires.sound.finds.whole c.if-self.true x whole)
    (no_faults (fault_of f x) (λ j. c.requires.sound.finds.sound x j whole) all) c.in_ok-add_found.ensures.gains c.in_ok-add_found.ensures.marked

-- of another one: what is found is tried, and no other row is a pair
pub returns-else-self-clause-met : goal.returns-else-self-clause-met
returns-else-self-clause-met g c =
    let f = g.C.Condition.value c.args.self.now.condition.now in
    let x = c.args.front.now in
    let all = numbers_to c.args.self.now.rows.now.keys.count in
    let found = c.found-found.result.now in
    let same : filter (passes f x) found ≡ filter (passes f x) all = ap (filter (passes f x)) c.found-found.ensures ∙ c.requires.sound.finds.found x (c.requires.front ∙ sym c.requires.width) in
    subst (λ (b : Bool). IfOk c.try_found.result (λ r. r ≡ b)) (any_kept (passes f x) found ∙ ap (λ (l : List ℕ). not (length l == 0)) same ∙ sym (any_kept (passes f x) all)) c.try_found.ensures.met

pub returns-else-self-clause-tries : goal.returns-else-self-clause-tries
returns-else-self-clause-tries g c =
    let f = g.C.Condition.value c.args.self.now.condition.now in
    let h = g.F.Condition.value c.args.self.now.filter.now in
    let x = c.args.front.now in
    let all = numbers_to c.args.self.now.rows.now.keys.count in
    let found = c.found-found.result.now in
    let whole = c.requires.front ∙ sym c.requires.width in
    let same : filter (passes f x) found ≡ filter (passes f x) all = ap (filter (passes f x)) c.found-found.ensures ∙ c.requires.sound.finds.found x whole in
    let none = λ (js : List ℕ). no_faults (fault_of f x) (λ j. c.requires.sound.finds.sound x j whole) js in
    IfOk-weaker c.try_found.result _ _ (λ r tries. tries_as f h x found all c.args.so_far.now c.try_found.new.so_far c.args.met.now.items c.try_found.new.met.items same (none found ∙ sym (none all)) tries) c.try_found.ensures.tries
