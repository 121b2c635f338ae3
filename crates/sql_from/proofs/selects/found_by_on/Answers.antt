use Rattle.std.proofs.Common.{◌≡◌, IfSome, Option, arith, length, subst, sym, true}
use Rattle.std.specs.List.{flat_map}
use Rattle.sql_from.specs.Conditions.{conditions_at, trees_of}
use Rattle.sql_from.specs.Joins.{Test, pairs_with}
use Rattle.sql_from.specs.Keys.{last_of}
use Rattle.sql_from.specs.Lookups.{Finds}
use Rattle.sql_from.specs.Sources.{Sourced}
use Rattle.sql_from.specs.Together.{tested}
use Rattle.sql_from.specs.declared.key_lookup.JoinLookup.{JoinLookup}
use Rattle.sql_from.proofs.Joins.{pairs_fewer}
use Rattle.sql_from.proofs.Links.{linked_asks, nothing_there}
use Rattle.sql_from.proofs.Turned.{joined_as}
use Rattle.sql_from.proofs.selects.found_by_on.Goals as goal

pub join_found-requires-clause-finds : goal.join_found-requires-clause-finds
join_found-requires-clause-finds g c =
    let s = c.args.sources.now in
    let rows = c.in-Some.rows in
    let finds = subst (λ (o : Option JoinLookup). IfSome o (Finds (length s.sources) (conditions_at c.args.p.now s (trees_of c.args.conditions.now)))) c.in-Some.is c.in_ok-rows.ensures.finds in
    subst (λ (z : Sourced). Finds (length z.sources) (tested c.in_ok-on.on) rows) (sym c.in_ok-on.ensures.sources) (subst (λ (f : Test). Finds (length s.sources) f rows) (sym c.in_ok-on.ensures.test) finds)

pub returns-clause-joined : goal.returns-clause-joined
returns-clause-joined g c =
    let s = c.args.sources.now in
    let p = c.args.p.now in
    let count = subst (λ (o : Option JoinLookup). IfSome o (λ l. l.keys.count ≡ length (last_of s).rows)) c.in-Some.is c.in_ok-rows.ensures.rows in
    joined_as c.args.kind (tested c.in_ok-on.on) (conditions_at p s (trees_of c.args.conditions.now)) (tested c.in_ok-filter.filter) (conditions_at p s (trees_of c.args.parts.now)) c.args.marks.now c.in-Some.rows.keys.count (length (last_of s).rows) c.args.left.now
    c.in_ok-join_found.field-0 c.in_ok-on.ensures.test c.in_ok-filter.ensures.test count
    (record { width = c.in_ok-join_found.ensures.width; rows = c.in_ok-join_found.ensures.rows; seen = c.in_ok-join_found.ensures.seen })

pub returns-in_default-clause-some : goal.returns-in_default-clause-some
returns-in_default-clause-some g c by lead linked = absurd (nothing_there c.in_ok-rows.field-0 c.in_default.is (c.in_ok-rows.ensures.some by lead linked))

-- ---- steps: those of the look-up, and one for each pair
pub returns-in_err-rows-clause-steps : goal.returns-in_err-rows-clause-steps
returns-in_err-rows-clause-steps g c by silent lead linked = let made = c.wanted_lookup.ensures.steps by lead linked in omega (arith, made)

pub returns-in_default-clause-steps : goal.returns-in_default-clause-steps
returns-in_default-clause-steps g c by silent lead linked = let made = c.wanted_lookup.ensures.steps by lead linked in omega (arith, made)

pub returns-in_err-on-clause-steps : goal.returns-in_err-on-clause-steps
returns-in_err-on-clause-steps g c by silent lead linked =
    let made = c.wanted_lookup.ensures.steps by lead linked in
    let none = c.of.ensures.steps (linked_asks c.args.sources.now lead (trees_of c.args.conditions.now) linked) in
    omega (arith, none, made)

pub returns-in_err-filter-clause-steps : goal.returns-in_err-filter-clause-steps
returns-in_err-filter-clause-steps g c by silent lead linked =
    let made = c.wanted_lookup.ensures.steps by lead linked in
    let none = c.of.ensures.steps (linked_asks c.args.sources.now lead (trees_of c.args.conditions.now) linked) in
    let quiet = c.of-2.ensures.steps silent in
    omega (arith, none, quiet, made)

pub returns-in_err-join_found-clause-steps : goal.returns-in_err-join_found-clause-steps
returns-in_err-join_found-clause-steps g c by silent lead linked =
    let s = c.args.sources.now in
    let t = c.args.left.now.rows.tuples in
    let f = conditions_at c.args.p.now s (trees_of c.args.conditions.now) in
    let count = subst (λ (o : Option JoinLookup). IfSome o (λ l. l.keys.count ≡ length (last_of s).rows)) c.in-Some.is c.in_ok-rows.ensures.rows in
    let whole = subst (λ (o : Option JoinLookup). IfSome o (λ l. l.is_whole ≡ true)) c.in-Some.is (c.in_ok-rows.ensures.whole lead linked) in
    let none = c.of.ensures.steps (linked_asks s lead (trees_of c.args.conditions.now) linked) in
    let quiet = c.of-2.ensures.steps silent in
    let made = c.wanted_lookup.ensures.steps by lead linked in
    let found = c.join_found.ensures.steps whole in
    let same : length (flat_map (pairs_with (tested c.in_ok-on.on) c.in-Some.rows.keys.count) t) ≡ length (flat_map (pairs_with f (length (last_of s).rows)) t) = λ i. length (flat_map (pairs_with (c.in_ok-on.ensures.test i) (count i)) t) in
    let fewer = pairs_fewer c.args.kind f c.args.marks.now (length (last_of s).rows) t in
    omega (arith, none, quiet, made, found, same, fewer)

pub returns-clause-steps : goal.returns-clause-steps
returns-clause-steps g c by silent lead linked =
    let s = c.args.sources.now in
    let t = c.args.left.now.rows.tuples in
    let f = conditions_at c.args.p.now s (trees_of c.args.conditions.now) in
    let count = subst (λ (o : Option JoinLookup). IfSome o (λ l. l.keys.count ≡ length (last_of s).rows)) c.in-Some.is c.in_ok-rows.ensures.rows in
    let whole = subst (λ (o : Option JoinLookup). IfSome o (λ l. l.is_whole ≡ true)) c.in-Some.is (c.in_ok-rows.ensures.whole lead linked) in
    let none = c.of.ensures.steps (linked_asks s lead (trees_of c.args.conditions.now) linked) in
    let quiet = c.of-2.ensures.steps silent in
    let made = c.wanted_lookup.ensures.steps by lead linked in
    let found = c.join_found.ensures.steps whole in
    let same : length (flat_map (pairs_with (tested c.in_ok-on.on) c.in-Some.rows.keys.count) t) ≡ length (flat_map (pairs_with f (length (last_of s).rows)) t) = λ i. length (flat_map (pairs_with (c.in_ok-on.ensures.test i) (count i)) t) in
    let fewer = pairs_fewer c.args.kind f c.args.marks.now (length (last_of s).rows) t in
    omega (arith, none, quiet, made, found, same, fewer)
