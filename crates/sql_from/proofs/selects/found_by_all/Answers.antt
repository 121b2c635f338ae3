use Rattle.std.proofs.Common.{◌≡◌, ◌∙◌, ◌++◌, [], IfSome, Option, ap, length, subst, sym}
use Rattle.sql_tree.specs.declared.word_groups.JoinKind.TheVariants as joining
use Rattle.sql_from.specs.Conditions.{AreSound, conditions_at, trees_of}
use Rattle.sql_from.specs.Joins.{Test, in_turn}
use Rattle.sql_from.specs.Keys.{last_of}
use Rattle.sql_from.specs.Lookups.{Finds}
use Rattle.sql_from.specs.Sources.{Sourced}
use Rattle.sql_from.specs.Together.{tested}
use Rattle.sql_from.specs.declared.key_lookup.JoinLookup.{JoinLookup}
use Rattle.sql_from.proofs.Turned.{joined_as, together}
use Rattle.sql_from.proofs.selects.found_by_all.Goals as goal

pub join_found-requires-clause-finds : goal.join_found-requires-clause-finds
join_found-requires-clause-finds g c =
    let s = c.args.sources.now in
    let p = c.args.p.now in
    let rows = c.in-Some.rows in
    let same : trees_of c.deref.result.now ≡ trees_of c.deref-2.result.now = ap trees_of (c.deref.ensures.value ∙ sym c.deref-2.ensures.value) in
    let finds = subst (λ (o : Option JoinLookup). IfSome o (Finds (length s.sources) (conditions_at p s (trees_of c.deref.result.now)))) c.in-Some.is c.in_ok-rows.ensures.finds in
    subst (λ (z : Sourced). Finds (length z.sources) (tested c.in_ok-on.on) rows) (sym c.in_ok-on.ensures.sources)
    (subst (λ (f : Test). Finds (length s.sources) f rows) (ap (conditions_at p s) same ∙ sym c.in_ok-on.ensures.test) finds)

pub returns-clause-joined : goal.returns-clause-joined
returns-clause-joined g c =
    let s = c.args.sources.now in
    let p = c.args.p.now in
    let es = trees_of c.args.conditions.now in
    let ds = trees_of c.args.parts.now in
    let marks = c.args.marks.now in
    let rows = c.in-Some.rows in
    let made = c.in_ok-join_found.field-0 in
    let count = subst (λ (o : Option JoinLookup). IfSome o (λ l. l.keys.count ≡ length (last_of s).rows)) c.in-Some.is c.in_ok-rows.ensures.rows in
    let asked : trees_of c.deref.result.now ≡ es ++ ds = ap trees_of c.deref.ensures.value ∙ c.in_ok-all.ensures in
    let all : trees_of c.deref-2.result.now ≡ es ++ ds = ap trees_of c.deref-2.ensures.value ∙ c.in_ok-all.ensures in
    let sound = subst (λ (o : Option JoinLookup). IfSome o (λ l. AreSound p s (trees_of c.deref.result.now))) c.in-Some.is c.in_ok-rows.ensures.sound in
    together p s es ds (subst (AreSound p s) asked sound) marks (length (last_of s).rows) c.args.left.now made
    (joined_as joining.Inner (tested c.in_ok-on.on) (conditions_at p s (es ++ ds)) (tested c.in_ok-none.none) (in_turn []) marks rows.keys.count (length (last_of s).rows) c.args.left.now made
    (c.in_ok-on.ensures.test ∙ ap (conditions_at p s) all) c.in_ok-none.ensures.test count
    (record { width = c.in_ok-join_found.ensures.width; rows = c.in_ok-join_found.ensures.rows; seen = c.in_ok-join_found.ensures.seen }))
