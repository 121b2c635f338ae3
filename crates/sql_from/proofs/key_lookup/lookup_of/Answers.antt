use Rattle.std.proofs.Common.{◌∙◌, ◌-◌, ℕ, List, true≢false, arith, ap, subst, sym}
use Rattle.std.specs.Prelude.{slice_get}
use Rattle.vtl_rows.specs.Tables.{listed}
use Rattle.sql_from.specs.Conditions.{trees_of}
use Rattle.sql_from.specs.Keys.{AreLinked}
use Rattle.sql_from.specs.Lookups.{IsKeyed}
use Rattle.sql_from.specs.Sources.{parts_of}
use Rattle.sql_from.specs.declared.key_lookup.JoinLookup.{JoinLookup}
use Rattle.sql_from.specs.declared.key_pairs.KeyPair.{KeyPair}
use Rattle.sql_from.proofs.Found.{count_is, linked_rows, lookup_finds}
use Rattle.sql_from.proofs.Links.{found_other, found_same, linked_all_safe}
use Rattle.sql_from.proofs.Safe.{all_sound}
use Rattle.sql_from.proofs.key_lookup.lookup_of.Goals as goal

pub returns-clause-sound : goal.returns-clause-sound
returns-clause-sound g c x =
    all_sound c.args.p.now c.args.sources.now c.requires c.len.ensures.held (trees_of c.args.conditions.now) (sym c.are_safe.ensures ∙ c.if-not-are_safe.false) x

pub returns-clause-rows : goal.returns-clause-rows
returns-clause-rows g c =
    let s = c.args.sources.now in
    let l : JoinLookup = record { keys = c.in_ok-keyed.field-0; is_whole = c.in_ok-keys.is_whole } in
    let lead = c.in-Some.lead in
    let own = listed c.table-own.result.now in
    let table = listed c.table-table.result.now in
    count_is c.args.p.now s (trees_of c.args.conditions.now) l lead own table c.in_ok-keys.keys.items c.requires c.in-Some.ensures.within
    (ap (λ n. slice_get (parts_of s.sources) (n - 1)) (sym c.len.ensures.count) ∙ c.table-own.ensures.source) c.table-own.ensures.held c.table-table.ensures.source c.table-table.ensures.held
    (subst (λ (ks : List KeyPair). IsKeyed own lead table ks c.args.p.now l.keys) c.deref.ensures.value c.in_ok-keyed.ensures.keyed)

pub returns-clause-finds : goal.returns-clause-finds
returns-clause-finds g c =
    let s = c.args.sources.now in
    let es = trees_of c.args.conditions.now in
    let l : JoinLookup = record { keys = c.in_ok-keyed.field-0; is_whole = c.in_ok-keys.is_whole } in
    let lead = c.in-Some.lead in
    let own = listed c.table-own.result.now in
    let table = listed c.table-table.result.now in
    lookup_finds c.args.p.now s es l lead own table c.in_ok-keys.keys.items c.requires c.in-Some.ensures.within
    (ap (λ n. slice_get (parts_of s.sources) (n - 1)) (sym c.len.ensures.count) ∙ c.table-own.ensures.source) c.table-own.ensures.held c.table-table.ensures.source c.table-table.ensures.held
    (subst (λ (ks : List KeyPair). IsKeyed own lead table ks c.args.p.now l.keys) c.deref.ensures.value c.in_ok-keyed.ensures.keyed)
    (λ x. all_sound c.args.p.now s c.requires c.len.ensures.held es (sym c.are_safe.ensures ∙ c.if-not-are_safe.false) x)
    c.in_ok-keys.ensures.implied c.in_ok-keys.ensures.paired

-- what links two sources is safe
pub returns-then-not-are_safe-clause-some : goal.returns-then-not-are_safe-clause-some
returns-then-not-are_safe-clause-some g c lead linked = absurd (true≢false (sym (c.are_safe.ensures ∙ linked_all_safe c.args.sources.now lead (trees_of c.args.conditions.now) linked) ∙ c.if-not-are_safe.true))

pub returns-in_default-clause-some : goal.returns-in_default-clause-some
returns-in_default-clause-some g c lead linked = absurd (found_other c.first_lead.result lead (c.first_lead.ensures.is lead linked) c.in_default.is)

pub returns-clause-whole : goal.returns-clause-whole
returns-clause-whole g c lead linked =
    let s = c.args.sources.now in
    let same = found_same c.first_lead.result c.in-Some.lead lead c.in-Some.is (c.first_lead.ensures.is lead linked) in
    c.in_ok-keys.ensures.whole (subst (λ (n : ℕ). AreLinked s n (trees_of c.args.conditions.now)) (sym same) linked)

pub returns-in_err-keyed-clause-steps : goal.returns-in_err-keyed-clause-steps
returns-in_err-keyed-clause-steps g c lead linked =
    let s = c.args.sources.now in
    let same = found_same c.first_lead.result c.in-Some.lead lead c.in-Some.is (c.first_lead.ensures.is lead linked) in
    let own_got = ap (λ n. slice_get (parts_of s.sources) (n - 1)) (sym c.len.ensures.count) ∙ c.table-own.ensures.source in
    let count = linked_rows s c.in-Some.lead lead (listed c.table-own.result.now) (listed c.table-table.result.now) same own_got c.table-table.ensures.source in
    omega (arith, count, c.keyed.ensures.steps)

pub returns-clause-steps : goal.returns-clause-steps
returns-clause-steps g c lead linked =
    let s = c.args.sources.now in
    let same = found_same c.first_lead.result c.in-Some.lead lead c.in-Some.is (c.first_lead.ensures.is lead linked) in
    let own_got = ap (λ n. slice_get (parts_of s.sources) (n - 1)) (sym c.len.ensures.count) ∙ c.table-own.ensures.source in
    let count = linked_rows s c.in-Some.lead lead (listed c.table-own.result.now) (listed c.table-table.result.now) same own_got c.table-table.ensures.source in
    omega (arith, count, c.keyed.ensures.steps)
