use Rattle.std.proofs.Common.{◌∙◌, ap, arith, min}
use Rattle.vtl_index.specs.GroupedRows.{lookup_of}
use Rattle.vtl_index.specs.Matches.{Matched, asked_keys, matched}
use Rattle.vtl_index.specs.declared.matches.Matches.TheInside.{Inside}
use Rattle.vtl_index.proofs.Asking.{first_read, firsts_count}
use Rattle.vtl_index.proofs.Probes.{led_by_first, none_by_first}
use Rattle.vtl_index.proofs.matches.Matches.rows.Goals as goal

-- what contracts see of the fields
abbrev seen : Inside → Matched
seen x = record { index = lookup_of x.rows; at = x.at.items; asking = x.asking.now.rows }

pub index-first-requires : goal.index-first-requires
index-first-requires c =
    let x = c.self.inside in
    let count = firsts_count (seen x) x.firsts.items c.self.invariant.1 in
    let long = x.firsts.ok in
    omega (arith, c.min.ensures, c.len.ensures.rows, count, long.0)

pub returns-then-first-len : goal.returns-then-first-len
returns-then-first-len c =
    let x = c.self.inside in
    let m = seen x in
    let first = first_read m x.firsts.items c.self.invariant.1 c.args.number c.min.result c.index-first.result.now (c.min.ensures ∙ ap (min c.args.number) c.len.ensures.rows) c.index-first.ensures in
    c.beside_at.ensures ∙ led_by_first m.index (asked_keys m c.args.number) c.index-first.result.now first x.rows.groups c.self.invariant.0 (omega arith) ∙ ap (λ y. matched y c.args.number) c.self.view_is

pub returns-else-first-len : goal.returns-else-first-len
returns-else-first-len c =
    let x = c.self.inside in
    let m = seen x in
    let first = first_read m x.firsts.items c.self.invariant.1 c.args.number c.min.result c.index-first.result.now (c.min.ensures ∙ ap (min c.args.number) c.len.ensures.rows) c.index-first.ensures in
    none_by_first m.index (asked_keys m c.args.number) c.index-first.result.now first (omega arith) ∙ ap (λ y. matched y c.args.number) c.self.view_is
