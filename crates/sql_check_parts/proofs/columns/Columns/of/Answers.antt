use Rattle.std.proofs.Common.{ap, sym, refl, ◌∙◌}
use Rattle.std.specs.Map.{keys_of}
use Rattle.sql_check_parts.specs.Scopes.{is_among}
use Rattle.sql_check_parts.proofs.Maps.{entry_taken, once, put_as, still_apart, twice}
use Rattle.sql_check_parts.proofs.columns.Columns.of.Goals as goal

pub loop-i-init : goal.loop-i-init
loop-i-init c = record { listed = c.new-columns.ensures; apart = refl }

pub returns-then-has : goal.returns-then-has
returns-then-has c =
    twice c.args.names.now c.args.kinds.now c.loop-i.i c.index-names-i.result c.loop-i.columns c.requires c.loop-i-test.true c.index-names-i.is c.loop-i.invariant.listed (sym c.has.ensures ∙ c.if-has.true)

pub put-requires : goal.put-requires
put-requires c = ap (λ name. is_among name (keys_of c.loop-i.columns)) c.in_ok-share.ensures ∙ sym c.has.ensures ∙ c.if-has.false

pub loop-i-preserved : goal.loop-i-preserved
loop-i-preserved c =
    let name = c.index-names-i.result in
    record {
      listed =
          put_as c.loop-i.columns _ _ name _ c.in_ok-put.ensures.put c.in_ok-share.ensures
          ∙ entry_taken c.args.names.now c.args.kinds.now c.loop-i.i name _ c.loop-i.columns c.requires c.loop-i-test.true c.index-names-i.is c.loop-i.invariant.listed;
      apart = still_apart c.args.names.now c.args.kinds.now c.loop-i.i name c.loop-i.columns c.requires c.loop-i-test.true c.index-names-i.is c.loop-i.invariant.listed c.loop-i.invariant.apart (sym c.has.ensures ∙ c.if-has.false);
    }

pub returns : goal.returns
returns c = once c.args.names.now c.args.kinds.now c.loop-i.i c.loop-i.columns c.requires c.loop-i-test.false c.loop-i.invariant.listed c.loop-i.invariant.apart
