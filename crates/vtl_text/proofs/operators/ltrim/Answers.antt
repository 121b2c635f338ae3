use Rattle.vtl_text.proofs.Spaces.{ltrim_is}
use Rattle.vtl_text.proofs.operators.ltrim.Goals as goal

pub returns : goal.returns
returns c = ltrim_is c.args.t.now c.trim_start_matches.result.now c.utf8.t c.trim_start_matches.ensures.matches
