use Rattle.vtl_text.proofs.Spaces.{rtrim_is}
use Rattle.vtl_text.proofs.operators.rtrim.Goals as goal

pub returns : goal.returns
returns c = rtrim_is c.args.t.now c.trim_end_matches.result.now c.utf8.t c.trim_end_matches.ensures.matches
