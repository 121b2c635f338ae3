use Rattle.std.proofs.Common.{ap, sym, length, nat_le}
use Rattle.std.proofs.lemmas.Str.{encodes-chars}
use Rattle.vtl_text.proofs.words.fits_name.Goals as goal

pub returns : goal.returns
returns c = ap (λ l. nat_le (length l) 64) (sym (encodes-chars c.args.text.now c.utf8.text))
