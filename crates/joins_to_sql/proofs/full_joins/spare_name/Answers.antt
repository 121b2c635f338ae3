use Rattle.std.proofs.Common.{◌≡◌, [], ◌∷◌, ◌∙◌, arith}
use Rattle.std.specs.Str.{chars}
use Rattle.std.proofs.lemmas.Result.{IfOk-weaker}
use Rattle.std.proofs.lemmas.Str.{chars-IsAscii}
use Rattle.std.proofs.lemmas.Str.Ascii.{IsAscii-cons, IsAscii-nil}
use Rattle.joins_to_sql.specs.FullJoins.{spare}
use Rattle.joins_to_sql.proofs.full_joins.spare_name.Goals as goal

spare_chars : chars spare.name ≡ spare.name
spare_chars =
    chars-IsAscii spare.name
    (IsAscii-cons 116 (104 ∷ 101 ∷ 114 ∷ 101 ∷ []) (omega arith)
    (IsAscii-cons 104 (101 ∷ 114 ∷ 101 ∷ []) (omega arith) (IsAscii-cons 101 (114 ∷ 101 ∷ []) (omega arith) (IsAscii-cons 114 (101 ∷ []) (omega arith) (IsAscii-cons 101 [] (omega arith) IsAscii-nil)))))

pub returns : goal.returns
returns c = IfOk-weaker c.new.result _ _ (λ t e. e ∙ spare_chars) c.new.ensures
