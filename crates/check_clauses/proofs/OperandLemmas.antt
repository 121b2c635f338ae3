-- Operands behind others.
use Rattle.std.proofs.Common.{◌≡◌, List, [], ◌∷◌, ◌++◌, Result, Ok, Err, refl, sym, ap, ◌∙◌, append_assoc}
use Rattle.vtl_tree.specs.Trees.{OperandTree}
use Rattle.vtl_lists.specs.Results.{◌>>=◌}
use Rattle.check_faults.specs.declared.rules.Rule.{Rule}
use Rattle.check_clauses.specs.JoinOperands.{PartTyped, operand_in, operands_in}

-- operands behind others, where these are typed
abbrev pub behind : List OperandTree → Result (List OperandTree) Rule → Result (List OperandTree) Rule
behind done r = r >>= λ os. Ok (done ++ os)

pub behind_none : (r : Result (List OperandTree) Rule) → behind [] r ≡ r
behind_none (Ok os) = refl
behind_none (Err rule) = refl

pub behind_more : (done : List OperandTree) (o : OperandTree) (r : Result (List OperandTree) Rule)
    → behind done (r >>= λ os. Ok (o ∷ os)) ≡ behind (done ++ o ∷ []) r
behind_more done o (Ok os) = ap Ok (sym (append_assoc done (o ∷ []) os))
behind_more done o (Err rule) = refl

pub operands_step : (done : List OperandTree) (x : PartTyped) (xs : List PartTyped) (o : OperandTree) → operand_in x ≡ Ok o
    → behind done (operands_in (x ∷ xs)) ≡ behind (done ++ o ∷ []) (operands_in xs)
operands_step done x xs o h = ap (λ (r : Result OperandTree Rule). behind done (r >>= λ o. operands_in xs >>= λ os. Ok (o ∷ os))) h ∙ behind_more done o (operands_in xs)
