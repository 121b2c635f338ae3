-- The turns of a chain, one by one.
use Rattle.std.proofs.Common.{◌≡◌, ℕ, zero, suc, ◌<◌, List, ◌∙◌, Option, None, Some, refl, arith}
use Rattle.vtl_lists.specs.Options.{given, ◌>>=◌}
use Rattle.grammar_forms.specs.Forms.{Reads, gives, turns}
use Rattle.sql_parser.specs.Steps.{turn_reads, turned}

module _ {T A S : Type 0} (step : Reads T S) (join : A → S → Option A) (k : ℕ) (a : A) (ts : List T) where
  -- the steps behind a turn
  abbrev behind : Option (A × List T) → Option (A × List T)
  behind x = given x (λ q. turns step join k q.0 q.1) (gives a ts)

  by_join : (us : List T) (r : Option A) → (r >>= (λ b. turns step join k b us)) ≡ ((r >>= turned us) >>= behind)
  by_join us None = refl
  by_join us (Some b) = refl

  by_step : (r : Option (S × List T)) → given r (λ s. join a s.0 >>= (λ b. turns step join k b s.1)) (gives a ts)
      ≡ (given r (λ s. join a s.0 >>= (λ b. turned s.1 b)) (Some None) >>= behind)
  by_step None = refl
  by_step (Some s) = by_join s.1 (join a s.0)

  turns-step : turns step join (suc k) a ts ≡ (turn_reads step join a ts >>= behind)
  turns-step = by_step (step ts)

pub turn-end : {T A S : Type 0} (step : Reads T S) (join : A → S → Option A) (n : ℕ) (a : A) (ts : List T) → turn_reads step join a ts ≡ Some None → turns step join n a ts ≡ gives a ts
turn-end step join zero a ts e = refl
turn-end step join (suc n) a ts e = turns-step step join n a ts ∙ rw e refl

pub turn-stop : {T A S : Type 0} (step : Reads T S) (join : A → S → Option A) (n : ℕ) (a : A) (ts : List T) → 0 < n → turn_reads step join a ts ≡ None → turns step join n a ts ≡ None
turn-stop step join zero a ts some e = absurd (omega (arith, some))
turn-stop step join (suc n) a ts some e = turns-step step join n a ts ∙ rw e refl

pub turn-more : {T A S : Type 0} (step : Reads T S) (join : A → S → Option A) (n m : ℕ) (a b : A) (ts us : List T) → n ≡ suc m → turn_reads step join a ts ≡ Some (Some (b, us)) → turns step join n a ts ≡ turns step join m b us
turn-more step join n m a b ts us is e = rw is (turns-step step join m a ts ∙ rw e refl)
