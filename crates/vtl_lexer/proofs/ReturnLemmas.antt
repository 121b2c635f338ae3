-- Carriage returns at an end.
use Rattle.std.proofs.Common.{◌≡◌, ◌≢◌, ◌≤◌, ◌<◌, ◌+◌, ◌-◌, ◌∷◌, ◌++◌, ◌∙◌, ◌==◌, [], ℕ, zero, suc, List, Bool, true, false, cond, length, take, get_or, sym, ap, refl, arith, inl, inr, eq-eqb, eqb-true}
use Rattle.std.specs.List.{list_all}
use Rattle.std.proofs.Math.Seq.{take-suc}
use Rattle.std.proofs.lemmas.Bool.{and_from, cases_Bool}
use Rattle.std.proofs.lemmas.List.{length-take-le}
use Rattle.vtl_lexer.specs.Parts.{before_returns, without_returns}

-- one that goes
pub returns-step : (bytes : List ℕ) (byte : ℕ) → (byte == 13) ≡ true → without_returns (bytes ++ byte ∷ []) ≡ without_returns bytes
returns-step [] byte e = rw e refl
returns-step (first ∷ bytes) byte e = ap (before_returns first) (returns-step bytes byte e)

before-last : (first byte : ℕ) (bytes : List ℕ) → before_returns first (bytes ++ byte ∷ []) ≡ first ∷ (bytes ++ byte ∷ [])
before-last first byte [] = refl
before-last first byte (second ∷ bytes) = refl

-- a byte that stays
pub returns-stop : (bytes : List ℕ) (byte : ℕ) → (byte == 13) ≡ false → without_returns (bytes ++ byte ∷ []) ≡ bytes ++ byte ∷ []
returns-stop [] byte e = rw e refl
returns-stop (first ∷ bytes) byte e = ap (before_returns first) (returns-stop bytes byte e) ∙ before-last first byte bytes

before-short : (byte : ℕ) (bytes : List ℕ) → length (before_returns byte bytes) ≤ 1 + length bytes
before-short byte [] = by (byte == 13)
  where
    by : (b : Bool) → length (cond b [] (byte ∷ [])) ≤ 1
    by true = omega arith
    by false = omega arith
before-short byte (next ∷ bytes) = omega arith

pub returns-short : (bytes : List ℕ) → length (without_returns bytes) ≤ length bytes
returns-short [] = omega arith
returns-short (byte ∷ bytes) = omega (arith, before-short byte (without_returns bytes), returns-short bytes)

-- nothing goes a second time
pub returns-twice : (bytes : List ℕ) → without_returns (without_returns bytes) ≡ without_returns bytes
returns-twice [] = refl
returns-twice (byte ∷ bytes) = by (without_returns bytes) (returns-twice bytes)
  where
    last : (b : Bool) → (byte == 13) ≡ b → without_returns (cond b [] (byte ∷ [])) ≡ cond b [] (byte ∷ [])
    last true e = refl
    last false e = rw e refl

    by : (left : List ℕ) → without_returns left ≡ left → without_returns (before_returns byte left) ≡ before_returns byte left
    by [] same = last (byte == 13) refl
    by (next ∷ left) same = ap (before_returns byte) same

-- what goes
pub record Returns (bytes : List ℕ) : Type 0 where
  pub returns : List ℕ
  pub split : bytes ≡ without_returns bytes ++ returns
  pub all : list_all (λ byte. byte == 13) returns ≡ true

pub returns-split : (bytes : List ℕ) → Returns bytes
returns-split [] = record { returns = []; split = refl; all = refl }
returns-split (byte ∷ bytes) = by (without_returns bytes) (returns-split bytes).returns (returns-split bytes).split (returns-split bytes).all refl
  where
    one : (b : Bool) (returns : List ℕ) → (byte == 13) ≡ b → bytes ≡ returns → list_all (λ byte. byte == 13) returns ≡ true → without_returns bytes ≡ [] → Returns (byte ∷ bytes)
    one true returns e split all none = record {
      returns = byte ∷ returns;
      split = rw (none, e) (ap (λ l. byte ∷ l) split);
      all = and_from (byte == 13) (list_all (λ byte. byte == 13) returns) e all;
    }
    one false returns e split all none = record {
      returns = returns;
      split = rw (none, e) (ap (λ l. byte ∷ l) split);
      all = all;
    }

    by : (left returns : List ℕ) → bytes ≡ left ++ returns → list_all (λ byte. byte == 13) returns ≡ true → without_returns bytes ≡ left → Returns (byte ∷ bytes)
    by [] returns split all is = one (byte == 13) returns refl split all is
    by (next ∷ left) returns split all is = record {
      returns = returns;
      split = rw is (ap (λ l. byte ∷ l) split);
      all = all;
    }

-- ---- from the end on
-- the last of some bytes
take-before : (bytes : List ℕ) (size : ℕ) → 0 < size → size ≤ length bytes → take size bytes ≡ take (size - 1) bytes ++ get_or bytes (size - 1) 0 ∷ []
take-before bytes zero some within = absurd (omega arith)
take-before bytes (suc n) some within =
    let less : suc n - 1 ≡ n = omega arith in
    take-suc bytes n 0 (omega arith) ∙ ap (λ m. take m bytes ++ get_or bytes m 0 ∷ []) (sym less)

pub content-step : (bytes : List ℕ) (size : ℕ) → 0 < size → size ≤ length bytes → get_or bytes (size - 1) 0 ≡ 13 → without_returns bytes ≡ without_returns (take size bytes)
    → without_returns bytes ≡ without_returns (take (size - 1) bytes)
content-step bytes size some within return same =
    same ∙ ap without_returns (take-before bytes size some within) ∙ returns-step (take (size - 1) bytes) (get_or bytes (size - 1) 0) (eq-eqb (get_or bytes (size - 1) 0) 13 return)

pub content-last : (bytes : List ℕ) (size : ℕ) → 0 < size → size ≤ length bytes → get_or bytes (size - 1) 0 ≢ 13 → without_returns bytes ≡ without_returns (take size bytes)
    → size ≡ length (without_returns bytes)
content-last bytes size some within other same =
    let last = get_or bytes (size - 1) 0 in
    let apart : (last == 13) ≡ false = elim (cases_Bool (last == 13)) [ inl e ↦ absurd (other (eqb-true last 13 e)) | inr e ↦ e ] in
    let whole : without_returns bytes ≡ take size bytes =
    same ∙ ap without_returns (take-before bytes size some within) ∙ returns-stop (take (size - 1) bytes) last apart ∙ sym (take-before bytes size some within) in
    sym (ap length whole ∙ length-take-le size bytes within)

pub content-none : (bytes : List ℕ) (size : ℕ) → size ≤ 0 → without_returns bytes ≡ without_returns (take size bytes) → size ≡ length (without_returns bytes)
content-none bytes size none same =
    let zero_size : size ≡ 0 = omega arith in
    zero_size ∙ sym (ap length (same ∙ ap (λ n. without_returns (take n bytes)) zero_size))
