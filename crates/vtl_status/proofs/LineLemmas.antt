-- Bytes that a sink takes in several pieces.
use Rattle.std.proofs.Common.{◌≡◌, ◌≤◌, ◌<◌, ◌+◌, ℕ, List, [], ◌++◌, drop, get_or, length, Option, Some, None, Result, Ok, Err, refl, sym, ap, subst, ◌∙◌, append_assoc}
use Rattle.std.specs.Result.{OnOk, OnErr}
use Rattle.std.specs.Option.{option_map}
use Rattle.std.proofs.lemmas.List.{append-nil, drop_all, drop_more}
use Rattle.vtl_files.specs.Outside.{TakesAll}
use Rattle.vtl_files.specs.Whole.{AddsUpTo, TakesFront}
use Rattle.vtl_status.specs.PartView.{all_said, said_bytes}
use Rattle.vtl_status.specs.declared.status.Part.{Part as Said}

taken_twice : (t : Option (List ℕ)) (a b : List ℕ) → option_map (λ x. x ++ b) (option_map (λ x. x ++ a) t) ≡ option_map (λ x. x ++ (a ++ b)) t
taken_twice None a b = refl
taken_twice (Some t) a b = ap Some (append_assoc t a b)

-- a piece, and then a front of the next one
pub front_after : (t u v : Option (List ℕ)) (a b : List ℕ) → TakesAll t u a → TakesFront u v b → TakesFront t v (a ++ b)
front_after t u v a b all f = (
  f.0,
  record {
    front = a ++ f.1.front;
    whole = ap (λ x. a ++ x) f.1.whole ∙ sym (append_assoc a f.1.front f.0);
    told = f.1.told ∙ ap (option_map (λ x. x ++ f.1.front)) all ∙ taken_twice t a f.1.front;
  },
)

-- a front of a piece is a front of what it begins
pub front_before : (t u : Option (List ℕ)) (a b : List ℕ) → TakesFront t u a → TakesFront t u (a ++ b)
front_before t u a b f = (
  f.0 ++ b,
  record {
    front = f.1.front;
    whole = ap (λ x. x ++ b) f.1.whole ∙ append_assoc f.1.front f.0 b;
    told = f.1.told;
  },
)

pub front_of_all : (t u : Option (List ℕ)) (a : List ℕ) → TakesAll t u a → TakesFront t u a
front_of_all t u a all = ([], record { front = a; whole = sym (append-nil a); told = all })

-- the whole or a front of it
pub front_anyway : {T E : Type 0} (r : Result T E) (t u : Option (List ℕ)) (a : List ℕ) → OnOk r (TakesAll t u a) → OnErr r (TakesFront t u a) → TakesFront t u a
front_anyway (Ok x) t u a all front = front_of_all t u a all
front_anyway (Err e) t u a all front = front

pub ok_always : {T E P : Type 0} (r : Result T E) → P → OnOk r P
ok_always (Ok x) p = p
ok_always (Err e) p = tt

pub all_after : (t u v : Option (List ℕ)) (a b : List ℕ) → TakesAll t u a → TakesAll u v b → TakesAll t v (a ++ b)
all_after t u v a b first then = then ∙ ap (option_map (λ x. x ++ b)) first ∙ taken_twice t a b

-- ---- parts of a line, one after the other
module _ (t u v : Option (List ℕ)) (parts : List Said) (i : ℕ) (other : Said) (h : i < length parts) (so_far : AddsUpTo (λ front taken. taken ++ front) t u (all_said parts) (all_said (drop i parts))) where
  split : all_said parts ≡ so_far.front ++ (said_bytes (get_or parts i other) ++ all_said (drop (i + 1) parts))
  split = so_far.whole ∙ ap (λ l. so_far.front ++ l) (ap all_said (drop_more parts i other h))

  pub part_taken : TakesAll u v (said_bytes (get_or parts i other)) → AddsUpTo (λ front taken. taken ++ front) t v (all_said parts) (all_said (drop (i + 1) parts))
  part_taken all = record {
    front = so_far.front ++ said_bytes (get_or parts i other);
    whole = split ∙ sym (append_assoc so_far.front (said_bytes (get_or parts i other)) (all_said (drop (i + 1) parts)));
    told = all_after t u v so_far.front (said_bytes (get_or parts i other)) so_far.told all;
  }

  pub part_front : TakesFront u v (said_bytes (get_or parts i other)) → TakesFront t v (all_said parts)
  part_front f =
      subst (λ l. TakesFront t v l) (sym split)
      (front_after t u v so_far.front (said_bytes (get_or parts i other) ++ all_said (drop (i + 1) parts)) so_far.told (front_before u v (said_bytes (get_or parts i other)) (all_said (drop (i + 1) parts)) f))

-- at the end nothing is left
pub parts_taken : (t u : Option (List ℕ)) (parts : List Said) (i : ℕ) → length parts ≤ i → AddsUpTo (λ front taken. taken ++ front) t u (all_said parts) (all_said (drop i parts)) → TakesAll t u (all_said parts)
parts_taken t u parts i le so_far =
    let none : all_said (drop i parts) ≡ [] = ap all_said (drop_all i parts le) in
    subst (λ l. TakesAll t u l) (sym (so_far.whole ∙ ap (λ l. so_far.front ++ l) none ∙ append-nil so_far.front)) so_far.told
