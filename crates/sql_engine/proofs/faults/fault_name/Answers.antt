use Rattle.std.proofs.Common.{◌≡◌, ◌∙◌, ◌++◌, take, drop, ap, subst, List, ℕ}
use Rattle.std.specs.Prelude.{IfOk, chars}
use Rattle.std.specs.Str.{NoCharPasses}
use lib.Utf8.{encode, encodes}
use Rattle.sql_meaning.specs.Scripts.{dollar}
use Rattle.sql_engine.proofs.FaultNames.{front_named, is_dollar, name_without}
use Rattle.sql_engine.proofs.faults.fault_name.Goals as goal

pub returns-in-Some : goal.returns-in-Some
returns-in-Some c =
    let name = c.args.name.now in
    let s = c.as_str.result.now in
    let i = c.in-Some.ensures.cases.0 in
    let j = c.in-Some.ensures.cases.1 in
    let e : s ≡ encodes name = c.as_str.ensures.bytes in
    let none = subst (λ (bs : List ℕ). NoCharPasses is_dollar (take i bs)) e c.in-Some.ensures.cases.2.0 in
    let at = subst (λ (bs : List ℕ). drop i bs ≡ encode dollar ++ drop j bs) e c.in-Some.ensures.cases.2.1.split in
    let is = ap chars c.in-Some.ensures.cases.3 ∙ ap (λ (bs : List ℕ). chars (take i bs)) e ∙ front_named name i j c.as_str.ensures.scalars none at in
    subst (λ (t : List ℕ). IfOk c.new.result (λ front. front ≡ t)) is c.new.ensures

pub returns-in-None : goal.returns-in-None
returns-in-None c =
    let name = c.args.name.now in
    let e : c.as_str.result.now ≡ encodes name = c.as_str.ensures.bytes in
    let none = subst (λ (bs : List ℕ). NoCharPasses is_dollar bs) e c.in-None.ensures.cases in
    subst (λ (t : List ℕ). IfOk c.share.result (λ front. front ≡ t)) (name_without name none) c.share.ensures
