use Rattle.std.proofs.Common.{◌≡◌, ◌<◌, ℕ, Bool, true, length, ap, rules, sym, ◌∙◌}
use Rattle.vtl_frames.specs.Best.{cell_in, is_last_beaten, le_of}
use Rattle.vtl_frames.proofs.BestLemmas.{all_popped, popped, rest_stays, shorter}
use Rattle.vtl_frames.proofs.best.Best.let_beaten_go.Goals as goal

pub loop-self-preserved : goal.loop-self-preserved
loop-self-preserved g c =
    let cells = g.P.Partition.cells c.args.cells.now in
    let beaten : ℕ → Bool = λ k. le_of c.args.self.now.kind c.args.c.now (cell_in cells k) in
    let ks = c.loop-self.self.places.items in
    let js = c.pop_back.new.self.items in
    let last : is_last_beaten beaten ks ≡ true = ap (λ o. is_last_beaten (λ k. le_of o c.args.c.now (cell_in cells k)) ks) (sym c.loop-self.invariant.kind) ∙ sym c.is_last_beaten.ensures ∙ c.loop-self-test.true in
    record {
      kind = c.loop-self.invariant.kind;
      places = popped beaten ks js c.pop_back.result c.pop_back.ensures.items last ∙ c.loop-self.invariant.places;
      within = all_popped (λ k. k < length cells) ks js c.pop_back.result c.pop_back.ensures.items c.loop-self.invariant.within;
    }

pub loop-self-smaller : goal.loop-self-smaller
loop-self-smaller g c =
    let cells = g.P.Partition.cells c.args.cells.now in
    let beaten : ℕ → Bool = λ k. le_of c.args.self.now.kind c.args.c.now (cell_in cells k) in
    let ks = c.loop-self.self.places.items in
    let js = c.pop_back.new.self.items in
    let last : is_last_beaten beaten ks ≡ true = ap (λ o. is_last_beaten (λ k. le_of o c.args.c.now (cell_in cells k)) ks) (sym c.loop-self.invariant.kind) ∙ sym c.is_last_beaten.ensures ∙ c.loop-self-test.true in
    let many : c.loop-self.self.places.len ≡ length ks = search rules in
    shorter beaten ks js c.pop_back.result c.loop-self.self.places.len c.pop_back.new.self.len c.pop_back.ensures.items many c.pop_back.ensures.cases last

pub returns-clause-places : goal.returns-clause-places
returns-clause-places g c =
    let cells = g.P.Partition.cells c.args.cells.now in
    let beaten : ℕ → Bool = λ k. le_of c.args.self.now.kind c.args.c.now (cell_in cells k) in
    let ks = c.loop-self.self.places.items in
    let last = ap (λ o. is_last_beaten (λ k. le_of o c.args.c.now (cell_in cells k)) ks) (sym c.loop-self.invariant.kind) ∙ sym c.is_last_beaten.ensures ∙ c.loop-self-test.false in
    sym (rest_stays beaten ks last) ∙ c.loop-self.invariant.places
