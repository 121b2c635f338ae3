use Rattle.vtl_pages.proofs.Leaves.{filled, freed, goes, stays}
use Rattle.vtl_pages.proofs.leaving.Leaving.next.Goals as goal

pub take-value-requires : goal.take-value-requires
take-value-requires g c =
    let s = c.self.inside in
    filled s.blocks.items c.pop.new.self.items c.in-Some.block s.size s.step s.gone s.left c.args.self.now c.in-Some.ensures.items c.self.invariant c.self.view_is c.requires

pub invariant_of-self : goal.invariant_of-self
invariant_of-self g c =
    let s = c.self.inside in let took = c.take-value.ensures in
    (stays s.blocks.items c.pop.new.self.items c.in-Some.block s.size s.step s.gone s.left c.args.self.now c.in-Some.ensures.items c.self.invariant c.self.view_is c.requires c.push_reserved.new.self.items c.take-value.new.self c.take-value.result c.push_reserved.ensures.items took.places took.value c.if-self.true).0

pub returns-then-self : goal.returns-then-self
returns-then-self g c =
    let s = c.self.inside in let took = c.take-value.ensures in
    (stays s.blocks.items c.pop.new.self.items c.in-Some.block s.size s.step s.gone s.left c.args.self.now c.in-Some.ensures.items c.self.invariant c.self.view_is c.requires c.push_reserved.new.self.items c.take-value.new.self c.take-value.result c.push_reserved.ensures.items took.places took.value c.if-self.true).1

pub release-requires : goal.release-requires
release-requires g c =
    let s = c.self.inside in let took = c.take-value.ensures in
    freed s.blocks.items c.pop.new.self.items c.in-Some.block s.size s.step s.gone s.left c.args.self.now c.in-Some.ensures.items c.self.invariant c.self.view_is c.requires c.take-value.new.self took.places c.if-self.false

pub invariant_of-self-in-Some : goal.invariant_of-self-in-Some
invariant_of-self-in-Some g c =
    let s = c.self.inside in let took = c.take-value.ensures in
    (goes s.blocks.items c.pop.new.self.items c.in-Some.block s.size s.step s.gone s.left c.args.self.now c.in-Some.ensures.items c.self.invariant c.self.view_is c.requires c.take-value.new.self c.take-value.result took.places took.value c.if-self.false).0

pub returns : goal.returns
returns g c =
    let s = c.self.inside in let took = c.take-value.ensures in
    (goes s.blocks.items c.pop.new.self.items c.in-Some.block s.size s.step s.gone s.left c.args.self.now c.in-Some.ensures.items c.self.invariant c.self.view_is c.requires c.take-value.new.self c.take-value.result took.places took.value c.if-self.false).1
