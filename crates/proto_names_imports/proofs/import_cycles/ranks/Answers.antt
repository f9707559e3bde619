use Rattle.std.proofs.Common.{◌<◌, Some, length, ◌∙◌, arith, length-set}
use Rattle.std.proofs.lemmas.List.Elements.{All-pop}
use Rattle.proto_names_imports.proofs.Ranks.{list_within, same_bound}
use Rattle.proto_names_imports.proofs.import_cycles.ranks.Goals as goal

pub loop-rank-init : goal.loop-rank-init
loop-rank-init c = record {
  len = omega (arith, c.in_ok-ranks.ensures.len, c.in_ok-ranks.ranks.ok.0);
  waiting = c.in_ok-waiting.ensures;
  ready = c.in_ok-ready.ensures;
}

pub index_mut-requires : goal.index_mut-requires
index_mut-requires c =
    let popped = All-pop (λ g. g < length c.args.next.now) c.loop-rank.ready.items c.pop.new.self.items (Some c.in-Some.file) c.in-Some.ensures.items c.loop-rank.invariant.ready in
    omega (arith, popped.1, c.loop-rank.invariant.len, c.loop-rank.ranks.ok.0)

pub bounds-importers-file : goal.bounds-importers-file
bounds-importers-file c =
    let popped = All-pop (λ g. g < length c.args.next.now) c.loop-rank.ready.items c.pop.new.self.items (Some c.in-Some.file) c.in-Some.ensures.items c.loop-rank.invariant.ready in
    omega (arith, popped.1, c.requires.paired)

pub release-requires-clause-within : goal.release-requires-clause-within
release-requires-clause-within c =
    let popped = All-pop (λ g. g < length c.args.next.now) c.loop-rank.ready.items c.pop.new.self.items (Some c.in-Some.file) c.in-Some.ensures.items c.loop-rank.invariant.ready in
    list_within (λ v. v.items) (length c.args.next.now) (length c.loop-rank.waiting.items) c.args.importers.now c.in-Some.file c.index-importers-file.result c.deref.result.now (omega (arith, popped.1, c.requires.paired))
    c.index-importers-file.is c.deref.ensures.value (omega (arith, c.loop-rank.invariant.waiting)) c.requires.within

pub release-requires-clause-ready : goal.release-requires-clause-ready
release-requires-clause-ready c =
    let popped = All-pop (λ g. g < length c.args.next.now) c.loop-rank.ready.items c.pop.new.self.items (Some c.in-Some.file) c.in-Some.ensures.items c.loop-rank.invariant.ready in
    same_bound (length c.args.next.now) (length c.loop-rank.waiting.items) c.pop.new.self.items (omega (arith, c.loop-rank.invariant.waiting)) popped.0

pub loop-rank-preserved : goal.loop-rank-preserved
loop-rank-preserved c = record {
  len = length-set c.loop-rank.ranks.items c.in-Some.file c.loop-rank.rank ∙ c.loop-rank.invariant.len;
  waiting = c.in_ok-release-in-Some.ensures.len ∙ c.loop-rank.invariant.waiting;
  ready = same_bound (length c.loop-rank.waiting.items) (length c.args.next.now) c.release.new.ready.items c.loop-rank.invariant.waiting c.in_ok-release-in-Some.ensures.ready;
}
