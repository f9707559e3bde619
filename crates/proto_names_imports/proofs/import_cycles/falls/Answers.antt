use Rattle.std.proofs.Common.{length, get_or, map, arith, sym}
use Rattle.std.proofs.lemmas.List.{length-map}
use Rattle.proto_names_imports.proofs.Ranks.{falls_more, list_within}
use Rattle.proto_names_imports.proofs.Turned.{contains_within}
use Rattle.proto_names_imports.proofs.import_cycles.falls.Goals as goal

pub are_below-requires : goal.are_below-requires
are_below-requires c =
    list_within (λ v. v.items) (length c.args.next.now) (length c.args.ranks.now) c.args.next.now c.loop-file.file c.index-next-file.result c.deref.result.now c.loop-file-test.true c.index-next-file.is c.deref.ensures.value (sym c.requires.len) c.requires.within

pub loop-file-preserved : goal.loop-file-preserved
loop-file-preserved c =
    falls_more (λ v. v.items) (λ k. get_or c.args.ranks.now k 0) c.args.next.now c.loop-file.file c.index-next-file.result c.deref.result.now c.loop-file-test.true c.index-next-file.is c.deref.ensures.value (c.are_below.ensures c.if-not-are_below.false)
    c.loop-file.invariant

pub returns : goal.returns
returns c = λ _ file target has.
    (let in' = contains_within (map (λ v. v.items) c.args.next.now) file target has in
    c.loop-file.invariant file target (omega (arith, in', length-map c.args.next.now (λ v. v.items), c.loop-file-test.false)) has)
