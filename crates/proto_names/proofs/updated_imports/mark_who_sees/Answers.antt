use Rattle.std.proofs.Common.{◌≡◌, Bool, true, false, List, [], get_or, refl, ◌∙◌, ap, arith, below_more}
use Rattle.proto_base.proofs.Common.{get_or_default}
use Rattle.proto_names_affected.specs.Marking.{IsMarked}
use Rattle.proto_names.proofs.updated_imports.mark_who_sees.Goals as goal

pub loop-file-init : goal.loop-file-init
loop-file-init c = record { stay = record { count = refl; set = λ file h. h }; marked = λ file l. absurd (omega (arith, l)) }

pub mark_if_sees-requires : goal.mark_if_sees-requires
mark_if_sees-requires c = omega (arith, c.requires, c.loop-file-test.true, c.loop-file.invariant.stay.count)

pub loop-file-preserved : goal.loop-file-preserved
loop-file-preserved c =
    let seen = c.args.seen.now in
    let file = c.loop-file.file in
    let now = c.mark_if_sees.new.marks in
    let was = c.loop-file.invariant in
    let on = c.mark_if_sees.ensures.stay in
    let here : c.index-seen-file.result ≡ get_or seen file [] = c.index-seen-file.is ∙ get_or_default seen file c.index-seen-file.result [] c.loop-file-test.true in
    record {
      stay = record { count = on.count ∙ was.stay.count; set = λ other h. on.set other (was.stay.set other h) };
      marked = below_more (λ k. get_or (get_or seen k []) c.args.place false ≡ true → IsMarked now k) file
          (λ k l sees. on.set k (was.marked k l sees))
          (λ sees. c.mark_if_sees.ensures.marked (ap (λ (s : List Bool). get_or s c.args.place false) here ∙ sees));
    }

pub returns-clause-stay : goal.returns-clause-stay
returns-clause-stay c = c.loop-file.invariant.stay

pub returns-clause-marked : goal.returns-clause-marked
returns-clause-marked c = λ file l sees. c.loop-file.invariant.marked file (omega (arith, l, c.requires, c.loop-file-test.false)) sees
