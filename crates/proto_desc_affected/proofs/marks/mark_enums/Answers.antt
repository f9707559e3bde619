use Rattle.std.proofs.Common.{All, take, refl, subst, ◌∙◌, take_all}
use Rattle.std.proofs.lemmas.List.Elements.{All-more, All-nil}
use Rattle.proto_names.specs.Linking.{Meant}
use Rattle.proto_desc_affected.specs.Common.{IsEnumMarked}
use Rattle.proto_desc_affected.proofs.WantedMarks.{enums_stay}
use Rattle.proto_desc_affected.proofs.marks.mark_enums.Goals as goal

abbrev none : Meant
none = record { token = 0; first = 0; row = 0 }

pub loop-one-init : goal.loop-one-init
loop-one-init c = record { stay = record { count = refl; set = λ file h. h }; marked = All-nil (IsEnumMarked c.args.link.now c.args.wanted.now) }

pub loop-one-preserved : goal.loop-one-preserved
loop-one-preserved c =
    let l = c.args.link.now in
    let now = c.mark_enum.new.wanted in
    let stay = c.loop-one.invariant.stay in
    let on = c.mark_enum.ensures.stay in
    record {
      stay = record { count = on.count ∙ stay.count; set = λ file h. on.set file (stay.set file h) };
      marked = All-more (IsEnumMarked l now) c.args.meant.now c.loop-one.one-index none c.loop-one-test.true
          (enums_stay l c.loop-one.wanted now on (take c.loop-one.one-index c.args.meant.now) c.loop-one.invariant.marked) c.mark_enum.ensures.marked;
    }

pub returns-clause-stay : goal.returns-clause-stay
returns-clause-stay c = c.loop-one.invariant.stay

pub returns-clause-marked : goal.returns-clause-marked
returns-clause-marked c = subst (All (IsEnumMarked c.args.link.now c.loop-one.wanted)) (take_all c.loop-one.one-index c.args.meant.now c.loop-one-test.false) c.loop-one.invariant.marked
