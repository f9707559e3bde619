use Rattle.std.proofs.Common.{[], take, subst, arith, take_all}
use Rattle.std.specs.List.{Contains}
use Rattle.std.proofs.lemmas.List.Elements.{All-more, All-nil, All-weaker, Contains-get_or}
use Rattle.proto_names_table.specs.declared.ids.Meant.{Meant}
use Rattle.proto_names_affected.specs.Gathering.{AreRowsNamed}
use Rattle.proto_names_affected.proofs.Rows.{gathers_more, gathers_none}
use Rattle.proto_names_affected.proofs.gathering.Gathered.add_rows.Goals as goal

abbrev none : Meant
none = record { token = 0; first = 0; row = 0 }

pub loop-one-init : goal.loop-one-init
loop-one-init c = record { gathers = gathers_none c.args.self.now c.requires.sound; named = All-nil (λ (m : Meant). Contains c.args.self.now.rows.keys m.row) }

pub place-requires-clause-sound : goal.place-requires-clause-sound
place-requires-clause-sound c = c.loop-one.invariant.gathers.sound

pub place-requires-clause-within : goal.place-requires-clause-within
place-requires-clause-within c = omega (arith, c.requires.within c.loop-one.one-index none c.loop-one-test.true, c.loop-one.invariant.gathers.count)

pub loop-one-preserved : goal.loop-one-preserved
loop-one-preserved c =
    let was = c.loop-one.self in
    let now = c.place.new.self in
    let i = c.loop-one.one-index in
    let p = c.in_ok-place.ensures.gathers in
    record {
      gathers = gathers_more c.args.self.now was now [] [] c.loop-one.invariant.gathers p;
      named = All-more (λ (m : Meant). Contains now.rows.keys m.row) c.args.meant.now i none c.loop-one-test.true
          (All-weaker (λ (m : Meant). Contains was.rows.keys m.row) (λ (m : Meant). Contains now.rows.keys m.row) (λ m there. p.rows m.row there) (take i c.args.meant.now) c.loop-one.invariant.named)
          (subst (Contains now.rows.keys) c.in_ok-place.ensures.place (Contains-get_or now.rows.keys c.in_ok-place.field-0 0 (omega (arith, c.in_ok-place.ensures.within, p.sound.paired))));
    }

pub returns-clause-gathers : goal.returns-clause-gathers
returns-clause-gathers c = c.loop-one.invariant.gathers

pub returns-clause-named : goal.returns-clause-named
returns-clause-named c = subst (AreRowsNamed c.loop-one.self.rows.keys) (take_all c.loop-one.one-index c.args.meant.now c.loop-one-test.false) c.loop-one.invariant.named
