use Rattle.std.proofs.Common.{[], ◌∷◌, get_or, map, take, sym, ap, subst, arith, take_all}
use Rattle.std.proofs.lemmas.List.{map_more}
use Rattle.proto_names_affected.specs.Referred.{meant_row}
use Rattle.proto_names_table.specs.declared.ids.Meant.{Meant}
use Rattle.proto_names_affected.specs.Gathering.{Gathers}
use Rattle.proto_names_affected.proofs.Rows.{gathers_more, gathers_none}
use Rattle.proto_names_affected.proofs.gathering.Gathered.add_file.Goals as goal

abbrev none : Meant
none = record { token = 0; first = 0; row = 0 }

pub loop-one-init : goal.loop-one-init
loop-one-init c = gathers_none c.args.self.now c.requires.sound

pub put-requires-clause-sound : goal.put-requires-clause-sound
put-requires-clause-sound c = c.loop-one.invariant.sound

pub put-requires-clause-within : goal.put-requires-clause-within
put-requires-clause-within c = omega (arith, c.requires.within c.loop-one.one-index none c.loop-one-test.true, c.loop-one.invariant.count)

pub loop-one-preserved : goal.loop-one-preserved
loop-one-preserved c =
    let i = c.loop-one.one-index in
    let ms = c.args.meant.now in
    subst (Gathers c.args.self.now c.put.new.self) (sym (map_more (meant_row c.args.file) ms i none c.loop-one-test.true))
    (gathers_more c.args.self.now c.loop-one.self c.put.new.self (map (meant_row c.args.file) (take i ms)) (meant_row c.args.file (get_or ms i none) ∷ []) c.loop-one.invariant c.in_ok-put.ensures)

pub returns : goal.returns
returns c = subst (Gathers c.args.self.now c.loop-one.self) (ap (map (meant_row c.args.file)) (take_all c.loop-one.one-index c.args.meant.now c.loop-one-test.false)) c.loop-one.invariant
