use Rattle.std.proofs.Common.{[], All, take, sym, ◌∙◌, ap, subst, take_all}
use Rattle.std.specs.Global.{Vec}
use Rattle.std.proofs.lemmas.List.Elements.{All-more, All-nil, All-weaker}
use Rattle.std.specs.List.{Contains}
use Rattle.proto_names_table.specs.declared.ids.Meant.{Meant}
use Rattle.proto_base.specs.declared.changes.Change.{Change}
use Rattle.proto_names_affected.specs.Gathering.{AreRowsBelow, AreRowsNamed}
use Rattle.proto_names_affected.proofs.Rows.{gathers_more, gathers_none}
use Rattle.proto_names_affected.proofs.gathering.Gathered.add_former_rows.Goals as goal

pub loop-change-init : goal.loop-change-init
loop-change-init c = record { gathers = gathers_none c.args.self.now c.requires.sound; named = All-nil (λ (x : Change (Vec Meant)). AreRowsNamed c.args.self.now.rows.keys x.was.items) }

pub add_rows-requires-clause-sound : goal.add_rows-requires-clause-sound
add_rows-requires-clause-sound c = c.loop-change.invariant.gathers.sound

pub add_rows-requires-clause-within : goal.add_rows-requires-clause-within
add_rows-requires-clause-within c =
    let here = c.as_slice.ensures ∙ ap (λ (x : Change (Vec Meant)). x.was.items) c.change-item.is in
    subst (λ n. AreRowsBelow n c.as_slice.result.now) (sym c.loop-change.invariant.gathers.count)
    (subst (AreRowsBelow c.args.self.now.count) (sym here) (c.requires.within c.loop-change.change-index c.change-item.result c.loop-change-test.true))

pub loop-change-preserved : goal.loop-change-preserved
loop-change-preserved c =
    let was = c.loop-change.self in
    let now = c.add_rows.new.self in
    let i = c.loop-change.change-index in
    let p = c.in_ok-add_rows.ensures.gathers in
    let here = c.as_slice.ensures ∙ ap (λ (x : Change (Vec Meant)). x.was.items) c.change-item.is in
    record {
      gathers = gathers_more c.args.self.now was now [] [] c.loop-change.invariant.gathers p;
      named = All-more (λ (x : Change (Vec Meant)). AreRowsNamed now.rows.keys x.was.items) c.args.old.now i c.change-item.result c.loop-change-test.true
          (All-weaker (λ (x : Change (Vec Meant)). AreRowsNamed was.rows.keys x.was.items) (λ (x : Change (Vec Meant)). AreRowsNamed now.rows.keys x.was.items)
          (λ x h. All-weaker (λ (m : Meant). Contains was.rows.keys m.row) (λ (m : Meant). Contains now.rows.keys m.row) (λ m there. p.rows m.row there) x.was.items h)
          (take i c.args.old.now) c.loop-change.invariant.named)
          (subst (AreRowsNamed now.rows.keys) here c.in_ok-add_rows.ensures.named);
    }

pub returns-clause-gathers : goal.returns-clause-gathers
returns-clause-gathers c = c.loop-change.invariant.gathers

pub returns-clause-named : goal.returns-clause-named
returns-clause-named c = subst (All (λ (x : Change (Vec Meant)). AreRowsNamed c.loop-change.self.rows.keys x.was.items)) (take_all c.loop-change.change-index c.args.old.now c.loop-change-test.false) c.loop-change.invariant.named
