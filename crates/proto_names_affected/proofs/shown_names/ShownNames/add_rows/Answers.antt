use Rattle.std.proofs.Common.{All, take, subst, take_all}
use Rattle.std.proofs.lemmas.List.Elements.{All-more, All-nil, All-weaker}
use Rattle.proto_names_affected.specs.Sight.{IsGathered}
use Rattle.proto_names_affected.proofs.Sights.{gathered_stays, more_again, more_same}
use Rattle.proto_names_affected.proofs.shown_names.ShownNames.add_rows.Goals as goal

pub loop-row-init : goal.loop-row-init
loop-row-init c =
    let self = c.args.self.now in
    record {
      more = more_same c.args.table.now self.packages.keys self.keys.keys c.requires.within;
      gathered = All-nil (IsGathered c.args.table.now self.packages.keys self.keys.keys);
    }

pub add-requires-clause-within : goal.add-requires-clause-within
add-requires-clause-within c = c.loop-row.invariant.more.within

pub loop-row-preserved : goal.loop-row-preserved
loop-row-preserved c =
    let t = c.args.table.now in
    let first = c.args.self.now in
    let was = c.loop-row.self in
    let now = c.add.new.self in
    let more = c.in_ok-add.ensures.more in
    record {
      more = more_again t first.packages.keys first.keys.keys was.packages.keys was.keys.keys now.packages.keys now.keys.keys c.loop-row.invariant.more more;
      gathered = All-more (IsGathered t now.packages.keys now.keys.keys) c.args.rows.now c.loop-row.row-index 0 c.loop-row-test.true
          (All-weaker (IsGathered t was.packages.keys was.keys.keys) (IsGathered t now.packages.keys now.keys.keys) (gathered_stays t was.packages.keys was.keys.keys now.packages.keys now.keys.keys more) (take c.loop-row.row-index c.args.rows.now) c.loop-row.invariant.gathered)
          c.in_ok-add.ensures.gathered;
    }

pub returns-clause-more : goal.returns-clause-more
returns-clause-more c = c.loop-row.invariant.more

pub returns-clause-gathered : goal.returns-clause-gathered
returns-clause-gathered c = subst (All (IsGathered c.args.table.now c.loop-row.self.packages.keys c.loop-row.self.keys.keys)) (take_all c.loop-row.row-index c.args.rows.now c.loop-row-test.false) c.loop-row.invariant.gathered
