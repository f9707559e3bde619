use Rattle.std.proofs.Common.{[], sym, ◌∙◌, ap}
use Rattle.proto_base.proofs.Common.{Vec, get_or-map}
use Rattle.proto_names.specs.Common.{Meant}
use Rattle.proto_names.proofs.RenewedLists.{below_more, others_there, own_there}
use Rattle.proto_names.proofs.updating.put_meanings.Goals as goal

pub returns-then-is_same-clause-own : goal.returns-then-is_same-clause-own
returns-then-is_same-clause-own c =
    get_or-map (λ (v : Vec Meant). v.items) c.args.meant.now.items c.args.place c.index.result.now [] c.requires
    ∙ ap (λ (v : Vec Meant). v.items) (sym c.index.ensures) ∙ c.is_same.ensures.0 c.if-is_same.true

pub returns-clause-below : goal.returns-clause-below
returns-clause-below c =
    below_more c.args.log.now.items c.change_at.new.log.items c.args.meant.now.items c.change_at.new.items.items c.args.place c.args.own c.requires c.in_ok-change_at.ensures.noted c.in_ok-change_at.ensures.items

pub returns-clause-own : goal.returns-clause-own
returns-clause-own c =
    own_there c.args.log.now.items c.change_at.new.log.items c.args.meant.now.items c.change_at.new.items.items c.args.place c.args.own c.requires c.in_ok-change_at.ensures.noted c.in_ok-change_at.ensures.items

pub returns-clause-others : goal.returns-clause-others
returns-clause-others c =
    others_there c.args.log.now.items c.change_at.new.log.items c.args.meant.now.items c.change_at.new.items.items c.args.place c.args.own c.requires c.in_ok-change_at.ensures.noted c.in_ok-change_at.ensures.items
