use Rattle.proto_answers.proofs.SuitedEdits.{ends_suit, lone_suits_none, within_suits_none}
use Rattle.proto_answers.proofs.line_ends.suit_editors.Goals as goal

pub returns-then-has_lone_return : goal.returns-then-has_lone_return
returns-then-has_lone_return c = lone_suits_none c.args.text.now c.args.splices.now c.has_lone_return.result c.if-has_lone_return.true c.has_lone_return.ensures

pub returns-then-not-have_positions : goal.returns-then-not-have_positions
returns-then-not-have_positions c = within_suits_none c.args.text.now c.args.splices.now c.have_positions.result c.if-not-have_positions.true c.have_positions.ensures

pub returns : goal.returns
returns c =
    ends_suit c.args.text.now c.args.splices.now c.has_lone_return.result c.have_positions.result c.has_no_mixed_ends.result c.if-has_lone_return.false c.has_lone_return.ensures c.if-not-have_positions.false c.have_positions.ensures c.has_no_mixed_ends.ensures
