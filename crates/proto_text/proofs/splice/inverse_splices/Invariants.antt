use Rattle.std.proofs.Common.{◌≡◌, ◌≤◌, ◌++◌, drop, take}
use Rattle.proto_base.specs.Texts.{text_limit}
use Rattle.proto_text.specs.Common.{inverse_from, AreShort, edits}
use Rattle.proto_text.proofs.splice.inverse_splices.Given as goal

abbrev pub invariant-loop-splice : goal.invariant-loop-splice
invariant-loop-splice l = record {
  made : edits (take l.splice-index l.splice-items) ++ inverse_from l.to l.from (edits (drop l.splice-index l.splice-items)) ≡ inverse_from 0 0 (edits l.fn.splices.items);
  short : AreShort l.to l.from (edits (drop l.splice-index l.splice-items));
  to : l.to ≤ text_limit;
  from : l.from ≤ text_limit;
}
