use Rattle.std.proofs.Common.{ℕ, List, take}
use Rattle.proto_text.specs.Texts.{word_at}
use Rattle.proto_names_rules.specs.Names.{Workspace}
use Rattle.proto_names.specs.Referring.{IsReadBy, reference_by}
use Rattle.proto_names_faults.specs.Common.{AreAdded, IsListedFault}
use Rattle.proto_names_faults.proofs.references.add_use_flaws.Given as goal

abbrev pub invariant-loop-used : goal.invariant-loop-used
invariant-loop-used l = (w : Workspace) (names : List (List (List ℕ))) → IsReadBy l.lookup.table.now l.lookup.seen.now l.lookup.rows.now names l.lookup.file w
    → AreAdded (IsListedFault w (reference_by l.lookup.file names (word_at l.words)) l.lookup.file (take l.used-index l.uses)) l.fn.found.items l.found.items
