use Rattle.std.proofs.Common.{ℕ, List, map, take}
use Rattle.proto_text.specs.Texts.{word_at}
use Rattle.proto_names_rules.specs.Names.{Workspace}
use Rattle.proto_names.specs.Referring.{first_token_of_use, reference_by, AreMeant, IsReadBy}
use Rattle.proto_names.proofs.references.meanings.Given as goal

abbrev pub invariant-loop-used : goal.invariant-loop-used
invariant-loop-used l = (w : Workspace) (names : List (List (List ℕ))) → IsReadBy l.lookup.table.now l.lookup.seen.now l.lookup.rows.now names l.lookup.file w
    → AreMeant l.lookup.table.now w (map (reference_by l.lookup.file names (word_at l.words)) (take l.used-index l.uses)) (map first_token_of_use (take l.used-index l.uses)) l.meant.items
