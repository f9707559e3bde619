use Rattle.std.proofs.Common.{◌≡◌, List, map, sym, ◌∙◌, ap, subst, All}
use Rattle.proto_files.proofs.Common.{AreRead, AreWordsAt, ReadOf, paths_of}
use Rattle.proto_names_imports.proofs.Common.{AreWritten, IsImportError, TokensAreRising, asked_by, fault_of}
use Rattle.proto_names_imports.specs.ImportSteps.{PathFault}
use Rattle.proto_names_imports.specs.Laws.{wanted_by}
use Rattle.proto_names_outline.specs.declared.wanted.Wanted.{Wanted}
use Rattle.proto_names_rules.proofs.Common.{AskedImport, Fault, IsLeast, imports_of}
use Rattle.proto_text.proofs.Common.{IsString, word_at}
use Rattle.proto_tree.specs.File.{tree_of_file}
use Rattle.proto_names_update.proofs.FileLists.{asked_at, rising_at, strings_at}
use Rattle.proto_names_update.proofs.kept_imports.file_imports.Goals.{After-deref, After-deref-2}
use Rattle.proto_names_update.proofs.kept_imports.file_imports.Goals as goal

file_words : (c : After-deref) → AreWordsAt c.args.files.now c.args.file c.new-words.ensures.some.0 c.new-words.result
file_words c = record { within = c.requires; tokens_are = c.new-words.ensures.some.1; words = c.new-words.ensures.some.2 }

pub written_imports-requires : goal.written_imports-requires
written_imports-requires c =
    let at = (goal.at.written_imports-requires c).After-deref in
    record {
      strings = subst (λ (ws : List Wanted). All (λ w. IsString (word_at c.new-words.result w.path)) ws) (sym c.deref.ensures.value)
          (strings_at c.args.files.now c.args.file c.new-words.ensures.some.0 c.new-words.result (file_words at) (tree_of_file c.tree.result.now) c.tree.ensures c.in_ok-wanted.wanted.items c.in_ok-wanted.ensures);
    }

-- the imports as they are written
words_of : (c : After-deref-2) → AreWordsAt c.args.files.now c.args.file c.new-words.ensures.some.0 c.new-words.result
words_of c = record { within = c.requires; tokens_are = c.new-words.ensures.some.1; words = c.new-words.ensures.some.2 }

written : (c : After-deref-2) → AreWritten (word_at c.new-words.result) c.in_ok-wanted.wanted.items c.in_ok-written.written.items
written c = subst (λ (ws : List Wanted). AreWritten (word_at c.new-words.result) ws c.in_ok-written.written.items) c.deref.ensures.value c.in_ok-written.ensures

asked : (c : After-deref-2) (reads : List ReadOf) → AreRead c.args.files.now reads → map (asked_by c.args.file) c.deref-2.result.now ≡ wanted_by c.args.files.now reads c.args.file
asked c reads are =
    ap (map (asked_by c.args.file)) c.deref-2.ensures.value
    ∙ asked_at c.args.files.now c.args.file c.new-words.ensures.some.0 c.new-words.result (words_of c) (tree_of_file c.tree.result.now) c.tree.ensures c.in_ok-wanted.wanted.items c.in_ok-wanted.ensures reads are c.in_ok-written.written.items (written c)

pub resolve_imports_of-requires : goal.resolve_imports_of-requires
resolve_imports_of-requires c =
    let now = (goal.at.resolve_imports_of-requires c).After-deref-2 in
    subst TokensAreRising (sym c.deref-2.ensures.value)
    (rising_at c.args.files.now c.args.file c.new-words.ensures.some.0 c.new-words.result (words_of now) (tree_of_file c.tree.result.now) c.tree.ensures c.in_ok-wanted.wanted.items c.in_ok-wanted.ensures
    c.in_ok-written.written.items (written now))

pub returns-in-Ok-clause-imports : goal.returns-in-Ok-clause-imports
returns-in-Ok-clause-imports c = λ reads are.
    (let paths = paths_of c.args.files.now in
    let wanted = asked (goal.at.returns-in-Ok-clause-imports c).After-deref-2 reads are in
    record {
      same = ap (imports_of paths) (sym wanted) ∙ sym c.in-Ok.ensures.imports;
      clean = subst (λ (z : List AskedImport). (f : Fault) → PathFault paths z f → ⊥) wanted c.in-Ok.ensures.clean;
    })

pub returns-in-Err-Fault-clause-none : goal.returns-in-Err-Fault-clause-none
returns-in-Err-Fault-clause-none c = λ none reads are imports there.
    (let paths = paths_of c.args.files.now in
    let bad = c.in-Err-Fault._bad in
    let wanted = asked (goal.at.returns-in-Err-Fault-clause-none c).After-deref-2 reads are in
    let says = PathFault paths (map (asked_by c.args.file) c.deref-2.result.now) in
    let least : IsLeast says (fault_of bad) = subst (IsImportError says) c.in-Err-Fault.field-0-is c.in-Err-Fault.ensures.fault in
    there.clean (fault_of bad) (subst (λ z. PathFault paths z (fault_of bad)) wanted least.holds))
