use Rattle.std.proofs.Common.{◌≡◌, ◌<◌, All, List, Some, length, map, subst, sym, ap, ◌∙◌}
use Rattle.std.proofs.lemmas.Result.{IfOk-weaker}
use Rattle.proto_edit_rename.specs.Occurrences.{AreOccurrencesOfName}
use Rattle.proto_edit_rename.specs.declared.file_occurrences.FileOccurrences.{FileOccurrences}
use Rattle.proto_files.proofs.Common.{AreRead, FileOf, HasNoFault}
use Rattle.proto_names_imports.proofs.Common.{LinkFaults}
use Rattle.proto_answers.specs.Common.{listed_tokens, location_of}
use Rattle.proto_answers.proofs.Declarers.{not_without}
use Rattle.proto_answers.proofs.NamedTokens.{compiled_is_linked}
use Rattle.proto_answers.proofs.ReferenceTokens.{are_references}
use Rattle.proto_answers.proofs.references.locations_of_name.Goals as goal

pub occurrences-requires-clause-linked : goal.occurrences-requires-clause-linked
occurrences-requires-clause-linked c = subst (λ (w : List FileOf). HasNoFault (LinkFaults w)) (sym c.files-files.ensures.files) (compiled_is_linked c.args.workspace.now c.files-files.ensures.compiled)

pub all_locations-requires : goal.all_locations-requires
all_locations-requires c =
    let files = c.files-files.result.now in
    let r = c.requires in
    let has = rw c.in-Some.is at c.in_ok-found.ensures in
    let are = (has r.0 (subst (λ (w : List FileOf). AreRead w r.0) (sym c.files-files.ensures.files) r.1)).2 in
    subst (All (λ (o : FileOccurrences). o.file < length files)) (sym c.deref.ensures.value) are.within

pub unreachable-requires : goal.unreachable-requires
unreachable-requires c =
    let has = subst (λ (w : List FileOf). AreOccurrencesOfName w c.args.name.now c.in_ok-found.field-0) c.files-files.ensures.files c.in_ok-found.ensures in
    not_without c.args.workspace.now c.args.name.now c.requires (rw c.in-None.is at has)

pub returns : goal.returns
returns c =
    let w = c.args.workspace.now in
    let e = c.args.encoding in
    let out = c.args.left_out in
    let found = c.in-Some.found in
    let same = c.files-files.ensures.files in
    let has = subst (λ (z : List FileOf). AreOccurrencesOfName z c.args.name.now (Some found)) same (rw c.in-Some.is at c.in_ok-found.ensures) in
    IfOk-weaker c.all_locations.result _ _ (λ all h reads are wanted left. (
      listed_tokens out found.items,
      are_references w reads are (compiled_is_linked w c.files-files.ensures.compiled) c.args.name.now wanted c.names_occur.ensures found has out left,
      subst (λ (z : List FileOf). all.items ≡ map (location_of e z reads) (listed_tokens out found.items)) same
          (h reads (subst (λ (z : List FileOf). AreRead z reads) (sym same) are) ∙ ap (λ (os : List FileOccurrences). map (location_of e c.files-files.result.now reads) (listed_tokens out os)) c.deref.ensures.value),
    ))
    c.all_locations.ensures
