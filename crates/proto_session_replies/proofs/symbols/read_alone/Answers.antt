use Rattle.std.proofs.Common.{◌∙◌}
use Rattle.proto_base.proofs.Common.{paths_of}
use Rattle.proto_base.specs.GivenFiles.{file_of_as, files_of_as}
use Rattle.proto_files.proofs.Common.{IsLeastFault, fault_at}
use Rattle.proto_files.specs.PathFaults.{PathFaults}
use Rattle.proto_files.specs.ReadFaults.{ReadFaults}
use Rattle.proto_session_replies.proofs.InLanguage.{one_in}
use Rattle.proto_session_replies.proofs.SentSymbols.{alone, path_faulty, text_faulty}
use Rattle.proto_session_replies.proofs.symbols.read_alone.Goals as goal

pub returns-in-Err-Schema-clause-none : goal.returns-in-Err-Schema-clause-none
returns-in-Err-Schema-clause-none c = λ none clean read.
    (let given = files_of_as c.args.profile c.in_ok-files.files.items in
    let one = one_in c.args.profile c.in_ok-files.files.items c.args.file.now c.in_ok-files.ensures in
    let least : IsLeastFault (PathFaults 4096 (paths_of given)) (fault_at c.in-Err-Schema.field-0-0) = rw c.in-Err-Schema.field-0-is at c.in-Err-Schema.ensures.fault in
    path_faulty (file_of_as c.args.profile c.args.file.now) given (fault_at c.in-Err-Schema.field-0-0) one least clean)

pub returns-in-Ok-read-clause-some : goal.returns-in-Ok-read-clause-some
returns-in-Ok-read-clause-some c =
    let given = files_of_as c.args.profile c.in_ok-files.files.items in
    let one = one_in c.args.profile c.in_ok-files.files.items c.args.file.now c.in_ok-files.ensures in
    let moved = c.in-Ok.ensures.same in
    let same = c.in-Ok-read.ensures.same in
    same ∙ alone (file_of_as c.args.profile c.args.file.now) given c.in-Ok.paths one moved

pub returns-clause-none : goal.returns-clause-none
returns-clause-none c = λ none clean read.
    (let given = files_of_as c.args.profile c.in_ok-files.files.items in
    let one = one_in c.args.profile c.in_ok-files.files.items c.args.file.now c.in_ok-files.ensures in
    let moved = c.in-Ok.ensures.same in
    let least : IsLeastFault (ReadFaults c.in-Ok.paths) (fault_at c.in-Err-Schema-read.field-0-0) = rw c.in-Err-Schema-read.field-0-is at c.in-Err-Schema-read.ensures.fault in
    text_faulty (file_of_as c.args.profile c.args.file.now) given c.in-Ok.paths (fault_at c.in-Err-Schema-read.field-0-0) one moved least read)
