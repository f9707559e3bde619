use Rattle.std.proofs.Common.{◌≡◌, List, length, string_bytes}
use Rattle.proto_files.proofs.Common.{Each, ReadOf, AreRead, read_at}
use Rattle.proto_descriptors.specs.Descriptors.{FileDesc}
use Rattle.proto_desc.proofs.CheckedFiles.{described_at}
use Rattle.proto_desc.specs.Printing.{open_text}
use Rattle.proto_desc.proofs.checking.json_of.Given as goal

abbrev pub invariant-loop-file : goal.invariant-loop-file
invariant-loop-file l = (told : List FileDesc) × (string_bytes l.text ≡ open_text told) × (length told ≡ l.file)
    × ((reads : List ReadOf) → AreRead l.linked.files reads → Each (λ k d. d ≡ described_at l.linked.files reads k (read_at reads k).tree) told)
