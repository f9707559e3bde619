use Rattle.std.proofs.Common.{ℕ, ◌<◌, List, length}
use Rattle.proto_base.specs.declared.fault.SchemaFault.{SchemaFault}
use Rattle.proto_base.specs.declared.fault.SchemaFault.TheVariants.{Schema, NoMemory}
use Rattle.proto_files.proofs.Common.{IsAtToken, read_at, FileOf}
use Rattle.proto_desc_numbers.specs.declared.flaw.Flaw.{Flaw}
use Rattle.proto_desc.specs.CheckSteps.{IsFaultOf}
use Rattle.proto_desc.proofs.checking.fault.Goals as goal

at_token : (files : List FileOf) (file : ℕ) (f : Flaw) (e : SchemaFault) → file < length files → IsAtToken files file f.token f.kind e → IsFaultOf files file f e
at_token files file f (Schema fault) l h = λ reads r. λ i. record { path = h.path i; offset = h.offset (read_at reads file).tokens (r.tokens file l) i; kind = h.kind_is i }
at_token files file f NoMemory l h = tt

pub returns : goal.returns
returns c = at_token c.args.files.now c.args.file c.args.flaw c.fault_at_token.result c.requires c.fault_at_token.ensures
