-- How a command ends: its status, or the fault for
-- which it has no answer (the choice of this program).
use Rattle.std.specs.Prelude.{◌≡◌, ℕ, ◌+◌, codes, Result, Err}
use Rattle.proto_base.specs.Texts.{Text}
use Rattle.protoref_output.specs.declared.run_fault.RunFault.{RunFault}
use Rattle.protoref_output.specs.declared.run_fault.RunFault.TheVariants.{Store, NoMemory, Output}
use Rattle.protoref_output.specs.declared.status.Status.{Status}
use Rattle.protoref_output.specs.declared.status.Status.TheVariants.{Done, Problem}

-- the number that the program ends with
abbrev pub code_of : Status → ℕ
code_of Done = 0
code_of Problem = 1

-- the name of what stops a command
abbrev pub run_fault_name : RunFault → Text
run_fault_name Store = codes "Store"
run_fault_name NoMemory = codes "NoMemory"
run_fault_name Output = codes "Output"

-- the line for standard error
abbrev pub fault_text : RunFault → Text
fault_text Store = codes "protoref: store failed"
fault_text NoMemory = codes "protoref: no memory"
fault_text Output = codes "protoref: output failed"

-- a failed call of the store is counted and answered, and nothing else is
abbrev pub CountsStore : {T : Type 0} → ℕ → ℕ → Result T RunFault → Type 0
CountsStore before after (Err Store) = after ≡ before + 1
CountsStore before after _ = after ≡ before
