-- Public for the crates above. Why a journal is not read: it is none, or memory is wanting.
use Rattle.std.proofs.Common.{◌≡◌, ◌⊎◌, inl, inr, sym, subst}
use Rattle.proto_journal_records.specs.declared.fault.JournalFault.{JournalFault}
use Rattle.proto_journal_records.specs.declared.fault.JournalFault.TheVariants as fault

-- what holds of both faults holds of the fault
pub unread : (P : JournalFault → Type 0) (f : JournalFault) → (f ≡ fault.BadJournal) ⊎ (f ≡ fault.NoMemory) → (f ≡ fault.BadJournal → P fault.BadJournal) → P fault.NoMemory → P f
unread P f which bad none = elim which [ inl is ↦ subst P (sym is) (bad is) | inr is ↦ subst P (sym is) none ]
