use Rattle.std.proofs.Common.{◌≤◌, ℕ, List, length, Err, sym, ◌∙◌, subst, arith, IsUtf8}
use Rattle.proto_base.proofs.Common.{text_limit}
use Rattle.proto_text.specs.SourceFacts.{NewSource}
use Rattle.proto_text.specs.declared.fault.TextFault.{TextFault}
use Rattle.proto_text.specs.declared.fault.TextFault.TheVariants as text
use Rattle.proto_files.proofs.copying.copy_source.Goals as goal

-- the bytes of a text make a source
no_fault : (bytes : List ℕ) (e : TextFault) → length bytes ≤ text_limit → IsUtf8 bytes → NewSource bytes (Err e) → ⊥
no_fault bytes text.TooLarge short utf8 h = omega (arith, short, h)
no_fault bytes text.NotUtf8 short utf8 h = h.1 utf8
no_fault bytes (text.At offset fault) short utf8 h = h
no_fault bytes text.NoMemory short utf8 h = h

pub unreachable-requires : goal.unreachable-requires
unreachable-requires c =
    let same = sym c.in_ok-bytes.ensures.items in
    no_fault c.in_ok-bytes.bytes.items c.in-Err.field-0
    (subst (λ (bytes : List ℕ). length bytes ≤ text_limit) same c.as_bytes.ensures.short) (subst IsUtf8 same c.as_bytes.ensures.utf8)
    c.in-Err.ensures.new

pub returns : goal.returns
returns c = c.in-Ok.ensures.new.0 ∙ c.in_ok-bytes.ensures.items ∙ c.as_bytes.ensures.value
