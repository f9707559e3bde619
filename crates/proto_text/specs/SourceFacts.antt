-- What makes a text: its size and its encoding, choices of this profile.
use Rattle.std.specs.Prelude.{◌≡◌, ◌<◌, ◌≤◌, ◌-◌, length, take, drop, Result, Ok, Err}
use Rattle.std.specs.Str.{IsUtf8, IsCharBoundary}
use Rattle.proto_base.specs.Texts.{Text, text_limit}
use Rattle.proto_text.specs.declared.source.Source.{Source}
use Rattle.proto_text.specs.declared.source.Span.{Span}
use Rattle.proto_text.specs.declared.fault.TextFault.{TextFault}
use Rattle.proto_text.specs.declared.fault.TextFault.TheVariants.{TooLarge, NotUtf8, At, NoMemory}

-- the bytes are a text, or too many, or else not UTF-8
abbrev pub NewSource : Text → Result Source TextFault → Type 0
NewSource bytes (Ok source) = (source ≡ bytes) × (length bytes ≤ text_limit) × IsUtf8 bytes
NewSource bytes (Err TooLarge) = text_limit < length bytes
NewSource bytes (Err NotUtf8) = (length bytes ≤ text_limit) × (IsUtf8 bytes → ⊥)
NewSource bytes (Err (At offset fault)) = ⊥
NewSource bytes (Err NoMemory) = ⊥

-- the span lies in the text, and cuts no character
pub record IsSpan (text : Text) (span : Span) : Type 0 where
  pub ordered : span.start ≤ span.end
  pub starts : IsCharBoundary text span.start
  pub ends : IsCharBoundary text span.end

-- the bytes at a span
abbrev pub text_at : Text → Span → Text
text_at text span = take (span.end - span.start) (drop span.start text)
