-- The numbers, names and places of the faults of a text: the table of this product.
use Rattle.std.specs.Prelude.{ℕ, codes}
use Rattle.proto_base.specs.Texts.{Text}
use Rattle.proto_text.specs.declared.fault.LexFault.{LexFault}
use Rattle.proto_text.specs.declared.fault.LexFault.TheVariants.{BadChar, OpenComment, OpenString, BadEscape, BadNumber}
use Rattle.proto_text.specs.declared.fault.TextFault.{TextFault}
use Rattle.proto_text.specs.declared.fault.TextFault.TheVariants.{TooLarge, NotUtf8, At, NoMemory}

-- the number of a fault of lexing, from 3 to 7
abbrev pub lex_number : LexFault → ℕ
lex_number BadChar = 3
lex_number OpenComment = 4
lex_number OpenString = 5
lex_number BadEscape = 6
lex_number BadNumber = 7

-- the name of a fault of lexing
abbrev pub lex_name : LexFault → Text
lex_name BadChar = codes "BadChar"
lex_name OpenComment = codes "OpenComment"
lex_name OpenString = codes "OpenString"
lex_name BadEscape = codes "BadEscape"
lex_name BadNumber = codes "BadNumber"

-- where a fault stands, in bytes from 0; a fault of the whole text, and out of memory, stand at 0
abbrev pub text_offset : TextFault → ℕ
text_offset TooLarge = 0
text_offset NotUtf8 = 0
text_offset (At offset fault) = offset
text_offset NoMemory = 0

-- the number of a fault of a text, from 1 to 7; 0 when out of memory
abbrev pub text_number : TextFault → ℕ
text_number TooLarge = 1
text_number NotUtf8 = 2
text_number (At offset fault) = lex_number fault
text_number NoMemory = 0

-- the name of a fault of a text; where lexing stops, that of its fault
abbrev pub text_name : TextFault → Text
text_name TooLarge = codes "TooLarge"
text_name NotUtf8 = codes "NotUtf8"
text_name (At offset fault) = lex_name fault
text_name NoMemory = codes "NoMemory"
