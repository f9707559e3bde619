-- The bytes of ASCII characters that definitions speak of, by name.
use Rattle.std.specs.Prelude.{ℕ}

-- the byte 0
abbrev pub nul : ℕ
nul = 0

-- the bell
abbrev pub bell : ℕ
bell = 7

-- the backspace
abbrev pub backspace : ℕ
backspace = 8

-- the tab
abbrev pub tab : ℕ
tab = 9

-- the line feed
abbrev pub line_feed : ℕ
line_feed = 10

-- the vertical tab
abbrev pub vertical_tab : ℕ
vertical_tab = 11

-- the form feed
abbrev pub form_feed : ℕ
form_feed = 12

-- the carriage return
abbrev pub carriage_return : ℕ
carriage_return = 13

-- the space
abbrev pub space : ℕ
space = 32

-- `"`
abbrev pub quote : ℕ
quote = 34

-- `'`
abbrev pub apostrophe : ℕ
apostrophe = 39

-- `(`
abbrev pub open_parenthesis : ℕ
open_parenthesis = 40

-- `)`
abbrev pub close_parenthesis : ℕ
close_parenthesis = 41

-- `*`
abbrev pub star : ℕ
star = 42

-- `,`
abbrev pub comma : ℕ
comma = 44

-- `-`
abbrev pub hyphen : ℕ
hyphen = 45

-- `.`
abbrev pub dot : ℕ
dot = 46

-- `/`
abbrev pub slash : ℕ
slash = 47

-- `0`
abbrev pub zero : ℕ
zero = 48

-- `7`
abbrev pub seven : ℕ
seven = 55

-- `9`
abbrev pub nine : ℕ
nine = 57

-- `:`
abbrev pub colon : ℕ
colon = 58

-- `;`
abbrev pub semicolon : ℕ
semicolon = 59

-- `<`
abbrev pub less : ℕ
less = 60

-- `=`
abbrev pub equals : ℕ
equals = 61

-- `>`
abbrev pub greater : ℕ
greater = 62

-- `?`
abbrev pub question_mark : ℕ
question_mark = 63

-- `A`
abbrev pub upper_a : ℕ
upper_a = 65

-- `F`
abbrev pub upper_f : ℕ
upper_f = 70

-- `X`
abbrev pub upper_x : ℕ
upper_x = 88

-- `Z`
abbrev pub upper_z : ℕ
upper_z = 90

-- `[`
abbrev pub open_bracket : ℕ
open_bracket = 91

-- `\`
abbrev pub backslash : ℕ
backslash = 92

-- `]`
abbrev pub close_bracket : ℕ
close_bracket = 93

-- `_`
abbrev pub underscore : ℕ
underscore = 95

-- `a`
abbrev pub lower_a : ℕ
lower_a = 97

-- `b`
abbrev pub lower_b : ℕ
lower_b = 98

-- `f`
abbrev pub lower_f : ℕ
lower_f = 102

-- `n`
abbrev pub lower_n : ℕ
lower_n = 110

-- `r`
abbrev pub lower_r : ℕ
lower_r = 114

-- `t`
abbrev pub lower_t : ℕ
lower_t = 116

-- `v`
abbrev pub lower_v : ℕ
lower_v = 118

-- `x`
abbrev pub lower_x : ℕ
lower_x = 120

-- `z`
abbrev pub lower_z : ℕ
lower_z = 122

-- `{`
abbrev pub open_brace : ℕ
open_brace = 123

-- `}`
abbrev pub close_brace : ℕ
close_brace = 125
