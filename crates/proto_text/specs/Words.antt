-- The test of a word, as a function.
use Rattle.std.specs.Prelude.{Bool, true, false, ◌&&◌, [], ◌∷◌}
use Rattle.std.specs.List.{list_all}
use Rattle.proto_base.specs.Texts.{Text}
use Rattle.proto_text.specs.declared.class.Class.{Class}
use Rattle.proto_text.specs.declared.class.Class.TheVariants.{Letter}
use Rattle.proto_text.specs.Classes.{class_of, is_identifier}

-- a byte of this class may begin a word: a letter
abbrev pub may_begin_word : Class → Bool
may_begin_word Letter = true
may_begin_word _ = false

-- a letter or `_`, and identifier characters
abbrev pub is_run : Text → Bool
is_run [] = false
is_run (b ∷ bytes) = may_begin_word (class_of b) && list_all is_identifier bytes
