-- What a declared custom option says, as the plain record of `CustomOptions`.
use Rattle.proto_custom_options.specs.declared.custom_options.CustomAt.{CustomAt}
use Rattle.proto_custom_options.specs.CustomOptions.{CustomOf}

-- a custom option, by what it says
abbrev pub custom_of : CustomAt → CustomOf
custom_of c = record { message = c.message.now; custom = c.custom.now }
