use Rattle.proto_names_outline.proofs.declaring.tokens.Goals as goal
use Rattle.proto_names_outline.proofs.Roles.{declared_tokens_are_names, names_are_no_uses, tokens_are_used_once, used_tokens_refer, used_words_stand_apart}

pub returns : goal.returns
returns c = record { names = declared_tokens_are_names; uses = used_tokens_refer; apart = names_are_no_uses; once = tokens_are_used_once; words = used_words_stand_apart }
