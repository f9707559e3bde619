use Rattle.std.proofs.Common.{rules, Err, Ok}
use Rattle.std.proofs.lemmas.List.Sorted.{answers_always}
use Rattle.proto_names.proofs.FirstTokens.{searched}
use Rattle.proto_names.proofs.link.row_of_token.Goals as goal

pub returns-in-Ok : goal.returns-in-Ok
returns-in-Ok c = searched c.args.meant.now c.requires c.args.token (Ok c.in-Ok.place) c.in-Ok.ensures.bound (c.in-Ok.ensures.position (λ m. m.token) (answers_always _ _ _ (λ f a r g called. search rules)))

pub returns-in-Err : goal.returns-in-Err
returns-in-Err c = searched c.args.meant.now c.requires c.args.token (Err c.in-Err.field-0) c.in-Err.ensures.bound (c.in-Err.ensures.position (λ m. m.token) (answers_always _ _ _ (λ f a r g called. search rules)))
