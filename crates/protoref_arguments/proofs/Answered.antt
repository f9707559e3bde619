-- The answer to a command line, from the reply to its command's words.
use Rattle.std.proofs.Common.{◌≡◌, true, false, List, Result, Ok, Err, refl, sym, subst, IsErrAnd}
use Rattle.proto_base.specs.Texts.{Text}
use Rattle.proto_base.specs.declared.profile.Profile.{Profile}
use Rattle.proto_base.specs.declared.profile.Profile.TheVariants.{Core}
use Rattle.protoref_arguments.specs.Common.{asked_by_line, asked_by_words, asks_version, IsAnswerTo, IsReplyTo, UsageError}
use Rattle.protoref_arguments.specs.Languages.{asked_in}
use Rattle.protoref_arguments.specs.declared.request.Request.{Request}
use Rattle.protoref_arguments.specs.declared.request.Request.TheVariants as request
use Rattle.protoref_arguments.specs.declared.request.UsageError.TheVariants as fault

pub version_answered : (line : List Text) → asks_version line ≡ true → IsAnswerTo (asked_by_line line) (Ok (Core, request.Version))
version_answered line asks = rw asks (refl, refl)

module _ (line words : List Text) (no_version : asks_version line ≡ false) (behind : words ≡ (asked_in line).1) where
  pub request_answered : (profile : Profile) (r : Request) → profile ≡ (asked_in line).0 → IsReplyTo (asked_by_words words) (Ok r) → IsAnswerTo (asked_by_line line) (Ok (profile, r))
  request_answered profile r is reply = rw no_version (is, subst (λ (ws : List Text). IsReplyTo (asked_by_words ws) (Ok r)) behind reply)

  same_fault : (f : UsageError) → IsReplyTo (asked_by_words words) (Err f) → IsAnswerTo (asked_by_line line) (Err f)
  same_fault fault.BadCommandLine reply = rw no_version (subst (λ (ws : List Text). IsReplyTo (asked_by_words ws) (Err fault.BadCommandLine)) behind reply)
  same_fault fault.NoMemory reply = tt

  pub fault_answered : (f : UsageError) (answer : Result (Profile × Request) UsageError) → IsErrAnd answer (λ e. e ≡ f) → IsReplyTo (asked_by_words words) (Err f) → IsAnswerTo (asked_by_line line) answer
  fault_answered f (Ok x) is reply = absurd is
  fault_answered f (Err g) is reply = subst (λ (e : UsageError). IsAnswerTo (asked_by_line line) (Err e)) (sym is) (same_fault f reply)
