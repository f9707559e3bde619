use Rattle.std.proofs.Common.{List, codes, bytes_eq, string_bytes, sym, ap, ◌∙◌}
use Rattle.proto_base.specs.Texts.{Text}
use Rattle.proto_base.specs.declared.profile.Profile.{Profile}
use Rattle.protoref_arguments.proofs.AskedLanguages.{asks_no_language, asks_nothing}
use Rattle.protoref_arguments.proofs.language.language_of.Goals.{else-words-gt1-via-then-words-gt1+else-eq, else-words-gt1-via-else-words-gt1}
use Rattle.protoref_arguments.proofs.language.language_of.Goals as goal

pub returns-else-words-gt1-clause-language : goal.returns-else-words-gt1-clause-language
returns-else-words-gt1-clause-language c = elim c.else-words-gt1.branch [
  | else-words-gt1-via-then-words-gt1+else-eq w ↦
      sym (ap (λ (p : Profile × List Text). p.0) (asks_no_language c.args.words.now w.index-words-1.result
      (λ l. ap (λ (t : Text). bytes_eq t (codes "--as-written")) (ap string_bytes (sym w.index-words-1.is) ∙ sym w.as_str.ensures.value) ∙ sym w.eq.ensures ∙ w.if-eq.false)))
  | else-words-gt1-via-else-words-gt1 w ↦ sym (ap (λ (p : Profile × List Text). p.0) (asks_nothing c.args.words.now w.if-words-gt1.false))
]

pub returns-else-words-gt1-clause-words : goal.returns-else-words-gt1-clause-words
returns-else-words-gt1-clause-words c = elim c.else-words-gt1.branch [
  | else-words-gt1-via-then-words-gt1+else-eq w ↦
      sym (ap (λ (p : Profile × List Text). p.1) (asks_no_language c.args.words.now w.index-words-1.result
      (λ l. ap (λ (t : Text). bytes_eq t (codes "--as-written")) (ap string_bytes (sym w.index-words-1.is) ∙ sym w.as_str.ensures.value) ∙ sym w.eq.ensures ∙ w.if-eq.false)))
  | else-words-gt1-via-else-words-gt1 w ↦ sym (ap (λ (p : Profile × List Text). p.1) (asks_nothing c.args.words.now w.if-words-gt1.false))
]
