use Rattle.std.proofs.Common.{ℕ, List, bytes_eq, codes, sym, ap, ◌∙◌}
use Rattle.protoref_serve.proofs.AskedWords.{asks}
use Rattle.protoref_serve.proofs.arguments.is_as_written.Goals as goal

pub returns-in-Some-clause-word : goal.returns-in-Some-clause-word
returns-in-Some-clause-word c =
    let item = rw c.in-Some.is at c.get.ensures.lookup in
    c.eq.ensures ∙ (ap (λ (t : List ℕ). bytes_eq t (codes "--as-written")) c.as_str.ensures.value ∙ sym (asks c.args.words.now c.in-Some.word.now item.3.0 item.1))
