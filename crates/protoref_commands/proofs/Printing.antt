-- What is printed over files that compile, and over others.
use Rattle.std.specs.Io.KnownBytes.{Keeps}
use Rattle.std.proofs.Common.{◌≡◌, ℕ, List, ◌++◌, IfErr, IfOk, IsErrOf, codes, refl, sym, ap, subst, ◌∙◌, Option, Some, None, Result, Ok, Err}
use Rattle.proto_journal_records.specs.Known.{Over}
use Rattle.proto_desc.proofs.Common.{IsSortedOf, WorkspaceFaults}
use Rattle.proto_desc.specs.Printing.{IsJsonOf}
use Rattle.proto_files.proofs.Common.{FaultAt, HasNoFault, IsLeastFault, ReadOf, AreRead, FileOf}
use Rattle.proto_lint_rules.specs.declared.rule_set.RuleSet.{RuleSet}
use Rattle.protoref_output.proofs.Common.{status_of, printed_text, IsLineOver}
use Rattle.protoref_output.specs.declared.answer.Answer.{Answer}
use Rattle.protoref_output.specs.declared.run_fault.RunFault.{RunFault}
use Rattle.protoref_output.specs.declared.run_fault.RunFault.TheVariants as ends
use Rattle.protoref_output.specs.declared.status.Status.{Status}
use Rattle.protoref_output.specs.declared.status.Status.TheVariants.{Done, Problem}
use Rattle.proto_store.specs.Stores.{Held, HoldsFiles}
use Rattle.protoref_commands.specs.Commands.{Answers, Ran}
use Rattle.protoref_commands.specs.Linted.{IsLintOf, of_findings, of_fault}
use Rattle.protoref_commands.specs.Printed.{Compiles, PrintsCompiled, TellsFault}
use Rattle.protoref_commands.specs.declared.command.Command.{Command}
use Rattle.protoref_commands.specs.declared.command.Command.TheVariants as asked

abbrev failed : RunFault → Result Answer RunFault
failed x = Err x

-- ---- how files are opened

pub compiles : (held : Option Held) (given w : List FileOf) → HoldsFiles held given → IsSortedOf given w → HasNoFault (WorkspaceFaults given) → Compiles held w
compiles None given w h sorted clean = tt
compiles (Some held) given w h sorted clean =
    (subst (λ (z : List FileOf). IsSortedOf z w) h sorted, subst (λ (z : List FileOf). HasNoFault (WorkspaceFaults z)) h clean)

told : (held : Option Held) (fault : FaultAt) (a : Answer) → Over held (λ now. IsLeastFault (WorkspaceFaults now.files) fault) → IsLineOver held fault (printed_text a) → status_of a ≡ Problem → TellsFault held a
told None fault a least line s = (s, tt)
told (Some held) fault a least line s = (s, (fault, least, line))

pub tells_fault : (held : Option Held) (fault : FaultAt) (r : Result Answer RunFault) → Over held (λ now. IsLeastFault (WorkspaceFaults now.files) fault)
    → IfOk r (λ a. IsLineOver held fault (printed_text a)) → IfOk r (λ a. status_of a ≡ Problem) → IfOk r (TellsFault held)
tells_fault held fault (Ok a) least line s = told held fault a least line s
tells_fault held fault (Err x) least line s = tt

-- ---- compile

-- over files that compile
pub printed_compiles : (before after : Option Held) (w : List FileOf) (text : List ℕ) (r : Result Answer RunFault) → Compiles before w → after ≡ before
    → IsJsonOf w text → (reads : List ReadOf) × AreRead w reads
    → IfOk r (λ a. printed_text a ≡ text ++ codes "\n") → IfOk r (λ a. status_of a ≡ Done) → IfErr r (λ e. e ≡ ends.NoMemory) → Answers asked.Compile before after r
printed_compiles None after w text (Ok a) opens same d e t s m = (same, tt)
printed_compiles (Some held) after w text (Ok a) opens same d e t s m = (
  same,
  subst (λ (z : Status). PrintsCompiled held.files (printed_text a) z) (sym s)
      (record {
        sorted = w;
        reads = e.0;
        in_order = opens.0;
        are_read = e.1;
        clean = opens.1;
        text_is = t ∙ ap (λ (l : List ℕ). l ++ codes "\n") (d e.0 e.1);
      }),
)
printed_compiles before after w text (Err ends.Store) opens same d e t s m = same
printed_compiles before after w text (Err ends.NoMemory) opens same d e t s m = same
printed_compiles before after w text (Err ends.Output) opens same d e t s m = cc

-- over others
faulty_compiles : (before after : Option Held) (a : Answer) → TellsFault before a → after ≡ before → Answers asked.Compile before after (Ok a)
faulty_compiles None after a tells same = (same, tt)
faulty_compiles (Some held) after a tells same = (same, subst (λ (z : Status). PrintsCompiled held.files (printed_text a) z) (sym tells.0) tells.1)

pub ends_uncompiled : (before after : Option Held) (x : RunFault) → (x ≡ ends.Output → ⊥) → after ≡ before → Answers asked.Compile before after (Err x)
ends_uncompiled before after ends.Store plain same = same
ends_uncompiled before after ends.NoMemory plain same = same
ends_uncompiled before after ends.Output plain same = plain refl

pub uncompiled : (before after : Option Held) (r : Result Answer RunFault) → IfOk r (TellsFault before) → (IsErrOf r ends.Output → ⊥) → after ≡ before → Answers asked.Compile before after r
uncompiled before after (Ok a) tells plain same = faulty_compiles before after a tells same
uncompiled before after (Err x) tells plain same = ends_uncompiled before after x (λ is. plain (ap failed is)) same

-- ---- lint

pub linted_prints : (before after : Option Held) (w : List FileOf) (rules : RuleSet) (r : Result Answer RunFault) → Compiles before w → after ≡ before
    → IfOk r (λ a. IsLintOf w rules.chosen (printed_text a) (status_of a)) → IfErr r (λ e. e ≡ ends.NoMemory) → Answers (asked.Lint rules) before after r
linted_prints None after w rules (Ok a) opens same l m = (same, tt)
linted_prints (Some held) after w rules (Ok a) opens same l m = (same, of_findings w opens.0 opens.1 l)
linted_prints before after w rules (Err ends.Store) opens same l m = same
linted_prints before after w rules (Err ends.NoMemory) opens same l m = same
linted_prints before after w rules (Err ends.Output) opens same l m = cc

faulty_lints : (before after : Option Held) (rules : RuleSet) (a : Answer) → TellsFault before a → after ≡ before → Answers (asked.Lint rules) before after (Ok a)
faulty_lints None after rules a tells same = (same, tt)
faulty_lints (Some held) after rules a tells same = let f = tells.1 in (same, of_fault f.0 f.1 f.2 tells.0)

pub ends_unlinted : (before after : Option Held) (rules : RuleSet) (x : RunFault) → (x ≡ ends.Output → ⊥) → after ≡ before → Answers (asked.Lint rules) before after (Err x)
ends_unlinted before after rules ends.Store plain same = same
ends_unlinted before after rules ends.NoMemory plain same = same
ends_unlinted before after rules ends.Output plain same = plain refl

pub unlinted : (before after : Option Held) (rules : RuleSet) (r : Result Answer RunFault) → IfOk r (TellsFault before) → (IsErrOf r ends.Output → ⊥) → after ≡ before → Answers (asked.Lint rules) before after r
unlinted before after rules (Ok a) tells plain same = faulty_lints before after rules a tells same
unlinted before after rules (Err x) tells plain same = ends_unlinted before after rules x (λ is. plain (ap failed is)) same

-- ---- a call that ends before anything is answered

-- nothing is written
pub ran_early : (command : Command) (before after : Option Held) (old new : Option (List ℕ)) (x : RunFault) → Answers command before after (Err x) → Keeps old new → Ran command before after old new (Err x)
ran_early command before after old new ends.Store a kept = (a, kept)
ran_early command before after old new ends.NoMemory a kept = (a, kept)
ran_early command before after old new ends.Output a kept = absurd a
