-- The answer to what is asked for, from its parts.
use Rattle.std.proofs.Common.{◌≡◌, ◌∙◌, ◌⊎◌, inl, inr, true, List, [], ◌∷◌, Option, Some, None, Result, Ok, Err, String, string_bytes, refl, sym, ap, subst, IsErrAnd}
use Rattle.proto_base.proofs.Common.{list_all, option_map_or, Global, Text}
use Rattle.clap.specs.Walk.{Row}
use Rattle.clap.specs.Kinds.{IsAmong, Kinds}
use Rattle.clap.specs.Simple.{subcommand_of}
use Rattle.clap.specs.Faults.{fault_of}
use Rattle.clap.specs.declared.error.kind.ErrorKind.{ErrorKind}
use Rattle.clap.specs.declared.error.kind.ErrorKind.TheVariants as kind
use Rattle.clap.proofs.WalkLemmas.{both}
use Rattle.proto_lint_rules.specs.declared.rule_set.RuleSet.{RuleSet}
use Rattle.protoref_arguments.specs.Common.{AskedCommand, bad_line, help, lint, taken, asked_of, program, IsReplyTo, IsHelpOf, IsSetFor, IsTextOf, UsageError}
use Rattle.protoref_arguments.specs.declared.request.Request.{Request}
use Rattle.protoref_arguments.specs.declared.request.Request.TheVariants as request
use Rattle.protoref_arguments.specs.declared.request.UsageError.TheVariants as fault
use Rattle.protoref_arguments.proofs.Lines.{EndsAt, are_refusals, helped, is_refusal, read, refused}

pub text_read : (o : Option Text) (s : String Global) (next : Text → AskedCommand) (r : Result Request UsageError) → IsTextOf o (Ok s) → IsReplyTo (next (string_bytes s)) r
    → IsReplyTo (option_map_or next o bad_line) r
text_read None s next r is answer = absurd is
text_read (Some t) s next r is answer = subst (λ x. IsReplyTo (next x) r) is answer

lint_fault : (root : Text) (names : List Text) (f : UsageError) → IsSetFor names (Err f) → IsReplyTo (taken lint (root ∷ names)) (Err f)
lint_fault root names fault.BadCommandLine e = rw e refl
lint_fault root names fault.NoMemory e = absurd e

pub lint_err : (root : Text) (names : List Text) (f : UsageError) (r : Result Request UsageError) → IsErrAnd r (λ e. e ≡ f) → IsSetFor names (Err f) → IsReplyTo (taken lint (root ∷ names)) r
lint_err root names f (Ok x) is e = absurd is
lint_err root names f (Err g) is e = subst (λ x. IsReplyTo (taken lint (root ∷ names)) (Err x)) (sym is) (lint_fault root names f e)

pub lint_set : (root : String Global) (names : List Text) (set : RuleSet) → IsSetFor names (Ok set) → IsReplyTo (taken lint (string_bytes root ∷ names)) (Ok (request.Lint root set))
lint_set root names set is = (names, rw is.0 refl, is.1)

-- matches were read
pub answer_read : (a : AskedCommand) (ws : List Text) (found : Option (Text × List Row)) (r : Result Request UsageError) → EndsAt ws a → fault_of program ws ≡ []
    → found ≡ subcommand_of program ws → IsReplyTo (asked_of found) r → IsReplyTo a r
answer_read a ws found r (read x y) none is answer = subst (λ b. IsReplyTo b r) (ap asked_of is ∙ y) answer
answer_read a ws found r (helped x y) none is answer = cc
answer_read a ws found r (refused x y) none is answer = let no : are_refusals [] ≡ true = ap are_refusals (sym none) ∙ x in cc

no_memory : (a : AskedCommand) (k : ErrorKind) (r : Result Request UsageError) → k ≡ kind.OutOfMemory → IsHelpOf k r → IsReplyTo a r
no_memory a k (Ok (request.Help text)) e is = cc
no_memory a k (Ok request.Version) e is = absurd is
no_memory a k (Ok (request.Compile root)) e is = absurd is
no_memory a k (Ok (request.Lint root set)) e is = absurd is
no_memory a k (Ok (request.Rename root name to)) e is = absurd is
no_memory a k (Ok (request.DeleteField root name)) e is = absurd is
no_memory a k (Ok (request.AddImport root file path)) e is = absurd is
no_memory a k (Ok (request.DropImport root file path)) e is = absurd is
no_memory a k (Ok (request.Undo root)) e is = absurd is
no_memory a k (Ok (request.Log root)) e is = absurd is
no_memory a k (Ok (request.Recover root)) e is = absurd is
no_memory a k (Ok (request.Migrate root)) e is = absurd is
no_memory a k (Err fault.BadCommandLine) e is = absurd (is.1 e)
no_memory a k (Err fault.NoMemory) e is = tt

is_help : (a : AskedCommand) (k : ErrorKind) (r : Result Request UsageError) → a ≡ help → k ≡ kind.DisplayHelp → IsHelpOf k r → IsReplyTo a r
is_help a k (Ok (request.Help text)) asks e is = asks
is_help a k (Ok request.Version) asks e is = absurd is
is_help a k (Ok (request.Compile root)) asks e is = absurd is
is_help a k (Ok (request.Lint root set)) asks e is = absurd is
is_help a k (Ok (request.Rename root name to)) asks e is = absurd is
is_help a k (Ok (request.DeleteField root name)) asks e is = absurd is
is_help a k (Ok (request.AddImport root file path)) asks e is = absurd is
is_help a k (Ok (request.DropImport root file path)) asks e is = absurd is
is_help a k (Ok (request.Undo root)) asks e is = absurd is
is_help a k (Ok (request.Log root)) asks e is = absurd is
is_help a k (Ok (request.Recover root)) asks e is = absurd is
is_help a k (Ok (request.Migrate root)) asks e is = absurd is
is_help a k (Err fault.BadCommandLine) asks e is = absurd (is.0 e)
is_help a k (Err fault.NoMemory) asks e is = tt

is_bad : (a : AskedCommand) (k : ErrorKind) (r : Result Request UsageError) → a ≡ bad_line → is_refusal k ≡ true → IsHelpOf k r → IsReplyTo a r
is_bad a k (Ok (request.Help text)) asks e is = let no : is_refusal kind.DisplayHelp ≡ true = ap is_refusal (sym is) ∙ e in cc
is_bad a k (Ok request.Version) asks e is = absurd is
is_bad a k (Ok (request.Compile root)) asks e is = absurd is
is_bad a k (Ok (request.Lint root set)) asks e is = absurd is
is_bad a k (Ok (request.Rename root name to)) asks e is = absurd is
is_bad a k (Ok (request.DeleteField root name)) asks e is = absurd is
is_bad a k (Ok (request.AddImport root file path)) asks e is = absurd is
is_bad a k (Ok (request.DropImport root file path)) asks e is = absurd is
is_bad a k (Ok (request.Undo root)) asks e is = absurd is
is_bad a k (Ok (request.Log root)) asks e is = absurd is
is_bad a k (Ok (request.Recover root)) asks e is = absurd is
is_bad a k (Ok (request.Migrate root)) asks e is = absurd is
is_bad a k (Err fault.BadCommandLine) asks e is = asks
is_bad a k (Err fault.NoMemory) asks e is = tt

among : (ks : Kinds) (k : ErrorKind) → list_all is_refusal ks ≡ true → IsAmong k ks → is_refusal k ≡ true
among [] k e h = absurd h
among (x ∷ ks) k e (inl same) = ap is_refusal same ∙ (both (is_refusal x) _ e).0
among (x ∷ ks) k e (inr h) = among ks k (both (is_refusal x) _ e).1 h

all_refusals : (ks : Kinds) → are_refusals ks ≡ true → list_all is_refusal ks ≡ true
all_refusals [] e = cc
all_refusals (k ∷ ks) e = e

-- there are no matches
pub answer_refused : (a : AskedCommand) (ws : List Text) (k : ErrorKind) (r : Result Request UsageError) → EndsAt ws a → (k ≡ kind.OutOfMemory) ⊎ IsAmong k (fault_of program ws)
    → IsHelpOf k r → IsReplyTo a r
answer_refused a ws k r ends (inl e) is = no_memory a k r e is
answer_refused a ws k r (read x y) (inr h) is = absurd (subst (IsAmong k) x h)
answer_refused a ws k r (helped x y) (inr h) is = elim (subst (IsAmong k) x h) [ inl e ↦ is_help a k r y e is | inr never ↦ absurd never ]
answer_refused a ws k r (refused x y) (inr h) is = is_bad a k r y (among (fault_of program ws) k (all_refusals (fault_of program ws) x) h) is
