-- What the program's commands and their arguments make of it, for `clap`.
use Rattle.std.proofs.Common.{◌≡◌, ◌∙◌, ℕ, ◌+◌, ◌<◌, Bool, true, false, not, is_some, List, [], ◌∷◌, ◌++◌, map, take, length, refl, sym, ap, ap₂, append-nil, append_assoc, slice_index_or}
use Rattle.proto_base.proofs.Common.{list_all, map-append, take_more}
use Rattle.clap.specs.Walk.{Rule, is_empty, is_simple_arg, rule_of}
use Rattle.clap.specs.Simple.{App, Shape, app_of, on_top, shape_of, with_rule, with_subcommand}
use Rattle.clap.specs.Built.{AddsArg, AddsInTurn, AddsSubcommand}
use Rattle.clap.specs.declared.builder.arg.Arg.{Arg}
use Rattle.clap.specs.declared.builder.command.Command.{Command}
use Rattle.clap.proofs.SimpleLemmas.{plain_fields}
use Rattle.clap.proofs.WalkLemmas.{both}
use Rattle.protoref_arguments.specs.Program.{rule_of_row}
use Rattle.protoref_arguments.specs.declared.commands.Argument.{Argument}
use Rattle.protoref_arguments.specs.declared.commands.Argument.TheVariants.{One, Many}

is_false : (a : Bool) → not a ≡ true → a ≡ false
is_false true e = cc
is_false false e = refl

-- a simple argument is one of its command alone
local_arg : (a : Arg) → is_simple_arg a ≡ true → a.global ≡ false
local_arg a e =
    let p1 = both (is_empty a.overrides.items) _ e in
    let p2 = both (is_empty a.default_vals_ifs.items) _ p1.1 in
    let p3 = both (is_empty a.groups.items) _ p2.1 in
    let p4 = both (not (is_some a.val_delim)) _ p3.1 in
    let p5 = both (not (is_some a.terminator)) _ p4.1 in
    let p6 = both (not a.allow_hyphen_values) _ p5.1 in
    let p7 = both (not a.allow_negative_numbers) _ p6.1 in
    let p8 = both (not a.require_equals) _ p7.1 in
    let p9 = both (not a.last) _ p8.1 in
    is_false a.global p9.1

-- `Command::args`
abbrev pub with_rules : App → List Rule → App
with_rules a rs = on_top (λ s. record s { rules = s.rules ++ rs }) a

-- `Command::subcommands`
abbrev pub with_subs : App → List Shape → App
with_subs a [] = a
with_subs a (s ∷ ss) = with_subs (with_subcommand a s) ss

abbrev pub are_simple : List Rule → Bool
are_simple = list_all (λ r. r.is_simple)

no_rules : (a : App) → a ≡ with_rules a []
no_rules a = ap (λ (rs : List Rule). record { top = record a.top { rules = rs }; subs = a.subs }) (sym (append-nil a.top.rules))

more_rules : (a : App) (r : Rule) (rs : List Rule) → with_rules (with_rule a r) rs ≡ with_rules a (r ∷ rs)
more_rules a r rs = ap (λ (x : List Rule). record { top = record a.top { rules = x }; subs = a.subs }) (append_assoc a.top.rules (r ∷ []) rs)

pub args_added : (old new : Command) (xs : List Arg) → AddsInTurn AddsArg old xs new → are_simple (map rule_of xs) ≡ true
    → app_of new ≡ with_rules (app_of old) (map rule_of xs)
args_added old new [] added simple = ap (λ c. app_of c) (sym added) ∙ no_rules (app_of old)
args_added old new (a ∷ xs) (m, step, more) simple =
    args_added m new xs more (both _ _ simple).1
    ∙ ap (λ (x : App). with_rules x (map rule_of xs)) (step.shape (local_arg a (both _ _ simple).0))
    ∙ more_rules (app_of old) (rule_of a) (map rule_of xs)

pub rows_simple : (rows : List Argument) → are_simple (map rule_of_row rows) ≡ true
rows_simple [] = refl
rows_simple (One id help ∷ rows) = rows_simple rows
rows_simple (Many id help ∷ rows) = rows_simple rows

abbrev pub are_plain : List Shape → Bool
are_plain = list_all (λ s. s.is_plain)

pub subs_added : (old new : Command) (cs : List Command) → AddsInTurn AddsSubcommand old cs new → are_plain (map shape_of cs) ≡ true
    → app_of new ≡ with_subs (app_of old) (map shape_of cs)
subs_added old new [] added plain = ap (λ c. app_of c) (sym added)
subs_added old new (c ∷ cs) (m, step, more) plain =
    subs_added m new cs more (both _ _ plain).1
    ∙ ap (λ (x : App). with_subs x (map shape_of cs)) (step.shape (plain_fields c (both _ _ plain).0).globals)

-- a loop that makes an element of each element of a table
pub table_step : {A B S : Type 0} (f : A → S) (g : B → S) (xs : List A) (x : A) (ys : List B) (i : ℕ) (d : B) → map f xs ≡ map g (take i ys) → i < length ys
    → f x ≡ g (slice_index_or ys i d) → map f (xs ++ x ∷ []) ≡ map g (take (i + 1) ys)
table_step f g xs x ys i d h lt e =
    map-append f xs (x ∷ []) ∙ ap₂ (λ u v. u ++ v ∷ []) h e ∙ sym (map-append g (take i ys) (slice_index_or ys i d ∷ [])) ∙ ap (map g) (sym (take_more ys i d lt))
