-- What `clap` makes of a command line, for every list of words.
use Rattle.std.proofs.Common.{◌≡◌, ◌∙◌, ◌⊎◌, inl, inr, ℕ, ◌≤◌, Bool, true, false, ◌&&◌, ◌||◌, not, cond, List, [], ◌∷◌, ◌++◌, map, length, Option, Some, None, is_some, refl, sym, ap, subst, codes, arith, unwrap_or, drop, append-nil, append_assoc, le-ltb, slice_index, ◌==◌, find, fold, bytes_eq, eqb-true}
use Rattle.proto_base.proofs.Common.{list_all, bytes_eq-Decides, Text}
use Rattle.clap.specs.Walk.{Names, Row, Rule, Walk, finished, nothing_held, rows_after, settled, stop_after, walk, walk_from, walked, answers_to, positional}
use Rattle.clap.specs.Simple.{App, Shape, built, entered, help_shape, is_simple, label_of, names_of, rows_at, subcommand_of}
use Rattle.clap.specs.Kinds.{Kinds, or_else, range_kinds, values_kinds}
use Rattle.clap.specs.Lexer.{long_of, short_of, usize_max}
use Rattle.clap.specs.declared.builder.value_parser.ValueParser.TheVariants as vp
use Rattle.clap.specs.Faults.{built_fault, check_fault, defaults_fault, entered_fault, fault_of, is_simple_and_free, level_fault, settle_fault, turn_fault, walk_fault}
use Rattle.clap.specs.declared.error.kind.ErrorKind.{ErrorKind}
use Rattle.clap.specs.declared.error.kind.ErrorKind.TheVariants as kind
use Rattle.clap.proofs.FaultLemmas.{stopped_fault}
use Rattle.clap.proofs.WalkLemmas.{both, walk_stopped}
use Rattle.clap.proofs.SimpleLemmas.{is_false}
use Rattle.clap.proofs.OnLiterals.{clap_on_literals}
use Rattle.protoref_arguments.specs.Common.{AskedCommand, Command, asked_by_words, asked_by_command, asks_help, bad_line, command_named, commands, help, command_name, taken, compile, lint, rename, delete_field, add_import, drop_import, undo, log, recover, begins_dashed, is_dashed, marked_first, words_marked, asked_of, program, migrate}

pub simple : is_simple_and_free program ≡ true
unfolding clap_on_literals
simple = refl

pub just_simple : is_simple program ≡ true
unfolding clap_on_literals
just_simple = refl

-- a kind of error that is no help, and no out of memory
abbrev pub is_refusal : ErrorKind → Bool
is_refusal kind.DisplayHelp = false
is_refusal kind.OutOfMemory = false
is_refusal _ = true

abbrev pub are_refusals : Kinds → Bool
are_refusals [] = false
are_refusals (k ∷ ks) = list_all is_refusal (k ∷ ks)

-- how a parse ends, and what the words asked for
pub data Ends (kinds : Kinds) (found : Option (Text × List Row)) (a : AskedCommand) : Type 0 where
  read : kinds ≡ [] → asked_of found ≡ a → Ends kinds found a
  helped : kinds ≡ kind.DisplayHelp ∷ [] → a ≡ help → Ends kinds found a
  refused : are_refusals kinds ≡ true → a ≡ bad_line → Ends kinds found a

-- ---- down to a command

or_else-nil : (ks : Kinds) → or_else ks [] ≡ ks
or_else-nil [] = refl
or_else-nil (k ∷ ks) = refl

-- a word that names a command leaves the words behind it to the command
module _ (b : App) (word name : Text) (s : Shape) (w : Walk) (bs : List Text)
    (met : walked b.top.rules (names_of b) (walk_from nothing_held) word ≡ record w { stopped = Some (name, []) })
    (found : find (λ t. answers_to name (label_of t)) b.subs ≡ Some s) where
  end_is : walk b.top.rules (names_of b) nothing_held (word ∷ bs) ≡ record w { stopped = Some (name, bs) }
  end_is = ap (λ (x : Walk). fold (walked b.top.rules (names_of b)) x bs) met ∙ sym (walk_stopped b.top.rules (names_of b) w name [] bs)

  entered_is : entered b (Some (name, bs)) ≡ Some (rows_at s bs)
  entered_is = ap (λ (o : Option Shape). Rattle.std.specs.Prelude.option_map (λ t. rows_at t bs) o) found

  below_is : entered_fault b (Some (name, bs)) ≡ level_fault s [] nothing_held bs false []
  below_is = ap (λ (o : Option Shape). Rattle.std.specs.Option.option_map_or (λ t. level_fault t [] nothing_held bs false []) o []) found

  pub enters : entered b (stop_after b.top.rules (names_of b) (word ∷ bs)) ≡ Some (rows_at s bs)
  enters = ap (λ (x : Walk). entered b x.stopped) end_is ∙ entered_is

  abbrev fault_at : Walk → Kinds
  fault_at e = or_else (walk_fault b.top (names_of b) (walk_from nothing_held) (word ∷ bs))
      (or_else (entered_fault b e.stopped)
      (or_else (settle_fault b.top.rules b.top.args_override_self e.held)
      (or_else (defaults_fault (settled b.top.rules e.held).rows b.top.rules)
      (check_fault b.top (finished b.top.rules e.held) (is_some (entered b e.stopped))))))

  walks : turn_fault b.top (names_of b) (walk_from nothing_held) word ≡ []
      → walk_fault b.top (names_of b) (walk_from nothing_held) (word ∷ bs) ≡ []
  unfolding walk_fault
  walks passed = ap (λ (k : Kinds). or_else k (walk_fault b.top (names_of b) (walked b.top.rules (names_of b) (walk_from nothing_held) word) bs)) passed
      ∙ ap (λ (x : Walk). walk_fault b.top (names_of b) x bs) met ∙ stopped_fault b.top (names_of b) w (name, []) bs

  pub faults : turn_fault b.top (names_of b) (walk_from nothing_held) word ≡ []
      → settle_fault b.top.rules b.top.args_override_self w.held ≡ []
      → defaults_fault (settled b.top.rules w.held).rows b.top.rules ≡ []
      → check_fault b.top (finished b.top.rules w.held) true ≡ []
      → built_fault b nothing_held (word ∷ bs) ≡ level_fault s [] nothing_held bs false []
  faults passed settles defaults checked =
      ap fault_at end_is
      ∙ ap (λ (k : Kinds). or_else k (or_else (entered_fault b (Some (name, bs)))
      (or_else (settle_fault b.top.rules b.top.args_override_self w.held)
      (or_else (defaults_fault (settled b.top.rules w.held).rows b.top.rules)
      (check_fault b.top (finished b.top.rules w.held) (is_some (entered b (Some (name, bs))))))))) (walks passed)
      ∙ ap (λ (o : Option (Text × List Row)). or_else (entered_fault b (Some (name, bs)))
      (or_else (settle_fault b.top.rules b.top.args_override_self w.held)
      (or_else (defaults_fault (settled b.top.rules w.held).rows b.top.rules)
      (check_fault b.top (finished b.top.rules w.held) (is_some o))))) entered_is
      ∙ ap (λ (k : Kinds). or_else (entered_fault b (Some (name, bs))) k) (rw (settles, defaults, checked) refl)
      ∙ or_else-nil (entered_fault b (Some (name, bs)))
      ∙ below_is

-- ---- the commands of the program

-- a command of the program as it is built
abbrev pub leaf : Command → Shape
leaf c = unwrap_or (find (λ s. answers_to (command_name c) (label_of s)) (built program).subs) help_shape

-- the faults of the words behind a command
abbrev pub below : Command → List Text → Kinds
below c bs = level_fault (leaf c) [] nothing_held bs false []

abbrev pub found : Command → List Text → Option (Text × List Row)
found c bs = Some (command_name c, rows_after (leaf c).rules [] bs)

-- the walk that meets a command
abbrev entering : Walk
entering = walk_from nothing_held

record AtCommand (c : Command) (n : Text) (bs : List Text) : Type 0 where
  pub fault : fault_of program (n ∷ command_name c ∷ bs) ≡ below c bs
  pub found : subcommand_of program (n ∷ command_name c ∷ bs) ≡ found c bs

at_command : (c : Command) (n : Text) (bs : List Text) → AtCommand c n bs
unfolding clap_on_literals
at_command compile n bs = record { fault = faults (built program) (command_name compile) (command_name compile) (leaf compile) entering bs refl refl refl refl refl refl; found = enters (built program) (command_name compile) (command_name compile) (leaf compile) entering bs refl refl }
at_command lint n bs = record { fault = faults (built program) (command_name lint) (command_name lint) (leaf lint) entering bs refl refl refl refl refl refl; found = enters (built program) (command_name lint) (command_name lint) (leaf lint) entering bs refl refl }
at_command rename n bs = record { fault = faults (built program) (command_name rename) (command_name rename) (leaf rename) entering bs refl refl refl refl refl refl; found = enters (built program) (command_name rename) (command_name rename) (leaf rename) entering bs refl refl }
at_command delete_field n bs = record { fault = faults (built program) (command_name delete_field) (command_name delete_field) (leaf delete_field) entering bs refl refl refl refl refl refl; found = enters (built program) (command_name delete_field) (command_name delete_field) (leaf delete_field) entering bs refl refl }
at_command add_import n bs = record { fault = faults (built program) (command_name add_import) (command_name add_import) (leaf add_import) entering bs refl refl refl refl refl refl; found = enters (built program) (command_name add_import) (command_name add_import) (leaf add_import) entering bs refl refl }
at_command drop_import n bs = record { fault = faults (built program) (command_name drop_import) (command_name drop_import) (leaf drop_import) entering bs refl refl refl refl refl refl; found = enters (built program) (command_name drop_import) (command_name drop_import) (leaf drop_import) entering bs refl refl }
at_command undo n bs = record { fault = faults (built program) (command_name undo) (command_name undo) (leaf undo) entering bs refl refl refl refl refl refl; found = enters (built program) (command_name undo) (command_name undo) (leaf undo) entering bs refl refl }
at_command log n bs = record { fault = faults (built program) (command_name log) (command_name log) (leaf log) entering bs refl refl refl refl refl refl; found = enters (built program) (command_name log) (command_name log) (leaf log) entering bs refl refl }
at_command recover n bs = record { fault = faults (built program) (command_name recover) (command_name recover) (leaf recover) entering bs refl refl refl refl refl refl; found = enters (built program) (command_name recover) (command_name recover) (leaf recover) entering bs refl refl }
at_command migrate n bs = record { fault = faults (built program) (command_name migrate) (command_name migrate) (leaf migrate) entering bs refl refl refl refl refl refl; found = enters (built program) (command_name migrate) (command_name migrate) (leaf migrate) entering bs refl refl }

-- ---- the words behind a command

missing : (c : Command) → below c [] ≡ kind.MissingRequiredArgument ∷ []
unfolding clap_on_literals
missing compile = refl
missing lint = refl
missing rename = refl
missing delete_field = refl
missing add_import = refl
missing drop_import = refl
missing undo = refl
missing log = refl
missing recover = refl
missing migrate = refl

short_help : (c : Command) (ts : List Text) → below c (codes "-h" ∷ ts) ≡ kind.DisplayHelp ∷ []
unfolding clap_on_literals
short_help compile ts = refl
short_help lint ts = refl
short_help rename ts = refl
short_help delete_field ts = refl
short_help add_import ts = refl
short_help drop_import ts = refl
short_help undo ts = refl
short_help log ts = refl
short_help recover ts = refl
short_help migrate ts = refl

long_help : (c : Command) (ts : List Text) → below c (codes "--help" ∷ ts) ≡ kind.DisplayHelp ∷ []
unfolding clap_on_literals
long_help compile ts = refl
long_help lint ts = refl
long_help rename ts = refl
long_help delete_field ts = refl
long_help add_import ts = refl
long_help drop_import ts = refl
long_help undo ts = refl
long_help log ts = refl
long_help recover ts = refl
long_help migrate ts = refl

-- how the texts behind a command end
abbrev Texts : Command → List Text → Type 0
Texts c ts = Ends (below c (codes "--" ∷ ts)) (found c (codes "--" ∷ ts)) (taken c ts)

root_alone : (t : Text) (ts : List Text) → Texts compile (t ∷ ts)
unfolding clap_on_literals
root_alone t [] = read refl refl
root_alone t (u ∷ us) = refused refl refl

undo_texts : (t : Text) (ts : List Text) → Texts undo (t ∷ ts)
unfolding clap_on_literals
undo_texts t [] = read refl refl
undo_texts t (u ∷ us) = refused refl refl

log_texts : (t : Text) (ts : List Text) → Texts log (t ∷ ts)
unfolding clap_on_literals
log_texts t [] = read refl refl
log_texts t (u ∷ us) = refused refl refl

recover_texts : (t : Text) (ts : List Text) → Texts recover (t ∷ ts)
unfolding clap_on_literals
recover_texts t [] = read refl refl
recover_texts t (u ∷ us) = refused refl refl

migrate_texts : (t : Text) (ts : List Text) → Texts migrate (t ∷ ts)
unfolding clap_on_literals
migrate_texts t [] = read refl refl
migrate_texts t (u ∷ us) = refused refl refl

delete_texts : (t : Text) (ts : List Text) → Texts delete_field (t ∷ ts)
unfolding clap_on_literals
delete_texts t [] = refused refl refl
delete_texts t (u ∷ []) = read refl refl
delete_texts t (u ∷ v ∷ us) = refused refl refl

rename_texts : (t : Text) (ts : List Text) → Texts rename (t ∷ ts)
unfolding clap_on_literals
rename_texts t [] = refused refl refl
rename_texts t (u ∷ []) = refused refl refl
rename_texts t (u ∷ v ∷ []) = read refl refl
rename_texts t (u ∷ v ∷ w ∷ us) = refused refl refl

add_texts : (t : Text) (ts : List Text) → Texts add_import (t ∷ ts)
unfolding clap_on_literals
add_texts t [] = refused refl refl
add_texts t (u ∷ []) = refused refl refl
add_texts t (u ∷ v ∷ []) = read refl refl
add_texts t (u ∷ v ∷ w ∷ us) = refused refl refl

drop_texts : (t : Text) (ts : List Text) → Texts drop_import (t ∷ ts)
unfolding clap_on_literals
drop_texts t [] = refused refl refl
drop_texts t (u ∷ []) = refused refl refl
drop_texts t (u ∷ v ∷ []) = read refl refl
drop_texts t (u ∷ v ∷ w ∷ us) = refused refl refl

-- ---- lint, with any number of rules

abbrev lint_rules : List Rule
lint_rules = (leaf lint).rules

-- the walk behind the root t and the identifiers xs
abbrev listing : Text → List Text → Walk
listing t xs = record {
  held = record {
    rows = (settled lint_rules (record nothing_held { pending = Some (codes "ROOT", t ∷ []) })).rows;
    pending = Some (codes "RULE", xs);
    skip = 0;
  };
  waiting = positional;
  position = 2;
  is_trailing = true;
  stopped = None;
}

listed : (t : Text) (xs ys : List Text) → fold (walked lint_rules []) (listing t xs) ys ≡ listing t (xs ++ ys)
unfolding clap_on_literals
listed t xs [] = ap (listing t) (sym (append-nil xs))
listed t xs (y ∷ ys) = listed t (xs ++ y ∷ []) ys ∙ ap (listing t) (append_assoc xs (y ∷ []) ys)

listing_fault : (t : Text) (xs ys : List Text) → walk_fault (leaf lint) [] (listing t xs) ys ≡ []
unfolding clap_on_literals
listing_fault t xs [] = refl
listing_fault t xs (y ∷ ys) = listing_fault t (xs ++ y ∷ []) ys

texts_pass : (vs : List Text) → values_kinds false vp.String vs ≡ []
texts_pass [] = refl
texts_pass (v ∷ vs) = texts_pass vs

range_fits : (n : ℕ) → n ≤ usize_max → range_kinds 0 usize_max n ≡ []
range_fits n h = rw (le-ltb n 0 (omega arith), le-ltb usize_max n h) refl

abbrev lint_ends : Text → Text → List Text → Walk → Kinds
lint_ends t y ys e = or_else (walk_fault (leaf lint) [] (listing t (y ∷ [])) ys)
    (or_else (settle_fault lint_rules false e.held)
    (or_else (defaults_fault (settled lint_rules e.held).rows lint_rules)
    (check_fault (leaf lint) (finished lint_rules e.held) false)))

lint_settles : (t y : Text) (ys : List Text) → length (y ∷ ys) ≤ usize_max → settle_fault lint_rules false (listing t (y ∷ ys)).held ≡ []
lint_settles t y ys few =
    ap (λ (k : Kinds). or_else k (values_kinds false vp.String (y ∷ ys))) (range_fits (length (y ∷ ys)) few) ∙ texts_pass (y ∷ ys)

lint_passes : (t y : Text) (ys : List Text) → length (y ∷ ys) ≤ usize_max → below lint (codes "--" ∷ t ∷ y ∷ ys) ≡ []
unfolding clap_on_literals
lint_passes t y ys few =
    ap (lint_ends t y ys) (listed t (y ∷ []) ys)
    ∙ ap (λ (k : Kinds). or_else k (or_else (settle_fault lint_rules false (listing t (y ∷ ys)).held) [])) (listing_fault t (y ∷ []) ys)
    ∙ ap (λ (k : Kinds). or_else k []) (lint_settles t y ys few)

lint_reads : (t y : Text) (ys : List Text) → asked_of (found lint (codes "--" ∷ t ∷ y ∷ ys)) ≡ taken lint (t ∷ y ∷ ys)
unfolding clap_on_literals
lint_reads t y ys = ap (λ (e : Walk). asked_of (Some (command_name lint, finished lint_rules e.held))) (listed t (y ∷ []) ys)

lint_texts : (t : Text) (ts : List Text) → length ts ≤ usize_max → Texts lint (t ∷ ts)
unfolding clap_on_literals
lint_texts t [] few = read refl refl
lint_texts t (y ∷ ys) few = read (lint_passes t y ys few) (lint_reads t y ys)

texts : (c : Command) (t : Text) (ts : List Text) → length ts ≤ usize_max → Texts c (t ∷ ts)
texts compile t ts few = root_alone t ts
texts lint t ts few = lint_texts t ts few
texts rename t ts few = rename_texts t ts
texts delete_field t ts few = delete_texts t ts
texts add_import t ts few = add_texts t ts
texts drop_import t ts few = drop_texts t ts
texts undo t ts few = undo_texts t ts
texts log t ts few = log_texts t ts
texts recover t ts few = recover_texts t ts
texts migrate t ts few = migrate_texts t ts

-- ---- the words behind a command

-- the words behind a command, as `words_marked` leaves them
abbrev marked_behind : List Text → List Text
marked_behind [] = []
marked_behind (word ∷ words) = marked_first word ++ words

marked_is : (n w : Text) (ts : List Text) → words_marked (n ∷ w ∷ ts) ≡ n ∷ w ∷ marked_behind ts
marked_is n w [] = refl
marked_is n w (t ∷ ts) = refl

ends_as : (k l : Kinds) (f g : Option (Text × List Row)) (a b : AskedCommand) → k ≡ l → f ≡ g → a ≡ b → Ends l g b → Ends k f a
ends_as k l f g a b e1 e2 e3 (read x y) = read (e1 ∙ x) (ap asked_of e2 ∙ y ∙ sym e3)
ends_as k l f g a b e1 e2 e3 (helped x y) = helped (e1 ∙ x) (e3 ∙ y)
ends_as k l f g a b e1 e2 e3 (refused x y) = refused (ap are_refusals e1 ∙ x) (e3 ∙ y)

abbrev pub EndsAt : List Text → AskedCommand → Type 0
EndsAt ws a = Ends (fault_of program ws) (subcommand_of program ws) a

-- where the words are, and what they ask for, is as
ends_at : (vs ws : List Text) (a b : AskedCommand) → vs ≡ ws → a ≡ b → EndsAt ws b → EndsAt vs a
ends_at vs ws a b e1 e2 h = ends_as _ _ _ _ a b (ap (fault_of program) e1) (ap (subcommand_of program) e1) e2 h

at : (c : Command) (n : Text) (bs : List Text) (a : AskedCommand) → Ends (below c bs) (found c bs) a → EndsAt (n ∷ command_name c ∷ bs) a
at c n bs a h = let met = at_command c n bs in ends_as _ _ _ _ a a met.fault met.found refl h

none_taken : (c : Command) → taken c [] ≡ bad_line
none_taken compile = refl
none_taken lint = refl
none_taken rename = refl
none_taken delete_field = refl
none_taken add_import = refl
none_taken drop_import = refl
none_taken undo = refl
none_taken log = refl
none_taken recover = refl
none_taken migrate = refl

either : (a b : Bool) → (a || b) ≡ true → (a ≡ true) ⊎ (b ≡ true)
either true b e = inl refl
either false b e = inr e

help_words : (w : Text) → asks_help w ≡ true → (w ≡ codes "-h") ⊎ (w ≡ codes "--help")
help_words w e = elim (either (bytes_eq w (codes "-h")) (bytes_eq w (codes "--help")) e) [
  | inl s ↦ inl ((bytes_eq-Decides w (codes "-h")).0 s)
  | inr l ↦ inr ((bytes_eq-Decides w (codes "--help")).0 l)
]

behind : (c : Command) (n : Text) (ts : List Text) → length ts ≤ usize_max → EndsAt (n ∷ command_name c ∷ marked_behind ts) (asked_by_command c ts)
behind c n [] few = at c n [] (taken c []) (refused (ap are_refusals (missing c)) (none_taken c))
behind c n (t ∷ ts) few = go (asks_help t) refl
  where
    go : (b : Bool) → asks_help t ≡ b → EndsAt (n ∷ command_name c ∷ (marked_first t ++ ts)) (asked_by_command c (t ∷ ts))
    go false e = ends_at _ (n ∷ command_name c ∷ codes "--" ∷ t ∷ ts) _ (taken c (t ∷ ts))
        (ap (λ b. n ∷ command_name c ∷ (cond b (t ∷ []) (codes "--" ∷ t ∷ []) ++ ts)) e)
        (ap (λ b. cond b help (taken c (t ∷ ts))) e)
        (at c n (codes "--" ∷ t ∷ ts) (taken c (t ∷ ts)) (texts c t ts (omega arith)))
    go true e = elim (help_words t e) [
      | inl s ↦ ends_at _ (n ∷ command_name c ∷ codes "-h" ∷ ts) _ help (ap (λ x. n ∷ command_name c ∷ (marked_first x ++ ts)) s) (ap (λ b. cond b help (taken c (t ∷ ts))) e)
          (at c n (codes "-h" ∷ ts) help (helped (short_help c ts) refl))
      | inr l ↦ ends_at _ (n ∷ command_name c ∷ codes "--help" ∷ ts) _ help (ap (λ x. n ∷ command_name c ∷ (marked_first x ++ ts)) l) (ap (λ b. cond b help (taken c (t ∷ ts))) e)
          (at c n (codes "--help" ∷ ts) help (helped (long_help c ts) refl))
    ]

-- ---- whole lines

asked_at : (c : Command) (ts : List Text) → asked_by_words (command_name c ∷ ts) ≡ asked_by_command c ts
asked_at compile ts = refl
asked_at lint ts = refl
asked_at rename ts = refl
asked_at delete_field ts = refl
asked_at add_import ts = refl
asked_at drop_import ts = refl
asked_at undo ts = refl
asked_at log ts = refl
asked_at recover ts = refl
asked_at migrate ts = refl

named : (cs : List Command) (w : Text) (c : Command) → find (λ x. bytes_eq (command_name x) w) cs ≡ Some c → bytes_eq (command_name c) w ≡ true
named [] w c e = cc
named (x ∷ cs) w c e = go (bytes_eq (command_name x) w) refl e (named cs w c)
  where
    go : (b : Bool) → bytes_eq (command_name x) w ≡ b → cond b (Some x) (find (λ y. bytes_eq (command_name y) w) cs) ≡ Some c
        → (find (λ y. bytes_eq (command_name y) w) cs ≡ Some c → bytes_eq (command_name c) w ≡ true) → bytes_eq (command_name c) w ≡ true
    go true t h rest = let same : x ≡ c = cc in subst (λ y. bytes_eq (command_name y) w ≡ true) same t
    go false t h rest = rest h

abbrev label : Command → Text × List Text
label c = (command_name c, [])

unnamed : (cs : List Command) (w : Text) → find (λ x. bytes_eq (command_name x) w) cs ≡ None → find (answers_to w) (map label cs) ≡ None
unnamed [] w e = refl
unnamed (x ∷ cs) w e = go (bytes_eq (command_name x) w) e (unnamed cs w)
  where
    go : (b : Bool) → cond b (Some x) (find (λ y. bytes_eq (command_name y) w) cs) ≡ None → (find (λ y. bytes_eq (command_name y) w) cs ≡ None → find (answers_to w) (map label cs) ≡ None)
        → cond (b || false) (Some (label x)) (find (answers_to w) (map label cs)) ≡ None
    go true h rest = cc
    go false h rest = rest h

fails_first : (s : Shape) (names : Names) (w : Text) (ws : List Text) (has : Bool) (ks : Kinds) (k : ErrorKind) (more : Kinds)
    → turn_fault s names (walk_from nothing_held) w ≡ k ∷ more → level_fault s names nothing_held (w ∷ ws) has ks ≡ k ∷ more
unfolding walk_fault
fails_first s names w ws has ks k more e = rw e refl

top_short : (n : Text) (ws : List Text) → fault_of program (n ∷ codes "-h" ∷ ws) ≡ kind.DisplayHelp ∷ []
unfolding clap_on_literals
top_short n ws = refl

top_long : (n : Text) (ws : List Text) → fault_of program (n ∷ codes "--help" ∷ ws) ≡ kind.DisplayHelp ∷ []
unfolding clap_on_literals
top_long n ws = refl

abbrev top : Shape
top = (built program).top

abbrev names : Names
names = names_of (built program)

-- a first word that names no command, and does not begin with `-`
stray_turn : (w : Text) → (slice_index w 0 == 45) ≡ false → find (answers_to w) names ≡ None
    → turn_fault top names (walk_from nothing_held) w ≡ kind.UnknownArgument ∷ kind.InvalidSubcommand ∷ []
stray_turn [] e none = refl
stray_turn (x ∷ xs) e none =
    let short : short_of (x ∷ xs) ≡ None = rw e refl in
    let long : long_of (x ∷ xs) ≡ None = rw e refl in
    rw (none, e, short) refl

stray : (n w : Text) (ws : List Text) → (slice_index w 0 == 45) ≡ false → command_named w ≡ None
    → fault_of program (n ∷ w ∷ ws) ≡ kind.UnknownArgument ∷ kind.InvalidSubcommand ∷ []
stray n w ws e none = fails_first top names w ws _ _ _ _ (stray_turn w e (unnamed commands w none))

right : (a b : Bool) → (a && not b) ≡ false → b ≡ false → a ≡ false
right true b e f = cc
right false b e f = refl

whole : (n w : Text) (ts : List Text) → length ts ≤ usize_max → is_dashed w ≡ false → EndsAt (words_marked (n ∷ w ∷ ts)) (asked_by_words (w ∷ ts))
whole n w ts few plain = go (asks_help w) refl
  where
    first_is : (v : Text) → w ≡ v → words_marked (n ∷ w ∷ ts) ≡ n ∷ v ∷ marked_behind ts
    first_is v e = marked_is n w ts ∙ ap (λ x. n ∷ x ∷ marked_behind ts) e

    by_command : (o : Option Command) → command_named w ≡ o → asks_help w ≡ false → EndsAt (words_marked (n ∷ w ∷ ts)) (asked_by_words (w ∷ ts))
    by_command None none e =
        let kinds = ap (fault_of program) (marked_is n w ts) ∙ stray n w (marked_behind ts) (right _ _ plain e) none in
        refused (ap are_refusals kinds) (rw (e, none) refl)
    by_command (Some c) is e =
        let same : w ≡ command_name c = sym ((bytes_eq-Decides (command_name c) w).0 (named commands w c is)) in
        ends_at _ (n ∷ command_name c ∷ marked_behind ts) _ (asked_by_command c ts) (first_is (command_name c) same) (ap (λ x. asked_by_words (x ∷ ts)) same ∙ asked_at c ts) (behind c n ts few)

    go : (b : Bool) → asks_help w ≡ b → EndsAt (words_marked (n ∷ w ∷ ts)) (asked_by_words (w ∷ ts))
    go false e = by_command (command_named w) refl e
    go true e = elim (help_words w e) [
      | inl s ↦ helped (ap (fault_of program) (first_is (codes "-h") s) ∙ top_short n (marked_behind ts)) (rw e refl)
      | inr l ↦ helped (ap (fault_of program) (first_is (codes "--help") l) ∙ top_long n (marked_behind ts)) (rw e refl)
    ]

-- each line but one whose first word begins with `-` and asks for no help
pub line : (ws : List Text) → length ws ≤ usize_max → begins_dashed ws ≡ false → EndsAt (words_marked ws) (asked_by_words (drop 1 ws))
unfolding clap_on_literals
line [] few plain = refused refl refl
line (n ∷ []) few plain = refused refl refl
line (n ∷ w ∷ ts) few plain = whole n w ts (omega arith) plain

pub dashed : (ws : List Text) → begins_dashed ws ≡ true → asked_by_words (drop 1 ws) ≡ bad_line
dashed [] e = cc
dashed (n ∷ []) e = cc
dashed (n ∷ [] ∷ ts) e = cc
dashed (n ∷ (x ∷ xs) ∷ ts) e =
    let is : (x == 45) ≡ true = (both (x == 45) _ e).0 in
    let none : asks_help (x ∷ xs) ≡ false = is_false _ (both (x == 45) _ e).1 in
    let same : x ≡ 45 = eqb-true x 45 is in
    let named_none : command_named (x ∷ xs) ≡ None = subst (λ y. command_named (y ∷ xs) ≡ None) (sym same) refl in
    rw (none, named_none) refl
