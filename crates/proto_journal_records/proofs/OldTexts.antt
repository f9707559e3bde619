-- What is read of a store before anything is put back: the listed paths, and the texts of changed files.
use Rattle.std.proofs.Common.{arith, ◌≡◌, ℕ, ◌+◌, ◌≤◌, ◌<◌, ◌||◌, get_or, append-nil, append_assoc, Bool, true, false, List, [], ◌∷◌, ◌++◌, length, map, take, Option, Some, None, refl, sym, ap, ◌∙◌, subst, if◌then◌else◌, is_some, option_map, String, Global, Contains, bytes_eq}
use Rattle.proto_base.proofs.Common.{Vec, list_any, get_or-map, length-map, map-append, map_more, list_any-append, list_any-IsPermutation, bytes_eq-Decides, text_limit, any_map, contains_map}
use Rattle.proto_text.proofs.Common.{Puts, puts_length}
use Rattle.proto_files.specs.GivenFiles.{FileOf, file_of, files_of, paths_of}
use Rattle.proto_edit_entries.specs.declared.entry.Change.{Change}
use Rattle.proto_edit_entries.specs.declared.refusal.Refusal.TheVariants as refusal
use Rattle.proto_edit_entries.proofs.Common.{ChangeOf, IsChange, IsEntry, change_of, inverted, turned_round, IsChangedText, IsEven, measured_is_even}
use Rattle.proto_journal_records.specs.Common.{JournalFault, CountsFault, Over, AddsOldFiles, AreOldFiles, IsAskedFor, IsNeither, IsOldFile, IsStaleOnly, IsAsAfter, IsAsBefore, IsEitherWay}
use Rattle.proto_journal_records.specs.declared.fault.JournalFault.TheVariants as fault
use Rattle.proto_store.specs.Stores.{Held, IsListed, ListsPaths, bytes_at}
use Rattle.proto_journal_records.proofs.OldFiles.{goes_more, stays_more}
use Rattle.proto_journal_records.proofs.TornStores.{change_in, even_turned}

-- ---- the paths that are asked for

has_already : (here there : Bool) → (there ≡ true → here ≡ true) → here ≡ (here || (there || false))
has_already true there h = refl
has_already false true h = h refl
has_already false false h = refl

one_key : {A : Type 0} (name : A → List ℕ) (keys : List A) (key : A) (path : List ℕ) (known : Bool) → known ≡ list_any (λ k. bytes_eq (name key) (name k)) keys
    → list_any (bytes_eq path) (map name (if known then keys else keys ++ key ∷ [])) ≡ (list_any (bytes_eq path) (map name keys) || (bytes_eq path (name key) || false))
one_key name keys key path true e = has_already (list_any (bytes_eq path) (map name keys)) (bytes_eq path (name key)) there
  where
    there : bytes_eq path (name key) ≡ true → list_any (bytes_eq path) (map name keys) ≡ true
    there same = ap (λ (p : List ℕ). list_any (bytes_eq p) (map name keys)) ((bytes_eq-Decides path (name key)).0 same) ∙ any_map (bytes_eq (name key)) name keys ∙ sym e
one_key name keys key path false e = ap (list_any (bytes_eq path)) (map-append name keys (key ∷ [])) ∙ list_any-append (bytes_eq path) (map name keys) (name key ∷ [])

-- a set with one more path has the paths that the list with it has
pub asked_more : {A : Type 0} (name : A → List ℕ) (keys after : List A) (paths : List (List ℕ)) (key : A) (path : List ℕ)
    → after ≡ (if list_any (λ k. bytes_eq (name key) (name k)) keys then keys else keys ++ key ∷ [])
    → list_any (bytes_eq path) (map name keys) ≡ list_any (bytes_eq path) paths → list_any (bytes_eq path) (map name after) ≡ list_any (bytes_eq path) (paths ++ name key ∷ [])
asked_more name keys after paths key path e so_far =
    ap (λ (ks : List _). list_any (bytes_eq path) (map name ks)) e ∙ one_key name keys key path (list_any (λ k. bytes_eq (name key) (name k)) keys) refl
    ∙ ap (λ (b : Bool). b || (bytes_eq path (name key) || false)) so_far ∙ sym (list_any-append (bytes_eq path) paths (name key ∷ []))

of_files : (files : List FileOf) → IsAskedFor (paths_of files) files
of_files [] path = refl
of_files (f ∷ fs) path = go (bytes_eq path f.path) (of_files fs path)
  where
    go : (b : Bool) → list_any (bytes_eq path) (paths_of fs) ≡ is_some (bytes_at path fs) → (b || list_any (bytes_eq path) (paths_of fs)) ≡ is_some (if b then Some f.bytes else bytes_at path fs)
    go true rest = refl
    go false rest = rest

-- what a store lists can be asked for
pub asked_for : (held : Option Held) (paths known : List (List ℕ)) → ListsPaths held paths → ((path : List ℕ) → list_any (bytes_eq path) known ≡ list_any (bytes_eq path) paths)
    → Over held (λ h. IsAskedFor known h.files)
asked_for None paths known l same = tt
asked_for (Some h) paths known l same = λ path. same path ∙ list_any-IsPermutation (bytes_eq path) paths (paths_of h.files) l.1 ∙ of_files h.files path

pub is_listed : (held : Option Held) (known : List (List ℕ)) (path : List ℕ) → Over held (λ h. IsAskedFor known h.files) → list_any (bytes_eq path) known ≡ true → IsListed held path
is_listed None known path asked e = tt
is_listed (Some h) known path asked e = sym (asked path) ∙ e

-- ---- texts

differ : {P : Type 0} → false ≡ true → P
differ e = cc

short_put : (c : ChangeOf) (text new : List ℕ) → IsEven c → c.after ≤ text_limit → length text ≡ c.before → Puts 0 text c.splices new → length new ≤ text_limit
short_put c text new even fits len puts = let size = puts_length 0 text new c.splices puts in omega (arith, size, even, fits, len)

not_as_before : (c : ChangeOf) (text : List ℕ) → IsEven c → c.after ≤ text_limit → IsChangedText text c None → IsAsBefore c text → ⊥
not_as_before c text even fits none is = none is.new (record { before = is.len; puts = is.puts; short = short_put c text is.new even fits is.len is.puts })

pub neither_text : (c back : ChangeOf) (text : List ℕ) (found : Option (Vec ℕ)) → IsChange c → back ≡ turned_round c → IsChangedText text c found → is_some found ≡ false → IsChangedText text back None
    → (IsAsBefore c text → ⊥) × (IsAsAfter c text → ⊥)
neither_text c back text (Some new) is e first none last = differ (sym none)
neither_text c back text None is e first none last = (
  not_as_before c text (measured_is_even c is) is.measured.after_fits first,
  not_as_before (turned_round c) text (even_turned c (measured_is_even c is)) is.measured.before_fits (subst (λ (z : ChangeOf). IsChangedText text z None) e last),
)

-- ---- the file of a change

pub not_there : (held : Option Held) (known : List (List ℕ)) (c : ChangeOf) → Over held (λ h. IsAskedFor known h.files) → list_any (bytes_eq c.path) known ≡ false
    → Over held (λ h. IsEitherWay h.files c → ⊥)
not_there None known c asked e = tt
not_there (Some h) known c asked e = λ is. differ (sym e ∙ asked c.path ∙ ap is_some is.there)

pub counts_neither : (c : ChangeOf) (text : List ℕ) (before after : ℕ) (f : JournalFault) → after ≡ before → IsNeither c text f → CountsFault before after f
counts_neither c text before after fault.Store same n = absurd n
counts_neither c text before after f same n = same

-- ---- the changes of an entry, one after the other

pub among : (entry : List ChangeOf) (changes : List Change) (i : ℕ) (x : Change) → map change_of changes ≡ entry → i < length changes → x ≡ get_or changes i x → Contains entry (change_of x)
among entry changes i x e lt here = subst (λ (cs : List ChangeOf). Contains cs (change_of x)) e (contains_map change_of changes x (i, lt, sym here))

pub change_at : (entry : List ChangeOf) (changes : List Change) (i : ℕ) (x : Change) → IsEntry entry → map change_of changes ≡ entry → i < length changes → x ≡ get_or changes i x → IsChange (change_of x)
change_at entry changes i x is e lt here = change_in entry is (change_of x) (among entry changes i x e lt here)

pub back_at : (changes backs : List Change) (i : ℕ) (x y : Change) → map change_of backs ≡ inverted (map change_of changes) → i < length changes → x ≡ get_or changes i x → y ≡ get_or backs i y
    → change_of y ≡ turned_round (change_of x)
back_at changes backs i x y e lt is there =
    let count : length backs ≡ length changes =
    sym (length-map backs change_of) ∙ ap length e ∙ length-map (map change_of changes) turned_round ∙ length-map changes change_of in
    let inside : i < length backs = omega (arith, count, lt) in
    let within : i < length (map change_of changes) = omega (arith, length-map changes change_of, lt) in
    ap change_of there ∙ sym (get_or-map change_of backs i y (change_of x) inside) ∙ ap (λ (cs : List ChangeOf). get_or cs i (change_of x)) e
    ∙ get_or-map turned_round (map change_of changes) i (change_of x) (change_of x) within
    ∙ ap turned_round (get_or-map change_of changes i x (change_of x) lt ∙ ap change_of (sym is))

-- what is put in place of a file, as a list
abbrev pub listed : Option FileOf → List FileOf
listed None = []
listed (Some f) = f ∷ []

pub with_some : (files new : List (String Global × Vec ℕ)) (found : Option (String Global × Vec ℕ)) (file : String Global × Vec ℕ) → found ≡ Some file → new ≡ files ++ file ∷ []
    → files_of new ≡ files_of files ++ listed (option_map file_of found)
with_some files new found file e n =
    ap files_of n ∙ map-append file_of files (file ∷ []) ∙ ap (λ (o : Option (String Global × Vec ℕ)). files_of files ++ listed (option_map file_of o)) (sym e)

pub with_none : (files new : List (String Global × Vec ℕ)) (found : Option (String Global × Vec ℕ)) → found ≡ None → new ≡ files → files_of new ≡ files_of files ++ listed (option_map file_of found)
with_none files new found e n =
    ap files_of n ∙ sym (append-nil (files_of files)) ∙ ap (λ (o : Option (String Global × Vec ℕ)). files_of files ++ listed (option_map file_of o)) (sym e)

pub stale_in : (held mid : Option Held) (entry : List ChangeOf) (c : ChangeOf) (f : JournalFault) → mid ≡ held → Contains entry c → IsStaleOnly (Over mid (λ h. IsEitherWay h.files c → ⊥)) f
    → IsStaleOnly (Over held (λ h. (d : ChangeOf) × Contains entry d × (IsEitherWay h.files d → ⊥))) f
stale_in held mid entry c fault.BadJournal same k s = absurd s
stale_in held mid entry c fault.NothingToUndo same k s = absurd s
stale_in held mid entry c fault.OpenEntry same k s = absurd s
stale_in held mid entry c fault.Store same k s = tt
stale_in held mid entry c fault.JournalFull same k s = absurd s
stale_in held mid entry c fault.NoMemory same k s = tt
stale_in held mid entry c (fault.Refused refusal.Stale) same k s = over held (subst (λ (z : Option Held). Over z (λ h. IsEitherWay h.files c → ⊥)) same s)
  where
    over : (z : Option Held) → Over z (λ h. IsEitherWay h.files c → ⊥) → Over z (λ h. (d : ChangeOf) × Contains entry d × (IsEitherWay h.files d → ⊥))
    over None n = tt
    over (Some h) n = (c, k, n)
stale_in held mid entry c (fault.Refused r) same k s = absurd s

-- no call of the store failed before
pub counts_from : (held : Option Held) (c : ChangeOf) (before mid after : ℕ) (f : JournalFault) → mid ≡ before → IsStaleOnly (Over held (λ h. IsEitherWay h.files c → ⊥)) f → CountsFault mid after f
    → CountsFault before after f
counts_from held c before mid after f same is counts = subst (λ (n : ℕ). CountsFault n after f) same counts

-- one change more
pub next_old : (held mid : Option Held) (changes : List Change) (i : ℕ) (x : Change) (olds : List FileOf) (found : Option FileOf) → mid ≡ held → i < length changes → x ≡ get_or changes i x
    → Over held (λ h. AreOldFiles (map change_of (take i changes)) h.files olds) → Over mid (λ h. IsOldFile (change_of x) h.files found)
    → Over held (λ h. AreOldFiles (map change_of (take (i + 1) changes)) h.files (olds ++ listed found))
next_old held mid changes i x olds found same lt here so_far old =
    subst (λ (cs : List ChangeOf). Over held (λ h. AreOldFiles cs h.files (olds ++ listed found))) (sym more) (go held found so_far (subst (λ (z : Option Held). Over z (λ h. IsOldFile (change_of x) h.files found)) same old))
  where
    more : map change_of (take (i + 1) changes) ≡ map change_of (take i changes) ++ change_of x ∷ []
    more = map_more change_of changes i x lt ∙ ap (λ (z : Change). map change_of (take i changes) ++ change_of z ∷ []) (sym here)

    go : (z : Option Held) (f : Option FileOf) → Over z (λ h. AreOldFiles (map change_of (take i changes)) h.files olds) → Over z (λ h. IsOldFile (change_of x) h.files f)
        → Over z (λ h. AreOldFiles (map change_of (take i changes) ++ change_of x ∷ []) h.files (olds ++ listed f))
    go None f a b = tt
    go (Some h) None a b = subst (λ (l : List FileOf). AreOldFiles (map change_of (take i changes) ++ change_of x ∷ []) h.files l) (sym (append-nil olds)) (stays_more (map change_of (take i changes)) h.files olds (change_of x) a b)
    go (Some h) (Some f) a b = goes_more (map change_of (take i changes)) h.files olds (change_of x) f a b

pub none_added : (held : Option Held) (files : List FileOf) → AddsOldFiles [] held files files
none_added None files = ([], sym (append-nil files), tt)
none_added (Some h) files = ([], sym (append-nil files), refl)

-- the same where the files come behind others
pub next_added : (held mid : Option Held) (changes : List Change) (i : ℕ) (x : Change) (before now after : List FileOf) (found : Option FileOf) → mid ≡ held → i < length changes
    → x ≡ get_or changes i x → AddsOldFiles (map change_of (take i changes)) held before now → Over mid (λ h. IsOldFile (change_of x) h.files found) → after ≡ now ++ listed found
    → AddsOldFiles (map change_of (take (i + 1) changes)) held before after
next_added held mid changes i x before now after found same lt here (olds, is, so_far) old e = (
  olds ++ listed found,
  e ∙ ap (λ (fs : List FileOf). fs ++ listed found) is ∙ append_assoc before olds (listed found),
  next_old held mid changes i x olds found same lt here so_far old,
)

-- files that come behind none are all there are
pub added_to_none : (cs : List ChangeOf) (held : Option Held) (before files : List FileOf) → before ≡ [] → AddsOldFiles cs held before files → Over held (λ h. AreOldFiles cs h.files files)
added_to_none cs held before files none (olds, is, so_far) =
    subst (λ (fs : List FileOf). Over held (λ h. AreOldFiles cs h.files fs)) (sym (is ∙ ap (λ (fs : List FileOf). fs ++ olds) none)) so_far
