-- Rules by their identifiers.
use Rattle.std.proofs.Common.{◌≡◌, ◌≢◌, ◌↔◌, ◌∙◌, ℕ, zero, suc, ◌+◌, ◌<◌, Bool, true, false, ◌&&◌, ◌||◌, List, [], ◌∷◌, ◌++◌, take, length, slice_index_or, Some, None, Bor, refl, sym, ap, ap₂, subst, arith, bytes_eq}
use Rattle.proto_base.proofs.Common.{list_all, list_any, map-append, take_more, list_all-append, list_any-append, bytes_eq-Decides, Text}
use Rattle.clap.specs.Walk.{texts}
use Rattle.proto_lint_rules.specs.Rules.{identifier, is_chosen}
use Rattle.proto_lint_rules.specs.declared.rule.Rule.{Rule}
use Rattle.proto_lint_rules.specs.declared.rule.Rule.TheVariants as rule
use Rattle.protoref_arguments.specs.Common.{names_rule, rules, name_rule}

known_identifier : (r : Rule) → names_rule (identifier r) ≡ true
known_identifier rule.DirectorySamePackage = refl
known_identifier rule.EnumFirstValueZero = refl
known_identifier rule.EnumNoAllowAlias = refl
known_identifier rule.EnumPascalCase = refl
known_identifier rule.EnumValuePrefix = refl
known_identifier rule.EnumValueUpperSnakeCase = refl
known_identifier rule.EnumZeroValueSuffix = refl
known_identifier rule.FieldLowerSnakeCase = refl
known_identifier rule.FileLowerSnakeCase = refl
known_identifier rule.ImportNoPublic = refl
known_identifier rule.ImportUsed = refl
known_identifier rule.MessagePascalCase = refl
known_identifier rule.OneofLowerSnakeCase = refl
known_identifier rule.PackageDefined = refl
known_identifier rule.PackageDirectoryMatch = refl
known_identifier rule.PackageLowerSnakeCase = refl
known_identifier rule.PackageSameDirectory = refl
known_identifier rule.PackageVersionSuffix = refl
known_identifier rule.RpcNoClientStreaming = refl
known_identifier rule.RpcNoServerStreaming = refl
known_identifier rule.RpcPascalCase = refl
known_identifier rule.RpcRequestResponseUnique = refl
known_identifier rule.RpcRequestStandardName = refl
known_identifier rule.RpcResponseStandardName = refl
known_identifier rule.ServicePascalCase = refl
known_identifier rule.ServiceSuffix = refl
known_identifier rule.SyntaxSpecified = refl

unknown_among : (name : Text) → ((r : Rule) → name ≡ identifier r → ⊥) → (rs : List Rule) → list_any (λ r. bytes_eq name (identifier r)) rs ≡ false
unknown_among name none [] = refl
unknown_among name none (r ∷ rs) = go (bytes_eq name (identifier r)) refl (unknown_among name none rs)
  where
    go : (b : Bool) → bytes_eq name (identifier r) ≡ b → list_any (λ s. bytes_eq name (identifier s)) rs ≡ false → (b || list_any (λ s. bytes_eq name (identifier s)) rs) ≡ false
    go true e rest = absurd (none r ((bytes_eq-Decides name (identifier r)).0 e))
    go false e rest = rest

fails_at : (p : Text → Bool) (xs : List Text) (i : ℕ) (d : Text) → i < length xs → p (slice_index_or xs i d) ≡ false → list_all p xs ≡ false
fails_at p [] i d lt e = absurd (omega arith)
fails_at p (x ∷ xs) zero d lt e = rw e refl
fails_at p (x ∷ xs) (suc i) d lt e = rw (fails_at p xs i d (omega arith) e) (go (p x))
  where
    go : (b : Bool) → (b && false) ≡ false
    go true = refl
    go false = refl

mapped : (ts : List (Bor Text)) (i : ℕ) (d : Bor Text) → i < length ts → slice_index_or (texts ts) i d.now ≡ (slice_index_or ts i d).now
mapped [] i d lt = absurd (omega arith)
mapped (t ∷ ts) zero d lt = refl
mapped (t ∷ ts) (suc i) d lt = mapped ts i d (omega arith)

count : (ts : List (Bor Text)) → length (texts ts) ≡ length ts
count [] = refl
count (t ∷ ts) = ap suc (count ts)

abbrev IsFound : Text → Rule → Type 0
IsFound name r = (s : Rule) → (Some r ≡ Some s) ↔ (name ≡ identifier s)

abbrev IsUnknown : Text → Type 0
IsUnknown name = (s : Rule) → (None ≡ Some s) ↔ (name ≡ identifier s)

pub unknown : (ts : List (Bor Text)) (i : ℕ) (d : Bor Text) → i < length ts → IsUnknown (slice_index_or ts i d).now → list_all names_rule (texts ts) ≡ false
unknown ts i d lt none =
    let no : names_rule (slice_index_or ts i d).now ≡ false = unknown_among (slice_index_or ts i d).now (λ s e. let bad : None ≡ Some s = (none s).1 e in cc) rules in
    fails_at names_rule (texts ts) i d.now (rw count lt) (ap names_rule (mapped ts i d lt) ∙ no)

texts_more : (ts : List (Bor Text)) (i : ℕ) (d : Bor Text) → i < length ts → texts (take (i + 1) ts) ≡ texts (take i ts) ++ (slice_index_or ts i d).now ∷ []
texts_more ts i d lt = ap texts (take_more ts i d lt) ∙ map-append (λ s. s.now) (take i ts) (slice_index_or ts i d ∷ [])

pub known_more : (ts : List (Bor Text)) (i : ℕ) (d : Bor Text) (r : Rule) → i < length ts → IsFound (slice_index_or ts i d).now r
    → list_all names_rule (texts (take i ts)) ≡ true → list_all names_rule (texts (take (i + 1) ts)) ≡ true
known_more ts i d r lt found old =
    let one : names_rule (slice_index_or ts i d).now ≡ true = ap names_rule ((found r).0 refl) ∙ known_identifier r in
    ap (list_all names_rule) (texts_more ts i d lt) ∙ list_all-append names_rule (texts (take i ts)) ((slice_index_or ts i d).now ∷ []) ∙ ap₂ (λ a b. a && (b && true)) old one

chosen_one : (names : List Text) (name : Text) (r s : Rule) (old new : List Bool) → IsFound name r → is_chosen new r ≡ true
    → ((other : Rule) → other ≢ r → is_chosen new other ≡ is_chosen old other) → is_chosen old s ≡ name_rule names s
    → is_chosen new s ≡ (name_rule names s || (bytes_eq name (identifier s) || false))
chosen_one names name r s old new found chosen others was = go (bytes_eq name (identifier s)) refl
  where
    any_true : (b : Bool) → (b || (true || false)) ≡ true
    any_true true = refl
    any_true false = refl

    or_nothing : (b : Bool) → (b || (false || false)) ≡ b
    or_nothing true = refl
    or_nothing false = refl

    go : (b : Bool) → bytes_eq name (identifier s) ≡ b → is_chosen new s ≡ (name_rule names s || (b || false))
    go true e =
        let some : Some r ≡ Some s = (found s).1 ((bytes_eq-Decides name (identifier s)).0 e) in
        let same : r ≡ s = cc in
        subst (λ x. is_chosen new x ≡ true) same chosen ∙ sym (any_true (name_rule names s))
    go false e =
        let other : s ≢ r = λ (h : s ≡ r).
        let is : name ≡ identifier s = (found r).0 refl ∙ ap identifier (sym h) in
        let yes : bytes_eq name (identifier s) ≡ true = (bytes_eq-Decides name (identifier s)).1 is in
        cc in
        others s other ∙ was ∙ sym (or_nothing (name_rule names s))

pub chosen_more : (ts : List (Bor Text)) (i : ℕ) (d : Bor Text) (r : Rule) (old new : List Bool) → i < length ts → IsFound (slice_index_or ts i d).now r
    → is_chosen new r ≡ true → ((other : Rule) → other ≢ r → is_chosen new other ≡ is_chosen old other)
    → ((s : Rule) → is_chosen old s ≡ name_rule (texts (take i ts)) s) → (s : Rule) → is_chosen new s ≡ name_rule (texts (take (i + 1) ts)) s
chosen_more ts i d r old new lt found chosen others was s =
    chosen_one (texts (take i ts)) (slice_index_or ts i d).now r s old new found chosen others (was s)
    ∙ sym (list_any-append (λ name. bytes_eq name (identifier s)) (texts (take i ts)) ((slice_index_or ts i d).now ∷ []))
    ∙ ap (λ names. name_rule names s) (sym (texts_more ts i d lt))
