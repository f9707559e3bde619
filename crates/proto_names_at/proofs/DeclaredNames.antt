-- What a token declares is among what its file declares, in a row of the link.
use Rattle.std.proofs.Common.{◌≡◌, ◌≢◌, ◌↔◌, ℕ, ◌+◌, ◌<◌, ◌≤◌, ◌==◌, Bool, true, false, if◌then◌else◌, List, [], length, get_or, Option, Some, None, is_some, option_map, option_and_then, refl, sym, ap, subst, ◌∙◌, inl, inr, arith, Contains, eq-eqb, true≢false}
use Rattle.proto_base.proofs.Common.{cases_lt, cond-true, contains_map, from_map, get_or_default, none-some, same_Some}
use Rattle.proto_case.specs.Camel.{entry_name}
use Rattle.proto_files.proofs.Common.{FileOf, file_at, ReadOf, AreRead, read_at}
use Rattle.proto_names_outline.proofs.Common.{items_in, package_first, same_declared, tree_span, whole}
use Rattle.proto_names_rules.specs.declared.kind.Kind.{Kind}
use Rattle.proto_names_rules.specs.declared.kind.Kind.TheVariants.{Package, Message, Entry, Enum, Service, Field, EntryField, Oneof, Value, Method, Extension}
use Rattle.proto_names_rules.proofs.Common.{At, at, Symbol, Placed, Source, place_from, place_of, joined, is_package, name_of, symbol_of, declared_of, shifted_declared}
use Rattle.proto_names_imports.proofs.Common.{link_skeleton, names_of_files, text_of, name_in}
use Rattle.proto_names.proofs.Common.{IsLinkRead, LinkOf, NameOf, declaring_token, name_declared_as, name_text, own_token}
use Rattle.proto_names.specs.Common.{declared_names}
use Rattle.proto_edit_rename_laws.proofs.Common.{IsNamed, Target, may_rename, declared_by, place_last}
use Rattle.proto_edit_rename_laws.proofs.Declarations.{ends_with_token, is_written}
use Rattle.proto_edit_captures.proofs.ByTexts.{named_at}
use Rattle.proto_names_at.specs.DeclaredAt.{text_declared_at}
use Rattle.proto_names_at.specs.NamesAt.{DeclaresName}
use Rattle.proto_names_at.proofs.NamedTargets.{one_declared}

-- ---- kinds that may be renamed

pub written : (k : Kind) → may_rename k ≡ true → is_written k ≡ true
written Entry h = absurd (true≢false (sym h))
written EntryField h = absurd (true≢false (sym h))
written other h = refl

pub no_package : (k : Kind) → may_rename k ≡ true → k ≢ Package
no_package k h e = true≢false (sym h ∙ ap may_rename e)

pub not_package : (k : Kind) → k ≢ Package → is_package k ≡ false
not_package Package h = absurd (h refl)
not_package Message h = refl
not_package Entry h = refl
not_package Enum h = refl
not_package Service h = refl
not_package Field h = refl
not_package EntryField h = refl
not_package Oneof h = refl
not_package Value h = refl
not_package Method h = refl
not_package Extension h = refl

-- ---- rows

module _ (files : List FileOf) (reads : List ReadOf) (are : AreRead files reads) (l : LinkOf) (link : IsLinkRead files reads l) where
  abbrev text : At → List ℕ
  text = text_of files reads

  -- a symbol is among what its file declares
  pub symbol_declared : (s : Symbol) → Contains (names_of_files files reads).symbols s → (s.file < length files) × Contains (declared_names files reads s.file) s.name
  symbol_declared s cs =
      let d = from_map (symbol_of text entry_name) (link_skeleton files reads).declared s cs in
      let o = declared_by 0 reads d.0 d.1 in
      let n : 0 + o.k ≡ o.k = omega arith in
      let is : symbol_of text entry_name (shifted_declared (at o.k) (declared_of o.k o.p)) ≡ s =
      ap (symbol_of text entry_name) (subst (λ (m : ℕ). shifted_declared (at m) (declared_of m o.p) ≡ d.0) n o.is) ∙ d.2 in
      let same = are.same in
      let last = o.inside in
      let inside : o.k < length files = omega (arith, last, same) in
      let tree = (read_at reads o.k).tree in
      let span = tree_span (file_at files o.k).profile (file_at files o.k).bytes (read_at reads o.k).tokens tree (are.trees o.k inside) in
      let listed = (same_declared (items_in tree) span.0 span.1 span.2 o.p).1 o.within in
      let there : Contains (declared_names files reads o.k) (name_of (λ i. text (at o.k i)) entry_name (whole o.p)) = contains_map (λ (p : Placed). name_of (λ i. text (at o.k i)) entry_name (whole p)) (package_first (items_in tree)) o.p listed in
      let name : name_of (λ i. text (at o.k i)) entry_name (whole o.p) ≡ s.name = sym (name_in text o.k (whole o.p)) ∙ ap (λ (z : Symbol). z.name) is in
      let file : o.k ≡ s.file = ap (λ (z : Symbol). z.file) is in (
        subst (λ (m : ℕ). m < length files) file inside,
        subst (λ (m : ℕ). Contains (declared_names files reads m) s.name) file (subst (Contains (declared_names files reads o.k)) name there),
      )

  one_row : (i j : ℕ) (t : List ℕ) → name_text l i ≡ Some t → name_text l j ≡ Some t → i ≡ j
  one_row i j t h q =
      let m = named_at l i t h in
      let n = named_at l j t q in
      link.by.names.once i j m.0 n.0 m.1 n.1 (m.2 ∙ sym n.2)

  -- so its row is among the rows of its file
  row_declared : (s : Symbol) → Contains (names_of_files files reads).symbols s → (row : ℕ) → name_text l row ≡ Some (joined s.name) → Contains (get_or l.rows s.file []) row
  row_declared s cs row said =
      let d = symbol_declared s cs in
      let f : List (List ℕ) → Option (List ℕ) = λ name. Some (joined name) in
      let there = contains_map f (declared_names files reads s.file) s.name d.1 in
      let r = from_map (name_text l) (get_or l.rows s.file []) (Some (joined s.name)) (subst (λ (z : List (Option (List ℕ))). Contains z (Some (joined s.name))) (sym (link.declares s.file d.0)) there) in
      subst (Contains (get_or l.rows s.file [])) (one_row r.0 row (joined s.name) r.2 said) r.1

  -- a target's token is one of the file that declares it
  pub aim_file : (name : List ℕ) (t : Target) → IsNamed files reads name t → t.aim.file ≡ t.token.file
  aim_file name t named =
      let o = ends_with_token 0 reads t.aim named.within (written t.aim.kind named.kind) in
      let last : at t.aim.file o.1 ≡ t.token = sym (place_last t.token o.0 (at t.aim.file o.1)) ∙ ap (λ (p : List (Source At)). place_from t.token p) (sym o.2 ∙ named.path) ∙ place_last t.token t.above t.token in
      ap (λ (a : At). a.file) last

  -- the row of what a token declares
  record RowDeclares (file token : ℕ) (name : List ℕ) : Type 0 where
    row : ℕ
    listed : Contains (get_or l.rows file []) row
    said : text_declared_at l row token ≡ Some name

  row_of : (file token : ℕ) (name : List ℕ) → DeclaresName files reads (at file token) name → RowDeclares file token name
  row_of file token name d =
      let s = symbol_of text entry_name d.0.aim in
      let cs = contains_map (symbol_of text entry_name) (link_skeleton files reads).declared d.0.aim d.1.within in
      let x = link.by.names.there s cs in
      let named : joined s.name ≡ name = d.1.name_is in
      let row_text : name_text l x.0 ≡ Some (joined s.name) = ap (option_map (λ (n : NameOf). n.text)) x.2 ∙ ap Some x.3 in
      let other = no_package d.0.aim.kind d.1.kind in
      let stands = name_declared_as text (link_skeleton files reads) l link.by d.0.aim d.1.within other x.0 x.1 x.2 x.3 in
      let ends : place_of d.0.aim ≡ d.0.token = ap (place_from (at d.0.aim.file 0)) d.1.path ∙ place_last (at d.0.aim.file 0) d.0.above d.0.token in
      let token_is : x.1.token ≡ token = ap (λ (a : At). a.token) (stands.1 ∙ ends ∙ d.2) in
      let other_kind : is_package x.1.kind ≡ false = ap is_package stands.0 ∙ not_package d.0.aim.kind other in
      let own : own_token x.1 ≡ Some token = ap (λ (b : Bool). if b then None else Some x.1.token) other_kind ∙ ap (λ (z : ℕ). Some z) token_is in
      let declaring : declaring_token l x.0 ≡ Some token = ap (option_and_then own_token) x.2 ∙ own in
      let file_is : s.file ≡ file = aim_file name d.0 d.1 ∙ ap (λ (a : At). a.file) d.2 in
      record {
        row = x.0;
        listed = subst (λ (f : ℕ). Contains (get_or l.rows f []) x.0) file_is (row_declared s cs x.0 row_text);
        said = ap (option_and_then (λ (t : ℕ). if t == token then name_text l x.0 else None)) declaring
            ∙ cond-true (token == token) (name_text l x.0) None (eq-eqb token token refl) ∙ row_text ∙ ap (λ (z : List ℕ). Some z) named;
      }

-- ---- the walk over rows

-- none of the first rows has the name that the token declares
abbrev pub NoneSoFar : List FileOf → LinkOf → List ℕ → ℕ → ℕ → ℕ → Type 0
NoneSoFar files l rows count file token = (reads : List ReadOf) → AreRead files reads → (name : List ℕ) → DeclaresName files reads (at file token) name → (k : ℕ) → k < count → text_declared_at l (get_or rows k 0) token ≢ Some name

pub none_yet : (files : List FileOf) (l : LinkOf) (rows : List ℕ) (file token : ℕ) → NoneSoFar files l rows 0 file token
none_yet files l rows file token reads are name d k below = absurd (omega (arith, below))

pub some_is : {A : Type 0} (f : A → List ℕ) (o : Option A) → is_some o ≡ true → (x : List ℕ) × (option_map f o ≡ Some x)
some_is f None h = absurd (true≢false (sym h))
some_is f (Some x) h = (f x, refl)

pub none_is : {A : Type 0} (f : A → List ℕ) (o : Option A) → is_some o ≡ false → option_map f o ≡ None
none_is f None h = refl
none_is f (Some x) h = absurd (true≢false h)

pub none_more : (files : List FileOf) (l : LinkOf) (rows : List ℕ) (i file token : ℕ) (name found : Option (List ℕ)) → NoneSoFar files l rows i file token → name ≡ text_declared_at l (get_or rows i 0) token
    → ((reads : List ReadOf) → AreRead files reads → (n : List ℕ) → (found ≡ Some n) ↔ ((name ≡ Some n) × DeclaresName files reads (at file token) n)) → found ≡ None → NoneSoFar files l rows (i + 1) file token
none_more files l rows i file token name found before is has none reads are n d k below e = elim (cases_lt k i) [
  | inl less ↦ before reads are n d k less e
  | inr past ↦
      let here : k ≡ i = omega (arith, below, past) in
      let said : name ≡ Some n = is ∙ ap (λ (j : ℕ). text_declared_at l (get_or rows j 0) token) (sym here) ∙ e in
      none-some n (sym none ∙ (has reads are n).1 (said, d))
]

pub none_at_all : (files : List FileOf) (l : LinkOf) → ((reads : List ReadOf) → AreRead files reads → IsLinkRead files reads l) → (rows : List ℕ) (count file token : ℕ) → rows ≡ get_or l.rows file [] → length rows ≤ count → NoneSoFar files l rows count file token
    → (reads : List ReadOf) → AreRead files reads → (n : List ℕ) → DeclaresName files reads (at file token) n → ⊥
none_at_all files l link rows count file token same all none reads are n d =
    let r = row_of files reads are l (link reads are) file token n d in
    let c : Contains rows r.row = subst (λ (z : List ℕ). Contains z r.row) (sym same) r.listed in
    let inside = c.1 in
    let at_k : get_or rows c.0 0 ≡ r.row = get_or_default rows c.0 0 r.row c.1 ∙ c.2 in
    none reads are n d c.0 (omega (arith, inside, all)) (ap (λ (j : ℕ). text_declared_at l j token) at_k ∙ r.said)

-- ---- a name that the token may declare

module _ (files : List FileOf) (reads : List ReadOf) (a : At) (name : Option (List ℕ)) (n : List ℕ) where
  -- there is none
  pub no_text : name ≡ None → ◌≡◌ {A = Option (List ℕ)} None (Some n) ↔ ((name ≡ Some n) × DeclaresName files reads a n)
  no_text is = (λ e. absurd (none-some n e), λ h. absurd (none-some n (sym is ∙ h.0)))

  -- the token declares what has it
  pub its_text : (text : List ℕ) → name ≡ Some text → DeclaresName files reads a text → (Some text ≡ Some n) ↔ ((name ≡ Some n) × DeclaresName files reads a n)
  its_text text is d = (λ e. (is ∙ e, subst (DeclaresName files reads a) (same_Some text n e) d), λ h. sym is ∙ h.0)

  -- it does not
  pub not_its_text : (text : List ℕ) → name ≡ Some text → (DeclaresName files reads a text → ⊥) → ◌≡◌ {A = Option (List ℕ)} None (Some n) ↔ ((name ≡ Some n) × DeclaresName files reads a n)
  not_its_text text is never = (λ e. absurd (none-some n e), λ h. absurd (never (subst (DeclaresName files reads a) (sym (same_Some text n (sym is ∙ h.0))) h.1)))

-- what was found is the one name that the token declares, where each that it declares is that one
pub found_here : (files : List FileOf) (reads : List ReadOf) → AreRead files reads → (file token : ℕ) (name found : Option (List ℕ)) → ((n : List ℕ) → (found ≡ Some n) ↔ ((name ≡ Some n) × DeclaresName files reads (at file token) n)) → (m : List ℕ) → found ≡ Some m → (n : List ℕ) → (found ≡ Some n) ↔ DeclaresName files reads (at file token) n
found_here files reads are file token name found has m is n = (
  λ e. ((has n).0 e).1,
  λ d. is ∙ ap (λ (z : List ℕ). Some z) (one_declared files reads are (at file token) m n ((has m).0 is).1 d),
)
