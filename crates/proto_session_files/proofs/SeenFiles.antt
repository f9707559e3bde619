-- Which files are seen where open texts are laid over others.
use Rattle.std.proofs.Common.{◌≡◌, ◌⊎◌, Bool, true, false, ◌||◌, List, [], ◌∷◌, Contains, refl, sym, ap, ◌∙◌, subst, inl, inr, arith, bytes_eq, true≢false}
use Rattle.std.specs.Ordering.{match_ordering}
use Rattle.proto_base.proofs.Common.{All-cons, All-head, All-tail, Ordering, Less, Equal, Greater, nat_list_cmp_total, ordering_reverse, contains_cases, contains_head, contains_later, same_from_word}
use Rattle.proto_base.specs.GivenFiles.{AreInLanguage, FileOf}
use Rattle.proto_base.specs.Texts.{Path}
use Rattle.proto_base.specs.declared.profile.Profile.{Profile}
use Rattle.proto_files.specs.WorkspacePaths.{IsBefore, path_cmp}
use Rattle.proto_files.proofs.PathOrder.{before_trans, bytes_apart, never_before_itself, same_from_equal}
use Rattle.proto_session_files.specs.Laws.{AreApart, AreInOrder, IsOpenFile, OpenTextsAreSeen}
use Rattle.proto_session_files.specs.Views.{OpenOf, is_open, laid, open_file, seen_over}

apart_before : (p q : Path) → IsBefore p q → q ≡ p → ⊥
apart_before p q h e = never_before_itself p (subst (λ (r : Path). IsBefore p r) e h)

apart_behind : (p q : Path) → path_cmp p q ≡ Greater → q ≡ p → ⊥
apart_behind p q h e = apart_before q p (nat_list_cmp_total.antisymm q p ∙ ap ordering_reverse h) (sym e)

-- a path before the first is before all
before_all : (p : Path) (g : FileOf) (gs : List FileOf) → AreInOrder (g ∷ gs) → IsBefore p g.path → (x : FileOf) → Contains (g ∷ gs) x → IsBefore p x.path
before_all p g gs order b x c = elim (contains_cases g x gs c) [
  | inl e ↦ subst (λ (y : FileOf). IsBefore p y.path) e b
  | inr d ↦ before_trans p g.path x.path b (order.0 x d)
]

-- ---- one file laid over others

has_laid : (f : FileOf) (gs : List FileOf) → AreInOrder gs → (x : FileOf) → Contains (laid f gs) x → (x ≡ f) ⊎ (Contains gs x × (x.path ≡ f.path → ⊥))
has_laid f [] order x c = elim (contains_cases f x [] c) [
  | inl e ↦ inl (sym e)
  | inr d ↦ absurd (omega (arith, d.1))
]
has_laid f (g ∷ gs) order x c = go (path_cmp f.path g.path) refl (has_laid f gs order.1 x) c
  where
    go : (o : Ordering) → path_cmp f.path g.path ≡ o → (Contains (laid f gs) x → (x ≡ f) ⊎ (Contains gs x × (x.path ≡ f.path → ⊥)))
        → Contains (match_ordering o (f ∷ g ∷ gs) (f ∷ gs) (g ∷ laid f gs)) x → (x ≡ f) ⊎ (Contains (g ∷ gs) x × (x.path ≡ f.path → ⊥))
    go Less e before c = elim (contains_cases f x (g ∷ gs) c) [
      | inl s ↦ inl (sym s)
      | inr d ↦ inr (d, apart_before f.path x.path (before_all f.path g gs order e x d))
    ]
    go Equal e before c = elim (contains_cases f x gs c) [
      | inl s ↦ inl (sym s)
      | inr d ↦ inr (contains_later g x gs d, apart_before f.path x.path (subst (λ (p : Path). IsBefore p x.path) (sym (same_from_equal f.path g.path e)) (order.0 x d)))
    ]
    go Greater e before c = elim (contains_cases g x (laid f gs) c) [
      | inl s ↦ inr (subst (λ (y : FileOf). Contains (g ∷ gs) y × (y.path ≡ f.path → ⊥)) s (contains_head g gs, apart_behind f.path g.path e))
      | inr d ↦ elim (before d) [
        | inl s ↦ inl s
        | inr k ↦ inr (contains_later g x gs k.0, k.1)
      ]
    ]

keeps_laid : (f : FileOf) (gs : List FileOf) (x : FileOf) → Contains gs x → (x.path ≡ f.path → ⊥) → Contains (laid f gs) x
keeps_laid f [] x c apart = absurd (omega (arith, c.1))
keeps_laid f (g ∷ gs) x c apart = go (path_cmp f.path g.path) refl (keeps_laid f gs x)
  where
    go : (o : Ordering) → path_cmp f.path g.path ≡ o → (Contains gs x → (x.path ≡ f.path → ⊥) → Contains (laid f gs) x)
        → Contains (match_ordering o (f ∷ g ∷ gs) (f ∷ gs) (g ∷ laid f gs)) x
    go Less e later = contains_later f x (g ∷ gs) c
    go Equal e later = elim (contains_cases g x gs c) [
      | inl s ↦ absurd (apart (sym (same_from_equal f.path g.path e ∙ ap (λ (y : FileOf). y.path) s)))
      | inr d ↦ contains_later f x gs d
    ]
    go Greater e later = elim (contains_cases g x gs c) [
      | inl s ↦ subst (Contains (g ∷ laid f gs)) s (contains_head g (laid f gs))
      | inr d ↦ contains_later g x (laid f gs) (later d apart)
    ]

new_laid : (f : FileOf) (gs : List FileOf) → Contains (laid f gs) f
new_laid f [] = contains_head f []
new_laid f (g ∷ gs) = go (path_cmp f.path g.path) (new_laid f gs)
  where
    go : (o : Ordering) → Contains (laid f gs) f → Contains (match_ordering o (f ∷ g ∷ gs) (f ∷ gs) (g ∷ laid f gs)) f
    go Less later = contains_head f (g ∷ gs)
    go Equal later = contains_head f gs
    go Greater later = contains_later g f (laid f gs) later

before_laid : (f g : FileOf) (gs : List FileOf) → AreInOrder (g ∷ gs) → IsBefore g.path f.path → (x : FileOf) → Contains (laid f gs) x → IsBefore g.path x.path
before_laid f g gs order b x c = elim (has_laid f gs order.1 x c) [
  | inl s ↦ subst (λ (y : FileOf). IsBefore g.path y.path) (sym s) b
  | inr k ↦ order.0 x k.0
]

ordered_laid : (f : FileOf) (gs : List FileOf) → AreInOrder gs → AreInOrder (laid f gs)
ordered_laid f [] order = (λ x c. absurd (omega (arith, c.1)), tt)
ordered_laid f (g ∷ gs) order = go (path_cmp f.path g.path) refl (ordered_laid f gs order.1)
  where
    go : (o : Ordering) → path_cmp f.path g.path ≡ o → AreInOrder (laid f gs) → AreInOrder (match_ordering o (f ∷ g ∷ gs) (f ∷ gs) (g ∷ laid f gs))
    go Less e later = (before_all f.path g gs order e, order)
    go Equal e later = (λ x d. subst (λ (p : Path). IsBefore p x.path) (sym (same_from_equal f.path g.path e)) (order.0 x d), order.1)
    go Greater e later = (before_laid f g gs order (nat_list_cmp_total.antisymm g.path f.path ∙ ap ordering_reverse e), later)

-- ---- all open texts

module _ (l : Profile) where
  in_order : (disk : List FileOf) (opened : List OpenOf) → AreInOrder disk → AreInOrder (seen_over l disk opened)
  in_order disk [] order = order
  in_order disk (o ∷ os) order = in_order (laid (open_file l o) disk) os (ordered_laid (open_file l o) disk order)

  has_seen : (disk : List FileOf) (opened : List OpenOf) → AreInOrder disk → (x : FileOf) → Contains (seen_over l disk opened) x
      → IsOpenFile l opened x ⊎ (Contains disk x × (is_open x.path opened ≡ false))
  has_seen disk [] order x c = inr (c, refl)
  has_seen disk (o ∷ os) order x c = elim (has_seen (laid (open_file l o) disk) os (ordered_laid (open_file l o) disk order) x c) [
    | inl h ↦ inl (h.0, contains_later o h.0 os h.1, h.2)
    | inr h ↦ elim (has_laid (open_file l o) disk order x h.0) [
      | inl s ↦ inl (o, contains_head o os, sym s)
      | inr k ↦ inr (k.0, ap (λ (b : Bool). b || is_open x.path os) (bytes_apart o.path x.path (λ e. k.1 (sym e))) ∙ h.1)
    ]
  ]

  kept_seen : (disk : List FileOf) (opened : List OpenOf) (x : FileOf) → Contains disk x → is_open x.path opened ≡ false → Contains (seen_over l disk opened) x
  kept_seen disk [] x c closed = c
  kept_seen disk (o ∷ os) x c closed = go (bytes_eq o.path x.path) refl closed (kept_seen (laid (open_file l o) disk) os x)
    where
      go : (b : Bool) → bytes_eq o.path x.path ≡ b → (b || is_open x.path os) ≡ false → (Contains (laid (open_file l o) disk) x → is_open x.path os ≡ false → Contains (seen_over l (laid (open_file l o) disk) os) x)
          → Contains (seen_over l disk (o ∷ os)) x
      go true e h later = absurd (true≢false h)
      go false e h later = later (keeps_laid (open_file l o) disk x c (λ same. true≢false (sym (same_from_word o.path x.path (sym same)) ∙ e))) h

  open_seen : (disk : List FileOf) (opened : List OpenOf) → AreApart opened → (o : OpenOf) → Contains opened o → Contains (seen_over l disk opened) (open_file l o)
  open_seen disk [] apart o c = absurd (omega (arith, c.1))
  open_seen disk (p ∷ os) apart o c = elim (contains_cases p o os c) [
    | inl s ↦ subst (λ (q : OpenOf). Contains (seen_over l disk (p ∷ os)) (open_file l q)) s (kept_seen (laid (open_file l p) disk) os (open_file l p) (new_laid (open_file l p) disk) apart.0)
    | inr d ↦ open_seen (laid (open_file l p) disk) os apart.1 o d
  ]

  is_seen : (disk : List FileOf) (opened : List OpenOf) (x : FileOf) → AreApart opened → IsOpenFile l opened x ⊎ (Contains disk x × (is_open x.path opened ≡ false)) → Contains (seen_over l disk opened) x
  is_seen disk opened x apart h = elim h [
    | inl k ↦ subst (Contains (seen_over l disk opened)) k.2 (open_seen disk opened apart k.0 k.1)
    | inr k ↦ kept_seen disk opened x k.0 k.1
  ]

  laid_in : (f : FileOf) (gs : List FileOf) → f.profile ≡ l → AreInLanguage l gs → AreInLanguage l (laid f gs)
  laid_in f [] is all = All-cons (λ g. g.profile ≡ l) f [] is all
  laid_in f (g ∷ gs) is all = go (path_cmp f.path g.path) (laid_in f gs is (All-tail (λ x. x.profile ≡ l) g gs all))
    where
      go : (o : Ordering) → AreInLanguage l (laid f gs) → AreInLanguage l (match_ordering o (f ∷ g ∷ gs) (f ∷ gs) (g ∷ laid f gs))
      go Less later = All-cons (λ x. x.profile ≡ l) f (g ∷ gs) is all
      go Equal later = All-cons (λ x. x.profile ≡ l) f gs is (All-tail (λ x. x.profile ≡ l) g gs all)
      go Greater later = All-cons (λ x. x.profile ≡ l) g (laid f gs) (All-head (λ x. x.profile ≡ l) g gs all) later

  seen_in : (disk : List FileOf) (opened : List OpenOf) → AreInLanguage l disk → AreInLanguage l (seen_over l disk opened)
  seen_in disk [] all = all
  seen_in disk (o ∷ os) all = seen_in (laid (open_file l o) disk) os (laid_in (open_file l o) disk refl all)

pub open_texts_are_seen : OpenTextsAreSeen
open_texts_are_seen = record {
  in_order = in_order;
  seen = λ l disk opened f order apart. (has_seen l disk opened order f, is_seen l disk opened f apart);
  in_language = seen_in;
}
