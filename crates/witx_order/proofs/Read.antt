-- Each declaration of a walk is an item of the text that its path has: `walk-read`.
use Rattle.std.proofs.Common.{◌≡◌, ℕ, Bool, true, false, cond, List, [], ◌∷◌, ◌++◌, length, Option, Some, None, Result, Ok, Err, refl, sym, ap, ◌∙◌, subst, append_assoc, nat_lt}
use Rattle.std.specs.List.{AllByRecursion}
use Rattle.witx_base.specs.Paths.{Path, file_name}
use Rattle.witx_order.specs.Items.{TextItem, declaration, use_of, Declared, SyntaxFault}
use Rattle.witx_order.specs.Walks.{World, Mark, skip, OpenFile, Place, place, declared_in, Wish, reach, declare, close, unread, nameless, done, handed_wish, outer_wish, inner_wish, wish_at, wish, is_taken, too_many, Next, go, stuck, over, started, reached, met, Marks, none, more, IsReadDeclaration, IsWalk}

module _ {F : Type 0} (w : World F) where
  -- the items that are left are the last of the text's
  abbrev Left : List ℕ → Result (List TextItem) SyntaxFault → Type 0
  Left text (Ok items) = (before : List TextItem) × (w.reading text ≡ Ok (before ++ items))
  Left text (Err fault) = Unit {0}

  abbrev Holds : OpenFile → Type 0
  Holds f = (w.text_at f.path ≡ Some f.text) × Left f.text f.left

  abbrev Good : Place → Type 0
  Good at = AllByRecursion Holds at.open_files × AllByRecursion (IsReadDeclaration w) at.declared

  abbrev GoodWish : Wish → Type 0
  GoodWish (reach behind joined directory) = Good behind
  GoodWish (declare δ behind) = Good behind
  GoodWish (close path behind) = Good behind
  GoodWish (unread path fault) = Unit {0}
  GoodWish (nameless path) = Unit {0}
  GoodWish done = Unit {0}

  abbrev GoodNext : Next F → Type 0
  GoodNext (go mark behind) = Good behind
  GoodNext (stuck refusal) = Unit {0}
  GoodNext over = Unit {0}

  one-more : (δs : List Declared) (δ : Declared) → AllByRecursion (IsReadDeclaration w) δs → IsReadDeclaration w δ → AllByRecursion (IsReadDeclaration w) (δs ++ δ ∷ [])
  one-more [] δ h r = (r, tt)
  one-more (x ∷ δs) δ h r = (h.0, one-more δs δ h.1 r)

  past : (text : List ℕ) (item : TextItem) (items before : List TextItem) → w.reading text ≡ Ok (before ++ item ∷ items) → Left text (Ok items)
  past text item items before e = (before ++ item ∷ [], e ∙ ap (λ x. Ok x) (sym (append_assoc before (item ∷ []) items)))

  handed-good : (o : Option (List ℕ)) (path : Path) (behind : Place) → Good behind → GoodWish (handed_wish o path behind)
  handed-good None path behind h = tt
  handed-good (Some name) path behind h = h

  outer-good : (handed taken : List Path) (ds : List Declared) → AllByRecursion (IsReadDeclaration w) ds → GoodWish (outer_wish handed taken ds)
  outer-good [] taken ds h = tt
  outer-good (path ∷ handed) taken ds h = handed-good (file_name path) path (place [] handed taken ds) (tt, h)

  inner-good : (path : Path) (text : List ℕ) (folder : Path) (left : Result (List TextItem) SyntaxFault) (outer : List OpenFile) (handed taken : List Path) (ds : List Declared)
      → w.text_at path ≡ Some text → Left text left → AllByRecursion Holds outer → AllByRecursion (IsReadDeclaration w) ds → GoodWish (inner_wish path text folder left outer handed taken ds)
  inner-good path text folder (Err fault) outer handed taken ds q l o h = tt
  inner-good path text folder (Ok []) outer handed taken ds q l o h = (o, h)
  inner-good path text folder (Ok (declaration item ∷ items)) outer handed taken ds q l o h =
      (((q, past text (declaration item) items l.0 l.1), o), one-more ds (declared_in path text item) h (q, (l.0, items, l.1)))
  inner-good path text folder (Ok (use_of named ∷ items)) outer handed taken ds q l o h = (((q, past text (use_of named) items l.0 l.1), o), h)

  at-good : (files : List OpenFile) (handed taken : List Path) (ds : List Declared) → AllByRecursion Holds files → AllByRecursion (IsReadDeclaration w) ds → GoodWish (wish_at files handed taken ds)
  at-good [] handed taken ds o h = outer-good handed taken ds h
  at-good (f ∷ outer) handed taken ds o h = inner-good f.path f.text f.folder f.left outer handed taken ds o.0.0 o.0.1 o.1 h

  whole : (text : List ℕ) (r : Result (List TextItem) SyntaxFault) → w.reading text ≡ r → Left text r
  whole text (Ok items) e = ([], e)
  whole text (Err fault) e = tt

  started-good : (at : Place) (path directory : Path) (o : Option (List ℕ)) → w.text_at path ≡ o → Good at → GoodNext (started w at path directory o)
  started-good at path directory None q h = tt
  started-good at path directory (Some text) q h = (((q, whole text (w.reading text) refl), h.0), h.1)

  either-good : (b : Bool) (x y : Next F) → GoodNext x → GoodNext y → GoodNext (cond b x y)
  either-good true x y h k = h
  either-good false x y h k = k

  reached-good : (at : Place) (path directory : Path) → Good at → GoodNext (reached w at path directory)
  reached-good at path directory h =
      let new = started w at path directory (w.text_at path) in
      either-good (is_taken at.taken path) (go (skip path) at) (cond (nat_lt (length at.taken) 1024) new (stuck (too_many path))) h
      (either-good (nat_lt (length at.taken) 1024) new (stuck (too_many path)) (started-good at path directory (w.text_at path) refl h) tt)

  met-good : (x : Wish) → GoodWish x → GoodNext (met w x)
  met-good (reach behind joined directory) h = reached-good behind (w.canonical joined) directory h
  met-good (declare δ behind) h = h
  met-good (close path behind) h = h
  met-good (unread path fault) h = tt
  met-good (nameless path) h = tt
  met-good done h = tt

  marks-good : {a b : Place} {ms : List Mark} → Marks w a ms b → Good a → Good b
  marks-good (none a) h = h
  marks-good (more a m b ms c e r) h =
      let P : Next F → Type 0 = λ n. GoodNext n in
      marks-good r (subst P e (met-good (wish a) (at-good a.open_files a.handed a.taken a.declared h.0 h.1)))

  pub walk-read : (handed : List Path) (marks : List Mark) (ds : List Declared) → IsWalk w handed marks ds → AllByRecursion (IsReadDeclaration w) ds
  walk-read handed marks ds k =
      let P : List Declared → Type 0 = λ x. AllByRecursion (IsReadDeclaration w) x in
      subst P k.order (marks-good k.leads (tt, tt)).1
