-- Every walk ends: there is a verdict.
use Rattle.std.proofs.Common.{◌≡◌, ℕ, ◌+◌, ◌<◌, ◌≤◌, List, [], ◌∷◌, ◌++◌, Bool, true, false, refl, ap, length, length-append, Option, Some, None, Result, Ok, Err, nat_lt, arith, inl, inr, ◌⊎◌, zero, suc}
use Rattle.std.proofs.lemmas.Bool.{ltb-true}
use Rattle.std.proofs.lemmas.Bool.Decides.{nat_tests}
use Rattle.witx_base.specs.Paths.{Path, join, path_of, all_but_last, file_name}
use Rattle.witx_order.specs.Items.{TextItem, declaration, use_of, Declared, SyntaxFault}
use Rattle.witx_order.specs.Walks.{World, OpenFile, open_file, declared_in, Place, place, wish, reach, handed_wish, is_taken, folder_of}
use Rattle.witx_order.specs.Verdicts.{Verdict, fine, Leads, Ends, IsVerdict}
use Rattle.witx_order.proofs.Steps.{leads-trans, ends-after, stopped, skipped, too_many-ends, missing-ends, starts, unread-ends, closes, declares, faulty-ends}
use Rattle.witx_order.proofs.HandedPaths.{nameless-ends}

which : (b : Bool) → (b ≡ true) ⊎ (b ≡ false)
which true = inl refl
which false = inr refl

found : {A : Type 0} (o : Option A) → (o ≡ None) ⊎ ((x : A) × (o ≡ Some x))
found None = inl refl
found (Some x) = inr (x, refl)

no-less : (m n : ℕ) → nat_lt m n ≡ false → n ≤ m
no-less m n e = grind (arith, nat_tests)

module _ {F : Type 0} (w : World F) where
  -- there is a verdict from a on, or a leads behind what was open
  Goes : Place → List OpenFile → List Path → List Path → Type 0
  Goes a outer handed taken =
      ((v : Verdict F) × Ends w a v)
      ⊎ ((taken' : List Path) × ((ds' : List Declared) × ((length taken ≤ length taken') × Leads w a (place outer handed taken' ds'))))

  abbrev ReachGoes : ℕ → Type 0
  ReachGoes n = (a : Place) (outer : List OpenFile) (handed taken : List Path) (ds : List Declared) (j d : Path)
      → wish a ≡ reach (place outer handed taken ds) j d → 1024 ≤ length taken + n → Goes a outer handed taken

  abbrev ItemsGo : ℕ → Type 0
  ItemsGo n = (xs : List TextItem) (p : Path) (text : List ℕ) (folder : Path) (outer : List OpenFile) (handed taken : List Path) (ds : List Declared)
      → 1024 ≤ length taken + n → Goes (place (open_file p text folder (Ok xs) ∷ outer) handed taken ds) outer handed taken

  goes-after : (a b : Place) (outer : List OpenFile) (handed taken taken' : List Path) → length taken ≤ length taken' → Leads w a b → Goes b outer handed taken' → Goes a outer handed taken
  unfolding Goes
  goes-after a b outer handed taken taken' l f (inl (v, e)) = inl (v, ends-after w f e)
  goes-after a b outer handed taken taken' l f (inr (t, (ds, (m, g)))) = inr (t, (ds, (omega arith, leads-trans w f g)))

  ended : (a : Place) (outer : List OpenFile) (handed taken : List Path) (v : Verdict F) → Ends w a v → Goes a outer handed taken
  unfolding Goes
  ended a outer handed taken v e = inl (v, e)

  led : (a : Place) (outer : List OpenFile) (handed taken : List Path) (ds : List Declared) → Leads w a (place outer handed taken ds) → Goes a outer handed taken
  unfolding Goes
  led a outer handed taken ds f = inr (taken, (ds, (omega arith, f)))

  -- a file that starts, where its items go
  file-goes : (n : ℕ) → ItemsGo n → (a : Place) (outer : List OpenFile) (handed taken : List Path) (ds : List Declared) (p : Path) (text : List ℕ) (folder : Path) (left : Result (List TextItem) SyntaxFault)
      → Leads w a (place (open_file p text folder left ∷ outer) handed (taken ++ p ∷ []) ds) → 1024 ≤ length taken + (n + 1) → Goes a outer handed taken
  file-goes n go_on a outer handed taken ds p text folder (Err f) g l = ended a outer handed taken _ (ends-after w g (unread-ends w p text folder outer handed (taken ++ p ∷ []) ds (Err f) f refl))
  file-goes n go_on a outer handed taken ds p text folder (Ok xs) g l =
      goes-after a _ outer handed taken (taken ++ p ∷ []) (omega (arith, length-append taken (p ∷ []))) g
      (go_on xs p text folder outer handed (taken ++ p ∷ []) ds (omega (arith, length-append taken (p ∷ []))))

  -- a path that is reached, where the items of a file that starts go
  reach-goes : (a : Place) (outer : List OpenFile) (handed taken : List Path) (ds : List Declared) (j d : Path)
      → wish a ≡ reach (place outer handed taken ds) j d
      → ((text : List ℕ) → length taken < 1024 → Leads w a (place (open_file (w.canonical j) text (folder_of (w.canonical j) d) (w.reading text) ∷ outer) handed (taken ++ w.canonical j ∷ []) ds) → Goes a outer handed taken)
      → Goes a outer handed taken
  reach-goes a outer handed taken ds j d e starting =
      let p = w.canonical j in
      elim (which (is_taken taken (w.canonical j))) [
        | inl t ↦ led a outer handed taken ds (skipped w a outer handed taken ds j d p e refl t)
        | inr t ↦ elim (which (nat_lt (length taken) 1024)) [
          | inr l ↦ ended a outer handed taken _ (too_many-ends w a outer handed taken ds j d p e refl t (no-less (length taken) 1024 l))
          | inl l ↦ elim (found (w.text_at (w.canonical j))) [
            | inl n ↦ ended a outer handed taken _ (missing-ends w a outer handed taken ds j d p e refl t (ltb-true (length taken) 1024 l) n)
            | inr h ↦ starting h.0 (ltb-true (length taken) 1024 l) (starts w a outer handed taken ds j d p e refl h.0 t (ltb-true (length taken) 1024 l) h.1)
          ]
        ]
      ]

  reach-none : ReachGoes 0
  reach-none a outer handed taken ds j d e l = reach-goes a outer handed taken ds j d e (λ text m g. absurd (omega arith))

  reach-more : (n : ℕ) → ItemsGo n → ReachGoes (suc n)
  reach-more n go_on a outer handed taken ds j d e l =
      reach-goes a outer handed taken ds j d e (λ text m g. file-goes n go_on a outer handed taken ds (w.canonical j) text _ (w.reading text) g (omega arith))

  used-goes : (n : ℕ) (p : Path) (text : List ℕ) (folder : Path) (outer : List OpenFile) (handed taken : List Path) (ds : List Declared) (u : List ℕ) (xs : List TextItem)
      → ((taken' : List Path) (ds' : List Declared) → 1024 ≤ length taken' + n → Goes (place (open_file p text folder (Ok xs) ∷ outer) handed taken' ds') outer handed taken')
      → Goes (place (open_file p text folder (Ok (use_of u ∷ xs)) ∷ outer) handed taken ds) (open_file p text folder (Ok xs) ∷ outer) handed taken
      → 1024 ≤ length taken + n → Goes (place (open_file p text folder (Ok (use_of u ∷ xs)) ∷ outer) handed taken ds) outer handed taken
  unfolding Goes
  used-goes n p text folder outer handed taken ds u xs rest (inl (v, e)) l = inl (v, e)
  used-goes n p text folder outer handed taken ds u xs rest (inr (t, (es, (m, g)))) l = goes-after _ _ outer handed taken t m g (rest t es (omega arith))

  handed-goes : (a : Place) (ps taken : List Path) → ((taken' : List Path) (ds' : List Declared) → (v : Verdict F) × Ends w (place [] ps taken' ds') v)
      → Goes a [] ps taken → (v : Verdict F) × Ends w a v
  unfolding Goes
  handed-goes a ps taken rest (inl h) = h
  handed-goes a ps taken rest (inr (t, (es, (m, g)))) = let k = rest t es in (k.0, ends-after w g k.1)

  items-go : (n : ℕ) → ReachGoes n → ItemsGo n
  items-go n reaching [] p text folder outer handed taken ds l = led _ outer handed taken ds (closes w p text folder outer handed taken ds)
  items-go n reaching (declaration x ∷ xs) p text folder outer handed taken ds l =
      elim (found (w.fault_of ds (declared_in p text x))) [
        | inl e ↦ goes-after _ _ outer handed taken taken (omega arith) (declares w p text folder outer handed taken ds x xs e) (items-go n reaching xs p text folder outer handed taken (ds ++ declared_in p text x ∷ []) l)
        | inr h ↦ ended _ outer handed taken _ (faulty-ends w p text folder outer handed taken ds x xs h.0 h.1)
      ]
  items-go n reaching (use_of u ∷ xs) p text folder outer handed taken ds l =
      used-goes n p text folder outer handed taken ds u xs
      (λ taken' ds' m. items-go n reaching xs p text folder outer handed taken' ds' m)
      (reaching (place (open_file p text folder (Ok (use_of u ∷ xs)) ∷ outer) handed taken ds) (open_file p text folder (Ok xs) ∷ outer) handed taken ds (join folder (path_of u)) folder refl l) l

  all-reach : (n : ℕ) → ReachGoes n
  all-reach zero = reach-none
  all-reach (suc n) = reach-more n (items-go n (all-reach n))

  -- from any place outside files
  handed-ends : (handed taken : List Path) (ds : List Declared) → (v : Verdict F) × Ends w (place [] handed taken ds) v
  handed-ends [] taken ds = (fine ds, stopped w _ _ refl)
  handed-ends (p ∷ ps) taken ds =
      elim (found (file_name p)) [
        | inl e ↦ (_, nameless-ends w p p ps taken ds refl e)
        | inr h ↦ handed-goes (place [] (p ∷ ps) taken ds) ps taken (λ taken' ds'. handed-ends ps taken' ds')
            (all-reach 1024 (place [] (p ∷ ps) taken ds) [] ps taken ds (join (all_but_last p) (h.0 ∷ [])) (all_but_last p)
            (ap (λ x. handed_wish x p (place [] ps taken ds)) h.1) (omega arith))
      ]

  -- there is a verdict
  pub a-verdict : (handed : List Path) → (v : Verdict F) × IsVerdict w handed v
  a-verdict handed = handed-ends handed [] []
