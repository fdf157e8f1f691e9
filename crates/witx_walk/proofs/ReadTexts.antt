-- There is exactly one reading of texts.
use Rattle.std.proofs.Common.{◌≡◌, ℕ, List, ap, Result, Ok, Err, inl, inr, ◌⊎◌}
use Rattle.witx_syntax_tree.specs.Trees.{Document}
use Rattle.witx_language.specs.FaultPlaces.{Told}
use Rattle.witx_syntax.specs.Reads.{Reads, IsFaultOf}
use Rattle.witx_order.specs.Items.{TextItem, items_of, SyntaxFault}
use Rattle.witx_walk.specs.Readings.{FileReading, IsReading, OneReading, syntax_fault}

module _ (one : (text : List ℕ) (d e : Document) → Reads text d → Reads text e → d ≡ e)
    (either : (text : List ℕ) (d : Document) (f : Told) → Reads text d → IsFaultOf text f → ⊥)
    (total : (text : List ℕ) → ((d : Document) × Reads text d) ⊎ ((f : Told) × IsFaultOf text f))
    (one_fault : (text : List ℕ) (f g : Told) → IsFaultOf text f → IsFaultOf text g → f ≡ g) where
  chosen : (text : List ℕ) → ((d : Document) × Reads text d) ⊎ ((f : Told) × IsFaultOf text f) → Result (List TextItem) SyntaxFault
  chosen text (inl (d, h)) = Ok (items_of d)
  chosen text (inr (f, h)) = Err (syntax_fault f)

  of-document : (text : List ℕ) (d : Document) → Reads text d → (s : ((e : Document) × Reads text e) ⊎ ((f : Told) × IsFaultOf text f)) → chosen text s ≡ Ok (items_of d)
  unfolding chosen
  of-document text d h (inl (e, k)) = ap (λ x. Ok (items_of x)) (one text e d k h)
  of-document text d h (inr (f, k)) = absurd (either text d f h k)

  of-fault : (text : List ℕ) (f : Told) → IsFaultOf text f → (s : ((d : Document) × Reads text d) ⊎ ((g : Told) × IsFaultOf text g)) → chosen text s ≡ Err (syntax_fault f)
  unfolding chosen
  of-fault text f h (inl (d, k)) = absurd (either text d f k h)
  of-fault text f h (inr (g, k)) = ap (λ x. Err (syntax_fault x)) (one_fault text g f k h)

  same : (other : FileReading) → IsReading other → (text : List ℕ) (s : ((d : Document) × Reads text d) ⊎ ((f : Told) × IsFaultOf text f)) → other text ≡ chosen text s
  unfolding chosen
  same other o text (inl (d, h)) = o.documents text d h
  same other o text (inr (f, h)) = o.faults text f h

  pub one-reading : OneReading
  one-reading = (
    (λ text. chosen text (total text)),
    (
      record { documents = λ text d h. of-document text d h (total text); faults = λ text f h. of-fault text f h (total text) },
      λ other o text. same other o text (total text),
    ),
  )
