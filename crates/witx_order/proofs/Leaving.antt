-- Where a wish leads: the paths that have started, and the declarations, of the place that it leads to.
use Rattle.std.proofs.Common.{◌≡◌, ℕ, List, [], ◌∷◌, ◌++◌, refl, Option, Some, None, Result, Ok, Err}
use Rattle.witx_base.specs.Paths.{Path, file_name}
use Rattle.witx_order.specs.Items.{TextItem, declaration, use_of, Declared, SyntaxFault}
use Rattle.witx_order.specs.Walks.{OpenFile, Place, place, Wish, wish, reach, declare, close, unread, nameless, done, handed_wish, inner_wish, outer_wish}

-- the place to which a wish leads has these paths and these declarations, and a declaration's own one more
abbrev pub Leaves : List Path → List Declared → Wish → Type 0
Leaves taken ds (reach at j d) = (at.taken ≡ taken) × (at.declared ≡ ds)
Leaves taken ds (declare δ at) = (at.taken ≡ taken) × (at.declared ≡ ds ++ δ ∷ [])
Leaves taken ds (close p at) = (at.taken ≡ taken) × (at.declared ≡ ds)
Leaves taken ds (unread p f) = Unit {0}
Leaves taken ds (nameless p) = Unit {0}
Leaves taken ds done = Unit {0}

handed-leaves : (o : Option (List ℕ)) (p : Path) (ps taken : List Path) (ds : List Declared) → Leaves taken ds (handed_wish o p (place [] ps taken ds))
handed-leaves None p ps taken ds = tt
handed-leaves (Some n) p ps taken ds = (refl, refl)

outer-leaves : (hs taken : List Path) (ds : List Declared) → Leaves taken ds (outer_wish hs taken ds)
outer-leaves [] taken ds = tt
outer-leaves (p ∷ ps) taken ds = handed-leaves (file_name p) p ps taken ds

inner-leaves : (p : Path) (text : List ℕ) (folder : Path) (left : Result (List TextItem) SyntaxFault) (outer : List OpenFile) (hs taken : List Path) (ds : List Declared)
    → Leaves taken ds (inner_wish p text folder left outer hs taken ds)
inner-leaves p text folder (Err f) outer hs taken ds = tt
inner-leaves p text folder (Ok []) outer hs taken ds = (refl, refl)
inner-leaves p text folder (Ok (declaration x ∷ xs)) outer hs taken ds = (refl, refl)
inner-leaves p text folder (Ok (use_of u ∷ xs)) outer hs taken ds = (refl, refl)

files-leave : (open_files : List OpenFile) (hs taken : List Path) (ds : List Declared) → Leaves taken ds (wish (place open_files hs taken ds))
files-leave [] hs taken ds = outer-leaves hs taken ds
files-leave (f ∷ outer) hs taken ds = inner-leaves f.path f.text f.folder f.left outer hs taken ds

pub wish-leaves : (at : Place) → Leaves at.taken at.declared (wish at)
wish-leaves at = files-leave at.open_files at.handed at.taken at.declared
