-- The listing is the text with the events that the document was adapted with.
use Rattle.std.proofs.Common.{◌≡◌, List, [], ◌∷◌, map, refl, ap}
use Rattle.witx_ast.specs.Definitions.{definition_tree}
use Rattle.witx_adapt.specs.declared.adapted.Adapted.{Adapted}
use Rattle.witx_adapt.specs.declared.adapted.AdaptedFunc.{AdaptedFunc}
use Rattle.witx_adapt.specs.Entries.{lowered}
use Rattle.witx_adapt.specs.Listings.{listed_definition_lines, listing_text}
use Rattle.witx_traces.specs.Traces.{listed, listing_with, offered, own_sides, with_sides}

own-events : (fs : List AdaptedFunc) → map lowered fs ≡ with_sides (map offered fs) (map own_sides fs)
own-events [] = refl
own-events (f ∷ fs) = ap (λ z. lowered f ∷ z) (own-events fs)

pub own-listing : (a : Adapted) → listing_text a ≡ listing_with (listed a) (map own_sides a.functions)
unfolding listing_text
own-listing a = ap (λ z. listed_definition_lines (map definition_tree a.document.definitions) z a.layouts) (own-events a.functions)
