-- The three checks of a document, one after the other: what they say together, and what the first that fails says.
use Rattle.std.specs.Prelude.{◌≡◌, List, Option, Some, None, Ok, Err, All, map}
use Rattle.std.proofs.Common.{refl, sym, subst}
use Rattle.witx_ast.specs.Misfits.{Misfit, first_misfit}
use Rattle.witx_ast.specs.Definitions.{DefinitionTree}
use Rattle.witx_layout.specs.Refusals.{tag_refusal}
use Rattle.witx_layout.specs.declared.tags.TagTooNarrow.{TagTooNarrow}
use Rattle.witx_adapt.specs.declared.error.DocumentError.{DocumentError}
use Rattle.witx_adapt.specs.declared.error.DocumentError.TheVariants as document_error
use Rattle.witx_adapt.specs.declared.adapted.AdaptedFunc.{AdaptedFunc}
use Rattle.witx_ast.specs.Closed.{IsClosed}
use Rattle.witx_adapt.specs.Entries.{IsFaithful, all_functions, entry_for, entry_of}
use Rattle.witx_layout.specs.Layouts.{TooLargeAt, first_large}
use Rattle.witx_layout.specs.declared.table.LayoutsError.{LayoutsError}
use Rattle.witx_layout.specs.declared.table.LayoutsError.TheVariants as layouts_error
use Rattle.witx_adapt.specs.Adaptable.{IsAdaptable, RefusesDocument, UnlowerableAt, first_unlowered, layouts_refusal}
use Rattle.witx_adapt.proofs.Fitting.{all-faithful}

no-misfit : (m : Option Misfit) (u : Unit {0}) → Ok u ≡ tag_refusal m → m ≡ None
no-misfit None u h = refl
no-misfit (Some m) u h = cc

pub adaptable : (ds : List DefinitionTree) (u : Unit {0}) → Ok u ≡ tag_refusal (first_misfit ds) → first_large ds ≡ None → first_unlowered (all_functions ds) ≡ None → IsAdaptable ds
adaptable ds u t l f = record { fits = no-misfit (first_misfit ds) u t; sizes = l; lowerable = f }

pub narrow-refused : (ds : List DefinitionTree) (t : TagTooNarrow) (e : DocumentError) → Err t ≡ tag_refusal (first_misfit ds) → e ≡ document_error.TagTooNarrow t → RefusesDocument ds e
narrow-refused ds t e h q = subst (RefusesDocument ds) (sym q) (sym h)

pub large-refused : (ds : List DefinitionTree) (u : Unit {0}) (r : LayoutsError) (e : DocumentError) → Ok u ≡ tag_refusal (first_misfit ds) → TooLargeAt (first_large ds) r → e ≡ layouts_refusal r
    → RefusesDocument ds e
large-refused ds u (layouts_error.TooLarge n) e m h q = subst (RefusesDocument ds) (sym q) (no-misfit (first_misfit ds) u m, h)
large-refused ds u layouts_error.OutOfMemory e m h q = subst (RefusesDocument ds) (sym q) tt

pub lower-refused : (ds : List DefinitionTree) (u : Unit {0}) (e : DocumentError) → Ok u ≡ tag_refusal (first_misfit ds) → first_large ds ≡ None
    → UnlowerableAt (first_unlowered (all_functions ds)) e → RefusesDocument ds e
lower-refused ds u (document_error.TagTooNarrow t) m l h = absurd h
lower-refused ds u (document_error.TooLarge n) m l h = absurd h
lower-refused ds u (document_error.Unlowerable o f p) m l h = (no-misfit (first_misfit ds) u m, l, h)
lower-refused ds u document_error.OutOfMemory m l h = tt

pub memory-refused : (ds : List DefinitionTree) (e : DocumentError) → e ≡ document_error.OutOfMemory → RefusesDocument ds e
memory-refused ds e q = subst (RefusesDocument ds) (sym q) tt

pub every-pair : (ds : List DefinitionTree) (u : Unit {0}) (fs : List AdaptedFunc) → Ok u ≡ tag_refusal (first_misfit ds) → first_unlowered (all_functions ds) ≡ None
    → map entry_of fs ≡ map entry_for (all_functions ds) → IsClosed ds → All IsFaithful fs
every-pair ds u fs t l e = all-faithful ds fs e (no-misfit (first_misfit ds) u t) l

pub ruleset answer_rules = (adaptable, every-pair, narrow-refused, large-refused, lower-refused, memory-refused)
