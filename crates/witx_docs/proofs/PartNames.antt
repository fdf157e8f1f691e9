-- What is known of the names in a type is known of those in its cases and in members that are placed.
use Rattle.std.specs.Prelude.{◌≡◌, ℕ, ◌+◌, ◌<◌, List, length, drop, option_map, Option, Some, None}
use Rattle.std.proofs.Common.{get_or, refl}
use Rattle.std.proofs.lemmas.List.{drop_more}
use Rattle.witx_ast.specs.Views.{tree_of, case_arm}
use Rattle.witx_ast.proofs.Trees.{tree-RecordMember, tree-Case}
use Rattle.witx_ast.specs.declared.types.Case.{Case}
use Rattle.witx_ast.specs.declared.types.TypeRef.{TypeRef}
use Rattle.witx_layout.specs.declared.members.RecordMemberLayout.{RecordMemberLayout}
use Rattle.witx_markdown.specs.declared.named_layouts.NamedLayouts.{NamedLayouts}
use Rattle.witx_markdown.specs.declared.named_layouts.NamedLayouts.TheVariants as layouts
use Rattle.witx_markdown.specs.NamesKnown.{NamesKnown, FieldNamesKnown, PayloadKnown}
use Rattle.witx_markdown.proofs.NameSteps.{LeftCasesKnown, name-in, value-in, record-in, variant-in, members-in, cases-in, payload-in, cases-left, bare-left}
use Rattle.witx_docs.specs.Parts.{placed_fields}

-- one case, with or without a payload
payload-known' : (names : NamedLayouts) (xs : List Case) (i : ℕ) (c : Case) (o : Option TypeRef) → i < length xs → c ≡ get_or xs i c → c.tref ≡ o
    → LeftCasesKnown names xs i → PayloadKnown names (option_map tree_of o)
payload-known' names xs i c None l p e h = tt
payload-known' names xs i c (Some t) l p e h = payload-in names xs i c t l p e h

pub case-in : (names : NamedLayouts) (xs : List Case) (i : ℕ) (c : Case) → i < length xs → c ≡ get_or xs i c → LeftCasesKnown names xs i → PayloadKnown names (case_arm c).payload
case-in names xs i c l p h = rw (tree-Case c) (payload-known' names xs i c c.tref l p refl h)

left-case : (names : NamedLayouts) (xs : List Case) (i : ℕ) (c : Case) (o : Option TypeRef) → i < length xs → c ≡ get_or xs i c → c.tref ≡ o
    → LeftCasesKnown names xs i → LeftCasesKnown names xs (i + 1)
left-case names xs i c None l p e h = bare-left names xs i c l p e h
left-case names xs i c (Some t) l p e h = cases-left names xs i c t l p e h

pub next-cases : (names : NamedLayouts) (xs : List Case) (i : ℕ) (c : Case) → i < length xs → c ≡ get_or xs i c → LeftCasesKnown names xs i → LeftCasesKnown names xs (i + 1)
next-cases names xs i c l p h = left-case names xs i c c.tref l p refl h

-- members that are placed
pub placed-in : (names : NamedLayouts) (ls : List RecordMemberLayout) (i : ℕ) (l : RecordMemberLayout) → i < length ls → l ≡ get_or ls i l
    → FieldNamesKnown names (placed_fields (drop i ls)) → NamesKnown names (tree_of l.member.now.tref)
placed-in (layouts.Kept table) ls i l s p h = (rw (drop_more ls i l s, ← p, tree-RecordMember l.member.now) at h).0
placed-in layouts.LookedThrough ls i l s p h = tt

pub placed-left : (names : NamedLayouts) (ls : List RecordMemberLayout) (i : ℕ) (l : RecordMemberLayout) → i < length ls → l ≡ get_or ls i l
    → FieldNamesKnown names (placed_fields (drop i ls)) → FieldNamesKnown names (placed_fields (drop (i + 1) ls))
placed-left (layouts.Kept table) ls i l s p h = (rw (drop_more ls i l s, ← p, tree-RecordMember l.member.now) at h).1
placed-left layouts.LookedThrough ls i l s p h = tt

pub ruleset name_steps = (name-in, value-in, record-in, variant-in, members-in, cases-in, placed-left, next-cases)
