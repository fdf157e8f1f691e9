-- A copy of definitions and of the entries that fit them fits again (`fits-copied`), and is equal.
use Rattle.std.specs.Prelude.{◌≡◌, ℕ, List, [], ◌∷◌, Bool, true, false, ◌&&◌, cond, Option, Some, option_map, map}
use Rattle.std.proofs.Common.{refl, ap, ◌∙◌}
use Rattle.std.specs.Ordering.{is_eq, nat_cmp}
use Rattle.std.specs.Cmp.Lexicographic.{slice_cmp, pointwise}
use Rattle.std.specs.List.{AllZip}
use Rattle.witx_base.specs.Found.{found}
use Rattle.witx_base.specs.Copies.{IsCopyOfEntries}
use Rattle.witx_ast.specs.Entries.{Fits}
use Rattle.witx_ast.proofs.Copied.{copied}
use Rattle.witx_ast.specs.Copies.{HoldSameItem, HoldSameItemEntry, HoldSame, HoldSameEntry}
use Rattle.witx_base.specs.SameBytes.{same_bytes, bytes-self}
use Rattle.witx_ast.specs.Views.{tree_of}
use Rattle.witx_ast.specs.Functions.{func_tree}
use Rattle.witx_ast.specs.Items.{import_of, func_of, item_tree, entry_item, ItemsFit}
use Rattle.witx_ast.specs.Definitions.{typename_of, module_of, constant_of, module_tree, definition_tree, entry_tree, DefinitionsFit}
use Rattle.witx_ast.specs.declared.module.ModuleDefinition.{ModuleDefinition}
use Rattle.witx_ast.specs.declared.module.ModuleDefinition.TheVariants as item
use Rattle.witx_ast.specs.declared.module.ModuleEntry.{ModuleEntry}
use Rattle.witx_ast.specs.declared.module.ModuleEntry.TheVariants as item_entry
use Rattle.witx_ast.specs.declared.definition.Definition.{Definition}
use Rattle.witx_ast.specs.declared.definition.Definition.TheVariants as definition
use Rattle.witx_ast.specs.declared.definition.Entry.{Entry}
use Rattle.witx_ast.specs.declared.definition.Entry.TheVariants as entry
use Rattle.witx_ast.specs.contracts.definition.DefinitionPartialEq.TheImpl as definitions
use Rattle.witx_ast.specs.contracts.definition.EntryPartialEq.TheImpl as entries
use Rattle.witx_ast.specs.contracts.module.ModuleDefinitionPartialEq.TheImpl as items
use Rattle.witx_ast.specs.contracts.module.ModuleEntryPartialEq.TheImpl as item_entries
use Rattle.witx_ast.specs.contracts.types.NamedTypeEq.TheImpl.Laws as typename_laws
use Rattle.witx_ast.specs.contracts.module.ModuleEq.TheImpl.Laws as module_laws
use Rattle.witx_ast.specs.contracts.definition.ConstantEq.TheImpl.Laws as constant_laws
use Rattle.witx_ast.specs.contracts.module.ModuleImportEq.TheImpl.Laws as import_laws
use Rattle.witx_ast.specs.contracts.function.InterfaceFuncEq.TheImpl.Laws as func_laws

pub pick-copied : {V T : Type 0} (tree : V → T) (b : Bool) (v m : V) (o p : Option V) → tree m ≡ tree v → option_map tree p ≡ option_map tree o
    → option_map tree (cond b (Some m) p) ≡ option_map tree (cond b (Some v) o)
pick-copied tree true v m o p e h = ap Some e
pick-copied tree false v m o p e h = h

-- a name finds the same in the copies
pub found-copied : {V T : Type 0} (tree : V → T) (es cs : List (List ℕ × V)) → IsCopyOfEntries (λ v m. tree m ≡ tree v) es cs → (n : List ℕ)
    → option_map tree (found cs n) ≡ option_map tree (found es n)
found-copied tree [] [] h n = refl
found-copied tree [] (c ∷ cs) h n = absurd h
found-copied tree (e ∷ es) [] h n = absurd h
found-copied tree (e ∷ es) (c ∷ cs) h n =
    rw h.0.0 (pick-copied tree (is_eq (slice_cmp nat_cmp n e.0)) e.1 c.1 (found es n) (found cs n) h.0.1 (found-copied tree es cs h.1 n))

pub fits-copied : {T E : Type 0} (name_of : T → Option (List ℕ)) (tree : E → T) (ts us : List T) (es cs : List (List ℕ × E))
    → Fits name_of tree ts es → us ≡ ts → IsCopyOfEntries (λ v m. tree m ≡ tree v) es cs → Fits name_of tree us cs
fits-copied name_of tree ts us es cs fits same copy = record {
  distinct = rw same fits.distinct;
  holds = λ n. rw same (found-copied tree es cs copy n ∙ fits.holds n);
}

-- what holds the same reads as the same tree
pub item-reads : (d c : ModuleDefinition) → HoldSameItem d c → item_tree c ≡ item_tree d
item-reads (item.Import i) (item.Import j) h = ap import_of h
item-reads (item.Func f) (item.Func g) h = ap (λ g. func_of (func_tree g)) h
item-reads _ _ h = absurd h

pub item-entry-reads : (d c : ModuleEntry) → HoldSameItemEntry d c → entry_item c ≡ entry_item d
item-entry-reads (item_entry.Import i) (item_entry.Import j) h = ap import_of h
item-entry-reads (item_entry.Func f) (item_entry.Func g) h = ap (λ g. func_of (func_tree g)) h
item-entry-reads _ _ h = absurd h

pub definition-reads : (d c : Definition) → HoldSame d c → definition_tree c ≡ definition_tree d
definition-reads (definition.Typename n) (definition.Typename m) h = ap (λ m. typename_of m.name (tree_of m.tref) m.docs) h
definition-reads (definition.Module n) (definition.Module m) h = ap (λ m. module_of (module_tree m)) h
definition-reads (definition.Constant k) (definition.Constant c) h = ap constant_of h
definition-reads _ _ h = absurd h

pub entry-reads : (d c : Entry) → HoldSameEntry d c → entry_tree c ≡ entry_tree d
entry-reads (entry.Typename n) (entry.Typename m) h = ap (λ m. typename_of m.name (tree_of m.tref) m.docs) h
entry-reads (entry.Module n) (entry.Module m) h = ap (λ m. module_of (module_tree m)) h
entry-reads _ _ h = absurd h

zip-reads : {A B : Type 0} (P Q : A → B → Type 0) → ((a : A) (b : B) → P a b → Q a b) → (xs : List A) (ys : List B) → AllZip P xs ys → AllZip Q xs ys
zip-reads P Q k [] [] h = tt
zip-reads P Q k [] (y ∷ ys) h = absurd h
zip-reads P Q k (x ∷ xs) [] h = absurd h
zip-reads P Q k (x ∷ xs) (y ∷ ys) h = (k x y h.0, zip-reads P Q k xs ys h.1)

entries-read : {V T : Type 0} (P : V → V → Type 0) (tree : V → T) → ((v m : V) → P v m → tree m ≡ tree v)
    → (es cs : List (List ℕ × V)) → IsCopyOfEntries P es cs → IsCopyOfEntries (λ v m. tree m ≡ tree v) es cs
entries-read {V} P tree k es cs h =
    zip-reads {A = List ℕ × V} {B = List ℕ × V} (λ e c. (c.0 ≡ e.0) × P e.1 c.1) (λ e c. (c.0 ≡ e.0) × (tree c.1 ≡ tree e.1)) (λ e c p. (p.0, k e.1 c.1 p.1)) es cs h

pub items-read : (ds made : List ModuleDefinition) → AllZip HoldSameItem ds made → map item_tree made ≡ map item_tree ds
items-read ds made h = copied item_tree ds made (zip-reads HoldSameItem (λ d c. item_tree c ≡ item_tree d) item-reads ds made h)

pub definitions-read : (ds made : List Definition) → AllZip HoldSame ds made → map definition_tree made ≡ map definition_tree ds
definitions-read ds made h = copied definition_tree ds made (zip-reads HoldSame (λ d c. definition_tree c ≡ definition_tree d) definition-reads ds made h)

pub items-fit : (ds made : List ModuleDefinition) (es cs : List (List ℕ × ModuleEntry)) → ItemsFit ds es → AllZip HoldSameItem ds made
    → IsCopyOfEntries HoldSameItemEntry es cs → ItemsFit made cs
items-fit ds made es cs fits copy entries =
    fits-copied _ entry_item (map item_tree ds) (map item_tree made) es cs fits (items-read ds made copy) (entries-read HoldSameItemEntry entry_item item-entry-reads es cs entries)

pub definitions-fit : (ds made : List Definition) (es cs : List (List ℕ × Entry)) → DefinitionsFit ds es → AllZip HoldSame ds made
    → IsCopyOfEntries HoldSameEntry es cs → DefinitionsFit made cs
definitions-fit ds made es cs fits copy entries =
    fits-copied _ entry_tree (map definition_tree ds) (map definition_tree made) es cs fits (definitions-read ds made copy) (entries-read HoldSameEntry entry_tree entry-reads es cs entries)

-- what holds the same is equal
pub definition-equal : (d c : Definition) → HoldSame d c → definitions.ghosts.eq c d ≡ true
definition-equal (definition.Typename n) (definition.Typename m) h = rw h (typename_laws.laws-law.refl n.value)
definition-equal (definition.Module n) (definition.Module m) h = rw h (module_laws.laws-law.refl n.value)
definition-equal (definition.Constant k) (definition.Constant c) h = rw h (constant_laws.laws-law.refl k)
definition-equal _ _ h = absurd h

pub entry-equal : (e c : Entry) → HoldSameEntry e c → entries.ghosts.eq c e ≡ true
entry-equal (entry.Typename n) (entry.Typename m) h = rw h (typename_laws.laws-law.refl n.value)
entry-equal (entry.Module n) (entry.Module m) h = rw h (module_laws.laws-law.refl n.value)
entry-equal _ _ h = absurd h

pub item-equal : (d c : ModuleDefinition) → HoldSameItem d c → items.ghosts.eq c d ≡ true
item-equal (item.Import i) (item.Import j) h = rw h (import_laws.laws-law.refl i.value)
item-equal (item.Func f) (item.Func g) h = rw h (func_laws.laws-law.refl f.value)
item-equal _ _ h = absurd h

pub item-entry-equal : (e c : ModuleEntry) → HoldSameItemEntry e c → item_entries.ghosts.eq c e ≡ true
item-entry-equal (item_entry.Import i) (item_entry.Import j) h = rw h (import_laws.laws-law.refl i.value)
item-entry-equal (item_entry.Func f) (item_entry.Func g) h = rw h (func_laws.laws-law.refl f.value)
item-entry-equal _ _ h = absurd h

pub both-hold : (a b : Bool) → a ≡ true → b ≡ true → a && b ≡ true
both-hold a b h k = rw (h, k) refl

pub list-equal : {A : Type 0} (eq : A → A → Bool) (P : A → A → Type 0) → ((x y : A) → P x y → eq y x ≡ true)
    → (xs ys : List A) → AllZip P xs ys → pointwise eq ys xs ≡ true
list-equal eq P k [] [] h = refl
list-equal eq P k [] (y ∷ ys) h = absurd h
list-equal eq P k (x ∷ xs) [] h = absurd h
list-equal eq P k (x ∷ xs) (y ∷ ys) h = both-hold (eq y x) (pointwise eq ys xs) (k x y h.0) (list-equal eq P k xs ys h.1)

names-equal : (m n : List ℕ) → m ≡ n → same_bytes m n ≡ true
names-equal m n e = rw e (bytes-self n)

map-equal : {V : Type 0} (eq : V → V → Bool) (P : V → V → Type 0) → ((v m : V) → P v m → eq m v ≡ true)
    → (es cs : List (List ℕ × V)) → IsCopyOfEntries P es cs → pointwise (λ p q. same_bytes p.0 q.0 && eq p.1 q.1) cs es ≡ true
map-equal {V} eq P k es cs h =
    list-equal {A = List ℕ × V} (λ p q. same_bytes p.0 q.0 && eq p.1 q.1) (λ e c. (c.0 ≡ e.0) × P e.1 c.1)
    (λ e c p. both-hold (same_bytes c.0 e.0) (eq c.1 e.1) (names-equal c.0 e.0 p.0) (k e.1 c.1 p.1)) es cs h

pub definitions-equal : (ds made : List Definition) → AllZip HoldSame ds made → pointwise definitions.ghosts.eq made ds ≡ true
definitions-equal ds made h = list-equal definitions.ghosts.eq HoldSame definition-equal ds made h

pub entries-equal : (es made : List (List ℕ × Entry)) → IsCopyOfEntries HoldSameEntry es made
    → pointwise (λ p q. same_bytes p.0 q.0 && entries.ghosts.eq p.1 q.1) made es ≡ true
entries-equal es made h = map-equal entries.ghosts.eq HoldSameEntry entry-equal es made h

pub item-entries-equal : (es made : List (List ℕ × ModuleEntry)) → IsCopyOfEntries HoldSameItemEntry es made
    → pointwise (λ p q. same_bytes p.0 q.0 && item_entries.ghosts.eq p.1 q.1) made es ≡ true
item-entries-equal es made h = map-equal item_entries.ghosts.eq HoldSameItemEntry item-entry-equal es made h

pub text-equal : (m n : List ℕ) → m ≡ n → same_bytes m n ≡ true
text-equal m n e = names-equal m n e
