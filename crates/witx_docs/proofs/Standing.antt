-- One more constant stands behind those of its type, and all others stay where they are.
use Rattle.std.specs.Prelude.{◌≡◌, ℕ, ◌+◌, ◌≤◌, ◌<◌, List, [], ◌∷◌, ◌++◌, Bool, true, false, cond, length, drop, map, Some, None, if◌then◌else◌}
use Rattle.std.specs.Option.{unwrap_or}
use Rattle.std.proofs.Common.{get_or, refl, sym, ap, ◌∙◌, append_assoc, append-nil, Bor}
use Rattle.std.proofs.lemmas.List.{drop_more, drop_all, map-append}
use Rattle.witx_base.specs.Found.{found}
use Rattle.witx_base.specs.Texts.{same_text}
use Rattle.witx_ast.proofs.EntryLaws.{is_key, key-decides, unlike}
use Rattle.witx_base.specs.SameBytes.{bytes-self}
use Rattle.witx_ast.specs.declared.definition.Constant.{Constant}
use Rattle.witx_ast.specs.declared.definition.Definition.{Definition}
use Rattle.witx_ast.specs.declared.definition.Definition.TheVariants as definition
use Rattle.witx_ast.specs.Definitions.{definition_tree}
use Rattle.witx_markdown.specs.Constants.{constants_in}
use Rattle.witx_docs.specs.Parts.{constants_of}
use Rattle.witx_docs.specs.ByType.{StandByType, standing}
use Rattle.witx_docs.proofs.DocumentParts.{other-definition}

-- the entries of such a map
abbrev pub Kept : Type 0
Kept = List (List ℕ × List (Bor Constant))

same-self : (a : List ℕ) → same_text a a ≡ true
unfolding same_text
same-self a = bytes-self a

-- the constants under a name that is that of the new one's type, or isn't
more : (b : Bool) (old mid new : Kept) (c : Bor Constant) (own grown : List (Bor Constant)) (name : List ℕ) → is_key c.now.ty name ≡ b
    → own ≡ unwrap_or (found old c.now.ty) [] → grown ≡ own ++ c ∷ [] → found mid name ≡ cond b None (found old name) → found new name ≡ cond b (Some grown) (found mid name)
    → standing new name ≡ standing old name ++ constants_of name (c.now ∷ [])
more true old mid new c own grown name k o g m n =
    let same : c.now.ty ≡ name = (key-decides c.now.ty name).0 k in
    let told : same_text name c.now.ty ≡ true = ap (same_text name) same ∙ same-self name in
    rw (n, g, o, told, map-append, same) refl
more false old mid new c own grown name k o g m n =
    let told : same_text name c.now.ty ≡ false = unlike name c.now.ty k in
    rw (n, m, told) (sym (append-nil (standing old name)))

pub stands-more : (old mid new : Kept) (c : Bor Constant) (own grown : List (Bor Constant))
    → own ≡ unwrap_or (found old c.now.ty) [] → grown ≡ own ++ c ∷ []
    → ((q : List ℕ) → found mid q ≡ cond (is_key c.now.ty q) None (found old q)) → ((q : List ℕ) → found new q ≡ cond (is_key c.now.ty q) (Some grown) (found mid q))
    → (name : List ℕ) → standing new name ≡ standing old name ++ constants_of name (c.now ∷ [])
stands-more old mid new c own grown o g m n name = more (is_key c.now.ty name) old mid new c own grown name refl o g (m name) (n name)

-- what stands already, with the constants from a definition on
abbrev pub StandUpTo : List Definition → ℕ → Kept → Type 0
StandUpTo ds i entries = (name : List ℕ) → standing entries name ++ constants_of name (constants_in (map definition_tree (drop i ds))) ≡ constants_of name (constants_in (map definition_tree ds))

pick : (b : Bool) (c : Constant) (cs : List Constant) → (if b then c ∷ cs else cs) ≡ (if b then c ∷ [] else []) ++ cs
pick true c cs = refl
pick false c cs = refl

pub none-stand : (ds : List Definition) → StandUpTo ds 0 []
none-stand ds name = refl

pub next-stands : (ds : List Definition) (i : ℕ) (d : Definition) (c : Constant) (old new : Kept) → i < length ds → d ≡ get_or ds i d → d ≡ definition.Constant c
    → ((name : List ℕ) → standing new name ≡ standing old name ++ constants_of name (c ∷ [])) → StandUpTo ds i old → StandUpTo ds (i + 1) new
next-stands ds i d c old new l p e n h name =
    let rest = constants_of name (constants_in (map definition_tree (drop (i + 1) ds))) in
    ap (λ s. s ++ rest) (n name) ∙ append_assoc (standing old name) (constants_of name (c ∷ [])) rest
    ∙ ap (λ s. standing old name ++ s) (sym (pick (same_text name c.ty) c rest)) ∙ rw (drop_more ds i d l, ← p, e) at (h name)

pub other-stands : (ds : List Definition) (i : ℕ) (d : Definition) (old : Kept) → i < length ds → d ≡ get_or ds i d → ((c : Constant) → d ≡ definition.Constant c → ⊥)
    → StandUpTo ds i old → StandUpTo ds (i + 1) old
other-stands ds i d old l p e h name = rw (other-definition ds i d l p e) at (h name)

pub all-stand : (ds : List Definition) (i : ℕ) (old : Kept) → length ds ≤ i → StandUpTo ds i old → StandByType old (constants_in (map definition_tree ds))
all-stand ds i old l h name = sym (append-nil (standing old name)) ∙ rw (drop_all i ds l) at (h name)

pub ruleset standing_rules = (none-stand, next-stands, other-stands, all-stand)
