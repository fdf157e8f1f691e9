-- The text of a page, content by content; and links to the same ids are the same.
use Rattle.std.specs.Prelude.{◌≡◌, ℕ, ◌+◌, ◌≤◌, ◌<◌, List, [], ◌∷◌, ◌++◌, length, drop, Option, Some, None, if◌then◌else◌}
use Rattle.std.specs.List.{flat_map, list_any}
use Rattle.std.proofs.Common.{get_or, refl, sym, ap, ◌∙◌, append_assoc, append-nil}
use Rattle.std.proofs.lemmas.List.{drop_more, drop_all}
use Rattle.witx_base.specs.Texts.{same_text}
use Rattle.witx_markdown.specs.declared.content.MdContent.{MdContent}
use Rattle.witx_markdown.specs.Contents.{content_text, content_docs, content_with_docs}
use Rattle.witx_markdown.specs.Links.{dotted, link, link_to, quoted_link, linked_pieces, missing_pieces, missing_if, pieces, docs_linked, with_links, missing_in_docs, missing_in}
use Rattle.witx_docs.specs.Pages.{text_with, missing_with}

pub next-flat : {X A : Type 0} (f : X → List A) (xs : List X) (i : ℕ) (x : X) (before all : List A) → i < length xs → x ≡ get_or xs i x
    → before ++ flat_map f (drop i xs) ≡ all → (before ++ f x) ++ flat_map f (drop (i + 1) xs) ≡ all
next-flat f xs i x before all l p e = append_assoc before (f x) (flat_map f (drop (i + 1) xs)) ∙ (rw (drop_more xs i x l, ← p) at e)

pub all-flat : {X A : Type 0} (f : X → List A) (xs : List X) (i : ℕ) (before all : List A) → length xs ≤ i → before ++ flat_map f (drop i xs) ≡ all → before ≡ all
all-flat f xs i before all l e = sym (append-nil before) ∙ (rw (drop_all i xs l) at e)

flat-same : {X A : Type 0} (f g : X → List A) (xs : List X) → ((x : X) → f x ≡ g x) → flat_map f xs ≡ flat_map g xs
flat-same f g [] h = refl
flat-same f g (x ∷ xs) h = ap (λ ys. ys ++ flat_map f xs) (h x) ∙ ap (λ ys. g x ++ ys) (flat-same f g xs h)

-- two lists of ids tell the same names
abbrev pub TellSame : List (List ℕ) → List (List ℕ) → Type 0
TellSame ks js = (q : List ℕ) → list_any (same_text q) ks ≡ list_any (same_text q) js

link-same : (ks js : List (List ℕ)) (x : List ℕ) → TellSame ks js → link ks x ≡ link js x
link-same ks js x h = ap (λ b. if b then link_to x (dotted x) else quoted_link x) (h (dotted x))

missing-same : (ks js : List (List ℕ)) (x : List ℕ) → TellSame ks js → missing_if ks x ≡ missing_if js x
missing-same ks js x h = ap (λ b. if b then [] else x ∷ []) (h (dotted x))

pieces-same : (ks js : List (List ℕ)) (ps : List (List ℕ)) → TellSame ks js → linked_pieces ks ps ≡ linked_pieces js ps
pieces-same ks js [] h = refl
pieces-same ks js (p ∷ []) h = refl
pieces-same ks js (p ∷ x ∷ []) h = refl
pieces-same ks js (p ∷ x ∷ q ∷ rest) h =
    ap (λ t. p ++ (t ++ linked_pieces ks (q ∷ rest))) (link-same ks js x h) ∙ ap (λ t. p ++ (link js x ++ t)) (pieces-same ks js (q ∷ rest) h)

names-same : (ks js : List (List ℕ)) (ps : List (List ℕ)) → TellSame ks js → missing_pieces ks ps ≡ missing_pieces js ps
names-same ks js [] h = refl
names-same ks js (p ∷ []) h = refl
names-same ks js (p ∷ x ∷ []) h = refl
names-same ks js (p ∷ x ∷ q ∷ rest) h =
    ap (λ t. t ++ missing_pieces ks (q ∷ rest)) (missing-same ks js x h) ∙ ap (λ t. missing_if js x ++ t) (names-same ks js (q ∷ rest) h)

docs-same : (ks js : List (List ℕ)) (c : MdContent) (o : Option (List ℕ)) → TellSame ks js → docs_linked ks c o ≡ docs_linked js c o
docs-same ks js c None h = refl
docs-same ks js c (Some docs) h = ap (content_with_docs c) (pieces-same ks js (pieces docs) h)

in-docs-same : (ks js : List (List ℕ)) (o : Option (List ℕ)) → TellSame ks js → missing_in_docs ks o ≡ missing_in_docs js o
in-docs-same ks js None h = refl
in-docs-same ks js (Some docs) h = names-same ks js (pieces docs) h

pub text-same : (ks js : List (List ℕ)) (cs : List MdContent) → TellSame ks js → text_with ks cs ≡ text_with js cs
text-same ks js cs h =
    flat-same (λ c. content_text (with_links ks c)) (λ c. content_text (with_links js c)) cs (λ c. ap content_text (docs-same ks js c (content_docs c) h))

pub missing-links-same : (ks js : List (List ℕ)) (cs : List MdContent) → TellSame ks js → missing_with ks cs ≡ missing_with js cs
missing-links-same ks js cs h = flat-same (missing_in ks) (missing_in js) cs (λ c. in-docs-same ks js (content_docs c) h)
