-- `items-next`: a module's items are checked, and put in, one after the other.
use Rattle.std.specs.Prelude.{◌≡◌, ℕ, List, [], ◌∷◌, ◌++◌, ◌+◌, ◌<◌, ◌≤◌, length, drop, Option, Some, None, map, option_map, cond, Bool, true, false}
use Rattle.std.proofs.Common.{refl, sym, ap, subst, get_or, append_assoc, ◌∙◌}
use Rattle.std.proofs.lemmas.List.{drop_more, drop_all, map-append, append-nil}
use Rattle.std.specs.List.{IsDistinct}
use Rattle.std.specs.Ordering.{is_eq, nat_cmp}
use Rattle.std.specs.Cmp.Lexicographic.{slice_cmp}
use Rattle.witx_base.specs.Found.{found}
use Rattle.witx_comments.specs.declared.comment.Documented.{Documented}
use Rattle.witx_syntax_tree.specs.declared.tree.ModuleDeclSyntax.{ModuleDeclSyntax}
use Rattle.witx_ast.specs.Items.{ItemTree, import_of, func_of, item_tree, entry_item, item_name, ItemsFit}
use Rattle.witx_ast.specs.declared.module.ModuleDefinition.{ModuleDefinition}
use Rattle.witx_ast.specs.declared.module.ModuleEntry.{ModuleEntry}
use Rattle.witx_scope.specs.declared.error.CheckError.{CheckError}
use Rattle.witx_scope.specs.Blame.{Blames}
use Rattle.witx_scope.specs.Faults.{Fault, Check, first_fault, name_already_exists}
use Rattle.witx_scope.specs.Names.{Here, NameMarks, new_mark}
use Rattle.witx_syntax_tree.specs.Trees.{DeclTree, memory, function, NotedDecl}
use Rattle.witx_syntax_tree.specs.Views.{noted_decl}
use Rattle.witx_scope.specs.DeclarationForms.{items_in}
use Rattle.witx_scope.specs.Modules.{quoted_name, item_checks, with_name, items_checks, decl_meant, item_meant, item_called}
use Rattle.witx_scope.specs.Positions.{is_same_name}
use Rattle.witx_scope.proofs.FirstFaults.{fault-append, blames-append, blames-to, blames-head, fault-past}
use Rattle.witx_scope.proofs.Steps.{is_eq-swap}
use Rattle.witx_ast.specs.Entries.{Fits}
use Rattle.witx_check.proofs.Fits.{fits-more}

-- ---- one item

pub one-check : (c : Check) → c ≡ None → first_fault (c ∷ []) ≡ None
one-check c e = fault-past c [] e

pub one-blame : (e : CheckError) (c : Check) → Blames e c → Blames e (first_fault (c ∷ []))
one-blame e c b = blames-head e c [] b

pub ruleset item_rules = (one-check, one-blame)

-- ---- the entry of an item

entry-cond : (c : Bool) (a b : Option ModuleEntry) → option_map entry_item (cond c a b) ≡ cond c (option_map entry_item a) (option_map entry_item b)
entry-cond true a b = refl
entry-cond false a b = refl

pub item-entries : (old new : List (List ℕ × ModuleEntry)) (e : ModuleEntry) (k q : List ℕ)
    → found new q ≡ cond (is_eq (slice_cmp nat_cmp k q)) (Some e) (found old q)
    → option_map entry_item (found new q) ≡ cond (is_same_name q k) (Some (entry_item e)) (option_map entry_item (found old q))
item-entries old new e k q h =
    let h1 = rw (is_eq-swap k q) at h in
    ap (option_map entry_item) h1 ∙ entry-cond (is_same_name q k) (Some e) (found old q)

-- the same for an item that the entry and the name are those of
pub item-entries-named : (old new : List (List ℕ × ModuleEntry)) (e : ModuleEntry) (k : List ℕ) (t : ItemTree)
    → entry_item e ≡ t → k ≡ item_called t
    → ((q : List ℕ) → found new q ≡ cond (is_eq (slice_cmp nat_cmp k q)) (Some e) (found old q))
    → (q : List ℕ) → option_map entry_item (found new q) ≡ cond (is_same_name q (item_called t)) (Some t) (option_map entry_item (found old q))
item-entries-named old new e k t a b h q =
    item-entries old new e k q (h q)
    ∙ (ap (λ (x : ItemTree). cond (is_same_name q k) (Some x) (option_map entry_item (found old q))) a
    ∙ ap (λ (x : List ℕ). cond (is_same_name q x) (Some t) (option_map entry_item (found old q))) b)

pub ruleset entry_rules = (item-entries)

-- ---- all items

pub items-drop : (ds : List (Documented ModuleDeclSyntax)) (i : ℕ) (d : Documented ModuleDeclSyntax) → i < length ds → d ≡ get_or ds i d
    → items_in (drop i ds) ≡ noted_decl d ∷ items_in (drop (i + 1) ds)
items-drop ds i d l p = rw (drop_more ds i d l, ← p) refl

pub items-end : (ds : List (Documented ModuleDeclSyntax)) (i : ℕ) → length ds ≤ i → items_in (drop i ds) ≡ []
items-end ds i l = rw (drop_all i ds l) refl

-- scopes that answer alike give the same checks
pub item-alike : (h : Here) (a b : NameMarks) (d : DeclTree) → ((q : List ℕ) → found a q ≡ found b q) → item_checks h a d ≡ item_checks h b d
item-alike h a b (memory name) s = rw (s name.text) refl
item-alike h a b (function name params results noreturn stored) s = rw (s name.text) refl

pub items-alike : (h : Here) (a b : NameMarks) (items : List NotedDecl) → ((q : List ℕ) → found a q ≡ found b q) → items_checks h a items ≡ items_checks h b items
items-alike h a b [] s = refl
items-alike h a b (item ∷ items) s =
    let e = items-alike h (with_name item.decl a) (with_name item.decl b) items (λ q. rw (s q) refl) in
    rw (item-alike h a b item.decl s, e) refl

pub items-next : (h : Here) (ds : List (Documented ModuleDeclSyntax)) (i : ℕ) (d : Documented ModuleDeclSyntax) (old new : NameMarks) (x : Option Fault)
    → i < length ds → d ≡ get_or ds i d
    → first_fault (items_checks h old (items_in (drop i ds))) ≡ x
    → first_fault (item_checks h old (noted_decl d).decl) ≡ None
    → ((q : List ℕ) → found new q ≡ found (with_name (noted_decl d).decl old) q)
    → first_fault (items_checks h new (items_in (drop (i + 1) ds))) ≡ x
items-next h ds i d old new x l p e n k =
    let item = noted_decl d in
    let rest = items_in (drop (i + 1) ds) in
    let e1 = rw (items-drop ds i d l p) at e in
    ap first_fault (items-alike h new (with_name item.decl old) rest k)
    ∙ (sym (fault-append (item_checks h old item.decl) (items_checks h (with_name item.decl old) rest) n) ∙ e1)

pub items-wrong : (h : Here) (ds : List (Documented ModuleDeclSyntax)) (i : ℕ) (d : Documented ModuleDeclSyntax) (old : NameMarks) (e : CheckError) (x : Option Fault)
    → i < length ds → d ≡ get_or ds i d
    → first_fault (items_checks h old (items_in (drop i ds))) ≡ x
    → Blames e (first_fault (item_checks h old (noted_decl d).decl))
    → Blames e x
items-wrong h ds i d old e x l p q b =
    let item = noted_decl d in
    let rest = items_checks h (with_name item.decl old) (items_in (drop (i + 1) ds)) in
    let q1 = rw (items-drop ds i d l p) at q in
    blames-to e (first_fault (item_checks h old item.decl ++ rest)) x q1 (blames-append e (item_checks h old item.decl) rest b)

pub items-none : (h : Here) (ds : List (Documented ModuleDeclSyntax)) (i : ℕ) (old : NameMarks) (x : Option Fault)
    → length ds ≤ i → first_fault (items_checks h old (items_in (drop i ds))) ≡ x → x ≡ None
items-none h ds i old x l q = sym (rw (items-end ds i l) at q)

pub meant-next : (h : Here) (ds : List (Documented ModuleDeclSyntax)) (i : ℕ) (d : Documented ModuleDeclSyntax) (ms new : List ModuleDefinition) (m : ModuleDefinition) (x : List ItemTree)
    → i < length ds → d ≡ get_or ds i d
    → map item_tree ms ++ map (item_meant h) (items_in (drop i ds)) ≡ x
    → item_tree m ≡ item_meant h (noted_decl d)
    → new ≡ ms ++ m ∷ []
    → map item_tree new ++ map (item_meant h) (items_in (drop (i + 1) ds)) ≡ x
meant-next h ds i d ms new m x l p e k a =
    let e1 = rw (items-drop ds i d l p) at e in
    rw (a, map-append item_tree ms (m ∷ []), append_assoc, k) e1

pub meant-end : (h : Here) (ds : List (Documented ModuleDeclSyntax)) (i : ℕ) (ms : List ModuleDefinition) (x : List ItemTree)
    → length ds ≤ i → map item_tree ms ++ map (item_meant h) (items_in (drop i ds)) ≡ x → map item_tree ms ≡ x
meant-end h ds i ms x l e = let e1 = rw (items-end ds i l, append-nil) at e in e1

-- ---- the entries fit

no-mark : (o : Option ℕ) (h : Here) (n : List ℕ) (at : ℕ) → option_map (λ (earlier : ℕ). name_already_exists n (h.place at) (h.place earlier)) o ≡ None → o ≡ None
no-mark None h n at e = refl
no-mark (Some p) h n at e = absurd (cc)

head-none : (c : Check) (cs : List Check) → first_fault (c ∷ cs) ≡ None → c ≡ None
head-none None cs e = refl
head-none (Some f) cs e = absurd (cc)

-- an item whose checks pass has a new name
pub item-new : (h : Here) (old : NameMarks) (d : DeclTree) → first_fault (item_checks h old d) ≡ None → found old (quoted_name d).text ≡ None
item-new h old (memory name) e = no-mark (found old name.text) h name.text name.start (head-none (new_mark h old name.text name.start) [] e)
item-new h old (function name params results noreturn stored) e = no-mark (found old name.text) h name.text name.start (head-none (new_mark h old name.text name.start) _ e)

called-meant : (h : Here) (comments : List (List ℕ)) (d : DeclTree) → item_called (decl_meant h comments d) ≡ (quoted_name d).text
called-meant h comments (memory name) = refl
called-meant h comments (function name params results noreturn stored) = refl

called-name : (t : ItemTree) → item_name t ≡ Some (item_called t)
called-name (import_of i) = refl
called-name (func_of f) = refl

-- what the marks and the entries say of the names so far
pub record Named (marks : NameMarks) (entries : List (List ℕ × ModuleEntry)) : Type 0 where
  pub absent : (q : List ℕ) → found marks q ≡ None → option_map entry_item (found entries q) ≡ None

cond-none : {V : Type 0} (c : Bool) (a : V) (b : Option V) → cond c (Some a) b ≡ None → (c ≡ false) × (b ≡ None)
cond-none true a b e = absurd (cc)
cond-none false a b e = (refl, e)

pub named-next : (h : Here) (item : NotedDecl) (made : ItemTree) (old new : NameMarks) (es es2 : List (List ℕ × ModuleEntry))
    → made ≡ item_meant h item
    → Named old es
    → ((q : List ℕ) → found new q ≡ found (with_name item.decl old) q)
    → ((q : List ℕ) → option_map entry_item (found es2 q) ≡ cond (is_same_name q (item_called made)) (Some made) (option_map entry_item (found es q)))
    → Named new es2
named-next h item made old new es es2 e named k m = record {
  absent = λ q gone.
      let p = cond-none (is_same_name q (quoted_name item.decl).text) (quoted_name item.decl).start (found old q) (sym (k q) ∙ gone) in
      m q ∙ (ap (λ (n : List ℕ). cond (is_same_name q n) (Some made) (option_map entry_item (found es q))) (ap item_called e ∙ called-meant h item.comments item.decl)
      ∙ (ap (λ (c : Bool). cond c (Some made) (option_map entry_item (found es q))) p.0 ∙ named.absent q p.1));
}

pub items-fit-next : (h : Here) (ds : List ModuleDefinition) (item : NotedDecl) (made : ModuleDefinition) (new : List ModuleDefinition) (old : NameMarks) (es es2 : List (List ℕ × ModuleEntry))
    → ItemsFit ds es
    → Named old es
    → first_fault (item_checks h old item.decl) ≡ None
    → item_tree made ≡ item_meant h item
    → new ≡ ds ++ made ∷ []
    → ((q : List ℕ) → option_map entry_item (found es2 q) ≡ cond (is_same_name q (item_called (item_tree made))) (Some (item_tree made)) (option_map entry_item (found es q)))
    → ItemsFit new es2
items-fit-next h ds item made new old es es2 fits named passed e a m =
    let called : item_called (item_tree made) ≡ (quoted_name item.decl).text = ap item_called e ∙ called-meant h item.comments item.decl in
    let gone : option_map entry_item (found es (item_called (item_tree made))) ≡ None
    = subst (λ (n : List ℕ). option_map entry_item (found es n) ≡ None) (sym called) (named.absent (quoted_name item.decl).text (item-new h old item.decl passed)) in
    subst (λ (l : List ItemTree). Fits item_name entry_item l es2) (sym (ap (map item_tree) a ∙ map-append item_tree ds (made ∷ [])))
    (fits-more item_name entry_item (map item_tree ds) (item_tree made) (item_called (item_tree made)) es es2 (called-name (item_tree made)) fits gone m)

pub nothing-fits : ItemsFit [] []
unfolding IsDistinct
nothing-fits = record { distinct = tt; holds = λ q. refl }

pub nothing-named : Named [] []
nothing-named = record { absent = λ q e. refl }

pub ruleset items_rules = (items-next, items-wrong, items-none, meant-next, meant-end, named-next, items-fit-next, nothing-fits, nothing-named)
