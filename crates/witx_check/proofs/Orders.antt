-- `typename-stands`: in the type of a declaration each name is that of a typename that stands before it.
use Rattle.std.specs.Prelude.{◌≡◌, ℕ, List, [], ◌∷◌, ◌++◌, ◌+◌, Option, Some, None, option_map, map, cond, Bool, true, false}
use Rattle.std.specs.Option.{option_and_then}
use Rattle.std.proofs.Common.{refl, sym, ap, subst, ◌∙◌, append_assoc}
use Rattle.std.proofs.lemmas.List.{append-nil}
use Rattle.std.proofs.lemmas.Map.Lookups.{exact_bytes}
use Rattle.std.proofs.lemmas.Map.Views.{tells_apart}
use Rattle.std.specs.List.{cons_option}
use Rattle.witx_base.specs.Found.{found}
use Rattle.witx_base.specs.Texts.{same_text}
use Rattle.witx_files.specs.declared.location.Location.{Location}
use Rattle.witx_syntax_tree.specs.Trees as syntax
use Rattle.witx_ast.specs.Tree.{Tree, Arms, Field, Arm, arm, arms_of, fields_of}
use Rattle.witx_ast.specs.Views.{tree_of}
use Rattle.witx_ast.proofs.Trees.{tree-NamedType}
use Rattle.witx_ast.specs.Entries.{by_name, Fits}
use Rattle.witx_ast.specs.Definitions.{DefinitionTree, typename_of, module_of, introduced, entry_tree, as_typename}
use Rattle.witx_ast.specs.Ordered.{NamesStand, FieldNamesStand, ArmNamesStand, DefinitionStands, OrderedAfter, IsOrdered}
use Rattle.witx_ast.specs.Closed.{ParamNamesStand, ItemNamesStand, AllNamesStand, ClosedAfter, IsClosed}
use Rattle.witx_ast.specs.Items.{ItemTree}
use Rattle.witx_scope.specs.Modules.{decl_meant, item_meant}
use Rattle.witx_scope.specs.Inside.{module_meant}
use Rattle.witx_ast.specs.declared.definition.Entry.{Entry}
use Rattle.witx_ast.specs.declared.definition.Entry.TheVariants as entry
use Rattle.witx_scope.specs.Names.{Here, Sense, sense_tree, Names}
use Rattle.witx_scope.specs.Senses.{kept_sense, sense_at}
use Rattle.witx_scope.specs.Tags.{tag_names}
use Rattle.witx_scope.specs.Trees.{tree_meant, maybe_tree, types_meant, union_arms, fields_meant, case_arms, in_order, arm_called, member_arm, flag_field}
use Rattle.witx_scope.specs.Positions.{is_same_name}

-- ---- each definition is found under its own name

module _ {T : Type 0} (name_of : T → Option (List ℕ)) where
  key-cond : (c : Bool) (s t : T) (n q : List ℕ) (rest : Option T) → (c ≡ true → q ≡ n) → name_of s ≡ Some n → cond c (Some s) rest ≡ Some t
      → (rest ≡ Some t → name_of t ≡ Some q) → name_of t ≡ Some q
  key-cond true s t n q rest same named e ih = let st : s ≡ t = cc in subst (λ x. name_of x ≡ Some q) st (named ∙ ap (λ m. Some m) (sym (same refl)))
  key-cond false s t n q rest same named e ih = ih e

  key-step : (o : Option (List ℕ)) (s t : T) (rest : List (List ℕ × T)) (q : List ℕ) → name_of s ≡ o
      → found (cons_option (option_map (λ (n : List ℕ). (n, s)) o) rest) q ≡ Some t
      → (found rest q ≡ Some t → name_of t ≡ Some q) → name_of t ≡ Some q
  key-step None s t rest q named e ih = ih e
  key-step (Some n) s t rest q named e ih = key-cond (is_same_name q n) s t n q (found rest q) (λ c. tells_apart exact_bytes q n c) named e ih

  pub key-of : (ts : List T) (q : List ℕ) (t : T) → found (by_name name_of ts) q ≡ Some t → name_of t ≡ Some q
  key-of [] q t e = absurd (cc)
  key-of (s ∷ ts) q t e = key-step (name_of s) s t (by_name name_of ts) q refl e (key-of ts q t)

-- ---- what a name denotes stands before

called : (before : List DefinitionTree) (n : List ℕ) (t : Tree) (docs q : List ℕ) → found (by_name introduced before) q ≡ Some (typename_of n t docs) → NamesStand before (Tree.named n t docs)
called before n t docs q e =
    let own : n ≡ q = (let k = key-of introduced before q (typename_of n t docs) e in cc) in
    (Tree.named n t docs, ap (option_and_then as_typename) (ap (found (by_name introduced before)) own ∙ e), refl)

sense-stands : (before : List DefinitionTree) (l : Option Location) (e : Option Entry) (q : List ℕ) → option_map entry_tree e ≡ found (by_name introduced before) q
    → NamesStand before (sense_tree (sense_at l e))
sense-stands before None e q h = tt
sense-stands before (Some l) None q h = tt
sense-stands before (Some l) (Some (entry.Typename n)) q h = subst (λ (x : Tree). NamesStand before x) (sym (tree-NamedType n.value)) (called before n.value.name (tree_of n.value.tref) n.value.docs q (sym h))
sense-stands before (Some l) (Some (entry.Module m)) q h = tt

-- ---- and so does each name inside the type

abbrev MayStand : List DefinitionTree → Option Tree → Type 0
MayStand before None = Unit {0}
MayStand before (Some t) = NamesStand before t

abbrev EachField : List DefinitionTree → List Field → Type 0
EachField before [] = Unit {0}
EachField before (f ∷ fs) = NamesStand before f.tree × EachField before fs

abbrev EachArm : List DefinitionTree → List Arm → Type 0
EachArm before [] = Unit {0}
EachArm before (a ∷ rest) = MayStand before a.payload × EachArm before rest

fields-stand : (before : List DefinitionTree) (fs : List Field) → EachField before fs → FieldNamesStand before (fields_of fs)
fields-stand before [] e = tt
fields-stand before (f ∷ fs) e = (e.0, fields-stand before fs e.1)

arm-stands : (before : List DefinitionTree) (n d : List ℕ) (t : Option Tree) (cs : Arms) → MayStand before t → ArmNamesStand before cs → ArmNamesStand before (arm n t d cs)
arm-stands before n d None cs m e = e
arm-stands before n d (Some t) cs m e = (m, e)

arms-stand : (before : List DefinitionTree) (cs : List Arm) → EachArm before cs → ArmNamesStand before (arms_of cs)
arms-stand before [] e = tt
arms-stand before (c ∷ cs) e = arm-stands before c.called c.comment c.payload (arms_of cs) e.0 (arms-stand before cs e.1)

cond-stands : (before : List DefinitionTree) (c : Bool) (a b : Arm) → MayStand before a.payload → MayStand before b.payload → MayStand before (cond c a b).payload
cond-stands before true a b x y = x
cond-stands before false a b x y = y

called-stands : (before : List DefinitionTree) (cs : List Arm) (n : List ℕ) → EachArm before cs → MayStand before (arm_called cs n).payload
called-stands before [] n e = tt
called-stands before (c ∷ cs) n e = cond-stands before (same_text n c.called) c (arm_called cs n) e.0 (called-stands before cs n e.1)

turned : (before : List DefinitionTree) (cs : List Arm) (names : List (List ℕ)) → EachArm before cs → EachArm before (map (arm_called cs) names)
turned before cs [] e = tt
turned before cs (n ∷ ns) e = (called-stands before cs n e, turned before cs ns e)

ordered-arms : (before : List DefinitionTree) (names : Option (List (List ℕ))) (cs : List Arm) → EachArm before cs → EachArm before (in_order names cs)
ordered-arms before None cs e = e
ordered-arms before (Some names) cs e = turned before cs names e

members-stand : (before : List DefinitionTree) (ms : List syntax.Member) → EachArm before (map member_arm ms)
members-stand before [] = tt
members-stand before (m ∷ ms) = (tt, members-stand before ms)

flags-stand : (before : List DefinitionTree) (ms : List syntax.Member) → EachField before (map flag_field ms)
flags-stand before [] = tt
flags-stand before (m ∷ ms) = (tt, flags-stand before ms)

mutual
  pub tree-stands : (before : List DefinitionTree) (h : Here) → ((q : List ℕ) → NamesStand before (sense_tree (h.sense q))) → (t : syntax.TypeTree) → NamesStand before (tree_meant h t)
  tree-stands before h s (syntax.builtin b) = tt
  tree-stands before h s (syntax.ident m) = s m.name
  tree-stands before h s syntax.string = tt
  tree-stands before h s syntax.boolean = tt
  tree-stands before h s syntax.handle = tt
  tree-stands before h s (syntax.list_of t) = tree-stands before h s t
  tree-stands before h s (syntax.pointer_to t) = tree-stands before h s t
  tree-stands before h s (syntax.const_pointer_to t) = tree-stands before h s t
  tree-stands before h s (syntax.tuple_of ts) = fields-stand before (types_meant h 0 ts) (types-stand before h s 0 ts)
  tree-stands before h s (syntax.expected ok err) = arm-stands before _ _ (maybe_tree h ok) _ (maybe-stands before h s ok) (arm-stands before _ _ (maybe_tree h err) Arms.no_arms (maybe-stands before h s err) tt)
  tree-stands before h s (syntax.enum_of repr ms) = arms-stand before (map member_arm ms) (members-stand before ms)
  tree-stands before h s (syntax.flags_of repr ms) = fields-stand before (map flag_field ms) (flags-stand before ms)
  tree-stands before h s (syntax.record_of fs) = fields-stand before (fields_meant h fs) (members-of before h s fs)
  tree-stands before h s (syntax.union_of tag fs) = arms-stand before (union_arms h (tag_names (maybe_tree h tag)) 0 fs) (unions-stand before h s (tag_names (maybe_tree h tag)) 0 fs)
  tree-stands before h s (syntax.variant_of tag cs) = arms-stand before (in_order (tag_names (maybe_tree h tag)) (case_arms h cs)) (ordered-arms before (tag_names (maybe_tree h tag)) (case_arms h cs) (cases-stand before h s cs))

  maybe-stands : (before : List DefinitionTree) (h : Here) → ((q : List ℕ) → NamesStand before (sense_tree (h.sense q))) → (t : syntax.Maybe) → MayStand before (maybe_tree h t)
  maybe-stands before h s syntax.absent = tt
  maybe-stands before h s (syntax.present t) = tree-stands before h s t

  types-stand : (before : List DefinitionTree) (h : Here) → ((q : List ℕ) → NamesStand before (sense_tree (h.sense q))) → (i : ℕ) (ts : syntax.Types) → EachField before (types_meant h i ts)
  types-stand before h s i syntax.no_types = tt
  types-stand before h s i (syntax.one_type t ts) = (tree-stands before h s t, types-stand before h s (i + 1) ts)

  unions-stand : (before : List DefinitionTree) (h : Here) → ((q : List ℕ) → NamesStand before (sense_tree (h.sense q))) → (names : Option (List (List ℕ))) (i : ℕ) (fs : syntax.UnionFields) → EachArm before (union_arms h names i fs)
  unions-stand before h s names i syntax.no_union_fields = tt
  unions-stand before h s names i (syntax.one_union_field docs t fs) = (tree-stands before h s t, unions-stand before h s names (i + 1) fs)

  members-of : (before : List DefinitionTree) (h : Here) → ((q : List ℕ) → NamesStand before (sense_tree (h.sense q))) → (fs : syntax.Fields) → EachField before (fields_meant h fs)
  members-of before h s syntax.no_fields = tt
  members-of before h s (syntax.one_field docs m t fs) = (tree-stands before h s t, members-of before h s fs)

  cases-stand : (before : List DefinitionTree) (h : Here) → ((q : List ℕ) → NamesStand before (sense_tree (h.sense q))) → (cs : syntax.Cases) → EachArm before (case_arms h cs)
  cases-stand before h s syntax.no_cases = tt
  cases-stand before h s (syntax.one_case docs m t cs) = (maybe-stands before h s t, cases-stand before h s cs)

-- ---- one definition more

pub ordered-last : (before ds : List DefinitionTree) (d : DefinitionTree) → OrderedAfter before ds → DefinitionStands (before ++ ds) d → OrderedAfter before (ds ++ d ∷ [])
ordered-last before [] d o s = (subst (λ (l : List DefinitionTree). DefinitionStands l d) (append-nil before) s, tt)
ordered-last before (x ∷ ds) d o s = (o.0, ordered-last (before ++ x ∷ []) ds d o.1 (subst (λ (l : List DefinitionTree). DefinitionStands l d) (sym (append_assoc before (x ∷ []) ds)) s))

-- a typename after ordered definitions that fit the entries
pub typename-ordered : (ds : List DefinitionTree) (names : Names) (es : List (List ℕ × Entry)) (h : Here) (n docs : List ℕ) (t : syntax.TypeTree)
    → h.sense ≡ kept_sense names es → Fits introduced entry_tree ds es → IsOrdered ds → IsOrdered (ds ++ typename_of n (tree_meant h t) docs ∷ [])
typename-ordered ds names es h n docs t e fits o =
    ordered-last [] ds (typename_of n (tree_meant h t) docs) o
    (tree-stands ds h (λ q. subst (λ (s : List ℕ → Sense). NamesStand ds (sense_tree (s q))) (sym e) (sense-stands ds (found names q) (found es q) q (fits.holds q))) t)

-- ---- a closed document

params-stand : (before : List DefinitionTree) (fs : List Field) → EachField before fs → ParamNamesStand before fs
params-stand before [] e = tt
params-stand before (f ∷ fs) e = (e.0, params-stand before fs e.1)

item-stands : (before : List DefinitionTree) (h : Here) → ((q : List ℕ) → NamesStand before (sense_tree (h.sense q))) → (comments : List (List ℕ)) (d : syntax.DeclTree) (rest : List ItemTree)
    → ItemNamesStand before rest → ItemNamesStand before (decl_meant h comments d ∷ rest)
item-stands before h s comments (syntax.memory name) rest r = r
item-stands before h s comments (syntax.function name params results noreturn stored) rest r = (params-stand before (fields_meant h params) (members-of before h s params), params-stand before (fields_meant h results) (members-of before h s results), r)

items-stand : (before : List DefinitionTree) (h : Here) → ((q : List ℕ) → NamesStand before (sense_tree (h.sense q))) → (items : List syntax.NotedDecl) → ItemNamesStand before (map (item_meant h) items)
items-stand before h s [] = tt
items-stand before h s (item ∷ items) = item-stands before h s item.comments item.decl (map (item_meant h) items) (items-stand before h s items)

pub closed-last : (before ds : List DefinitionTree) (d : DefinitionTree) → ClosedAfter before ds → AllNamesStand (before ++ ds) d → ClosedAfter before (ds ++ d ∷ [])
closed-last before [] d o s = (subst (λ (l : List DefinitionTree). AllNamesStand l d) (append-nil before) s, tt)
closed-last before (x ∷ ds) d o s = (o.0, closed-last (before ++ x ∷ []) ds d o.1 (subst (λ (l : List DefinitionTree). AllNamesStand l d) (sym (append_assoc before (x ∷ []) ds)) s))

-- what the names inside a declaration denote stands before
denoted-stands : (ds : List DefinitionTree) (names : Names) (es : List (List ℕ × Entry)) (h : Here) → h.sense ≡ kept_sense names es → Fits introduced entry_tree ds es
    → (q : List ℕ) → NamesStand ds (sense_tree (h.sense q))
denoted-stands ds names es h e fits q = subst (λ (s : List ℕ → Sense). NamesStand ds (sense_tree (s q))) (sym e) (sense-stands ds (found names q) (found es q) q (fits.holds q))

-- a typename, and a module, after closed definitions that fit the entries
pub typename-closed : (ds : List DefinitionTree) (names : Names) (es : List (List ℕ × Entry)) (h : Here) (n docs : List ℕ) (t : syntax.TypeTree)
    → h.sense ≡ kept_sense names es → Fits introduced entry_tree ds es → IsClosed ds → IsClosed (ds ++ typename_of n (tree_meant h t) docs ∷ [])
typename-closed ds names es h n docs t e fits o = closed-last [] ds (typename_of n (tree_meant h t) docs) o (tree-stands ds h (denoted-stands ds names es h e fits) t)

pub module-closed : (ds : List DefinitionTree) (names : Names) (es : List (List ℕ × Entry)) (h : Here) (n : List ℕ) (items : List syntax.NotedDecl) (comments : List (List ℕ))
    → h.sense ≡ kept_sense names es → Fits introduced entry_tree ds es → IsClosed ds → IsClosed (ds ++ module_of (module_meant h n items comments) ∷ [])
module-closed ds names es h n items comments e fits o = closed-last [] ds (module_of (module_meant h n items comments)) o (items-stand ds h (denoted-stands ds names es h e fits) items)

pub ruleset order_rules = (typename-ordered, ordered-last)
