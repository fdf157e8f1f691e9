-- The document that files mean is closed: what a name was introduced as by the declarations before is what the definition of that
-- name is, so each name inside a declaration is that of a typename that stands before it.
use Rattle.std.specs.Prelude.{◌≡◌, ℕ, List, [], ◌∷◌, ◌++◌, Bool, true, false, map, Option, None, Some, Ok}
use Rattle.std.specs.Option.{option_and_then}
use Rattle.std.proofs.Common.{refl, sym, ap, ◌∙◌, subst, append_assoc, append-nil}
use Rattle.witx_base.specs.Found.{found}
use Rattle.witx_base.specs.Paths.{Path}
use Rattle.witx_files.specs.Files.{Files}
use Rattle.witx_files.specs.declared.location.Location.{Location}
use Rattle.witx_syntax_tree.specs.Trees as syntax
use Rattle.witx_comments.specs.Comments.{Comments}
use Rattle.witx_ast.specs.Closed.{IsClosed, ItemNamesStand, ParamNamesStand}
use Rattle.witx_ast.specs.Definitions.{DefinitionTree, as_typename, constant_of, introduced, module_of, typename_of}
use Rattle.witx_ast.specs.Entries.{by_name}
use Rattle.witx_ast.specs.Items.{ItemTree}
use Rattle.witx_ast.specs.Ordered.{NamesStand}
use Rattle.witx_ast.specs.Tree.{Tree}
use Rattle.witx_check.proofs.Orders.{closed-last, key-of, tree-stands}
use Rattle.witx_scope.specs.DeclarationForms.{DeclForm, constant_form, module_form, typename_form}
use Rattle.witx_scope.specs.Declarations.{Past, accepted, decl_tree, nothing_before}
use Rattle.witx_scope.specs.Modules.{decl_meant, item_meant}
use Rattle.witx_scope.specs.Names.{Here, sense_tree}
use Rattle.witx_scope.specs.Positions.{DeclarationOutcome, TakenName, after, introducer, is_same_name, made_module, made_type, own_sense, refused, sense_after}
use Rattle.witx_scope.specs.Trees.{fields_meant}
use Rattle.witx_order.specs.Items.{Declared}
use Rattle.witx_walk.specs.Meaning.{definitions_from, definitions_of, form_accepted, form_definitions, form_of, past_from, past_with, places_of, definitions_with}
use Rattle.witx_walk.specs.Readings.{OneReading}
use Rattle.witx_commands.specs.Adapting.{IsParsedDocument, Parses}
use Rattle.witx_commands.proofs.Introduced.{Alike, alike-more, alike-same, defined_as, taken_as, type_made}

-- ---- what a name denotes stands before

typename-stands : (before : List DefinitionTree) (n : List ℕ) (t : Tree) (docs q : List ℕ) → found (by_name introduced before) q ≡ Some (typename_of n t docs)
    → NamesStand before (Tree.named n t docs)
typename-stands before n t docs q e =
    let own : n ≡ q = (let k = key-of introduced before q (typename_of n t docs) e in cc) in
    (Tree.named n t docs, ap (option_and_then as_typename) (ap (found (by_name introduced before)) own ∙ e), refl)

definition-stands : (before : List DefinitionTree) (q : List ℕ) (t : Tree) (o : Option DefinitionTree) → found (by_name introduced before) q ≡ o
    → Some (Some t) ≡ defined_as o → NamesStand before t
definition-stands before q t None f e = cc
definition-stands before q t (Some (typename_of n u docs)) f e =
    let same : Tree.named n u docs ≡ t = cc in subst (NamesStand before) same (typename-stands before n u docs q f)
definition-stands before q t (Some (module_of m)) f e = cc
definition-stands before q t (Some (constant_of c)) f e = cc

own-stands : (before : List DefinitionTree) (own : Bool) → NamesStand before (sense_tree (own_sense own))
own-stands before true = tt
own-stands before false = tt

taken-stands : (before : List DefinitionTree) (q : List ℕ) (own : Bool) (o : Option TakenName) → taken_as o ≡ defined_as (found (by_name introduced before) q)
    → NamesStand before (sense_tree (sense_after o own))
taken-stands before q own None e = own-stands before own
taken-stands before q own (Some t) e = by t.outcome e
  where
    by : (outcome : DeclarationOutcome) → Some (type_made outcome) ≡ defined_as (found (by_name introduced before) q)
        → NamesStand before (sense_tree (sense_after (Some (record { name = t.name; place = t.place; outcome = outcome })) own))
    by refused e = tt
    by (made_type u) e = definition-stands before q u (found (by_name introduced before) q) refl e
    by made_module e = tt

Stand : List DefinitionTree → Here → Type 0
Stand before h = (q : List ℕ) → NamesStand before (sense_tree (h.sense q))

inside-stands : (past : Past) (ds : List DefinitionTree) (place : ℕ → Location) (n : syntax.Name) → Alike past.taken ds → Stand ds (after past.taken place n)
unfolding Stand
inside-stands past ds place n h q = taken-stands ds q (is_same_name q n.name) (introducer past.taken q) (h q)

-- ---- the items of a module

fields-stand : (before : List DefinitionTree) (h : Here) → Stand before h → (fs : syntax.Fields) → ParamNamesStand before (fields_meant h fs)
unfolding Stand
fields-stand before h s syntax.no_fields = tt
fields-stand before h s (syntax.one_field docs m t fs) = (tree-stands before h s t, fields-stand before h s fs)

item-stands : (before : List DefinitionTree) (h : Here) → Stand before h → (comments : Comments) (d : syntax.DeclTree) (rest : List ItemTree) → ItemNamesStand before rest
    → ItemNamesStand before (decl_meant h comments d ∷ rest)
item-stands before h s comments (syntax.memory name) rest r = r
item-stands before h s comments (syntax.function name params results noreturn stored) rest r = (fields-stand before h s params, fields-stand before h s results, r)

items-stand : (before : List DefinitionTree) (h : Here) → Stand before h → (items : List syntax.NotedDecl) → ItemNamesStand before (map (item_meant h) items)
items-stand before h s [] = tt
items-stand before h s (item ∷ items) = item-stands before h s item.comments item.decl (map (item_meant h) items) (items-stand before h s items)

-- ---- declarations

record Behind (past : Past) (ds : List DefinitionTree) : Type 0 where
  alike : Alike past.taken ds
  closed : IsClosed ds

behind-form : (past : Past) (ds : List DefinitionTree) (place : ℕ → Location) (comments : Comments) (form : DeclForm) → Behind past ds
    → Behind (accepted past place comments form) (ds ++ decl_tree past place comments form ∷ [])
unfolding Stand
behind-form past ds place comments (typename_form n t) k =
    let d : DefinitionTree = decl_tree past place comments (typename_form n t) in record {
      alike = alike-more past.taken ds _ d k.alike refl refl;
      closed = closed-last [] ds d k.closed (tree-stands ds (after past.taken place n) (inside-stands past ds place n k.alike) t);
    }
behind-form past ds place comments (module_form n items) k =
    let d : DefinitionTree = decl_tree past place comments (module_form n items) in record {
      alike = alike-more past.taken ds _ d k.alike refl refl;
      closed = closed-last [] ds d k.closed (items-stand ds (after past.taken place n) (inside-stands past ds place n k.alike) items);
    }
behind-form past ds place comments (constant_form ty n value own) k =
    let d : DefinitionTree = decl_tree past place comments (constant_form ty n value own) in record {
      alike = alike-same past.taken ds d k.alike refl;
      closed = closed-last [] ds d k.closed tt;
    }

behind-one : (past : Past) (ds : List DefinitionTree) (place : ℕ → Location) (comments : Comments) (form : Option DeclForm) → Behind past ds
    → Behind (form_accepted past place comments form) (ds ++ form_definitions past place comments form)
behind-one past ds place comments None k = subst (Behind past) (sym (append-nil ds)) k
behind-one past ds place comments (Some form) k = behind-form past ds place comments form k

behind-all : (past : Past) (ds : List DefinitionTree) (rest : List Declared) → Behind past ds → Behind (past_from past rest) (ds ++ definitions_from past rest)
behind-all past ds [] k = subst (Behind past) (sym (append-nil ds)) k
behind-all past ds (δ ∷ rest) k =
    subst (Behind (past_from past (δ ∷ rest))) (append_assoc ds (definitions_with past δ) (definitions_from (past_with past δ) rest))
    (behind-all (past_with past δ) (ds ++ definitions_with past δ) rest (behind-one past ds (places_of δ) δ.item.comments (form_of δ.item.item) k))

nothing-behind : Behind nothing_before []
nothing-behind = record { alike = λ n. refl; closed = tt }

declared-closed : (declared : List Declared) → IsClosed (definitions_of declared)
declared-closed declared = (behind-all nothing_before [] declared nothing-behind).closed

-- WHAT FILES MEAN IS CLOSED
pub parsed-closed : OneReading → (files : Files) (handed : List Path) (ds : List DefinitionTree) → Parses files handed (Ok ds) → IsClosed ds
unfolding IsParsedDocument
parsed-closed one files handed ds p =
    let answer = p files [] one.0 refl refl one.1.0 in subst IsClosed (sym answer.1.1.1) (declared-closed answer.1.0)
