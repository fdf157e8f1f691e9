-- The declarations of a sample's file have no fault, and define the sample.
use Rattle.std.proofs.Common.{◌≡◌, ℕ, zero, suc, ◌+◌, ◌^◌, ◌<◌, ◌≤◌, Bool, true, false, ◌==◌, cond, List, [], ◌∷◌, ◌++◌, map, Option, Some, None, option_map, append-nil, add-zero, refl, sym, ap, ◌∙◌, subst, arith, codes, decimal}
use Rattle.std.specs.Map.{keys_of}
use Rattle.std.specs.Cmp.Lexicographic.{texts_ties}
use Rattle.std.proofs.lemmas.Bool.{eqb-true, eqb-false}
use Rattle.std.proofs.lemmas.Cmp.{nat_list_eq_equiv}
use Rattle.witx_base.specs.Paths.{Path}
use Rattle.witx_base.specs.Found.{found}
use Rattle.witx_base.specs.Texts.{same_text}
use Rattle.witx_files.specs.declared.location.Location.{Location}
use Rattle.witx_ast.specs.declared.function.Abi.{Abi}
use Rattle.witx_ast.specs.declared.types.IntRepr.{IntRepr}
use Rattle.witx_ast.specs.declared.types.RecordKind.{RecordKind}
use Rattle.witx_ast.specs.Tree.{Tree, Fields, Arms, Field}
use Rattle.witx_ast.specs.Functions.{FunctionTree}
use Rattle.witx_ast.specs.Results.{results_reason}
use Rattle.witx_ast.specs.Items.{ItemTree, func_of}
use Rattle.witx_ast.specs.Definitions.{DefinitionTree, typename_of, module_of}
use Rattle.witx_comments.specs.Comments.{Comments}
use Rattle.witx_comments.specs.Documentation.{documentation_of}
use Rattle.witx_syntax_tree.specs.Trees as forms
use Rattle.witx_syntax_tree.specs.Trees.{Name, QuotedText, TypeTree, string, expected, tuple_of, Types, one_type, no_types, present, one_field, no_fields, DeclTree, function, NotedDecl, NotedItem}
use Rattle.witx_scope.specs.Faults.{Fault, abi}
use Rattle.witx_scope.specs.Names.{Here, NameMarks, new_mark}
use Rattle.witx_scope.specs.Trees.{tree_meant, fields_meant}
use Rattle.witx_scope.specs.Checks.{type_checks, field_checks}
use Rattle.witx_scope.specs.Functions.{result_checks, abi_check}
use Rattle.witx_scope.specs.Modules.{quoted_name, item_checks, items_checks, with_name, item_meant}
use Rattle.witx_scope.specs.Positions.{is_same_name, declared_name, after}
use Rattle.witx_scope.specs.Declarations.{Past}
use Rattle.witx_order.specs.Items.{Declared}
use Rattle.witx_order.specs.Walks.{World, declared_in}
use Rattle.witx_order.specs.Fronts.{AreSound}
use Rattle.witx_walk.specs.Meaning.{form_of, places_of, form_fault, past_with, definitions_with, definitions_from, past_of, fault_behind}
use Rattle.witx_read_back.specs.Emptied.{emptied}
use Rattle.witx_read_back.specs.Distinct.{any_same}
use Rattle.witx_read_back.specs.Says.{Says, SaysDefinition}
use Rattle.witx_read_back.proofs.Printed.{emptied_definition}
use Rattle.witx_read_back.proofs.Orders.{same, or_else, or_none}
use Rattle.witx_read_back.proofs.Writable.{OneField}
use Rattle.witx_read_back.proofs.Stands.{Known, denoted, learned, DefinitionStands}
use Rattle.witx_read_back.proofs.Fine.{Pass, passes, both_pass, new_mark_passes, Agrees, Fine, type_fine}
use Rattle.witx_read_back.proofs.Permitted.{same_reason}
use Rattle.witx_read_back.proofs.DocumentFine.{Tracks, agrees, name_is_new, found_append, past_append, definition_fine}
use Rattle.witx_sample_laws.proofs.Documents.{enum_name, module_name, record_name, variant_name, function_name, the_enum, named_enum, the_record, named_record, the_variant, named_variant, enum_definition, record_definition, variant_definition}
use Rattle.witx_sample_laws.proofs.Names.{numbers_differ}
use Rattle.witx_sample_laws.proofs.Reading.{SaysFunc, SaysFuncs, Front, SaysTypes, SaysModule, IsLast, SaysSample}
use Rattle.witx_sample_laws.proofs.Counts.{IsCounted, a_function, is_counted, IsTypename, is_typename, AreCounted, IsModule, AreTypes, IsSample}

-- ---- which names are known behind the types of the numbers below i

same_refl : (n : List ℕ) → same n n ≡ true
same_refl n = sym (texts_ties n n) ∙ nat_list_eq_equiv.refl n

both_none : (o : Option (Option Tree)) (a b : Bool) (x y : Option Tree) → o ≡ None → a ≡ false → b ≡ false → or_else (or_else o (cond a (Some x) None)) (cond b (Some y) None) ≡ None
both_none o a b x y e f g = rw (e, f, g) refl

first_found : (o : Option (Option Tree)) (a b : Bool) (x y : Option Tree) → o ≡ None → a ≡ true → or_else (or_else o (cond a (Some x) None)) (cond b (Some y) None) ≡ Some x
first_found o a b x y e f = rw (e, f) refl

second_found : (o : Option (Option Tree)) (a b : Bool) (x y : Option Tree) → o ≡ None → a ≡ false → b ≡ true → or_else (or_else o (cond a (Some x) None)) (cond b (Some y) None) ≡ Some y
second_found o a b x y e f g = rw (e, f, g) refl

kept_found : (o : Option (Option Tree)) (a b : Bool) (x y z : Option Tree) → o ≡ Some z → or_else (or_else o (cond a (Some x) None)) (cond b (Some y) None) ≡ Some z
kept_found o a b x y z e = rw e refl

pub record Knows (i : ℕ) (known : Known) : Type 0 where
  pub enum_known : found known enum_name ≡ Some (Some named_enum)
  pub module_new : found known module_name ≡ None
  pub records : (j : ℕ) → j < i → found known (record_name j) ≡ Some (Some (named_record j))
  pub variants : (j : ℕ) → j < i → found known (variant_name j) ≡ Some (Some (named_variant j))
  pub records_new : (j : ℕ) → i ≤ j → j < 2 ^ 64 → found known (record_name j) ≡ None
  pub variants_new : (j : ℕ) → i ≤ j → j < 2 ^ 64 → found known (variant_name j) ≡ None

abbrev with_record : Known → ℕ → Known
with_record known i = learned known (record_definition i)

abbrev with_types : Known → ℕ → Known
with_types known i = learned (with_record known i) (variant_definition i)

found_after : (known : Known) (i : ℕ) (n : List ℕ) → found (with_types known i) n
    ≡ or_else (or_else (found known n) (cond (is_same_name n (record_name i)) (Some (Some (named_record i))) None)) (cond (is_same_name n (variant_name i)) (Some (Some (named_variant i))) None)
found_after known i n =
    found_append (with_record known i) (variant_name i) (Some (named_variant i)) n
    ∙ ap (λ (o : Option (Option Tree)). or_else o (cond (is_same_name n (variant_name i)) (Some (Some (named_variant i))) None)) (found_append known (record_name i) (Some (named_record i)) n)

below_or_is : (i j : ℕ) → j < i + 1 → (i ≡ j → ⊥) → j < i
below_or_is i j l d = omega (arith, l, d)

module _ (known : Known) (i : ℕ) (k : Knows i known) (small : i < 2 ^ 64) where
  record_at : (j : ℕ) (t : Bool) → (i == j) ≡ t → j < i + 1 → found (with_types known i) (record_name j) ≡ Some (Some (named_record j))
  record_at j true e l = subst (λ (m : ℕ). found (with_types known i) (record_name m) ≡ Some (Some (named_record m))) (eqb-true i j e)
      (found_after known i (record_name i) ∙ first_found (found known (record_name i)) (is_same_name (record_name i) (record_name i)) (is_same_name (record_name i) (variant_name i)) (Some (named_record i)) (Some (named_variant i))
      (k.records_new i (omega arith) small) (same_refl (record_name i)))
  record_at j false e l = found_after known i (record_name j) ∙ kept_found (found known (record_name j)) (is_same_name (record_name j) (record_name i)) (is_same_name (record_name j) (variant_name i)) (Some (named_record i)) (Some (named_variant i)) (Some (named_record j))
      (k.records j (below_or_is i j l (eqb-false i j e)))

  variant_at : (j : ℕ) (t : Bool) → (i == j) ≡ t → j < i + 1 → found (with_types known i) (variant_name j) ≡ Some (Some (named_variant j))
  variant_at j true e l = subst (λ (m : ℕ). found (with_types known i) (variant_name m) ≡ Some (Some (named_variant m))) (eqb-true i j e)
      (found_after known i (variant_name i) ∙ second_found (found known (variant_name i)) (is_same_name (variant_name i) (record_name i)) (is_same_name (variant_name i) (variant_name i)) (Some (named_record i)) (Some (named_variant i))
      (k.variants_new i (omega arith) small) refl (same_refl (variant_name i)))
  variant_at j false e l = found_after known i (variant_name j) ∙ kept_found (found known (variant_name j)) (is_same_name (variant_name j) (record_name i)) (is_same_name (variant_name j) (variant_name i)) (Some (named_record i)) (Some (named_variant i)) (Some (named_variant j))
      (k.variants j (below_or_is i j l (eqb-false i j e)))

  knows_more : Knows (i + 1) (with_types known i)
  knows_more = record {
    enum_known = found_after known i enum_name ∙ kept_found (found known enum_name) (is_same_name enum_name (record_name i)) (is_same_name enum_name (variant_name i)) (Some (named_record i)) (Some (named_variant i)) (Some named_enum) k.enum_known;
    module_new = found_after known i module_name ∙ both_none (found known module_name) (is_same_name module_name (record_name i)) (is_same_name module_name (variant_name i)) (Some (named_record i)) (Some (named_variant i)) k.module_new refl refl;
    records = λ j l. record_at j (i == j) refl l;
    variants = λ j l. variant_at j (i == j) refl l;
    records_new = λ j l m. found_after known i (record_name j) ∙ both_none (found known (record_name j)) (is_same_name (record_name j) (record_name i)) (is_same_name (record_name j) (variant_name i)) (Some (named_record i)) (Some (named_variant i))
        (k.records_new j (omega (arith, l)) m) (numbers_differ j i m small (λ e. omega (arith, l, e))) refl;
    variants_new = λ j l m. found_after known i (variant_name j) ∙ both_none (found known (variant_name j)) (is_same_name (variant_name j) (record_name i)) (is_same_name (variant_name j) (variant_name i)) (Some (named_record i)) (Some (named_variant i))
        (k.variants_new j (omega (arith, l)) m) refl (numbers_differ j i m small (λ e. omega (arith, l, e)));
  }

  record_found : found (with_record known i) (record_name i) ≡ Some (Some (named_record i))
  record_found = found_append known (record_name i) (Some (named_record i)) (record_name i) ∙ (rw (k.records_new i (omega arith) small, same_refl (record_name i)) refl)

  variant_new : found (with_record known i) (variant_name i) ≡ None
  variant_new = found_append known (record_name i) (Some (named_record i)) (variant_name i) ∙ (rw (k.variants_new i (omega arith) small) refl)

  record_stands : DefinitionStands known (record_definition i)
  record_stands = (k.records_new i (omega arith) small, (refl, (refl, (refl, (refl, tt))), (tt, (k.enum_known, (tt, tt)))))

  variant_stands : DefinitionStands (with_record known i) (variant_definition i)
  variant_stands = (variant_new, (record_found, (record_found, tt)))

abbrev the_first : Known
the_first = learned [] enum_definition

knows_first : Knows 0 the_first
knows_first = record {
  enum_known = refl;
  module_new = refl;
  records = λ j l. absurd (omega (arith, l));
  variants = λ j l. absurd (omega (arith, l));
  records_new = λ j l m. refl;
  variants_new = λ j l m. refl;
}

enum_stands : DefinitionStands [] enum_definition
unfolding same_text
enum_stands = (refl, (refl, (refl, (refl, tt))))

-- ---- a function

-- what the names of a function's types denote, documentation emptied
pub record Uses (known : Known) (i : ℕ) : Type 0 where
  pub record_known : found known (record_name i) ≡ Some (Some (named_record i))
  pub variant_known : found known (variant_name i) ≡ Some (Some (named_variant i))
  pub enum_known : found known enum_name ≡ Some (Some named_enum)

abbrev the_decl : QuotedText → (p q s : OneField) → (u e f : TypeTree) → DeclTree
the_decl name p q s u e f = function name (one_field p.comments p.called p.type_ (one_field q.comments q.called string no_fields))
    (one_field s.comments s.called (expected (present (tuple_of (one_type u (one_type e no_types)))) (present f)) no_fields) false false

abbrev one_result : List ℕ → Tree → Tree → Tree → List Field
one_result n r e f = record {
  called = n;
  tree = Tree.variant_of IntRepr.U32 (
      Arms.carries (codes "ok") (Tree.record_of RecordKind.Tuple (Fields.field (decimal 0) r [] (Fields.field (decimal 1) e [] Fields.no_fields))) [] (
      Arms.carries (codes "err") f [] Arms.no_arms));
  comment = [];
} ∷ []

permitted : (n : List ℕ) (i : ℕ) → results_reason Abi.Preview1 (one_result n (named_record i) named_enum named_enum) ≡ None
unfolding same_text
permitted n i = refl

module _ (known : Known) (h : Here) (g : Agrees (denoted known) h) (i : ℕ) (w : Uses known i) where
  variant_fine : (s : TypeTree) → Says (named_variant i) s → Fine h false (named_variant i) s
  variant_fine s q = type_fine (denoted known) h g false (named_variant i) s w.variant_known q

  record_fine : (s : TypeTree) → Says (named_record i) s → Fine h false (named_record i) s
  record_fine s q = type_fine (denoted known) h g false (named_record i) s w.record_known q

  enum_fine : (s : TypeTree) → Says named_enum s → Fine h false named_enum s
  enum_fine s q = type_fine (denoted known) h g false named_enum s w.enum_known q

  decl_passes : (marks : NameMarks) (name : QuotedText) (p q s : OneField) (u e f : TypeTree) → Says (named_variant i) p.type_ → Says (named_record i) u → Says named_enum e → Says named_enum f
      → p.called.name ≡ codes "p" → q.called.name ≡ codes "q" → s.called.name ≡ codes "s" → any_same name.text (keys_of marks) ≡ false → Pass (item_checks h marks (the_decl name p q s u e f))
  decl_passes marks name p q s u e f ps us es fs pn qn sn new =
      let at = h.place name.start in
      let params = one_field p.comments p.called p.type_ (one_field q.comments q.called string no_fields) in
      let results = one_field s.comments s.called (expected (present (tuple_of (one_type u (one_type e no_types)))) (present f)) no_fields in
      let near = h.place s.called.start in
      let scope : NameMarks = (q.called.name, q.called.start) ∷ (p.called.name, p.called.start) ∷ [] in
      passes (new_mark h marks name.text name.start) (field_checks h [] params ++ (result_checks h scope results ++ abi_check Abi.Preview1 (fields_meant h results) at ∷ []))
      (new_mark_passes h marks name.text name.start new)
      (both_pass (field_checks h [] params) (result_checks h scope results ++ abi_check Abi.Preview1 (fields_meant h results) at ∷ [])
      (passes (new_mark h [] p.called.name p.called.start) (type_checks h false (h.place p.called.start) p.type_ ++ (new_mark h ((p.called.name, p.called.start) ∷ []) q.called.name q.called.start ∷ [])) refl
      (both_pass (type_checks h false (h.place p.called.start) p.type_) (new_mark h ((p.called.name, p.called.start) ∷ []) q.called.name q.called.start ∷ []) ((variant_fine p.type_ ps).1 (h.place p.called.start))
      (passes (new_mark h ((p.called.name, p.called.start) ∷ []) q.called.name q.called.start) [] (new_mark_passes h ((p.called.name, p.called.start) ∷ []) q.called.name q.called.start (rw (pn, qn) refl)) refl)))
      (both_pass (result_checks h scope results) (abi_check Abi.Preview1 (fields_meant h results) at ∷ [])
      (both_pass (type_checks h false near (expected (present (tuple_of (one_type u (one_type e no_types)))) (present f))) (new_mark h scope s.called.name s.called.start ∷ [])
      (both_pass (type_checks h false near u ++ (type_checks h false near e ++ [])) (type_checks h false near f)
      (both_pass (type_checks h false near u) (type_checks h false near e ++ []) ((record_fine u us).1 near) (both_pass (type_checks h false near e) [] ((enum_fine e es).1 near) refl))
      ((enum_fine f fs).1 near))
      (passes (new_mark h scope s.called.name s.called.start) [] (new_mark_passes h scope s.called.name s.called.start (rw (pn, qn, sn) refl)) refl))
      (passes (abi_check Abi.Preview1 (fields_meant h results) at) []
      (ap (λ (o : Option (List ℕ)). option_map (λ reason. abi reason at) o)
      (same_reason Abi.Preview1 (fields_meant h results) (one_result s.called.name (named_record i) named_enum named_enum)
      (ap (λ (x : Tree). one_result s.called.name x (emptied (tree_meant h e)) (emptied (tree_meant h f))) (record_fine u us).0
      ∙ (ap (λ (x : Tree). one_result s.called.name (named_record i) x (emptied (tree_meant h f))) (enum_fine e es).0
      ∙ ap (λ (x : Tree). one_result s.called.name (named_record i) named_enum x) (enum_fine f fs).0)) ∙ permitted s.called.name i)) refl)))

  decl_counted : (cs : Comments) (name : QuotedText) (p q s : OneField) (u e f : TypeTree) → Says (named_variant i) p.type_ → Says (named_record i) u → Says named_enum e → Says named_enum f
      → (x : FunctionTree) × (item_meant h (record { comments = cs; decl = the_decl name p q s u e f }) ≡ func_of x) × IsCounted x
  decl_counted cs name p q s u e f ps us es fs = (
    a_function name.text p.called.name q.called.name s.called.name (documentation_of p.comments) (documentation_of q.comments) (documentation_of s.comments) (documentation_of cs)
        (tree_meant h p.type_) (tree_meant h u) (tree_meant h e) (tree_meant h f),
    refl,
    is_counted i name.text p.called.name q.called.name s.called.name (documentation_of p.comments) (documentation_of q.comments) (documentation_of s.comments) (documentation_of cs)
        (tree_meant h p.type_) (tree_meant h u) (tree_meant h e) (tree_meant h f) (variant_fine p.type_ ps).0 (record_fine u us).0 (enum_fine e es).0 (enum_fine f fs).0,
  )

-- its checks pass, it has its name, and it means a function that is counted
pub record FuncFine (i : ℕ) (h : Here) (marks : NameMarks) (cs : Comments) (d : DeclTree) : Type 0 where
  pub checks : Pass (item_checks h marks d)
  pub called : (quoted_name d).text ≡ function_name i
  pub means : (x : FunctionTree) × (item_meant h (record { comments = cs; decl = d }) ≡ func_of x) × IsCounted x

-- a function that says the one of a number, its types written out
func_is : (i : ℕ) (d : DeclTree) (f : SaysFunc i d) → d ≡ the_decl f.name f.p f.q f.s f.s_says.1.ok_says.2.0 f.s_says.1.ok_says.2.4.0 f.s_says.1.err
func_is i d f =
    let r = f.s_says.1 in
    let t = r.ok_says in
    let u = t.2 in
    f.is
    ∙ (ap (λ (x : TypeTree). function f.name (one_field f.p.comments f.p.called f.p.type_ (one_field f.q.comments f.q.called x no_fields)) (one_field f.s.comments f.s.called f.s.type_ no_fields) false false) f.q_says.1
    ∙ ap (λ (x : TypeTree). function f.name (one_field f.p.comments f.p.called f.p.type_ (one_field f.q.comments f.q.called string no_fields)) (one_field f.s.comments f.s.called x no_fields) false false)
    (r.is ∙ ap (λ (x : TypeTree). expected (present x) (present r.err)) (t.1 ∙ ap (λ (x : Types). tuple_of x) (u.2 ∙ ap (λ (x : Types). one_type u.0 x) (u.4.2 ∙ ap (λ (x : Types). one_type u.4.0 x) u.4.4)))))

func_fine : (known : Known) (h : Here) → Agrees (denoted known) h → (i : ℕ) → Uses known i → (marks : NameMarks) (cs : Comments) (d : DeclTree) → SaysFunc i d → any_same (function_name i) (keys_of marks) ≡ false
    → FuncFine i h marks cs d
func_fine known h g i w marks cs d f new =
    let r = f.s_says.1 in
    let u = r.ok_says.2 in
    subst (λ (x : DeclTree). FuncFine i h marks cs x) (sym (func_is i d f)) (record {
      checks = decl_passes known h g i w marks f.name f.p f.q f.s u.0 u.4.0 r.err f.p_says.1 u.3 u.4.3 r.err_says f.p_says.0 f.q_says.0 f.s_says.0 (ap (λ (l : List ℕ). any_same l (keys_of marks)) f.called ∙ new);
      called = f.called;
      means = decl_counted known h g i w cs f.name f.p f.q f.s u.0 u.4.0 r.err f.p_says.1 u.3 u.4.3 r.err_says;
    })

-- ---- a module

-- each number below n has its record and its variant
abbrev pub AllUsed : Known → ℕ → Type 0
AllUsed known n = (j : ℕ) → j < n → Uses known j

all_used : (n : ℕ) (known : Known) → Knows n known → AllUsed known n
all_used n known k j l = record { record_known = k.records j l; variant_known = k.variants j l; enum_known = k.enum_known }

-- no name of a function from the i-th on is among these
abbrev pub AllFree : ℕ → NameMarks → Type 0
AllFree i marks = (j : ℕ) → i ≤ j → j < 2 ^ 64 → any_same (function_name j) (keys_of marks) ≡ false

free_more : (i : ℕ) (marks : NameMarks) (d : DeclTree) → i < 2 ^ 64 → AllFree i marks → (quoted_name d).text ≡ function_name i → AllFree (i + 1) (with_name d marks)
free_more i marks d small free e j l m =
    or_none (same (function_name j) (quoted_name d).text) (any_same (function_name j) (keys_of marks))
    (ap (λ (n : List ℕ). same (function_name j) n) e ∙ numbers_differ j i m small (λ k. omega (arith, l, k))) (free j (omega (arith, l)) m)

module _ (known : Known) (h : Here) (g : Agrees (denoted known) h) (n : ℕ) (used : AllUsed known n) (few : n ≤ 2 ^ 64) where
  funcs_pass : (i k : ℕ) (marks : NameMarks) (ds : List NotedDecl) → SaysFuncs i k ds → i + k ≤ n → AllFree i marks → Pass (items_checks h marks ds)
  funcs_pass i zero marks ds q l free = subst (λ (x : List NotedDecl). Pass (items_checks h marks x)) (sym q) refl
  funcs_pass i (suc k) marks ds q l free =
      let small : i < 2 ^ 64 = omega (arith, l, few) in
      let f = func_fine known h g i (used i (omega (arith, l))) marks q.0.comments q.0.decl q.3 (free i (omega arith) small) in
      subst (λ (x : List NotedDecl). Pass (items_checks h marks x)) (sym q.2)
      (both_pass (item_checks h marks q.0.decl) (items_checks h (with_name q.0.decl marks) q.1) f.checks
      (funcs_pass (i + 1) k (with_name q.0.decl marks) q.1 q.4 (omega (arith, l)) (free_more i marks q.0.decl small free f.called)))

  funcs_counted : (i k : ℕ) (marks : NameMarks) (ds : List NotedDecl) → SaysFuncs i k ds → i + k ≤ n → AllFree i marks → AreCounted k (map (item_meant h) ds)
  funcs_counted i zero marks ds q l free = ap (λ (x : List NotedDecl). map (item_meant h) x) q
  funcs_counted i (suc k) marks ds q l free =
      let small : i < 2 ^ 64 = omega (arith, l, few) in
      let f = func_fine known h g i (used i (omega (arith, l))) marks q.0.comments q.0.decl q.3 (free i (omega arith) small) in (
        f.means.0,
        map (item_meant h) q.1,
        ap (λ (x : List NotedDecl). map (item_meant h) x) q.2 ∙ ap (λ (x : ItemTree). x ∷ map (item_meant h) q.1) f.means.1,
        f.means.2,
        funcs_counted (i + 1) k (with_name q.0.decl marks) q.1 q.4 (omega (arith, l)) (free_more i marks q.0.decl small free f.called),
      )

none_free : AllFree 0 []
none_free j l m = refl

-- a declaration has no fault, and defines a module of n functions
pub record ModuleFine (n : ℕ) (past : Past) (δ : Declared) : Type 0 where
  pub no_fault : form_fault past (places_of δ) (form_of δ.item.item) ≡ None
  pub defines : IsModule n (definitions_with past δ)

module_fine : (n : ℕ) (past : Past) (known : Known) (path : Path) (text : List ℕ) (cs : Comments) (m : Name) (ds : List NotedDecl) → n ≤ 2 ^ 64 → Tracks past known → Knows n known → m.name ≡ module_name → SaysFuncs 0 n ds
    → ModuleFine n past (declared_in path text (record { comments = cs; item = forms.module_of m ds }))
module_fine n past known path text cs m ds few t k e q =
    let place : ℕ → Location = places_of (declared_in path text (record { comments = cs; item = forms.module_of m ds })) in
    let h = after past.taken place m in
    let g = agrees past known place m t in
    record {
      no_fault = passes (declared_name past.taken place m) (items_checks h [] ds) (name_is_new past known place m t (ap (λ (x : List ℕ). found known x) e ∙ k.module_new))
          (funcs_pass known h g n (all_used n known k) few 0 n [] ds q (omega arith) none_free);
      defines = (record { name = m.name; comment = documentation_of cs; items = map (item_meant h) ds }, refl, funcs_counted known h g n (all_used n known k) few 0 n [] ds q (omega arith) none_free);
    }

item_fine : (n : ℕ) (past : Past) (known : Known) (path : Path) (text : List ℕ) (i : NotedItem) → n ≤ 2 ^ 64 → Tracks past known → Knows n known → SaysModule n i.item → ModuleFine n past (declared_in path text i)
item_fine n past known path text i few t k q =
    subst (λ (x : forms.FormTree). ModuleFine n past (declared_in path text (record { comments = i.comments; item = x }))) (sym q.2)
    (module_fine n past known path text i.comments q.0 q.1 few t k q.3 q.4)

-- ---- all declarations

one_of : (xs : List DefinitionTree) (d : DefinitionTree) → map emptied_definition xs ≡ d ∷ [] → (x : DefinitionTree) × (xs ≡ x ∷ []) × (emptied_definition x ≡ d)
one_of [] d e = absurd (cc)
one_of (x ∷ []) d e = (x, refl, cc)
one_of (x ∷ y ∷ zs) d e = absurd (cc)

module _ (v : World Fault) (is_v : v.fault_of ≡ fault_behind) (path : Path) (text : List ℕ) where
  -- behind some declarations a typename has no fault, defines itself, and is known
  record TypeFine (before : List Declared) (known : Known) (n : List ℕ) (t : Tree) (i : NotedItem) : Type 0 where
    pub no_fault : v.fault_of before (declared_in path text i) ≡ None
    pub definition : DefinitionTree
    pub defines : (rest : List Declared) → definitions_from (past_of before) (declared_in path text i ∷ rest) ≡ definition ∷ definitions_from (past_of (before ++ declared_in path text i ∷ [])) rest
    pub typename : IsTypename n t definition
    pub leaves : Tracks (past_of (before ++ declared_in path text i ∷ [])) (learned known (typename_of n t []))

  type_item_fine : (before : List Declared) (known : Known) (n : List ℕ) (t : Tree) (i : NotedItem) → emptied t ≡ t → Tracks (past_of before) known → DefinitionStands known (typename_of n t []) → SaysDefinition (typename_of n t []) i.item
      → TypeFine before known n t i
  type_item_fine before known n t i e tracks stands says =
      let δ = declared_in path text i in
      let one = definition_fine (past_of before) known path text i (typename_of n t []) tracks stands says in
      let same : past_of (before ++ δ ∷ []) ≡ past_with (past_of before) δ = past_append _ before δ in
      let it = one_of (definitions_with (past_of before) δ) (typename_of n (emptied t) []) one.defines in
      record {
        no_fault = ap (λ (f : List Declared → Declared → Option Fault). f before δ) is_v ∙ one.no_fault;
        definition = it.0;
        defines = λ rest. ap (λ (l : List DefinitionTree). l ++ definitions_from (past_with (past_of before) δ) rest) it.1 ∙ ap (λ (p : Past). it.0 ∷ definitions_from p rest) (sym same);
        typename = is_typename n t it.0 (it.2 ∙ ap (λ (u : Tree). typename_of n u []) e);
        leaves = subst (λ (p : Past). Tracks p (learned known (typename_of n t []))) (sym same) one.leaves;
      }

  -- items have no fault behind some declarations, and define what the claim holds of
  record AllFine (before : List Declared) (is : List NotedItem) (Q : List DefinitionTree → Type 0) : Type 0 where
    pub sound : AreSound v before (map (declared_in path text) is)
    pub defined : Q (definitions_from (past_of before) (map (declared_in path text) is))

  module_last : (n : ℕ) (before : List Declared) (known : Known) (is : List NotedItem) → n ≤ 2 ^ 64 → Tracks (past_of before) known → Knows n known → Front (SaysModule n) IsLast is → AllFine before is (IsModule n)
  module_last n before known is few tracks knows q =
      let δ = declared_in path text q.0 in
      let one = item_fine n (past_of before) known path text q.0 few tracks knows q.3 in
      subst (λ (x : List NotedItem). AllFine before x (IsModule n)) (sym (q.2 ∙ ap (λ (l : List NotedItem). q.0 ∷ l) q.4)) (record {
        sound = (ap (λ (f : List Declared → Declared → Option Fault). f before δ) is_v ∙ one.no_fault, tt);
        defined = subst (λ (l : List DefinitionTree). IsModule n l) (sym (append-nil (definitions_with (past_of before) δ))) one.defines;
      })

  types_fine : (n i k : ℕ) (before : List Declared) (known : Known) (is : List NotedItem) → i + k ≡ n → n ≤ 2 ^ 64 → Tracks (past_of before) known → Knows i known → SaysTypes i k (Front (SaysModule n) IsLast) is
      → AllFine before is (AreTypes i k n)
  types_fine n i zero before known is e few tracks knows q =
      let done = module_last n before known is few tracks (subst (λ (m : ℕ). Knows m known) (sym (add-zero i) ∙ e) knows) q in
      record { sound = done.sound; defined = done.defined }
  types_fine n i (suc k) before known is e few tracks knows q =
      let small : i < 2 ^ 64 = omega (arith, e, few) in
      let δ = declared_in path text q.0 in
      let one = type_item_fine before known (record_name i) the_record q.0 refl tracks (record_stands known i knows small) q.3 in
      let more = q.4 in
      let ε = declared_in path text more.0 in
      let two = type_item_fine (before ++ δ ∷ []) (with_record known i) (variant_name i) (the_variant i) more.0 refl one.leaves (variant_stands known i knows small) more.3 in
      let rest = types_fine n (i + 1) k ((before ++ δ ∷ []) ++ ε ∷ []) (with_types known i) more.1 (omega (arith, e)) few two.leaves (knows_more known i knows small) more.4 in
      let after_ = map (declared_in path text) more.1 in
      subst (λ (x : List NotedItem). AllFine before x (AreTypes i (suc k) n)) (sym (q.2 ∙ ap (λ (l : List NotedItem). q.0 ∷ l) more.2)) (record {
        sound = (one.no_fault, (two.no_fault, rest.sound));
        defined = (
          one.definition,
          two.definition,
          definitions_from (past_of ((before ++ δ ∷ []) ++ ε ∷ [])) after_,
          one.defines (ε ∷ after_) ∙ ap (λ (l : List DefinitionTree). one.definition ∷ l) (two.defines after_),
          one.typename,
          two.typename,
          rest.defined,
        );
      })

  pub sample_sound : (n : ℕ) (is : List NotedItem) → n ≤ 2 ^ 64 → SaysSample n is → AreSound v [] (map (declared_in path text) is) × IsSample n (definitions_from (past_of []) (map (declared_in path text) is))
  sample_sound n is few q =
      let δ = declared_in path text q.0 in
      let one = type_item_fine [] [] enum_name the_enum q.0 refl (λ m. tt) enum_stands q.3 in
      let rest = types_fine n 0 n ([] ++ δ ∷ []) the_first q.1 (omega arith) few one.leaves knows_first q.4 in
      let after_ = map (declared_in path text) q.1 in
      subst (λ (x : List NotedItem). AreSound v [] (map (declared_in path text) x) × IsSample n (definitions_from (past_of []) (map (declared_in path text) x))) (sym q.2) (
        (one.no_fault, rest.sound),
        (one.definition, definitions_from (past_of ([] ++ δ ∷ [])) after_, one.defines after_, one.typename, rest.defined),
      )
