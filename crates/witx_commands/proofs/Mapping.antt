-- The map of the pairs of names that a loop has passed, with those still to come, is that of all pairs; and what a command
-- over two files tells is what the calls below tell.
use Rattle.std.specs.Prelude.{◌≡◌, ℕ, ◌-◌, ◌<◌, ◌≤◌, List, [], ◌∷◌, ◌++◌, length, take, drop, reverse, Option, None, Ok}
use Rattle.std.proofs.Common.{refl, sym, ap, ◌∙◌, subst, get_or, append_assoc, append-nil, arith, inl, inr}
use Rattle.std.proofs.lemmas.List.{take_all}
use Rattle.std.proofs.lemmas.Grind.{reverse_onto}
use Rattle.std.specs.declared.cmp.Ordering.{Ordering}
use Rattle.std.specs.declared.cmp.Ordering.TheVariants.{Less, Equal, Greater}
use Rattle.std.specs.Ordering.{nat_cmp, match_ordering}
use Rattle.std.specs.Cmp.Lexicographic.{nat_list_cmp_total, slice_cmp}
use Rattle.std.specs.BTreeMap.{insert_entry}
use Rattle.std.specs.FinMap.{FinMap, entries, entries-insert, from_entries, len-empty, len-entries, put}
use Rattle.std.specs.FinMap.Entries.{by_order}
use Rattle.witx_files.specs.Files.{Files}
use Rattle.witx_ast.specs.Definitions.{DefinitionTree}
use Rattle.witx_compat.specs.Polyfills.{MappedModule, no_module, no_function, polyfill_answer}
use Rattle.witx_compat.specs.Views.{IsPolyfillRefusal}
use Rattle.witx_compat.specs.declared.error.PolyfillError.{PolyfillError}
use Rattle.witx_compat.specs.declared.error.PolyfillError.TheVariants as polyfill_error
use Rattle.witx_docs.specs.PolyfillTexts.{polyfill_text}
use Rattle.witx_adapt.specs.declared.adapted.Adapted.{Adapted}
use Rattle.witx_commands.specs.Adapting.{Parses}
use Rattle.witx_commands.specs.Causes.{IsOutput}
use Rattle.witx_commands.specs.Mappings.{IsAbsentReport, IsErrorText, IsPolyfillText, MeansBoth, mapping_of, pairs_of}
use Rattle.witx_commands.specs.Reports.{BothFail, CommandRefuses, ParsingFails}
use Rattle.witx_commands.specs.Stops.{StopsWith}
use Rattle.witx_commands.specs.Words as asked
use Rattle.witx_commands.specs.Words.{TwoFiles, paths_of}
use Rattle.witx_commands.specs.declared.refusal.Stop.{Stop}
use Rattle.witx_commands.proofs.Refusing.{memory-stops, stops-as}

abbrev Pairs : Type 0
Pairs = List (List ℕ × List ℕ)

-- pairs put into a map one by one
abbrev pub with_pairs : Pairs → Pairs → Pairs
with_pairs es [] = es
with_pairs es (p ∷ ps) = with_pairs (insert_entry (slice_cmp nat_cmp) es p.0 p.1) ps

by-matching : {A : Type 0} (o : Ordering) (a b c : A) → by_order o a b c ≡ match_ordering o a b c
by-matching Less a b c = refl
by-matching Equal a b c = refl
by-matching Greater a b c = refl

put-entry : (es : Pairs) (k v : List ℕ) → put (slice_cmp nat_cmp) k v es ≡ insert_entry (slice_cmp nat_cmp) es k v
put-entry [] k v = refl
put-entry (e ∷ es) k v =
    ap (λ fs. by_order (slice_cmp nat_cmp k e.0) ((k, v) ∷ e ∷ es) ((e.0, v) ∷ es) (e ∷ fs)) (put-entry es k v)
    ∙ by-matching (slice_cmp nat_cmp k e.0) ((k, v) ∷ e ∷ es) ((e.0, v) ∷ es) (e ∷ insert_entry (slice_cmp nat_cmp) es k v)

abbrev map_with : Pairs → FinMap (slice_cmp nat_cmp) (List ℕ)
map_with ps = from_entries ps

abbrev entries_with : Pairs → Pairs
entries_with ps = entries (map_with ps)

one-pair : (p : List ℕ × List ℕ) (qs : Pairs) → entries_with (p ∷ qs) ≡ insert_entry (slice_cmp nat_cmp) (entries_with qs) p.0 p.1
one-pair p qs = entries-insert nat_list_cmp_total (map_with qs) p.0 p.1 ∙ put-entry (entries_with qs) p.0 p.1

reverse-more : (p : List ℕ × List ℕ) (ps qs : Pairs) → reverse ps ++ p ∷ qs ≡ reverse (p ∷ ps) ++ qs
reverse-more p ps qs = sym (append_assoc (reverse ps) (p ∷ []) qs) ∙ ap (λ l. l ++ qs) (sym (reverse_onto ps p []))

all-pairs : (ps qs : Pairs) → with_pairs (entries_with qs) ps ≡ entries_with (reverse ps ++ qs)
all-pairs [] qs = refl
all-pairs (p ∷ ps) qs = ap (λ es. with_pairs es ps) (sym (one-pair p qs)) ∙ all-pairs ps (p ∷ qs) ∙ ap entries_with (reverse-more p ps qs)

none-there : (es : Pairs) → length es ≡ 0 → es ≡ []
none-there [] e = refl
none-there (p ∷ es) e = absurd (omega (arith, e))

no-entries : entries_with [] ≡ []
no-entries = none-there (entries_with []) (sym (len-entries (map_with [])) ∙ len-empty (slice_cmp nat_cmp) (List ℕ))

pub mapping-begins : (names : List (List ℕ)) (m : Pairs) → m ≡ [] → with_pairs m (pairs_of names) ≡ mapping_of names
unfolding mapping_of
mapping-begins names m e =
    ap (λ es. with_pairs es (pairs_of names)) (e ∙ sym no-entries) ∙ all-pairs (pairs_of names) [] ∙ ap entries_with (append-nil (reverse (pairs_of names)))

pub no-pairs : (names : List (List ℕ)) → length names < 2 → pairs_of names ≡ []
no-pairs [] l = refl
no-pairs (name ∷ []) l = refl
no-pairs (new ∷ old ∷ more) l = absurd (omega (arith, l))

pub mapping-ends : (names : List (List ℕ)) (m all : Pairs) → length names < 2 → with_pairs m (pairs_of names) ≡ all → m ≡ all
mapping-ends names m all l e = ap (with_pairs m) (sym (no-pairs names l)) ∙ e

pub mapping-more : (rest : List (List ℕ)) (new old : List ℕ) (m next all : Pairs) → 2 ≤ length rest → new ≡ get_or rest 0 new → old ≡ get_or rest 1 old
    → next ≡ insert_entry (slice_cmp nat_cmp) m new old → with_pairs m (pairs_of rest) ≡ all → with_pairs next (pairs_of (take (length rest - 2) (drop 2 rest))) ≡ all
mapping-more [] new old m next all l p q n e = absurd (omega (arith, l))
mapping-more (name ∷ []) new old m next all l p q n e = absurd (omega (arith, l))
mapping-more (name ∷ other ∷ more) new old m next all l p q n e =
    ap (λ ws. with_pairs next (pairs_of ws)) (take_all (length (name ∷ other ∷ more) - 2) more (omega arith))
    ∙ ap (λ es. with_pairs es (pairs_of more))
    (n ∙ ap (λ k. insert_entry (slice_cmp nat_cmp) m k old) p ∙ ap (λ v. insert_entry (slice_cmp nat_cmp) m name v) q)
    ∙ e

pub ruleset mapping_rules = (mapping-ends)

-- the two documents
pub both-mean : (files mid : Files) (two : TwoFiles) (news olds : List (List ℕ)) (new old : List DefinitionTree) → news ≡ two.new ∷ [] → olds ≡ two.old ∷ [] → mid ≡ files
    → Parses files (paths_of news) (Ok new) → Parses mid (paths_of olds) (Ok old) → MeansBoth files two new old
both-mean files mid two news olds new old n o f p q =
    (subst (λ ws. Parses files (paths_of ws) (Ok new)) n p, subst (λ ws. Parses files (paths_of ws) (Ok old)) o (subst (λ fs. Parses fs (paths_of olds) (Ok old)) f q))

pub new-stops : (files : Files) (two : TwoFiles) (news : List (List ℕ)) (s : Stop) → news ≡ two.new ∷ [] → StopsWith (ParsingFails files (paths_of news)) s
    → StopsWith (BothFail files two) s
new-stops files two news s n k =
    stops-as (ParsingFails files (paths_of (two.new ∷ []))) (BothFail files two) (λ report h. inl h) s
    (subst (λ ws. StopsWith (ParsingFails files (paths_of ws)) s) n k)

pub old-stops : (files mid : Files) (two : TwoFiles) (news olds : List (List ℕ)) (new : List DefinitionTree) (s : Stop) → news ≡ two.new ∷ [] → olds ≡ two.old ∷ [] → mid ≡ files
    → Parses files (paths_of news) (Ok new) → StopsWith (ParsingFails mid (paths_of olds)) s → StopsWith (BothFail files two) s
old-stops files mid two news olds new s n o f p k =
    stops-as (ParsingFails files (paths_of (two.old ∷ []))) (BothFail files two)
    (λ report h. inr (new, subst (λ ws. Parses files (paths_of ws) (Ok new)) n p, h)) s
    (subst (λ ws. StopsWith (ParsingFails files (paths_of ws)) s) o (subst (λ fs. StopsWith (ParsingFails fs (paths_of olds)) s) f k))

pub ruleset document_rules = (both-mean, new-stops, old-stops)

-- the report on mapped modules, or of what is absent
pub mapped-answer : (new old : List DefinitionTree) (names : List (List ℕ)) (m : Pairs) (modules : List MappedModule) → m ≡ mapping_of names
    → polyfill_answer new old m ≡ Ok modules → polyfill_answer new old (mapping_of names) ≡ Ok modules
mapped-answer new old names m modules e p = ap (polyfill_answer new old) (sym e) ∙ p

pub answer-text : (new old : List DefinitionTree) (names : List (List ℕ)) (modules : List MappedModule) (text : List ℕ)
    → polyfill_answer new old (mapping_of names) ≡ Ok modules → text ≡ polyfill_text modules → IsPolyfillText new old names text
unfolding IsPolyfillText
answer-text new old names modules text p t = (modules, p, t)

absent-told : (new old : List DefinitionTree) (names : List (List ℕ)) (m : Pairs) (e : PolyfillError) (report : List ℕ) → m ≡ mapping_of names
    → IsPolyfillRefusal (polyfill_answer new old m) e → IsErrorText e report → IsAbsentReport new old names report
unfolding IsAbsentReport
absent-told new old names m (polyfill_error.ModuleNotPresent name) report e p t = (no_module name, ap (polyfill_answer new old) (sym e) ∙ p, t)
absent-told new old names m (polyfill_error.FuncNotPresent owner name) report e p t = (no_function owner name, ap (polyfill_answer new old) (sym e) ∙ p, t)
absent-told new old names m polyfill_error.OutOfMemory report e p t = absurd t

pub absent-stops : (new old : List DefinitionTree) (names : List (List ℕ)) (m : Pairs) (e : PolyfillError) (s : Stop) → m ≡ mapping_of names
    → IsPolyfillRefusal (polyfill_answer new old m) e → StopsWith (IsErrorText e) s → StopsWith (IsAbsentReport new old names) s
absent-stops new old names m e s n p k = stops-as (IsErrorText e) (IsAbsentReport new old names) (λ report t. absent-told new old names m e report n p t) s k

pub ruleset report_rules = (memory-stops, mapped-answer, answer-text, absent-stops)

-- the command's output, and what it refuses
abbrev two-of : (first other : List ℕ) → List (List ℕ) → TwoFiles
two-of first other names = record { new = first; old = other; names = names }

pub polyfill-output : (files : Files) (first other : List ℕ) (names : List (List ℕ)) (text notes : List ℕ) (new old : List DefinitionTree) (adapted : Option Adapted)
    → MeansBoth files (two-of first other names) new old → IsPolyfillText new old names text → (notes ≡ []) × (adapted ≡ None)
    → IsOutput (asked.polyfill (two-of first other names)) files text notes adapted
unfolding IsOutput
polyfill-output files first other names text notes new old adapted both t (none, a) = (none, a, (new, old, both, t))

pub both-refused : (files : Files) (two : TwoFiles) (s : Stop) → StopsWith (BothFail files two) s → StopsWith (CommandRefuses (asked.polyfill two) files) s
unfolding CommandRefuses
both-refused files two s k = stops-as (BothFail files two) (CommandRefuses (asked.polyfill two) files) (λ report h. inl h) s k

pub absent-refused : (files : Files) (first other : List ℕ) (names : List (List ℕ)) (new old : List DefinitionTree) (s : Stop) → MeansBoth files (two-of first other names) new old
    → StopsWith (IsAbsentReport new old names) s → StopsWith (CommandRefuses (asked.polyfill (two-of first other names)) files) s
unfolding CommandRefuses
absent-refused files first other names new old s both k =
    stops-as (IsAbsentReport new old names) (CommandRefuses (asked.polyfill (two-of first other names)) files) (λ report h. inr (new, old, both, h)) s k

pub ruleset output_rules = (polyfill-output, both-refused, absent-refused)
