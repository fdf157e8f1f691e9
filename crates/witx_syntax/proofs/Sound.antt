-- What holds of its identifiers and quoted texts holds of all of the document's.
use Rattle.std.proofs.Common.{◌≡◌, ℕ, zero, suc, Bool, true, false, cond, List, [], ◌∷◌, ◌++◌, refl, subst, arith}
use Rattle.std.specs.Prelude.{All, slice_range}
use Rattle.witx_grammar.specs.Grammar.{Derives}
use Rattle.witx_grammar.specs.declared.table.Symbol.TheVariants.{Nonterminal}
use Rattle.witx_grammar.specs.declared.table.Step.{Step}
use Rattle.witx_lex.specs.Slices.{SpellsToken, StandsAt}
use Rattle.witx_lex.specs.Tokens.{Token, id, int, quoted, Lexed}
use Rattle.witx_values.specs.Language as general
use Rattle.witx_values.proofs.Keeping.{AllAre, Keeps, TokensAre, made_keeps, derived_keeps}
use Rattle.witx_syntax_tree.specs.Trees.{Name, Document}
use Rattle.witx_language.specs.declared.nonterminal.Nonterminal.TheVariants.{Text}
use Rattle.witx_language.specs.declared.production.ProductionName.{ProductionName}
use Rattle.witx_language.specs.declared.production.ProductionName.TheVariants as p
use Rattle.witx_language.specs.declared.sort.Sort.{Sort}
use Rattle.witx_language.specs.Actions.{meaning, more_entries, the_language}
use Rattle.witx_language.specs.Grammar.{the_grammar}
use Rattle.witx_language.specs.Integers.{is_small, int_value}
use Rattle.witx_language.specs.Sorts.{sorting}
use Rattle.witx_syntax.specs.Names.{StandsInText, NamesOfMembers, NamesOfType, NamesOfMaybe, NamesOfTypes, NamesOfFields, NamesOfUnionFields, NamesOfCases, NamesOfDecl, NamesOfDecls, NamesOfItem, AllNames}
use Rattle.witx_syntax.specs.Reads.{stands_for}
use Rattle.witx_language.specs.TokenKinds.{token_kinds}
use Rattle.witx_language.specs.Values.{EntryTree, param, result_of, noreturn, stored, EntriesTree, Val, a_name, a_text, an_integer, a_builtin, a_type, some_types, an_error, a_member, some_members, a_field, some_fields, a_union_field, some_union_fields, a_case, some_cases, an_entry, some_entries, a_decl, some_decls, an_item, some_items, token_values}
use Rattle.witx_language.proofs.Lawful.{is_sorting, lawful}

-- ---- the identifiers and quoted texts of values

-- the claims hold of the entry
abbrev NamesOfEntry : (Name → Type 0) → (List ℕ → Type 0) → EntryTree → Type 0
NamesOfEntry P Q (param cs n t) = P n × NamesOfType P Q t
NamesOfEntry P Q (result_of cs n t) = P n × NamesOfType P Q t
NamesOfEntry P Q noreturn = Unit {0}
NamesOfEntry P Q stored = Unit {0}

-- the claims hold of the value
abbrev NamesOfValue : (Name → Type 0) → (List ℕ → Type 0) → Val → Type 0
NamesOfValue P Q (a_name n) = P n
NamesOfValue P Q (a_text q) = Q q.text
NamesOfValue P Q (an_integer n) = Unit {0}
NamesOfValue P Q (a_builtin b) = Unit {0}
NamesOfValue P Q (a_type t) = NamesOfType P Q t
NamesOfValue P Q (some_types ts) = NamesOfTypes P Q ts
NamesOfValue P Q (an_error e) = NamesOfMaybe P Q e
NamesOfValue P Q (a_member m) = P m.name
NamesOfValue P Q (some_members ms) = NamesOfMembers P Q ms
NamesOfValue P Q (a_field cs n t) = P n × NamesOfType P Q t
NamesOfValue P Q (some_fields fs) = NamesOfFields P Q fs
NamesOfValue P Q (a_union_field cs t) = NamesOfType P Q t
NamesOfValue P Q (some_union_fields fs) = NamesOfUnionFields P Q fs
NamesOfValue P Q (a_case cs n t) = P n × NamesOfMaybe P Q t
NamesOfValue P Q (some_cases cs) = NamesOfCases P Q cs
NamesOfValue P Q (an_entry e) = NamesOfEntry P Q e
NamesOfValue P Q (some_entries ps rs n b) = NamesOfFields P Q ps × NamesOfFields P Q rs
NamesOfValue P Q (a_decl d) = NamesOfDecl P Q d.decl
NamesOfValue P Q (some_decls ds) = NamesOfDecls P Q ds
NamesOfValue P Q (an_item i) = NamesOfItem P Q i
NamesOfValue P Q (some_items is) = AllNames P Q is

-- the claims hold of the values
abbrev pub NamesOfValues : (Name → Type 0) → (List ℕ → Type 0) → List Val → Type 0
NamesOfValues P Q vs = AllAre (NamesOfValue P Q) vs

-- ---- productions: what each makes has the identifiers and texts of its parts

keeps_entry : (P : Name → Type 0) (Q : List ℕ → Type 0) (e : EntryTree) (es : EntriesTree) → NamesOfEntry P Q e → NamesOfFields P Q es.params × NamesOfFields P Q es.results
    → NamesOfFields P Q (more_entries e es).params × NamesOfFields P Q (more_entries e es).results
keeps_entry P Q (param cs n t) es h k = ((h, k.0), k.1)
keeps_entry P Q (result_of cs n t) es h k = (k.0, (h, k.1))
keeps_entry P Q noreturn es h k = k
keeps_entry P Q stored es h k = k

keeps : (P : Name → Type 0) (Q : List ℕ → Type 0) (x : ProductionName) (ts : List Lexed)
    → Keeps sorting (NamesOfValue P Q) (general.parts_of the_language x) (general.made_sort the_language x) (meaning x ts)
keeps P Q p.MoreItems ts = λ i hi is his. (hi, his)
keeps P Q p.Use ts = λ q hq. hq
keeps P Q p.Typename ts = λ n hn t ht. (hn, ht)
keeps P Q p.Module ts = λ n hn ds hds. (hn, hds)
keeps P Q p.Const ts = λ t ht n hn i hi. (ht, hn)
keeps P Q p.Pointer ts = λ t ht. ht
keeps P Q p.ConstPointer ts = λ t ht. ht
keeps P Q p.PlainType ts = λ t ht. ht
keeps P Q p.Ident ts = λ n hn. hn
keeps P Q p.TaggedEnum ts = λ b hb m hm ms hms. (hm, hms)
keeps P Q p.Enum ts = λ m hm ms hms. (hm, hms)
keeps P Q p.TaggedFlags ts = λ b hb ms hms. hms
keeps P Q p.Flags ts = λ ms hms. hms
keeps P Q p.Record ts = λ f hf fs hfs. (tt, (hf, hfs))
keeps P Q p.Tuple ts = λ us hus. hus
keeps P Q p.List ts = λ t ht. ht
keeps P Q p.Expected ts = λ e he. (tt, he)
keeps P Q p.ExpectedType ts = λ t ht e he. (ht, he)
keeps P Q p.TaggedUnion ts = λ t ht fs hfs. (ht, hfs)
keeps P Q p.EmptyUnion ts = (tt, tt)
keeps P Q p.Union ts = λ f hf fs hfs. (tt, (hf, hfs))
keeps P Q p.TaggedVariant ts = λ t ht cs hcs. (ht, hcs)
keeps P Q p.Variant ts = λ cs hcs. (tt, hcs)
keeps P Q p.BuiltinType ts = λ b hb. tt
keeps P Q p.Name ts = λ n hn. hn
keeps P Q p.MoreNames ts = λ m hm ms hms. (hm, hms)
keeps P Q p.MoreTypes ts = λ t ht us hus. (ht, hus)
keeps P Q p.UnionField ts = λ t ht. ht
keeps P Q p.FirstUnionField ts = λ t ht. ht
keeps P Q p.MoreUnionFields ts = λ f hf fs hfs. (hf, hfs)
keeps P Q p.Field ts = λ n hn t ht. (hn, ht)
keeps P Q p.MoreFields ts = λ f hf fs hfs. (hf, hfs)
keeps P Q p.Error ts = λ t ht. ht
keeps P Q p.BareCase ts = λ n hn. (hn, tt)
keeps P Q p.Case ts = λ n hn t ht. (hn, ht)
keeps P Q p.MoreCases ts = λ c hc cs hcs. (hc, hcs)
keeps P Q p.Import ts = λ q hq. hq
keeps P Q p.Func ts = λ q hq es hes. (hq, hes)
keeps P Q p.MoreDecls ts = λ d hd ds hds. (hd, hds)
keeps P Q p.Param ts = λ n hn t ht. (hn, ht)
keeps P Q p.Result ts = λ n hn t ht. (hn, ht)
keeps P Q p.NoEntries ts = (tt, tt)
keeps P Q p.MoreEntries ts = λ e he es hes. keeps_entry P Q e es he hes
keeps P Q x ts = tt

module _ (P : Name → Type 0) (Q : List ℕ → Type 0) where
  pub made_keep : (x : ProductionName) (ls : List Lexed) (ss : List Sort) (vs : List Val) → general.Are the_language (general.parts_of the_language x ++ ss) vs → NamesOfValues P Q vs
      → NamesOfValues P Q (the_language.act x ls vs)
  made_keep x ls ss vs e h =
      made_keeps sorting (NamesOfValue P Q) is_sorting (general.parts_of the_language x) ss (general.made_sort the_language x) (meaning x ls) vs e (keeps P Q x ls) h

  -- the claims hold of each token
  abbrev pub NamesOfTokens : List Lexed → Type 0
  NamesOfTokens ls = TokensAre the_language lawful (NamesOfValue P Q) made_keep ls

  -- what holds of the identifiers and of the quoted texts of the tokens holds of those of their document
  pub document_names : (ts : List Lexed) (ms : List (Step ProductionName)) (d : Document) → NamesOfTokens ts → Derives the_grammar ms (Nonterminal Text ∷ []) (token_kinds ts) → stands_for ts ms ≡ some_items d ∷ []
      → AllNames P Q d
  document_names ts ms d h derives e =
      (subst (λ (vs : List Val). NamesOfValues P Q vs) e (derived_keeps the_language lawful (NamesOfValue P Q) made_keep Text ts ms h derives)).0

-- ---- the identifiers and quoted texts of tokens

int_names : (P : Name → Type 0) (Q : List ℕ → Type 0) (b : Bool) (n : ℕ) → NamesOfValues P Q (cond b (an_integer n ∷ []) [])
int_names P Q true n = (tt, tt)
int_names P Q false n = tt

pub token_names : (P : Name → Type 0) (Q : List ℕ → Type 0) (t : Token) (start end : ℕ) → ((x : List ℕ) → t ≡ id x → P (record { name = x; start = start; end = end })) → ((x : List ℕ) → t ≡ quoted x → Q x)
    → NamesOfValues P Q (token_values t start end)
token_names P Q (id x) start end h q = (h x refl, tt)
token_names P Q (quoted x) start end h q = (q x refl, tt)
token_names P Q (int x) start end h q = int_names P Q (is_small x) (int_value x)
token_names P Q t start end h q = tt

-- ---- texts

abbrev any_text : List ℕ → Type 0
any_text t = Unit {0}

identifier_stands : (text x : List ℕ) (l : Lexed) → StandsAt text l → l.token ≡ id x → StandsInText text (record { name = x; start = l.start; end = l.end })
identifier_stands text x l s e = record {
  ordered = s.ordered;
  inside = s.inside;
  spelled = subst (λ (t : Token). SpellsToken (slice_range text l.start l.end) t) e s.spelled;
}

all_stand : (text : List ℕ) (ts : List Lexed) → All (StandsAt text) ts → NamesOfTokens (StandsInText text) any_text ts
all_stand text [] all = tt
all_stand text (t ∷ ts) all = (
  token_names (StandsInText text) any_text t.token t.start t.end (λ x e. identifier_stands text x t (all zero t (omega arith)) e) (λ x e. tt),
  all_stand text ts (λ i d lt. all (suc i) d (omega (arith, lt))),
)

pub names_stand : (text : List ℕ) (ts : List Lexed) (ms : List (Step ProductionName)) (d : Document) → All (StandsAt text) ts → Derives the_grammar ms (Nonterminal Text ∷ []) (token_kinds ts) → stands_for ts ms ≡ some_items d ∷ []
    → AllNames (StandsInText text) any_text d
names_stand text ts ms d all derives e = document_names (StandsInText text) any_text ts ms d (all_stand text ts all) derives e
