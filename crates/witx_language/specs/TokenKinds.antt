-- Kinds of tokens: each word and each annotation of the grammar is of one, tied to its spelling here and nowhere else.
use Rattle.std.specs.Prelude.{Bool, if◌then◌else◌, List, [], ◌∷◌, ◌++◌, map, codes}
use Rattle.witx_lex.specs.Tokens.{Token, left, right, id, word, annot, int, quoted, Lexed}
use Rattle.witx_language.specs.contracts.token_kind.TokenKindPartialEq.TheImpl as kinds
use Rattle.witx_language.specs.declared.token_kind.TokenKind.{TokenKind}
use Rattle.witx_language.specs.declared.token_kind.TokenKind.TheVariants.{Left, Right, Id, Quoted, Integer, BigInteger, Other, End, AtWitx, AtInterface, UseWord, TypenameWord, ModuleWord, ConstWord, CharWord, U8Word, U16Word, U32Word, U64Word, S8Word, S16Word, S32Word, S64Word, F32Word, F64Word, StringWord, BoolWord, EnumWord, FlagsWord, RecordWord, FieldWord, TupleWord, ListWord, HandleWord, ExpectedWord, ErrorWord, UnionWord, VariantWord, CaseWord, TagWord, ReprWord, PointerWord, ConstPointerWord, UsizeWord, Char8Word, ImportWord, MemoryWord, FuncWord, ExportWord, ParamWord, ResultWord, NoreturnWord, StoredWord}
use Rattle.witx_language.specs.Integers.{is_small}
use Rattle.witx_values.specs.Words.{Spelling, spelled, kind_spelled}

-- whether two kinds are one
abbrev pub is_kind : TokenKind → TokenKind → Bool
is_kind = kinds.ghosts.eq

-- the words
abbrev pub the_words : List (Spelling TokenKind)
the_words =
    spelled ParamWord (codes "param") ∷ spelled ResultWord (codes "result") ∷ spelled FuncWord (codes "func")
    ∷ spelled ExportWord (codes "export") ∷ spelled FieldWord (codes "field") ∷ spelled TypenameWord (codes "typename") ∷ spelled CaseWord (codes "case")
    ∷ spelled ErrorWord (codes "error") ∷ spelled ExpectedWord (codes "expected") ∷ spelled StringWord (codes "string")
    ∷ spelled U8Word (codes "u8") ∷ spelled U16Word (codes "u16") ∷ spelled U32Word (codes "u32")
    ∷ spelled U64Word (codes "u64") ∷ spelled S8Word (codes "s8") ∷ spelled S16Word (codes "s16")
    ∷ spelled S32Word (codes "s32") ∷ spelled S64Word (codes "s64") ∷ spelled F32Word (codes "f32")
    ∷ spelled F64Word (codes "f64") ∷ spelled CharWord (codes "char") ∷ spelled BoolWord (codes "bool")
    ∷ spelled ListWord (codes "list") ∷ spelled PointerWord (codes "pointer")
    ∷ spelled ConstPointerWord (codes "const_pointer") ∷ spelled UsizeWord (codes "usize") ∷ spelled Char8Word (codes "char8")
    ∷ spelled HandleWord (codes "handle") ∷ spelled TupleWord (codes "tuple") ∷ spelled RecordWord (codes "record")
    ∷ spelled EnumWord (codes "enum") ∷ spelled FlagsWord (codes "flags") ∷ spelled UnionWord (codes "union")
    ∷ spelled VariantWord (codes "variant") ∷ spelled TagWord (codes "tag") ∷ spelled ReprWord (codes "repr")
    ∷ spelled NoreturnWord (codes "noreturn") ∷ spelled StoredWord (codes "stored")
    ∷ spelled UseWord (codes "use") ∷ spelled ModuleWord (codes "module") ∷ spelled ImportWord (codes "import")
    ∷ spelled MemoryWord (codes "memory") ∷ spelled ConstWord (codes "const") ∷ []

-- annotations, without their @
abbrev pub the_annotations : List (Spelling TokenKind)
the_annotations = spelled AtWitx (codes "witx") ∷ spelled AtInterface (codes "interface") ∷ []

-- all kinds: those of words and of annotations, and the others
abbrev pub all_kinds : List TokenKind
all_kinds = map (λ s. s.kind) (the_words ++ the_annotations) ++ (Left ∷ Right ∷ Id ∷ Quoted ∷ Integer ∷ BigInteger ∷ Other ∷ End ∷ [])

-- the kind of a token
abbrev pub token_kind : Token → TokenKind
token_kind left = Left
token_kind right = Right
token_kind (id t) = Id
token_kind (quoted t) = Quoted
token_kind (int t) = if is_small t then Integer else BigInteger
token_kind (word t) = kind_spelled Other the_words t
token_kind (annot t) = kind_spelled Other the_annotations t

-- the kinds of the tokens of a text, and then, once, that of its end
abbrev pub token_kinds : List Lexed → List TokenKind
token_kinds ts = map (λ l. token_kind l.token) ts ++ End ∷ []
