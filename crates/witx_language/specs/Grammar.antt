-- The grammar of the interface language, production by production: which nonterminal it writes, and by what.
-- An optional part is two productions, and a repetition is a nonterminal that ends with its closing parenthesis.
use Rattle.std.specs.Prelude.{List, [], ◌∷◌, map}
use Rattle.witx_grammar.specs.Grammar.{Rewrite}
use Rattle.witx_grammar.specs.Prediction.{IsPredictive}
use Rattle.witx_grammar.specs.declared.table.Symbol.TheVariants.{Terminal as T, Nonterminal as N}
use Rattle.witx_grammar.specs.declared.table.Table.{Table}
use Rattle.witx_values.specs.Language.{Written, write, production_of}
use Rattle.witx_language.specs.contracts.nonterminal.NonterminalPartialEq.TheImpl as nonterminals
use Rattle.witx_language.specs.contracts.production.ProductionNamePartialEq.TheImpl as productions
use Rattle.witx_language.specs.contracts.token_kind.TokenKindPartialEq.TheImpl as kinds
use Rattle.witx_language.specs.declared.token_kind.TokenKind.{TokenKind}
use Rattle.witx_language.specs.declared.token_kind.TokenKind.TheVariants.{Left, Right, Id, Quoted, Integer, End, AtWitx, AtInterface, UseWord, TypenameWord, ModuleWord, ConstWord, CharWord, U8Word, U16Word, U32Word, U64Word, S8Word, S16Word, S32Word, S64Word, F32Word, F64Word, StringWord, BoolWord, EnumWord, FlagsWord, RecordWord, FieldWord, TupleWord, ListWord, HandleWord, ExpectedWord, ErrorWord, UnionWord, VariantWord, CaseWord, TagWord, ReprWord, PointerWord, ConstPointerWord, UsizeWord, Char8Word, ImportWord, MemoryWord, FuncWord, ExportWord, ParamWord, ResultWord, NoreturnWord, StoredWord}
use Rattle.witx_language.specs.declared.nonterminal.Nonterminal.{Nonterminal}
use Rattle.witx_language.specs.declared.nonterminal.Nonterminal.TheVariants as n
use Rattle.witx_language.specs.declared.production.ProductionName.{ProductionName}
use Rattle.witx_language.specs.declared.production.ProductionName.TheVariants as p

-- which nonterminal each production writes, and by what
abbrev pub written : ProductionName → Written TokenKind Nonterminal
written p.NoItems = write n.Text (T End ∷ [])
written p.MoreItems = write n.Text (N n.Item ∷ N n.Text ∷ [])
written p.Use = write n.Item (T Left ∷ T UseWord ∷ T Quoted ∷ T Right ∷ [])
written p.Typename = write n.Item (T Left ∷ T TypenameWord ∷ T Id ∷ N n.Type ∷ T Right ∷ [])
written p.Module = write n.Item (T Left ∷ T ModuleWord ∷ T Id ∷ N n.Decls ∷ [])
written p.Const = write n.Item (T Left ∷ T AtWitx ∷ T ConstWord ∷ T Id ∷ T Id ∷ T Integer ∷ T Right ∷ [])
written p.Char = write n.Builtin (T CharWord ∷ [])
written p.U8 = write n.Builtin (T U8Word ∷ [])
written p.U16 = write n.Builtin (T U16Word ∷ [])
written p.U32 = write n.Builtin (T U32Word ∷ [])
written p.U64 = write n.Builtin (T U64Word ∷ [])
written p.S8 = write n.Builtin (T S8Word ∷ [])
written p.S16 = write n.Builtin (T S16Word ∷ [])
written p.S32 = write n.Builtin (T S32Word ∷ [])
written p.S64 = write n.Builtin (T S64Word ∷ [])
written p.F32 = write n.Builtin (T F32Word ∷ [])
written p.F64 = write n.Builtin (T F64Word ∷ [])
written p.Pointer = write n.Type (T Left ∷ T AtWitx ∷ T PointerWord ∷ N n.Type ∷ T Right ∷ [])
written p.ConstPointer = write n.Type (T Left ∷ T AtWitx ∷ T ConstPointerWord ∷ N n.Type ∷ T Right ∷ [])
written p.Usize = write n.Type (T Left ∷ T AtWitx ∷ T UsizeWord ∷ T Right ∷ [])
written p.Char8 = write n.Type (T Left ∷ T AtWitx ∷ T Char8Word ∷ T Right ∷ [])
written p.PlainType = write n.Type (N n.Plain ∷ [])
written p.Ident = write n.Plain (T Id ∷ [])
written p.String = write n.Plain (T StringWord ∷ [])
written p.Bool = write n.Plain (T BoolWord ∷ [])
written p.TaggedEnum = write n.Plain (T Left ∷ T EnumWord ∷ T Left ∷ T AtWitx ∷ T TagWord ∷ N n.Builtin ∷ T Right ∷ N n.Name ∷ N n.Names ∷ [])
written p.Enum = write n.Plain (T Left ∷ T EnumWord ∷ N n.Name ∷ N n.Names ∷ [])
written p.TaggedFlags = write n.Plain (T Left ∷ T FlagsWord ∷ T Left ∷ T AtWitx ∷ T ReprWord ∷ N n.Builtin ∷ T Right ∷ N n.Names ∷ [])
written p.Flags = write n.Plain (T Left ∷ T FlagsWord ∷ N n.Names ∷ [])
written p.Record = write n.Plain (T Left ∷ T RecordWord ∷ N n.Field ∷ N n.Fields ∷ [])
written p.Tuple = write n.Plain (T Left ∷ T TupleWord ∷ N n.Types ∷ [])
written p.List = write n.Plain (T Left ∷ T ListWord ∷ N n.Type ∷ T Right ∷ [])
written p.Handle = write n.Plain (T Left ∷ T HandleWord ∷ T Right ∷ [])
written p.Expected = write n.Plain (T Left ∷ T ExpectedWord ∷ T Left ∷ T ErrorWord ∷ N n.ErrorRest ∷ T Right ∷ [])
written p.ExpectedType = write n.Plain (T Left ∷ T ExpectedWord ∷ N n.Type ∷ T Left ∷ T ErrorWord ∷ N n.ErrorRest ∷ T Right ∷ [])
written p.TaggedUnion = write n.Plain (T Left ∷ T UnionWord ∷ T Left ∷ T AtWitx ∷ T TagWord ∷ N n.Type ∷ T Right ∷ N n.UnionFields ∷ [])
written p.EmptyUnion = write n.Plain (T Left ∷ T UnionWord ∷ T Right ∷ [])
written p.Union = write n.Plain (T Left ∷ T UnionWord ∷ N n.FirstUnionField ∷ N n.UnionFields ∷ [])
written p.TaggedVariant = write n.Plain (T Left ∷ T VariantWord ∷ T Left ∷ T AtWitx ∷ T TagWord ∷ N n.Type ∷ T Right ∷ N n.Cases ∷ [])
written p.Variant = write n.Plain (T Left ∷ T VariantWord ∷ N n.Cases ∷ [])
written p.BuiltinType = write n.Plain (N n.Builtin ∷ [])
written p.Name = write n.Name (T Id ∷ [])
written p.NoNames = write n.Names (T Right ∷ [])
written p.MoreNames = write n.Names (N n.Name ∷ N n.Names ∷ [])
written p.NoTypes = write n.Types (T Right ∷ [])
written p.MoreTypes = write n.Types (N n.Type ∷ N n.Types ∷ [])
written p.UnionField = write n.UnionField (N n.Type ∷ [])
written p.FirstUnionField = write n.FirstUnionField (N n.Plain ∷ [])
written p.NoUnionFields = write n.UnionFields (T Right ∷ [])
written p.MoreUnionFields = write n.UnionFields (N n.UnionField ∷ N n.UnionFields ∷ [])
written p.Field = write n.Field (T Left ∷ T FieldWord ∷ T Id ∷ N n.Type ∷ T Right ∷ [])
written p.NoFields = write n.Fields (T Right ∷ [])
written p.MoreFields = write n.Fields (N n.Field ∷ N n.Fields ∷ [])
written p.BareError = write n.ErrorRest (T Right ∷ [])
written p.Error = write n.ErrorRest (N n.Type ∷ T Right ∷ [])
written p.BareCase = write n.Case (T Left ∷ T CaseWord ∷ T Id ∷ T Right ∷ [])
written p.Case = write n.Case (T Left ∷ T CaseWord ∷ T Id ∷ N n.Type ∷ T Right ∷ [])
written p.NoCases = write n.Cases (T Right ∷ [])
written p.MoreCases = write n.Cases (N n.Case ∷ N n.Cases ∷ [])
written p.Import = write n.Decl (T Left ∷ T ImportWord ∷ T Quoted ∷ T Left ∷ T MemoryWord ∷ T Right ∷ T Right ∷ [])
written p.Func = write n.Decl (T Left ∷ T AtInterface ∷ T FuncWord ∷ T Left ∷ T ExportWord ∷ T Quoted ∷ T Right ∷ N n.Entries ∷ [])
written p.NoDecls = write n.Decls (T Right ∷ [])
written p.MoreDecls = write n.Decls (N n.Decl ∷ N n.Decls ∷ [])
written p.Param = write n.Entry (T Left ∷ T ParamWord ∷ T Id ∷ N n.Type ∷ T Right ∷ [])
written p.Result = write n.Entry (T Left ∷ T ResultWord ∷ T Id ∷ N n.Type ∷ T Right ∷ [])
written p.Noreturn = write n.Entry (T Left ∷ T AtWitx ∷ T NoreturnWord ∷ T Right ∷ [])
written p.Stored = write n.Entry (T Left ∷ T AtWitx ∷ T StoredWord ∷ T Right ∷ [])
written p.NoEntries = write n.Entries (T Right ∷ [])
written p.MoreEntries = write n.Entries (N n.Entry ∷ N n.Entries ∷ [])

abbrev pub production : ProductionName → Rewrite TokenKind Nonterminal ProductionName
production = production_of written

abbrev pub the_names : List ProductionName
the_names =
    p.NoItems ∷ p.MoreItems
    ∷ p.Use ∷ p.Typename ∷ p.Module ∷ p.Const
    ∷ p.Char ∷ p.U8 ∷ p.U16 ∷ p.U32 ∷ p.U64 ∷ p.S8 ∷ p.S16 ∷ p.S32 ∷ p.S64 ∷ p.F32 ∷ p.F64
    ∷ p.Pointer ∷ p.ConstPointer ∷ p.Usize ∷ p.Char8 ∷ p.PlainType
    ∷ p.Ident ∷ p.String ∷ p.Bool ∷ p.TaggedEnum ∷ p.Enum ∷ p.TaggedFlags ∷ p.Flags ∷ p.Record ∷ p.Tuple ∷ p.List ∷ p.Handle ∷ p.Expected ∷ p.ExpectedType ∷ p.TaggedUnion ∷ p.EmptyUnion ∷ p.Union ∷ p.TaggedVariant ∷ p.Variant ∷ p.BuiltinType
    ∷ p.Name
    ∷ p.NoNames ∷ p.MoreNames
    ∷ p.NoTypes ∷ p.MoreTypes
    ∷ p.UnionField
    ∷ p.FirstUnionField
    ∷ p.NoUnionFields ∷ p.MoreUnionFields
    ∷ p.Field
    ∷ p.NoFields ∷ p.MoreFields
    ∷ p.BareError ∷ p.Error
    ∷ p.BareCase ∷ p.Case
    ∷ p.NoCases ∷ p.MoreCases
    ∷ p.Import ∷ p.Func
    ∷ p.NoDecls ∷ p.MoreDecls
    ∷ p.Param ∷ p.Result ∷ p.Noreturn ∷ p.Stored
    ∷ p.NoEntries ∷ p.MoreEntries
    ∷ []

abbrev pub the_grammar : List (Rewrite TokenKind Nonterminal ProductionName)
the_grammar = map production the_names

-- the lookahead of a table shows each production
abbrev pub IsPredictiveTable : Table TokenKind Nonterminal ProductionName → Type 0
IsPredictiveTable t = IsPredictive kinds.ghosts.eq nonterminals.ghosts.eq productions.ghosts.eq t
