-- Some lists of tokens, with their documents and their faults, by computation.
use Rattle.std.proofs.Common.{◌≡◌, ℕ, List, [], ◌∷◌, Option, Some, refl}
use Rattle.witx_grammar.specs.Search.{Found, search_fault}
use Rattle.witx_grammar.specs.declared.table.Symbol.TheVariants.{Nonterminal as wanted}
use Rattle.witx_grammar.specs.declared.table.Step.TheVariants.{Leaf, Node}
use Rattle.witx_grammar.specs.declared.table.TheConstants.{DEPTH}
use Rattle.witx_lex.specs.Tokens.{Token, left, right, word, quoted, Lexed}
use Rattle.witx_language.specs.contracts.nonterminal.NonterminalPartialEq.TheImpl as nonterminals
use Rattle.witx_language.specs.declared.nonterminal.Nonterminal.TheVariants.{Text}
use Rattle.witx_language.specs.declared.production.ProductionName.TheVariants.{NoItems, MoreItems, Use}
use Rattle.witx_language.specs.declared.token_kind.TokenKind.{TokenKind}
use Rattle.witx_language.specs.declared.token_kind.TokenKind.TheVariants.{Left, Right, Id, Quoted, Integer, BigInteger, Other, End, AtWitx, UseWord, ConstWord, TypenameWord, UnionWord, PointerWord, TagWord, U8Word}
use Rattle.witx_language.specs.Grammar.{the_grammar}
use Rattle.witx_syntax.specs.Reads.{stands_for}
use Rattle.witx_language.specs.TokenKinds.{is_kind}
use Rattle.witx_syntax_tree.specs.Trees.{uses}
use Rattle.witx_language.specs.Values.{some_items}

abbrev fault_of : List TokenKind → Option (Found TokenKind)
fault_of ts = search_fault is_kind nonterminals.ghosts.eq the_grammar DEPTH ((wanted Text ∷ []) ∷ []) 0 ts

-- (use bbbbbbb): a string alone can stand behind use
a_word_for_a_string : fault_of (Left ∷ UseWord ∷ Other ∷ Right ∷ End ∷ []) ≡ Some (record { at = 2; expected = Quoted ∷ [] })
a_word_for_a_string = refl

-- (@witx const $n $max 18446744073709551616)
too_large : fault_of (Left ∷ AtWitx ∷ ConstWord ∷ Id ∷ Id ∷ BigInteger ∷ Right ∷ End ∷ []) ≡ Some (record { at = 5; expected = Integer ∷ [] })
too_large = refl

-- (typename $n (union (@witx pointer u8))): the parenthesis is read as the tag
a_pointer_for_a_tag : fault_of (Left ∷ TypenameWord ∷ Id ∷ Left ∷ UnionWord ∷ Left ∷ AtWitx ∷ PointerWord ∷ U8Word ∷ Right ∷ Right ∷ Right ∷ End ∷ [])
    ≡ Some (record { at = 7; expected = TagWord ∷ [] })
a_pointer_for_a_tag = refl

-- the end of the text where a form is open
open_form : fault_of (Left ∷ UseWord ∷ Quoted ∷ End ∷ []) ≡ Some (record { at = 3; expected = Right ∷ [] })
open_form = refl

abbrev lexed : Token → List (List ℕ) → Lexed
lexed t comments = record { token = t; start = 0; end = 1; comments = comments }

-- ;; c and (use "p"): the comment belongs to the form
abbrev a_use : List Lexed
a_use = lexed left ((99 ∷ []) ∷ []) ∷ lexed (word (117 ∷ 115 ∷ 101 ∷ [])) [] ∷ lexed (quoted (112 ∷ [])) [] ∷ lexed right [] ∷ []

use_stands_for : stands_for a_use (Node MoreItems ∷ Node Use ∷ Leaf ∷ Leaf ∷ Leaf ∷ Leaf ∷ Node NoItems ∷ Leaf ∷ [])
    ≡ some_items (record { comments = (99 ∷ []) ∷ []; item = uses (112 ∷ []) } ∷ []) ∷ []
use_stands_for = refl
