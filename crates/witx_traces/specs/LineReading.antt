-- What the reader takes from the head of a text, loosely: that it is spelled so is seen afterwards, when its own text is compared.
use Rattle.std.specs.Prelude.{◌≡◌, ℕ, ⊤, ◌+◌, ◌-◌, ◌*◌, ◌≤◌, ◌<◌, min, length, codes, option_copied, nat_lt, List, [], ◌∷◌, ◌++◌, Bool, ◌||◌, ◌==◌, if◌then◌else◌, Option, Some, None, MatchOption}
use Rattle.std.specs.Borrow.{Bor}
use Rattle.std.specs.Str.{IsUtf8}
use Rattle.std.specs.Fmt.{decimal}
use Rattle.witx_machine.specs.declared.surface.WasmType.{WasmType}
use Rattle.witx_adapt.specs.Names.{in_quotes, signature, wasm_word}
use Rattle.witx_traces.specs.declared.signature_texts.WasmSignature.{WasmSignature}
use Rattle.witx_traces.specs.Answers.{Answered}
use Rattle.witx_traces.specs.Traces.{IsWord}

-- what follows a front, or the text doesn't begin with it
abbrev pub IsBehind : List ℕ → List ℕ → Option (List ℕ) → Type 0
IsBehind front text o = Answered (λ rest. text ≡ front ++ rest) o

-- as the program has what it takes, and what follows
abbrev pub taken_line : {A : Type 0} → A × Bor (List ℕ) → A × List ℕ
taken_line p = (p.0, p.1.now)

-- what follows is shorter than the text, where something was taken
abbrev pub LeavesLess : {A : Type 0} → List ℕ → Option (A × Bor (List ℕ)) → Type 0
LeavesLess text o = MatchOption o (length text ≡ length text) (λ p. length p.1.now < length text)

-- ---- numbers

-- the text is that of the number
pub record IsNumber (text : List ℕ) (n : ℕ) : Type 0 where
  pub word : IsWord n
  pub same : decimal n ≡ text

abbrev pub NumberAt : List ℕ → Option ℕ → Type 0
NumberAt text o = Answered (IsNumber text) o

-- ---- quoted names

-- the number of a hexadecimal digit in lower case
abbrev pub hex_value : ℕ → ℕ
hex_value c = (if nat_lt c 58 then c - 48 else c - 87)

abbrev pub hex_byte : ℕ → ℕ → ℕ
hex_byte high low = min (min (hex_value high * 16) 255 + hex_value low) 255

abbrev pub is_mark : ℕ → Bool
is_mark c = c == 34 || c == 92

abbrev pub hex_behind : ℕ → List ℕ → Option (ℕ × List ℕ)
hex_behind c [] = None
hex_behind c (d ∷ s) = Some (hex_byte c d, s)

-- the byte that is spelled behind a backslash, and what follows
abbrev pub escaped_byte : List ℕ → Option (ℕ × List ℕ)
escaped_byte [] = None
escaped_byte (c ∷ s) = (if is_mark c then Some (c, s) else hex_behind c s)

-- the byte that is spelled at the head, and what follows; none at a quote and at the end
abbrev pub spelled_byte : List ℕ → Option (ℕ × List ℕ)
spelled_byte [] = None
spelled_byte (b ∷ s) = (if b == 34 then None else (if b == 92 then escaped_byte s else Some (b, s)))

-- the bytes that are spelled up to a quote or the end
abbrev pub SpellsQuoted : List ℕ → List ℕ → Type 0
SpellsQuoted text [] = spelled_byte text ≡ None
SpellsQuoted text (b ∷ bytes) = (more : List ℕ) × (spelled_byte text ≡ Some (b, more)) × SpellsQuoted more bytes

-- the name stands in quotes at the head, and this follows it
pub record IsQuoted (text : List ℕ) (p : List ℕ × List ℕ) : Type 0 where
  pub utf8 : IsUtf8 p.0
  pub same : text ≡ in_quotes p.0 ++ p.1

abbrev pub QuotedAt : List ℕ → Option (List ℕ × List ℕ) → Type 0
QuotedAt text o = Answered (IsQuoted text) o

-- it is this name
pub record IsNameFront (name text : List ℕ) (p : List ℕ × List ℕ) : Type 0 where
  pub named : p.0 ≡ name
  pub same : text ≡ in_quotes name ++ p.1

abbrev pub FrontOf : List ℕ → List ℕ → Option (List ℕ × List ℕ) → Type 0
FrontOf name text o = Answered (IsNameFront name text) o

abbrev pub name_behind : List ℕ × Bor (List ℕ) → List ℕ × List ℕ
name_behind p = (p.0, p.1.now)

-- two quoted names with a space between, and what follows them
pub record QuotedNames : Type 0 where
  pub owner : List ℕ
  pub name : List ℕ
  pub rest : List ℕ

abbrev pub names_behind : List ℕ × List ℕ × Bor (List ℕ) → QuotedNames
names_behind p = record { owner = p.0; name = p.1; rest = p.2.now }

pub record AreQuotedNames (text : List ℕ) (p : QuotedNames) : Type 0 where
  pub owner-utf8 : IsUtf8 p.owner
  pub name-utf8 : IsUtf8 p.name
  pub same : text ≡ in_quotes p.owner ++ (32 ∷ (in_quotes p.name ++ p.rest))

abbrev pub NamesAt : List ℕ → Option QuotedNames → Type 0
NamesAt text o = Answered (AreQuotedNames text) o

-- ---- signatures

-- the type at the head, and what follows it; or no type stands there
abbrev pub IsFirstType : List ℕ → Option (WasmType × List ℕ) → Type 0
IsFirstType text o = Answered (λ p. text ≡ wasm_word p.0 ++ p.1) o

abbrev pub behind_space : List ℕ → List ℕ
behind_space [] = []
behind_space (b ∷ s) = (if b == 32 then s else b ∷ s)

-- types with a space behind each but the last, and what follows them
abbrev pub TypesAt : List ℕ → List WasmType → List ℕ → Type 0
TypesAt text [] rest = IsFirstType text None × (rest ≡ text)
TypesAt text (t ∷ ts) rest = (more : List ℕ) × (text ≡ wasm_word t ++ more) × TypesAt (behind_space more) ts rest

abbrev pub signature_parts : WasmSignature → List WasmType × List WasmType
signature_parts s = (s.params, s.results)

-- the text is that of the signature
pub record IsSignature (text : List ℕ) (p : List WasmType × List WasmType) : Type 0 where
  pub same : text ≡ signature p.0 p.1

abbrev pub SignatureAt : List ℕ → Option (List WasmType × List WasmType) → Type 0
SignatureAt text o = Answered (IsSignature text) o

-- ---- the payloads of a result that is lowered

abbrev pub payloads_tail : Option (List ℕ) → Option (List ℕ) → Option (List ℕ)
payloads_tail None None = None
payloads_tail (Some t) None = Some (codes "ok " ++ t)
payloads_tail (Some t) (Some u) = Some (codes "ok " ++ (t ++ (codes " err " ++ u)))
payloads_tail None (Some u) = Some (codes "err " ++ u)

-- the ok type's text ends before the first ` err `
abbrev pub EndsFirst : Option (List ℕ) → Type 0
EndsFirst None = ⊤
EndsFirst (Some t) = (xs ys : List ℕ) → t ++ codes " err " ≡ xs ++ (codes " err " ++ ys) → length t ≤ length xs

-- these payloads are written so
pub record ArePayloads (tail : List ℕ) (p : Option (List ℕ) × Option (List ℕ)) : Type 0 where
  pub ends : EndsFirst p.0
  pub same : payloads_tail p.0 p.1 ≡ Some tail

abbrev pub PayloadsAt : List ℕ → Option (Option (List ℕ) × Option (List ℕ)) → Type 0
PayloadsAt tail o = Answered (ArePayloads tail) o

abbrev pub texts_taken : Option (Bor (List ℕ)) × Option (Bor (List ℕ)) → Option (List ℕ) × Option (List ℕ)
texts_taken p = (option_copied p.0, option_copied p.1)
