-- The characters of a quoted name, each read back from its spelling.
use Rattle.std.proofs.Common.{◌≡◌, ℕ, ◌+◌, ◌/◌, ◌%◌, ◌<◌, ◌≤◌, List, [], ◌∷◌, ◌++◌, Bool, true, false, refl, sym, ap, ◌∙◌, subst, inl, inr, arith, lit<, ◌==◌, append_assoc, if◌then◌else◌}
use Rattle.std.specs.Prelude.{◌||◌, nat_lt, encode_utf8, ◌⊎◌}
use Rattle.std.specs.List.{flat_map}
use Rattle.std.specs.Str.{IsUtf8, chars, encode_utf8_all}
use Rattle.std.proofs.lemmas.Bool.{leb-true}
use Rattle.std.proofs.lemmas.Bool.Decides.{nat_tests}
use Rattle.std.proofs.lemmas.Str.{encode_ascii, encode_same, encodes-chars}
use Rattle.witx_adapt.specs.Names.{digit, escaped, in_quotes}

-- a quote or a backslash; a control character; what is escaped
abbrev pub is_mark : ℕ → Bool
is_mark c = c == 34 || c == 92

abbrev pub is_control : ℕ → Bool
is_control c = nat_lt c 32 || c == 127

abbrev pub escapes : ℕ → Bool
escapes c = is_mark c || is_control c

mark-is : (c : ℕ) → is_mark c ≡ true → (c ≡ 34) ⊎ (c ≡ 92)
mark-is c e = grind (arith, nat_tests)

-- how a character is spelled
pub data Way (c : ℕ) : Type 0 where
  bare : escapes c ≡ false → escaped c ≡ encode_utf8 c → Way c
  mark : is_mark c ≡ true → escaped c ≡ 92 ∷ c ∷ [] → Way c
  control : is_control c ≡ true → escaped c ≡ 92 ∷ digit (c / 16) ∷ digit (c % 16) ∷ [] → Way c

by-tests : (c : ℕ) (m k : Bool) → is_mark c ≡ m → is_control c ≡ k → (is_mark c ≡ true → c < 128) → Way c
by-tests c true k e f small = mark e (ap (λ t. if t then 92 ∷ encode_utf8 c else (if is_control c then 92 ∷ digit (c / 16) ∷ digit (c % 16) ∷ [] else encode_utf8 c)) e ∙ ap (λ z. 92 ∷ z) (encode_ascii c (small e)))
by-tests c false true e f small = control f (ap (λ t. if t then 92 ∷ encode_utf8 c else (if is_control c then 92 ∷ digit (c / 16) ∷ digit (c % 16) ∷ [] else encode_utf8 c)) e ∙ ap (λ t. if t then 92 ∷ digit (c / 16) ∷ digit (c % 16) ∷ [] else encode_utf8 c) f)
by-tests c false false e f small = bare (ap (λ t. t || is_control c) e ∙ f) (ap (λ t. if t then 92 ∷ encode_utf8 c else (if is_control c then 92 ∷ digit (c / 16) ∷ digit (c % 16) ∷ [] else encode_utf8 c)) e ∙ ap (λ t. if t then 92 ∷ digit (c / 16) ∷ digit (c % 16) ∷ [] else encode_utf8 c) f)

mark-small : (c : ℕ) → is_mark c ≡ true → c < 128
mark-small c e = grind (arith, nat_tests)

pub way : (c : ℕ) → Way c
way c = by-tests c (is_mark c) (is_control c) refl refl (mark-small c)

-- ---- one character a spelling

-- a digit is no quote and no backslash, and tells its number
record Digit (k : ℕ) (d : ℕ) : Type 0 where
  quote : d ≡ 34 → ⊥
  slash : d ≡ 92 → ⊥
  small : d < 58 → d ≡ 48 + k
  large : 58 ≤ d → d ≡ 87 + k

digit-by : (k : ℕ) (t : Bool) → nat_lt k 10 ≡ t → Digit k (if t then 48 + k else 87 + k)
digit-by k true e =
    let l : k < 10 = leb-true _ _ e in
    record { quote = λ h. omega (arith, h); slash = λ h. omega (arith, h, l); small = λ h. refl; large = λ h. omega (arith, h, l) }
digit-by k false e =
    let l : 10 ≤ k = grind (arith, nat_tests) in
    record { quote = λ h. omega (arith, h); slash = λ h. omega (arith, h, l); small = λ h. omega (arith, h, l); large = λ h. refl }

digit-is : (k : ℕ) → Digit k (digit k)
digit-is k = digit-by k (nat_lt k 10) refl

either-side : (d : ℕ) → (d < 58) ⊎ (58 ≤ d)
either-side d = grind (arith)

same-number : (j k d : ℕ) → Digit j d → Digit k d → (d < 58) ⊎ (58 ≤ d) → j ≡ k
same-number j k d f g (inl l) = let a = f.small l in let b = g.small l in omega (arith, a, b)
same-number j k d f g (inr l) = let a = f.large l in let b = g.large l in omega (arith, a, b)

digit-same : (j k : ℕ) → digit j ≡ digit k → j ≡ k
digit-same j k e = same-number j k (digit j) (digit-is j) (subst (Digit k) (sym e) (digit-is k)) (either-side (digit j))

by-digits : (c d : ℕ) → c / 16 ≡ d / 16 → c % 16 ≡ d % 16 → c ≡ d
by-digits c d e f = omega (arith, e, f)

slash-first : (c : ℕ) (r z : List ℕ) → encode_utf8 c ++ r ≡ 92 ∷ z → c ≡ 92
slash-first c r z e = (encode_same c 92 r z (e ∙ ap (λ x. x ++ z) (sym (encode_ascii 92 (lit< tt))))).0

bare-slash : (c : ℕ) (r z : List ℕ) → escapes c ≡ false → encode_utf8 c ++ r ≡ 92 ∷ z → ⊥
bare-slash c r z h e = let wrong : true ≡ false = ap escapes (sym (slash-first c r z e)) ∙ h in absurd (cc)

mark-digit : (c k : ℕ) → (c ≡ 34) ⊎ (c ≡ 92) → c ≡ digit k → ⊥
mark-digit c k (inl h) e = (digit-is k).quote (sym e ∙ h)
mark-digit c k (inr h) e = (digit-is k).slash (sym e ∙ h)

first-of : (a b : ℕ) (xs ys : List ℕ) → a ∷ xs ≡ b ∷ ys → a ≡ b
first-of a b xs ys e = cc

rest-of : (a b : ℕ) (xs ys : List ℕ) → a ∷ xs ≡ b ∷ ys → xs ≡ ys
rest-of a b xs ys e = cc

by-ways : (c d : ℕ) (r t : List ℕ) → Way c → Way d → escaped c ++ r ≡ escaped d ++ t → (c ≡ d) × (r ≡ t)
by-ways c d r t (bare h f) (bare k g) e = encode_same c d r t (ap (λ z. z ++ r) (sym f) ∙ (e ∙ ap (λ z. z ++ t) g))
by-ways c d r t (bare h f) (mark k g) e = absurd (bare-slash c r (d ∷ t) h (ap (λ z. z ++ r) (sym f) ∙ (e ∙ ap (λ z. z ++ t) g)))
by-ways c d r t (bare h f) (control k g) e = absurd (bare-slash c r (digit (d / 16) ∷ digit (d % 16) ∷ t) h (ap (λ z. z ++ r) (sym f) ∙ (e ∙ ap (λ z. z ++ t) g)))
by-ways c d r t (mark h f) (bare k g) e = absurd (bare-slash d t (c ∷ r) k (ap (λ z. z ++ t) (sym g) ∙ (sym e ∙ ap (λ z. z ++ r) f)))
by-ways c d r t (control h f) (bare k g) e = absurd (bare-slash d t (digit (c / 16) ∷ digit (c % 16) ∷ r) k (ap (λ z. z ++ t) (sym g) ∙ (sym e ∙ ap (λ z. z ++ r) f)))
by-ways c d r t (mark h f) (mark k g) e =
    let same : 92 ∷ c ∷ r ≡ 92 ∷ d ∷ t = ap (λ z. z ++ r) (sym f) ∙ (e ∙ ap (λ z. z ++ t) g) in
    (first-of c d r t (rest-of 92 92 _ _ same), rest-of c d r t (rest-of 92 92 _ _ same))
by-ways c d r t (mark h f) (control k g) e =
    let same : 92 ∷ c ∷ r ≡ 92 ∷ digit (d / 16) ∷ digit (d % 16) ∷ t = ap (λ z. z ++ r) (sym f) ∙ (e ∙ ap (λ z. z ++ t) g) in
    absurd (mark-digit c (d / 16) (mark-is c h) (first-of c _ r _ (rest-of 92 92 _ _ same)))
by-ways c d r t (control h f) (mark k g) e =
    let same : 92 ∷ d ∷ t ≡ 92 ∷ digit (c / 16) ∷ digit (c % 16) ∷ r = sym (ap (λ z. z ++ r) (sym f) ∙ (e ∙ ap (λ z. z ++ t) g)) in
    absurd (mark-digit d (c / 16) (mark-is d k) (first-of d _ t _ (rest-of 92 92 _ _ same)))
by-ways c d r t (control h f) (control k g) e =
    let same : 92 ∷ digit (c / 16) ∷ digit (c % 16) ∷ r ≡ 92 ∷ digit (d / 16) ∷ digit (d % 16) ∷ t = ap (λ z. z ++ r) (sym f) ∙ (e ∙ ap (λ z. z ++ t) g) in
    let behind = rest-of 92 92 _ _ same in
    let last = rest-of _ _ _ _ behind in
    (by-digits c d (digit-same (c / 16) (d / 16) (first-of _ _ _ _ behind)) (digit-same (c % 16) (d % 16) (first-of _ _ r t last)), rest-of _ _ r t last)

pub escaped-same : (c d : ℕ) (r t : List ℕ) → escaped c ++ r ≡ escaped d ++ t → (c ≡ d) × (r ≡ t)
escaped-same c d r t e = by-ways c d r t (way c) (way d) e

-- no character is spelled with a quote in front
quote-way : (d : ℕ) (r t : List ℕ) → Way d → 34 ∷ r ≡ escaped d ++ t → ⊥
quote-way d r t (bare h f) e =
    let here : encode_utf8 d ++ t ≡ encode_utf8 34 ++ r = ap (λ z. z ++ t) (sym f) ∙ (sym e ∙ ap (λ x. x ++ r) (sym (encode_ascii 34 (lit< tt)))) in
    let wrong : true ≡ false = ap escapes (sym (encode_same d 34 t r here).0) ∙ h in
    absurd (cc)
quote-way d r t (mark h f) e = let wrong : 34 ≡ 92 = first-of 34 92 r (d ∷ t) (e ∙ ap (λ z. z ++ t) f) in absurd (omega (arith, wrong))
quote-way d r t (control h f) e = let wrong : 34 ≡ 92 = first-of 34 92 r (digit (d / 16) ∷ digit (d % 16) ∷ t) (e ∙ ap (λ z. z ++ t) f) in absurd (omega (arith, wrong))

spelled-same : (cs ds r t : List ℕ) → flat_map escaped cs ++ (34 ∷ r) ≡ flat_map escaped ds ++ (34 ∷ t) → (cs ≡ ds) × (r ≡ t)
spelled-same [] [] r t e = (refl, rest-of 34 34 r t e)
spelled-same [] (d ∷ ds) r t e = absurd (quote-way d r (flat_map escaped ds ++ (34 ∷ t)) (way d) (e ∙ append_assoc (escaped d) (flat_map escaped ds) (34 ∷ t)))
spelled-same (c ∷ cs) [] r t e = absurd (quote-way c t (flat_map escaped cs ++ (34 ∷ r)) (way c) (sym e ∙ append_assoc (escaped c) (flat_map escaped cs) (34 ∷ r)))
spelled-same (c ∷ cs) (d ∷ ds) r t e =
    let here = escaped-same c d (flat_map escaped cs ++ (34 ∷ r)) (flat_map escaped ds ++ (34 ∷ t))
    (sym (append_assoc (escaped c) (flat_map escaped cs) (34 ∷ r)) ∙ (e ∙ append_assoc (escaped d) (flat_map escaped ds) (34 ∷ t))) in
    let more = spelled-same cs ds r t here.1 in
    (ap (λ z. z ∷ cs) here.0 ∙ ap (λ z. d ∷ z) more.0, more.1)

pub quoted-open : (name r : List ℕ) → in_quotes name ++ r ≡ 34 ∷ (flat_map escaped (chars name) ++ (34 ∷ r))
quoted-open name r = ap (λ z. 34 ∷ z) (append_assoc (flat_map escaped (chars name)) (34 ∷ []) r)

-- a text begins with one quoted name alone
pub quoted-same : (m n r t : List ℕ) → IsUtf8 m → IsUtf8 n → in_quotes m ++ r ≡ in_quotes n ++ t → (m ≡ n) × (r ≡ t)
quoted-same m n r t f g e =
    let same = spelled-same (chars m) (chars n) r t (rest-of 34 34 _ _ (sym (quoted-open m r) ∙ (e ∙ quoted-open n t))) in
    (sym (encodes-chars m f) ∙ (ap encode_utf8_all same.0 ∙ encodes-chars n g), same.1)
