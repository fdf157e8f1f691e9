-- Tables of names: one more parameter, and the end.
use Rattle.std.specs.Prelude.{◌≡◌, ℕ, ◌+◌, ◌≤◌, ◌<◌, List, ◌∷◌, map, length, drop, Option, Some, None, Bool, true, false, cond, is_some}
use Rattle.std.specs.Borrow.{Bor}
use Rattle.std.specs.Ordering.{is_eq, nat_cmp}
use Rattle.std.specs.Cmp.Lexicographic.{slice_cmp}
use Rattle.std.specs.Bool.{one_answer}
use Rattle.std.specs.Option.{option_copied}
use Rattle.std.specs.Prelude.{option_map}
use Rattle.std.proofs.Common.{refl, sym, ◌∙◌, ap, get_or}
use Rattle.std.proofs.lemmas.List.{drop_more, drop_all}
use Rattle.witx_base.specs.Found.{found}
use Rattle.witx_ast.specs.Tree.{Field}
use Rattle.witx_base.specs.SameBytes.{same_bytes, bytes-to, bytes-self, false-true}
use Rattle.witx_ast.specs.Functions.{param_field}
use Rattle.witx_ast.specs.declared.function.InterfaceFuncParam.{InterfaceFuncParam}
use Rattle.witx_ast.proofs.EntryLaws.{key-decides}
use Rattle.witx_compat.specs.declared.conversion.ParamPolyfill.{ParamPolyfill}
use Rattle.witx_compat.specs.declared.part.Part.{Part}
use Rattle.witx_compat.specs.Polyfills.{first_called, prefer}
use Rattle.witx_compat.specs.Halves.{named, earlier_field, target_of}
use Rattle.witx_compat.specs.Views.{mapped_view}

earlier-none : (o : Option Field) → o ≡ earlier_field o None
earlier-none None = refl
earlier-none (Some f) = refl

earlier-prefer : (o : Option Field) (b : Bool) (f : Field) (rest : Option Field) → earlier_field (earlier_field o (prefer b f None)) rest ≡ earlier_field o (prefer b f rest)
earlier-prefer None true f rest = refl
earlier-prefer None false f rest = refl
earlier-prefer (Some g) b f rest = refl

some-earlier : (o later : Option Field) → is_some o ≡ true → o ≡ earlier_field o later
some-earlier None later h = absurd (false-true h)
some-earlier (Some f) later h = refl

none-earlier : (o later : Option Field) → is_some o ≡ false → later ≡ earlier_field o later
none-earlier None later h = refl
none-earlier (Some f) later h = absurd (false-true (sym h))

-- a name that is there already
already : (old : List (List ℕ × Bor InterfaceFuncParam)) (name q : List ℕ) (f : Field) (b : Bool) → same_bytes name q ≡ b → is_some (named old name) ≡ true
    → named old q ≡ earlier_field (named old q) (prefer b f None)
already old name q f true e h = some-earlier (named old q) (Some f) (rw (bytes-to name q e) at h)
already old name q f false e h = earlier-none (named old q)

pub there-already : (old : List (List ℕ × Bor InterfaceFuncParam)) (name q : List ℕ) (f : Field) → is_some (named old name) ≡ true
    → named old q ≡ earlier_field (named old q) (prefer (same_bytes name q) f None)
there-already old name q f h = already old name q f _ refl h

pub key-bytes : (a q : List ℕ) → is_eq (slice_cmp nat_cmp a q) ≡ same_bytes a q
key-bytes a q = one_answer _ _ (key-decides a q) (λ h. bytes-to a q h, λ e. self-bytes a q e)
  where
    self-bytes : (x y : List ℕ) → x ≡ y → same_bytes x y ≡ true
    self-bytes x y e = rw (← e) (bytes-self x)

put-by : (old : List (List ℕ × Bor InterfaceFuncParam)) (now : Option (Bor InterfaceFuncParam)) (v : Bor InterfaceFuncParam) (name q : List ℕ) (b : Bool)
    → same_bytes name q ≡ b → is_some (named old name) ≡ false → now ≡ cond b (Some v) (found old q)
    → option_map param_field (option_copied now) ≡ earlier_field (named old q) (prefer b (param_field v.now) None)
put-by old now v name q true e h n = rw n (none-earlier (named old q) (Some (param_field v.now)) (rw (bytes-to name q e) at h))
put-by old now v name q false e h n = rw n (earlier-none (named old q))

-- one more name
pub put-new : (old new : List (List ℕ × Bor InterfaceFuncParam)) (v : Bor InterfaceFuncParam) (name q : List ℕ) → is_some (named old name) ≡ false
    → found new q ≡ cond (is_eq (slice_cmp nat_cmp name q)) (Some v) (found old q)
    → named new q ≡ earlier_field (named old q) (prefer (same_bytes name q) (param_field v.now) None)
put-new old new v name q h n = put-by old (found new q) v name q _ refl h (n ∙ ap (λ b. cond b (Some v) (found old q)) (key-bytes name q))

next-field : (o now whole : Option Field) (f : Field) (fields rest : List Field) (q : List ℕ) → fields ≡ f ∷ rest
    → now ≡ earlier_field o (prefer (same_bytes f.called q) f None) → earlier_field o (first_called q fields) ≡ whole → earlier_field now (first_called q rest) ≡ whole
next-field o now whole f fields rest q d n e = rw n (earlier-prefer o (same_bytes f.called q) f (first_called q rest) ∙ (rw d at e))

pub next-param : (xs : List InterfaceFuncParam) (i : ℕ) (x : InterfaceFuncParam) (old new : List (List ℕ × Bor InterfaceFuncParam)) (whole : List ℕ → Option Field)
    → i < length xs → x ≡ get_or xs i x
    → ((q : List ℕ) → named new q ≡ earlier_field (named old q) (prefer (same_bytes x.name q) (param_field x) None))
    → ((q : List ℕ) → earlier_field (named old q) (first_called q (map param_field (drop i xs))) ≡ whole q)
    → (q : List ℕ) → earlier_field (named new q) (first_called q (map param_field (drop (i + 1) xs))) ≡ whole q
next-param xs i x old new whole l p n e q =
    next-field (named old q) (named new q) (whole q) (param_field x) (map param_field (drop i xs)) (map param_field (drop (i + 1) xs)) q
    (rw (drop_more xs i x l, ← p) refl) (n q) (e q)

pub last-param : (xs : List InterfaceFuncParam) (i : ℕ) (table : List (List ℕ × Bor InterfaceFuncParam)) (whole : List ℕ → Option Field) → length xs ≤ i
    → ((q : List ℕ) → earlier_field (named table q) (first_called q (map param_field (drop i xs))) ≡ whole q) → (q : List ℕ) → named table q ≡ whole q
last-param xs i table whole l e q = earlier-none (named table q) ∙ (rw (drop_all i xs l) at (e q))

pub next-target : (part : Part) (xs : List ParamPolyfill) (i : ℕ) (x : ParamPolyfill) (f : InterfaceFuncParam) (old new : List (List ℕ × Bor InterfaceFuncParam)) (whole : List ℕ → Option Field)
    → i < length xs → x ≡ get_or xs i x → param_field f ≡ target_of part (mapped_view x)
    → ((q : List ℕ) → named new q ≡ earlier_field (named old q) (prefer (same_bytes f.name q) (param_field f) None))
    → ((q : List ℕ) → earlier_field (named old q) (first_called q (map (target_of part) (map mapped_view (drop i xs)))) ≡ whole q)
    → (q : List ℕ) → earlier_field (named new q) (first_called q (map (target_of part) (map mapped_view (drop (i + 1) xs)))) ≡ whole q
next-target part xs i x f old new whole l p t n e q =
    next-field (named old q) (named new q) (whole q) (param_field f) (map (target_of part) (map mapped_view (drop i xs))) (map (target_of part) (map mapped_view (drop (i + 1) xs))) q
    (rw (drop_more xs i x l, ← p, t) refl) (n q) (e q)

pub last-target : (part : Part) (xs : List ParamPolyfill) (i : ℕ) (table : List (List ℕ × Bor InterfaceFuncParam)) (whole : List ℕ → Option Field) → length xs ≤ i
    → ((q : List ℕ) → earlier_field (named table q) (first_called q (map (target_of part) (map mapped_view (drop i xs)))) ≡ whole q) → (q : List ℕ) → named table q ≡ whole q
last-target part xs i table whole l e q = earlier-none (named table q) ∙ (rw (drop_all i xs l) at (e q))

pub ruleset table_rules = (there-already, put-new, next-param, last-param, next-target, last-target)
