-- A symbol is let go part by part: each time fewer are left, and none that is left is deeper than the whole.
use Rattle.std.proofs.Common.{◌≡◌, ℕ, ◌+◌, ◌<◌, ◌≤◌, List, [], ◌∷◌, ◌++◌, map, max, refl, sym, ap, ◌∙◌, arith, rules}
use Rattle.std.specs.declared.alloc.Global.{Global}
use Rattle.std.specs.declared.rc.Rc.{Rc}
use denote.Param.Weighed.{most, most-append}
use Rattle.witx_symbols.specs.declared.symbol.Symbol.{Symbol, fold-Symbol}
use Rattle.witx_symbols.specs.declared.symbol.Symbol as declared_symbol
use Rattle.witx_symbols.specs.declared.symbol.Symbol.TheOpen.{Symbol-F}
use Rattle.witx_symbols.specs.declared.symbol.Symbol.TheVariants as symbol
use Rattle.witx_symbols.proofs.symbol.Symbol.TheLaws.{the_size}

-- how many symbols one is made of, at any depth
abbrev total : List ℕ → ℕ
total [] = 0
total (n ∷ ns) = n + total ns

abbrev count_step : Symbol-F ℕ → ℕ
count_step (Symbol-F.Atom s t) = 0
count_step (Symbol-F.Tuple vs) = total (map (λ v. 1 + v.value) vs)
count_step (Symbol-F.Made i v) = 1 + v.value
count_step (Symbol-F.BareMade i) = 0

unfoldable pub count : Symbol → ℕ
count = fold-Symbol ℕ count_step

abbrev count_in : List (Rc Symbol Global) → ℕ
count_in vs = total (map (λ v. 1 + count v.value) vs)

map-twice : {A B C : Type 0} (f : B → C) (g : A → B) (xs : List A) → map f (map g xs) ≡ map (λ x. f (g x)) xs
map-twice f g [] = refl
map-twice f g (x ∷ xs) = ap (λ l. f (g x) ∷ l) (map-twice f g xs)

count-tuple : (vs : List (Rc Symbol Global)) → count (symbol.Tuple vs) ≡ count_in vs
unfolding count
count-tuple vs = search (rules, declared_symbol.the_lemmas, map-twice)

count-made : (i : ℕ) (v : Rc Symbol Global) → count (symbol.Made i v) ≡ 1 + count v.value
unfolding count
count-made i v = search (rules, declared_symbol.the_lemmas)

count-append : (xs ys : List (Rc Symbol Global)) → count_in (xs ++ ys) ≡ count_in xs + count_in ys
count-append [] ys = omega arith
count-append (x ∷ xs) ys = let e = count-append xs ys in omega arith

pub made-smaller : (s t : Symbol) (i : ℕ) (v : Rc Symbol Global) → s ≡ symbol.Made i v → t ≡ v.value → count t < count s
made-smaller s t i v e h = let a : count s ≡ 1 + count v.value = ap count e ∙ count-made i v in let b : count t ≡ count v.value = ap count h in omega arith

last-count : (ps rest : List (Rc Symbol Global)) (v : Rc Symbol Global) → ps ≡ rest ++ v ∷ [] → count_in ps ≡ count_in rest + (1 + count v.value)
last-count ps rest v h = let a : count_in ps ≡ count_in rest + (1 + count v.value + 0) = ap count_in h ∙ count-append rest (v ∷ []) in omega arith

-- the last part goes alone; it takes the place of the whole; its own parts come behind the others
pub rest-smaller : (s : Symbol) (ps rest : List (Rc Symbol Global)) (v : Rc Symbol Global) → s ≡ symbol.Tuple ps → ps ≡ rest ++ v ∷ [] → count (symbol.Tuple rest) < count s
rest-smaller s ps rest v e h =
    let a : count s ≡ count_in ps = ap count e ∙ count-tuple ps in let b = last-count ps rest v h in let d = count-tuple rest in omega arith

pub last-smaller : (s t : Symbol) (ps rest : List (Rc Symbol Global)) (v : Rc Symbol Global) → s ≡ symbol.Tuple ps → ps ≡ rest ++ v ∷ [] → t ≡ v.value → count t < count s
last-smaller s t ps rest v e h k =
    let a : count s ≡ count_in ps = ap count e ∙ count-tuple ps in let b = last-count ps rest v h in let c : count t ≡ count v.value = ap count k in omega arith

pub joined-smaller : (s : Symbol) (ps rest more all left : List (Rc Symbol Global)) (v : Rc Symbol Global) → s ≡ symbol.Tuple ps → ps ≡ rest ++ v ∷ [] → v.value ≡ symbol.Tuple more → all ++ left ≡ rest ++ more → count (symbol.Tuple all) < count s
joined-smaller s ps rest more all left v e h k j =
    let a : count s ≡ count_in ps = ap count e ∙ count-tuple ps in let b = last-count ps rest v h in
    let c : count v.value ≡ count_in more = ap count k ∙ count-tuple more in
    let d : count_in all + count_in left ≡ count_in rest + count_in more = sym (count-append all left) ∙ ap count_in j ∙ count-append rest more in
    let f = count-tuple all in omega arith

-- a case's payload takes the place of the case
pub payload-smaller : (s : Symbol) (ps rest all : List (Rc Symbol Global)) (v p : Rc Symbol Global) (i : ℕ) → s ≡ symbol.Tuple ps → ps ≡ rest ++ v ∷ [] → v.value ≡ symbol.Made i p → all ≡ rest ++ p ∷ [] → count (symbol.Tuple all) < count s
payload-smaller s ps rest all v p i e h k j =
    let a : count s ≡ count_in ps = ap count e ∙ count-tuple ps in
    let b = last-count ps rest v h in
    let c : count v.value ≡ 1 + count p.value = ap count k ∙ count-made i p in
    let d = last-count all rest p j in
    let f = count-tuple all in
    omega arith

-- how deep a part is
abbrev depth : Rc Symbol Global → ℕ
depth = Rattle.witx_symbols.specs.declared.symbol.Symbol.TheShapes.weighed-Symbol-Tuple-0-at-1.weight Rattle.witx_symbols.specs.declared.symbol.Symbol.TheBlock.the_data the_size

depth-tuple : (vs : List (Rc Symbol Global)) → the_size (symbol.Tuple vs) ≡ 1 + most depth vs
unfolding Rattle.witx_symbols.specs.declared.symbol.Symbol.TheBlock.the_depth
depth-tuple vs = search (rules, declared_symbol.the_lemmas)

depth-part : (v : Rc Symbol Global) → depth v ≡ the_size v.value
unfolding Rattle.witx_symbols.specs.declared.symbol.Symbol.TheBlock.the_depth
depth-part v = search (rules, declared_symbol.the_lemmas)

joined-most : (s : Symbol) (ps rest more all left : List (Rc Symbol Global)) (v : Rc Symbol Global) → s ≡ symbol.Tuple ps → ps ≡ rest ++ v ∷ [] → v.value ≡ symbol.Tuple more → all ++ left ≡ rest ++ more →
    1 + max (most depth all) (most depth left) ≤ the_size s
joined-most s ps rest more all left v e h k j =
    let a : the_size s ≡ 1 + most depth ps = ap the_size e ∙ depth-tuple ps in
    let b : most depth ps ≡ max (most depth rest) (max (depth v) 0) = ap (most depth) h ∙ most-append depth rest (v ∷ []) in
    let c : depth v ≡ 1 + most depth more = depth-part v ∙ ap the_size k ∙ depth-tuple more in
    let d : max (most depth all) (most depth left) ≡ max (most depth rest) (most depth more) = sym (most-append depth all left) ∙ ap (most depth) j ∙ most-append depth rest more in
    omega arith

pub left-shallow : (s : Symbol) (ps rest more all left : List (Rc Symbol Global)) (v : Rc Symbol Global) → s ≡ symbol.Tuple ps → ps ≡ rest ++ v ∷ [] → v.value ≡ symbol.Tuple more → all ++ left ≡ rest ++ more →
    most depth left < the_size s
left-shallow s ps rest more all left v e h k j = let m = joined-most s ps rest more all left v e h k j in omega arith

pub joined-shallow : (s : Symbol) (ps rest more all left : List (Rc Symbol Global)) (v : Rc Symbol Global) → s ≡ symbol.Tuple ps → ps ≡ rest ++ v ∷ [] → v.value ≡ symbol.Tuple more → all ++ left ≡ rest ++ more →
    the_size (symbol.Tuple all) ≤ the_size s
joined-shallow s ps rest more all left v e h k j = let m = joined-most s ps rest more all left v e h k j in let q = depth-tuple all in omega arith

pub ruleset drop_rules = (made-smaller, rest-smaller, last-smaller, joined-smaller)
