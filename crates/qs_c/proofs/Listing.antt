-- Lists in the notation, turn by turn.
use Rattle.std.proofs.Common.{◌≡◌, ℕ, zero, suc, ◌+◌, ◌-◌, ◌<◌, List, [], ◌∷◌, ◌++◌, true, false, cond, refl, ap, sym, ◌∙◌, append_assoc, append-nil, length, arith}
use Rattle.qs_c.specs.Found.{Found, found, fault, Parser, and_then, seen, before}
use Rattle.qs_spec.specs.Shape.{Shape, Field, one_shape, shapes_of, tuple_kind}
use Rattle.qs_c.specs.Notation.{after_sign, comes, comma_or_brace, comma_or_parenthesis, field, fields, goes_on, is_empty, items, listed, options, base, shape}
use Rattle.qs_c.proofs.Found.{cond-false, cond-true, seen-found, then-found}

pub before-nil : {A : Type 0} (r : Found (List A)) → r ≡ before [] r
unfolding seen
before-nil (found xs rest) = refl
before-nil (fault reason rest) = refl

pub before-front : {A : Type 0} (xs : List A) (x : A) (r : Found (List A)) → before xs (seen (λ ys. x ∷ ys) r) ≡ before (xs ++ x ∷ []) r
unfolding seen
before-front xs x (found ys rest) = ap (λ zs. found zs rest) (sym (append_assoc xs (x ∷ []) ys))
before-front xs x (fault reason rest) = refl

-- one more of a list, and then the rest
pub listed-more : {A : Type 0} (one : Parser A) (sign : ℕ) (reason : List ℕ) (n : ℕ) (t : List ℕ) (a : A) (r s : List ℕ)
    → 0 < n → one t ≡ found a r → goes_on sign reason r ≡ found true s
    → listed one sign reason n t ≡ seen (λ xs. a ∷ xs) (listed one sign reason (n - 1) s)
unfolding listed and_then seen
listed-more one sign reason zero t a r s h e g = let never : ⊥ = omega arith in absurd never
listed-more one sign reason (suc n) t a r s h e g =
    let k : n ≡ suc n - 1 = omega arith in
    ap (λ x. and_then x (λ a rest. and_then (goes_on sign reason rest) (λ more rest. cond more (seen (λ xs. a ∷ xs) (listed one sign reason n rest)) (found (a ∷ []) rest)))) e
    ∙ ap (λ x. and_then x (λ more rest. cond more (seen (λ xs. a ∷ xs) (listed one sign reason n rest)) (found (a ∷ []) rest))) g
    ∙ ap (λ m. seen (λ xs. a ∷ xs) (listed one sign reason m s)) k

-- the last one
pub listed-last : {A : Type 0} (one : Parser A) (sign : ℕ) (reason : List ℕ) (n : ℕ) (t : List ℕ) (a : A) (r s : List ℕ)
    → 0 < n → one t ≡ found a r → goes_on sign reason r ≡ found false s → listed one sign reason n t ≡ found (a ∷ []) s
unfolding listed and_then seen
listed-last one sign reason zero t a r s h e g = let never : ⊥ = omega arith in absurd never
listed-last one sign reason (suc n) t a r s h e g =
    ap (λ x. and_then x (λ a rest. and_then (goes_on sign reason rest) (λ more rest. cond more (seen (λ xs. a ∷ xs) (listed one sign reason n rest)) (found (a ∷ []) rest)))) e
    ∙ ap (λ x. and_then x (λ more rest. cond more (seen (λ xs. a ∷ xs) (listed one sign reason n rest)) (found (a ∷ []) rest))) g

-- after what was found before: one more
pub turn-more : {A : Type 0} (one : Parser A) (sign : ℕ) (reason : List ℕ) (front : List A) (n m : ℕ) (t : List ℕ) (a : A) (r s : List ℕ)
    → m + 1 ≡ n → one t ≡ found a r → goes_on sign reason r ≡ found true s
    → before front (listed one sign reason n t) ≡ before (front ++ a ∷ []) (listed one sign reason m s)
turn-more one sign reason front n m t a r s k e g =
    let less : n - 1 ≡ m = omega (arith, k) in
    ap (before front) (listed-more one sign reason n t a r s (omega (arith, k)) e g) ∙ before-front front a (listed one sign reason (n - 1) s)
    ∙ ap (λ l. before (front ++ a ∷ []) (listed one sign reason l s)) less

-- the last one
pub turn-last : {A : Type 0} (one : Parser A) (sign : ℕ) (reason : List ℕ) (front : List A) (n : ℕ) (t : List ℕ) (a : A) (r s : List ℕ)
    → 0 < n → one t ≡ found a r → goes_on sign reason r ≡ found false s
    → before front (listed one sign reason n t) ≡ found (front ++ a ∷ []) s
turn-last one sign reason front n t a r s k e g =
    ap (before front) (listed-last one sign reason n t a r s k e g) ∙ seen-found _ (λ xs. front ++ xs) (a ∷ []) s refl

-- the same of a whole that is such a list, and of a front with one more
pub turned-more : {A : Type 0} (one : Parser A) (sign : ℕ) (reason : List ℕ) (whole : Found (List A)) (front next : List A) (n m : ℕ) (t : List ℕ) (a : A) (r s : List ℕ)
    → whole ≡ before front (listed one sign reason n t) → next ≡ front ++ a ∷ [] → m + 1 ≡ n → one t ≡ found a r → goes_on sign reason r ≡ found true s → whole ≡ before next (listed one sign reason m s)
turned-more one sign reason whole front next n m t a r s e is k p g =
    e ∙ turn-more one sign reason front n m t a r s k p g ∙ ap (λ xs. before xs (listed one sign reason m s)) (sym is)

pub turned-last : {A : Type 0} (one : Parser A) (sign : ℕ) (reason : List ℕ) (whole : Found (List A)) (front next : List A) (n : ℕ) (t : List ℕ) (a : A) (r s : List ℕ)
    → whole ≡ before front (listed one sign reason n t) → next ≡ front ++ a ∷ [] → 0 < n → one t ≡ found a r → goes_on sign reason r ≡ found false s → whole ≡ found next s
turned-last one sign reason whole front next n t a r s e is k p g = e ∙ turn-last one sign reason front n t a r s k p g ∙ ap (λ xs. found xs s) (sym is)

-- one more `?`
pub options-more : (n m : ℕ) (s : Shape) (t : List ℕ) → m + 1 ≡ n → comes 63 t ≡ true → options n s t ≡ options m (Shape.option s) (after_sign t)
unfolding options
options-more zero m s t k e = let never : ⊥ = omega (arith, k) in absurd never
options-more (suc n) m s t k e =
    let same : n ≡ m = omega (arith, k) in
    ap (λ b. cond b (options n (Shape.option s) (after_sign t)) (found s t)) e ∙ ap (λ l. options l (Shape.option s) (after_sign t)) same

-- a shape below the limit
pub shape-below : (n m : ℕ) (t : List ℕ) (s : Shape) (r : List ℕ) → m + 1 ≡ n → base (shape m) t ≡ found s r → shape n t ≡ options m s r
unfolding shape
shape-below zero m t s r k e = let never : ⊥ = omega (arith, k) in absurd never
shape-below (suc n) m t s r k e =
    let same : m ≡ n = omega (arith, k) in
    let here : base (shape n) t ≡ found s r = ap (λ l. base (shape l) t) (sym same) ∙ e in
    let opened : shape (suc n) t ≡ and_then (base (shape n) t) (options n) = refl in
    opened ∙ then-found (base (shape n) t) (options n) (options m s r) s r here (ap (λ l. options l s r) (sym same))

-- after what was found, in front of a list that may be empty
pub items-none : (inner : Parser Shape) (front : List Shape) (t : List ℕ) → comes 41 t ≡ true → before front (items inner t) ≡ found front (after_sign t)
unfolding items
items-none inner front t e =
    ap (before front) (cond-true (comes 41 t) _ _ _ e refl) ∙ seen-found _ (λ xs. front ++ xs) [] (after_sign t) refl ∙ ap (λ xs. found xs (after_sign t)) (append-nil front)

pub items-some : (inner : Parser Shape) (t : List ℕ) → comes 41 t ≡ false → items inner t ≡ listed inner 41 comma_or_parenthesis (length t) t
unfolding items
items-some inner t e = cond-false (comes 41 t) _ _ _ e refl

pub fields-some : (inner : Parser Shape) (t : List ℕ) → comes 125 t ≡ false → fields inner t ≡ listed (field inner) 125 comma_or_brace (length t) t
unfolding fields
fields-some inner t e = cond-false (comes 125 t) _ _ _ e refl

-- the same, with what the list is
pub items-whole : (inner : Parser Shape) (front : List Shape) (t taken : List ℕ) (r : Found (List Shape)) → comes 41 t ≡ false → taken ≡ t
    → before front (listed inner 41 comma_or_parenthesis (length taken) taken) ≡ r → before front (items inner t) ≡ r
items-whole inner front t taken r absent same e = ap (before front) (items-some inner t absent ∙ ap (λ z. listed inner 41 comma_or_parenthesis (length z) z) (sym same)) ∙ e

pub fields-whole : (inner : Parser Shape) (t taken : List ℕ) (r : Found (List Field)) → comes 125 t ≡ false → taken ≡ t → listed (field inner) 125 comma_or_brace (length taken) taken ≡ r → fields inner t ≡ r
fields-whole inner t taken r absent same e = fields-some inner t absent ∙ ap (λ z. listed (field inner) 125 comma_or_brace (length z) z) (sym same) ∙ e

-- a list after its first, as the parts of a variant
pub items-after : (x : Shape) (r : Found (List Shape)) (xs : List Shape) (rest : List ℕ) → before (x ∷ []) r ≡ found xs rest
    → seen (λ ss. tuple_kind (one_shape x (shapes_of ss))) r ≡ found (tuple_kind (shapes_of xs)) rest
unfolding seen
items-after x (found ys s) xs rest e = ap (seen (λ ss. tuple_kind (shapes_of ss))) e
items-after x (fault why s) xs rest e = ap (seen (λ ss. tuple_kind (shapes_of ss))) e

pub nothing-left : (t : List ℕ) → length t ≡ 0 → is_empty t ≡ true
nothing-left [] h = refl
nothing-left (b ∷ bs) h = let never : ⊥ = omega (arith, h) in absurd never

pub something-left : (t : List ℕ) → 0 < length t → is_empty t ≡ false
something-left [] h = let never : ⊥ = omega (arith, h) in absurd never
something-left (b ∷ bs) h = refl
