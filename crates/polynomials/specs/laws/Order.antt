-- The order of monomials is a strict total order, decided by `order`; products of monomials are a commutative monoid.
use Rattle.std.specs.Prelude.{◌≡◌, refl, ◌⊎◌, [], ◌∷◌, not, T, eqb, length}
use Rattle.std.proofs.Common.{sym, ◌∙◌, ap, ap₂, subst, inl, inr, add_comm, add_assoc, arith, leb→le, eqb→eq}
use Prim.Native.Nat.{ℕ, ◌+◌, ◌≤◌, ◌<◌, compare, Ordering}
use Rattle.std.proofs.Math.Arith.{lt_of_le-ne}
use Rattle.std.proofs.Math.Dec.{is_le, compare_is_eq, nleb→lt, eqb_refl}
use Rattle.polynomials.specs.Poly.{Exponents, order, join, and_then}

-- What an outcome of `compare` says.
abbrev pub Says : Ordering → ℕ → ℕ → Type 0
Says Ordering.lt m n = m < n
Says Ordering.eq m n = m ≡ n
Says Ordering.gt m n = n < m

pub compare_says : (m n : ℕ) → Says (compare m n) m n
compare_says m n = go (compare m n) refl
  where
    le : (o : Ordering) → compare m n ≡ o → T (is_le o) → m ≤ n
    le o e t = leb→le m n (subst (λ o. T (is_le o)) (sym e) t)

    ge : (o : Ordering) → compare m n ≡ o → T (not (is_le o)) → n < m
    ge o e t = nleb→lt m n (subst (λ o. T (not (is_le o))) (sym e) t)

    go : (o : Ordering) → compare m n ≡ o → Says o m n
    go Ordering.lt e = lt_of_le-ne (le Ordering.lt e tt) (λ q. subst (λ o. T (compare_is_eq o)) e (subst (λ k. T (eqb m k)) q (eqb_refl m)))
    go Ordering.eq e = eqb→eq m n (subst (λ o. T (compare_is_eq o)) (sym e) tt)
    go Ordering.gt e = ge Ordering.gt e tt

-- Only one outcome can be said.
says_only : (m n : ℕ) (o o' : Ordering) → Says o m n → Says o' m n → o ≡ o'
says_only m n Ordering.lt Ordering.lt h k = refl
says_only m n Ordering.lt Ordering.eq h k = absurd (omega arith)
says_only m n Ordering.lt Ordering.gt h k = absurd (omega arith)
says_only m n Ordering.eq Ordering.lt h k = absurd (omega arith)
says_only m n Ordering.eq Ordering.eq h k = refl
says_only m n Ordering.eq Ordering.gt h k = absurd (omega arith)
says_only m n Ordering.gt Ordering.lt h k = absurd (omega arith)
says_only m n Ordering.gt Ordering.eq h k = absurd (omega arith)
says_only m n Ordering.gt Ordering.gt h k = refl

pub compare_is : (m n : ℕ) (o : Ordering) → Says o m n → compare m n ≡ o
compare_is m n o h = says_only m n (compare m n) o (compare_says m n) h

then_eq : (o c : Ordering) → and_then o c ≡ Ordering.eq → (o ≡ Ordering.eq) × (c ≡ Ordering.eq)
then_eq Ordering.lt c e = (e, cc)
then_eq Ordering.eq c e = (refl, e)
then_eq Ordering.gt c e = (e, cc)

pub order_eq : (a b : Exponents) → order a b ≡ Ordering.eq → a ≡ b
unfolding order
order_eq [] [] e = refl
order_eq [] (y ∷ ys) e = cc
order_eq (x ∷ xs) [] e = cc
order_eq (x ∷ xs) (y ∷ ys) e =
    let h = then_eq (order xs ys) (compare x y) e in
    ap₂ ◌∷◌ (subst (λ o. Says o x y) h.1 (compare_says x y)) (order_eq xs ys h.0)

pub order_refl : (a : Exponents) → order a a ≡ Ordering.eq
unfolding order
order_refl [] = refl
order_refl (x ∷ xs) = ap₂ and_then (order_refl xs) (compare_is x x Ordering.eq refl)

abbrev pub flip : Ordering → Ordering
flip Ordering.lt = Ordering.gt
flip Ordering.eq = Ordering.eq
flip Ordering.gt = Ordering.lt

says_flip : (m n : ℕ) (o : Ordering) → Says o m n → Says (flip o) n m
says_flip m n Ordering.lt h = h
says_flip m n Ordering.eq h = sym h
says_flip m n Ordering.gt h = h

then_flip : (o c : Ordering) → and_then (flip o) (flip c) ≡ flip (and_then o c)
then_flip Ordering.lt c = refl
then_flip Ordering.eq c = refl
then_flip Ordering.gt c = refl

pub order_flip : (a b : Exponents) → order b a ≡ flip (order a b)
unfolding order
order_flip [] [] = refl
order_flip [] (y ∷ b) = refl
order_flip (x ∷ a) [] = refl
order_flip (x ∷ a) (y ∷ b) = ap₂ and_then (order_flip a b) (compare_is y x (flip (compare x y)) (says_flip x y (compare x y) (compare_says x y))) ∙ then_flip (order a b) (compare x y)

pub then_lt : (o c : Ordering) → and_then o c ≡ Ordering.lt → (o ≡ Ordering.lt) ⊎ ((o ≡ Ordering.eq) × (c ≡ Ordering.lt))
then_lt Ordering.lt c e = inl refl
then_lt Ordering.eq c e = inr (refl, e)
then_lt Ordering.gt c e = inl e

compare_lt : (m n : ℕ) → compare m n ≡ Ordering.lt → m < n
compare_lt m n e = subst (λ o. Says o m n) e (compare_says m n)

pub order_trans : (a b c : Exponents) → order a b ≡ Ordering.lt → order b c ≡ Ordering.lt → order a c ≡ Ordering.lt
unfolding order
order_trans [] [] c h k = k
order_trans [] (y ∷ b) [] h k = cc
order_trans [] (y ∷ b) (z ∷ c) h k = refl
order_trans (x ∷ a) [] c h k = cc
order_trans (x ∷ a) (y ∷ b) [] h k = cc
order_trans (x ∷ a) (y ∷ b) (z ∷ c) h k = go (order_trans a b c) (then_lt (order a b) (compare x y) h) (then_lt (order b c) (compare y z) k)
  where
    go : (order a b ≡ Ordering.lt → order b c ≡ Ordering.lt → order a c ≡ Ordering.lt) →
        (order a b ≡ Ordering.lt) ⊎ ((order a b ≡ Ordering.eq) × (compare x y ≡ Ordering.lt)) →
        (order b c ≡ Ordering.lt) ⊎ ((order b c ≡ Ordering.eq) × (compare y z ≡ Ordering.lt)) →
        and_then (order a c) (compare x z) ≡ Ordering.lt
    go ih (inl u) (inl v) = rw (ih u v)
    go ih (inl u) (inr v) = ap (λ s. and_then (order a s) (compare x z)) (sym (order_eq b c v.0)) ∙ ap (λ o. and_then o (compare x z)) u
    go ih (inr u) (inl v) = ap (λ s. and_then (order s c) (compare x z)) (order_eq a b u.0) ∙ ap (λ o. and_then o (compare x z)) v
    go ih (inr u) (inr v) =
        ap₂ and_then (ap (λ s. order s c) (order_eq a b u.0) ∙ v.0) (compare_is x z Ordering.lt (omega (arith, compare_lt x y u.1, compare_lt y z v.1)))

-- ── products of monomials ──
pub join_nil : (a : Exponents) → join a [] ≡ a
unfolding join
join_nil [] = refl
join_nil (x ∷ a) = refl

pub join_comm : (a b : Exponents) → join a b ≡ join b a
unfolding join
join_comm [] [] = refl
join_comm [] (y ∷ b) = refl
join_comm (x ∷ a) [] = refl
join_comm (x ∷ a) (y ∷ b) = ap₂ ◌∷◌ (add_comm x y) (join_comm a b)

pub join_assoc : (a b c : Exponents) → join (join a b) c ≡ join a (join b c)
unfolding join
join_assoc [] b c = refl
join_assoc (x ∷ a) [] c = refl
join_assoc (x ∷ a) (y ∷ b) [] = refl
join_assoc (x ∷ a) (y ∷ b) (z ∷ c) = ap₂ ◌∷◌ (add_assoc x y z) (join_assoc a b c)

-- A common factor keeps the order.
compare_plus : (x a b : ℕ) → compare (x + a) (x + b) ≡ compare a b
compare_plus x a b = compare_is (x + a) (x + b) (compare a b) (moved (compare a b) (compare_says a b))
  where
    moved : (o : Ordering) → Says o a b → Says o (x + a) (x + b)
    moved Ordering.lt h = omega arith
    moved Ordering.eq h = omega arith
    moved Ordering.gt h = omega arith

pub order_join : (e a b : Exponents) → length a ≡ length b → order (join e a) (join e b) ≡ order a b
unfolding order join
order_join [] a b h = refl
order_join (x ∷ e) [] [] h = order_refl (x ∷ e)
order_join (x ∷ e) [] (y ∷ b) h = absurd (omega arith)
order_join (x ∷ e) (y ∷ a) [] h = absurd (omega arith)
order_join (x ∷ e) (y ∷ a) (z ∷ b) h = ap₂ and_then (order_join e a b (omega arith)) (compare_plus x y z)
