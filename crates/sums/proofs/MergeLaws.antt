-- What the code of `sums` plugs its places into: the merge on terms, what holds at its head and each turn; and the tested difference.
use Rattle.std.specs.Prelude.{◌≡◌, refl, ◌≢◌, List, [], ◌∷◌, ◌++◌, Bool, true, false, ltb, length, take, drop, get_or, set, Ok, Err}
use Prim.Native.Nat.{Ordering, ℕ, zero, suc, ◌+◌, ◌-◌, ◌*◌, ◌/◌, ◌%◌, ◌^◌, ◌≤◌, ◌<◌}
use Rattle.std.proofs.Common.{sym, ◌∙◌, ap, ap₂, subst, arith, ltb-true, ltb-false, length-set, length-append, length-take-le, length-drop, drop-cons, append-nil}
use Rattle.std.proofs.lemmas.List.{drop_all}
use Rattle.std.proofs.lemmas.Slice.{take-put_mid}
use borrow.Rule.Slice.PartMut.{put_mid, post_of}
use native.Mathlib.Nat.{pow-suc, div-lt_iff_lt-mul}
use native.Mathlib.Decide.{ℕ_discrete}
use Rattle.polynomials.specs.Poly.{Poly, order, join, keep, add_multiple, difference}
use Rattle.polynomials.specs.Canonical.{Under, Canonical, All}
use Rattle.polynomials.specs.Bounds.{standard, over, within, terms_passed, tested}
use Rattle.polynomials.specs.declared.Term.{Term as Packed}
use Rattle.polynomials.specs.declared.Passed.TheVariants.{Terms}
use Rattle.polynomials.specs.Packed.{bytes, term, terms, Fits, AllFit}
use Rattle.polynomials.specs.Working.{Written, Forms}
use Rattle.polynomials.specs.laws.Order.{compare_is}
use Rattle.polynomials.specs.laws.Canonical.{under_first}
use Rattle.polynomials.specs.laws.Merge.{Below, below_first, below_trans, multiple_left, multiple_right, multiple_both, multiple_zeros, keep_none, keep_some}
use Rattle.polynomials.specs.laws.Packed.{fewer_bytes, order_bytes, join_bytes}
use Rattle.polynomials.specs.laws.Places.{places_terms}
use Rattle.polynomials.specs.laws.Answers.{written_count}
use Rattle.polynomials.specs.laws.Terms.{terms_at, terms_push_before, terms_append}

-- ── monomials ──
-- Monomials of which no exponent passes 255 have a sum that fits.
fits_below : (n w v : ℕ) → Fits n w v → w < 256 ^ n → v < 256 ^ n → w + v < 256 ^ n
fits_below zero w v f h k = omega arith
fits_below (suc n) w v f h k = subst (λ z. w + v < z) (sym (pow-suc 256 n))
    ((div-lt_iff_lt-mul {k = 256} (omega arith)).0 (subst (λ z. z < 256 ^ n) high (fits_below n (w / 256) (v / 256) f.1 (fewer_bytes n w h) (fewer_bytes n v k))))
  where
    high : w / 256 + v / 256 ≡ (w + v) / 256
    high = omega (arith, f.0)

-- A monomial has 64 bits.
abbrev pub Word : ℕ → Type 0
Word w = w < 256 ^ 8

words_below : (w v : ℕ) → Word w → Word v → w < v → order (bytes 8 w) (bytes 8 v) ≡ Ordering.lt
words_below w v h k l = order_bytes 8 w v h k ∙ compare_is w v Ordering.lt l

-- ── one turn, on polynomials: the first term of the multiple is c·m times t ──
module _ (p c m : ℕ) (t : Packed) (g : Poly) (small : Word (m + t.monomial)) (fit : Fits 8 m t.monomial) (eight : All (λ e. length e ≡ 8) g) (falls : Under (bytes 8 t.monomial) g) where
  abbrev e : ℕ
  e = m + t.monomial

  same : bytes 8 e ≡ join (bytes 8 m) (bytes 8 t.monomial)
  same = join_bytes 8 m t.monomial fit

  rest_below : Below (bytes 8 e) (bytes 8 m) g
  unfolding bytes
  rest_below = subst (λ b. Below b (bytes 8 m) g) (sym same) (below_first (bytes 8 m) (bytes 8 t.monomial) g eight falls)

  -- a term of f above it
  turn_left : (u : Packed) (f : Poly) → Word u.monomial → e < u.monomial → add_multiple p c (bytes 8 m) (term t ∷ g) (term u ∷ f) ≡ term u ∷ add_multiple p c (bytes 8 m) (term t ∷ g) f
  turn_left u f k l =
      let l' : order (bytes 8 e) (bytes 8 u.monomial) ≡ Ordering.lt = words_below e u.monomial small k l in
      multiple_left p c (bytes 8 m) (term u) f (term t ∷ g)
      (ap (λ z. order z (bytes 8 u.monomial)) (sym same) ∙ l', below_trans (bytes 8 e) (bytes 8 u.monomial) (bytes 8 m) l' g rest_below)

  -- all of f below it
  turn_right : (f : Poly) → Under (bytes 8 e) f → add_multiple p c (bytes 8 m) (term t ∷ g) f ≡ keep (c * t.coefficient % p) (bytes 8 e) (add_multiple p c (bytes 8 m) g f)
  turn_right f u =
      multiple_right p c (bytes 8 m) (term t) f g (subst (λ b. Under b f) same u) (subst (λ b. Below b (bytes 8 m) g) same rest_below)
      ∙ ap (λ b. keep (c * t.coefficient % p) b (add_multiple p c (bytes 8 m) g f)) (sym same)

  -- the first term of f like it
  turn_both : (u : Packed) (f : Poly) → u.monomial ≡ e →
      add_multiple p c (bytes 8 m) (term t ∷ g) (term u ∷ f) ≡ keep ((c * t.coefficient % p + u.coefficient) % p) (bytes 8 e) (add_multiple p c (bytes 8 m) g f)
  turn_both u f alike =
      multiple_both p c (bytes 8 m) (term u) (term t) f g (ap (bytes 8) alike ∙ same) (subst (λ b. Below b (bytes 8 m) g) same rest_below)
      ∙ ap (λ (x : ℕ). keep ((c * t.coefficient % p + u.coefficient) % p) (bytes 8 x) (add_multiple p c (bytes 8 m) g f)) alike

-- ── the loop, on terms ──
-- What is still to be merged: f from i on, and what is left of g.
abbrev pub left : (p c m : ℕ) (f b : List Packed) (i : ℕ) → Poly
left p c m f b i = add_multiple p c (bytes 8 m) (terms b) (terms (drop i f))

-- At the loop's head: k terms are written, and b is left of g.
pub record Head (p c m : ℕ) (g f out b : List Packed) (i k : ℕ) : Type 0 where
  pub i≤ : i ≤ length f
  pub k≤ : k + length b ≤ i + length g
  pub f_canonical : Canonical p (terms (drop i f))
  pub g_canonical : Canonical p (terms b)
  pub fits : AllFit m b
  pub same : terms (take k out) ++ left p c m f b i ≡ left p c m f g 0

-- The next term of the multiple is taken: with the sum s of coefficients and the monomial e, and i' behind the term of f that it met.
pub record Taken (p c m : ℕ) (f b : List Packed) (i e i' s : ℕ) : Type 0 where
  pub above : i ≤ i'
  pub within : i' ≤ length f
  pub canonical : Canonical p (terms (drop i' f))
  pub sum : left p c m f b i ≡ keep s (bytes 8 e) (left p c m f (drop 1 b) i')

pub subst_taken : {p c m : ℕ} {f b : List Packed} {i e i' s x y : ℕ} → Taken p c m f b i e i' s → x ≡ i' → y ≡ s → Taken p c m f b i e x y
subst_taken {p} {c} {m} {f} {b} {i} {e} {i'} {s} {x} {y} K a q = subst (λ x. Taken p c m f b i e x y) (sym a) (subst (λ y. Taken p c m f b i e i' y) (sym q) K)

subst_head : {p c m : ℕ} {g f out b x : List Packed} {i k y : ℕ} → Head p c m g f out b i k → x ≡ out → y ≡ k → Head p c m g f x b i y
subst_head {p} {c} {m} {g} {f} {out} {b} {x} {i} {k} {y} H e q = subst (λ x. Head p c m g f x b i y) (sym e) (subst (λ y. Head p c m g f out b i y) (sym q) H)

pub start : (p c m : ℕ) (g f out : List Packed) → Canonical p (terms f) → Canonical p (terms g) → AllFit m g → Head p c m g f out g 0 0
unfolding terms
start p c m g f out n h a = record { i≤ = omega arith; k≤ = omega arith; f_canonical = n; g_canonical = h; fits = a; same = refl }

-- d stands for what is read past the end: never here.
module _ {p c m : ℕ} {g f out b : List Packed} {i k : ℕ} (H : Head p c m g f out b i k) (more : 1 ≤ length b) (d : Packed) where
  abbrev of_g : Packed
  of_g = get_or b 0 d

  abbrev of_f : Packed
  of_f = get_or f i d

  first : terms b ≡ term of_g ∷ terms (drop 1 b)
  first = terms_at b 0 d (omega (arith, more))

  fewer : length (drop 1 b) + 1 ≡ length b
  fewer = omega (arith, length-drop 1 b, more)

  -- the next term of the multiple, and of f
  pub next_canonical : Canonical p (term of_g ∷ terms (drop 1 b))
  next_canonical = subst (Canonical p) first H.g_canonical

  pub next_fits : Fits 8 m of_g.monomial × AllFit m (drop 1 b)
  next_fits = subst (AllFit m) (drop-cons b 0 d (omega (arith, more))) H.fits

  pub front_canonical : i < length f → Canonical p (term of_f ∷ terms (drop (i + 1) f))
  front_canonical in_f = subst (Canonical p) (terms_at f i d in_f) H.f_canonical

  -- the monomial of the next term of the multiple
  pub small_next : Word m → Word of_g.monomial → Word (m + of_g.monomial)
  small_next u v = fits_below 8 m of_g.monomial next_fits.0 u v

  module _ (small : Word (m + of_g.monomial)) where
    -- The term of f goes first.
    pub turn_f : i < length f → k < length out → Word of_f.monomial → m + of_g.monomial < of_f.monomial → Head p c m g f (set out k of_f) b (i + 1) (k + 1)
    turn_f in_f room word less = record {
      i≤ = omega arith;
      k≤ = omega (arith, H.k≤);
      f_canonical = (front_canonical in_f).3;
      g_canonical = H.g_canonical;
      fits = H.fits;
      same = terms_push_before out k of_f (left p c m f b i) (left p c m f b (i + 1)) room ahead ∙ H.same;
    }
      where
        ahead : left p c m f b i ≡ term of_f ∷ left p c m f b (i + 1)
        ahead =
            ap₂ (add_multiple p c (bytes 8 m)) first (terms_at f i d in_f)
            ∙ turn_left p c m of_g (terms (drop 1 b)) small next_fits.0 (places_terms (drop 1 b)) next_canonical.2
            of_f (terms (drop (i + 1) f)) word less
            ∙ ap (λ z. term of_f ∷ add_multiple p c (bytes 8 m) z (terms (drop (i + 1) f))) (sym first)

    alone : Under (bytes 8 (m + of_g.monomial)) (terms (drop i f)) → Taken p c m f b i (m + of_g.monomial) i (c * of_g.coefficient % p)
    alone u = record {
      above = omega arith;
      within = H.i≤;
      canonical = H.f_canonical;
      sum = ap (λ z. add_multiple p c (bytes 8 m) z (terms (drop i f))) first
          ∙ turn_right p c m of_g (terms (drop 1 b)) small next_fits.0 (places_terms (drop 1 b)) next_canonical.2 (terms (drop i f)) u;
    }

    -- f is at its end.
    pub taken_last : length f ≤ i → Taken p c m f b i (m + of_g.monomial) i (c * of_g.coefficient % p)
    unfolding terms
    taken_last l = alone (subst (λ z. Under (bytes 8 (m + of_g.monomial)) (terms z)) (sym (drop_all i f l)) tt)

    -- The term of f is below.
    pub taken_alone : i < length f → Word of_f.monomial → of_f.monomial < m + of_g.monomial → Taken p c m f b i (m + of_g.monomial) i (c * of_g.coefficient % p)
    taken_alone in_f word less =
        alone
        (subst (Under (bytes 8 (m + of_g.monomial))) (sym (terms_at f i d in_f))
        (under_first p (bytes 8 (m + of_g.monomial)) (term of_f) (terms (drop (i + 1) f))
        (front_canonical in_f) (words_below of_f.monomial (m + of_g.monomial) word small less)))

    -- The two are alike.
    pub taken_both : i < length f → of_f.monomial ≡ m + of_g.monomial → Taken p c m f b i (m + of_g.monomial) (i + 1) ((c * of_g.coefficient % p + of_f.coefficient) % p)
    taken_both in_f alike = record {
      above = omega arith;
      within = omega arith;
      canonical = (front_canonical in_f).3;
      sum = ap₂ (add_multiple p c (bytes 8 m)) first (terms_at f i d in_f)
          ∙ turn_both p c m of_g (terms (drop 1 b)) small next_fits.0 (places_terms (drop 1 b)) next_canonical.2 of_f (terms (drop (i + 1) f)) alike;
    }

  -- The sum is zero, and nothing is written.
  turn_none : {e i' s : ℕ} → Taken p c m f b i e i' s → s ≡ 0 → Head p c m g f out (drop 1 b) i' k
  turn_none {e} {i'} {s} K z = record {
    i≤ = K.within;
    k≤ = omega (arith, H.k≤, K.above, fewer);
    f_canonical = K.canonical;
    g_canonical = next_canonical.3;
    fits = next_fits.1;
    same = ap (λ z. terms (take k out) ++ z) (sym (K.sum ∙ keep_none s (bytes 8 e) (left p c m f (drop 1 b) i') z)) ∙ H.same;
  }

  -- It is not, and is written.
  turn_sum : {e i' s : ℕ} → Taken p c m f b i e i' s → s ≢ 0 → k < length out → Head p c m g f (set out k (record { coefficient = s; monomial = e })) (drop 1 b) i' (k + 1)
  turn_sum {e} {i'} {s} K z room = record {
    i≤ = K.within;
    k≤ = omega (arith, H.k≤, K.above, fewer);
    f_canonical = K.canonical;
    g_canonical = next_canonical.3;
    fits = next_fits.1;
    same = terms_push_before out k (record { coefficient = s; monomial = e }) (left p c m f b i) (left p c m f (drop 1 b) i') room
        (K.sum ∙ keep_some s (bytes 8 e) (left p c m f (drop 1 b) i') z) ∙ H.same;
  }

  -- What is written goes by the sum.
  pub turn_taken : {e i' s k' : ℕ} {out' rest : List Packed} → Taken p c m f b i e i' s → rest ≡ drop 1 b → k < length out
      → (s ≢ 0 → (out' ≡ set out k (record { coefficient = s; monomial = e })) × (k' ≡ k + 1)) → (s ≡ 0 → (out' ≡ out) × (k' ≡ k))
      → (length out' ≡ length out) × Head p c m g f out' rest i' k'
  turn_taken {e} {i'} {s} {k'} {out'} K is room some none = subst (λ z. (length out' ≡ length out) × Head p c m g f out' z i' k') (sym is) (elim (ℕ_discrete s 0) [
    | yes z ↦ let e = none z in (ap length e.0, subst_head (turn_none K z) e.0 e.1)
    | no n ↦ let e = some n in (ap length e.0 ∙ simp length-set refl, subst_head (turn_sum K n room) e.0 e.1)
  ])

-- After the loop, with the rest of f, from `at` on, behind the k terms.
module _ {p c m : ℕ} {g f out b : List Packed} {i k : ℕ} (H : Head p c m g f out b i k) (end : length b ≡ 0) where
  finish : (n : ℕ) (last : List Packed) → n ≤ length last → take n last ≡ take k out ++ drop i f → Written (left p c m f g 0) n last
  unfolding terms add_multiple
  finish n last room copied = record {
    within = room;
    holds = ap terms copied ∙ terms_append (take k out) (drop i f) ∙ ap (λ z. terms (take k out) ++ z) (sym nothing) ∙ H.same;
  }
    where
      nothing : left p c m f b i ≡ terms (drop i f)
      nothing = ap (λ z. add_multiple p c (bytes 8 m) (terms z) (terms (drop i f))) (drop_all 0 b (omega (arith, end)))

  pub rest_copied : (n at : ℕ) (rest part : List Packed) → rest ≡ drop at f → part ≡ rest → n ≡ k + length rest → n ≤ length out → at ≡ i
      → Written (left p c m f g 0) n (put_mid k (n - k) out part)
  rest_copied n at rest part is copy count room from =
      let same : part ≡ drop i f = copy ∙ is ∙ ap (λ (x : ℕ). drop x f) from in
      let post = post_of k (n - k) out in
      let size : length part ≡ n - k = omega (arith, ap length copy, count) in
      finish n (put_mid k (n - k) out part) (omega (arith, size, count, room, length-append (take k out) (part ++ post), length-append part post, length-take-le k out (omega arith)))
      (take-put_mid k (n - k) out part n (omega (arith, size, count)) (omega (arith, count, room)) ∙ ap (λ z. take k out ++ z) same)

  -- Nothing is left of f.
  pub nothing_left : (n at : ℕ) (rest : List Packed) → rest ≡ drop at f → n ≡ k + length rest → length f ≤ i → k ≤ length out → at ≡ i → Written (left p c m f g 0) n out
  nothing_left n at rest is count all room from =
      let none : drop i f ≡ [] = drop_all i f all in
      let same : n ≡ k = omega (arith, count, ap length (is ∙ ap (λ (x : ℕ). drop x f) from ∙ none)) in
      finish n out (omega (arith, same, room)) (ap (λ z. take z out) same ∙ sym (append-nil (take k out)) ∙ ap (λ z. take k out ++ z) (sym none))

-- ── the difference ──
fits_zero : (n v : ℕ) → Fits n 0 v
fits_zero zero v = tt
fits_zero (suc n) v = (omega arith, fits_zero n (v / 256))

pub all_fit_zero : (s : List Packed) → AllFit 0 s
all_fit_zero [] = tt
all_fit_zero (t ∷ s) = (fits_zero 8 t.monomial, all_fit_zero s)

pub difference_written : (p n : ℕ) (f g s : List Packed) → Written (add_multiple p (p - 1) (bytes 8 0) (terms g) (terms f)) n s → Written (difference p (terms f) (terms g)) n s
unfolding difference
difference_written p n f g s = subst (λ d. Written d n s) (multiple_zeros p (p - 1) 8 (terms g) (terms f) (places_terms g))

-- What was formed is tested.
pub within_terms_formed : (f : Poly) (n : ℕ) (x : List Packed) → Written f n x → n ≤ 256 → Forms (tested standard f) (Ok n) x
unfolding tested over
within_terms_formed f n x w few = go (ltb 256 (length f)) (ltb-true 256 (length f))
  where
    count : n ≡ length f
    count = written_count f n x w

    go : (b : Bool) → (b ≡ true → 256 < length f) → Forms (elim b [ true ↦ terms_passed | false ↦ within f ]) (Ok n) x
    go true h = absurd (omega (arith, h refl, count))
    go false h = (ap Ok count, subst (λ k. Written f k x) count w)

pub over_terms_refused : (f : Poly) (x : List Packed) → 256 < length f → Forms (tested standard f) (Err Terms) x
unfolding tested over
over_terms_refused f x many = go (ltb 256 (length f)) (ltb-false 256 (length f))
  where
    go : (b : Bool) → (b ≡ false → length f ≤ 256) → Forms (elim b [ true ↦ terms_passed | false ↦ within f ]) (Err Terms) x
    go true h = refl
    go false h = absurd (omega (arith, h refl))

pub over_terms_written : (f : Poly) (n : ℕ) (x : List Packed) → Written f n x → 256 < n → Forms (tested standard f) (Err Terms) x
over_terms_written f n x w many = over_terms_refused f x (omega (arith, many, written_count f n x w))
