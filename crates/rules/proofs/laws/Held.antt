-- The exponents of an admissible polynomial are those that a term's two words hold, and none is of a variable above vn.
use Rattle.std.specs.Prelude.{◌≡◌, refl, Bool, true, false, [], ◌∷◌, ◌++◌, ℕ, suc, ◌+◌, ◌≤◌, ◌<◌, length, take, drop, get_or}
use Rattle.std.proofs.Common.{◌∙◌, ap, ap₂, subst, arith, eq-eqb, length-take, length-drop, take-append-drop, get_or-drop}
use Rattle.residues.specs.laws.Each.{each_take, each_drop}
use Rattle.polynomials.specs.Poly.{Exponents, Poly}
use Rattle.polynomials.specs.Canonical.{All}
use Rattle.polynomials.specs.Packed.{bytes, word, exponents}
use Rattle.polynomials.specs.laws.Packed.{AllBytes, bytes_word}
use Rattle.tables.specs.Read.{not_zero, has_above}
use Rattle.tables.specs.Admissible.{Admissible}

all_bytes : (e : Exponents) → ((k : ℕ) → get_or e k 0 ≤ 255) → AllBytes e
all_bytes [] s = tt
all_bytes (b ∷ e) s = (omega (arith, s 0), all_bytes e (λ k. s (suc k)))

bytes_back : (e : Exponents) → length e ≡ 4 → AllBytes e → bytes 4 (word e) ≡ e
bytes_back e l s = subst (λ m. bytes m (word e) ≡ e) l (bytes_word e s)

-- A term's two words hold its eight exponents.
exponents_back : (e : Exponents) → length e ≡ 8 → ((k : ℕ) → get_or e k 0 ≤ 255) → exponents (word (drop 4 e)) (word (take 4 e)) ≡ e
unfolding exponents
exponents_back e l s =
    ap₂ ◌++◌ (bytes_back (take 4 e) (omega (arith, length-take 4 e)) (each_take (λ b. b < 256) 4 e (all_bytes e s)))
    (bytes_back (drop 4 e) (omega (arith, length-drop 4 e)) (each_drop (λ b. b < 256) 4 e (all_bytes e s)))
    ∙ take-append-drop 4 e

all_nought : (e : Exponents) → ((k : ℕ) → get_or e k 0 ≡ 0) → not_zero e ≡ false
unfolding not_zero
all_nought [] h = refl
all_nought (b ∷ e) h =
    ap (λ c. elim c as (λ c. Bool) [ true ↦ not_zero e | false ↦ true ]) (eq-eqb b 0 (h 0)) ∙ all_nought e (λ k. h (suc k))

none_above : (n : ℕ) (e : Exponents) → ((k : ℕ) → n ≤ k → get_or e k 0 ≡ 0) → has_above n e ≡ false
unfolding has_above
none_above n e h = all_nought (drop n e) (λ k. get_or-drop n e k 0 ∙ h (n + k) (omega arith))

abbrev pub Held : ℕ → Exponents → Type 0
Held n e = (exponents (word (drop 4 e)) (word (take 4 e)) ≡ e) × (has_above n e ≡ false)

all_held : (n : ℕ) (f : Poly) → All (λ e. length e ≡ 8) f → ((k : ℕ) → All (λ e. get_or e k 0 ≤ 255) f) → ((k : ℕ) → n ≤ k → All (λ e. get_or e k 0 ≡ 0) f) → All (Held n) f
all_held n [] l s a = tt
all_held n (t ∷ f) l s a = (
  (exponents_back t.exps l.0 (λ k. (s k).0), none_above n t.exps (λ k h. (a k h).0)),
  all_held n f l.1 (λ k. (s k).1) (λ k h. (a k h).1),
)

pub held : (p n : ℕ) (f : Poly) → Admissible p n f → All (Held n) f
held p n f a = all_held n f a.places a.small a.absent
