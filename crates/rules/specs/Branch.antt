-- "A branch is three lists: P, Q, T." Putting a polynomial into P or Q, and choosing the pivot.
use Rattle.std.specs.Prelude.{Bool, true, false, not, ◌&&◌, ◌||◌, List, [], ◌∷◌, ◌++◌, ℕ, zero, suc, max, eqb, ltb, length}
use Rattle.polynomials.specs.Poly.{Exponents, Poly, monic, equal}
use Rattle.polynomials.specs.Division.{degree, leader}

pub record Branch : Type 0 where
  pub P : List Poly
  pub Q : List Poly
  pub T : List Poly

-- ── putting ──
unfoldable pub member : Poly → List Poly → Bool
member f [] = false
member f (g ∷ gs) = equal f g || member f gs

unfoldable pub is_zero : Poly → Bool
is_zero [] = true
is_zero (t ∷ f) = false

unfoldable pub all_zeros : Exponents → Bool
all_zeros [] = true
all_zeros (n ∷ e) = eqb n 0 && all_zeros e

unfoldable pub is_one : Poly → Bool
is_one [] = false
is_one (t ∷ []) = eqb t.coef 1 && all_zeros t.exps
is_one (t ∷ (u ∷ f)) = false

-- "It is dropped if ..; otherwise it goes to the end."
abbrev pub unless_dropped : Bool → Poly → List Poly → List Poly
unless_dropped true f fs = fs
unless_dropped false f fs = fs ++ (f ∷ [])

-- "Putting a polynomial into P or Q makes it monic. It is dropped if an equal one is there, if it is zero and goes to P, or if it is 1
-- and goes to Q."
unfoldable pub put_p : ℕ → Poly → List Poly → List Poly
put_p p f fs = unless_dropped (is_zero (monic p f) || member (monic p f) fs) (monic p f) fs

unfoldable pub put_q : ℕ → Poly → List Poly → List Poly
put_q p f fs = unless_dropped (is_one (monic p f) || member (monic p f) fs) (monic p f) fs

-- Put one after the other.
unfoldable pub put_all : (Poly → List Poly → List Poly) → List Poly → List Poly → List Poly
put_all put [] out = out
put_all put (f ∷ fs) out = put_all put fs (put f out)

-- ── the pivot ──
unfoldable pub some_one : List Poly → Bool
some_one [] = false
some_one (f ∷ fs) = is_one f || some_one fs

unfoldable pub some_zero : List Poly → Bool
some_zero [] = false
some_zero (f ∷ fs) = is_zero f || some_zero fs

-- "The highest leading variable in P."
unfoldable pub highest_leader : List Poly → ℕ
highest_leader [] = 0
highest_leader (f ∷ fs) = max (leader f) (highest_leader fs)

unfoldable pub led_by : ℕ → Poly → Bool
led_by k f = eqb (leader f) k

-- A member of a list and its place, from 0.
pub record Chosen : Type 0 where
  pub place : ℕ
  pub poly : Poly

-- Whether g is a better pivot than f, which stands before it: "led by vk of least degree in vk, then fewest terms, then earliest", with
-- v(k+1) for vk.
unfoldable pub better : ℕ → Poly → Poly → Bool
better k g f =
    led_by (suc k) g
    && (not (led_by (suc k) f) || (ltb (degree k g) (degree k f) || (eqb (degree k g) (degree k f) && ltb (length g) (length f))))

abbrev pub prefer : Bool → Poly → Chosen → Chosen
prefer true f c = record { place = suc c.place; poly = c.poly }
prefer false f c = record { place = 0; poly = f }

-- The pivot among f ∷ fs.
unfoldable pub pivot : ℕ → Poly → List Poly → Chosen
pivot k f [] = record { place = 0; poly = f }
pivot k f (g ∷ fs) = prefer (better k (pivot k g fs).poly f) f (pivot k g fs)

-- The list without its member at place i.
unfoldable pub remove : ℕ → List Poly → List Poly
remove i [] = []
remove zero (f ∷ fs) = fs
remove (suc i) (f ∷ fs) = f ∷ remove i fs

pub data Found : Type 0 where
  none : Found
  found : Chosen → Found

abbrev pub behind : Found → Found
behind none = none
behind (found c) = found (record { place = suc c.place; poly = c.poly })

-- The earliest member led by v(k+1).
unfoldable pub earliest : ℕ → List Poly → Found
earliest k [] = none
earliest k (f ∷ fs) = elim (led_by (suc k) f) [ true ↦ found (record { place = 0; poly = f }) | false ↦ behind (earliest k fs) ]

-- "Another polynomial led by vk stands in P: the earliest such", the pivot standing at place i.
unfoldable pub other : ℕ → ℕ → List Poly → Found
other k i [] = none
other k zero (f ∷ fs) = behind (earliest k fs)
other k (suc i) (f ∷ fs) = elim (led_by (suc k) f) [ true ↦ found (record { place = 0; poly = f }) | false ↦ behind (other k i fs) ]
