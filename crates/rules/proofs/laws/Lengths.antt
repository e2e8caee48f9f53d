-- How many words a written list has: four for each record.
use Rattle.std.specs.Prelude.{◌≡◌, refl, List, [], ◌∷◌, ℕ, suc, ◌+◌, ◌*◌, ◌≤◌, length}
use Rattle.std.proofs.Common.{arith, length-append}
use Rattle.polynomials.specs.Poly.{Poly}
use Rattle.tables.specs.Read.{System, Listing}
use Rattle.rules.specs.Room.{polynomials_size, systems_size}
use Rattle.rules.specs.Written.{index_of, terms_words, heads_words, system_words, systems_words, list_words, list_records}

pub length_terms : (i : ℕ) (f : Poly) → length (terms_words i f) ≡ 4 * length f
unfolding terms_words
length_terms i [] = refl
length_terms i (t ∷ f) = omega (arith, length_terms (suc i) f)

pub length_heads : (i : ℕ) (fs : List Poly) → length (heads_words i fs) ≡ 4 * polynomials_size fs
unfolding heads_words polynomials_size
length_heads i [] = refl
length_heads i (f ∷ fs) =
    omega (arith, length-append (terms_words (suc i) f) (heads_words (suc (i + length f)) fs), length_terms (suc i) f, length_heads (suc (i + length f)) fs)

pub length_system : (i next : ℕ) (s : System) → length (system_words i next s) ≡ 4 * systems_size (s ∷ [])
unfolding systems_size
length_system i next s =
    let j = suc i + polynomials_size s.T in
    omega (arith, length-append (heads_words (suc i) s.T) (heads_words j s.U), length_heads (suc i) s.T, length_heads j s.U)

pub length_systems : (i : ℕ) (ss : List System) → length (systems_words i ss) ≡ 4 * systems_size ss
unfolding systems_words systems_size
length_systems i [] = refl
length_systems i (s ∷ ss) =
    let k = i + systems_size (s ∷ []) in
    omega (arith, length-append (system_words i (index_of ss k) s) (systems_words k ss), length_system i (index_of ss k) s, length_systems k ss)

pub length_list : (l : Listing) → length (list_words l) ≡ 4 * list_records l.systems
unfolding list_words list_records
length_list l = omega (arith, length_systems 1 l.systems)

-- A list of polynomials takes a record for each.
pub length_size : (fs : List Poly) → length fs ≤ polynomials_size fs
unfolding polynomials_size
length_size [] = omega arith
length_size (f ∷ fs) = omega (arith, length_size fs)

pub length_systems_size : (ss : List System) → length ss ≤ systems_size ss
unfolding systems_size
length_systems_size [] = omega arith
length_systems_size (s ∷ ss) = omega (arith, length_systems_size ss)
