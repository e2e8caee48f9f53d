-- Where the parts of a stored system lie, and what writing it leaves.
use mathlib.Core.Path.{◌≡◌, refl, sym, ap, ◌∙◌}
use mathlib.Core.Logic.{◌≢◌}
use mathlib.Core.List.{List, [], ◌∷◌, ◌++◌, map, append_assoc}
use Prim.Native.Nat.{ℕ, suc, ◌+◌, ◌-◌, ◌*◌, ◌≤◌}
use native.Mathlib.Omega.{arith}
use lib.ListN.{length, get_or, length-append, length-map}
use lib.Seq.{paste, get_or_at}
use Rattle.std.proofs.lemmas.List.Edits.{length-paste}
use Rattle.polynomials.specs.Poly.{Poly}
use Rattle.polynomials.specs.Packed.{terms}
use Rattle.rules.specs.Room.{polynomials_size, systems_size}
use Rattle.rules.specs.Written.{index_of, heads_words, system_words}
use Rattle.rules.proofs.laws.Lengths.{length_heads, length_system}
use Rattle.records.specs.Records.{Rec, record_of, zero_record, view}
use Rattle.records.proofs.Rows.{length_view, word_1, word_2}
use Rattle.stored.specs.Stored.{polys_records, skip_to, polys_at}
use Rattle.stored.specs.laws.Stored.{polys_records_append, skip_to_polys_records, polys_at_polys_records}
use Rattle.branches.specs.Area.{Stored, branch_records}
use Rattle.representation.specs.Represent.{system_of}
use Rattle.representation.specs.laws.Sizes.{length_polys_records_terms}
use Rattle.writing.specs.Listed.{StoredAt}
use Rattle.chains.proofs.Over.{over, paste_over, over_behind, record_behind}
use Rattle.chains.proofs.Laws.{index_is}
use Rattle.polynomials.specs.declared.Term.{Term as Packed}

-- The records that a system takes.
abbrev pub size_of : Stored → ℕ
size_of s = systems_size (system_of s ∷ [])

pub size_is : (s : Stored) → size_of s ≡ 1 + (polynomials_size (map terms s.T) + polynomials_size (map terms s.Q))
unfolding systems_size
size_is s = omega arith

no_records : (ss : List (List Packed)) → ss ≡ [] → polys_records ss ≡ []
unfolding polys_records
no_records ss e = ap polys_records e

pub length_branch_records : (s : Stored) → s.P ≡ [] → length (branch_records 0 s) ≡ size_of s
length_branch_records s e =
    omega (
      arith,
      size_is s,
      length_polys_records_terms s.Q,
      length_polys_records_terms s.T,
      length-append (polys_records s.P) (polys_records s.Q ++ polys_records s.T),
      length-append (polys_records s.Q) (polys_records s.T),
      ap length (no_records s.P e),
    )

-- How many polynomials its U and its T have, as they are read.
abbrev pub u_in : List (List ℕ) → ℕ → ℕ
u_in w i = get_or (get_or w i []) 1 0

abbrev pub t_in : List (List ℕ) → ℕ → ℕ
t_in w i = get_or (get_or w i []) 2 0

-- What is found by way of them: the U heads, and the T heads behind those.
pub record Found (w : List (List ℕ)) (i : ℕ) (s : Stored) : Type 0 where
  pub inside : i + size_of s ≤ length w
  pub size : size_of s ≡ 1 + (polynomials_size (map terms s.T) + polynomials_size (map terms s.Q))
  pub u_is : u_in w i ≡ length s.Q
  pub t_is : t_in w i ≡ length s.T
  pub end_u : skip_to (view w) (i + 1) (u_in w i) ≡ i + 1 + polynomials_size (map terms s.Q)
  pub end_t : skip_to (view w) (skip_to (view w) (i + 1) (u_in w i)) (t_in w i) ≡ i + size_of s
  pub end : skip_to (view w) (i + 1) (u_in w i + t_in w i) ≡ i + size_of s
  pub polys_u : polys_at (view w) (i + 1) (u_in w i) ≡ s.Q
  pub polys_t : polys_at (view w) (skip_to (view w) (i + 1) (u_in w i)) (t_in w i) ≡ s.T

pub found : (w : List (List ℕ)) (i : ℕ) (s : Stored) → StoredAt (view w) i s → Found w i s
found w i s h =
    let v : List Rec = view w in
    let U : List Rec = polys_records s.Q in
    let T : List Rec = polys_records s.T in
    let r : Rec = record_of (length s.P) (length s.Q) (length s.T) 0 in
    let front : List Rec = h.before ++ (r ∷ []) in
    let all : v ≡ h.before ++ (r ∷ (U ++ T ++ h.behind)) =
    h.is ∙ ap (λ (l : List Rec). h.before ++ (r ∷ (l ++ (U ++ T) ++ h.behind))) (no_records s.P h.finished) in
    let both : v ≡ front ++ (U ++ T ++ h.behind) = all ∙ sym (append_assoc h.before (r ∷ []) (U ++ T ++ h.behind)) in
    let first : v ≡ front ++ (U ++ (T ++ h.behind)) = both ∙ ap (λ (l : List Rec). front ++ l) (append_assoc U T h.behind) in
    let second : v ≡ front ++ U ++ (T ++ h.behind) = first ∙ sym (append_assoc front U (T ++ h.behind)) in
    let joined : v ≡ front ++ (polys_records (s.Q ++ s.T) ++ h.behind) =
    both ∙ ap (λ (l : List Rec). front ++ (l ++ h.behind)) (sym (polys_records_append s.Q s.T)) in
    let lf : length front ≡ i + 1 = omega (arith, length-append h.before (r ∷ []), h.starts) in
    let pU : polynomials_size (map terms s.Q) ≡ length U = length_polys_records_terms s.Q in
    let pT : polynomials_size (map terms s.T) ≡ length T = length_polys_records_terms s.T in
    let is = size_is s in
    let lUT : length (U ++ T) ≡ length U + length T = length-append U T in
    let lfU : length (front ++ U) ≡ i + 1 + polynomials_size (map terms s.Q) = omega (arith, length-append front U) in
    let here : get_or v i zero_record ≡ r =
    ap (λ (l : List Rec). get_or l i zero_record) all ∙ get_or_at h.before r (U ++ T ++ h.behind) zero_record i h.starts in
    let u : u_in w i ≡ length s.Q = word_1 w i ∙ ap (λ (x : Rec). x.w1) here in
    let t : t_in w i ≡ length s.T = word_2 w i ∙ ap (λ (x : Rec). x.w2) here in
    let from_t : skip_to v (i + 1) (u_in w i) ≡ i + 1 + polynomials_size (map terms s.Q) =
    ap (skip_to v (i + 1)) u ∙ skip_to_polys_records v front (i + 1) s.Q (T ++ h.behind) lf first ∙ omega arith in
    record {
      inside = omega (arith, length_view w, ap length both, length-append front (U ++ T ++ h.behind), length-append (U ++ T) h.behind);
      size = is;
      u_is = u;
      t_is = t;
      end_u = from_t;
      end_t = (λ k. skip_to v (from_t k) (t k))
          ∙ skip_to_polys_records v (front ++ U) (i + 1 + polynomials_size (map terms s.Q)) s.T h.behind lfU second ∙ omega arith;
      end =
          ap (skip_to v (i + 1)) ((λ k. u k + t k) ∙ sym (length-append s.Q s.T))
          ∙ skip_to_polys_records v front (i + 1) (s.Q ++ s.T) h.behind lf joined
          ∙ omega (arith, ap length (polys_records_append s.Q s.T));
      polys_u = ap (polys_at v (i + 1)) u ∙ polys_at_polys_records v front (i + 1) s.Q (T ++ h.behind) lf first h.storable_u;
      polys_t =
          (λ k. polys_at v (from_t k) (t k))
          ∙ polys_at_polys_records v (front ++ U) (i + 1 + polynomials_size (map terms s.Q)) s.T h.behind lfU second
          h.storable_t;
    }

-- A system's record written, then its T heads, then its U heads.
module _ (s : Stored) (w : List (List ℕ)) (i : ℕ) (f : Found w i s) (out o₁ o₂ o₃ : List ℕ) (at to next ft fu from_t : ℕ)
    (from : from_t ≡ skip_to (view w) (i + 1) (u_in w i)) (behind : to ≡ at + 1 + (skip_to (view w) from_t (t_in w i) - from_t))
    (e₁ : o₁ ≡ paste out (4 * at) (ft ∷ fu ∷ 0 ∷ next ∷ []) 4)
    (e₂ : o₂ ≡ paste o₁ (4 * (at + 1)) (heads_words (at + 1) (map terms (polys_at (view w) from_t (t_in w i)))) (4 * (skip_to (view w) from_t (t_in w i) - from_t)))
    (e₃ : o₃ ≡ paste o₂ (4 * to) (heads_words to (map terms (polys_at (view w) (i + 1) (u_in w i)))) (4 * (skip_to (view w) (i + 1) (u_in w i) - (i + 1))))
    (fits : 4 * (at + size_of s) ≤ length out)
    (no_t : t_in w i ≡ 0 → ft ≡ 0) (some_t : t_in w i ≢ 0 → ft ≡ at + 1) (no_u : u_in w i ≡ 0 → fu ≡ 0) (some_u : u_in w i ≢ 0 → fu ≡ to) where
  pub system_written : o₃ ≡ paste out (4 * at) (system_words at next (system_of s)) (4 * size_of s)
  system_written =
      let v : List Rec = view w in
      let T : List Poly = map terms s.T in
      let U : List Poly = map terms s.Q in
      let HT : List ℕ = heads_words (at + 1) T in
      let HU : List ℕ = heads_words to U in
      let S : List ℕ = system_words at next (system_of s) in
      let l₁ : length o₁ ≡ length out = ap length e₁ ∙ length-paste out (4 * at) (ft ∷ fu ∷ 0 ∷ next ∷ []) 4 (omega (arith, f.size)) (omega arith) in
      let lT = length-map s.T terms in
      let lU = length-map s.Q terms in
      let ends : skip_to v from_t (t_in w i) ≡ i + size_of s = ap (λ (n : ℕ). skip_to v n (t_in w i)) from ∙ f.end_t in
      let back : from_t ≡ i + 1 + polynomials_size U = from ∙ f.end_u in
      let lHT : length HT ≡ 4 * (skip_to v from_t (t_in w i) - from_t) = omega (arith, length_heads (at + 1) T, f.size) in
      let lHU : length HU ≡ 4 * (skip_to v (i + 1) (u_in w i) - (i + 1)) = omega (arith, length_heads to U, f.end_u) in
      let sa : at + 1 ≡ suc at = omega arith in
      let st : to ≡ suc at + polynomials_size T = omega (arith, f.size) in
      let it : ft ≡ index_of T (suc at) = index_is T (suc at) ft (λ h. omega (arith, some_t (omega (arith, f.t_is)))) (λ h. no_t (omega (arith, f.t_is))) in
      let iu : fu ≡ index_of U (suc at + polynomials_size T) =
      index_is U (suc at + polynomials_size T) fu (λ h. omega (arith, some_u (omega (arith, f.u_is)))) (λ h. no_u (omega (arith, f.u_is))) in
      let polys_t : polys_at v from_t (t_in w i) ≡ s.T = ap (λ (n : ℕ). polys_at v n (t_in w i)) from ∙ f.polys_t in
      let o₂_is : o₂ ≡ over o₁ (4 * (at + 1)) HT =
      e₂ ∙ ap (λ (fs : List (List Packed)). paste o₁ (4 * (at + 1)) (heads_words (at + 1) (map terms fs)) (4 * (skip_to v from_t (t_in w i) - from_t))) polys_t
      ∙ paste_over o₁ (4 * (at + 1)) HT (4 * (skip_to v from_t (t_in w i) - from_t)) lHT in
      let o₃_is : o₃ ≡ over o₂ (4 * to) HU =
      e₃ ∙ ap (λ (fs : List (List Packed)). paste o₂ (4 * to) (heads_words to (map terms fs)) (4 * (skip_to v (i + 1) (u_in w i) - (i + 1)))) f.polys_u
      ∙ paste_over o₂ (4 * to) HU (4 * (skip_to v (i + 1) (u_in w i) - (i + 1))) lHU in
      o₃_is ∙ ap (λ (l : List ℕ). over l (4 * to) HU) o₂_is
      ∙ over_behind o₁ (4 * (at + 1)) HT (4 * to) HU (omega arith) (omega (arith, f.size))
      ∙ ap (λ (l : List ℕ). over l (4 * (at + 1)) (HT ++ HU)) e₁
      ∙ record_behind out at (at + 1) ft fu 0 next (HT ++ HU) refl (omega (arith, f.size))
      ∙ (λ t. over out (4 * at) (it t ∷ iu t ∷ 0 ∷ next ∷ (heads_words (sa t) T ++ heads_words (st t) U)))
      ∙ sym (paste_over out (4 * at) S (4 * size_of s) (length_system at next (system_of s)))
