-- The systems that the work area holds: how many records their list needs, and that the records tell whether each was listed.
use mathlib.Core.Path.{◌≡◌, refl, sym, ap, ◌∙◌}
use mathlib.Core.List.{List, [], ◌∷◌, ◌++◌, map, reverse, append_assoc}
use Prim.Native.Nat.{ℕ, ◌+◌, ◌-◌}
use native.Mathlib.Omega.{arith}
use lib.ListN.{length, get_or, drop, length-append}
use lib.Seq.{drop_at}
use Rattle.records.specs.Records.{Rec, record_of, zero_record}
use Rattle.stored.specs.Stored.{polys_records, skip_to}
use Rattle.stored.specs.laws.Stored.{polys_records_append, skip_to_polys_records}
use Rattle.rules.specs.Written.{list_records}
use Rattle.branches.specs.declared.Listed.{Listed}
use Rattle.branches.specs.Area.{Stored, Held, branch_records, systems_records}
use Rattle.branches.specs.Listed.{listed_of}
use Rattle.branches.proofs.ControlLaws.{top_is}
use Rattle.representation.specs.Represent.{AllListed, system_of}
use Rattle.representation.specs.laws.Sizes.{length_systems_records, systems_size_reverse}
use Rattle.polynomials.specs.declared.Term.{Term as Packed}

-- ── the records of one system ──
-- Its polynomials, in the order of their records.
abbrev polynomials : Stored → List (List Packed)
polynomials b = b.P ++ (b.Q ++ b.T)

abbrev own : Stored → Rec
own b = record_of (length b.P) (length b.Q) (length b.T) 0

records_are : (b : Stored) → branch_records 0 b ≡ own b ∷ polys_records (polynomials b)
records_are b =
    ap (λ (l : List Rec). own b ∷ l)
    (ap (λ (l : List Rec). polys_records b.P ++ l) (sym (polys_records_append b.Q b.T)) ∙ sym (polys_records_append b.P (b.Q ++ b.T)))

count : (b : Stored) → length (polynomials b) ≡ (own b).w0 + ((own b).w1 + (own b).w2)
count b = omega (arith, length-append b.P (b.Q ++ b.T), length-append b.Q b.T)

-- Where they end.
ends : (x post : List Rec) (b : Stored) → x ≡ branch_records 0 b ++ post → skip_to x 1 (length (polynomials b)) ≡ length (branch_records 0 b)
ends x post b e =
    let skip = skip_to_polys_records x (own b ∷ []) 1 (polynomials b) post refl (e ∙ ap (λ (l : List Rec). l ++ post) (records_are b)) in
    omega (arith, skip, ap length (records_are b))

module _ (b b' : Stored) (post post' : List Rec) (e : branch_records 0 b ++ post ≡ branch_records 0 b' ++ post') where
  same_own : own b ≡ own b'
  same_own = ap (λ (l : List Rec). get_or l 0 zero_record) e

  same_long : length (branch_records 0 b) ≡ length (branch_records 0 b')
  same_long =
      sym (ends (branch_records 0 b ++ post) post b refl)
      ∙ ap (skip_to (branch_records 0 b ++ post) 1) (count b ∙ ap (λ (r : Rec). r.w0 + (r.w1 + r.w2)) same_own ∙ sym (count b'))
      ∙ ends (branch_records 0 b ++ post) post' b' e

  same_rest : post ≡ post'
  same_rest =
      sym (drop_at (branch_records 0 b) post (length (branch_records 0 b)) refl)
      ∙ ap (drop (length (branch_records 0 b))) e
      ∙ drop_at (branch_records 0 b') post' (length (branch_records 0 b)) (sym same_long)

none : (fs : List (List Packed)) → length fs ≡ 0 → fs ≡ []
none [] e = refl
none (f ∷ fs) e = absurd (omega arith)

-- ── the systems ──
listed_same : (ss ss' : List Stored) (post post' : List Rec) → length ss ≡ length ss' → systems_records ss ++ post ≡ systems_records ss' ++ post'
    → AllListed ss → AllListed ss'
unfolding systems_records
listed_same ss [] post post' n e h = tt
listed_same [] (s' ∷ ss') post post' n e h = absurd (omega arith)
listed_same (s ∷ ss) (s' ∷ ss') post post' n e h =
    let parts : branch_records 0 s ++ (systems_records ss ++ post) ≡ branch_records 0 s' ++ (systems_records ss' ++ post') =
    sym (append_assoc (branch_records 0 s) (systems_records ss) post) ∙ e ∙ append_assoc (branch_records 0 s') (systems_records ss') post' in
    let same = same_own s s' (systems_records ss ++ post) (systems_records ss' ++ post') parts in (
      none s'.P (sym (ap (λ (r : Rec). r.w0) same) ∙ ap length h.0),
      listed_same ss ss' post post' (omega arith) (same_rest s s' (systems_records ss ++ post) (systems_records ss' ++ post') parts) h.1,
    )

module _ {v : List Rec} {most : ℕ} {ss : List Stored} (h : Held v most (record { branches = []; systems = ss })) where
  control : get_or v 0 zero_record ≡ record_of 0 1 (1 + 0 + length h.free) (length ss)
  control = ap (λ (l : List Rec). get_or l 0 zero_record) h.is

  systems_from : (n : ℕ) → n ≡ 1 + length h.free → drop n v ≡ systems_records ss ++ h.beyond
  systems_from n e =
      ap (drop n) h.is
      ∙ drop_at (record_of 0 1 (1 + 0 + length h.free) (length ss) ∷ h.free) (systems_records ss ++ h.beyond) n (omega arith)

  pub records_needed : {l : Listed} → l ≡ listed_of most (record { branches = []; systems = ss }) → AllListed ss
      → 1 + (most - l.top) ≡ list_records (reverse (map system_of ss))
  unfolding list_records
  records_needed e a = omega (arith, top_is h e, h.fits, length_systems_records ss a, systems_size_reverse (map system_of ss))

pub listed_known : {v : List Rec} {most : ℕ} {ss ss' : List Stored} → Held v most (record { branches = []; systems = ss })
    → Held v most (record { branches = []; systems = ss' }) → AllListed ss → AllListed ss'
listed_known {v} {most} {ss} {ss'} h h' l =
    let same = sym (control h) ∙ control h' in
    let top = ap (λ (r : Rec). r.w2) same in
    listed_same ss ss' h.beyond h'.beyond (ap (λ (r : Rec). r.w3) same)
    (sym (systems_from h (1 + length h.free) refl) ∙ systems_from h' (1 + length h.free) (omega arith)) l
