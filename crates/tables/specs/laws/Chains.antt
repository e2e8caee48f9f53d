-- The header of a table, and its chains, step by step. Terms, heads, T chains and systems are read in one way, so the laws are said once, of any chain.
use Rattle.std.specs.Prelude.{◌≡◌, refl, ◌≢◌, Bool, true, false, not, ◌&&◌, ◌||◌, List, [], ◌∷◌, ℕ, zero, suc, ◌+◌, ◌-◌, ◌*◌, ◌%◌, ◌≤◌, ◌<◌, eqb, ltb, length, Option, None, Some, Result, Ok, Err}
use Rattle.std.proofs.Common.{sym, ◌∙◌, arith}
use Rattle.std.proofs.Math.Path.{ap, fun_ext}
use Rattle.std.proofs.Math.Bool.{and-eq-true_iff}
use borrow.Author.Tests.{ltb-true, lt-ltb, eqb-true, eq-eqb, ne_eqb, eqb-false, leb-true, leb-false, not-false}
use Rattle.std.proofs.Math.Dec.{leb}
use Rattle.residues.specs.Prime.{is_modulus}
use Rattle.polynomials.specs.Poly.{Term, Poly}
use Rattle.polynomials.specs.Division.{leader}
use Rattle.polynomials.specs.laws.Bounds.{or_false_both}
use Rattle.tables.specs.declared.Reason.{Reason}
use Rattle.tables.specs.declared.Reason.TheVariants.{Shape, Prime, Variables, Index, Coefficient, Exponent, Order, Terms, Broken}
use Rattle.tables.specs.declared.Astray.{Astray}
use Rattle.tables.specs.declared.Refusal.{Refusal}
use Rattle.tables.specs.Words.{word, records, is_whole, follow, Followed, end, to, astray, term_at}
use Rattle.tables.specs.Read.{Read, good, refused, then, unless, Input, Before, after, not_below, has_above}
use Rattle.tables.specs.Read.{read_term, read_terms, read_head, read_heads, read_triangle, read_system, read_systems, read_header}
use Rattle.tables.specs.Solve.{refusal, checked}
use Rattle.tables.specs.Walk.{Readable, accepted, next, next_from}

-- ── what was read ──
pub checked_good : {A : Type 0} (r : Read A) → checked r ≡ Ok tt → (a : A) × (r ≡ good a)
checked_good (good a) e = (a, refl)
checked_good (refused why at) e = cc

pub checked_refused : {A : Type 0} (r : Read A) {e : Refusal} → checked r ≡ Err e → r ≡ refused e.reason e.at
checked_refused (good a) e = cc
checked_refused (refused why at) e = cc

-- What was read passed the test.
pub unless_good : {A : Type 0} (b : Bool) (why : Reason) (at : ℕ) (r : Read A) {a : A} → unless b why at r ≡ good a → (b ≡ false) × (r ≡ good a)
unless_good true why at r e = let z : ◌≡◌ {A = ℕ} 0 1 = cc in absurd (omega arith)
unless_good false why at r e = (refl, e)

pub unless_not_good : {A : Type 0} (b : Bool) (why : Reason) (at : ℕ) (r : Read A) {a : A} → unless (not b) why at r ≡ good a → (b ≡ true) × (r ≡ good a)
unless_not_good b why at r e = let k = unless_good (not b) why at r e in (not-false b k.0, k.1)

pub then_good : {A B : Type 0} (r : Read A) (k : A → Read B) {b : B} → then r k ≡ good b → (a : A) × (r ≡ good a) × (k a ≡ good b)
then_good (good a) k e = (a, refl, e)
then_good (refused why at) k e = let z : ◌≡◌ {A = ℕ} 0 1 = cc in absurd (omega arith)

-- ── the header ──
header_tests : (a b c : Bool) → checked (unless a Shape 0 (unless b Prime 0 (unless c Variables 0 accepted))) ≡ Ok tt → (a ≡ false) × (b ≡ false) × (c ≡ false)
header_tests true b c e = let z : ◌≡◌ {A = ℕ} 0 1 = cc in absurd (omega arith)
header_tests false true c e = let z : ◌≡◌ {A = ℕ} 0 1 = cc in absurd (omega arith)
header_tests false false true e = let z : ◌≡◌ {A = ℕ} 0 1 = cc in absurd (omega arith)
header_tests false false false e = (refl, refl, refl)

-- What was read behind a header: the header was accepted.
pub header_read : {A : Type 0} (w : List ℕ) (r : Read A) (a : A) → read_header w r ≡ good a → Readable w (word w 0 0) (word w 0 1) × (r ≡ good a)
unfolding read_header
header_read w r a e =
    let e₁ = unless_not_good (is_whole w) Shape 0 _ e in
    let e₂ = unless_not_good (is_modulus (word w 0 0)) Prime 0 _ e₁.1 in
    let e₃ = unless_not_good (leb 1 (word w 0 1) && leb (word w 0 1) 8) Variables 0 r e₂.1 in
    let v = (and-eq-true_iff (leb 1 (word w 0 1)) (leb (word w 0 1) 8)).0 e₃.0 in
    (record { whole = e₁.0; prime = e₂.0; some = leb-true 1 (word w 0 1) v.0; few = leb-true (word w 0 1) 8 v.1 }, e₃.1)

pub header_readable : (w : List ℕ) → checked (read_header w accepted) ≡ Ok tt → Readable w (word w 0 0) (word w 0 1)
header_readable w e = let g = checked_good (read_header w accepted) e in (header_read w accepted g.0 g.1).0

-- What is read behind an accepted header is what follows it.
pub header_passes : {A : Type 0} (w : List ℕ) (r : Read A) → checked (read_header w accepted) ≡ Ok tt → read_header w r ≡ r
unfolding read_header
header_passes w r e =
    let h = header_tests (not (is_whole w)) (not (is_modulus (word w 0 0))) (not (leb 1 (word w 0 1) && leb (word w 0 1) 8)) e in
    rw (h.0, h.1, h.2)

-- A refused header refuses what follows.
pub header_refuses : {A : Type 0} (w : List ℕ) (r : Read A) {e : Refusal} → checked (read_header w accepted) ≡ Err e → read_header w r ≡ refused e.reason e.at
unfolding read_header
header_refuses {A} w r {e} = go (not (is_whole w)) (not (is_modulus (word w 0 0))) (not (leb 1 (word w 0 1) && leb (word w 0 1) 8))
  where
    go : (a b c : Bool) → checked (unless a Shape 0 (unless b Prime 0 (unless c Variables 0 accepted))) ≡ Err e
        → unless a Shape 0 (unless b Prime 0 (unless c Variables 0 r)) ≡ refused e.reason e.at
    go true b c e = cc
    go false true c e = cc
    go false false true e = cc
    go false false false e = let z : ◌≡◌ {A = ℕ} 0 1 = cc in absurd (omega arith)

-- Whole records.
pub whole_records : (w : List ℕ) → is_whole w ≡ true → (length w ≡ 4 * records w) × (1 ≤ records w) × (records w ≤ 65536)
unfolding is_whole
whole_records w e =
    let a = (and-eq-true_iff (eqb (length w % 4) 0) _).0 e in
    let b = (and-eq-true_iff (leb 1 (records w)) (leb (records w) 65536)).0 a.1 in
    (omega (arith, eqb-true (length w % 4) 0 a.0), leb-true 1 (records w) b.0, leb-true (records w) 65536 b.1)

pub readable_words : {w : List ℕ} {p n : ℕ} → Readable w p n → 4 ≤ length w
readable_words {w} r = let h = whole_records w r.whole in omega arith

-- ── an index followed ──
abbrev by_tests : Bool → Bool → ℕ → Followed
by_tests true b i = end
by_tests false true i = to i
by_tests false false i = astray

follow_tests : (w : List ℕ) (at i : ℕ) → follow w at i ≡ by_tests (eqb i 0) (ltb at i && ltb i (records w)) i
unfolding follow
follow_tests w at i = go (eqb i 0) (ltb at i && ltb i (records w))
  where
    go : (a b : Bool) → ◌≡◌ {A = Followed} (elim a [ true ↦ end | false ↦ elim b [ true ↦ to i | false ↦ astray ] ]) (by_tests a b i)
    go true b = refl
    go false true = refl
    go false false = refl

pub follow_end : (w : List ℕ) (at i : ℕ) → i ≡ 0 → follow w at i ≡ end
follow_end w at i e = follow_tests w at i ∙ rw (eq-eqb i 0 e)

pub follow_to : (w : List ℕ) (at i : ℕ) → at < i → i < records w → follow w at i ≡ to i
follow_to w at i h l = follow_tests w at i ∙ rw (ne_eqb i 0 (λ e. omega arith), lt-ltb at i h, lt-ltb i (records w) l)

pub follow_astray : (w : List ℕ) (at i : ℕ) → (i ≡ 0 → ⊥) → ltb at i && ltb i (records w) ≡ false → follow w at i ≡ astray
follow_astray w at i h e = follow_tests w at i ∙ rw (ne_eqb i 0 h, e)

-- An index leads to a higher record of the table.
followed : (w : List ℕ) (at i j : ℕ) → follow w at i ≡ to j → (i ≡ j) × (at < j) × (j < records w)
followed w at i j e = go (eqb i 0) (ltb at i) (ltb i (records w)) (ltb-true at i) (ltb-true i (records w)) (sym (follow_tests w at i) ∙ e)
  where
    go : (a b c : Bool) → (b ≡ true → at < i) → (c ≡ true → i < records w) → by_tests a (b && c) i ≡ to j → (i ≡ j) × (at < j) × (j < records w)
    go true b c u v e = let z : ◌≡◌ {A = ℕ} 0 1 = cc in absurd (omega arith)
    go false true true u v e = let q : i ≡ j = cc in (q, omega (arith, u refl), omega (arith, v refl))
    go false true false u v e = let z : ◌≡◌ {A = ℕ} 0 1 = cc in absurd (omega arith)
    go false false c u v e = let z : ◌≡◌ {A = ℕ} 0 1 = cc in absurd (omega arith)

followed_end : (w : List ℕ) (at i : ℕ) → follow w at i ≡ end → i ≡ 0
followed_end w at i e = go (eqb i 0) (ltb at i && ltb i (records w)) (eqb-true i 0) (sym (follow_tests w at i) ∙ e)
  where
    go : (a b : Bool) → (a ≡ true → i ≡ 0) → by_tests a b i ≡ end → i ≡ 0
    go true b u e = u refl
    go false true u e = let z : ◌≡◌ {A = ℕ} 0 1 = cc in absurd (omega arith)
    go false false u e = let z : ◌≡◌ {A = ℕ} 0 1 = cc in absurd (omega arith)

pub next_end : (f : Followed) → next f ≡ Ok None → f ≡ end
next_end end e = refl
next_end (to j) e = cc
next_end astray e = cc

pub next_to : (f : Followed) {j : ℕ} → next f ≡ Ok (Some j) → f ≡ to j
next_to end e = cc
next_to (to j) e = cc
next_to astray e = cc

pub next_astray : (f : Followed) {a : Astray} → next f ≡ Err a → f ≡ astray
next_astray end e = cc
next_astray (to j) e = cc
next_astray astray e = refl

pub next_from_end : (at : ℕ) (f : Followed) → next_from at f ≡ Ok None → f ≡ end
next_from_end at end e = refl
next_from_end at (to j) e = cc
next_from_end at astray e = cc

pub next_from_to : (at : ℕ) (f : Followed) {j : ℕ} → next_from at f ≡ Ok (Some j) → f ≡ to j
next_from_to at end e = cc
next_from_to at (to j) e = cc
next_from_to at astray e = cc

pub next_inside : (w : List ℕ) (at i j : ℕ) → next_from at (follow w at i) ≡ Ok (Some j) → (at < j) × (j < records w)
next_inside w at i j e = let q = followed w at i j (next_from_to at (follow w at i) e) in (q.1, q.2)

-- How many records are left from where an index leads: none where it leads to no record.
abbrev pub left : List ℕ → Option ℕ → ℕ
left w None = 0
left w (Some j) = records w - j

pub left_less : (w : List ℕ) (i j : ℕ) (next before : Option ℕ) → before ≡ Some j → j < records w → Ok next ≡ next_from j (follow w j i) → left w next < left w before
left_less w i j None before b h e = rw b (omega arith)
left_less w i j (Some k) before b h e = let q = next_inside w j i k (sym e) in rw b (omega (arith, q.0))

-- A refusal is that of an index astray.
pub next_from_astray : (at : ℕ) (f : Followed) {r : Refusal} → next_from at f ≡ Err r → (f ≡ astray) × (r ≡ refusal Index at)
next_from_astray at end e = cc
next_from_astray at (to j) e = cc
next_from_astray at astray e = (refl, cc)

-- ── chains ──
-- The first member, then the others.
abbrev pub cons : {A : Type 0} → Read A → (A → Read (List A)) → Read (List A)
cons r k = then r (λ a. then (k a) (λ ms. good (a ∷ ms)))

cons_checked : {A : Type 0} (a : A) (r : Read (List A)) → checked (then r (λ ms. good (a ∷ ms))) ≡ checked r
cons_checked a (good ms) = refl
cons_checked a (refused why at) = refl

cons_same : {A : Type 0} (r : Read A) (k l : A → Read (List A)) → ((a : A) → k a ≡ l a) → cons r k ≡ cons r l
cons_same (good a) k l h = ap (λ x. then x (λ ms. good (a ∷ ms))) (h a)
cons_same (refused why at) k l h = refl

cons_good : {A : Type 0} (a : A) (r : Read (List A)) {ms : List A} → then r (λ ms. good (a ∷ ms)) ≡ good ms → (b : List A) × (r ≡ good b) × (ms ≡ a ∷ b)
cons_good a (good b) e = (b, refl, cc)
cons_good a (refused why at) e = let z : ◌≡◌ {A = ℕ} 0 1 = cc in absurd (omega arith)

-- What an index that record `at` holds leads to: the end, a member and the others, or a refusal.
abbrev pub along : {A : Type 0} → ℕ → Followed → (ℕ → Read (List A)) → Read (List A)
along at end k = good []
along at (to j) k = k j
along at astray k = refused Index at

-- X reads a chain: with s kept of the members before, `step` reads a member and `on` keeps what the others need of it.
pub record Chain {A S : Type 0} (w : List ℕ) (step : S → ℕ → Read A) (on : S → A → S) (X : ℕ → S → ℕ → ℕ → Read (List A)) : Type 0 where
  pub none : (s : S) (at i : ℕ) → X zero s at i ≡ good []
  pub some : (fuel : ℕ) (s : S) (at i : ℕ) → X (suc fuel) s at i ≡ along at (follow w at i) (λ j. cons (step s j) (λ a. X fuel (on s a) j (word w j 3)))

-- Record `at` is in the table, and the fuel lasts from there to its end.
pub record Enough (w : List ℕ) (at fuel : ℕ) : Type 0 where
  pub inside : at < records w
  pub lasts : records w ≤ at + fuel

pub whole_chain : (w : List ℕ) (at : ℕ) → at < records w → Enough w at (records w)
whole_chain w at h = record { inside = h; lasts = omega arith }

module _ {A S : Type 0} {w : List ℕ} {step : S → ℕ → Read A} {on : S → A → S} {X : ℕ → S → ℕ → ℕ → Read (List A)} (C : Chain w step on X) where
  -- What `follow` says decides.
  pub chain_ends : (fuel : ℕ) (s : S) (at i : ℕ) → follow w at i ≡ end → X fuel s at i ≡ good []
  chain_ends zero s at i e = C.none s at i
  chain_ends (suc fuel) s at i e = C.some fuel s at i ∙ rw e

  pub chain_strays : {fuel : ℕ} (s : S) (at i : ℕ) → Enough w at fuel → follow w at i ≡ astray → X fuel s at i ≡ refused Index at
  chain_strays {fuel = zero} s at i h e = absurd (omega arith)
  chain_strays {fuel = suc fuel} s at i h e = C.some fuel s at i ∙ rw e

  pub chain_leads : {fuel : ℕ} (s : S) (at i : ℕ) {j : ℕ} → Enough w at fuel → follow w at i ≡ to j
      → (f : ℕ) × Enough w j f × (X fuel s at i ≡ cons (step s j) (λ a. X f (on s a) j (word w j 3)))
  chain_leads {fuel = zero} s at i h e = absurd (omega arith)
  chain_leads {fuel = suc fuel} s at i {j} h e =
      let q = followed w at i j e in
      (fuel, record { inside = q.2; lasts = omega (arith, q.1) }, C.some fuel s at i ∙ rw e)

  -- The fuel does not matter once it is enough.
  pub any_fuel : (f g : ℕ) (s : S) (at i : ℕ) → Enough w at f → Enough w at g → X f s at i ≡ X g s at i
  any_fuel zero g s at i h k = absurd (omega arith)
  any_fuel (suc f) zero s at i h k = absurd (omega arith)
  any_fuel (suc f) (suc g) s at i h k =
      C.some f s at i ∙ go (λ s at i. any_fuel f g s at i) (follow w at i) refl ∙ sym (C.some g s at i)
    where
      go : ((s : S) (at i : ℕ) → Enough w at f → Enough w at g → X f s at i ≡ X g s at i) → (x : Followed) → follow w at i ≡ x
          → along at x (λ j. cons (step s j) (λ a. X f (on s a) j (word w j 3))) ≡ along at x (λ j. cons (step s j) (λ a. X g (on s a) j (word w j 3)))
      go ih end e = refl
      go ih (to j) e =
          let q = followed w at i j e in
          cons_same (step s j) _ _ (λ a. ih (on s a) j (word w j 3) (record { inside = q.2; lasts = omega (arith, q.1) }) (record { inside = q.2; lasts = omega (arith, q.1) }))
      go ih astray e = refl

  -- ── a loop that checks a chain ──
  -- What is read from here decides what is read of the whole chain.
  pub record Reached (s : S) (at i : ℕ) (whole : Result (Unit {0}) Refusal) : Type 0 where
    pub fuel : ℕ
    pub enough : Enough w at fuel
    pub same : checked (X fuel s at i) ≡ whole

  pub reached_first : (s : S) (at i : ℕ) → at < records w → Reached s at i (checked (X (records w) s at i))
  reached_first s at i h = record { fuel = records w; enough = whole_chain w at h; same = refl }

  pub reached_end : {s : S} {at i : ℕ} {whole : Result (Unit {0}) Refusal} → Reached s at i whole → next_from at (follow w at i) ≡ Ok None → Ok tt ≡ whole
  reached_end {s} {at} {i} r e = sym (ap checked (chain_ends r.fuel s at i (next_from_end at (follow w at i) e))) ∙ r.same

  pub reached_astray : {s : S} {at i : ℕ} {e : Refusal} {whole : Result (Unit {0}) Refusal} → Reached s at i whole → next_from at (follow w at i) ≡ Err e → Err e ≡ whole
  reached_astray {s} {at} {i} {e} r h =
      let a = next_from_astray at (follow w at i) h in ap Err a.1 ∙ sym (ap checked (chain_strays s at i r.enough a.0)) ∙ r.same

  pub reached_refused : {s : S} {at i j : ℕ} {e : Refusal} {whole : Result (Unit {0}) Refusal} → Reached s at i whole → next_from at (follow w at i) ≡ Ok (Some j)
      → checked (step s j) ≡ Err e → Err e ≡ whole
  reached_refused {s} {at} {i} {j} r e h =
      let u = chain_leads s at i r.enough (next_from_to at (follow w at i) e) in
      sym (ap checked (u.2 ∙ ap (λ x. cons x (λ a. X u.0 (on s a) j (word w j 3))) (checked_refused (step s j) h))) ∙ r.same

  pub reached_on : {s : S} {at i j : ℕ} {a : A} {whole : Result (Unit {0}) Refusal} → Reached s at i whole → next_from at (follow w at i) ≡ Ok (Some j)
      → step s j ≡ good a → Reached (on s a) j (word w j 3) whole
  reached_on {s} {at} {i} {j} {a} r e h =
      let u = chain_leads s at i r.enough (next_from_to at (follow w at i) e) in
      record {
        fuel = u.0;
        enough = u.1;
        same = sym (ap checked (u.2 ∙ ap (λ x. cons x (λ a. X u.0 (on s a) j (word w j 3))) h) ∙ cons_checked a (X u.0 (on s a) j (word w j 3))) ∙ r.same;
      }

  -- An index was followed, and leads to `next`.
  pub record Leads (s : S) (next : Option ℕ) (whole : Result (Unit {0}) Refusal) : Type 0 where
    pub at : ℕ
    pub index : ℕ
    pub reached : Reached s at index whole
    pub leads : next_from at (follow w at index) ≡ Ok next

  pub leads_end : {s : S} {next : Option ℕ} {whole : Result (Unit {0}) Refusal} → Leads s next whole → next ≡ None → Ok tt ≡ whole
  leads_end l e = reached_end l.reached (rw (← e) l.leads)

  pub leads_inside : {s : S} {next : Option ℕ} {j : ℕ} {whole : Result (Unit {0}) Refusal} → Leads s next whole → next ≡ Some j → j < records w
  leads_inside {j = j} l e = (next_inside w l.at l.index j (rw (← e) l.leads)).1

  pub leads_refused : {s : S} {next : Option ℕ} {j : ℕ} {e : Refusal} {whole : Result (Unit {0}) Refusal} → Leads s next whole → next ≡ Some j
      → Err e ≡ checked (step s j) → Err e ≡ whole
  leads_refused l n h = reached_refused l.reached (rw (← n) l.leads) (sym h)

  -- The member that it leads to was read: the index there is the next.
  pub leads_on : {s : S} {next : Option ℕ} {j : ℕ} {a : A} {whole : Result (Unit {0}) Refusal} → Leads s next whole → next ≡ Some j
      → step s j ≡ good a → Reached (on s a) j (word w j 3) whole
  leads_on l n h = reached_on l.reached (rw (← n) l.leads) h

  -- That index was followed.
  pub leads_from : {s : S} {at i : ℕ} {next : Option ℕ} {whole : Result (Unit {0}) Refusal} → Reached s at i whole → Ok next ≡ next_from at (follow w at i)
      → Leads s next whole
  leads_from {at = at} {i} r e = record { at = at; index = i; reached = r; leads = sym e }

  pub strays_from : {s : S} {at i : ℕ} {e : Refusal} {whole : Result (Unit {0}) Refusal} → Reached s at i whole → Err e ≡ next_from at (follow w at i) → Err e ≡ whole
  strays_from r e = reached_astray r (sym e)

  -- ── a walk along a chain that was read ──
  -- Index i is not 0: it leads to a member, and the others follow.
  pub record Opened (s : S) (at i : ℕ) (ms : List A) : Type 0 where
    pub fuel : ℕ
    pub enough : Enough w i fuel
    pub above : at < i
    pub member : A
    pub others : List A
    pub split : ms ≡ member ∷ others
    pub read : step s i ≡ good member
    pub rest : X fuel (on s member) i (word w i 3) ≡ good others

  pub closes : (fuel : ℕ) (s : S) (at i : ℕ) {ms : List A} → X fuel s at i ≡ good ms → i ≡ 0 → ms ≡ []
  closes fuel s at i e z = let h = sym (chain_ends fuel s at i (follow_end w at i z)) ∙ e in cc

  pub opens : {fuel : ℕ} {s : S} {at i : ℕ} {ms : List A} → Enough w at fuel → X fuel s at i ≡ good ms → (i ≡ 0 → ⊥) → Opened s at i ms
  opens {fuel} {s} {at} {i} {ms} h e n = go (follow w at i) refl
    where
      go : (x : Followed) → follow w at i ≡ x → Opened s at i ms
      go end q = absurd (n (followed_end w at i q))
      go astray q = let c = sym (chain_strays s at i h q) ∙ e in let z : ◌≡◌ {A = ℕ} 0 1 = cc in absurd (omega arith)
      go (to j) q =
          let l = followed w at i j q in
          let u = chain_leads s at i h (q ∙ ap to (sym l.0)) in
          let g = then_good (step s i) _ (sym u.2 ∙ e) in
          let o = cons_good g.0 (X u.0 (on s g.0) i (word w i 3)) g.2 in
          record {
            fuel = u.0;
            enough = u.1;
            above = omega (arith, l.0, l.1);
            member = g.0;
            others = o.0;
            split = o.2;
            read = g.1;
            rest = o.1;
          }

-- ── the four chains ──
by_cases : {A : Type 0} (at : ℕ) (x : Followed) (k : ℕ → Read (List A)) → elim x [ end ↦ good [] | to j ↦ k j | astray ↦ refused Index at ] ≡ along at x k
by_cases at end k = refl
by_cases at (to j) k = refl
by_cases at astray k = refl

-- A test between a member and the others belongs to the member.
unless_then : {A B : Type 0} (b : Bool) (why : Reason) (at : ℕ) (a : A) (k : A → Read B) → unless b why at (k a) ≡ then (unless b why at (good a)) k
unless_then true why at a k = refl
unless_then false why at a k = refl

tested : {A B : Type 0} (r : Read A) (b : A → Bool) (why : Reason) (at : ℕ) (k : A → Read B)
    → then r (λ a. unless (b a) why at (k a)) ≡ then (then r (λ a. unless (b a) why at (good a))) k
tested (good a) b why at k = unless_then (b a) why at a k
tested (refused y m) b why at k = refl

module _ (w : List ℕ) (p n : ℕ) where
  -- What a term needs of those before: how many they are, and the last one's exponents.
  pub terms_chain :
      Chain {S = ℕ × Before} w (λ s j. read_term w p n s.0 s.1 j) (λ s t. (suc s.0, after t.exps))
      (λ fuel s at i. read_terms w p n fuel s.0 s.1 at i)
  unfolding read_terms
  terms_chain = record { none = λ s at i. refl; some = λ fuel s at i. by_cases at (follow w at i) _ }

  pub heads_chain : Chain {S = Unit {0}} w (λ s j. read_head w p n j) (λ s f. s) (λ fuel s at i. read_heads w p n fuel at i)
  unfolding read_heads
  heads_chain = record { none = λ s at i. refl; some = λ fuel s at i. by_cases at (follow w at i) _ }

  -- A polynomial of T, led by a variable above the last.
  abbrev pub read_led : ℕ → ℕ → Read Poly
  read_led last j = then (read_head w p n j) (λ f. unless (leb (leader f) last) Broken j (good f))

  pub triangle_chain : Chain w read_led (λ last f. leader f) (λ fuel last at i. read_triangle w p n fuel last at i)
  unfolding read_triangle
  triangle_chain =
      record {
        none = λ last at i. refl;
        some = λ fuel last at i. by_cases at (follow w at i) _
            ∙ ap (along at (follow w at i)) (fun_ext (λ j. tested (read_head w p n j) (λ f. leb (leader f) last) Broken j _));
      }

  pub systems_chain : Chain {S = Unit {0}} w (λ s j. read_system w p n j) (λ s y. s) (λ fuel s at i. read_systems w p n fuel at i)
  unfolding read_systems
  systems_chain = record { none = λ s at i. refl; some = λ fuel s at i. by_cases at (follow w at i) _ }

  -- A term that was read.
  pub record TermRead (m : ℕ) (b : Before) (i : ℕ) (t : Term) : Type 0 where
    pub few : m < 256
    pub some : word w i 0 ≢ 0
    pub residue : word w i 0 < p
    pub within : has_above n (term_at w i).exps ≡ false
    pub falls : not_below (term_at w i).exps b ≡ false
    pub is : t ≡ term_at w i

  pub term_read : {m : ℕ} {b : Before} {i : ℕ} {t : Term} → read_term w p n m b i ≡ good t → TermRead m b i t
  unfolding read_term
  term_read {m} {b} {i} e =
      let e₁ = unless_good (leb 256 m) Terms i _ e in
      let e₂ = unless_good (eqb (word w i 0) 0 || leb p (word w i 0)) Coefficient i _ e₁.1 in
      let e₃ = unless_good (has_above n (term_at w i).exps) Exponent i _ e₂.1 in
      let e₄ = unless_good (not_below (term_at w i).exps b) Order i _ e₃.1 in
      let c = or_false_both (eqb (word w i 0) 0) (leb p (word w i 0)) e₂.0 in
      let q = e₄.1 in
      record {
        few = leb-false 256 m e₁.0;
        some = eqb-false (word w i 0) 0 c.0;
        residue = leb-false p (word w i 0) c.1;
        within = e₃.0;
        falls = e₄.0;
        is = cc;
      }
