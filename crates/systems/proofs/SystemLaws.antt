-- A system read, systems counted, and a list by its systems.
use Rattle.std.specs.Prelude.{◌≡◌, ◌≢◌, refl, List, ◌∷◌, ℕ, ◌+◌, ◌≤◌, ◌<◌, length, Option, None, Some, Result, Ok, Err}
use Rattle.std.proofs.Common.{sym, ◌∙◌, ap, subst, arith, le-leb, eq-eqb, ne_eqb}
use borrow.Author.Tests.{lt-leb}
use Rattle.polynomials.specs.Poly.{Term, Poly}
use Rattle.polynomials.specs.Packed.{exponents}
use Rattle.polynomials.specs.Division.{degrees, highest, leader}
use Rattle.polynomials.specs.laws.Parts.{leader_first}
use Rattle.tables.specs.declared.Reason.TheVariants.{Broken}
use Rattle.tables.specs.declared.Refusal.{Refusal}
use Rattle.tables.specs.Words.{word, records, follow}
use Rattle.tables.specs.Read.{Read, good, refused, then, System, Listing, read_header, read_head, read_heads, read_triangle, read_system, read_systems, read_list}
use Rattle.tables.specs.Solve.{refusal, checked}
use Rattle.tables.specs.Walk.{accepted, next_from}
use Rattle.tables.specs.Admissible.{Admissible}
use Rattle.tables.specs.laws.Chains.{checked_good, checked_refused, header_passes, header_refuses, next_inside, next_from_end, next_from_to, next_from_astray, term_read}
use Rattle.tables.specs.laws.Chains.{cons, Enough, whole_chain, chain_ends, chain_strays, chain_leads, Reached, Leads, leads_refused, leads_on, read_led, triangle_chain, systems_chain}
use Rattle.tables.specs.laws.Linked.{chain_end, chain_next, terms_left}
use Rattle.tables.specs.laws.Accepted.{head_admissible}
use Rattle.words.specs.declared.Table.{Table}
use Rattle.words.specs.Table.{TableOf}
use Rattle.systems.specs.Count.{counted}

module _ (w : List ℕ) (p n : ℕ) where
  -- ── the leading variable ──
  pub leader_none : {i : ℕ} (f : Poly) → read_head w p n i ≡ good f → i < records w → word w i 0 ≡ 0 → leader f ≡ 0
  unfolding leader degrees highest
  leader_none {i} f e h z = ap leader (chain_end (terms_left w p n i f h e) z)

  pub first_inside : {i : ℕ} (f : Poly) → read_head w p n i ≡ good f → i < records w → word w i 0 ≢ 0 → word w i 0 < records w
  first_inside {i} f e h z = (chain_next (terms_left w p n i f h e) z).inside

  -- Its first term has the highest variable, since the terms fall.
  pub leader_some : {i : ℕ} (f : Poly) → read_head w p n i ≡ good f → i < records w → word w i 0 ≢ 0
      → leader f ≡ highest (exponents (word w (word w i 0) 1) (word w (word w i 0) 2))
  leader_some {i} f e h z =
      let m = chain_next (terms_left w p n i f h e) z in
      let a = subst (Admissible p n) m.parts (head_admissible w p n i f h e) in
      ap leader m.parts ∙ leader_first p 8 m.member m.behind a.canonical a.places ∙ ap (λ (t : Term). highest t.exps) (term_read w p n m.is_read).is

pub ruleset leading = (leader_none, first_inside, leader_some)

-- ── a polynomial of T ──
module _ (w : List ℕ) (p n : ℕ) where
  led_refused : (last j : ℕ) {e : Refusal} → checked (read_head w p n j) ≡ Err e → checked (read_led w p n last j) ≡ Err e
  led_refused last j h = rw (checked_refused (read_head w p n j) h)

  led_broken : (last j : ℕ) {f : Poly} → read_head w p n j ≡ good f → leader f ≤ last → checked (read_led w p n last j) ≡ Err (refusal Broken j)
  led_broken last j {f} e h = rw (e, le-leb (leader f) last h)

  led_good : (last j : ℕ) {f : Poly} → read_head w p n j ≡ good f → last < leader f → read_led w p n last j ≡ good f
  led_good last j {f} e h = rw (e, lt-leb (leader f) last h)

  -- The index leads to record j, with the leading variable k.
  module _ {last j : ℕ} {next : Option ℕ} {whole : Result (Unit {0}) Refusal} (l : Leads (triangle_chain w p n) last next whole) (to : next ≡ Some j) where
    pub triangle_refused : {e : Refusal} → Err e ≡ checked (read_head w p n j) → Err e ≡ whole
    triangle_refused h = leads_refused (triangle_chain w p n) l to (sym (led_refused last j (sym h)))

    module _ {k : ℕ} (h : Ok tt ≡ checked (read_head w p n j)) (led : (f : Poly) → read_head w p n j ≡ good f → k ≡ leader f) where
      head : (f : Poly) × (read_head w p n j ≡ good f)
      head = checked_good (read_head w p n j) (sym h)

      pub triangle_broken : k ≤ last → Err (refusal Broken j) ≡ whole
      triangle_broken q = leads_refused (triangle_chain w p n) l to (sym (led_broken last j head.1 (omega (arith, led head.0 head.1))))

      pub triangle_on : last < k → Reached (triangle_chain w p n) k j (word w j 3) whole
      triangle_on q =
          let e = led head.0 head.1 in
          rw e (leads_on (triangle_chain w p n) l to (led_good last j head.1 (omega arith)))

-- ── a system ──
module _ (w : List ℕ) (p n i : ℕ) where
  pub system_broken : word w i 2 ≢ 0 → Err (refusal Broken i) ≡ checked (read_system w p n i)
  unfolding read_system
  system_broken h = rw (ne_eqb (word w i 2) 0 h)

  pub system_refused : {e : Refusal} → word w i 2 ≡ 0 → Err e ≡ checked (read_triangle w p n (records w) 0 i (word w i 0)) → Err e ≡ checked (read_system w p n i)
  unfolding read_system
  system_refused h e = rw (eq-eqb (word w i 2) 0 h, checked_refused (read_triangle w p n (records w) 0 i (word w i 0)) (sym e))

  pub system_checked : word w i 2 ≡ 0 → Ok tt ≡ checked (read_triangle w p n (records w) 0 i (word w i 0))
      → checked (read_heads w p n (records w) i (word w i 1)) ≡ checked (read_system w p n i)
  unfolding read_system
  system_checked h e =
      let t = checked_good (read_triangle w p n (records w) 0 i (word w i 0)) (sym e) in
      rw (eq-eqb (word w i 2) 0 h, t.1) (go t.0 (read_heads w p n (records w) i (word w i 1)))
    where
      go : (fs : List Poly) (r : Read (List Poly)) → checked r ≡ checked {A = System} (then r (λ u. good (record { T = fs; U = u })))
      go fs (good u) = refl
      go fs (refused why at) = refl

pub ruleset system_tests = (system_broken, system_refused, system_checked)

-- ── systems counted ──
-- As `counted`, with k systems before.
abbrev pub counted_from : ℕ → Read (List System) → Result ℕ Refusal
counted_from k (good ss) = Ok (k + length ss)
counted_from k (refused why at) = Err (refusal why at)

counted_from_zero : (r : Read (List System)) → counted_from 0 r ≡ counted r
counted_from_zero (good ss) = ap Ok (omega arith)
counted_from_zero (refused why at) = refl

counted_one_more : (k : ℕ) (s : System) (r : Read (List System)) → counted_from k (then r (λ ss. good (s ∷ ss))) ≡ counted_from (k + 1) r
counted_one_more k s (good ss) = ap Ok (omega arith)
counted_one_more k s (refused why at) = refl

module _ (w : List ℕ) (p n : ℕ) where
  -- The systems from index i on, which record `at` holds, and the count before decide the whole count.
  pub record Counting (at i count : ℕ) (whole : Result ℕ Refusal) : Type 0 where
    pub fuel : ℕ
    pub enough : Enough w at fuel
    pub few : count ≤ at
    pub same : counted_from count (read_systems w p n fuel at i) ≡ whole

  pub counting_first : (i : ℕ) → 0 < records w → Counting 0 i 0 (counted (read_systems w p n (records w) 0 i))
  counting_first i h =
      record { fuel = records w; enough = whole_chain w 0 h; few = omega arith; same = counted_from_zero (read_systems w p n (records w) 0 i) }

  -- An index was followed, and leads to `next`.
  pub record CountLeads (next : Option ℕ) (count : ℕ) (whole : Result ℕ Refusal) : Type 0 where
    pub at : ℕ
    pub index : ℕ
    pub counting : Counting at index count whole
    pub leads : next_from at (follow w at index) ≡ Ok next

  module _ {at i count : ℕ} {whole : Result ℕ Refusal} (c : Counting at i count whole) where
    pub count_leads : {next : Option ℕ} → Ok next ≡ next_from at (follow w at i) → CountLeads next count whole
    count_leads e = record { at = at; index = i; counting = c; leads = sym e }

    pub count_strays : {e : Refusal} → Err e ≡ next_from at (follow w at i) → Err e ≡ whole
    count_strays e =
        let a = next_from_astray at (follow w at i) (sym e) in
        ap Err a.1 ∙ sym (ap (counted_from count) (chain_strays (systems_chain w p n) tt at i c.enough a.0)) ∙ c.same

  module _ {next : Option ℕ} {count : ℕ} {whole : Result ℕ Refusal} (l : CountLeads next count whole) where
    pub count_end : next ≡ None → Ok count ≡ whole
    count_end e =
        let f = next_from_end l.at (follow w l.at l.index) (rw (← e) l.leads) in
        ap Ok (omega arith) ∙ sym (ap (counted_from count) (chain_ends (systems_chain w p n) l.counting.fuel tt l.at l.index f)) ∙ l.counting.same

    module _ {j : ℕ} (to : next ≡ Some j) where
      pub count_inside : (count < j) × (j < records w)
      count_inside = let q = next_inside w l.at l.index j (rw (← to) l.leads) in (omega (arith, l.counting.few), q.1)

      others : (fuel : ℕ) × Enough w j fuel × (read_systems w p n l.counting.fuel l.at l.index ≡ cons (read_system w p n j) (λ s. read_systems w p n fuel j (word w j 3)))
      others = chain_leads (systems_chain w p n) tt l.at l.index l.counting.enough (next_from_to l.at (follow w l.at l.index) (rw (← to) l.leads))

      pub count_refused : {e : Refusal} → Err e ≡ checked (read_system w p n j) → Err e ≡ whole
      count_refused h =
          let u = others in
          sym (ap (counted_from count) (u.2 ∙ ap (λ r. cons r (λ s. read_systems w p n u.0 j (word w j 3))) (checked_refused (read_system w p n j) (sym h)))) ∙ l.counting.same

      pub count_on : Ok tt ≡ checked (read_system w p n j) → Counting j (word w j 3) (count + 1) whole
      count_on h =
          let u = others in
          let s = checked_good (read_system w p n j) (sym h) in
          let r = read_systems w p n u.0 j (word w j 3) in
          record {
            fuel = u.0;
            enough = u.1;
            few = omega (arith, count_inside.0);
            same = sym (ap (counted_from count) (u.2 ∙ ap (λ y. cons y (λ s. r)) s.1) ∙ counted_one_more count s.0 r) ∙ l.counting.same;
          }

-- ── a list ──
counted_good : (r : Read (List System)) {k : ℕ} → Ok k ≡ counted r → (ss : List System) × (r ≡ good ss) × (length ss ≡ k)
counted_good (good ss) e = (ss, refl, cc)
counted_good (refused why at) e = cc

counted_refused : (r : Read (List System)) {e : Refusal} → Err e ≡ counted r → r ≡ refused e.reason e.at
counted_refused (good ss) e = cc
counted_refused (refused why at) e = cc

pub list_refused : (w : List ℕ) {e : Refusal} → Err e ≡ checked (read_header w accepted) → Err e ≡ checked (read_list w)
unfolding read_list
list_refused w h = sym (ap checked (header_refuses w _ (sym h)))

-- The systems of a table.
abbrev listed : Table → Read (List System)
listed t = read_systems t.words.now t.modulus t.variables (records t.words.now) 0 (word t.words.now 0 2)

module _ (w : List ℕ) {t : Table} (T : TableOf w t) (h : checked (read_header w accepted) ≡ Ok tt) where
  listed_same : listed t ≡ read_systems w (word w 0 0) (word w 0 1) (records w) 0 (word w 0 2)
  listed_same = rw (T.words, T.modulus, T.variables)

  pub list_uncounted : {e : Refusal} → Err e ≡ counted (listed t) → Err e ≡ checked (read_list w)
  unfolding read_list
  list_uncounted e = rw (header_passes w _ h, ← listed_same, counted_refused (listed t) e)

  module _ {k : ℕ} (e : Ok k ≡ counted (listed t)) where
    pub list_miscounted : k ≢ word t.words.now 0 3 → Err (refusal Broken 0) ≡ checked (read_list w)
    unfolding read_list
    list_miscounted q =
        let r = counted_good (listed t) e in
        let g = sym listed_same ∙ r.1 in
        rw (header_passes w _ h, g, ne_eqb (length r.0) (word w 0 3) (λ z. q (sym r.2 ∙ z ∙ rw T.words)))

    pub list_counted : k ≡ word t.words.now 0 3 → (l : Listing) × (read_list w ≡ good l)
    unfolding read_list
    list_counted q =
        let r = counted_good (listed t) e in
        let g = sym listed_same ∙ r.1 in (
          record { modulus = word w 0 0; variables = word w 0 1; systems = r.0 },
          rw (header_passes w _ h, g, eq-eqb (length r.0) (word w 0 3) (r.2 ∙ q ∙ rw T.words)),
        )
