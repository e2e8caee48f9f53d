-- A point against a list: one system's answer, the walk to the first system solved, and the trial.
use Rattle.std.specs.Prelude.{◌≡◌, ◌≢◌, Bool, true, false, not, List, ◌∷◌, ℕ, zero, suc, ◌+◌, ◌≤◌, ◌<◌, Ok, Err}
use Rattle.std.proofs.Common.{sym, ◌∙◌, ap, arith, add-one}
use Rattle.polynomials.specs.Poly.{Poly}
use Rattle.polynomials.specs.Division.{leader}
use Rattle.tables.specs.declared.Reason.TheVariants.{Point as PointReason}
use Rattle.tables.specs.declared.Refusal.{Refusal}
use Rattle.tables.specs.Words.{word, records, follow, Followed, end, to, astray}
use Rattle.tables.specs.Read.{good, unless, System, Listing, read_head, read_heads, read_triangle, read_list}
use Rattle.tables.specs.Solve.{is_point, solves, first_solved, refusal, checked, try_systems, Places}
use Rattle.tables.specs.laws.Chains.{then_good, checked_refused, along, cons, read_led, heads_chain, triangle_chain}
use Rattle.tables.specs.laws.Linked.{left, good_same, Member, chain_end, chain_next, chain_on, chain_less, led_parts, SystemsLeft, systems_left}
use Rattle.tables.specs.laws.Accepted.{ListRead, list_read, system_read}
use Rattle.words.specs.declared.Table.{Table}
use Rattle.words.specs.Table.{TableOf}
use Rattle.words.proofs.Laws.{first_record}
use Rattle.words.specs.Table.{ArePolynomialsFrom}
use Rattle.lists.specs.Listed.{IsSystemAt, AreSystemsOf}

-- A T chain that was read is a chain of heads.
triangle_heads : (w : List ℕ) (p n fuel last at i : ℕ) {fs : List Poly} → read_triangle w p n fuel last at i ≡ good fs → read_heads w p n fuel at i ≡ good fs
triangle_heads w p n zero last at i e = (heads_chain w p n).none tt at i ∙ sym ((triangle_chain w p n).none last at i) ∙ e
triangle_heads w p n (suc fuel) last at i {fs} e =
    (heads_chain w p n).some fuel tt at i
    ∙ go (λ last at i fs. triangle_heads w p n fuel last at i {fs = fs}) (follow w at i) (sym ((triangle_chain w p n).some fuel last at i) ∙ e)
  where
    go : ((last at i : ℕ) (fs : List Poly) → read_triangle w p n fuel last at i ≡ good fs → read_heads w p n fuel at i ≡ good fs) → (x : Followed)
        → along at x (λ j. cons (read_led w p n last j) (λ f. read_triangle w p n fuel (leader f) j (word w j 3))) ≡ good fs
        → along at x (λ j. cons (read_head w p n j) (λ f. read_heads w p n fuel j (word w j 3))) ≡ good fs
    go ih end e = e
    go ih (to j) e =
        let l = then_good (read_led w p n last j) _ e in
        let r = then_good (read_triangle w p n fuel (leader l.0) j (word w j 3)) _ l.2 in
        rw ((led_parts w p n last j l.0 l.1).0, ih (leader l.0) j (word w j 3) r.0 r.1) r.2
    go ih astray e = e

-- ── a system ──
module _ (t : Table) (i : ℕ) (s : System) (is : IsSystemAt t i s) where
  pub zeros : ArePolynomialsFrom t i (word t.words.now i 0) s.T
  zeros = triangle_heads t.words.now t.modulus t.variables (records t.words.now) 0 i _ (system_read t.words.now t.modulus t.variables i s is).triangle

  pub nonzeros : ArePolynomialsFrom t i (word t.words.now i 1) s.U
  nonzeros = (system_read t.words.now t.modulus t.variables i s is).companion

pub ruleset solved = (zeros, nonzeros)

-- ── the first system solved ──
module _ (p : ℕ) (x : List ℕ) where
  -- Its place: this one's, or that among the others.
  first_here : (k : ℕ) (s : System) (ss : List System) → solves p x s.T s.U ≡ true → first_solved p x k (s ∷ ss) ≡ k
  unfolding first_solved
  first_here k s ss e = rw (e, first_solved)

  first_later : (k : ℕ) (s : System) (ss : List System) → solves p x s.T s.U ≡ false → first_solved p x k (s ∷ ss) ≡ first_solved p x (k + 1) ss
  unfolding first_solved
  first_later k s ss e = rw (e, first_solved) (ap (λ j. first_solved p x j ss) (sym (add-one k)))

-- The systems from index i on, with `place` for the first of them, decide the place of the first solved.
pub record Placed (t : Table) (x : List ℕ) (i place : ℕ) : Type 0 where
  pub chain : SystemsLeft t.words.now t.modulus t.variables i
  pub few : place ≤ chain.at + 1
  pub same : (ss : List System) → AreSystemsOf t ss → first_solved t.modulus x place chain.rest ≡ first_solved t.modulus x 1 ss

pub placed_first : (t : Table) (x : List ℕ) {ss : List System} → AreSystemsOf t ss → Placed t x (word t.words.now 0 2) 1
placed_first t x {ss} e =
    record {
      chain = systems_left t.words.now t.modulus t.variables 0 (word t.words.now 0 2) ss (first_record t) e;
      few = omega arith;
      same = λ ts q. ap (first_solved t.modulus x 1) (good_same (sym e ∙ q));
    }

module _ {t : Table} {x : List ℕ} {i place : ℕ} (c : Placed t x i place) where
  pub placed_none : i ≡ 0 → (ss : List System) → AreSystemsOf t ss → 0 ≡ first_solved t.modulus x 1 ss
  unfolding first_solved
  placed_none z ss e = sym (ap (first_solved t.modulus x place) (chain_end c.chain z)) ∙ c.same ss e

  module _ (more : i ≢ 0) where
    abbrev next : Member c.chain
    next = chain_next c.chain more

    pub placed_at : (s : System) × IsSystemAt t i s
    placed_at = (next.member, next.is_read)

    pub placed_inside : (place ≤ i) × (i < records t.words.now)
    placed_inside = (omega (arith, c.few, next.higher), next.inside)

    pub placed_less : left (records t.words.now) (word t.words.now i 3) < left (records t.words.now) i
    placed_less = chain_less c.chain more

    -- b says whether the system there is solved.
    module _ {b : Bool} (answer : (s : System) → IsSystemAt t i s → b ≡ solves t.modulus x s.T s.U) where
      pub placed_solved : b ≡ true → (ss : List System) → AreSystemsOf t ss → place ≡ first_solved t.modulus x 1 ss
      placed_solved h ss e =
          let here = first_here t.modulus x place next.member next.behind (sym (answer next.member next.is_read) ∙ h) in
          sym (ap (first_solved t.modulus x place) next.parts ∙ here) ∙ c.same ss e

      pub placed_on : b ≡ false → Placed t x (word t.words.now i 3) (place + 1)
      placed_on h =
          record {
            chain = chain_on c.chain more;
            few = omega (arith, placed_inside.0);
            same = λ ss e.
                sym (ap (first_solved t.modulus x place) next.parts
                ∙ first_later t.modulus x place next.member next.behind (sym (answer next.member next.is_read) ∙ h))
                ∙ c.same ss e;
          }

-- ── a point tried ──
module _ (w x : List ℕ) where
  pub try_refused : {e : Refusal} → Err e ≡ checked (read_list w) → Places w x (Err e)
  unfolding try_systems
  try_refused h = rw (checked_refused (read_list w) (sym h))

-- The table of an accepted list.
module _ {w : List ℕ} {t : Table} (of : TableOf w t) {l : Listing} (is_read : read_list w ≡ good l) where
  r : ListRead w l
  r = list_read w l is_read

  pub systems_of : AreSystemsOf t l.systems
  systems_of = rw (of.words, of.modulus, of.variables) r.systems

  module _ (x : List ℕ) where
    answer : try_systems w x ≡ unless (not (is_point t.modulus t.variables x)) PointReason 0 (good (first_solved t.modulus x 1 l.systems))
    unfolding try_systems
    answer = rw (is_read, r.modulus, r.variables, of.modulus, of.variables)

    pub no_point : false ≡ is_point t.modulus t.variables x → Places w x (Err (refusal PointReason 0))
    no_point e = rw (answer, ← e)

    pub point_placed : true ≡ is_point t.modulus t.variables x → {k : ℕ} → ((ss : List System) → AreSystemsOf t ss → k ≡ first_solved t.modulus x 1 ss)
        → Places w x (Ok k)
    point_placed e h = rw (answer, ← e, ← h l.systems systems_of)
