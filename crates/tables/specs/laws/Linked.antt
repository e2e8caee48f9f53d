-- The chains of what was read, without fuel: the members, each with its record, from an index to the chain's end.
use Rattle.std.specs.Prelude.{◌≡◌, refl, ◌≢◌, List, [], ◌∷◌, ℕ, zero, suc, ◌-◌, ◌<◌, leb}
use Rattle.std.proofs.Common.{subst, arith, leb-false}
use Rattle.std.proofs.Math.Decide.{ℕ_discrete}
use Rattle.residues.specs.Each.{Each}
use Rattle.polynomials.specs.Poly.{Poly}
use Rattle.polynomials.specs.Division.{leader}
use Rattle.tables.specs.declared.Reason.TheVariants.{Head, Broken}
use Rattle.tables.specs.Words.{word, records}
use Rattle.tables.specs.Read.{Read, good, Before, first, after, not_zero, System, read_term, read_head, read_heads, read_triangle, read_system, read_systems}
use Rattle.tables.specs.Admissible.{Rising}
use Rattle.tables.specs.laws.Chains.{unless_good, then_good, Chain, Enough, whole_chain, opens, closes, terms_chain, heads_chain, read_led, triangle_chain, systems_chain}

pub good_same : {A : Type 0} {a b : A} → good a ≡ good b → a ≡ b
good_same e = cc

-- How many of n records an index can still reach: the measure of a walk.
abbrev pub left : ℕ → ℕ → ℕ
left n zero = 0
left n (suc i) = n - i

-- ── any chain ──
module _ {A S : Type 0} (w : List ℕ) (step : S → ℕ → Read A) (on : S → A → S) where
  -- The members of the chain from the index i that record `at` holds: each stands in a higher record than the one before.
  abbrev pub Linked : S → ℕ → ℕ → List A → Type 0
  Linked s at i [] = i ≡ 0
  Linked s at i (a ∷ xs) = (at < i) × (i < records w) × (step s i ≡ good a) × Linked (on s a) i (word w i 3) xs

  -- What is left of a chain at the index i: the record that holds the index, and the members from there on.
  pub record ChainLeft (i : ℕ) : Type 0 where
    pub state : S
    pub at : ℕ
    pub rest : List A
    pub linked : Linked state at i rest

  pub linked_each : (P : A → Type 0) → ((s : S) (i : ℕ) (a : A) → i < records w → step s i ≡ good a → P a) →
      (s : S) (at i : ℕ) (xs : List A) → Linked s at i xs → Each P xs
  linked_each P f s at i [] l = tt
  linked_each P f s at i (a ∷ xs) l = (f s i a l.1 l.2, linked_each P f (on s a) i (word w i 3) xs l.3)

  linked_less : (s : S) (i j : ℕ) (xs : List A) → i ≢ 0 → i < records w → Linked s i j xs → left (records w) j < left (records w) i
  linked_less s zero j xs h l k = absurd (h refl)
  linked_less s (suc i) zero xs h l k = omega arith
  linked_less s (suc i) (suc j) [] h l k = absurd (omega (arith, k))
  linked_less s (suc i) (suc j) (a ∷ xs) h l k = omega (arith, k.0, k.1)

module _ {A S : Type 0} {w : List ℕ} {step : S → ℕ → Read A} {on : S → A → S} {i : ℕ} (l : ChainLeft w step on i) where
  pub chain_end : i ≡ 0 → l.rest ≡ []
  chain_end z = go l.rest l.linked
    where
      go : (xs : List A) → Linked w step on l.state l.at i xs → xs ≡ []
      go [] k = refl
      go (a ∷ xs) k = absurd (omega (arith, k.0))

  -- The next member.
  pub record Member : Type 0 where
    pub member : A
    pub behind : List A
    pub parts : l.rest ≡ member ∷ behind
    pub higher : l.at < i
    pub inside : i < records w
    pub is_read : step l.state i ≡ good member
    pub linked : Linked w step on (on l.state member) i (word w i 3) behind

  module _ (more : i ≢ 0) where
    pub chain_next : Member
    chain_next = go l.rest refl l.linked
      where
        go : (xs : List A) → l.rest ≡ xs → Linked w step on l.state l.at i xs → Member
        go [] e k = absurd (more k)
        go (a ∷ xs) e k = record { member = a; behind = xs; parts = e; higher = k.0; inside = k.1; is_read = k.2; linked = k.3 }

    -- What is left behind it.
    abbrev pub chain_on : ChainLeft w step on (word w i 3)
    chain_on = record { state = on l.state chain_next.member; at = i; rest = chain_next.behind; linked = chain_next.linked }

    pub chain_less : left (records w) (word w i 3) < left (records w) i
    chain_less = linked_less w step on chain_on.state i (word w i 3) chain_on.rest more chain_next.inside chain_next.linked

-- A chain that was read with enough fuel.
pub chain_linked : {A S : Type 0} {w : List ℕ} {step : S → ℕ → Read A} {on : S → A → S} {X : ℕ → S → ℕ → ℕ → Read (List A)} → Chain w step on X →
    (fuel : ℕ) (s : S) (at i : ℕ) (xs : List A) → Enough w at fuel → X fuel s at i ≡ good xs → Linked w step on s at i xs
chain_linked C fuel s at i [] h e =
    elim (ℕ_discrete i 0) [
      | yes z ↦ z
      | no k ↦ let o = opens C h e k in let q = o.split in let z : ◌≡◌ {A = ℕ} 0 1 = cc in absurd (omega arith)
    ]
chain_linked {w = w} {step = step} {on = on} {X = X} C fuel s at i (a ∷ xs) h e =
    elim (ℕ_discrete i 0) [
      | yes z ↦ let q = closes C fuel s at i e z in let z : ◌≡◌ {A = ℕ} 0 1 = cc in absurd (omega arith)
      | no k ↦
          let o = opens C h e k in
          let q = o.split in
          let m : o.member ≡ a = cc in
          let r : o.others ≡ xs = cc in (
            o.above,
            o.enough.inside,
            subst (λ b. step s i ≡ good b) m o.read,
            chain_linked C o.fuel (on s a) i (word w i 3) xs o.enough
                (subst (λ b. X o.fuel (on s b) i (word w i 3) ≡ good xs) m (subst (λ ys. X o.fuel (on s o.member) i (word w i 3) ≡ good ys) r o.rest)),
          )
    ]

-- ── the chains of a table ──
module _ (w : List ℕ) (p n : ℕ) where
  -- Terms, with the count of terms before and the last of them.
  abbrev pub TermChain : (ℕ × Before) → ℕ → ℕ → Poly → Type 0
  TermChain = Linked w (λ s j. read_term w p n s.0 s.1 j) (λ s t. (suc s.0, after t.exps))

  abbrev pub TermsLeft : ℕ → Type 0
  TermsLeft = ChainLeft {S = ℕ × Before} w (λ s j. read_term w p n s.0 s.1 j) (λ s t. (suc s.0, after t.exps))

  pub terms_linked : (i : ℕ) (f : Poly) → i < records w → read_head w p n i ≡ good f → TermChain (0, first) i (word w i 0) f
  unfolding read_head
  terms_linked i f h e =
      chain_linked (terms_chain w p n) (records w) (0, first) i (word w i 0) f (whole_chain w i h)
      (unless_good (not_zero (word w i 1 ∷ word w i 2 ∷ [])) Head i _ e).1

  abbrev pub terms_left : (i : ℕ) (f : Poly) → i < records w → read_head w p n i ≡ good f → TermsLeft (word w i 0)
  terms_left i f h e = record { state = (0, first); at = i; rest = f; linked = terms_linked i f h e }

  abbrev pub HeadChain : ℕ → ℕ → List Poly → Type 0
  HeadChain = Linked {S = Unit {0}} w (λ s j. read_head w p n j) (λ s f. s) tt

  abbrev pub HeadsLeft : ℕ → Type 0
  HeadsLeft = ChainLeft {S = Unit {0}} w (λ s j. read_head w p n j) (λ s f. s)

  abbrev pub heads_left : (at i : ℕ) (fs : List Poly) → at < records w → read_heads w p n (records w) at i ≡ good fs → HeadsLeft i
  heads_left at i fs h e = record { state = tt; at = at; rest = fs; linked = chain_linked (heads_chain w p n) (records w) tt at i fs (whole_chain w at h) e }

  abbrev pub SystemsLeft : ℕ → Type 0
  SystemsLeft = ChainLeft {S = Unit {0}} w (λ s j. read_system w p n j) (λ s f. s)

  abbrev pub systems_left : (at i : ℕ) (ss : List System) → at < records w → read_systems w p n (records w) at i ≡ good ss → SystemsLeft i
  systems_left at i ss h e = record { state = tt; at = at; rest = ss; linked = chain_linked (systems_chain w p n) (records w) tt at i ss (whole_chain w at h) e }

  -- A T chain is a chain of heads whose leading variables rise.
  pub led_parts : (last i : ℕ) (f : Poly) → read_led w p n last i ≡ good f → (read_head w p n i ≡ good f) × (last < leader f)
  led_parts last i f e =
      let r = then_good (read_head w p n i) _ e in
      let u = unless_good (leb (leader r.0) last) Broken i (good r.0) r.2 in
      let s : r.0 ≡ f = good_same u.1 in
      (subst (λ g. read_head w p n i ≡ good g) s r.1, subst (λ g. last < leader g) s (leb-false (leader r.0) last u.0))

  led_rise : (last at i : ℕ) (fs : List Poly) → Linked w (read_led w p n) (λ last f. leader f) last at i fs → HeadChain at i fs × Rising last fs
  led_rise last at i [] l = (l, tt)
  led_rise last at i (f ∷ fs) l =
      let r = led_parts last i f l.2 in
      let k = led_rise (leader f) i (word w i 3) fs l.3 in
      ((l.0, l.1, r.0, k.0), (r.1, k.1))

  pub triangle_linked : (last at i : ℕ) (fs : List Poly) → at < records w → read_triangle w p n (records w) last at i ≡ good fs → HeadChain at i fs × Rising last fs
  triangle_linked last at i fs h e = led_rise last at i fs (chain_linked (triangle_chain w p n) (records w) last at i fs (whole_chain w at h) e)
