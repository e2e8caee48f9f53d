-- The loop that loads a polynomial along its chain of terms.
use Rattle.std.specs.Prelude.{◌≡◌, ◌≢◌, List, ◌∷◌, ◌++◌, ℕ, suc, ◌+◌, ◌≤◌, ◌<◌, length, take}
use Rattle.std.proofs.Common.{sym, ◌∙◌, ap, subst, arith, append-nil}
use lib.ListN.{set, length-set}
use lib.Seq.{length-take-le}
use Rattle.polynomials.specs.Poly.{Term, Poly}
use Rattle.polynomials.specs.Canonical.{Canonical}
use Rattle.polynomials.specs.Packed.{bytes, exponents, term, terms}
use Rattle.polynomials.specs.Working.{Written, Holds}
use Rattle.polynomials.specs.laws.Terms.{terms_push_before}
use Rattle.tables.specs.Words.{word, records, term_at}
use Rattle.tables.specs.Read.{good, read_head}
use Rattle.tables.specs.laws.Chains.{term_read}
use Rattle.tables.specs.laws.Linked.{good_same, Member, chain_end, chain_next, chain_on, TermsLeft, terms_left}
use Rattle.tables.specs.laws.Accepted.{head_admissible}
use Rattle.polynomials.specs.declared.Term.{Term as Packed}

-- The first k terms of `out` and the terms from index i on make the polynomial with its head in record `head`. Where a term is left, its
-- record is one of the table, and a place is free.
pub record LoadLeft (w : List ℕ) (p n head : ℕ) (out : List Packed) (k i : ℕ) : Type 0 where
  pub chain : TermsLeft w p n i
  pub inside : i ≢ 0 → i < records w
  pub few : k + length chain.rest ≤ 256
  pub free : i ≢ 0 → k < 256
  pub room : 256 ≤ length out
  pub count : (f : Poly) → read_head w p n head ≡ good f → k + length chain.rest ≡ length f
  pub front : (f : Poly) → read_head w p n head ≡ good f → terms (take k out) ++ chain.rest ≡ f

-- A term is left, and so a place is free.
some_left : {w : List ℕ} (p n : ℕ) {i : ℕ} (k : ℕ) (l : TermsLeft w p n i) → i ≢ 0 → k + length l.rest ≤ 256 → k < 256
some_left p n k l more few =
    let one : length l.rest ≡ suc (length (chain_next l more).behind) = ap (λ (g : Poly). length g) (chain_next l more).parts in omega (arith, one, few)

module _ {w : List ℕ} {p n head : ℕ} {out : List Packed} where
  pub load_start : {f : Poly} → 256 ≤ length out → head < records w → read_head w p n head ≡ good f → LoadLeft w p n head out 0 (word w head 0)
  unfolding terms
  load_start {f} room h e =
      let chain = terms_left w p n head f h e in
      let few : 0 + length f ≤ 256 = omega (arith, (head_admissible w p n head f h e).few) in
      record {
        chain = chain;
        inside = λ more. (chain_next chain more).inside;
        few = few;
        free = λ more. some_left p n 0 chain more few;
        room = room;
        count = λ g q. ap (λ (g : Poly). 0 + length g) (good_same (sym e ∙ q)) ∙ omega arith;
        front = λ g q. good_same (sym e ∙ q);
      }

  module _ {k i : ℕ} (l : LoadLeft w p n head out k i) where
    written : i ≡ 0 → (f : Poly) → read_head w p n head ≡ good f → Written f k out
    written z f e =
        record {
          within = omega (arith, l.few, l.room);
          holds = sym (append-nil (terms (take k out))) ∙ ap (λ (g : Poly). terms (take k out) ++ g) (sym (chain_end l.chain z)) ∙ l.front f e;
        }

    pub load_end : head < records w → i ≡ 0 → (f : Poly) → read_head w p n head ≡ good f → Written f k out × Holds p (take k out)
    load_end h z f e =
        let x = written z f e in
        let a = head_admissible w p n head f h e in
        (x, record { few = omega (arith, length-take-le k out x.within, l.few); canonical = subst (Canonical p) (sym x.holds) a.canonical })

    -- The term in record i is loaded.
    pub load_next : i ≢ 0 → (t : Packed) → t.coefficient ≡ word w i 0 → bytes 8 t.monomial ≡ exponents (word w i 1) (word w i 2)
        → LoadLeft w p n head (set out k t) (k + 1) (word w i 3)
    load_next more t ec em =
        let next : Member l.chain = chain_next l.chain more in
        let one : length l.chain.rest ≡ suc (length next.behind) = ap (λ (g : Poly). length g) next.parts in
        let chain : TermsLeft w p n (word w i 3) = chain_on l.chain more in
        let few : (k + 1) + length next.behind ≤ 256 = omega (arith, one, l.few) in
        let is_term : term t ≡ term_at w i = λ j. record { coef = ec j; exps = em j } in
        record {
          chain = chain;
          inside = λ again. (chain_next chain again).inside;
          few = few;
          free = λ again. some_left p n (k + 1) chain again few;
          room = simp length-set l.room;
          count = λ f e. omega (arith, one, l.count f e);
          front = λ f e. terms_push_before out k t l.chain.rest next.behind (omega (arith, l.free more, l.room))
              (next.parts ∙ ap (λ (s : Term). s ∷ next.behind) ((term_read w p n next.is_read).is ∙ sym is_term))
              ∙ l.front f e;
        }
