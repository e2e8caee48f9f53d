-- The polynomials of a chain put into the only branch, one after the other.
use Rattle.std.specs.Prelude.{◌≡◌, refl, ◌≢◌, Bool, true, false, ◌||◌, List, [], ◌∷◌, ◌++◌, ℕ, suc, ◌+◌, ◌≤◌, ◌<◌, leb, length, take, map, Result, Ok, IsOk, IsErr}
use Rattle.std.proofs.Common.{sym, ◌∙◌, ap, subst, arith, append-nil, append_assoc, length-append}
use Rattle.std.proofs.lemmas.Bool.{false≢true}
use borrow.Author.Tests.{le-leb, lt-leb, leb-false}
use lib.Seq.{take-append_seam}
use Rattle.residues.specs.Each.{Each}
use Rattle.polynomials.specs.Poly.{Poly, monic}
use Rattle.polynomials.specs.Packed.{terms}
use Rattle.tables.specs.Words.{word, records}
use Rattle.tables.specs.Read.{good, read_head, read_heads}
use Rattle.tables.specs.laws.Linked.{Member, chain_end, chain_next, chain_on, HeadsLeft, heads_left}
use Rattle.rules.specs.Branch as rules
use Rattle.rules.specs.Branch.{Branch, unless_dropped, put_all}
use Rattle.rules.specs.Room.{polynomials_size, branch_size, branches_size, systems_size, live}
use Rattle.records.specs.Records.{Rec}
use Rattle.tables.specs.declared.Reason.{Reason}
use Rattle.branches.specs.Area.{Stored, Held, fitted, Leaves, size, with_open}
use Rattle.branches.specs.laws.Fitted.{lacks_room, for_room}
use Rattle.branches.specs.laws.Words.{put_q_before_none}
use Rattle.representation.specs.Represent.{Sound, BranchSound, branch_of, Monic, AllMonic}
use Rattle.representation.specs.laws.Lists.{map_put_p, map_put_q}
use Rattle.representation.specs.laws.Sounds.{put_into_p_sound, put_into_q_sound}
use Rattle.representation.specs.laws.Sizes.{length_stack, size_live}
use Rattle.representation.specs.laws.Replaced.{polynomials_size_append}
use Rattle.representation.specs.laws.Monics.{put_p_monic}
use Rattle.representation.specs.laws.Lists.{put_p_nonzero}
use Rattle.loading.specs.declared.Target.{Target}
use Rattle.loading.specs.declared.Target.TheVariants.{P, Q}
use Rattle.loading.specs.Started.{Loaded, put_into, put_heads, Alone, Filled}
use Rattle.polynomials.specs.declared.Term.{Term as Packed}

-- ── putting never makes a branch smaller ──
size_unless_dropped : (b : Bool) (f : Poly) (fs : List Poly) → polynomials_size fs ≤ polynomials_size (unless_dropped b f fs)
size_unless_dropped true f fs = omega arith
size_unless_dropped false f fs = omega (arith, polynomials_size_append fs (f ∷ []))

size_put_all : (put : Poly → List Poly → List Poly) → ((f : Poly) (fs : List Poly) → polynomials_size fs ≤ polynomials_size (put f fs)) →
    (fs out : List Poly) → polynomials_size out ≤ polynomials_size (put_all put fs out)
unfolding put_all
size_put_all put h [] out = omega arith
size_put_all put h (f ∷ fs) out = omega (arith, h f out, size_put_all put h fs (put f out))

size_put_q : (p : ℕ) (f : Poly) (fs : List Poly) → polynomials_size fs ≤ polynomials_size (rules.put_q p f fs)
unfolding rules.put_q
size_put_q p f fs = size_unless_dropped (rules.is_one (monic p f) || rules.member (monic p f) fs) (monic p f) fs

size_put_p : (p : ℕ) (f : Poly) (fs : List Poly) → polynomials_size fs ≤ polynomials_size (rules.put_p p f fs)
unfolding rules.put_p
size_put_p p f fs = size_unless_dropped (rules.is_zero (monic p f) || rules.member (monic p f) fs) (monic p f) fs

pub size_put_heads : (q : Target) (p : ℕ) (fs : List Poly) (c : Branch) → branch_size c ≤ branch_size (put_heads q p fs c)
unfolding branch_size
size_put_heads Q p fs c = omega (arith, size_put_all (rules.put_q p) (size_put_q p) fs c.Q)
size_put_heads P p fs c = omega (arith, size_put_all (rules.put_p p) (size_put_p p) fs c.P)

put_all_append : (put : Poly → List Poly → List Poly) (fs gs out : List Poly) → put_all put (fs ++ gs) out ≡ put_all put gs (put_all put fs out)
unfolding put_all
put_all_append put [] gs out = refl
put_all_append put (f ∷ fs) gs out = put_all_append put fs gs (put f out)

put_heads_append : (q : Target) (p : ℕ) (fs gs : List Poly) (c : Branch) → put_heads q p (fs ++ gs) c ≡ put_heads q p gs (put_heads q p fs c)
put_heads_append Q p fs gs c = λ i. record { P = c.P; Q = put_all_append (rules.put_q p) fs gs c.Q i; T = c.T }
put_heads_append P p fs gs c = λ i. record { P = put_all_append (rules.put_p p) fs gs c.P i; Q = c.Q; T = c.T }

-- The first of them make it no larger than all.
size_first : (q : Target) (p : ℕ) (fs gs : List Poly) (c : Branch) → branch_size (put_heads q p fs c) ≤ branch_size (put_heads q p (fs ++ gs) c)
size_first q p fs gs c =
    subst (λ (d : Branch). branch_size (put_heads q p fs c) ≤ branch_size d) (sym (put_heads_append q p fs gs c)) (size_put_heads q p gs (put_heads q p fs c))

pub put_heads_none : (q : Target) (p : ℕ) (c : Branch) → put_heads q p [] c ≡ c
unfolding put_all
put_heads_none Q p c = refl
put_heads_none P p c = refl

-- ── the only branch ──
size_alone : (b : Stored) → size (with_open b [] []) ≡ 1 + branch_size (branch_of b)
unfolding live branches_size systems_size
size_alone b = omega (arith, size_live (with_open b [] []) tt)

alone_fits : {p most : ℕ} {c : Branch} {v : List Rec} → Alone p most c v → 1 + branch_size c ≤ most
unfolding branches_size
alone_fits {c = c} x =
    let b = x.stored in
    let e : branch_size (branch_of b) ≡ branch_size c = ap branch_size x.is in
    omega (arith, x.held.fits, length_stack (b ∷ []))

-- The branch c, which was alone, becomes d if there is room for that, and otherwise stays, and r is a refusal.
record Becomes (p most : ℕ) (c d : Branch) (r : Result (Unit {0}) Reason) (v : List Rec) : Type 0 where
  answer : r ≡ fitted (leb (1 + branch_size d) most)
  alone : IsOk r → Alone p most d v
  otherwise : IsErr r → Alone p most c v

-- ── one polynomial put ──
-- s, put into whatever branch is open, is put so.
abbrev pub Puts : List Rec → ℕ → Target → List Packed → Result (Unit {0}) Reason → List Rec → Type 0
Puts v most q s r u =
    (b : Stored) (bs ss : List Stored) → Held v most (with_open b bs ss) → Leaves most (with_open b bs ss) (with_open (put_into q s b) bs ss) r u

module _ (p : ℕ) (s : List Packed) (f : Poly) (sound : Sound p s) (is_monic : Monic (terms s)) (e : terms s ≡ monic p f) where
  put_branch : (q : Target) (b : Stored) → BranchSound p b → branch_of (put_into q s b) ≡ put_heads q p (f ∷ []) (branch_of b)
  unfolding put_all
  put_branch Q b h =
      λ t. record { P = map terms b.P; Q = (ap (map terms) (put_q_before_none s b.Q) ∙ map_put_q p s f sound e b.Q h.in_q) t; T = map terms b.T }
  put_branch P b h = λ t. record { P = map_put_p p s f sound e b.P h.in_p t; Q = map terms b.Q; T = map terms b.T }

  put_sound : (q : Target) (b : Stored) → BranchSound p b → BranchSound p (put_into q s b)
  put_sound Q b h = put_into_q_sound p b h 0 s sound
  put_sound P b h = put_into_p_sound p b h s sound

  put_monic : (q : Target) (b : Stored) → AllMonic b.P → AllMonic (put_into q s b).P
  put_monic Q b h = h
  put_monic P b h = put_p_monic s b.P is_monic h

  put_nonzero : (q : Target) (b : Stored) → Each (λ f. f ≢ []) b.P → Each (λ f. f ≢ []) (put_into q s b).P
  put_nonzero Q b h = h
  put_nonzero P b h = put_p_nonzero s b.P h

  put_alone : {most : ℕ} {c : Branch} {v u : List Rec} {r : Result (Unit {0}) Reason} (q : Target) → Alone p most c v → Puts v most q s r u → Becomes p most c (put_heads q p (f ∷ []) c) r u
  put_alone {most} {c} {v} {u} {r} q x puts =
      let b = x.stored in
      let l = puts b [] [] x.held in
      let is = put_branch q b x.sound ∙ ap (put_heads q p (f ∷ [])) x.is in
      record {
        answer = l.answer ∙ ap (λ (n : ℕ). fitted (leb n most)) (size_alone (put_into q s b) ∙ ap (λ (d : Branch). 1 + branch_size d) is);
        alone = λ t. record {
          stored = put_into q s b;
          held = l.held t;
          sound = put_sound q b x.sound;
          monic = put_monic q b x.monic;
          nonzero = put_nonzero q b x.nonzero;
          is = is;
        };
        otherwise = λ t. record { stored = b; held = l.otherwise t; sound = x.sound; monic = x.monic; nonzero = x.nonzero; is = x.is };
      }

-- ── the loop ──
-- The polynomials fs are those done and those from index i on; the work area holds the branch c with those done.
pub record PutLeft (w : List ℕ) (p n : ℕ) (q : Target) (most : ℕ) (fs : List Poly) (c : Branch) (i : ℕ) (v : List Rec) : Type 0 where
  pub chain : HeadsLeft w p n i
  pub done : List Poly
  pub parts : fs ≡ done ++ chain.rest
  pub alone : Alone p most (put_heads q p done c) v

module _ {w : List ℕ} {p n : ℕ} {q : Target} {most : ℕ} {fs : List Poly} {c : Branch} where
  pub put_first : {i : ℕ} {v : List Rec} → 0 < records w → read_heads w p n (records w) 0 i ≡ good fs → Alone p most c v → PutLeft w p n q most fs c i v
  put_first {i} {v} h e x =
      record { chain = heads_left w p n 0 i fs h e; done = []; parts = refl; alone = subst (λ (d : Branch). Alone p most d v) (sym (put_heads_none q p c)) x }

  module _ {i : ℕ} {v : List Rec} (l : PutLeft w p n q most fs c i v) where
    pub put_end : i ≡ 0 → Filled p most q fs c (Ok tt) v
    put_end z =
        let is : l.done ≡ fs = sym (append-nil l.done) ∙ ap (λ (gs : List Poly). l.done ++ gs) (sym (chain_end l.chain z)) ∙ sym l.parts in
        let x : Alone p most (put_heads q p fs c) v = subst (λ (gs : List Poly). Alone p most (put_heads q p gs c) v) is l.alone in
        record { answer = ap fitted (sym (le-leb (1 + branch_size (put_heads q p fs c)) most (alone_fits x))); alone = λ t. x; otherwise = λ e. absurd (false≢true e) }

    module _ (more : i ≢ 0) where
      head : Member l.chain
      head = chain_next l.chain more

      -- Its polynomial is loaded.
      pub loaded_next : {m : ℕ} {s : List Packed} → ((f : Poly) → read_head w p n i ≡ good f → Loaded p f m s) → Loaded p (chain_next l.chain more).member m s
      loaded_next loaded = loaded (chain_next l.chain more).member (chain_next l.chain more).is_read

      -- Those done and the polynomial of record i.
      with_head : List Poly
      with_head = l.done ++ (head.member ∷ [])

      with_head_parts : fs ≡ with_head ++ head.behind
      unfolding with_head
      with_head_parts =
          l.parts ∙ ap (λ (gs : List Poly). l.done ++ gs) head.parts ∙ sym (append_assoc l.done (head.member ∷ []) head.behind)

      -- The first m terms of s are its monic polynomial, and were put.
      module _ {m : ℕ} {s : List Packed} (loaded : (f : Poly) → read_head w p n i ≡ good f → Loaded p f m s) {r : Result (Unit {0}) Reason} {u : List Rec} (puts : Puts v most q (take m s) r u) where
        becomes : Becomes p most (put_heads q p l.done c) (put_heads q p with_head c) r u
        unfolding with_head
        becomes =
            let x = loaded head.member head.is_read in
            subst (λ (d : Branch). Becomes p most (put_heads q p l.done c) d r u) (sym (put_heads_append q p l.done (head.member ∷ []) c))
            (put_alone p (take m s) head.member x.sound x.monic x.holds q l.alone puts)

        pub put_fails : IsErr r → Filled p most q fs c r u
        unfolding with_head
        put_fails z =
            let none : most < 1 + branch_size (put_heads q p with_head c) = leb-false (1 + branch_size (put_heads q p with_head c)) most (lacks_room becomes.answer z) in
            subst (λ (gs : List Poly). Filled p most q gs c r u) (sym with_head_parts)
            (record {
              answer = for_room _ becomes.answer z
                  ∙ ap fitted (sym (lt-leb (1 + branch_size (put_heads q p (with_head ++ head.behind) c)) most (omega (arith, none, size_first q p with_head head.behind c))));
              alone = λ e. absurd (false≢true (subst IsOk (for_room _ becomes.answer z) e));
              otherwise = λ e. (
                length l.done,
                omega (arith, length-append l.done (head.member ∷ []), length-append with_head head.behind),
                subst (λ (gs : List Poly). most < 1 + branch_size (put_heads q p gs c)) (sym first_more) none,
                subst (λ (gs : List Poly). Alone p most (put_heads q p gs c) u) (sym first_done) (becomes.otherwise z),
              );
            })
          where
            first_done : take (length l.done) (with_head ++ head.behind) ≡ l.done
            first_done =
                ap (λ (gs : List Poly). take (length l.done) gs) (append_assoc l.done (head.member ∷ []) head.behind)
                ∙ take-append_seam l.done (head.member ∷ head.behind)

            first_more : take (suc (length l.done)) (with_head ++ head.behind) ≡ with_head
            first_more =
                let one_more : suc (length l.done) ≡ length with_head = omega (arith, length-append l.done (head.member ∷ [])) in
                ap (λ (k : ℕ). take k (with_head ++ head.behind)) one_more ∙ take-append_seam with_head head.behind

        pub put_next : IsOk r → PutLeft w p n q most fs c (word w i 3) u
        unfolding head
        put_next z = record { chain = chain_on l.chain more; done = with_head; parts = with_head_parts; alone = becomes.alone z }
