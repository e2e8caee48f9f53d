-- The text of an answer, and of the list in the output, is that of the elimination; the other buffers are as `Responded` says.
use mathlib.Core.Path.{◌≡◌, refl, sym, ◌∙◌, ap, ap₂, subst}
use mathlib.Core.Bool.{Bool, true, false, not, ◌||◌}
use mathlib.Core.List.{List, [], ◌∷◌, ◌++◌}
use Prim.Native.Nat.{ℕ, zero, suc, ◌+◌, ◌*◌, ◌%◌, ◌≤◌, ◌<◌}
use native.Mathlib.Omega.{arith}
use borrow.Author.Tests.{lt-ltb, le-ltb, eq-eqb, ne_eqb}
use lib.Dec.{eqb, ltb}
use lib.ListN.{length, take, drop, length-drop}
use lib.Seq.{take-append-le, drop-append-le}
use Rattle.tables.specs.Read.{System, Listing}
use Rattle.rules.specs.Written.{list_records}
use Rattle.rules.specs.Eliminate.{Eliminated, listed, turned_back, eliminated, output_after}
use Rattle.rules.proofs.laws.Lengths.{length_list}
use Rattle.rules.proofs.laws.WrittenAgain.{listed_delivered}
use Rattle.run.specs.declared.Answer.{Answer}
use Rattle.delivery.specs.Answer.{answer_of}
use Rattle.extent.specs.Extent.{extent}
use Rattle.extent.proofs.laws.Extent.{extent_of_list}
use Rattle.decoding.specs.Words.{words_of}
use Rattle.lines.specs.Written.{Written, Adds}
use Rattle.lines.specs.Text.{line_text}
use Rattle.responses.specs.Said.{records_text, said_of, said}
use Rattle.responses.specs.Response.{answer_text, too_long_or_broken, response}

-- The lines of the first records say nothing of what follows.
records_alone : (w rest : List ℕ) (i n : ℕ) → 4 * (i + n) ≤ length w → records_text (w ++ rest) i n ≡ records_text w i n
unfolding records_text
records_alone w rest i zero h = refl
records_alone w rest i (suc n) h =
    ap₂ (λ (x y : List ℕ). line_text x ++ y)
    (ap (take 4) (drop-append-le (4 * i) w rest (omega arith)) ∙ take-append-le 4 (drop (4 * i) w) rest (omega (arith, length-drop (4 * i) w)))
    (records_alone w rest (suc i) n (omega arith))

module _ (w : List ℕ) (work output limit : ℕ) (out : List ℕ) where
  listed_said : (n : ℕ) (ss : List System) (words : List ℕ) → eliminated w work output limit ≡ listed n ss words
      → said (answer_of (listed n ss words)) (output_after (listed n ss words) out) ≡ answer_text (listed n ss words)
  unfolding said_of answer_text
  listed_said n ss words e =
      let d = listed_delivered w work output limit n ss words e in
      let rest = drop (length words) out in
      let l : Listing = record { modulus = d.input.modulus; variables = d.input.variables; systems = ss } in
      let k : extent (words ++ rest) ≡ list_records ss = ap (λ (x : List ℕ). extent (x ++ rest)) d.written ∙ extent_of_list l rest in
      ap (λ (x : List ℕ). line_text (0 ∷ n ∷ length ss ∷ []) ++ x)
      (ap (records_text (words ++ rest) 0) k ∙ records_alone words rest 0 (list_records ss) (omega (arith, ap length d.written, length_list l)))

  said_of_elimination : (e : Eliminated) → eliminated w work output limit ≡ e → said (answer_of e) (output_after e out) ≡ answer_text e
  unfolding said_of answer_text
  said_of_elimination (listed n ss words) q = listed_said n ss words q
  said_of_elimination (turned_back n why at) q = refl

-- ── the three ways ──
module _ (bytes : List ℕ) where
  pub too_long : 65536 < length bytes → too_long_or_broken bytes ≡ true
  too_long h = ap (λ (a : Bool). a || not (eqb (length bytes % 4) 0)) (lt-ltb 65536 (length bytes) h)

  -- A broken last word is refused at any length.
  pub broken : (length bytes % 4 ≡ 0 → ⊥) → too_long_or_broken bytes ≡ true
  broken n = go (ltb 65536 (length bytes))
    where
      go : (a : Bool) → a || not (eqb (length bytes % 4) 0) ≡ true
      go true = refl
      go false = ap not (ne_eqb (length bytes % 4) 0 n)

  pub whole_words : length bytes ≤ 65536 → length bytes % 4 ≡ 0 → too_long_or_broken bytes ≡ false
  whole_words h z = ap₂ (λ (a b : Bool). a || not b) (le-ltb 65536 (length bytes) h) (eq-eqb (length bytes % 4) 0 z)

  -- ── the text ──
  by_test : {a : Bool} → too_long_or_broken bytes ≡ a
      → response bytes ≡ elim a [ true ↦ line_text (1 ∷ 0 ∷ 0 ∷ []) | false ↦ answer_text (eliminated (words_of bytes) 16384 16384 100000) ]
  unfolding response
  by_test p = ap (λ (a : Bool). elim a as (λ c. List ℕ) [ true ↦ line_text (1 ∷ 0 ∷ 0 ∷ []) | false ↦ answer_text (eliminated (words_of bytes) 16384 16384 100000) ]) p

  pub refused : {t t' : Written} → too_long_or_broken bytes ≡ true → Adds (line_text (1 ∷ 0 ∷ 0 ∷ [])) t t' → Adds (response bytes) t t'
  refused p a = rw (by_test p) a

  pub answered : {t t' : Written} {a : Answer} {out : List ℕ} (w out₀ : List ℕ) (work output : ℕ) → too_long_or_broken bytes ≡ false → w ≡ words_of bytes → work ≡ 16384 → output ≡ 16384
      → a ≡ answer_of (eliminated w work output 100000) → out ≡ output_after (eliminated w work output 100000) out₀ → Adds (said a out) t t' → Adds (response bytes) t t'
  answered {t} {t'} {a} {out} w out₀ work output p ew ek eo ea eout put =
      let x = eliminated w work output 100000 in
      subst (λ (s : List ℕ). Adds s t t')
      (ap₂ (λ (a : Answer) (o : List ℕ). said a o) ea eout
      ∙ said_of_elimination w work output 100000 out₀ x refl
      ∙ ap (λ (v : List ℕ). answer_text (eliminated v work output 100000)) ew
      ∙ ap₂ (λ (m n : ℕ). answer_text (eliminated (words_of bytes) m n 100000)) ek eo
      ∙ sym (by_test p))
      put
