-- Words of bytes that are put one after another.
use Rattle.std.proofs.Common.{◌≡◌, refl, List, [], ◌∷◌, ◌++◌, ℕ, zero, suc, ◌+◌, ◌*◌, ◌<◌, add-one, arith, length, take}
use Rattle.std.proofs.Math.ListN.{set}
use Rattle.std.proofs.Math.Seq.{take-suc-set}
use Rattle.decoding.specs.Words.{word_at, words_from}

words_from-suc : (b : List ℕ) (i k : ℕ) → words_from b i (suc k) ≡ words_from b i k ++ (word_at b (4 * (i + k)) ∷ [])
unfolding words_from
words_from-suc b i zero = let e : i + 0 ≡ i = omega arith in rw e refl
words_from-suc b i (suc k) =
    let e : suc i + k ≡ i + suc k = omega arith in
    rw (words_from-suc b (suc i) k, e) refl

-- One word more is put behind the others.
pub words_from-put : (b : List ℕ) (k : ℕ) (xs : List ℕ) (x : ℕ) → k < length xs → x ≡ word_at b (4 * k) → take k xs ≡ words_from b 0 k
    → take (k + 1) (set xs k x) ≡ words_from b 0 (k + 1)
words_from-put b k xs x h e d =
    let z : 0 + k ≡ k = omega arith in
    rw (add-one, take-suc-set xs k x h, words_from-suc, z, d, e) refl
